-- What is found in the spans of a head is what is in its fields.
use Rattle.std.proofs.Common.{◌≡◌, ℕ, List, [], ◌∷◌, ap, map, refl}
use Rattle.httparse.specs.declared.spans.HeaderSpan.{HeaderSpan}
use Rattle.httparse.specs.Grammar.{Field, field_value}
use Rattle.httparse.specs.Spans.{header_bytes, name_and_value, span_bytes}
use Rattle.job_status.specs.Answers.{any_length, length_in}

-- Spans of the names and the values of fields find what the fields do.
pub same_length : (size : ℕ) (bytes : List ℕ) (spans : List HeaderSpan) (fields : List Field)
    → map (header_bytes bytes) spans ≡ map name_and_value fields
    → length_in size bytes spans ≡ any_length size fields
same_length size bytes [] [] same = refl
same_length size bytes [] (f ∷ fields) same = absurd cc
same_length size bytes (s ∷ spans) [] same = absurd cc
same_length size bytes (s ∷ spans) (f ∷ fields) same =
    let both : header_bytes bytes s ≡ name_and_value f = cc in
    let name : span_bytes bytes s.name ≡ f.name = ap (λ (p : List ℕ × List ℕ). p.0) both in
    let value : span_bytes bytes s.value ≡ field_value f = ap (λ (p : List ℕ × List ℕ). p.1) both in
    let rest : map (header_bytes bytes) spans ≡ map name_and_value fields = cc in
    rw (name, value, same_length size bytes spans fields rest)
