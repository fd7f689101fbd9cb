-- What is found in the spans of a head is what is in its fields.
use Rattle.std.proofs.Common.{◌≡◌, ℕ, List, [], ◌∷◌, ap, map, refl}
use Rattle.httparse.specs.declared.spans.HeaderSpan.{HeaderSpan}
use Rattle.httparse.specs.Grammar.{Field, field_value}
use Rattle.httparse.specs.Spans.{header_bytes, name_and_value, span_bytes}
use Rattle.status_page.specs.Hosts.{any_foreign, foreign_in}

-- Spans of the names and the values of fields find what the fields do.
pub same_foreign : (host : List ℕ) (bytes : List ℕ) (spans : List HeaderSpan) (fields : List Field)
    → map (header_bytes bytes) spans ≡ map name_and_value fields
    → foreign_in host bytes spans ≡ any_foreign host fields
same_foreign host bytes [] [] same = refl
same_foreign host bytes [] (f ∷ fields) same = absurd cc
same_foreign host bytes (s ∷ spans) [] same = absurd cc
same_foreign host bytes (s ∷ spans) (f ∷ fields) same =
    let both : header_bytes bytes s ≡ name_and_value f = cc in
    let name : span_bytes bytes s.name ≡ f.name = ap (λ (p : List ℕ × List ℕ). p.0) both in
    let value : span_bytes bytes s.value ≡ field_value f = ap (λ (p : List ℕ × List ℕ). p.1) both in
    let rest : map (header_bytes bytes) spans ≡ map name_and_value fields = cc in
    rw (name, value, same_foreign host bytes spans fields rest)
