-- The text of numbers is read as them.
use Rattle.std.proofs.Common.{◌≡◌, ◌∙◌, ◌<◌, ℕ, suc, true, false, List, [], ◌∷◌, ◌++◌, length, Ok, Some, refl, arith}
use Rattle.std.proofs.Common.{append_assoc}
use Rattle.std.proofs.lemmas.Bool.{and_parts}
use Rattle.std.specs.List.{All, list_all}
use Rattle.std.specs.Prelude.{codes}
use Rattle.toml.specs.Data.{string}
use Rattle.toml.specs.Tables.{close, no_nodes, key_value}
use Rattle.toml.specs.Parse.{lines, parse_document, skip_bom}
use Rattle.toml.specs.Text.{IsLineText}
use Rattle.toml.proofs.ReadLines.{AllPrinted}
use Rattle.toml.proofs.Turns.{document_some}
use Rattle.toml_writer.specs.Text.{key_text, string_text}
use Rattle.protocol.specs.Packet.{digits}
use Rattle.catalog.specs.Numbers.{Numbered}
use Rattle.catalog.specs.Texts.{is_code, is_code_byte, is_network}
use Rattle.number_file.specs.Keeping.{IsKeepable}
use Rattle.number_file.specs.Reading.{numbers_read}
use Rattle.number_file.specs.Text.{line_of, text_of, text_of_number}
use Rattle.number_file.proofs.DocumentLemmas.{EachIsKeepable, are_keepable, lines_of, members_back, run_numbers}
use Rattle.number_file.proofs.DocumentLemmas.{whole_of}
use Rattle.number_file.proofs.LineLemmas.{AreLines, lines_read}
use Rattle.number_file.proofs.PlainTexts.{digits_bare, string_text-bare}

pair_line : (key value : List ℕ) → key_text key ≡ key → list_all is_code_byte value ≡ true
    → IsLineText false false ([], key) (key_value (string value)) (line_of key value)
pair_line key value bare_key bare =
    (string_text value, rw (bare_key, string_text-bare value bare) (simp append_assoc), refl)

network_bare : (s : List ℕ) → is_network s ≡ true → list_all is_code_byte s ≡ true
network_bare s h = (and_parts _ _ h).1

code_bare : (s : List ℕ) → is_code s ≡ true → list_all is_code_byte s ≡ true
code_bare s h = (and_parts _ _ h).1

regroup : (a b c d e : List ℕ) → (((a ++ b) ++ c) ++ d) ++ e ≡ a ++ (b ++ (c ++ (d ++ e)))
regroup a b c d e = simp append_assoc

-- the lines of a number before those of others
number_lines : (n : Numbered) (ns : List Numbered) (later : List ℕ) → IsKeepable n → AreLines (lines_of ns) later
    → AreLines (lines_of (n ∷ ns)) (text_of_number n ++ later)
unfolding key_text
number_lines n ns later h lines =
    let network = line_of (codes "network") n.network in
    let code = line_of (codes "code") n.code in
    let next = line_of (codes "next") (digits n.next) in
    let head : List ℕ = codes "[[station]]\n" in (
      head,
      network ++ (code ++ (next ++ later)),
      regroup head network code next later,
      refl,
      (
        network,
        code ++ (next ++ later),
        refl,
        pair_line (codes "network") n.network refl (network_bare n.network h.network),
        (
          code,
          next ++ later,
          refl,
          pair_line (codes "code") n.code refl (code_bare n.code h.code),
          (next, later, refl, pair_line (codes "next") (digits n.next) refl (digits_bare n.next), lines),
        ),
      ),
    )

all_lines : (ns : List Numbered) → EachIsKeepable ns → AreLines (lines_of ns) (text_of ns)
all_lines [] h = refl
all_lines (n ∷ ns) h = number_lines n ns (text_of ns) h.0 (all_lines ns h.1)

all_printed : (ns : List Numbered) → AllPrinted (lines_of ns)
all_printed [] = tt
all_printed (n ∷ ns) =
    (omega arith, ((refl, omega arith, refl), ((refl, omega arith, refl), ((refl, omega arith, refl), all_printed ns))))

no_mark : (n : Numbered) (later : List ℕ) → skip_bom (text_of_number n ++ later) ≡ text_of_number n ++ later
unfolding skip_bom
no_mark n later = refl

pub numbers-back : (ns : List Numbered) → All IsKeepable ns → 0 < length ns
    → numbers_read (parse_document (text_of ns)) ≡ Ok ns
numbers-back [] all some = absurd (omega arith)
numbers-back (n ∷ ns) all some =
    let h = are_keepable (n ∷ ns) all in
    let text = text_of (n ∷ ns) in
    let doc = whole_of n ns in
    let read : lines (suc (length text)) (no_nodes, []) text ≡ Some doc =
    lines_read (lines_of (n ∷ ns)) text text (no_nodes, []) (suc (length text)) (all_lines (n ∷ ns) h)
    (all_printed (n ∷ ns)) refl (omega arith)
    ∙ run_numbers n ns in
    let parsed : parse_document text ≡ Some (close doc.0) =
    document_some text doc (rw (no_mark n (text_of ns)) read) in
    rw parsed (members_back n ns h)
