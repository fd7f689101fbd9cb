-- A table of numbers that can be kept stays one.
use Rattle.std.proofs.Common.{◌≡◌, ◌∙◌, ◌<◌, ℕ, zero, suc, Bool, List, [], ◌∷◌, ◌++◌, length, map, filter}
use Rattle.std.proofs.Common.{refl, sym, ap, subst, arith, length-append, Ok}
use Rattle.std.proofs.Common.{inl, inr}
use Rattle.std.specs.List.{All}
use Rattle.std.proofs.lemmas.Bool.{cases_Bool}
use Rattle.std.proofs.lemmas.List.{length-map}
use Rattle.std.proofs.lemmas.List.Elements.{All-append, All-cons, All-filter, All-head, All-nil, All-tail}
use Rattle.toml.specs.Parse.{parse_document}
use Rattle.protocol.specs.Packet.{numbers}
use Rattle.protocol.specs.Catalog.{Config, Entry, Station, has_codes}
use Rattle.catalog.specs.Numbers.{Numbered, config_by, entry_by, first_by, numbered}
use Rattle.number_file.specs.Keeping.{AreKeepable, IsKeepable}
use Rattle.number_file.specs.Reading.{numbers_read}
use Rattle.number_file.specs.Tables.{with_next}
use Rattle.number_file.specs.Text.{text_of}
use Rattle.number_file.proofs.ComeBackLemmas.{numbers-back}

-- kept numbers behind others
pub kept-append : (first others : List Numbered) → AreKeepable first → All IsKeepable others → AreKeepable (first ++ others)
kept-append first others h all =
    (omega (arith, h.0, length-append first others), All-append IsKeepable first others h.1 all)

pub kept-filter : (p : Numbered → Bool) (first kept table : List Numbered) → AreKeepable first → All IsKeepable kept
    → table ≡ first ++ filter p kept → AreKeepable table
kept-filter p first kept table h all is =
    subst AreKeepable (sym is) (kept-append first (filter p kept) h (All-filter p IsKeepable kept all))

-- another number of a station
length-with_next : (ns : List Numbered) (place next : ℕ) → length (with_next ns place next) ≡ length ns
length-with_next [] place next = refl
length-with_next (n ∷ ns) zero next = refl
length-with_next (n ∷ ns) (suc place) next = omega (arith, length-with_next ns place next)

all-with_next : (ns : List Numbered) (place next : ℕ) → next < numbers → All IsKeepable ns
    → All IsKeepable (with_next ns place next)
all-with_next [] place next below all = All-nil IsKeepable
all-with_next (n ∷ ns) zero next below all =
    let head = All-head IsKeepable n ns all in
    All-cons IsKeepable (record n { next = next }) ns (record { network = head.network; code = head.code; below = below })
    (All-tail IsKeepable n ns all)
all-with_next (n ∷ ns) (suc place) next below all =
    All-cons IsKeepable n (with_next ns place next) (All-head IsKeepable n ns all)
    (all-with_next ns place next below (All-tail IsKeepable n ns all))

pub kept-with_next : (ns after : List Numbered) (place next : ℕ) → next < numbers → AreKeepable ns
    → after ≡ with_next ns place next → AreKeepable after
kept-with_next ns after place next below h is =
    subst AreKeepable (sym is) (omega (arith, h.0, length-with_next ns place next), all-with_next ns place next below h.1)

-- the text of a table is read as it
pub table-back : (text before : List ℕ) (slice inside view : List Numbered) → AreKeepable inside → before ≡ []
    → slice ≡ inside → inside ≡ view → text ≡ before ++ text_of slice → numbers_read (parse_document text) ≡ Ok view
table-back text before slice inside view h empty same is written =
    let text_is : text ≡ text_of inside =
    written ∙ ap (λ b. b ++ text_of slice) empty ∙ ap text_of same in
    rw text_is (numbers-back inside h.1 h.0 ∙ ap Ok is)

-- a station that begins with a kept number
begun-first : (kept : List Numbered) (s : Station) → All IsKeepable kept → s.first < numbers → first_by kept s < numbers
begun-first [] s all low = low
begun-first (n ∷ ns) s all low =
    elim (cases_Bool (has_codes n.network n.code s)) [
      | inl here ↦ rw here (All-head IsKeepable n ns all).below
      | inr other ↦ rw other (begun-first ns s (All-tail IsKeepable n ns all) low)
    ]

begun-all : (kept : List Numbered) (entries : List Entry) → All IsKeepable kept → All IsKeepable (map numbered entries)
    → All IsKeepable (map numbered (map (entry_by kept) entries))
begun-all kept [] all h = All-nil IsKeepable
begun-all kept (e ∷ es) all h =
    let own = All-head IsKeepable (numbered e) (map numbered es) h in
    All-cons IsKeepable (numbered (entry_by kept e)) (map numbered (map (entry_by kept) es)) (record {
      network = own.network;
      code = own.code;
      below = begun-first kept e.station all own.below;
    }) (begun-all kept es all (All-tail IsKeepable (numbered e) (map numbered es) h))

pub kept-begun : (kept : List Numbered) (config begun : Config) → All IsKeepable kept
    → AreKeepable (map numbered config.entries) → begun ≡ config_by kept config → AreKeepable (map numbered begun.entries)
kept-begun kept config begun all h is =
    let count : length (map numbered (map (entry_by kept) config.entries)) ≡ length (map numbered config.entries) =
    simp length-map in
    subst (λ (config : Config). AreKeepable (map numbered config.entries)) (sym is)
    (omega (arith, h.0), begun-all kept config.entries all h.1)
