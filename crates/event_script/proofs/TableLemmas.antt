-- What is read of a line is what the table of lines says.
use Rattle.std.proofs.Common.{◌≡◌, ℕ, true, List, ◌∷◌, ◌++◌, Option, Some, None, refl, sym, ap, ◌∙◌, subst, codes}
use Rattle.std.proofs.Common.{option_map}
use Rattle.std.specs.Prelude.{option_and_then}
use Rattle.std.specs.Str.{bytes_eq}
use Rattle.std.proofs.lemmas.Slice.Eq.{bytes_eq-Decides}
use Rattle.protocol.specs.World.{Event}
use Rattle.protocol.specs.World.Event.{Open, Bytes, Take, Close, Arrive, Reload}
use Rattle.protocol.proofs.FoundLemmas.{both}
use Rattle.access_list.specs.Addresses.{address_of}
use Rattle.event_script.specs.Rows.{IsLine, ReadsByTheTable, arrive_text}
use Rattle.event_script.specs.Rows.IsLine.{open_line, bytes_line, text_line, take_line, close_line, arrive_line}
use Rattle.event_script.specs.Rows.IsLine.{arrive_hex_line, reload_line}
use Rattle.event_script.specs.Script.{Addressed, addressed_by, addressed_in, addressed_of, bytes_in, count_of, cut_of}
use Rattle.event_script.specs.Script.{decimal_of, event_in, event_of, hex_config_of, hex_of, hex_record_of, line_in}
use Rattle.event_script.specs.Script.{named_event, record_of, take_in}
use Rattle.event_script.proofs.ArriveRows.{hex-made, hex-whole, record-made, record-whole}
use Rattle.event_script.proofs.OptionSteps.{and_then_some, map_some}
use Rattle.event_script.proofs.ReloadRows.{hex_config-made, hex_config-whole}
use Rattle.event_script.proofs.SpaceLemmas.{cut-made, cut-whole, number-has_no_space}

-- ---- a client's number in front

by_some : (rest : List ℕ) (o : Option ℕ) (x : Addressed) → addressed_by rest o ≡ Some x
    → (o ≡ Some x.client) × (rest ≡ x.rest)
by_some rest None x e = absurd cc
by_some rest (Some c) x e =
    let same : record { client = c; rest = rest } ≡ x = cc in
    (ap (λ (y : Addressed). Some y.client) same, ap (λ (y : Addressed). y.rest) same)

-- a text that begins with a client's number and a space
addressed-is : (text : List ℕ) (x : Addressed) → addressed_of text ≡ Some x
    → (client : List ℕ) × (decimal_of client ≡ Some x.client) × (text ≡ client ++ 32 ∷ x.rest)
addressed-is text x e =
    let cut = and_then_some addressed_in (cut_of text) x e in
    let by = by_some cut.0.rest (decimal_of cut.0.front) x cut.2 in
    (cut.0.front, by.0, cut-whole text cut.0 cut.1 ∙ ap (λ r. cut.0.front ++ 32 ∷ r) by.1)

addressed-made : (client rest : List ℕ) (c : ℕ) → decimal_of client ≡ Some c
    → addressed_of (client ++ 32 ∷ rest) ≡ Some (record { client = c; rest = rest })
addressed-made client rest c h =
    ap (option_and_then addressed_in) (cut-made client rest (number-has_no_space client c h)) ∙ ap (addressed_by rest) h

-- ---- a line of the table is read as its event

line-read : (line : List ℕ) (e : Event) → IsLine line e → event_of line ≡ Some e
line-read _ _ (open_line address a h) =
    ap (option_and_then event_in) (cut-made (codes "open") address refl) ∙ ap (option_map Open) h
line-read _ _ (bytes_line client digits bytes c h k) =
    ap (option_and_then event_in) (cut-made (codes "bytes") (client ++ 32 ∷ digits) refl)
    ∙ ap (option_and_then bytes_in) (addressed-made client digits c h) ∙ ap (option_map (Bytes c)) k
line-read _ _ (text_line client text c h) =
    ap (option_and_then event_in) (cut-made (codes "line") (client ++ 32 ∷ text) refl)
    ∙ ap (option_map line_in) (addressed-made client text c h)
line-read _ _ (take_line client digits c n h k) =
    ap (option_and_then event_in) (cut-made (codes "take") (client ++ 32 ∷ digits) refl)
    ∙ ap (option_and_then take_in) (addressed-made client digits c h) ∙ ap (option_map (Take c)) k
line-read _ _ (close_line client c h) =
    ap (option_and_then event_in) (cut-made (codes "close") client refl) ∙ ap (option_map Close) h
line-read _ _ (arrive_line w f bytes tells made) =
    ap (option_and_then event_in) (cut-made (codes "arrive") (arrive_text w) refl)
    ∙ ap (option_map Arrive) (record-made w f bytes tells made)
line-read _ _ (arrive_hex_line digits bytes h long) =
    ap (option_and_then event_in) (cut-made (codes "arrive-hex") digits refl)
    ∙ ap (option_map Arrive) (hex-made digits bytes h long)
line-read _ _ (reload_line digits text config h utf8 e) =
    ap (option_and_then event_in) (cut-made (codes "reload") digits refl)
    ∙ ap (option_map Reload) (hex_config-made digits text config h utf8 e)

-- ---- an event that is read is that of a line of the table

open-row : (rest : List ℕ) (e : Event) → option_map Open (address_of rest) ≡ Some e
    → IsLine (codes "open" ++ 32 ∷ rest) e
open-row rest e h =
    let a = map_some Open (address_of rest) e h in
    subst (λ x. IsLine (codes "open" ++ 32 ∷ rest) x) a.2 (open_line rest a.0 a.1)

bytes-row : (rest : List ℕ) (e : Event) → option_and_then bytes_in (addressed_of rest) ≡ Some e
    → IsLine (codes "bytes" ++ 32 ∷ rest) e
bytes-row rest e h =
    let x = and_then_some bytes_in (addressed_of rest) e h in
    let bs = map_some (Bytes x.0.client) (hex_of x.0.rest) e x.2 in
    let c = addressed-is rest x.0 x.1 in
    subst (λ r. IsLine (codes "bytes" ++ 32 ∷ r) e) (sym c.2)
    (subst (λ y. IsLine (codes "bytes" ++ 32 ∷ (c.0 ++ 32 ∷ x.0.rest)) y) bs.2
    (bytes_line c.0 x.0.rest bs.0 x.0.client c.1 bs.1))

text-row : (rest : List ℕ) (e : Event) → option_map line_in (addressed_of rest) ≡ Some e
    → IsLine (codes "line" ++ 32 ∷ rest) e
text-row rest e h =
    let x = map_some line_in (addressed_of rest) e h in
    let c = addressed-is rest x.0 x.1 in
    subst (λ r. IsLine (codes "line" ++ 32 ∷ r) e) (sym c.2)
    (subst (λ y. IsLine (codes "line" ++ 32 ∷ (c.0 ++ 32 ∷ x.0.rest)) y) x.2 (text_line c.0 x.0.rest x.0.client c.1))

take-row : (rest : List ℕ) (e : Event) → option_and_then take_in (addressed_of rest) ≡ Some e
    → IsLine (codes "take" ++ 32 ∷ rest) e
take-row rest e h =
    let x = and_then_some take_in (addressed_of rest) e h in
    let n = map_some (Take x.0.client) (count_of x.0.rest) e x.2 in
    let c = addressed-is rest x.0 x.1 in
    subst (λ r. IsLine (codes "take" ++ 32 ∷ r) e) (sym c.2)
    (subst (λ y. IsLine (codes "take" ++ 32 ∷ (c.0 ++ 32 ∷ x.0.rest)) y) n.2
    (take_line c.0 x.0.rest x.0.client n.0 c.1 n.1))

close-row : (rest : List ℕ) (e : Event) → option_map Close (decimal_of rest) ≡ Some e
    → IsLine (codes "close" ++ 32 ∷ rest) e
close-row rest e h =
    let c = map_some Close (decimal_of rest) e h in
    subst (λ x. IsLine (codes "close" ++ 32 ∷ rest) x) c.2 (close_line rest c.0 c.1)

arrive-row : (rest : List ℕ) (e : Event) → option_map Arrive (record_of rest) ≡ Some e
    → IsLine (codes "arrive" ++ 32 ∷ rest) e
arrive-row rest e h =
    let bytes = map_some Arrive (record_of rest) e h in
    let told = record-whole rest bytes.0 bytes.1 in
    subst (λ r. IsLine (codes "arrive" ++ 32 ∷ r) e) (sym told.text_is)
    (subst (λ x. IsLine (codes "arrive" ++ 32 ∷ arrive_text told.words) x) bytes.2
    (arrive_line told.words told.fields bytes.0 told.tells told.is_made))

hex-row : (rest : List ℕ) (e : Event) → option_map Arrive (hex_record_of rest) ≡ Some e
    → IsLine (codes "arrive-hex" ++ 32 ∷ rest) e
hex-row rest e h =
    let bytes = map_some Arrive (hex_record_of rest) e h in
    let whole = hex-whole rest bytes.0 bytes.1 in
    subst (λ x. IsLine (codes "arrive-hex" ++ 32 ∷ rest) x) bytes.2 (arrive_hex_line rest bytes.0 whole.0 whole.1)

reload-row : (rest : List ℕ) (e : Event) → option_map Reload (hex_config_of rest) ≡ Some e
    → IsLine (codes "reload" ++ 32 ∷ rest) e
reload-row rest e h =
    let config = map_some Reload (hex_config_of rest) e h in
    let whole = hex_config-whole rest config.0 config.1 in
    subst (λ x. IsLine (codes "reload" ++ 32 ∷ rest) x) config.2
    (reload_line rest whole.0 config.0 whole.1 whole.2 whole.3)

named : (name word rest : List ℕ) (e : Event) → bytes_eq name word ≡ true → IsLine (word ++ 32 ∷ rest) e
    → IsLine (name ++ 32 ∷ rest) e
named name word rest e y row = subst (λ n. IsLine (n ++ 32 ∷ rest) e) (sym ((bytes_eq-Decides name word).0 y)) row

named-row : (name rest : List ℕ) (e : Event) → named_event name rest ≡ Some e → IsLine (name ++ 32 ∷ rest) e
named-row name rest e h =
    both (bytes_eq name (codes "open"))
    (λ y. named name (codes "open") rest e y (open-row rest e (rw y at h)))
    (λ n. let h1 = rw n at h in both (bytes_eq name (codes "bytes"))
    (λ y. named name (codes "bytes") rest e y (bytes-row rest e (rw y at h1)))
    (λ n. let h2 = rw n at h1 in both (bytes_eq name (codes "line"))
    (λ y. named name (codes "line") rest e y (text-row rest e (rw y at h2)))
    (λ n. let h3 = rw n at h2 in both (bytes_eq name (codes "take"))
    (λ y. named name (codes "take") rest e y (take-row rest e (rw y at h3)))
    (λ n. let h4 = rw n at h3 in both (bytes_eq name (codes "close"))
    (λ y. named name (codes "close") rest e y (close-row rest e (rw y at h4)))
    (λ n. let h5 = rw n at h4 in both (bytes_eq name (codes "arrive"))
    (λ y. named name (codes "arrive") rest e y (arrive-row rest e (rw y at h5)))
    (λ n. let h6 = rw n at h5 in both (bytes_eq name (codes "arrive-hex"))
    (λ y. named name (codes "arrive-hex") rest e y (hex-row rest e (rw y at h6)))
    (λ n. let h7 = rw n at h6 in both (bytes_eq name (codes "reload"))
    (λ y. named name (codes "reload") rest e y (reload-row rest e (rw y at h7)))
    (λ n. let none : None ≡ Some e = rw n at h7 in absurd cc))))))))

read-line : (line : List ℕ) (e : Event) → event_of line ≡ Some e → IsLine line e
read-line line e h =
    let cut = and_then_some event_in (cut_of line) e h in
    subst (λ l. IsLine l e) (sym (cut-whole line cut.0 cut.1)) (named-row cut.0.front cut.0.rest e cut.2)

pub by_the_table : ReadsByTheTable
by_the_table = λ line e. (read-line line e, line-read line e)
