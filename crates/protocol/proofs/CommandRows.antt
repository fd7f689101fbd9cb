-- The table of commands, row by row.
use Rattle.std.proofs.Common.{◌≡◌, ◌≤◌, ◌<◌, ℕ, true, false, length, nat_le, arith, List, [], ◌∷◌, Option, Some, None}
use Rattle.std.proofs.Common.{ℤ, refl, sym, ap, ◌∙◌, subst, inl, inr}
use Rattle.std.specs.Prelude.{◌↔◌, ◌⊎◌, codes}
use Rattle.std.proofs.lemmas.Bool.Decides.{leb_tells}
use Rattle.std.specs.Str.{bytes_eq}
use Rattle.std.proofs.lemmas.Slice.Eq.{bytes_eq-Decides}
use Rattle.protocol.specs.Time.{time_of}
use Rattle.protocol.specs.Packet.{number_of}
use Rattle.protocol.specs.Lines.{Line}
use Rattle.protocol.specs.Lines.Line.{Text, TooLong}
use Rattle.protocol.specs.Reading.{Not}
use Rattle.protocol.specs.Command.{Command, words, uppercased, with_begin, with_number, numbered, window, since, timed}
use Rattle.protocol.specs.Command.{alone, station_command, select_command, named, command_of_words, command_of, IsNamed}
use Rattle.protocol.specs.Command.{IsRow, AsksFor, Asks}
use Rattle.protocol.specs.Command.Command.{Hello, Cat, Bye, End, Data, Fetch, Bad}
use Rattle.protocol.specs.Command.IsRow.{blank, hello, cat, bye, end, station, station_and_network, select}
use Rattle.protocol.specs.Command.IsRow.{select_pattern, data_, data_number, data_begin, fetch, fetch_number}
use Rattle.protocol.specs.Command.IsRow.{fetch_begin, time, time_begin, time_window}
use Rattle.protocol.proofs.FoundLemmas.{both}
use Rattle.protocol.proofs.Words.{words_law}

-- ---- the words of a row are read as its command
row_read : (ws : List (List ℕ)) (c : Command) → IsRow ws c → command_of_words ws ≡ c
row_read _ _ blank = refl
row_read _ _ (hello w e) = rw e
row_read _ _ (cat w e) = rw e
row_read _ _ (bye w e) = rw e
row_read _ _ (end w e) = rw e
row_read _ _ (station w code e) = rw e
row_read _ _ (station_and_network w code network e) = rw e
row_read _ _ (select w e) = rw e
row_read _ _ (select_pattern w pattern e) = rw e
row_read _ _ (data_ w e) = rw e
row_read _ _ (data_number w number n e is) = rw (e, is)
row_read _ _ (data_begin w number begin n b e is starts) = rw (e, is, starts)
row_read _ _ (fetch w e) = rw e
row_read _ _ (fetch_number w number n e is) = rw (e, is)
row_read _ _ (fetch_begin w number begin n b e is starts) = rw (e, is, starts)
row_read _ _ (time w e) = rw e
row_read _ _ (time_begin w begin b e starts) = rw (e, starts)
row_read _ _ (time_window w begin last b l e starts ends) = rw (e, starts, ends)

-- ---- and words that are read as a command have its row, or are Bad
abbrev HasRow : List (List ℕ) → Command → Type 0
HasRow ws c = IsRow ws c ⊎ (c ≡ Bad)

alone_row : (w : List ℕ) (c : Command) → IsRow (w ∷ []) c → (ws : List (List ℕ)) → HasRow (w ∷ ws) (alone c ws)
alone_row w c row [] = inl row
alone_row w c row (x ∷ ws) = inr refl

station_row : (w : List ℕ) → IsNamed (codes "STATION") w → (ws : List (List ℕ)) → HasRow (w ∷ ws) (station_command ws)
station_row w e [] = inr refl
station_row w e (code ∷ []) = inl (station w code e)
station_row w e (code ∷ network ∷ []) = inl (station_and_network w code network e)
station_row w e (code ∷ network ∷ x ∷ ws) = inr refl

select_row : (w : List ℕ) → IsNamed (codes "SELECT") w → (ws : List (List ℕ)) → HasRow (w ∷ ws) (select_command ws)
select_row w e [] = inl (select w e)
select_row w e (pattern ∷ []) = inl (select_pattern w pattern e)
select_row w e (pattern ∷ x ∷ ws) = inr refl

-- DATA and FETCH: a row without a number, one with, and one with a begin too
module _ (w : List ℕ) (make : Option ℕ → Option ℤ → Command)
    (none : IsRow (w ∷ []) (make None None))
    (one : (number : List ℕ) (n : ℕ) → number_of number ≡ Some n → IsRow (w ∷ number ∷ []) (make (Some n) None))
    (two : (number begin : List ℕ) (n : ℕ) (b : ℤ) → number_of number ≡ Some n → time_of begin ≡ Some b
    → IsRow (w ∷ number ∷ begin ∷ []) (make (Some n) (Some b))) where
  number_row : (number : List ℕ) (o : Option ℕ) → number_of number ≡ o → HasRow (w ∷ number ∷ []) (with_number make o)
  number_row number (Some n) e = inl (one number n e)
  number_row number None e = inr refl

  begin_row : (number begin : List ℕ) (o : Option ℕ) (t : Option ℤ) → number_of number ≡ o → time_of begin ≡ t
      → HasRow (w ∷ number ∷ begin ∷ []) (with_begin make o t)
  begin_row number begin (Some n) (Some b) e f = inl (two number begin n b e f)
  begin_row number begin (Some n) None e f = inr refl
  begin_row number begin None t e f = inr refl

  numbered_row : (ws : List (List ℕ)) → HasRow (w ∷ ws) (numbered make ws)
  numbered_row [] = inl none
  numbered_row (number ∷ []) = number_row number (number_of number) refl
  numbered_row (number ∷ begin ∷ []) = begin_row number begin (number_of number) (time_of begin) refl refl
  numbered_row (number ∷ begin ∷ x ∷ ws) = inr refl

since_row : (w begin : List ℕ) (t : Option ℤ) → IsNamed (codes "TIME") w → time_of begin ≡ t
    → HasRow (w ∷ begin ∷ []) (since t)
since_row w begin (Some b) e f = inl (time_begin w begin b e f)
since_row w begin None e f = inr refl

window_row : (w begin last : List ℕ) (t u : Option ℤ) → IsNamed (codes "TIME") w → time_of begin ≡ t → time_of last ≡ u
    → HasRow (w ∷ begin ∷ last ∷ []) (window t u)
window_row w begin last (Some b) (Some l) e f g = inl (time_window w begin last b l e f g)
window_row w begin last (Some b) None e f g = inr refl
window_row w begin last None u e f g = inr refl

timed_row : (w : List ℕ) → IsNamed (codes "TIME") w → (ws : List (List ℕ)) → HasRow (w ∷ ws) (timed ws)
timed_row w e [] = inl (time w e)
timed_row w e (begin ∷ []) = since_row w begin (time_of begin) e refl
timed_row w e (begin ∷ last ∷ []) = window_row w begin last (time_of begin) (time_of last) e refl refl
timed_row w e (begin ∷ last ∷ x ∷ ws) = inr refl

is_name : (name text : List ℕ) → bytes_eq name text ≡ true → name ≡ text
is_name name text e = (bytes_eq-Decides name text).0 e

named_row : (w : List ℕ) (ws : List (List ℕ)) → HasRow (w ∷ ws) (named (uppercased w) ws)
named_row w ws =
    both (bytes_eq (uppercased w) (codes "HELLO")) (λ y. rw y (alone_row w Hello (hello w (is_name _ _ y)) ws))
    (λ n1. rw n1
    (both (bytes_eq (uppercased w) (codes "CAT")) (λ y. rw y (alone_row w Cat (cat w (is_name _ _ y)) ws)) (λ n2. rw n2
    (both (bytes_eq (uppercased w) (codes "BYE")) (λ y. rw y (alone_row w Bye (bye w (is_name _ _ y)) ws)) (λ n3. rw n3
    (both (bytes_eq (uppercased w) (codes "END")) (λ y. rw y (alone_row w End (end w (is_name _ _ y)) ws)) (λ n4. rw n4
    (both (bytes_eq (uppercased w) (codes "STATION")) (λ y. rw y (station_row w (is_name _ _ y) ws)) (λ n5. rw n5
    (both (bytes_eq (uppercased w) (codes "SELECT")) (λ y. rw y (select_row w (is_name _ _ y) ws)) (λ n6. rw n6
    (both (bytes_eq (uppercased w) (codes "DATA"))
    (λ y. let e = is_name (uppercased w) (codes "DATA") y in rw y
    (numbered_row w Data (data_ w e) (λ number n is. data_number w number n e is)
    (λ number begin n b is starts. data_begin w number begin n b e is starts) ws)) (λ n7. rw n7
    (both (bytes_eq (uppercased w) (codes "FETCH"))
    (λ y. let e = is_name (uppercased w) (codes "FETCH") y in rw y
    (numbered_row w Fetch (fetch w e) (λ number n is. fetch_number w number n e is)
    (λ number begin n b is starts. fetch_begin w number begin n b e is starts) ws)) (λ n8. rw n8
    (both (bytes_eq (uppercased w) (codes "TIME")) (λ y. rw y (timed_row w (is_name _ _ y) ws))
    (λ n9. rw n9 (inr refl))))))))))))))))))

read_row : (ws : List (List ℕ)) → HasRow ws (command_of_words ws)
read_row [] = inl blank
read_row (w ∷ ws) = named_row w ws

-- ---- no row is Bad
row_not_bad : (ws : List (List ℕ)) (c : Command) → IsRow ws c → c ≡ Bad → ⊥
row_not_bad _ _ blank e = cc
row_not_bad _ _ (hello w _) e = cc
row_not_bad _ _ (cat w _) e = cc
row_not_bad _ _ (bye w _) e = cc
row_not_bad _ _ (end w _) e = cc
row_not_bad _ _ (station w code _) e = cc
row_not_bad _ _ (station_and_network w code network _) e = cc
row_not_bad _ _ (select w _) e = cc
row_not_bad _ _ (select_pattern w pattern _) e = cc
row_not_bad _ _ (data_ w _) e = cc
row_not_bad _ _ (data_number w number n _ _) e = cc
row_not_bad _ _ (data_begin w number begin n b _ _ _) e = cc
row_not_bad _ _ (fetch w _) e = cc
row_not_bad _ _ (fetch_number w number n _ _) e = cc
row_not_bad _ _ (fetch_begin w number begin n b _ _ _) e = cc
row_not_bad _ _ (time w _) e = cc
row_not_bad _ _ (time_begin w begin b _ _) e = cc
row_not_bad _ _ (time_window w begin last b l _ _ _) e = cc

bad_has_no_row : (ws : List (List ℕ)) → command_of_words ws ≡ Bad → (d : Command) → Not (IsRow ws d)
bad_has_no_row ws bad d row = row_not_bad ws d row (sym (row_read ws d row) ∙ bad)

-- ---- the two laws
asks : (ws : List (List ℕ)) (c : Command) → command_of_words ws ≡ c → HasRow ws (command_of_words ws) → AsksFor ws c
asks ws c e (inl row) = inl (subst (λ d. IsRow ws d) e row)
asks ws c e (inr bad) = inr (bad_has_no_row ws bad, sym e ∙ bad)

is_asked : (ws : List (List ℕ)) (c : Command) → AsksFor ws c → HasRow ws (command_of_words ws) → command_of_words ws ≡ c
is_asked ws c (inl row) has = row_read ws c row
is_asked ws c (inr (none, bad)) (inl row) = absurd (none (command_of_words ws) row)
is_asked ws c (inr (none, bad)) (inr is_bad) = is_bad ∙ sym bad

pub table_law : (ws : List (List ℕ)) (c : Command) → (command_of_words ws ≡ c) ↔ AsksFor ws c
table_law ws c = (λ e. asks ws c e (read_row ws), λ h. is_asked ws c h (read_row ws))

-- a line of at most 256 bytes
short_law : (bytes : List ℕ) (c : Command) → length bytes ≤ 256 → nat_le (length bytes) 256 ≡ true →
    (command_of (Text bytes) ≡ c) ↔ Asks (Text bytes) c
short_law bytes c fits holds = (
  λ e. inl (fits, (words bytes, (words_law bytes (words bytes)).0 refl, (table_law (words bytes) c).0 (sym asked ∙ e))),
  λ h. elim h [
    | inl (_, (ws, has, asks_for)) ↦ asked ∙ ap command_of_words ((words_law bytes ws).1 has)
        ∙ (table_law ws c).1 asks_for
    | inr (more, _) ↦ absurd (omega (arith, fits, more))
  ],
)
  where
    asked : command_of (Text bytes) ≡ command_of_words (words bytes)
    asked = rw holds refl

-- a longer one
long_law : (bytes : List ℕ) (c : Command) → 256 < length bytes → nat_le (length bytes) 256 ≡ false →
    (command_of (Text bytes) ≡ c) ↔ Asks (Text bytes) c
long_law bytes c more fails = (
  λ e. inr (more, sym e ∙ asked),
  λ h. elim h [
    | inl (fits, _) ↦ absurd (omega (arith, fits, more))
    | inr (_, bad) ↦ asked ∙ sym bad
  ],
)
  where
    asked : command_of (Text bytes) ≡ Bad
    asked = rw fails refl

pub command_law : (line : Line) (c : Command) → (command_of line ≡ c) ↔ Asks line c
command_law (Text bytes) c = elim (leb_tells (length bytes) 256) [
  | inl (holds, fits) ↦ short_law bytes c fits holds
  | inr (fails, more) ↦ long_law bytes c more fails
]
command_law TooLong c = (λ e. sym e, λ e. sym e)
