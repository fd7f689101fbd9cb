-- Records of two streams are never put into one file: the path of a file says of which stream it is.
use Rattle.std.proofs.Common.{◌≡◌, ◌≢◌, ◌∙◌, ◌+◌, ◌/◌, ◌%◌, ℕ, List, [], ◌∷◌, ◌++◌, Bool, true, false, ap, arith, refl}
use Rattle.std.proofs.Common.{append_assoc, ◌-◌, drop, length, min, not, suc, sym, take, zero}
use Rattle.std.specs.Prelude.{◌&&◌, ◌==◌, if◌then◌else◌, nat_eq, nat_lt, slice_range}
use Rattle.std.specs.List.{list_all}
use Rattle.std.proofs.lemmas.List.{append_cancel_left, append_cancel_right}
use Rattle.std.proofs.lemmas.Bool.Decides.{Decides-eqb}
use Rattle.std.proofs.lemmas.List.{length-append}
use Rattle.std.proofs.Math.Seq.{take-length}
use Rattle.std.proofs.lemmas.Slice.Eq.{starts_is}
use Rattle.std.proofs.lemmas.Bool.Decides.{nat_tests}
use Rattle.protocol.specs.Record.{Facts, trimmed}
use Rattle.protocol.specs.declared.record.Kind.{Kind}
use Rattle.protocol.specs.declared.record.Kind.TheVariants.{D, E, C, O, T, L}
use Rattle.record_check.specs.Listing.{kind_letter}
use Rattle.record_archive.specs.Apart.{AreBelowTheirStation, ArePutApart, IsSameStream, is_below, path_in}
use Rattle.record_archive.specs.Apart.{station_folders}
use Rattle.record_archive.specs.Paths.{channel_text, codes_text, file_text, folder_text, four_digits, has_place}
use Rattle.record_archive.specs.Paths.{is_name, is_name_byte, is_reserved, last_digit, three_digits, with_mark}

-- ---- texts without a slash

abbrev Lacks : List ℕ → Type 0
Lacks [] = Unit {0}
Lacks (b ∷ bs) = (b ≢ 47) × Lacks bs

lacks-append : (a b : List ℕ) → Lacks a → Lacks b → Lacks (a ++ b)
lacks-append [] b p q = q
lacks-append (x ∷ a) b p q = (p.0, lacks-append a b p.1 q)

and-left : (a b : Bool) → (a && b) ≡ true → a ≡ true
and-left true b e = refl
and-left false b e = absurd cc

and-right : (a b : Bool) → (a && b) ≡ true → b ≡ true
and-right true b e = e
and-right false b e = absurd cc

byte-lacks : (b : ℕ) → is_name_byte b ≡ true → b ≢ 47
byte-lacks b h is = grind (arith, nat_tests)

lacks-names : (bs : List ℕ) → list_all is_name_byte bs ≡ true → Lacks bs
lacks-names [] h = tt
lacks-names (b ∷ bs) h = (
  byte-lacks b (and-left (is_name_byte b) (list_all is_name_byte bs) h),
  lacks-names bs (and-right (is_name_byte b) (list_all is_name_byte bs) h),
)

lacks-name : (bs : List ℕ) → is_name bs ≡ true → Lacks bs
lacks-name bs h = lacks-names bs (and-right (not (is_reserved bs)) (list_all is_name_byte bs) h)

digit-lacks : (n : ℕ) → last_digit n ≢ 47
digit-lacks n is = omega (arith, is)

lacks-year : (year : ℕ) → Lacks (four_digits year)
lacks-year year =
    (digit-lacks (year / 1000), (digit-lacks (year / 100), (digit-lacks (year / 10), (digit-lacks year, tt))))

-- ---- kinds

letter-lacks : (k : Kind) → kind_letter k ≢ 47
letter-lacks D = λ e. omega (arith, e)
letter-lacks E = λ e. omega (arith, e)
letter-lacks C = λ e. omega (arith, e)
letter-lacks O = λ e. omega (arith, e)
letter-lacks T = λ e. omega (arith, e)
letter-lacks L = λ e. omega (arith, e)

abbrev of_letter : ℕ → Kind
of_letter n =
    if n == 68 then D else (if n == 69 then E else (if n == 67 then C else (if n == 79 then O else
    (if n == 84 then T else L))))

letter-back : (k : Kind) → of_letter (kind_letter k) ≡ k
letter-back D = refl
letter-back E = refl
letter-back C = refl
letter-back O = refl
letter-back T = refl
letter-back L = refl

letter-same : (a b : Kind) → kind_letter a ≡ kind_letter b → a ≡ b
letter-same a b e = sym (letter-back a) ∙ ap of_letter e ∙ letter-back b

-- ---- texts that are cut

head-same : (x y : ℕ) (xs ys : List ℕ) → x ∷ xs ≡ y ∷ ys → x ≡ y
head-same x y xs ys e = cc

tail-same : (x y : ℕ) (xs ys : List ℕ) → x ∷ xs ≡ y ∷ ys → xs ≡ ys
tail-same x y xs ys e = cc

cons-same : (x y : ℕ) (xs ys : List ℕ) → x ≡ y → xs ≡ ys → x ∷ xs ≡ y ∷ ys
cons-same x y xs ys p q = cc

-- at the first slash
cut : (a b x y : List ℕ) → Lacks a → Lacks b → a ++ 47 ∷ x ≡ b ++ 47 ∷ y → (a ≡ b) × (x ≡ y)
cut [] [] x y p q e = (refl, tail-same 47 47 x y e)
cut [] (b ∷ bs) x y p q e = absurd (q.0 (sym (head-same 47 b x (bs ++ 47 ∷ y) e)))
cut (a ∷ as_) [] x y p q e = absurd (p.0 (head-same a 47 (as_ ++ 47 ∷ x) y e))
cut (a ∷ as_) (b ∷ bs) x y p q e =
    let rest = cut as_ bs x y p.1 q.1 (tail-same a b (as_ ++ 47 ∷ x) (bs ++ 47 ∷ y) e) in
    (cons-same a b as_ bs (head-same a b (as_ ++ 47 ∷ x) (bs ++ 47 ∷ y) e) rest.0, rest.1)

-- before ends of one length
ends : (a b x y : List ℕ) → length x ≡ length y → a ++ x ≡ b ++ y → a ≡ b
ends [] [] x y n e = refl
ends [] (b ∷ bs) x y n e =
    let size : length (b ∷ (bs ++ y)) ≡ suc (length bs + length y) = ap suc (length-append bs y) in
    let same : length x ≡ length (b ∷ (bs ++ y)) = ap length e in absurd (omega (arith, n, size, same))
ends (a ∷ as_) [] x y n e =
    let size : length (a ∷ (as_ ++ x)) ≡ suc (length as_ + length x) = ap suc (length-append as_ x) in
    let same : length (a ∷ (as_ ++ x)) ≡ length y = ap length e in absurd (omega (arith, n, size, same))
ends (a ∷ as_) (b ∷ bs) x y n e =
    cons-same a b as_ bs (head-same a b (as_ ++ x) (bs ++ y) e)
    (ends as_ bs x y n (tail-same a b (as_ ++ x) (bs ++ y) e))

end-same : (a b x y : List ℕ) → a ≡ b → a ++ x ≡ b ++ y → x ≡ y
end-same a b x y is e = append_cancel_left a x y (e ∙ ap (λ l. l ++ y) (sym is))

-- ---- the parts of a path

folder-parts : (y n s c f : List ℕ)
    → (with_mark y 47 ++ (with_mark n 47 ++ (with_mark s 47 ++ c))) ++ 47 ∷ f
    ≡ y ++ 47 ∷ (n ++ 47 ∷ (s ++ 47 ∷ (c ++ 47 ∷ f)))
folder-parts y n s c f = simp append_assoc

file-parts : (n s l c y d : List ℕ)
    → (with_mark n 46 ++ (with_mark s 46 ++ (with_mark l 46 ++ with_mark c 46))) ++ (with_mark y 46 ++ d)
    ≡ with_mark n 46 ++ (with_mark s 46 ++ (l ++ 46 ∷ (c ++ 46 ∷ (y ++ 46 ∷ d))))
file-parts n s l c y d = simp append_assoc

-- what a path says
record Parts (y n s c f y' n' s' c' f' : List ℕ) : Type 0 where
  year : y ≡ y'
  network : n ≡ n'
  station : s ≡ s'
  channel : c ≡ c'
  file : f ≡ f'

parts : (y n s c f y' n' s' c' f' : List ℕ) → Lacks y → Lacks n → Lacks s → Lacks c → Lacks y' → Lacks n' → Lacks s'
    → Lacks c' → y ++ 47 ∷ (n ++ 47 ∷ (s ++ 47 ∷ (c ++ 47 ∷ f))) ≡ y' ++ 47 ∷ (n' ++ 47 ∷ (s' ++ 47 ∷ (c' ++ 47 ∷ f')))
    → Parts y n s c f y' n' s' c' f'
parts y n s c f y' n' s' c' f' ly ln ls lc ly' ln' ls' lc' e =
    let one = cut y y' (n ++ 47 ∷ (s ++ 47 ∷ (c ++ 47 ∷ f))) (n' ++ 47 ∷ (s' ++ 47 ∷ (c' ++ 47 ∷ f'))) ly ly' e in
    let two = cut n n' (s ++ 47 ∷ (c ++ 47 ∷ f)) (s' ++ 47 ∷ (c' ++ 47 ∷ f')) ln ln' one.1 in
    let three = cut s s' (c ++ 47 ∷ f) (c' ++ 47 ∷ f') ls ls' two.1 in
    let four = cut c c' f f' lc lc' three.1 in
    record { year = one.0; network = two.0; station = three.0; channel = four.0; file = four.1 }

marked-same : (a b : List ℕ) (mark : ℕ) → a ≡ b → with_mark a mark ≡ with_mark b mark
marked-same a b mark e = ap (λ l. with_mark l mark) e

tail-size : (c y d : List ℕ) → length (46 ∷ (c ++ 46 ∷ (y ++ 46 ∷ d))) ≡ length c + (length y + (length d + 3))
tail-size c y d =
    let one : length (c ++ 46 ∷ (y ++ 46 ∷ d)) ≡ length c + suc (length (y ++ 46 ∷ d)) =
    length-append c (46 ∷ (y ++ 46 ∷ d)) in
    let two : length (y ++ 46 ∷ d) ≡ length y + suc (length d) = length-append y (46 ∷ d) in
    omega (arith, one, two)

location-same : (n s l c y d n' s' l' c' y' d' : List ℕ) → n ≡ n' → s ≡ s' → c ≡ c' → y ≡ y'
    → length d ≡ length d'
    → with_mark n 46 ++ (with_mark s 46 ++ (l ++ 46 ∷ (c ++ 46 ∷ (y ++ 46 ∷ d))))
    ≡ with_mark n' 46 ++ (with_mark s' 46 ++ (l' ++ 46 ∷ (c' ++ 46 ∷ (y' ++ 46 ∷ d')))) → l ≡ l'
location-same n s l c y d n' s' l' c' y' d' en es ec ey ed e =
    let one = end-same (with_mark n 46) (with_mark n' 46) _ _ (marked-same n n' 46 en) e in
    let two = end-same (with_mark s 46) (with_mark s' 46) _ _ (marked-same s s' 46 es) one in
    let size : length c ≡ length c' = ap length ec in
    let years : length y ≡ length y' = ap length ey in
    let here : length (46 ∷ (c ++ 46 ∷ (y ++ 46 ∷ d))) ≡ length c + (length y + (length d + 3)) = tail-size c y d in
    let there : length (46 ∷ (c' ++ 46 ∷ (y' ++ 46 ∷ d'))) ≡ length c' + (length y' + (length d' + 3)) =
    tail-size c' y' d' in
    ends l l' (46 ∷ (c ++ 46 ∷ (y ++ 46 ∷ d))) (46 ∷ (c' ++ 46 ∷ (y' ++ 46 ∷ d')))
    (omega (arith, here, there, size, years, ed)) two

-- ---- two records

-- what is known of a record that has a place
record Placed (x : Facts) : Type 0 where
  network : Lacks x.network
  station : Lacks x.station
  channel : Lacks (channel_text x)

four-true : (a b c d : Bool) → (a && b && c && d) ≡ true → (a ≡ true) × (b ≡ true) × (d ≡ true)
four-true true true true true e = (refl, refl, refl)
four-true true true true false e = absurd cc
four-true true true false d e = absurd cc
four-true true false c d e = absurd cc
four-true false b c d e = absurd cc

placed : (x : Facts) → has_place x ≡ true → Placed x
placed x h =
    let are = four-true (is_name x.network) (is_name x.station) (list_all is_name_byte (trimmed x.location))
    (is_name (trimmed x.channel)) h in
    record {
      network = lacks-name x.network are.0;
      station = lacks-name x.station are.1;
      channel = lacks-append (with_mark (trimmed x.channel) 46) (kind_letter x.kind ∷ [])
          (lacks-append (trimmed x.channel) (46 ∷ []) (lacks-name (trimmed x.channel) are.2)
          (λ e. omega (arith, e), tt)) (letter-lacks x.kind, tt);
    }

pub put-apart : ArePutApart
put-apart = λ x y year day year' day' px py e.
    let one = placed x px in
    let two = placed y py in
    let p = parts (four_digits year) x.network x.station (channel_text x) (file_text year day x) (four_digits year')
    y.network y.station (channel_text y) (file_text year' day' y) (lacks-year year) one.network one.station
    one.channel (lacks-year year') two.network two.station two.channel
    (sym (folder-parts (four_digits year) x.network x.station (channel_text x) (file_text year day x)) ∙ e
    ∙ folder-parts (four_digits year') y.network y.station (channel_text y) (file_text year' day' y)) in
    let kinds = end-same (with_mark (trimmed x.channel) 46) (with_mark (trimmed y.channel) 46)
    (kind_letter x.kind ∷ []) (kind_letter y.kind ∷ [])
    (ends (with_mark (trimmed x.channel) 46) (with_mark (trimmed y.channel) 46) (kind_letter x.kind ∷ [])
    (kind_letter y.kind ∷ []) refl p.channel) p.channel in
    record {
      network = p.network;
      station = p.station;
      location = location-same x.network x.station (trimmed x.location) (channel_text x) (four_digits year)
          (three_digits day) y.network y.station (trimmed y.location) (channel_text y) (four_digits year')
          (three_digits day') p.network p.station p.channel p.year refl
          (sym (file-parts x.network x.station (trimmed x.location) (channel_text x) (four_digits year)
          (three_digits day)) ∙ p.file
          ∙ file-parts y.network y.station (trimmed y.location) (channel_text y) (four_digits year')
          (three_digits day'));
      channel = ends (trimmed x.channel) (trimmed y.channel) (46 ∷ []) (46 ∷ []) refl
          (ends (with_mark (trimmed x.channel) 46) (with_mark (trimmed y.channel) 46) (kind_letter x.kind ∷ [])
          (kind_letter y.kind ∷ []) refl p.channel);
      kind = letter-same x.kind y.kind (head-same (kind_letter x.kind) (kind_letter y.kind) [] [] kinds);
    }

-- ---- the folders of a station

-- a path after its year
after-four : (a b c d : ℕ) (rest : List ℕ) (n size : ℕ) → n ≡ 4 → size ≡ length rest + 4
    → slice_range (a ∷ b ∷ c ∷ d ∷ rest) n size ≡ rest
after-four a b c d rest n size four is =
    let left : (length rest + 4) - 4 ≡ length rest = omega arith in
    ap (λ k. slice_range (a ∷ b ∷ c ∷ d ∷ rest) k size) four
    ∙ ap (λ k. slice_range (a ∷ b ∷ c ∷ d ∷ rest) 4 k) is ∙ ap (λ k. take k rest) left ∙ take-length rest

below-rest : (a b c d : ℕ) (rest path : List ℕ) → path ≡ a ∷ b ∷ c ∷ d ∷ rest
    → slice_range path (min 4 (length path)) (length path) ≡ rest
below-rest a b c d rest path is =
    let size : length path ≡ length rest + 4 =
    let here : length (a ∷ b ∷ c ∷ d ∷ rest) ≡ length rest + 4 = omega arith in ap length is ∙ here in
    let four : min 4 (length path) ≡ 4 = grind (arith, nat_tests, size) in
    ap (λ p. slice_range p (min 4 (length path)) (length path)) is
    ∙ after-four a b c d rest (min 4 (length path)) (length path) four size

folders-parts : (n s : List ℕ) → station_folders n s ≡ 47 ∷ (n ++ 47 ∷ (s ++ 47 ∷ []))
folders-parts n s = simp append_assoc

-- what comes after the folders of a station
folders-rest : (n s more : List ℕ) → station_folders n s ++ more ≡ 47 ∷ (n ++ 47 ∷ (s ++ 47 ∷ more))
folders-rest n s more = simp append_assoc

path-rest : (x : Facts) (year day : ℕ)
    → slice_range (path_in year day x) (min 4 (length (path_in year day x))) (length (path_in year day x))
    ≡ 47 ∷ (x.network ++ 47 ∷ (x.station ++ 47 ∷ (channel_text x ++ 47 ∷ file_text year day x)))
path-rest x year day =
    below-rest (last_digit (year / 1000)) (last_digit (year / 100)) (last_digit (year / 10)) (last_digit year)
    (47 ∷ (x.network ++ 47 ∷ (x.station ++ 47 ∷ (channel_text x ++ 47 ∷ file_text year day x)))) (path_in year day x)
    (folder-parts (four_digits year) x.network x.station (channel_text x) (file_text year day x))

pub below-station : AreBelowTheirStation
below-station = λ x y year day px py.
    let rest = 47 ∷ (x.network ++ 47 ∷ (x.station ++ 47 ∷ (channel_text x ++ 47 ∷ file_text year day x))) in
    let text = station_folders y.network y.station in
    let here = slice_range (path_in year day x) (min 4 (length (path_in year day x))) (length (path_in year day x)) in
    let are = starts_is Decides-eqb here text (is_below y.network y.station (path_in year day x)) refl in
    let one = placed x px in
    let two = placed y py in (
      (λ is.
          let split : rest ≡ text ++ drop (length text) here = sym (path-rest x year day) ∙ are.0 is in
          let parts = tail-same 47 47 _ _ (split ∙ folders-rest y.network y.station (drop (length text) here)) in
          let networks = cut x.network y.network _ _ one.network two.network parts in
          let stations = cut x.station y.station _ _ one.station two.station networks.1 in
          (networks.0, stations.0)),
      (λ same.
          are.1 (channel_text x ++ 47 ∷ file_text year day x)
          (path-rest x year day
          ∙ ap (λ n. 47 ∷ (n ++ 47 ∷ (x.station ++ 47 ∷ (channel_text x ++ 47 ∷ file_text year day x)))) same.0
          ∙ ap (λ s. 47 ∷ (y.network ++ 47 ∷ (s ++ 47 ∷ (channel_text x ++ 47 ∷ file_text year day x)))) same.1
          ∙ sym (folders-rest y.network y.station (channel_text x ++ 47 ∷ file_text year day x)))),
    )
