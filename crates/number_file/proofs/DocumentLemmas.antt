-- The document of the lines of numbers, and the numbers that it describes.
use Rattle.std.proofs.Common.{◌≡◌, ◌∙◌, ℕ, List, [], ◌∷◌, ◌++◌, Some, Ok, refl, sym}
use Rattle.std.proofs.Common.{ap, map, append_assoc, append-nil, suc, arith}
use Rattle.std.specs.List.{All}
use Rattle.std.specs.Prelude.{codes}
use Rattle.toml.specs.Data.{Data, string, table, Items, no_items, item, push_item}
use Rattle.toml.specs.Tables.{Document, Nodes, no_nodes, node, value, open_array, close, Expression, key_value}
use Rattle.toml.specs.Tables.{array_table, define, along_header, along_dots, at_key}
use Rattle.toml.proofs.ReadLines.{run}
use Rattle.protocol.specs.Packet.{digits}
use Rattle.protocol.proofs.Digits.{number_of-digits}
use Rattle.catalog.specs.Keys.{elements, elements_at, text_at}
use Rattle.catalog.specs.Numbers.{Numbered}
use Rattle.catalog.specs.Settings.{code_of, network_of}
use Rattle.number_file.specs.Keeping.{IsKeepable}
use Rattle.number_file.specs.Reading.{next_of, number_in, numbers_after, numbers_of}

-- the lines of a number, and of numbers
abbrev pub pair_of : List ℕ → List ℕ → Expression
pair_of key text = (([], key), key_value (string text))

abbrev pub lines_of_number : Numbered → List Expression → List Expression
lines_of_number n later =
    (([], codes "station"), array_table) ∷ pair_of (codes "network") n.network ∷ pair_of (codes "code") n.code
    ∷ pair_of (codes "next") (digits n.next) ∷ later

abbrev pub lines_of : List Numbered → List Expression
lines_of [] = []
lines_of (n ∷ ns) = lines_of_number n (lines_of ns)

-- what a document has of the last number
abbrev pub nodes_of : Numbered → Nodes
nodes_of n =
    node (codes "code") (value (string n.code)) (node (codes "network") (value (string n.network))
    (node (codes "next") (value (string (digits n.next))) no_nodes))

-- what is told of a number
abbrev pub data_of : Numbered → Data
data_of n = table (close (nodes_of n))

-- the document of earlier values and a last number
abbrev pub document_of : Items → Numbered → Document
document_of done n = (node (codes "station") (open_array done (nodes_of n)) no_nodes, codes "station" ∷ [])

-- the same after more numbers
abbrev pub more_of : Items → Numbered → List Numbered → Items
more_of done n [] = done
more_of done n (next ∷ later) = more_of (push_item done (data_of n)) next later

abbrev pub last_of : Numbered → List Numbered → Numbered
last_of n [] = n
last_of n (next ∷ later) = last_of next later

first_lines : (n : Numbered) (later : List Expression)
    → run (no_nodes, []) (lines_of_number n later) ≡ run (document_of no_items n) later
unfolding define along_header along_dots at_key
first_lines n later = refl

next_lines : (done : Items) (before n : Numbered) (later : List Expression)
    → run (document_of done before) (lines_of_number n later) ≡ run (document_of (push_item done (data_of before)) n) later
unfolding define along_header along_dots at_key
next_lines done before n later = refl

run_later : (done : Items) (n : Numbered) (later : List Numbered)
    → run (document_of done n) (lines_of later) ≡ Some (document_of (more_of done n later) (last_of n later))
run_later done n [] = refl
run_later done n (next ∷ later) =
    next_lines done n next (lines_of later) ∙ run_later (push_item done (data_of n)) next later

elements_push : (ds : Items) (d : Data) → elements (push_item ds d) ≡ elements ds ++ d ∷ []
elements_push no_items d = refl
elements_push (item e ds) d = ap (λ l. e ∷ l) (elements_push ds d)

elements_later : (done : Items) (n : Numbered) (later : List Numbered)
    → elements (push_item (more_of done n later) (data_of (last_of n later)))
    ≡ elements done ++ map data_of (n ∷ later)
elements_later done n [] = elements_push done (data_of n)
elements_later done n (next ∷ later) =
    elements_later (push_item done (data_of n)) next later
    ∙ ap (λ l. l ++ map data_of (next ∷ later)) (elements_push done (data_of n))
    ∙ append_assoc (elements done) (data_of n ∷ []) (map data_of (next ∷ later))

-- what is told of a number is read as it
number_back : (n : Numbered) → IsKeepable n → number_in (data_of n) ≡ Ok n
unfolding number_in network_of code_of next_of text_at
number_back n h = rw (h.network, h.code, number_of-digits n.next h.below)

-- the first of numbers that can be kept, and the others
abbrev pub EachIsKeepable : List Numbered → Type 0
EachIsKeepable [] = Unit {0}
EachIsKeepable (n ∷ ns) = IsKeepable n × EachIsKeepable ns

pub are_keepable : (ns : List Numbered) → All IsKeepable ns → EachIsKeepable ns
are_keepable [] all = tt
are_keepable (n ∷ ns) all =
    (all 0 n (omega arith), are_keepable ns (λ k d inside. all (suc k) d (omega (arith, inside))))

numbers_back : (earlier ns : List Numbered) → EachIsKeepable ns → numbers_after earlier (map data_of ns) ≡ Ok (earlier ++ ns)
numbers_back earlier [] h = ap Ok (sym (append-nil earlier))
numbers_back earlier (n ∷ ns) h =
    rw (number_back n h.0) (numbers_back (earlier ++ n ∷ []) ns h.1 ∙ ap Ok (append_assoc earlier (n ∷ []) ns))

-- the document of the lines of numbers, which describes them
abbrev pub whole_of : Numbered → List Numbered → Document
whole_of n ns = document_of (more_of no_items n ns) (last_of n ns)

pub run_numbers : (n : Numbered) (ns : List Numbered)
    → run (no_nodes, []) (lines_of (n ∷ ns)) ≡ Some (whole_of n ns)
run_numbers n ns = first_lines n (lines_of ns) ∙ run_later no_items n ns

pub members_back : (n : Numbered) (ns : List Numbered) → EachIsKeepable (n ∷ ns)
    → numbers_of (close (whole_of n ns).0) ≡ Ok (n ∷ ns)
unfolding numbers_of elements_at
members_back n ns h = rw (elements_later no_items n ns) (numbers_back [] (n ∷ ns) h)
