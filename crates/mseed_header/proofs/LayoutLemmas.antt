-- The parts of a record, one after the other, are its layout.
use Rattle.std.proofs.Common.{◌≡◌, ◌-◌, ◌≤◌, true, [], ◌++◌, length, replicate, append_assoc, append-nil}
use Rattle.protocol.specs.Made.{Fields, layout_of, is_in_range}
use Rattle.protocol.proofs.MadeLemmas.{decides-in_range}
use Rattle.mseed_header.specs.Layout.{codes_part, start_part, rate_part, places_part, blockettes_part}

pub laid_out : (f : Fields)
    → ([] ++ codes_part f ++ start_part f ++ rate_part f ++ places_part f ++ blockettes_part f
    ++ (f.contents ++ replicate (448 - length f.contents) 0)) ≡ layout_of f
laid_out f = simp (append_assoc, append-nil)

pub contents_fit : (f : Fields) → is_in_range f ≡ true → length f.contents ≤ 448
contents_fit f e = ((decides-in_range f).0 e).size
