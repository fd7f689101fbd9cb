-- Bytes spelled one after the other.
use Rattle.std.proofs.Common.{◌≡◌, ℕ, ◌+◌, ◌<◌, List, ◌++◌, length, take, get_or, sym, ap, ◌∙◌}
use Rattle.std.specs.List.{flat_map}
use Rattle.std.proofs.lemmas.List.{flat_map_more, take_more}
use Rattle.event_script.specs.Spelling.{spelled, spelled_byte}

-- one byte more
pub spelled_more : (bytes : List ℕ) (k d : ℕ) (old text new : List ℕ) → k < length bytes
    → text ≡ old ++ spelled (take k bytes) → new ≡ text ++ spelled_byte (get_or bytes k d)
    → new ≡ old ++ spelled (take (k + 1) bytes)
spelled_more bytes k d old text new inside so_far more =
    more ∙ ap (λ t. t ++ spelled_byte (get_or bytes k d)) so_far
    ∙ flat_map_more spelled_byte old (take k bytes) (get_or bytes k d)
    ∙ ap (λ bs. old ++ flat_map spelled_byte bs) (sym (take_more bytes k d inside))
