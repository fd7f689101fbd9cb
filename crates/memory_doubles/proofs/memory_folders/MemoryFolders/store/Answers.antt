use Rattle.std.proofs.Common.{◌∙◌, ℕ, List, [], ◌∷◌, ◌++◌, ap, ap₂, map}
use Rattle.std.proofs.lemmas.List.{map-append}
use Rattle.memory_doubles.specs.Stores.{stored}
use Rattle.memory_doubles.proofs.memory_folders.MemoryFolders.store.Goals as goal

pub returns-clause-kept : goal.returns-clause-kept
returns-clause-kept c =
    let before = c.args.self.now.all.items in
    ap (map stored) c.in_ok-push.ensures.items
    ∙ map-append stored before _
    ∙ ap₂ (λ (a b : List ℕ). map stored before ++ record { folder = a; file = b; bytes = c.args.bytes.now } ∷ [])
    c.in_ok-from_slice.ensures.items c.in_ok-from_slice-2.ensures.items
