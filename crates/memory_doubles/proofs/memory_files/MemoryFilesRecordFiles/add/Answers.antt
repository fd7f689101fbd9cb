use Rattle.std.proofs.Common.{◌≡◌, ◌≤◌, ◌∙◌, ◌∷◌, ◌++◌, [], ap, map, subst, sym}
use Rattle.std.proofs.lemmas.List.{length-map}
use Rattle.memory_doubles.specs.MemoryRecords.{NamedValue, named}
use Rattle.memory_doubles.proofs.MemoryLemmas.{adds-one, keeps-synced}
use Rattle.memory_doubles.proofs.memory_files.MemoryFilesRecordFiles.add.Goals as goal

-- the record that is added
abbrev one : (c : goal.In-Ok) → NamedValue
one c = record { name = c.args.name.now; bytes = c.args.bytes.now }

-- the records after the call are those before it, and one more
more : (c : goal.In-Ok)
    → map named c.store.new.self.all.items ≡ map named c.args.self.now.all.items ++ one c ∷ []
more c = c.in-Ok.ensures.kept ∙ ap (λ a. map named a.items ++ one c ∷ []) c.in_ok-call.ensures.0

pub returns-in-Ok-clause-added : goal.returns-in-Ok-clause-added
returns-in-Ok-clause-added c = adds-one (map named c.args.self.now.all.items) _ (one c) (more c)

pub returns-in-Ok-clause-safe : goal.returns-in-Ok-clause-safe
returns-in-Ok-clause-safe c =
    keeps-synced (map named c.args.self.now.all.items) _ (one c) c.args.self.now.synced c.store.new.self.synced (more c)
    (c.in-Ok.ensures.synced ∙ c.in_ok-call.ensures.1)
    (subst (λ n. c.args.self.now.synced ≤ n) (sym (length-map c.args.self.now.all.items named)) c.args.self.now.within)
