use Rattle.std.proofs.Common.{◌∙◌, ap, inl, inr, subst, sym}
use Rattle.continued_files.specs.Files.{MakesSafe}
use Rattle.continued_files.specs.Steps.{files_value}
use Rattle.continued_files.proofs.StepLemmas.{syncs}
use Rattle.continued_files.proofs.continued.ContinuedFiles.sync.Goals as goal

pub returns-clause-step : goal.returns-clause-step
returns-clause-step g c =
    let same = c.forget.ensures.same ∙ c.settle.ensures.rest.0 in
    syncs
    (files_value (g.F.RecordFiles.records c.args.self.now.files) (g.F.RecordFiles.safe c.args.self.now.files)
    c.args.self.now.all c.args.self.now.named.items c.args.self.now.unnamed)
    (files_value (g.F.RecordFiles.records c.forget.new.self.files) (g.F.RecordFiles.safe c.forget.new.self.files)
    c.forget.new.self.all c.forget.new.self.named.items c.forget.new.self.unnamed)
    (record {
      records = λ name. ap (λ f. g.F.RecordFiles.records f name) same ∙ c.in_ok-sync.ensures.same name;
      safe = subst (λ f. MakesSafe (g.F.RecordFiles.records f) (g.F.RecordFiles.safe f)) (sym same)
          c.in_ok-sync.ensures.safe;
      left = λ name count place low is.
          c.forget.ensures.left name count place low (c.settle.ensures.left name count place low is);
      indexed = λ name rs index counted.
          let mid = c.settle.ensures.indexed name rs index counted in
          c.forget.ensures.indexed name rs mid.0 mid.1;
    })
