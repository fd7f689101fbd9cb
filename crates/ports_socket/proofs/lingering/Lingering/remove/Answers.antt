use Rattle.std.proofs.Common.{rules, ◌==◌, not}
use Rattle.std.proofs.lemmas.Fn.{filter_same}
use Rattle.ports_socket.proofs.lingering.Lingering.remove.Goals as goal

pub returns : goal.returns
returns c =
    rw (← c.self.view_is)
    (filter_same _ (λ other. not (other == c.args.key)) _ (λ x b f called. search rules) _ _ c.retain.ensures.filtered)
