use Rattle.std.proofs.Common.{sym, ap, ◌∙◌, Err}
use Rattle.std.proofs.lemmas.Result.{err_from_is_err_and}
use Rattle.serving.proofs.new_server.serve_between.Goals as goal

pub returns-clause-served : goal.returns-clause-served
returns-clause-served g c = record {
  first = c.in-Ok.server;
  last = c.run_new.new.server;
  begins = record {
    stands = c.in-Ok.ensures.server;
    calls_then = c.in-Ok.ensures.calls;
    no_port = c.in-Ok.ensures.seats;
    max_clients = c.in-Ok.ensures.max_clients;
    none_refused = c.in-Ok.ensures.refused;
  };
  ran = c.in_ok-run_new.ensures.ran c.args.config c.in-Ok.ensures.server;
  calls_after = sym c.into_ports.ensures.calls;
}

pub returns-in_err-run_new-clause-ended : goal.returns-in_err-run_new-clause-ended
returns-in_err-run_new-clause-ended g c =
    let p = err_from_is_err_and c.from_residual.result c.from_residual.ensures.1 in
    rw (p.1 ∙ ap Err p.2) (λ is. record {
      first = c.in-Ok.server;
      last = c.run_new.new.server;
      begins = record {
        stands = c.in-Ok.ensures.server;
        calls_then = c.in-Ok.ensures.calls;
        no_port = c.in-Ok.ensures.seats;
        max_clients = c.in-Ok.ensures.max_clients;
        none_refused = c.in-Ok.ensures.refused;
      };
      gave_up = c.in_err-run_new.ensures.ended is c.args.config c.in-Ok.ensures.server;
    })
