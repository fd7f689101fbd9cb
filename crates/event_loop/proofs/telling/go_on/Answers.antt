use Rattle.event_loop.proofs.telling.go_on.Goals as goal

pub returns-clause-stands : goal.returns-clause-stands
returns-clause-stands g c = λ config w stands.
    c.tell_if_heard.ensures.stands config _ (c.go_on-found.ensures.stands config w stands)

pub returns-clause-decides : goal.returns-clause-decides
returns-clause-decides g c = record { between = c.go_on-found.new.self; tells = c.tell_if_heard.ensures.decides }
