use Rattle.event_loop.proofs.telling.receive.Goals as goal

pub returns-clause-stands : goal.returns-clause-stands
returns-clause-stands g c = λ config w stands.
    c.tell_if_heard.ensures.stands config _ (c.receive.ensures.stands config w stands)

pub returns-clause-decides : goal.returns-clause-decides
returns-clause-decides g c = record { between = c.receive.new.self; tells = c.tell_if_heard.ensures.decides }
