use Rattle.std.proofs.Common.{◌≡◌, ◌∙◌, ap}
use Rattle.ports_socket.specs.Admissions.{clients_at}
use Rattle.ports_socket.specs.Hosts.{clients_of}
use Rattle.ports_socket.proofs.HostLemmas.{admitted}
use Rattle.ports_socket.proofs.peers.Peers.admits.Goals as goal

pub returns-in-Client : goal.returns-in-Client
returns-in-Client c =
    let opened = c.self.inside.opened.items in
    let count : c.count-clients.result ≡ clients_at opened c.args.address =
    c.count-clients.ensures ∙ (ap (λ a. clients_of a c.self.inside.hosts) c.to_bits.ensures
    ∙ c.self.invariant.2 _) in
    rw (← c.self.view_is)
    (admitted c.self.inside.admission opened c.args.kind c.args.address c.count-clients.result
    c.takes_client_beside.result c.in-Client.is count c.takes_client_beside.ensures)
