-- The address of the first server, as a wire is asked for it.
use Rattle.std.proofs.Common.{inr, [], ◌∷◌, refl}
use Rattle.std.specs.declared.net.socket_addr.SocketAddrV4.{SocketAddrV4}
use Rattle.mr_wire.specs.Peer.{Names, localhost}

abbrev pub peer : SocketAddrV4
peer = record { ip = record { octets = 127 ∷ 0 ∷ 0 ∷ 1 ∷ [] }; port = 7001 }

pub names : Names localhost 7001 peer
names = (inr (refl, refl), refl)
