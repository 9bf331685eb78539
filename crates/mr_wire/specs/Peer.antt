-- The peers that a link can be asked for.
use Rattle.std.specs.Prelude.{◌≡◌, ℕ, ◌⊎◌, List, [], ◌∷◌, codes}
use Rattle.std.specs.Net.Addr.{ipv4_octets}
use Rattle.std.specs.Net.Grammar.{IsIpv4Text}
use Rattle.std.specs.Net.Socket.{v4_ip, v4_port}
use Rattle.std.specs.declared.net.ipv4_addr.Ipv4Addr.{Ipv4Addr}
use Rattle.std.specs.declared.net.socket_addr.SocketAddrV4.{SocketAddrV4}

abbrev pub localhost : List ℕ
localhost = codes "localhost"

-- a host is an IPv4 address as text, or the one name, which is 127.0.0.1
abbrev pub IsHost : List ℕ → Ipv4Addr → Type 0
IsHost host address = IsIpv4Text host address ⊎ ((host ≡ localhost) × (ipv4_octets address ≡ 127 ∷ 0 ∷ 0 ∷ 1 ∷ []))

-- this host and this port name the peer
abbrev pub Names : List ℕ → ℕ → SocketAddrV4 → Type 0
Names host port peer = IsHost host (v4_ip peer) × (v4_port peer ≡ port)
