-- What ROLE is answered.
use Rattle.std.specs.Prelude.{ℕ, pos, List, [], codes, map, option_map, unwrap_or}
use Rattle.std.specs.Fmt.{signed_decimal}
use Rattle.mr_resp.specs.Replies.{Tree, int, bytes, array, none, more}
use Rattle.mr_resp.specs.ReplyView.{trees_of}
use Rattle.mr_info.specs.declared.roles.Replica.{Replica}
use Rattle.mr_info.specs.declared.roles.MasterLink.{MasterLink}
use Rattle.mr_info.specs.declared.roles.MasterLink.TheVariants.{Connect, Sync, Connected}

-- nothing where the replica gave no address
abbrev pub address_of : Replica → List ℕ
address_of replica = unwrap_or (option_map (λ word. word.now) replica.address) []

-- 0 where it gave no port
abbrev pub port_of : Replica → List ℕ
port_of replica = unwrap_or (option_map (λ word. word.now) replica.port) (codes "0")

-- 0 where it acknowledged nothing
abbrev pub acknowledged_of : Replica → List ℕ
acknowledged_of replica = signed_decimal (unwrap_or replica.acknowledged (pos 0))

-- a replica, as its master tells of it
abbrev pub replica_tree : Replica → Tree
replica_tree replica = array (more (bytes (address_of replica)) (more (bytes (port_of replica)) (more (bytes (acknowledged_of replica)) none)))

-- by a master: its offset and its replicas
abbrev pub master_reply : ℕ → List Replica → Tree
master_reply offset replicas = array (more (bytes (codes "master")) (more (int (pos offset)) (more (array (trees_of (map replica_tree replicas))) none)))

-- how far a replica has come with the link to its master
abbrev pub link_word : MasterLink → List ℕ
link_word Connect = codes "connect"
link_word Sync = codes "sync"
link_word Connected = codes "connected"

-- by a replica: its master's host and port, how far it has come with the link to it, and its offset
abbrev pub replica_reply : ℕ → List ℕ → ℕ → MasterLink → Tree
replica_reply offset host port link =
    array (more (bytes (codes "slave")) (more (bytes host) (more (int (pos port)) (more (bytes (link_word link)) (more (int (pos offset)) none)))))
