-- What happens to a world.
use Rattle.std.specs.Prelude.{ℕ, List, Bool}
use Rattle.law_protocol.specs.Language.{Language}

-- the two ends of a link: that of the node that serves, and that of the client or node that asked for it
pub data Side : Type 0 where
  Server : Side
  Dialler : Side

pub data Event (L : Language) : Type 0 where
  Start : L.Id → Bool → Event L  -- a node starts under a drawn id, as a master or not
  Restart : ℕ → List ℕ → L.Id → Event L  -- a node, whatever bytes are found as its file, a drawn id
  Client : ℕ → Event L  -- a client's link to a node
  Dial : ℕ → ℕ → Event L  -- a replica's link to a node, which accepts it at once
  Connect : ℕ → Event L  -- a replica's link, which waits for a node to accept it
  Accept : ℕ → ℕ → Event L  -- a link that waits is accepted by a node, which serves it from then on
  Command : ℕ → List ℕ → Event L  -- a client sends more on a link
  Deliver : ℕ → Side → ℕ → Event L  -- an end of a link takes so many bytes
  Step : ℕ → Side → L.Given → L.Id → Event L  -- a step at an end of a link, with what it is given and a fresh id
  Tick : ℕ → L.Given → Event L
  Break : ℕ → Side → Event L  -- an end of a link closes
