-- A system that runs.
use Rattle.std.specs.Prelude.{◌≡◌, ◌≤◌, ℕ, List, [], ◌∷◌, None, Some, length, slice_get, take}
use Rattle.mr_data.specs.declared.given.Given.{Given}
use Rattle.mr_keyspace.specs.Dataset.{Dataset}
use Rattle.mr_effect.specs.Spelling.{texts}
use Rattle.mr_loop.specs.Stage.{Stage}
use Rattle.law_systems.specs.System.{Connection, End, IsAt, Server, System, no_system, rests}
use Rattle.law_systems.specs.Steps.{Begins, Course}
use Rattle.law_systems.specs.Servers.{Shows}
use Rattle.law_systems_example.specs.Systems.{effects, first_id, later_id, promoted_id, with_key}

-- the last of these, or where they begin
abbrev pub last_of : System → List System → System
last_of x [] = x
last_of x (y ∷ ys) = last_of y ys

-- Some steps, one after another, lead from the one to the other.
pub record Reaches (x y : System) : Type 0 where
  pub systems : List System
  pub course : Course x systems
  pub ends : last_of x systems ≡ y

-- ---- a dial
-- The server n has dialled on connection c, in its first life, and nobody has accepted that.
pub record IsDialled (x : System) (c n : ℕ) : Type 0 where
  pub connection : Connection
  pub found : slice_get x.connections c ≡ Some connection
  pub end : End
  pub dialler : connection.dialler ≡ Some end
  pub dialled_by : end.server ≡ n
  pub waits : connection.acceptor ≡ None

-- .. and the server m has accepted it
pub record IsAccepted (x : System) (c n m : ℕ) : Type 0 where
  pub connection : Connection
  pub found : slice_get x.connections c ≡ Some connection
  pub end : End
  pub dialler : connection.dialler ≡ Some end
  pub dialled_by : end.server ≡ n
  pub other : End
  pub acceptor : connection.acceptor ≡ Some other
  pub accepted_by : other.server ≡ m

-- ---- a kill
-- The program of the server n doesn't run.
pub record IsKilled (x : System) (n : ℕ) : Type 0 where
  pub server : Server
  pub found : slice_get x.servers n ≡ Some server
  pub stopped : server.doing ≡ rests

-- The server n ran, in its first life, and its file told these bytes. In its second it has begun under this
-- id with what **a beginning of them** is read as.
pub record ComesBack (x y : System) (n : ℕ) (id : List ℕ) (held : Dataset) : Type 0 where
  pub before : Stage
  pub ran : IsAt x n 0 before
  pub file : List ℕ
  pub told : before.told ≡ Some file
  pub kept : ℕ
  pub within : kept ≤ length file
  pub again : Stage
  pub begins : Begins id (take kept file) held again
  pub runs : IsAt y n 1 again

-- ---- the story
-- so far the stream of the first server has come: it has the text of one effect
abbrev pub offset : ℕ
offset = length (texts effects)

-- **Two servers run.** A client sets a key at the first. The other dials it, and has sent its first line before
-- the first accepts. The handshake goes through, a copy is told and loaded: both show one id and one offset, and hold one
-- dataset, that with the key. A client promotes the other, which shows another id then. The first is killed, and begins
-- again with a beginning of its file.
pub record Story : Type 0 where
  pub dialled : System
  pub to_dialled : Reaches no_system dialled
  pub waits : IsDialled dialled 2 1
  pub first_has_key : Shows dialled 0 first_id offset with_key
  pub accepted : System
  pub to_accepted : Reaches dialled accepted
  pub late : IsAccepted accepted 2 1 0
  pub copied : System
  pub to_copied : Reaches accepted copied
  pub first_shows : Shows copied 0 first_id offset with_key
  pub other_shows : Shows copied 1 first_id offset with_key
  pub promoted : System
  pub to_promoted : Reaches copied promoted
  pub still_shows : Shows promoted 0 first_id offset with_key
  pub leads : Shows promoted 1 promoted_id offset with_key
  pub killed : System
  pub to_killed : Reaches promoted killed
  pub stopped : IsKilled killed 0
  pub back : System
  pub to_back : Reaches killed back
  pub comes_back : ComesBack promoted back 0 later_id with_key
  pub shows_again : Shows back 0 later_id 0 with_key

-- .. whatever the moments and the random words of its steps
abbrev pub ServersRun : Type 0
ServersRun = Given → Story

-- Courses that follow on each other are one.
abbrev pub StepsJoin : Type 0
StepsJoin = (x y z : System) → Reaches x y → Reaches y z → Reaches x z
