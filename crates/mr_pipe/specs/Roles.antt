-- What the roles of a pipe's node and of its link leave alone.
use Rattle.std.specs.Prelude.{◌≡◌, ◌≢◌, ℕ, List, [], true, false, None, Some}
use Rattle.mr_data.specs.declared.given.Given.{Given}
use Rattle.mr_commands.specs.Requests.{rewrites}
use Rattle.mr_node_output.specs.Outs.{Output}
use Rattle.mr_node_spec.specs.Requests.{Asks}
use Rattle.mr_node_spec.specs.Growing.{rebuilt}
use Rattle.mr_pipe.specs.State.{PipeState}
use Rattle.mr_pipe.specs.Sessions.{Moment, AreServed, IsLast, IsServed, all_changes}

-- The client asked that the file be written anew, and it is: with what makes this pipe's dataset again.
pub record Rewrites (s : PipeState) (u rest : List ℕ) (out : Output) : Type 0 where
  pub words : List (List ℕ)
  pub asks : Asks u words rest
  pub rewriting : rewrites words ≡ true
  pub replaced : out.replaced ≡ Some (rebuilt s.core.held)

-- The dataset stays, and nothing is put behind the stream or the file, which is replaced at most where the client asks for it.
pub record OnlyRewrites (s : PipeState) (u : List ℕ) (t : PipeState) (rest : List ℕ) (out : Output) : Type 0 where
  pub held : t.core.held ≡ s.core.held
  pub grown : out.grown ≡ []
  pub appended : out.appended ≡ []
  pub replaced : out.replaced ≢ None → Rewrites s u rest out

-- so of a node that is a replica
abbrev pub ReplicasOnlyRewrite : Type 0
ReplicasOnlyRewrite = (g : Given) (s : PipeState) (u : List ℕ) (t : PipeState) (rest : List ℕ) (out : Output) → IsServed g s u t rest out → s.core.master ≡ false → OnlyRewrites s u t rest out

-- The pipe stays, nothing is said, and the file is left alone.
pub record IsSilent (s : PipeState) (moments : List Moment) (t : PipeState) (said : List ℕ) : Type 0 where
  pub stays : t ≡ s
  pub silent : said ≡ []
  pub changes : all_changes moments ≡ []

-- so of a link that is a replica's
abbrev pub ReplicaLinksAreSilent : Type 0
ReplicaLinksAreSilent = (g : Given) (s : PipeState) (u : List ℕ) (moments : List Moment) (t : PipeState) (rest said : List ℕ) → AreServed g s u moments t rest said → s.replica ≡ true → IsSilent s moments t said

-- .. whose end is not told of either
abbrev pub ReplicaLinksEndSilently : Type 0
ReplicaLinksEndSilently = (s : PipeState) (u last : List ℕ) → IsLast s u last → s.replica ≡ true → last ≡ []
