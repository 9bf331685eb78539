-- What a command on one key answers, makes of the entry there, and has as its effects.
use Rattle.std.specs.Prelude.{◌≡◌, List, [], ◌++◌, codes, Option}
use Rattle.mr_resp.specs.Replies as reply
use Rattle.mr_resp.specs.Replies.{Tree}
use Rattle.mr_keyspace.specs.declared.value.Entry.{Entry}
use Rattle.mr_effect.specs.declared.effect.Effect.{Effect}

pub record Answered : Type 0 where
  pub reply : Tree
  pub entry : Option Entry
  pub effects : List Effect

-- nothing changes
abbrev pub kept : Tree → Option Entry → Answered
kept answer before = record { reply = answer; entry = before; effects = [] }

-- a value of another kind than the command is for
abbrev pub wrong_kind : Tree
wrong_kind = reply.error (codes "WRONGTYPE Operation against a key holding the wrong kind of value")

abbrev pub overflow : Tree
overflow = reply.error (codes "ERR increment or decrement would overflow")

abbrev pub done : Tree
done = reply.simple (codes "OK")

-- the reply is the answer's, and its effects were put behind those that were there
pub record Takes (answer : Answered) (reply : Tree) (old new : List Effect) : Type 0 where
  pub reply_is : reply ≡ answer.reply
  pub effects_are : new ≡ old ++ answer.effects
