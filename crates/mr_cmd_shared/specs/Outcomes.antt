-- What a command does to a dataset in which no key that it names is expired.
use Rattle.std.specs.Prelude.{List, [], Option}
use Rattle.std.specs.FinMap.{get}
use Rattle.mr_map.specs.Bytes.{Bytes}
use Rattle.mr_resp.specs.Replies.{Tree}
use Rattle.mr_keyspace.specs.Dataset.{Dataset, put_at}
use Rattle.mr_keyspace.specs.declared.value.Entry.{Entry}
use Rattle.mr_effect.specs.declared.effect.Effect.{Effect}
use Rattle.mr_cmd_shared.specs.Answered.{Answered}

pub record Outcome : Type 0 where
  pub reply : Tree
  pub after : Dataset
  pub effects : List Effect

-- nothing changes
abbrev pub answered : Tree → Dataset → Outcome
answered answer m = record { reply = answer; after = m; effects = [] }

-- a command on one key, by what it is answered and makes of the entry
abbrev pub at_key : Bytes → (Option Entry → Answered) → Dataset → Outcome
at_key k answers m = record {
  reply = (answers (get m k)).reply;
  after = put_at m k (answers (get m k)).entry;
  effects = (answers (get m k)).effects;
}
