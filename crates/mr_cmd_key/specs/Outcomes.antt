-- What commands on several keys do to a dataset in which none of them is expired.
use Rattle.std.specs.Prelude.{ℕ, ℤ, pos, ◌+◌, List, [], ◌∷◌, length, Bool, true, false, is_some}
use Rattle.std.specs.FinMap.{get}
use Rattle.mr_map.specs.Bytes.{Bytes}
use Rattle.mr_resp.specs.Replies as reply
use Rattle.mr_keyspace.specs.Dataset.{Dataset}
use Rattle.mr_data.specs.Dataset.{live}
use Rattle.mr_cmd_shared.specs.Keys.{chosen, without, dels}
use Rattle.mr_cmd_shared.specs.Outcomes.{Outcome, answered}

-- DEL key [key ..], UNLINK the same: those that are there go, and are counted
abbrev pub deleted : List Bytes → Dataset → Outcome
deleted ks m = record {
  reply = reply.int (pos (length (chosen is_some ks m)));
  after = without ks m;
  effects = dels (chosen is_some ks m);
}

-- one for a key that is there
abbrev pub one_if : Bool → ℕ
one_if true = 1
one_if false = 0

-- so many of the keys are there, one that is named twice counted twice
abbrev pub present : Dataset → List Bytes → ℕ
present m [] = 0
present m (k ∷ ks) = one_if (is_some (get m k)) + present m ks

-- .. at a moment, expired ones left out
abbrev pub present_at : ℤ → Dataset → List Bytes → ℕ
present_at now m [] = 0
present_at now m (k ∷ ks) = one_if (is_some (live now (get m k))) + present_at now m ks

-- EXISTS key [key ..]: those that are there are counted
abbrev pub counted : List Bytes → Dataset → Outcome
counted ks m = answered (reply.int (pos (present m ks))) m
