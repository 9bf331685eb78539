-- What commands on whole entries do to a dataset in which no key that they name is expired.
use Rattle.std.specs.Prelude.{◌≡◌, pos, List, [], ◌∷◌, ◌++◌, codes, ◌==◌, if◌then◌else◌, Option, Some, None, is_some}
use Rattle.std.specs.FinMap.{empty, get, insert, len, remove}
use Rattle.std.specs.Str.{bytes_eq}
use Rattle.mr_map.specs.Bytes.{Bytes}
use Rattle.mr_resp.specs.Replies as reply
use Rattle.mr_resp.specs.Replies.{Tree}
use Rattle.mr_effect.specs.declared.effect.Effect.{Effect}
use Rattle.mr_effect.specs.declared.effect.Effect.TheVariants as effect
use Rattle.mr_keyspace.specs.Dataset.{Dataset}
use Rattle.mr_keyspace.specs.declared.value.Entry.{Entry}
use Rattle.mr_cmd_shared.specs.Answered.{done}
use Rattle.mr_cmd_shared.specs.Outcomes.{Outcome, answered}

abbrev pub no_key : Tree
no_key = reply.error (codes "ERR no such key")

module _ (from to : Bytes) where
  -- What one key has goes to the other with its deadline, whatever that had. Onto itself nothing changes.
  abbrev pub carried : Tree → Entry → Dataset → Outcome
  carried answer e m = if bytes_eq from to then answered answer m else record { reply = answer; after = insert (remove m from) to e; effects = effect.Rename from to ∷ [] }

  abbrev pub carried_if : Tree → Option Entry → Dataset → Outcome
  carried_if answer None m = answered no_key m
  carried_if answer (Some e) m = carried answer e m

  -- RENAME key key
  abbrev pub renamed : Dataset → Outcome
  renamed m = carried_if done (get m from) m

  -- RENAMENX key key: where the other key is there, nothing changes
  abbrev pub renamed_nx : Dataset → Outcome
  renamed_nx m =
      if is_some (get m from) then (if is_some (get m to) then answered (reply.int (pos 0)) m else carried_if (reply.int (pos 1)) (get m from) m)
      else answered no_key m

-- FLUSHALL, FLUSHDB: every key goes, expired ones too
abbrev pub cleared : Dataset → Outcome
cleared m = record { reply = done; after = empty; effects = if len m == 0 then [] else effect.Clear ∷ [] }

-- the reply is the outcome's, and its effects were put behind those that were there
pub record Gives (outcome : Outcome) (reply : Tree) (old new : List Effect) : Type 0 where
  pub reply_is : reply ≡ outcome.reply
  pub effects_are : new ≡ old ++ outcome.effects
