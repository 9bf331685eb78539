-- SMOVE: a member goes from one set into another.
use Rattle.std.specs.Prelude.{◌≡◌, List, [], ◌∷◌, ◌++◌, if◌then◌else◌, is_some, Option, Some, None}
use Rattle.std.specs.FinMap.{get, contains_key, insert, remove}
use Rattle.std.specs.Str.{bytes_eq}
use Rattle.mr_map.specs.Bytes.{Bytes}
use Rattle.mr_keyspace.specs.Dataset.{Dataset, put_at}
use Rattle.mr_keyspace.specs.Steps.{sets, held, entry_of, deadline_of}
use Rattle.mr_effect.specs.declared.effect.Effect.{Effect}
use Rattle.mr_effect.specs.declared.effect.Effect.TheVariants as effect
use Rattle.mr_resp.specs.Replies.{Tree}
use Rattle.mr_cmd_shared.specs.Answered.{wrong_kind}
use Rattle.mr_cmd_shared.specs.Outcomes.{Outcome, answered}
use Rattle.mr_cmd_set.specs.Members.{Members}
use Rattle.mr_cmd_set.specs.Sets.{number}

module _ (from to x : Bytes) (m : Dataset) where
  -- The source without the member, and then the target with it. The deadlines stay; an empty source goes.
  abbrev pub carried : Members → Members → Dataset
  carried s d = put_at (put_at m from (entry_of sets (deadline_of (get m from)) (remove s x))) to (entry_of sets (deadline_of (get m to)) (insert d x tt))

  -- onto itself nothing changes
  abbrev pub moved : Members → Members → Outcome
  moved s d = if bytes_eq from to then answered (number 1) m else record { reply = number 1; after = carried s d; effects = effect.MoveMember from to x ∷ [] }

  abbrev pub moving : Option Members → Option Members → Outcome
  moving None d = answered wrong_kind m
  moving (Some s) None = answered wrong_kind m
  moving (Some s) (Some d) = if contains_key s x then moved s d else answered (number 0) m

  -- An absent source is answered first, and the target isn't looked at.
  abbrev pub smove : Outcome
  smove = if is_some (get m from) then moving (held sets (get m from)) (held sets (get m to)) else answered (number 0) m

-- the reply is the outcome's, and its effects were put behind those that were there
pub record Gives (outcome : Outcome) (reply : Tree) (old new : List Effect) : Type 0 where
  pub reply_is : reply ≡ outcome.reply
  pub effects_are : new ≡ old ++ outcome.effects
