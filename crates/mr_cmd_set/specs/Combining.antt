-- SINTER, SUNION, SDIFF: the members that several sets give.
use Rattle.std.specs.Prelude.{List, [], ◌∷◌, Option, Some, None}
use Rattle.std.specs.Option.{option_map, option_and_then}
use Rattle.std.specs.FinMap.{get, empty, keys}
use Rattle.mr_map.specs.Bytes.{Bytes}
use Rattle.mr_resp.specs.Replies.{Tree}
use Rattle.mr_cmd_set.specs.declared.set_ask.SetOperation.{SetOperation}
use Rattle.mr_cmd_set.specs.declared.set_ask.SetOperation.TheVariants as operation
use Rattle.mr_keyspace.specs.Dataset.{Dataset}
use Rattle.mr_keyspace.specs.Steps.{sets, held}
use Rattle.mr_cmd_shared.specs.Answered.{wrong_kind}
use Rattle.mr_cmd_shared.specs.Outcomes.{Outcome, answered}
use Rattle.mr_cmd_set.specs.Members.{Members, common, minus, joined}
use Rattle.mr_cmd_set.specs.Sets.{bulks}

-- the sets at these keys, unless one of them holds another kind
abbrev pub sets_at : List Bytes → Dataset → Option (List Members)
sets_at [] m = Some []
sets_at (k ∷ ks) m = option_and_then (λ s. option_map (λ ss. s ∷ ss) (sets_at ks m)) (held sets (get m k))

abbrev pub of_two : SetOperation → Members → Members → Members
of_two operation.Intersection = common
of_two operation.Union = joined
of_two operation.Difference = minus

-- the first with each of the others, one after another
abbrev pub of_all : SetOperation → Members → List Members → Members
of_all op s [] = s
of_all op s (t ∷ ts) = of_all op (of_two op s t) ts

abbrev pub combined : SetOperation → List Members → Members
combined op [] = empty
combined op (s ∷ ss) = of_all op s ss

abbrev pub combined_reply : SetOperation → Option (List Members) → Tree
combined_reply op None = wrong_kind
combined_reply op (Some ss) = bulks (keys (combined op ss))

abbrev pub combine : SetOperation → List Bytes → Dataset → Outcome
combine op ks m = answered (combined_reply op (sets_at ks m)) m
