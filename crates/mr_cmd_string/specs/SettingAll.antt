-- Texts that several keys get.
use Rattle.std.specs.Prelude.{pos, List, [], ◌∷◌, map, filter, Bool, not, if◌then◌else◌, is_some}
use Rattle.std.specs.List.{list_any}
use Rattle.std.specs.FinMap.{entries, get}
use Rattle.mr_map.specs.Bytes.{Bytes}
use Rattle.mr_resp.specs.Replies as reply
use Rattle.mr_resp.specs.Replies.{Tree}
use Rattle.mr_effect.specs.declared.effect.Effect.{Effect}
use Rattle.mr_effect.specs.declared.effect.Effect.TheVariants as effect
use Rattle.mr_keyspace.specs.Dataset.{Dataset}
use Rattle.mr_keyspace.specs.Collections.{last_values}
use Rattle.mr_keyspace.specs.Changes.{with_texts}
use Rattle.mr_cmd_shared.specs.Answered.{done}
use Rattle.mr_cmd_shared.specs.Outcomes.{Outcome, answered}
use Rattle.mr_cmd_string.specs.Setting.{is_plain}

-- the keys that pairs name
abbrev pub names : List (Bytes × Bytes) → List Bytes
names pairs = map (λ p. p.0) pairs

-- .. each with its last text, without those that hold it already, without a deadline; in byte order
abbrev pub changed : List (Bytes × Bytes) → Dataset → List (Bytes × Bytes)
changed pairs m = filter (λ p. not (is_plain p.1 (get m p.0))) (entries (last_values pairs))

-- one effect for all of them
abbrev pub set_effects : List (Bytes × Bytes) → List Effect
set_effects [] = []
set_effects (p ∷ ps) = effect.MSet (p ∷ ps) ∷ []

-- The keys get their texts, one after another. What they held before may be of any kind.
abbrev pub put_all : Tree → List (Bytes × Bytes) → Dataset → Outcome
put_all answer pairs m = record { reply = answer; after = with_texts pairs m; effects = set_effects (changed pairs m) }

-- MSET key value [key value ..]
abbrev pub mset : List (Bytes × Bytes) → Dataset → Outcome
mset pairs m = put_all done pairs m

-- one of the keys is there
abbrev pub is_any_there : List (Bytes × Bytes) → Dataset → Bool
is_any_there pairs m = list_any (λ p. is_some (get m p.0)) pairs

-- MSETNX key value [key value ..]: nothing is set where one of the keys is there
abbrev pub msetnx : List (Bytes × Bytes) → Dataset → Outcome
msetnx pairs m = if is_any_there pairs m then answered (reply.int (pos 0)) m else put_all (reply.int (pos 1)) pairs m
