-- The commands on sets.
use Rattle.std.specs.Prelude.{ℕ, [], ◌∷◌, Bool, true, false}
use Rattle.std.specs.FinMap.{contains_key, keys, len}
use Rattle.mr_resp.specs.Replies.{Tree}
use Rattle.mr_cmd_set.specs.declared.set_ask.SetAsk.{SetAsk}
use Rattle.mr_cmd_set.specs.declared.set_ask.SetAsk.TheVariants as ask
use Rattle.mr_keyspace.specs.Dataset.{Dataset}
use Rattle.mr_data.specs.Dataset.{IsDataset}
use Rattle.mr_cmd_shared.specs.Collections.{Change}
use Rattle.mr_cmd_shared.specs.Commands.{Command, on_key}
use Rattle.mr_cmd_set.specs.Members.{Members}
use Rattle.mr_cmd_set.specs.Sets.{number, flag, flags, bulks, adding, removing, taking, drawn_reply, taken, sismember_answer, smismember_answer, smembers_answer, scard_answer, sadd_answer, srem_answer, spop_answer, srandmember_answer}
use Rattle.mr_cmd_set.specs.Moving.{smove}
use Rattle.mr_cmd_set.specs.Combining.{combine}

-- what a command is, given a random word
abbrev pub command : SetAsk → ℕ → Command
command (ask.SAdd k xs) word = on_key k (sadd_answer k xs)
command (ask.SRem k xs) word = on_key k (srem_answer k xs)
command (ask.SIsMember k x) word = on_key k (sismember_answer x)
command (ask.SMIsMember k xs) word = on_key k (smismember_answer xs)
command (ask.SMembers k) word = on_key k smembers_answer
command (ask.SCard k) word = on_key k scard_answer
command (ask.SPop k count) word = on_key k (spop_answer k count word)
command (ask.SRandMember k count) word = on_key k (srandmember_answer count word)
command (ask.SMove from to x) word = record { keys = from ∷ to ∷ []; outcome = smove from to x }
command (ask.Combine op ks) word = record { keys = ks; outcome = combine op ks }

-- What the law of faithful effects rests on. A command that changes nothing rests on nothing.
abbrev pub RestsOn : SetAsk → Dataset → Type 0
RestsOn (ask.Combine op ks) m = Unit {0}
RestsOn _ m = IsDataset m

-- ---- Commands on one key are told from each other once the set there is found.
abbrev pub is_on_one_key : SetAsk → Bool
is_on_one_key (ask.SMove from to x) = false
is_on_one_key (ask.Combine op ks) = false
is_on_one_key _ = true

-- the set stays as it is
abbrev pub told : (Members → Tree) → Members → Change Members
told answer s = record { reply = answer s; value = s; effects = [] }

-- what a command on one key does to the set there; of one on several keys nothing is asked
abbrev pub change : SetAsk → ℕ → Members → Change Members
change (ask.SAdd k xs) word = adding k xs
change (ask.SRem k xs) word = removing k xs
change (ask.SIsMember k x) word = told (λ s. flag (contains_key s x))
change (ask.SMIsMember k xs) word = told (flags xs)
change (ask.SMembers k) word = told (λ s. bulks (keys s))
change (ask.SCard k) word = told (λ s. number (len s))
change (ask.SPop k count) word = taking k count word
change (ask.SRandMember k count) word = told (λ s. drawn_reply count (taken count word s))
change _ word = told (λ s. number 0)
