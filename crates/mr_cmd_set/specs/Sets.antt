-- What each command on one set answers, makes of it, and has as its effects.
use Rattle.std.specs.Prelude.{◌≡◌, ℕ, pos, List, [], ◌∷◌, ◌++◌, map, Bool, if◌then◌else◌, Option, Some, None}
use Rattle.std.specs.FinMap.{contains_key, keys, len}
use Rattle.mr_map.specs.Bytes.{Bytes}
use Rattle.mr_resp.specs.Replies as reply
use Rattle.mr_resp.specs.Replies.{Tree}
use Rattle.mr_resp.specs.ReplyView.{trees_of}
use Rattle.mr_keyspace.specs.Collections.{with_members, without_members}
use Rattle.mr_keyspace.specs.Steps.{sets}
use Rattle.mr_keyspace.specs.declared.value.Entry.{Entry}
use Rattle.mr_effect.specs.declared.effect.Effect.{Effect}
use Rattle.mr_effect.specs.declared.effect.Effect.TheVariants as effect
use Rattle.mr_cmd_shared.specs.Answered.{Answered}
use Rattle.mr_cmd_shared.specs.Collections.{Change, telling, changing}
use Rattle.mr_cmd_shared.specs.Numbers.{count_or_one}
use Rattle.mr_keyspace.specs.Cuts.{cut}
use Rattle.mr_cmd_set.specs.Members.{Members, as_set, common, minus, drawn}

-- ---- replies

abbrev pub number : ℕ → Tree
number n = reply.int (pos n)

abbrev pub flag : Bool → Tree
flag b = number (if b then 1 else 0)

abbrev pub bulks : List Bytes → Tree
bulks xs = reply.array (trees_of (map reply.bytes xs))

-- ---- SISMEMBER, SMISMEMBER, SMEMBERS, SCARD

abbrev pub sismember_answer : Bytes → Option Entry → Answered
sismember_answer x = telling sets (λ s. flag (contains_key s x))

abbrev pub flags : List Bytes → Members → Tree
flags xs s = reply.array (trees_of (map (λ x. flag (contains_key s x)) xs))

abbrev pub smismember_answer : List Bytes → Option Entry → Answered
smismember_answer xs = telling sets (flags xs)

abbrev pub smembers_answer : Option Entry → Answered
smembers_answer = telling sets (λ s. bulks (keys s))

abbrev pub scard_answer : Option Entry → Answered
scard_answer = telling sets (λ s. number (len s))

-- ---- SADD: how many of the words are no members yet, each counted once
abbrev pub added : List Bytes → Members → Members
added xs s = minus (as_set xs) s

abbrev pub adding : Bytes → List Bytes → Members → Change Members
adding k xs s = record {
  reply = number (len (added xs s));
  value = with_members xs s;
  effects = map (effect.AddMembers k) (cut (keys (added xs s)));
}

abbrev pub sadd_answer : Bytes → List Bytes → Option Entry → Answered
sadd_answer k xs = changing sets (adding k xs)

-- ---- SREM: how many of the words are members, each counted once
abbrev pub removed : List Bytes → Members → Members
removed xs s = common (as_set xs) s

abbrev pub removing : Bytes → List Bytes → Members → Change Members
removing k xs s = record {
  reply = number (len (removed xs s));
  value = without_members xs s;
  effects = map (effect.RemoveMembers k) (cut (keys (removed xs s)));
}

abbrev pub srem_answer : Bytes → List Bytes → Option Entry → Answered
srem_answer k xs = changing sets (removing k xs)

-- ---- SPOP, SRANDMEMBER: without a count one member, or nil where there is none; else an array
abbrev pub first_bulk : List Bytes → Tree
first_bulk [] = reply.null_bulk
first_bulk (x ∷ xs) = reply.bytes x

abbrev pub one_bulk : Option Bytes → Tree
one_bulk None = reply.null_bulk
one_bulk (Some x) = reply.bytes x

abbrev pub drawn_reply : Option ℕ → List Bytes → Tree
drawn_reply None xs = first_bulk xs
drawn_reply (Some n) xs = bulks xs

-- the members that the random word names, in order of taking
abbrev pub taken : Option ℕ → ℕ → Members → List Bytes
taken count word s = drawn word (count_or_one count) (keys s)

abbrev pub srandmember_answer : Option ℕ → ℕ → Option Entry → Answered
srandmember_answer count word = telling sets (λ s. drawn_reply count (taken count word s))

-- the effects name them in byte order
abbrev pub taking : Bytes → Option ℕ → ℕ → Members → Change Members
taking k count word s = record {
  reply = drawn_reply count (taken count word s);
  value = without_members (taken count word s) s;
  effects = map (effect.RemoveMembers k) (cut (keys (as_set (taken count word s))));
}

abbrev pub spop_answer : Bytes → Option ℕ → ℕ → Option Entry → Answered
spop_answer k count word = changing sets (taking k count word)

-- ---- what was done to a set: the reply is the change's, and its effects were put behind those that were there
pub record Makes (change : Change Members) (reply : Tree) (old new : List Effect) : Type 0 where
  pub reply_is : reply ≡ change.reply
  pub effects_are : new ≡ old ++ change.effects
