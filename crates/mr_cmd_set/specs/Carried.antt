-- The words that a command on sets carries.
use Rattle.std.specs.Prelude.{ℕ, List, [], ◌∷◌}
use Rattle.mr_cmd_set.specs.declared.set_ask.SetAsk.{SetAsk}
use Rattle.mr_cmd_set.specs.declared.set_ask.SetAsk.TheVariants as set

-- of a command on sets
abbrev pub set_words : SetAsk → List (List ℕ)
set_words (set.SAdd key members) = key ∷ members
set_words (set.SRem key members) = key ∷ members
set_words (set.SIsMember key member) = key ∷ member ∷ []
set_words (set.SMIsMember key members) = key ∷ members
set_words (set.SMembers key) = key ∷ []
set_words (set.SCard key) = key ∷ []
set_words (set.SPop key count) = key ∷ []
set_words (set.SRandMember key count) = key ∷ []
set_words (set.SMove from to member) = from ∷ to ∷ member ∷ []
set_words (set.Combine operation keys) = keys
