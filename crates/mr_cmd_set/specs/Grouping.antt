-- What words do to a set, and the effects that say so.
use Rattle.std.specs.Prelude.{List, map, Bool, true, false, not}
use Rattle.std.specs.List.{list_all}
use Rattle.std.specs.FinMap.{contains_key, keys}
use Rattle.std.specs.Borrow.{Bor}
use Rattle.mr_map.specs.Bytes.{Bytes}
use Rattle.mr_effect.specs.declared.effect.Effect.{Effect}
use Rattle.mr_effect.specs.declared.effect.Effect.TheVariants as effect
use Rattle.mr_keyspace.specs.Cuts.{cut}
use Rattle.mr_cmd_set.specs.declared.grouping.Write.{Write}
use Rattle.mr_cmd_set.specs.declared.grouping.Write.TheVariants as write
use Rattle.mr_cmd_set.specs.Members.{Members}
use Rattle.mr_cmd_set.specs.Sets.{added, removed}

-- the words that change the set
abbrev pub changed_by : Write → List Bytes → Members → Members
changed_by write.Add = added
changed_by write.Remove = removed

-- the word changes the set
abbrev pub changes : Write → Members → Bytes → Bool
changes write.Add s x = not (contains_key s x)
changes write.Remove s x = contains_key s x

abbrev pub group_effect : Write → Bytes → List Bytes → Effect
group_effect write.Add k = effect.AddMembers k
group_effect write.Remove k = effect.RemoveMembers k

abbrev pub group_effects : Write → Bytes → Members → List Effect
group_effects w k s = map (group_effect w k) (cut (keys s))

-- what references point to
abbrev pub lent : List (Bor Bytes) → List Bytes
lent xs = map (λ (x : Bor Bytes). x.now) xs

abbrev pub members_of : List (Bor Members) → List Members
members_of ss = map (λ (s : Bor Members). s.now) ss

-- each of the sets has the member, or lacks it
abbrev pub agrees : Bool → Members → Bytes → Bool
agrees true s x = contains_key s x
agrees false s x = not (contains_key s x)

abbrev pub is_wanted : Bool → List (Bor Members) → Bytes → Bool
is_wanted wanted ss x = list_all (λ (s : Bor Members). agrees wanted s.now x) ss
