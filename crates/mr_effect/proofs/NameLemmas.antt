-- Names and words.
use Rattle.std.proofs.Common.{◌≡◌, List, [], ◌∷◌, true, false, cond, Some, refl, sym, ◌∙◌, ap}
use Rattle.std.specs.Prelude.{find}
use Rattle.mr_bytes.proofs.Numbers.{same_bytes}
use Rattle.mr_map.specs.Bytes.{Bytes}
use Rattle.mr_effect.specs.Names.{text_of, names, is_named, named}
use Rattle.mr_effect.specs.declared.name.EffectName.{EffectName}
use Rattle.mr_effect.specs.declared.name.EffectName.TheVariants as name

-- each name is found, so all of them stand in the list, and no two are the same
pub named_itself : (n : EffectName) → named (text_of n) ≡ Some n
unfolding named
named_itself name.Set = refl
named_itself name.MSet = refl
named_itself name.Append = refl
named_itself name.SetRange = refl
named_itself name.IncrBy = refl
named_itself name.Del = refl
named_itself name.PExpireAt = refl
named_itself name.Persist = refl
named_itself name.Rename = refl
named_itself name.FlushAll = refl
named_itself name.Ping = refl
named_itself name.HSet = refl
named_itself name.HDel = refl
named_itself name.LPush = refl
named_itself name.RPush = refl
named_itself name.LPop = refl
named_itself name.RPop = refl
named_itself name.LSet = refl
named_itself name.LInsert = refl
named_itself name.LRem = refl
named_itself name.LTrim = refl
named_itself name.LMove = refl
named_itself name.SAdd = refl
named_itself name.SRem = refl
named_itself name.SMove = refl
named_itself name.ZAdd = refl
named_itself name.ZRem = refl

-- what was found has the name
found : (w : Bytes) (ns : List EffectName) (n : EffectName) → find (is_named w) ns ≡ Some n → w ≡ text_of n
found w [] n h = cc
found w (x ∷ ns) n h = elim (is_named w x) as (λ b. is_named w x ≡ b → cond b (Some x) (find (is_named w) ns) ≡ Some n → w ≡ text_of n) [
  | true ↦ λ t s. let same : x ≡ n = cc in sym (same_bytes _ _ t) ∙ ap text_of same
  | false ↦ λ t s. found w ns n s
] refl h

pub named_is : (w : Bytes) (n : EffectName) → named w ≡ Some n → w ≡ text_of n
unfolding named
named_is w n h = found w names n h
