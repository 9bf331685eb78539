-- What is read of a command on lists is spelled by the words.
use Rattle.std.proofs.Common.{ℕ, ◌≡◌, List, [], ◌∷◌, refl, Option, Some, None}
use Rattle.std.specs.Prelude.{IsTrue, IfOk}
use Rattle.std.specs.List.{list_all}
use Rattle.mr_bytes.specs.Words.{fits}
use Rattle.mr_bytes.specs.declared.ends.End.{End}
use Rattle.mr_cmd_list.specs.Arguments.{push, pop, llen, lrange, lindex, lset, linsert, lrem, ltrim, lmove, rpoplpush}
use Rattle.mr_cmd_list.specs.Called.{list_name}
use Rattle.mr_cmd_list.specs.Carried.{list_words}
use Rattle.mr_arguments.proofs.FitLemmas.{all_words, carried, carried-words, of_parts_fit}
use Rattle.mr_cmd_list.specs.Spelled.{list_parts, ListSpells}
use Rattle.mr_arguments.proofs.PartLemmas.{with_count, with_integer}
use Rattle.mr_cmd_list.proofs.PartLemmas.{with_end, with_side}
use Rattle.mr_arguments.specs.declared.name.Name.{Name}
use Rattle.mr_arguments.specs.declared.name.Name.TheVariants as name
use Rattle.mr_cmd_list.specs.declared.list_ask.ListAsk.{ListAsk}
use Rattle.mr_cmd_list.specs.declared.list_ask.ListAsk.TheVariants as list
use Rattle.mr_cmd_list.specs.declared.list_ask.PushTo.{PushTo}

pub push_spells : (n : Name) (end : End) (to : PushTo) → ((k : List ℕ) (items : List (List ℕ)) → list_name (list.Push k end to items) ≡ n) → (ws : List (List ℕ)) → IfOk (push n end to ws) (ListSpells n ws)
push_spells n end to is [] = tt
push_spells n end to is (k ∷ []) = tt
push_spells n end to is (k ∷ w ∷ ws) = record { name_is = is k (w ∷ ws); parts = (refl, all_words (w ∷ ws)) }

pub pop_spells : (n : Name) (end : End) → ((k : List ℕ) (c : Option ℕ) → list_name (list.Pop k end c) ≡ n) → (ws : List (List ℕ)) → IfOk (pop n end ws) (ListSpells n ws)
pop_spells n end is (k ∷ []) = record { name_is = is k None; parts = (refl, tt) }
pop_spells n end is (k ∷ w ∷ []) = with_count w _ _ (λ m e. record { name_is = is k (Some m); parts = (refl, (e, tt)) })
pop_spells n end is _ = tt

pub llen_spells : (ws : List (List ℕ)) → IfOk (llen ws) (ListSpells name.LLen ws)
llen_spells (k ∷ []) = record { name_is = refl; parts = (refl, tt) }
llen_spells _ = tt

pub lrange_spells : (ws : List (List ℕ)) → IfOk (lrange ws) (ListSpells name.LRange ws)
lrange_spells (k ∷ a ∷ b ∷ []) = with_integer a _ _ (λ m e. with_integer b _ _ (λ n d. record { name_is = refl; parts = (refl, (e, (d, tt))) }))
lrange_spells _ = tt

pub lindex_spells : (ws : List (List ℕ)) → IfOk (lindex ws) (ListSpells name.LIndex ws)
lindex_spells (k ∷ i ∷ []) = with_integer i _ _ (λ n e. record { name_is = refl; parts = (refl, (e, tt)) })
lindex_spells _ = tt

pub lset_spells : (ws : List (List ℕ)) → IfOk (lset ws) (ListSpells name.LSet ws)
lset_spells (k ∷ i ∷ v ∷ []) = with_integer i _ _ (λ n e. record { name_is = refl; parts = (refl, (e, (refl, tt))) })
lset_spells _ = tt

pub linsert_spells : (ws : List (List ℕ)) → IfOk (linsert ws) (ListSpells name.LInsert ws)
linsert_spells (k ∷ s ∷ p ∷ v ∷ []) = with_side s _ _ (λ n e. record { name_is = refl; parts = (refl, (e, (refl, (refl, tt)))) })
linsert_spells _ = tt

pub lrem_spells : (ws : List (List ℕ)) → IfOk (lrem ws) (ListSpells name.LRem ws)
lrem_spells (k ∷ c ∷ v ∷ []) = with_integer c _ _ (λ n e. record { name_is = refl; parts = (refl, (e, (refl, tt))) })
lrem_spells _ = tt

pub ltrim_spells : (ws : List (List ℕ)) → IfOk (ltrim ws) (ListSpells name.LTrim ws)
ltrim_spells (k ∷ a ∷ b ∷ []) = with_integer a _ _ (λ m e. with_integer b _ _ (λ n d. record { name_is = refl; parts = (refl, (e, (d, tt))) }))
ltrim_spells _ = tt

pub lmove_spells : (ws : List (List ℕ)) → IfOk (lmove ws) (ListSpells name.LMove ws)
lmove_spells (from ∷ to ∷ a ∷ b ∷ []) = with_end a _ _ (λ m e. with_end b _ _ (λ n d. record { name_is = refl; parts = (refl, (refl, (e, (d, tt)))) }))
lmove_spells _ = tt

pub rpoplpush_spells : (ws : List (List ℕ)) → IfOk (rpoplpush ws) (ListSpells name.RPopLPush ws)
rpoplpush_spells (from ∷ to ∷ []) = record { name_is = refl; parts = (refl, (refl, tt)) }
rpoplpush_spells _ = tt

carried_lists : (a : ListAsk) → carried (list_parts a) ≡ list_words a
unfolding carried
carried_lists (list.Pop key end None) = refl
carried_lists (list.Pop key end (Some n)) = refl
carried_lists (list.LRange key first last) = refl
carried_lists (list.LIndex key index) = refl
carried_lists (list.LSet key index item) = refl
carried_lists (list.LInsert key side pivot item) = refl
carried_lists (list.LRem key count item) = refl
carried_lists (list.LTrim key first last) = refl
carried_lists (list.LMove from to taken put) = refl
carried_lists a = carried-words (list_words a)

pub list_fits : (n : Name) (ws : List (List ℕ)) (a : ListAsk) → ListSpells n ws a → IsTrue (list_all fits ws) → IsTrue (list_all fits (list_words a))
list_fits n ws a s h = of_parts_fit ws _ _ (carried_lists a) s.parts h
