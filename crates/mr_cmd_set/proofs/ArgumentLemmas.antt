-- What is read of a command on sets is spelled by the words.
use Rattle.std.proofs.Common.{ℕ, ◌≡◌, List, [], ◌∷◌, Some, None, refl}
use Rattle.std.specs.Prelude.{IsTrue, IfOk}
use Rattle.std.specs.List.{list_all}
use Rattle.mr_bytes.specs.Words.{fits}
use Rattle.mr_cmd_set.specs.Arguments.{sadd, srem, sismember, smismember, smembers, scard, spop, srandmember, smove, combine}
use Rattle.mr_cmd_set.specs.Called.{set_name}
use Rattle.mr_cmd_set.specs.Carried.{set_words}
use Rattle.mr_arguments.proofs.FitLemmas.{all_words, carried, carried-words, of_parts_fit}
use Rattle.mr_cmd_set.specs.Spelled.{set_parts, SetSpells}
use Rattle.mr_arguments.proofs.PartLemmas.{with_count}
use Rattle.mr_arguments.specs.declared.name.Name.{Name}
use Rattle.mr_arguments.specs.declared.name.Name.TheVariants as name
use Rattle.mr_cmd_set.specs.declared.set_ask.SetAsk.{SetAsk}
use Rattle.mr_cmd_set.specs.declared.set_ask.SetAsk.TheVariants as set
use Rattle.mr_cmd_set.specs.declared.set_ask.SetOperation.{SetOperation}

pub sadd_spells : (ws : List (List ℕ)) → IfOk (sadd ws) (SetSpells name.SAdd ws)
sadd_spells [] = tt
sadd_spells (k ∷ []) = tt
sadd_spells (k ∷ w ∷ ws) = record { name_is = refl; parts = (refl, all_words (w ∷ ws)) }

pub srem_spells : (ws : List (List ℕ)) → IfOk (srem ws) (SetSpells name.SRem ws)
srem_spells [] = tt
srem_spells (k ∷ []) = tt
srem_spells (k ∷ w ∷ ws) = record { name_is = refl; parts = (refl, all_words (w ∷ ws)) }

pub sismember_spells : (ws : List (List ℕ)) → IfOk (sismember ws) (SetSpells name.SIsMember ws)
sismember_spells (k ∷ m ∷ []) = record { name_is = refl; parts = (refl, (refl, tt)) }
sismember_spells _ = tt

pub smismember_spells : (ws : List (List ℕ)) → IfOk (smismember ws) (SetSpells name.SMIsMember ws)
smismember_spells [] = tt
smismember_spells (k ∷ []) = tt
smismember_spells (k ∷ w ∷ ws) = record { name_is = refl; parts = (refl, all_words (w ∷ ws)) }

pub smembers_spells : (ws : List (List ℕ)) → IfOk (smembers ws) (SetSpells name.SMembers ws)
smembers_spells (k ∷ []) = record { name_is = refl; parts = (refl, tt) }
smembers_spells _ = tt

pub scard_spells : (ws : List (List ℕ)) → IfOk (scard ws) (SetSpells name.SCard ws)
scard_spells (k ∷ []) = record { name_is = refl; parts = (refl, tt) }
scard_spells _ = tt

pub spop_spells : (ws : List (List ℕ)) → IfOk (spop ws) (SetSpells name.SPop ws)
spop_spells (k ∷ []) = record { name_is = refl; parts = (refl, tt) }
spop_spells (k ∷ w ∷ []) = with_count w _ _ (λ m e. record { name_is = refl; parts = (refl, (e, tt)) })
spop_spells _ = tt

pub srandmember_spells : (ws : List (List ℕ)) → IfOk (srandmember ws) (SetSpells name.SRandMember ws)
srandmember_spells (k ∷ []) = record { name_is = refl; parts = (refl, tt) }
srandmember_spells (k ∷ w ∷ []) = with_count w _ _ (λ m e. record { name_is = refl; parts = (refl, (e, tt)) })
srandmember_spells _ = tt

pub smove_spells : (ws : List (List ℕ)) → IfOk (smove ws) (SetSpells name.SMove ws)
smove_spells (from ∷ to ∷ m ∷ []) = record { name_is = refl; parts = (refl, (refl, (refl, tt))) }
smove_spells _ = tt

pub combine_spells : (n : Name) (o : SetOperation) → ((ks : List (List ℕ)) → set_name (set.Combine o ks) ≡ n) → (ws : List (List ℕ)) → IfOk (combine n o ws) (SetSpells n ws)
combine_spells n o is [] = tt
combine_spells n o is (k ∷ ks) = record { name_is = is (k ∷ ks); parts = all_words (k ∷ ks) }

carried_sets : (a : SetAsk) → carried (set_parts a) ≡ set_words a
unfolding carried
carried_sets (set.SPop key None) = refl
carried_sets (set.SPop key (Some n)) = refl
carried_sets (set.SRandMember key None) = refl
carried_sets (set.SRandMember key (Some n)) = refl
carried_sets a = carried-words (set_words a)

pub set_fits : (n : Name) (ws : List (List ℕ)) (a : SetAsk) → SetSpells n ws a → IsTrue (list_all fits ws) → IsTrue (list_all fits (set_words a))
set_fits n ws a s h = of_parts_fit ws _ _ (carried_sets a) s.parts h
