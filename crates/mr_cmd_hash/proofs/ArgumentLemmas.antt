-- What is read of a command on hashes is spelled by the words.
use Rattle.std.proofs.Common.{ℕ, ◌≡◌, List, [], ◌∷◌, map, refl, subst}
use Rattle.std.specs.Prelude.{IsTrue, IfOk}
use Rattle.std.specs.List.{list_all}
use Rattle.mr_bytes.specs.Words.{fits}
use Rattle.mr_cmd_hash.specs.Arguments.{hset, hsetnx, hget, hmget, list_hash, hdel, hexists, hlen, hstrlen, hincrby}
use Rattle.mr_cmd_hash.specs.Called.{hash_name}
use Rattle.mr_cmd_hash.specs.Carried.{hash_words}
use Rattle.mr_arguments.specs.Spelling.{Word, AreParts}
use Rattle.mr_arguments.proofs.FitLemmas.{all_words, carried, carried-words, of_parts_fit}
use Rattle.mr_cmd_hash.specs.Spelled.{hash_parts, HashSpells}
use Rattle.mr_arguments.proofs.PartLemmas.{with_integer, with_pairs}
use Rattle.mr_arguments.specs.declared.name.Name.{Name}
use Rattle.mr_arguments.specs.declared.name.Name.TheVariants as name
use Rattle.mr_cmd_hash.specs.declared.hash_ask.HashAsk.{HashAsk}
use Rattle.mr_cmd_hash.specs.declared.hash_ask.HashAsk.TheVariants as hash
use Rattle.mr_cmd_hash.specs.declared.hash_ask.FieldsReply.{FieldsReply}
use Rattle.mr_cmd_hash.specs.declared.hash_ask.HashPart.{HashPart}
use Rattle.mr_arguments.specs.declared.fault.AskFault.TheVariants.{Arity}

pub hset_spells : (n : Name) (r : FieldsReply) → ((k : List ℕ) (ps : List (List ℕ × List ℕ)) → hash_name (hash.HSet k ps r) ≡ n) → (ws : List (List ℕ)) → IfOk (hset n r ws) (HashSpells n ws)
hset_spells n r is [] = tt
hset_spells n r is (k ∷ []) = tt
hset_spells n r is (k ∷ w ∷ ws) = with_pairs (w ∷ ws) (Arity n) _ _ (λ pairs e. record {
  name_is = is k pairs;
  parts = (refl, subst (λ (xs : List (List ℕ)). AreParts (w ∷ ws) (map Word xs)) e (all_words (w ∷ ws)));
})

pub hsetnx_spells : (ws : List (List ℕ)) → IfOk (hsetnx ws) (HashSpells name.HSetNx ws)
hsetnx_spells (k ∷ f ∷ v ∷ []) = record { name_is = refl; parts = (refl, (refl, (refl, tt))) }
hsetnx_spells _ = tt

pub hget_spells : (ws : List (List ℕ)) → IfOk (hget ws) (HashSpells name.HGet ws)
hget_spells (k ∷ f ∷ []) = record { name_is = refl; parts = (refl, (refl, tt)) }
hget_spells _ = tt

pub hmget_spells : (ws : List (List ℕ)) → IfOk (hmget ws) (HashSpells name.HMGet ws)
hmget_spells [] = tt
hmget_spells (k ∷ []) = tt
hmget_spells (k ∷ w ∷ ws) = record { name_is = refl; parts = (refl, all_words (w ∷ ws)) }

pub list_hash_spells : (n : Name) (p : HashPart) → ((k : List ℕ) → hash_name (hash.ListHash k p) ≡ n) → (ws : List (List ℕ)) → IfOk (list_hash n p ws) (HashSpells n ws)
list_hash_spells n p is (k ∷ []) = record { name_is = is k; parts = (refl, tt) }
list_hash_spells n p is _ = tt

pub hdel_spells : (ws : List (List ℕ)) → IfOk (hdel ws) (HashSpells name.HDel ws)
hdel_spells [] = tt
hdel_spells (k ∷ []) = tt
hdel_spells (k ∷ w ∷ ws) = record { name_is = refl; parts = (refl, all_words (w ∷ ws)) }

pub hexists_spells : (ws : List (List ℕ)) → IfOk (hexists ws) (HashSpells name.HExists ws)
hexists_spells (k ∷ f ∷ []) = record { name_is = refl; parts = (refl, (refl, tt)) }
hexists_spells _ = tt

pub hlen_spells : (ws : List (List ℕ)) → IfOk (hlen ws) (HashSpells name.HLen ws)
hlen_spells (k ∷ []) = record { name_is = refl; parts = (refl, tt) }
hlen_spells _ = tt

pub hstrlen_spells : (ws : List (List ℕ)) → IfOk (hstrlen ws) (HashSpells name.HStrLen ws)
hstrlen_spells (k ∷ f ∷ []) = record { name_is = refl; parts = (refl, (refl, tt)) }
hstrlen_spells _ = tt

pub hincrby_spells : (ws : List (List ℕ)) → IfOk (hincrby ws) (HashSpells name.HIncrBy ws)
hincrby_spells (k ∷ f ∷ by ∷ []) = with_integer by _ _ (λ n e. record { name_is = refl; parts = (refl, (refl, (e, tt))) })
hincrby_spells _ = tt

carried_hashes : (a : HashAsk) → carried (hash_parts a) ≡ hash_words a
unfolding carried
carried_hashes (hash.HIncrBy key field by) = refl
carried_hashes a = carried-words (hash_words a)

pub hash_fits : (n : Name) (ws : List (List ℕ)) (a : HashAsk) → HashSpells n ws a → IsTrue (list_all fits ws) → IsTrue (list_all fits (hash_words a))
hash_fits n ws a s h = of_parts_fit ws _ _ (carried_hashes a) s.parts h
