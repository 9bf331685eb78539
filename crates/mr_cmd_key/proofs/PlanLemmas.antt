-- Plans from what was seen at several keys.
use Rattle.std.proofs.Common.{◌≡◌, List, [], ◌∷◌, ◌++◌, append_assoc, append-nil, length, true, ℤ, pos, refl, sym, ◌∙◌, ap, arith}
use Rattle.std.specs.Prelude.{is_some, if◌then◌else◌, option_copied, Option, Some, None, false, Bool, ℕ, ◌+◌, ◌<◌, ◌≤◌, map, take, get_or}
use Rattle.mr_keyspace.specs.declared.value.Entry.{Entry}
use Rattle.std.specs.Borrow.{Bor}
use Rattle.std.specs.Int.{from_bool}
use Rattle.std.specs.FinMap.{get}
use Rattle.mr_map.specs.Bytes.{Bytes}
use Rattle.mr_resp.specs.Replies as reply
use Rattle.mr_resp.specs.Replies.{Tree}
use Rattle.mr_keyspace.specs.Dataset.{Dataset}
use Rattle.mr_data.specs.Dataset.{live, seen}
use Rattle.mr_data.proofs.Seeing.{get-seen}
use Rattle.mr_effect.specs.declared.effect.Effect.{Effect}
use Rattle.mr_effect.specs.declared.effect.Effect.TheVariants as effect
use Rattle.mr_cmd_shared.specs.Keys.{chosen, dels, is_stored, expired}
use Rattle.mr_cmd_shared.specs.Commands.{Plans, on_keys}
use Rattle.mr_cmd_shared.proofs.KeyLists.{live_test, present_seen, present_purged, more_words}
use Rattle.mr_cmd_shared.proofs.PlanLemmas.{on_keys_plans}
use Rattle.mr_cmd_key.specs.Outcomes.{one_if, present, present_at, deleted, counted}

pub del_plans : (ks : List Bytes) (now : ℤ) (m : Dataset) (n : ℤ) (old first new : List Effect) → first ≡ old ++ dels (chosen (is_stored now true) ks m) → n ≡ pos (length (chosen (is_stored now false) ks m)) → new ≡ first ++ dels (chosen (is_stored now false) ks m) → Plans (on_keys ks (deleted ks)) now m (reply.int n) old new
del_plans ks now m n old first new es count more = record {
  reply_is = ap reply.int (count ∙ ap (λ (xs : List Bytes). pos (length xs)) (sym (present_seen now ks m)));
  effects_are = more
      ∙ ap (λ xs. xs ++ dels (chosen (is_stored now false) ks m)) es
      ∙ append_assoc old (dels (expired now ks m)) (dels (chosen (is_stored now false) ks m))
      ∙ ap (λ (xs : List Bytes). old ++ (dels (expired now ks m) ++ dels xs)) (sym (present_seen now ks m) ∙ sym (present_purged now ks m));
}

-- ---- one key, from the entry that is seen there
copied_some : (o : Option (Bor Entry)) → is_some (option_copied o) ≡ is_some o
copied_some None = refl
copied_some (Some e) = refl

one_present : (now : ℤ) (k : Bytes) (m : Dataset) (o : Option (Bor Entry)) (b : Bool) → option_copied o ≡ live now (get m k) → is_some o ≡ b → chosen (is_stored now false) (k ∷ []) m ≡ (if b then k ∷ [] else [])
one_present now k m o b there is = ap (λ c. if c then k ∷ [] else []) (sym (live_test now (get m k)) ∙ ap is_some (sym there) ∙ copied_some o ∙ is)

pub none_deleted : (k : Bytes) (now : ℤ) (m : Dataset) (o : Option (Bor Entry)) (r : Tree) (old new : List Effect) → option_copied o ≡ live now (get m k) → is_some o ≡ false → new ≡ old ++ dels (expired now (k ∷ []) m) → r ≡ reply.int (pos 0) → Plans (on_keys (k ∷ []) (deleted (k ∷ []))) now m r old new
none_deleted k now m o r old new there is look replied =
    let none = one_present now k m o false there is in
    rw replied (del_plans (k ∷ []) now m (pos 0) old new new look (ap (λ (xs : List Bytes). pos (length xs)) (sym none)) (sym (append-nil new) ∙ ap (λ (xs : List Bytes). new ++ dels xs) (sym none)))

pub one_deleted : (k name : Bytes) (now : ℤ) (m : Dataset) (o : Option (Bor Entry)) (r : Tree) (old looked new : List Effect) → option_copied o ≡ live now (get m k) → is_some o ≡ true → looked ≡ old ++ dels (expired now (k ∷ []) m) → new ≡ looked ++ effect.Del name ∷ [] → name ≡ k → r ≡ reply.int (pos 1) → Plans (on_keys (k ∷ []) (deleted (k ∷ []))) now m r old new
one_deleted k name now m o r old looked new there is look more named replied =
    let one = one_present now k m o true there is in
    rw replied (del_plans (k ∷ []) now m (pos 1) old looked new look (ap (λ (xs : List Bytes). pos (length xs)) (sym one))
    (more ∙ ap (λ (x : Bytes). looked ++ effect.Del x ∷ []) named ∙ ap (λ (xs : List Bytes). looked ++ dels xs) (sym one)))

live_count : (now : ℤ) (m : Dataset) (ks : List Bytes) → present_at now m ks ≡ present (seen now m) ks
live_count now m [] = refl
live_count now m (k ∷ ks) = ap (λ (o : Option Entry). one_if (is_some o) + present_at now m ks) (sym (get-seen now m k)) ∙ ap (λ n. one_if (is_some (get (seen now m) k)) + n) (live_count now m ks)

present-push : (now : ℤ) (m : Dataset) (ks : List Bytes) (k : Bytes) → present_at now m (ks ++ k ∷ []) ≡ present_at now m ks + one_if (is_some (live now (get m k)))
present-push now m [] k = omega arith
present-push now m (x ∷ ks) k = omega (arith, present-push now m ks k)

-- how many of the first keys are there
module _ {A : Type 0} (f : A → Bytes) (now : ℤ) (m : Dataset) (xs : List A) where
  pub record Counts (n i : ℕ) : Type 0 where
    pub count : n ≡ present_at now m (map f (take i xs))
    pub few : n ≤ i

  pub counts_word : (i : ℕ) (x : A) (k : Bytes) (n : ℕ) (b : Bool) → i < length xs → x ≡ get_or xs i x → k ≡ f x → is_some (live now (get m k)) ≡ b → Counts n i → Counts (n + one_if b) (i + 1)
  counts_word i x k n b here is key there so_far = record {
    count =
        ap (λ c. n + one_if c) (sym there ∙ ap (λ y. is_some (live now (get m y))) key)
        ∙ ap (λ c. c + one_if (is_some (live now (get m (f x))))) so_far.count
        ∙ sym (present-push now m (map f (take i xs)) (f x))
        ∙ ap (present_at now m) (sym (more_words f xs i x here is));
    few = elim b as (λ c. n + one_if c ≤ i + 1) [ true ↦ omega (arith, so_far.few) | false ↦ omega (arith, so_far.few) ];
  }

pub exists_plans : (ks : List Bytes) (now : ℤ) (m : Dataset) (n : ℤ) (old new : List Effect) → new ≡ old ++ dels (expired now ks m) → n ≡ pos (present_at now m ks) → Plans (on_keys ks (counted ks)) now m (reply.int n) old new
exists_plans ks now m n old new look count = on_keys_plans ks (λ x. reply.int (pos (present x ks))) now m (reply.int n) old new look (ap reply.int (count ∙ ap pos (live_count now m ks)))

pub one_counted : (k : Bytes) (now : ℤ) (m : Dataset) (o : Option (Bor Entry)) (b : Bool) (n : ℕ) (r : Tree) (old new : List Effect) → option_copied o ≡ live now (get m k) → b ≡ is_some o → n ≡ from_bool b → r ≡ reply.int (pos n) → new ≡ old ++ dels (expired now (k ∷ []) m) → Plans (on_keys (k ∷ []) (counted (k ∷ []))) now m r old new
one_counted k now m o b n r old new there is count replied look =
    let shown : n ≡ present_at now m (k ∷ []) = count ∙ as_one b ∙ ap (λ c. one_if c + 0) (is ∙ sym (copied_some o) ∙ ap is_some there) in
    rw replied (exists_plans (k ∷ []) now m (pos n) old new look (ap pos shown))
  where
    as_one : (b : Bool) → from_bool b ≡ one_if b + 0
    as_one true = refl
    as_one false = refl
