-- Lists of keys that are taken out of a dataset.
use Rattle.std.proofs.Common.{ℕ, ◌<◌, get_or, take, add-zero, ◌≡◌, ℤ, List, [], ◌∷◌, ◌++◌, length, length-append, append_assoc, ◌+◌, Bool, true, false, cond, Option, Some, None, refl, sym, ◌∙◌, ap, subst}
use Rattle.std.specs.Prelude.{◌||◌, is_some, if◌then◌else◌, IsTrue, not, map}
use Rattle.std.specs.List.{list_all}
use Rattle.std.specs.Option.{option_and_then}
use Rattle.std.specs.FinMap.{get, remove}
use Rattle.std.proofs.lemmas.List.{take_more, map-append}
use Rattle.std.proofs.lemmas.Bool.{and_from}
use Rattle.mr_map.specs.Bytes.{Bytes}
use Rattle.mr_bytes.specs.Words.{fits}
use Rattle.mr_bytes.proofs.Both.{first, second}
use Rattle.mr_keyspace.specs.Dataset.{Dataset}
use Rattle.mr_data.specs.Dataset.{is_expired, live, seen, IsDataset}
use Rattle.mr_keyspace.specs.Changes.{change}
use Rattle.mr_data.specs.Meaning.{apply, apply_all}
use Rattle.mr_data.proofs.Seeing.{get-seen}
use Rattle.mr_keyspace.specs.declared.value.Entry.{Entry}
use Rattle.mr_effect.specs.declared.effect.Effect.{Effect}
use Rattle.mr_effect.specs.declared.effect.Effect.TheVariants as effect
use Rattle.mr_cmd_shared.specs.Taken.{is_key, has}
use Rattle.mr_cmd_shared.specs.Keys.{chosen, without, dels, is_stored}
use Rattle.mr_cmd_shared.specs.Keys.{expired, purged}
use Rattle.mr_keyspace.proofs.Maps.{same_key, remove_absent}
use Rattle.mr_keyspace.proofs.Puts.{is_key_itself, is_key_symm, get_remove, removed}

-- ---- effects one after another
pub apply_all-append : (xs ys : List Effect) (m : Dataset) → apply_all (xs ++ ys) m ≡ option_and_then (apply_all ys) (apply_all xs m)
apply_all-append [] ys m = refl
apply_all-append (x ∷ xs) ys m = elim (apply x m) as (λ o. option_and_then (apply_all (xs ++ ys)) o ≡ option_and_then (apply_all ys) (option_and_then (apply_all xs) o)) [ None ↦ refl | Some n ↦ apply_all-append xs ys n ]

-- one DEL for each key leads to the dataset without them
pub dels_lead : (ks : List Bytes) (m : Dataset) → IsTrue (list_all fits ks) → apply_all (dels ks) m ≡ Some (without ks m)
unfolding apply change
dels_lead [] m h = refl
dels_lead (k ∷ ks) m h = ap (λ b. option_and_then (apply_all (dels ks)) (if b then Some (remove m k) else None)) (first _ _ h) ∙ dels_lead ks (remove m k) (second _ _ h)

pub chosen_fits : (test : Option Entry → Bool) (ks : List Bytes) (m : Dataset) → IsTrue (list_all fits ks) → IsTrue (list_all fits (chosen test ks m))
chosen_fits test [] m h = refl
chosen_fits test (k ∷ ks) m h = elim (test (get m k)) as (λ b. IsTrue (list_all fits (if b then k ∷ chosen test ks (remove m k) else chosen test ks m))) [
  | true ↦ and_from _ _ (first _ _ h) (chosen_fits test ks (remove m k) (second _ _ h))
  | false ↦ chosen_fits test ks m (second _ _ h)
]

-- ---- keys that are there
absent : (o : Option Entry) → is_some o ≡ false → o ≡ None
absent None h = refl
absent (Some e) h = cc

pub without_chosen : (ks : List Bytes) (m : Dataset) → without (chosen is_some ks m) m ≡ without ks m
without_chosen [] m = refl
without_chosen (k ∷ ks) m = elim (is_some (get m k)) as (λ b. is_some (get m k) ≡ b → without (if b then k ∷ chosen is_some ks (remove m k) else chosen is_some ks m) m ≡ without ks (remove m k)) [
  | true ↦ λ t. without_chosen ks (remove m k)
  | false ↦ λ t. without_chosen ks m ∙ ap (without ks) (sym (remove_absent m k (absent _ t)))
] refl

-- a key that isn't there stays away
without_absent : (ks : List Bytes) (m : Dataset) (q : Bytes) → get m q ≡ None → get (without ks m) q ≡ None
without_absent [] m q h = h
without_absent (k ∷ ks) m q h = without_absent ks (remove m k) q (get_remove m k q ∙ elim (is_key q k) as (λ b. cond b None (get m q) ≡ None) [ true ↦ refl | false ↦ h ])

pub none_chosen : (ks : List Bytes) (m : Dataset) → without ks m ≡ m → chosen is_some ks m ≡ []
none_chosen [] m h = refl
none_chosen (k ∷ ks) m h = elim (is_some (get m k)) as (λ b. is_some (get m k) ≡ b → (if b then k ∷ chosen is_some ks (remove m k) else chosen is_some ks m) ≡ []) [
  | true ↦ λ t. let is_removed : get m k ≡ None = ap (λ (x : Dataset). get x k) (sym h) ∙ without_absent ks (remove m k) k (removed m k) in let wrong : true ≡ false = sym t ∙ ap is_some is_removed in cc
  | false ↦ λ t. none_chosen ks m (ap (without ks) (sym (remove_absent m k (absent _ t))) ∙ h)
] refl

-- ---- keys of which two datasets hold the same
abbrev pub AgreeOn : List Bytes → Dataset → Dataset → Type 0
AgreeOn ks m n = (q : Bytes) → has ks q ≡ true → get m q ≡ get n q

either : (a b : Bool) → b ≡ true → a || b ≡ true
either true b h = refl
either false b h = h

named_first : (k : Bytes) (ks : List Bytes) → has (k ∷ ks) k ≡ true
named_first k ks = ap (λ b. b || has ks k) (is_key_itself k)

-- two tests that agree on the keys choose the same
test_after : (t u : Option Entry → Bool) (k : Bytes) (ks : List Bytes) (m n : Dataset) → t None ≡ u None → ((q : Bytes) → has (k ∷ ks) q ≡ true → t (get m q) ≡ u (get n q)) → (q : Bytes) → has ks q ≡ true → t (get (remove m k) q) ≡ u (get (remove n k) q)
test_after t u k ks m n e h q named = ap t (get_remove m k q) ∙ elim (is_key q k) as (λ b. t (cond b None (get m q)) ≡ u (cond b None (get n q))) [ true ↦ e | false ↦ h q (either _ _ named) ] ∙ ap u (sym (get_remove n k q))

pub chosen_alike : (t u : Option Entry → Bool) (ks : List Bytes) (m n : Dataset) → t None ≡ u None → ((q : Bytes) → has ks q ≡ true → t (get m q) ≡ u (get n q)) → chosen t ks m ≡ chosen u ks n
chosen_alike t u [] m n e h = refl
chosen_alike t u (k ∷ ks) m n e h =
    ap (λ b. if b then k ∷ chosen t ks (remove m k) else chosen t ks m) (h k (named_first k ks))
    ∙ ap (λ xs. if u (get n k) then k ∷ xs else chosen t ks m) (chosen_alike t u ks (remove m k) (remove n k) e (test_after t u k ks m n e h))
    ∙ ap (λ xs. if u (get n k) then k ∷ chosen u ks (remove n k) else xs) (chosen_alike t u ks m n e (λ q named. h q (either _ _ named)))

-- ---- expired keys
-- of the keys that are named, those that are expired are deleted
stays : (now : ℤ) (o : Option Entry) → is_stored now true o ≡ false → live now o ≡ o
stays now None h = refl
stays now (Some e) h = ap (λ b. if b then None else Some e) h

goes : (now : ℤ) (o : Option Entry) → is_stored now true o ≡ true → live now o ≡ None
goes now None h = refl
goes now (Some e) h = ap (λ b. if b then None else Some e) h

pub get_purged : (now : ℤ) (ks : List Bytes) (m : Dataset) (q : Bytes) → get (purged now ks m) q ≡ cond (has ks q) (live now (get m q)) (get m q)
get_purged now [] m q = refl
get_purged now (k ∷ ks) m q = elim (is_stored now true (get m k)) as (λ b. is_stored now true (get m k) ≡ b → get (without (if b then k ∷ expired now ks (remove m k) else expired now ks m) m) q ≡ cond (is_key q k || has ks q) (live now (get m q)) (get m q)) [
  | true ↦ λ t. get_purged now ks (remove m k) q ∙ ap (λ o. cond (has ks q) (live now o) o) (get_remove m k q) ∙ here t (is_key q k) refl (has ks q)
  | false ↦ λ t. get_purged now ks m q ∙ there t (is_key q k) refl (has ks q)
] refl
  where
    here : is_stored now true (get m k) ≡ true → (b : Bool) → is_key q k ≡ b → (c : Bool) → cond c (live now (cond b None (get m q))) (cond b None (get m q)) ≡ cond (b || c) (live now (get m q)) (get m q)
    here t true e true = sym (ap (λ (x : Bytes). live now (get m x)) (same_key q k e) ∙ goes now (get m k) t)
    here t true e false = sym (ap (λ (x : Bytes). live now (get m x)) (same_key q k e) ∙ goes now (get m k) t)
    here t false e true = refl
    here t false e false = refl

    there : is_stored now true (get m k) ≡ false → (b : Bool) → is_key q k ≡ b → (c : Bool) → cond c (live now (get m q)) (get m q) ≡ cond (b || c) (live now (get m q)) (get m q)
    there t true e true = refl
    there t true e false = let same : get m q ≡ get m k = ap (get m) (same_key q k e) in sym (ap (live now) same ∙ stays now (get m k) t ∙ sym same)
    there t false e true = refl
    there t false e false = refl

pub purged_seen : (now : ℤ) (ks : List Bytes) (m : Dataset) → AgreeOn ks (purged now ks m) (seen now m)
purged_seen now ks m q h = get_purged now ks m q ∙ ap (λ b. cond b (live now (get m q)) (get m q)) h ∙ sym (get-seen now m q)

-- what is there of what is seen is stored and not expired
pub live_test : (now : ℤ) (o : Option Entry) → is_some (live now o) ≡ is_stored now false o
live_test now None = refl
live_test now (Some e) = elim (is_expired now e.deadline) as (λ b. is_some (if b then None else Some e) ≡ not b) [ true ↦ refl | false ↦ refl ]

pub present_seen : (now : ℤ) (ks : List Bytes) (m : Dataset) → chosen is_some ks (seen now m) ≡ chosen (is_stored now false) ks m
present_seen now ks m = chosen_alike is_some (is_stored now false) ks (seen now m) m refl (λ q named. ap is_some (get-seen now m q) ∙ live_test now (get m q))

pub present_purged : (now : ℤ) (ks : List Bytes) (m : Dataset) → chosen is_some ks (purged now ks m) ≡ chosen is_some ks (seen now m)
present_purged now ks m = chosen_alike is_some is_some ks (purged now ks m) (seen now m) refl (λ q named. ap is_some (purged_seen now ks m q named))

-- ---- one key more
get_without : (ks : List Bytes) (m : Dataset) (q : Bytes) → get (without ks m) q ≡ cond (has ks q) None (get m q)
get_without [] m q = refl
get_without (k ∷ ks) m q = get_without ks (remove m k) q ∙ ap (cond (has ks q) None) (get_remove m k q) ∙ elim (is_key q k) as (λ b. cond (has ks q) None (cond b None (get m q)) ≡ cond (b || has ks q) None (get m q)) [
  | true ↦ elim (has ks q) as (λ c. let none : Option Entry = None in cond c none none ≡ none) [ true ↦ refl | false ↦ refl ]
  | false ↦ refl
]

abbrev one_more : Bool → Bytes → List Bytes
one_more b k = if b then k ∷ [] else []

chosen-push : (test : Option Entry → Bool) (ks : List Bytes) (k : Bytes) (m : Dataset) → chosen test (ks ++ k ∷ []) m ≡ chosen test ks m ++ one_more (test (get (without (chosen test ks m) m) k)) k
chosen-push test [] k m = elim (test (get m k)) as (λ b. (if b then k ∷ [] else []) ≡ one_more b k) [ true ↦ refl | false ↦ refl ]
chosen-push test (x ∷ ks) k m = elim (test (get m x)) as (λ b. (if b then x ∷ chosen test (ks ++ k ∷ []) (remove m x) else chosen test (ks ++ k ∷ []) m) ≡ (if b then x ∷ chosen test ks (remove m x) else chosen test ks m) ++ one_more (test (get (without (if b then x ∷ chosen test ks (remove m x) else chosen test ks m) m) k)) k) [
  | true ↦ ap (λ xs. x ∷ xs) (chosen-push test ks k (remove m x))
  | false ↦ chosen-push test ks k m
]

-- whether the key is one more
more_of : (test : Option Entry → Bool) (ks : List Bytes) (k : Bytes) (m : Dataset) (b : Bool) → test (cond (has (chosen test ks m) k) None (get m k)) ≡ b → chosen test (ks ++ k ∷ []) m ≡ chosen test ks m ++ one_more b k
more_of test ks k m b h = chosen-push test ks k m ∙ ap (λ c. chosen test ks m ++ one_more c k) (ap test (get_without (chosen test ks m) m k) ∙ h)

-- what a loop over the keys has taken
pub record HasTaken (test : Option Entry → Bool) (ks : List Bytes) (m : Dataset) (taken : List Bytes) (old new : List Effect) : Type 0 where
  pub effects : new ≡ old ++ dels (chosen test ks m)
  pub same : (q : Bytes) → has taken q ≡ has (chosen test ks m) q
  pub len : length taken ≡ length (chosen test ks m)

append_none : {A : Type 0} (xs : List A) → xs ++ [] ≡ xs
append_none [] = refl
append_none (x ∷ xs) = ap (λ ys. x ∷ ys) (append_none xs)

still : (test : Option Entry → Bool) (ks : List Bytes) (k : Bytes) (m : Dataset) (taken : List Bytes) (old new : List Effect) → HasTaken test ks m taken old new → test (cond (has (chosen test ks m) k) None (get m k)) ≡ false → HasTaken test (ks ++ k ∷ []) m taken old new
still test ks k m taken old new t h =
    let same : chosen test (ks ++ k ∷ []) m ≡ chosen test ks m = more_of test ks k m false h ∙ append_none (chosen test ks m) in
    record {
      effects = t.effects ∙ ap (λ xs. old ++ dels xs) (sym same);
      same = λ q. t.same q ∙ ap (λ xs. has xs q) (sym same);
      len = t.len ∙ ap length (sym same);
    }

-- the key isn't chosen
pub not_chosen : (test : Option Entry → Bool) (ks : List Bytes) (k : Bytes) (m : Dataset) (taken : List Bytes) (old new : List Effect) → test None ≡ false → HasTaken test ks m taken old new → test (get m k) ≡ false → HasTaken test (ks ++ k ∷ []) m taken old new
not_chosen test ks k m taken old new e t h = still test ks k m taken old new t (elim (has (chosen test ks m) k) as (λ b. test (cond b None (get m k)) ≡ false) [ true ↦ e | false ↦ h ])

-- the key was taken before
pub taken_before : (test : Option Entry → Bool) (ks : List Bytes) (k : Bytes) (m : Dataset) (taken : List Bytes) (old new : List Effect) → test None ≡ false → HasTaken test ks m taken old new → has taken k ≡ true → HasTaken test (ks ++ k ∷ []) m taken old new
taken_before test ks k m taken old new e t h = still test ks k m taken old new t (ap (λ b. test (cond b None (get m k))) (sym (t.same k) ∙ h) ∙ e)

has-push : (ks : List Bytes) (k q : Bytes) → has (ks ++ k ∷ []) q ≡ (is_key q k || has ks q)
has-push [] k q = refl
has-push (x ∷ ks) k q = ap (λ b. is_key q x || b) (has-push ks k q) ∙ swapped (is_key q x) (is_key q k) (has ks q)
  where
    swapped : (a b c : Bool) → (a || (b || c)) ≡ (b || (a || c))
    swapped true true c = refl
    swapped true false c = refl
    swapped false b c = refl

dels-push : (ks : List Bytes) (k : Bytes) → dels (ks ++ k ∷ []) ≡ dels ks ++ effect.Del k ∷ []
dels-push [] k = refl
dels-push (x ∷ ks) k = ap (λ es. effect.Del x ∷ es) (dels-push ks k)

-- the key is taken
pub took : (test : Option Entry → Bool) (ks : List Bytes) (k : Bytes) (m : Dataset) (taken later : List Bytes) (old new list : List Effect) → HasTaken test ks m taken old new → test (get m k) ≡ true → has taken k ≡ false → ((q : Bytes) → has later q ≡ (is_key k q || has taken q)) → length later ≡ length taken + 1 → list ≡ new ++ effect.Del k ∷ [] → HasTaken test (ks ++ k ∷ []) m later old list
took test ks k m taken later old new list t h f has_later len_later more =
    let is : chosen test (ks ++ k ∷ []) m ≡ chosen test ks m ++ k ∷ [] = more_of test ks k m true (ap (λ b. test (cond b None (get m k))) (sym (t.same k) ∙ f) ∙ h) in
    record {
      effects = more ∙ ap (λ xs. xs ++ effect.Del k ∷ []) t.effects ∙ append_assoc old (dels (chosen test ks m)) (effect.Del k ∷ []) ∙ ap (λ xs. old ++ xs) (sym (dels-push (chosen test ks m) k)) ∙ ap (λ xs. old ++ dels xs) (sym is);
      same = λ q. has_later q ∙ ap (λ b. b || has taken q) (is_key_symm k q) ∙ ap (λ b. is_key q k || b) (t.same q) ∙ sym (has-push (chosen test ks m) k q) ∙ ap (λ xs. has xs q) (sym is);
      len = len_later ∙ ap (λ n. n + 1) t.len ∙ sym (ap length is ∙ length-append (chosen test ks m) (k ∷ []));
    }

-- one word more
pub more_words : {A B : Type 0} (f : A → B) (xs : List A) (i : ℕ) (x : A) → i < length xs → x ≡ get_or xs i x → map f (take (i + 1) xs) ≡ map f (take i xs) ++ f x ∷ []
more_words f xs i x h is = ap (map f) (take_more xs i x h ∙ ap (λ y. take i xs ++ y ∷ []) (sym is)) ∙ map-append f (take i xs) (x ∷ [])

-- before the first word
pub none_taken : (test : Option Entry → Bool) (m : Dataset) (taken : List Bytes) (old : List Effect) → taken ≡ [] → HasTaken test [] m taken old old
none_taken test m taken old h = record {
  effects = sym (append_none old);
  same = λ q. ap (λ xs. has xs q) h;
  len = ap length h;
}

module _ {A : Type 0} (f : A → Bytes) (xs : List A) (i : ℕ) (x : A) (here : i < length xs) (is : x ≡ get_or xs i x) (k : Bytes) (key : k ≡ f x) where
  one_word : map f (take (i + 1) xs) ≡ map f (take i xs) ++ k ∷ []
  one_word = more_words f xs i x here is ∙ ap (λ y. map f (take i xs) ++ y ∷ []) (sym key)

  pub word_not_chosen : (test : Option Entry → Bool) (m : Dataset) (taken : List Bytes) (old new : List Effect) → test None ≡ false → HasTaken test (map f (take i xs)) m taken old new → test (get m k) ≡ false → HasTaken test (map f (take (i + 1) xs)) m taken old new
  word_not_chosen test m taken old new e t h = subst (λ ks. HasTaken test ks m taken old new) (sym one_word) (not_chosen test (map f (take i xs)) k m taken old new e t h)

  pub word_taken_before : (test : Option Entry → Bool) (m : Dataset) (taken later : List Bytes) (old new : List Effect) → test None ≡ false → HasTaken test (map f (take i xs)) m taken old new → has taken k ≡ true → ((q : Bytes) → has later q ≡ (is_key k q || has taken q)) → length later ≡ length taken + 0 → HasTaken test (map f (take (i + 1) xs)) m later old new
  word_taken_before test m taken later old new e t h has_later len_later =
      let before = taken_before test (map f (take i xs)) k m taken old new e t h in
      subst (λ ks. HasTaken test ks m later old new) (sym one_word) (record {
        effects = before.effects;
        same = λ q. has_later q ∙ known q ∙ before.same q;
        len = len_later ∙ add-zero (length taken) ∙ before.len;
      })
    where
      known : (q : Bytes) → (is_key k q || has taken q) ≡ has taken q
      known q = elim (is_key k q) as (λ b. is_key k q ≡ b → (b || has taken q) ≡ has taken q) [
        | true ↦ λ s. sym (ap (has taken) (sym (same_key k q s)) ∙ h)
        | false ↦ λ s. refl
      ] refl

  pub word_taken : (test : Option Entry → Bool) (m : Dataset) (taken later : List Bytes) (old new list : List Effect) (name : Bytes) → HasTaken test (map f (take i xs)) m taken old new → test (get m k) ≡ true → has taken k ≡ false → ((q : Bytes) → has later q ≡ (is_key k q || has taken q)) → length later ≡ length taken + 1 → list ≡ new ++ effect.Del name ∷ [] → name ≡ k → HasTaken test (map f (take (i + 1) xs)) m later old list
  word_taken test m taken later old new list name t h n has_later len_later more named = subst (λ ks. HasTaken test ks m later old list) (sym one_word) (took test (map f (take i xs)) k m taken later old new list t h n has_later len_later (more ∙ ap (λ y. new ++ effect.Del y ∷ []) named))

pub not_true : (b : Bool) → true ≡ not b → b ≡ false
not_true true h = cc
not_true false h = refl

pub not_false : (b : Bool) → false ≡ not b → b ≡ true
not_false true h = refl
not_false false h = cc

-- ---- what a dataset keeps, it keeps without expired keys
live_is : (now : ℤ) (o : Option Entry) (e : Entry) → live now o ≡ Some e → o ≡ Some e
live_is now None e h = h
live_is now (Some f) e h = elim (is_expired now f.deadline) as (λ b. (let none : Option Entry = None in cond b none (Some f)) ≡ Some e → Some f ≡ Some e) [ true ↦ λ i. cc | false ↦ λ i. i ] h

pub purged_kept : (now : ℤ) (ks : List Bytes) (m : Dataset) → IsDataset m → IsDataset (purged now ks m)
purged_kept now ks m h = record {
  entries = λ k e is. h.entries k e (elim (has ks k) as (λ b. cond b (live now (get m k)) (get m k) ≡ Some e → get m k ≡ Some e) [ true ↦ λ i. live_is now (get m k) e i | false ↦ λ i. i ] (sym (get_purged now ks m k) ∙ is));
}
