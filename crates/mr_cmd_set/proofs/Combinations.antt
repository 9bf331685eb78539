-- What several sets give.
use Rattle.std.proofs.Common.{◌≡◌, ℕ, List, [], ◌∷◌, ◌++◌, map, take, get_or, length, ◌+◌, ◌<◌, Bool, true, false, ◌&&◌, cond, Option, Some, None, refl, sym, ◌∙◌, ap}
use Rattle.std.specs.Prelude.{ℤ, ◌||◌, filter, if◌then◌else◌}
use Rattle.std.specs.declared.cmp.Ordering.TheVariants.{Equal}
use Rattle.std.specs.Borrow.{Bor}
use Rattle.std.specs.Option.{option_map, option_and_then}
use Rattle.std.specs.FinMap.{get, remove, keys, entries, retain_keys, from_sorted, entries_sorted, get-from_sorted, entries-from_sorted, get-entries, get-retain_keys, same_map}
use Rattle.std.specs.FinMap.Entries.{where_key, is_sorted-where_key, find-where_key}
use Rattle.std.proofs.lemmas.Cmp.{nat_list_cmp_total}
use Rattle.std.proofs.lemmas.Map.Lookups.{exact_bytes}
use Rattle.mr_map.specs.Bytes.{Bytes, bytes_cmp}
use Rattle.mr_cmd_set.specs.declared.set_ask.SetOperation.{SetOperation}
use Rattle.mr_cmd_set.specs.declared.set_ask.SetOperation.TheVariants as operation
use Rattle.mr_keyspace.specs.Dataset.{Dataset}
use Rattle.mr_data.specs.Dataset.{live, seen}
use Rattle.mr_keyspace.specs.declared.value.Entry.{Entry}
use Rattle.mr_data.proofs.Seeing.{get-seen}
use Rattle.mr_effect.specs.declared.effect.Effect.{Effect}
use Rattle.mr_cmd_shared.specs.Keys.{is_stored, expired, dels}
use Rattle.mr_keyspace.specs.Steps.{sets, held}
use Rattle.std.proofs.lemmas.List.{map-append, append-nil}
use Rattle.std.proofs.lemmas.List.Folds.{list_any-append}
use Rattle.mr_cmd_shared.proofs.KeyLists.{more_words}
use Rattle.mr_cmd_set.specs.Members.{Members, joined}
use Rattle.mr_cmd_set.specs.Grouping.{members_of, agrees, is_wanted}
use Rattle.mr_cmd_set.specs.Finding.{HasFound, is_any_expired}
use Rattle.mr_cmd_set.specs.Combining.{sets_at, of_two, of_all}

-- ---- the members of a set that pass a test
module _ (p : Bytes → Bool) where
  kept : (es : List (Bytes × Unit {0})) → map (λ (e : Bytes × Unit {0}). e.0) (filter (λ (e : Bytes × Unit {0}). p e.0) es) ≡ filter p (map (λ (e : Bytes × Unit {0}). e.0) es)
  kept [] = refl
  kept (e ∷ es) = elim (p e.0) as (λ b. map (λ (e : Bytes × Unit {0}). e.0) (if b then e ∷ filter (λ (e : Bytes × Unit {0}). p e.0) es else filter (λ (e : Bytes × Unit {0}). p e.0) es) ≡ (if b then e.0 ∷ filter p (map (λ (e : Bytes × Unit {0}). e.0) es) else filter p (map (λ (e : Bytes × Unit {0}). e.0) es))) [
    | true ↦ ap (λ ks. e.0 ∷ ks) (kept es)
    | false ↦ kept es
  ]

  pub alike : (q x : Bytes) → bytes_cmp q x ≡ Equal → p x ≡ p q
  alike q x t = ap p (sym (exact_bytes q x t))

  pub keys_retain : (s : Members) → keys (retain_keys s p) ≡ filter p (keys s)
  keys_retain s =
      let es = where_key bytes_cmp p (entries s) in
      let in_order = is_sorted-where_key bytes_cmp p (entries s) (entries_sorted s) in
      let same : from_sorted {R = bytes_cmp} es ≡ retain_keys s p = same_map nat_list_cmp_total exact_bytes _ _ (λ q.
      get-from_sorted bytes_cmp es q in_order
      ∙ find-where_key bytes_cmp p q (alike q) (entries s)
      ∙ ap (λ o. cond (p q) o None) (sym (get-entries s q))
      ∙ sym (get-retain_keys s p q (alike q))) in
      ap keys (sym same) ∙ ap (λ (xs : List (Bytes × Unit {0})). map (λ (e : Bytes × Unit {0}). e.0) xs) (entries-from_sorted bytes_cmp es in_order) ∙ kept (entries s)

-- ---- the members of the first set that each of the others has, or lacks
filter_twice : (p q : Bytes → Bool) (xs : List Bytes) → filter p (filter q xs) ≡ filter (λ x. q x && p x) xs
filter_twice p q [] = refl
filter_twice p q (x ∷ xs) = elim (q x) as (λ b. filter p (if b then x ∷ filter q xs else filter q xs) ≡ (if b && p x then x ∷ filter (λ y. q y && p y) xs else filter (λ y. q y && p y) xs)) [
  | true ↦ ap (λ ys. if p x then x ∷ ys else ys) (filter_twice p q xs)
  | false ↦ filter_twice p q xs
]

filter_whole : (xs : List Bytes) → filter (λ x. true) xs ≡ xs
filter_whole [] = refl
filter_whole (x ∷ xs) = ap (λ ys. x ∷ ys) (filter_whole xs)

abbrev by_wish : Bool → SetOperation
by_wish true = operation.Intersection
by_wish false = operation.Difference

two_by_wish : (wanted : Bool) (s t : Members) → of_two (by_wish wanted) s t ≡ retain_keys s (agrees wanted t)
two_by_wish true s t = refl
two_by_wish false s t = refl

pub wanted_members : (wanted : Bool) (ss : List (Bor Members)) (s : Members) → keys (of_all (by_wish wanted) s (members_of ss)) ≡ filter (is_wanted wanted ss) (keys s)
wanted_members wanted [] s = sym (filter_whole (keys s))
wanted_members wanted (t ∷ ss) s =
    wanted_members wanted ss (of_two (by_wish wanted) s t.now)
    ∙ ap (λ m. filter (is_wanted wanted ss) (keys m)) (two_by_wish wanted s t.now)
    ∙ ap (filter (is_wanted wanted ss)) (keys_retain (agrees wanted t.now) s)
    ∙ filter_twice (is_wanted wanted ss) (agrees wanted t.now) (keys s)

-- ---- one set more
pub of_all_push : (op : SetOperation) (s : Members) (ts : List Members) (t : Members) → of_all op s (ts ++ t ∷ []) ≡ of_two op (of_all op s ts) t
of_all_push op s [] t = refl
of_all_push op s (x ∷ ts) t = of_all_push op (of_two op s x) ts t

pub union_next : (s : Members) (xs : List (Bor Members)) (i : ℕ) (x : Bor Members) → i < length xs → x ≡ get_or xs i x → (old new : Members) → old ≡ of_all operation.Union s (members_of (take i xs)) → new ≡ joined old x.now → new ≡ of_all operation.Union s (members_of (take (i + 1) xs))
union_next s xs i x here is old new h e =
    e ∙ ap (λ (m : Members). joined m x.now) h
    ∙ sym (of_all_push operation.Union s (members_of (take i xs)) x.now)
    ∙ ap (of_all operation.Union s) (sym (more_words (λ (y : Bor Members). y.now) xs i x here is))

-- ---- one key more
sets_at_push : (ks : List Bytes) (k : Bytes) (m : Dataset) → sets_at (ks ++ k ∷ []) m ≡ option_and_then (λ ss. option_map (λ s. ss ++ s ∷ []) (held sets (get m k))) (sets_at ks m)
sets_at_push [] k m = elim (held sets (get m k)) as (λ h. option_and_then (λ s. option_map (λ ss. s ∷ ss) (Some [])) h ≡ option_map (λ s. s ∷ []) h) [ None ↦ refl | Some s ↦ refl ]
sets_at_push (x ∷ ks) k m =
    ap (λ o. option_and_then (λ s. option_map (λ ss. s ∷ ss) o) (held sets (get m x))) (sets_at_push ks k m)
    ∙ both (held sets (get m x)) (sets_at ks m) (held sets (get m k))
  where
    both : (a : Option Members) (b : Option (List Members)) (h : Option Members) → option_and_then (λ s. option_map (λ ss. s ∷ ss) (option_and_then (λ ss. option_map (λ t. ss ++ t ∷ []) h) b)) a ≡ option_and_then (λ ss. option_map (λ t. ss ++ t ∷ []) h) (option_and_then (λ s. option_map (λ ss. s ∷ ss) b) a)
    both None b h = refl
    both (Some s) None h = refl
    both (Some s) (Some ss) None = refl
    both (Some s) (Some ss) (Some t) = refl

pub none_found : (now : ℤ) (m : Dataset) (found : List (Bor Members)) → found ≡ [] → HasFound now m [] found false false
none_found now m found h = record { sets_are = ap (λ xs. Some (members_of xs)) h; expired_is = refl }

or_swap : (a b : Bool) → (a || (b || false)) ≡ (a || b)
or_swap true b = refl
or_swap false true = refl
or_swap false false = refl

module _ {A : Type 0} (f : A → Bytes) (xs : List A) (i : ℕ) (x : A) (here : i < length xs) (is : x ≡ get_or xs i x) (k : Bytes) (key : k ≡ f x) (now : ℤ) (m : Dataset) (found : List (Bor Members)) (other expired : Bool) (before : HasFound now m (map f (take i xs)) found other expired) (b c : Bool) (stored : b ≡ is_stored now true (get m k)) (joined_is : c ≡ (expired || b)) (o : Option Entry) (live_is : o ≡ live now (get m k)) where
  one_word : map f (take (i + 1) xs) ≡ map f (take i xs) ++ k ∷ []
  one_word = more_words f xs i x here is ∙ ap (λ y. map f (take i xs) ++ y ∷ []) (sym key)

  sets_more : sets_at (map f (take (i + 1) xs)) (seen now m) ≡ option_and_then (λ ss. option_map (λ s. ss ++ s ∷ []) (held sets o)) (if other then None else Some (members_of found))
  sets_more =
      ap (λ ks. sets_at ks (seen now m)) one_word ∙ sets_at_push (map f (take i xs)) k (seen now m)
      ∙ ap (λ (e : Option Entry). option_and_then (λ ss. option_map (λ s. ss ++ s ∷ []) (held sets e)) (sets_at (map f (take i xs)) (seen now m))) (get-seen now m k ∙ sym live_is)
      ∙ ap (option_and_then (λ ss. option_map (λ s. ss ++ s ∷ []) (held sets o))) (sym before.sets_are)

  expired_more : c ≡ is_any_expired now (map f (take (i + 1) xs)) m
  expired_more =
      joined_is ∙ ap (λ d. d || b) before.expired_is ∙ ap (λ d. is_any_expired now (map f (take i xs)) m || d) stored
      ∙ sym (or_swap (is_any_expired now (map f (take i xs)) m) (is_stored now true (get m k)))
      ∙ sym (list_any-append (λ q. is_stored now true (get m q)) (map f (take i xs)) (k ∷ []))
      ∙ ap (λ ks. is_any_expired now ks m) (sym one_word)

  -- a set is there
  pub set_found : (s : Bor Members) (more : List (Bor Members)) → Some s.now ≡ held sets o → more ≡ found ++ s ∷ [] → HasFound now m (map f (take (i + 1) xs)) more other c
  set_found s more is_set put = record {
    sets_are = ap (λ ys. if other then None else Some (members_of ys)) put
        ∙ elim other as (λ d. (if d then None else Some (members_of (found ++ s ∷ []))) ≡ option_and_then (λ ss. option_map (λ t. ss ++ t ∷ []) (Some s.now)) (if d then None else Some (members_of found))) [ true ↦ refl | false ↦ ap Some (map-append (λ (y : Bor Members). y.now) found (s ∷ [])) ]
        ∙ ap (λ h. option_and_then (λ ss. option_map (λ t. ss ++ t ∷ []) h) (if other then None else Some (members_of found))) is_set
        ∙ sym sets_more;
    expired_is = expired_more;
  }

  -- another kind is there
  pub other_found : None ≡ held sets o → HasFound now m (map f (take (i + 1) xs)) found true c
  other_found no_set = record {
    sets_are = elim other as (λ d. None ≡ option_and_then (λ ss. option_map (λ t. ss ++ t ∷ []) None) (if d then None else Some (members_of found))) [ true ↦ refl | false ↦ refl ]
        ∙ ap (λ h. option_and_then (λ ss. option_map (λ t. ss ++ t ∷ []) h) (if other then None else Some (members_of found))) no_set
        ∙ sym sets_more;
    expired_is = expired_more;
  }

-- ---- no key is expired
pub none_expired : (now : ℤ) (ks : List Bytes) (m : Dataset) → is_any_expired now ks m ≡ false → expired now ks m ≡ []
none_expired now [] m h = refl
none_expired now (k ∷ ks) m h =
    ap (λ b. if b then k ∷ expired now ks (remove m k) else expired now ks m) (left (is_stored now true (get m k)) (is_any_expired now ks m) h)
    ∙ none_expired now ks m (right (is_stored now true (get m k)) (is_any_expired now ks m) h)
  where
    left : (a b : Bool) → (a || b) ≡ false → a ≡ false
    left true b h = cc
    left false b h = refl

    right : (a b : Bool) → (a || b) ≡ false → b ≡ false
    right true b h = cc
    right false b h = h

pub no_dels : (now : ℤ) (ks : List Bytes) (m : Dataset) (es : List Effect) → is_any_expired now ks m ≡ false → es ≡ es ++ dels (expired now ks m)
no_dels now ks m es h = sym (ap (λ xs. es ++ dels xs) (none_expired now ks m h) ∙ append-nil es)
