-- What differs between two sets, and how it leads from the one to the other.
use Rattle.std.proofs.Common.{◌≡◌, ℤ, List, [], ◌∷◌, ◌++◌, map, Bool, true, false, ◌&&◌, not, cond, Option, Some, None, refl, sym, ◌∙◌, ap}
use Rattle.std.specs.Prelude.{is_some, filter, if◌then◌else◌}
use Rattle.std.specs.List.{AllByRecursion, flat_map, list_all}
use Rattle.std.specs.Ordering.{int_eq}
use Rattle.std.specs.FinMap.{get, empty, insert, keys, entries, contains_key, retain_keys, get-insert, get-empty, entries-insert}
use Rattle.std.specs.FinMap.Entries.{put}
use Rattle.std.proofs.lemmas.Cmp.{nat_list_cmp_total}
use Rattle.mr_map.specs.Bytes.{Bytes, bytes_cmp}
use Rattle.mr_keyspace.specs.Collections.{with_scores, without_scores}
use Rattle.mr_cmd_shared.specs.Taken.{is_key, has}
use Rattle.mr_keyspace.proofs.Maps.{same_key}
use Rattle.mr_cmd_zset.specs.Scores.{Scores, is_same, changed, changed_alone, lost, over}
use Rattle.mr_data.proofs.Entries.{own_entries, all_map, all_true}
use Rattle.mr_cmd_zset.proofs.Entries.{entries_retained}
use Rattle.mr_cmd_zset.proofs.Maps.{same_score, same_itself, or_else, get_over, same_scores, get_without, get_retained, has_keys, no_entries, retained_none}

wrong : false ≡ true → ⊥
wrong h = cc

abbrev no_score : Option ℤ
no_score = None

cond_none : (b : Bool) → cond b no_score no_score ≡ no_score
cond_none true = refl
cond_none false = refl

abbrev differs : Scores → Scores → Bytes → Bool
differs s t x = not (is_same (get s x) (get t x))

-- ---- scores that are set
led : (a b : Option ℤ) → (is_some a ≡ true → is_some b ≡ true) → or_else (cond (not (is_same a b)) b None) a ≡ b
led None None g = refl
led None (Some z) g = refl
led (Some y) None g = absurd (wrong (g refl))
led (Some y) (Some z) g = elim (int_eq y z) as (λ b. int_eq y z ≡ b → or_else (cond (not b) (Some z) None) (Some y) ≡ Some z) [
  | true ↦ λ e. ap Some (same_score y z e)
  | false ↦ λ e. refl
] refl

pub with_changed : (s t : Scores) → ((q : Bytes) → is_some (get s q) ≡ true → is_some (get t q) ≡ true) → with_scores (changed s t) s ≡ t
with_changed s t grown = same_scores _ _ (λ q.
    get_over (retain_keys t (differs s t)) s q
    ∙ ap (λ o. or_else o (get s q)) (get_retained t (differs s t) q)
    ∙ led (get s q) (get t q) (grown q))

pub none_changed : (s t : Scores) → t ≡ s → changed s t ≡ []
none_changed s t e = ap entries (retained_none t (differs s t) (λ q. ap (λ (x : Scores). cond (not (is_same (get x q) (get t q))) (get t q) None) (sym e) ∙ ap (λ b. cond (not b) (get t q) None) (same_itself (get t q)))) ∙ no_entries

passed : (b : Bool) (o : Option ℤ) (z : ℤ) → cond b o None ≡ Some z → o ≡ Some z
passed true o z h = h
passed false o z h = cc

pub changed_all : (p : Bytes × ℤ → Bool) (s t : Scores) → ((q : Bytes) (z : ℤ) → get t q ≡ Some z → p (q, z) ≡ true) → list_all p (changed s t) ≡ true
changed_all p s t h = all_true p (changed s t) (all_map _ (λ (x : Bytes × ℤ). p x ≡ true) (λ x is. h x.0 x.1 (passed _ _ _ (sym (get_retained t (differs s t) x.0) ∙ is))) (changed s t) (own_entries (retain_keys t (differs s t))))

-- the same of what lies over a set
pub changed_over : (w s : Scores) → changed s w ≡ changed s (over w s)
changed_over w s = ap entries (same_scores _ _ (λ q.
    get_retained w (differs s w) q
    ∙ alike (get w q) (get s q)
    ∙ sym (get_retained (over w s) (differs s (over w s)) q ∙ ap (λ o. cond (not (is_same (get s q) o)) o None) (get_over w s q))))
  where
    alike : (a b : Option ℤ) → cond (not (is_same b a)) a None ≡ cond (not (is_same b (or_else a b))) (or_else a b) None
    alike None b = cond_none (not (is_same b None)) ∙ sym (ap (λ c. cond (not c) b None) (same_itself b))
    alike (Some z) b = refl

-- one entry after another
abbrev pub alone : Scores → Bytes × ℤ → List (Bytes × ℤ)
alone s e = changed_alone e.0 (get s e.0) (Some e.1)

filter_alone : (s w : Scores) (es : List (Bytes × ℤ)) → AllByRecursion (λ (x : Bytes × ℤ). get w x.0 ≡ Some x.1) es → filter (λ (e : Bytes × ℤ). differs s w e.0) es ≡ flat_map (alone s) es
filter_alone s w [] h = refl
filter_alone s w (e ∷ es) h =
    ap (λ o. cond (not (is_same (get s e.0) o)) (e ∷ filter (λ (x : Bytes × ℤ). differs s w x.0) es) (filter (λ (x : Bytes × ℤ). differs s w x.0) es)) h.0
    ∙ split (is_same (get s e.0) (Some e.1)) (filter (λ (x : Bytes × ℤ). differs s w x.0) es)
    ∙ ap (λ xs. alone s e ++ xs) (filter_alone s w es h.1)
  where
    split : (b : Bool) (xs : List (Bytes × ℤ)) → cond (not b) (e ∷ xs) xs ≡ (if b then [] else e ∷ []) ++ xs
    split true xs = refl
    split false xs = refl

pub changed_alones : (s w : Scores) → changed s w ≡ flat_map (alone s) (entries w)
changed_alones s w = entries_retained w (differs s w) ∙ filter_alone s w (entries w) (own_entries w)

-- where one member alone may have another score
abbrev only_entry : Bytes → Option ℤ → Option ℤ → Scores
only_entry x before None = empty
only_entry x before (Some z) = if is_same before (Some z) then empty else insert empty x z

entries_only : (x : Bytes) (a b : Option ℤ) → entries (only_entry x a b) ≡ changed_alone x a b
entries_only x a None = no_entries
entries_only x a (Some z) = elim (is_same a (Some z)) as (λ c. entries (if c then empty else insert {R = bytes_cmp} empty x z) ≡ (if c then [] else (x, z) ∷ [])) [
  | true ↦ no_entries
  | false ↦ entries-insert nat_list_cmp_total empty x z ∙ ap (put bytes_cmp x z) no_entries
]

get_only : (x q : Bytes) (a b : Option ℤ) → get (only_entry x a b) q ≡ cond (is_key q x) (cond (not (is_same a b)) b None) None
get_only x q a None = get-empty bytes_cmp q ∙ sym (ap (λ o. cond (is_key q x) o no_score) (cond_none (not (is_same a None))) ∙ cond_none (is_key q x))
get_only x q a (Some z) = elim (is_same a (Some z)) as (λ c. get (if c then empty else insert {R = bytes_cmp} empty x z) q ≡ cond (is_key q x) (cond (not c) (Some z) None) None) [
  | true ↦ get-empty bytes_cmp q ∙ sym (cond_none (is_key q x))
  | false ↦ get-insert nat_list_cmp_total empty x z q ∙ ap (cond (is_key q x) (Some z)) (get-empty bytes_cmp q)
]

pub changed_one : (s t : Scores) (x : Bytes) → ((q : Bytes) → is_key q x ≡ false → get t q ≡ get s q) → changed s t ≡ changed_alone x (get s x) (get t x)
changed_one s t x others = ap entries (same_scores _ _ (λ q.
    get_retained t (differs s t) q
    ∙ elim (is_key q x) as (λ b. is_key q x ≡ b → cond (not (is_same (get s q) (get t q))) (get t q) None ≡ cond b (cond (not (is_same (get s x) (get t x))) (get t x) None) None) [
      | true ↦ λ e. ap (λ (k : Bytes). cond (not (is_same (get s k) (get t k))) (get t k) None) (same_key q x e)
      | false ↦ λ e. ap (λ o. cond (not (is_same (get s q) o)) o None) (others q e) ∙ ap (λ b. cond (not b) (get s q) None) (same_itself (get s q))
    ] refl
    ∙ sym (get_only x q (get s x) (get t x)))) ∙ entries_only x (get s x) (get t x)

-- ---- members that go
abbrev misses : Scores → Bytes → Bool
misses t x = not (contains_key t x)

left_over : (a b : Option ℤ) → (is_some b ≡ true → b ≡ a) → cond (is_some (cond (not (is_some b)) a None)) None a ≡ b
left_over None None g = refl
left_over (Some y) None g = refl
left_over a (Some z) g = sym (g refl)

pub has_lost : (s t : Scores) (q : Bytes) → has (lost s t) q ≡ is_some (cond (not (is_some (get t q))) (get s q) None)
has_lost s t q = has_keys (retain_keys s (misses t)) q ∙ ap is_some (get_retained s (misses t) q)

pub without_lost : (s t : Scores) → ((q : Bytes) → is_some (get t q) ≡ true → get t q ≡ get s q) → without_scores (lost s t) s ≡ t
without_lost s t part = same_scores _ _ (λ q.
    get_without (lost s t) s q ∙ ap (λ b. cond b None (get s q)) (has_lost s t q) ∙ left_over (get s q) (get t q) (part q))

pub none_lost : (s t : Scores) → t ≡ s → lost s t ≡ []
none_lost s t e = ap keys (retained_none s (misses t) (λ q. ap (λ (x : Scores). cond (not (is_some (get x q))) (get s q) None) e ∙ stays (get s q))) ∙ ap (map (λ (x : Bytes × ℤ). x.0)) no_entries
  where
    stays : (o : Option ℤ) → cond (not (is_some o)) o None ≡ None
    stays None = refl
    stays (Some z) = refl

names_all : (p : Bytes → Bool) (es : List (Bytes × ℤ)) → AllByRecursion (λ (x : Bytes × ℤ). p x.0 ≡ true) es → list_all p (map (λ (x : Bytes × ℤ). x.0) es) ≡ true
names_all p [] h = refl
names_all p (e ∷ es) h = ap (λ b. b && list_all p (map (λ (x : Bytes × ℤ). x.0) es)) h.0 ∙ names_all p es h.1

pub lost_all : (p : Bytes → Bool) (s t : Scores) → ((q : Bytes) (z : ℤ) → get s q ≡ Some z → p q ≡ true) → list_all p (lost s t) ≡ true
lost_all p s t h = names_all p (entries (retain_keys s (misses t))) (all_map _ (λ (x : Bytes × ℤ). p x.0 ≡ true) (λ x is. h x.0 x.1 (passed _ _ _ (sym (get_retained s (misses t) x.0) ∙ is))) (entries (retain_keys s (misses t))) (own_entries (retain_keys s (misses t))))
