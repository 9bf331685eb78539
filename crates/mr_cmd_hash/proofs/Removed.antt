-- What is left where fields go.
use Rattle.std.proofs.Common.{◌≡◌, List, [], ◌∷◌, Bool, true, false, ◌&&◌, cond, Option, Some, None, IsTrue, T, map, refl, sym, ◌∙◌, ap}
use Rattle.std.specs.Prelude.{◌||◌, filter, is_some}
use Rattle.std.specs.List.{list_all, AllByRecursion}
use Rattle.std.specs.Ordering.{is_eq, is_lt}
use Rattle.std.specs.FinMap.{empty, get, insert, remove, keys, contains_key, contains_key-keys, get-empty, get-insert, get-remove, same_map, entries, entries_sorted, is_sorted}
use Rattle.std.specs.FinMap.Entries.{below_all}
use Rattle.std.proofs.lemmas.Cmp.{nat_list_cmp_total}
use Rattle.std.proofs.lemmas.Map.Lookups.{exact_bytes}
use Rattle.std.proofs.Math.Bool.{or-false}
use Rattle.mr_data.proofs.Entries.{turned}
use Rattle.mr_map.specs.Bytes.{Bytes, ByteMap, bytes_cmp}
use Rattle.mr_map.proofs.Conditions.{first_holds, second_holds, or_next}
use Rattle.mr_bytes.specs.Words.{fits}
use Rattle.mr_keyspace.specs.Collections.{without_fields, with_members}
use Rattle.mr_cmd_shared.specs.Taken.{has, is_key}
use Rattle.mr_keyspace.proofs.Maps.{same_key}
use Rattle.mr_keyspace.proofs.Puts.{is_key_itself}
use Rattle.mr_cmd_hash.specs.Hashes.{Hash, removed}

abbrev Names : Type 0
Names = ByteMap (Unit {0})

removed_next : {X : Type 0} (a b : Bool) (o : Option X) → cond b None (cond a None o) ≡ cond (a || b) None o
removed_next true true o = refl
removed_next true false o = refl
removed_next false b o = refl

get_without : (fs : List Bytes) (h : Hash) (q : Bytes) → get (without_fields fs h) q ≡ cond (has fs q) None (get h q)
get_without [] h q = refl
get_without (f ∷ fs) h q = get_without fs (remove h f) q ∙ ap (cond (has fs q) None) (get-remove nat_list_cmp_total h f q) ∙ removed_next (is_key q f) (has fs q) (get h q)

-- ---- the fields that are named
some_put : {X : Type 0} (b : Bool) (v : X) (o : Option X) → is_some (cond b (Some v) o) ≡ (b || is_some o)
some_put true v o = refl
some_put false v o = refl

contains_with : (xs : List Bytes) (s : Names) (q : Bytes) → contains_key (with_members xs s) q ≡ (has xs q || contains_key s q)
contains_with [] s q = refl
contains_with (x ∷ xs) s q = contains_with xs (insert s x tt) q ∙ ap (λ b. has xs q || b) (ap is_some (get-insert nat_list_cmp_total s x tt q) ∙ some_put (is_key q x) tt (get s q)) ∙ or_next (is_key q x) (has xs q) (contains_key s q)

has_names : (fs : List Bytes) (q : Bytes) → has (keys (with_members fs empty)) q ≡ has fs q
has_names fs q = sym (contains_key-keys (with_members fs empty) q) ∙ contains_with fs empty q ∙ ap (λ b. has fs q || b) (ap is_some (get-empty bytes_cmp q)) ∙ or-false (has fs q)

-- those of them that are there
has_filter : (p : Bytes → Bool) (xs : List Bytes) (q : Bytes) → has (filter p xs) q ≡ (has xs q && p q)
has_filter p [] q = refl
has_filter p (x ∷ xs) q = elim (p x) as (λ b. p x ≡ b → has (cond b (x ∷ filter p xs) (filter p xs)) q ≡ ((is_key q x || has xs q) && p q)) [
  | true ↦ λ t. ap (λ b. is_key q x || b) (has_filter p xs q) ∙ elim (is_key q x) as (λ b. is_key q x ≡ b → (b || (has xs q && p q)) ≡ ((b || has xs q) && p q)) [
    | true ↦ λ s. sym (ap p (same_key q x s) ∙ t)
    | false ↦ λ s. refl
  ] refl
  | false ↦ λ t. has_filter p xs q ∙ elim (is_key q x) as (λ b. is_key q x ≡ b → (has xs q && p q) ≡ ((b || has xs q) && p q)) [
    | true ↦ λ s. let no : p q ≡ false = ap p (same_key q x s) ∙ t in neither (has xs q) (p q) no
    | false ↦ λ s. refl
  ] refl
] refl
  where
    neither : (a b : Bool) → b ≡ false → (a && b) ≡ b
    neither true b h = refl
    neither false b h = sym h

has_removed : (fs : List Bytes) (h : Hash) (q : Bytes) → has (removed fs h) q ≡ (has fs q && contains_key h q)
has_removed fs h q = has_filter (contains_key h) (keys (with_members fs empty)) q ∙ ap (λ b. b && contains_key h q) (has_names fs q)

removed_there : {X : Type 0} (b : Bool) (o : Option X) → cond (b && is_some o) None o ≡ cond b None o
removed_there true None = refl
removed_there true (Some x) = refl
removed_there false o = refl

-- the fields that are there are all that need to go
pub without_removed : (fs : List Bytes) (h : Hash) → without_fields fs h ≡ without_fields (removed fs h) h
without_removed fs h = same_map nat_list_cmp_total exact_bytes _ _ (λ q.
    get_without fs h q ∙ sym (removed_there (has fs q) (get h q)) ∙ ap (λ b. cond b None (get h q)) (sym (has_removed fs h q)) ∙ sym (get_without (removed fs h) h q))

none_has : (xs : List Bytes) → ((q : Bytes) → has xs q ≡ false) → xs ≡ []
none_has [] h = refl
none_has (x ∷ xs) h = let wrong : true ≡ false = sym (ap (λ b. b || has xs x) (is_key_itself x)) ∙ h x in cc

stays : {X : Type 0} (b : Bool) (o : Option X) → cond b None o ≡ o → (b && is_some o) ≡ false
stays true None h = refl
stays true (Some x) h = cc
stays false o h = refl

-- where nothing becomes another, no field that is named is there
pub none_removed : (fs : List Bytes) (h : Hash) → without_fields fs h ≡ h → removed fs h ≡ []
none_removed fs h same = none_has (removed fs h) (λ q. has_removed fs h q ∙ stays (has fs q) (get h q) (sym (get_without fs h q) ∙ ap (λ (m : Hash). get m q) same))

-- ---- words within the limit
one_fits : (fs : List Bytes) (q : Bytes) → IsTrue (list_all fits fs) → has fs q ≡ true → fits q ≡ true
one_fits [] q fit h = cc
one_fits (f ∷ fs) q fit h = elim (is_key q f) as (λ b. is_key q f ≡ b → (b || has fs q) ≡ true → fits q ≡ true) [
  | true ↦ λ t i. ap fits (same_key q f t) ∙ left (fits f) (list_all fits fs) fit
  | false ↦ λ t i. one_fits fs q (right (fits f) (list_all fits fs) fit) i
] refl h
  where
    left : (a b : Bool) → IsTrue (a && b) → a ≡ true
    left true b h = refl
    left false b h = cc

    right : (a b : Bool) → IsTrue (a && b) → IsTrue b
    right true b h = h
    right false b h = cc

all_fit : (xs : List Bytes) → ((q : Bytes) → has xs q ≡ true → fits q ≡ true) → IsTrue (list_all fits xs)
all_fit [] h = refl
all_fit (x ∷ xs) h = both (fits x) (list_all fits xs) (h x (ap (λ b. b || has xs x) (is_key_itself x))) (all_fit xs (λ q t. h q (ap (λ b. is_key q x || b) t ∙ or_true (is_key q x))))
  where
    both : (a b : Bool) → a ≡ true → b ≡ true → (a && b) ≡ true
    both true b h i = i
    both false b h i = cc

    or_true : (b : Bool) → (b || true) ≡ true
    or_true true = refl
    or_true false = refl

first_true : (a b : Bool) → (a && b) ≡ true → a ≡ true
first_true true b h = refl
first_true false b h = cc

pub removed_fit : (fs : List Bytes) (h : Hash) → IsTrue (list_all fits fs) → IsTrue (list_all fits (removed fs h))
removed_fit fs h fit = all_fit (removed fs h) (λ q t. one_fits fs q fit (first_true (has fs q) (contains_key h q) (sym (has_removed fs h q) ∙ t)))

-- ---- names that are apart
abbrev pub NamesApart : List Bytes → Type 0
NamesApart [] = Unit {0}
NamesApart (x ∷ xs) = AllByRecursion (λ (y : Bytes). is_key y x ≡ false) xs × NamesApart xs

below_names : {X : Type 0} (k : Bytes) (es : List (Bytes × X)) → T (below_all bytes_cmp k es) → AllByRecursion (λ (y : Bytes). is_key y k ≡ false) (map (λ e. e.0) es)
below_names k [] h = tt
below_names k (e ∷ es) h = (ap is_eq (nat_list_cmp_total.antisymm e.0 k) ∙ turned (bytes_cmp k e.0) (first_holds _ _ h), below_names k es (second_holds (is_lt (bytes_cmp k e.0)) _ h))

sorted_names : {X : Type 0} (es : List (Bytes × X)) → T (is_sorted bytes_cmp es) → NamesApart (map (λ e. e.0) es)
sorted_names [] h = tt
sorted_names (e ∷ es) h = (below_names e.0 es (first_holds _ _ h), sorted_names es (second_holds (below_all bytes_cmp e.0 es) _ h))

pub names_apart : (s : Names) → NamesApart (keys s)
names_apart s = sorted_names (entries s) (entries_sorted s)

-- each name once is enough
pub with_names : (fs : List Bytes) (h : Hash) → without_fields fs h ≡ without_fields (keys (with_members fs empty)) h
with_names fs h = same_map nat_list_cmp_total exact_bytes _ _ (λ q.
    get_without fs h q ∙ ap (λ b. cond b None (get h q)) (sym (has_names fs q)) ∙ sym (get_without (keys (with_members fs empty)) h q))
