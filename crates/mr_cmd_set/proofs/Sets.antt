-- Members of sets after each change.
use Rattle.std.proofs.Common.{◌≡◌, ℕ, ◌+◌, ◌<◌, get_or, take, map, length, List, [], ◌∷◌, ◌++◌, Bool, true, false, ◌&&◌, cond, Option, Some, None, refl, sym, ◌∙◌, ap}
use Rattle.std.specs.Prelude.{◌||◌, ◌==◌, not, is_some}
use Rattle.std.specs.FinMap.{get, empty, insert, remove, keys, contains_key, retain_keys, get-empty, get-insert, get-remove, get-retain_keys, contains_key-keys, same_map, len, entries, len-entries, len-empty}
use Rattle.std.proofs.lemmas.Bool.{eqb-true}
use Rattle.std.proofs.lemmas.List.{length-map, nil_from_length}
use Rattle.std.proofs.lemmas.Cmp.{nat_list_cmp_total}
use Rattle.std.proofs.lemmas.Map.Lookups.{exact_bytes}
use Rattle.std.proofs.Math.Bool.{or-false}
use Rattle.mr_map.specs.Bytes.{Bytes, bytes_cmp}
use Rattle.mr_map.proofs.Conditions.{or_next}
use Rattle.mr_map.proofs.Domains.{some_or}
use Rattle.mr_keyspace.specs.Collections.{with_members, without_members}
use Rattle.mr_cmd_shared.specs.Taken.{is_key, has}
use Rattle.mr_keyspace.proofs.Maps.{same_key}
use Rattle.mr_data.proofs.Folds.{members-append}
use Rattle.mr_cmd_shared.proofs.KeyLists.{more_words}
use Rattle.mr_cmd_set.specs.Members.{Members, as_set}

none_or : (b : Bool) (x : Option (Unit {0})) → is_some (cond b None x) ≡ (not b && is_some x)
none_or true x = refl
none_or false x = refl

or_none : (b : Bool) (x : Option (Unit {0})) → is_some (cond b x None) ≡ (is_some x && b)
or_none true None = refl
or_none true (Some u) = refl
or_none false None = refl
or_none false (Some u) = refl

abbrev marked : Bool → Option (Unit {0})
marked b = cond b (Some tt) None

marks : (x : Option (Unit {0})) → x ≡ marked (is_some x)
marks None = refl
marks (Some u) = refl

pub contains_empty : (q : Bytes) → contains_key {X = Unit {0}} (empty {R = bytes_cmp}) q ≡ false
contains_empty q = ap is_some (get-empty bytes_cmp q)

pub contains_insert : (s : Members) (x q : Bytes) → contains_key (insert s x tt) q ≡ (is_key q x || contains_key s q)
contains_insert s x q = ap is_some (get-insert nat_list_cmp_total s x tt q) ∙ some_or (is_key q x) (get s q)

pub contains_remove : (s : Members) (x q : Bytes) → contains_key (remove s x) q ≡ (not (is_key q x) && contains_key s q)
contains_remove s x q = ap is_some (get-remove nat_list_cmp_total s x q) ∙ none_or (is_key q x) (get s q)

pub contains_retain : (s : Members) (p : Bytes → Bool) (q : Bytes) → contains_key (retain_keys s p) q ≡ (contains_key s q && p q)
contains_retain s p q = ap is_some (get-retain_keys s p q (λ x t. ap p (sym (exact_bytes q x t)))) ∙ or_none (p q) (get s q)

-- sets of the same members
pub same_set : (s t : Members) → ((q : Bytes) → contains_key s q ≡ contains_key t q) → s ≡ t
same_set s t h = same_map nat_list_cmp_total exact_bytes s t (λ q. marks (get s q) ∙ ap marked (h q) ∙ sym (marks (get t q)))

not_next : (a b c : Bool) → (not b && (not a && c)) ≡ (not (a || b) && c)
not_next true true c = refl
not_next true false c = refl
not_next false b c = refl

pub contains_with : (xs : List Bytes) (s : Members) (q : Bytes) → contains_key (with_members xs s) q ≡ (has xs q || contains_key s q)
contains_with [] s q = refl
contains_with (x ∷ xs) s q = contains_with xs (insert s x tt) q ∙ ap (λ b. has xs q || b) (contains_insert s x q) ∙ or_next (is_key q x) (has xs q) (contains_key s q)

pub contains_without : (xs : List Bytes) (s : Members) (q : Bytes) → contains_key (without_members xs s) q ≡ (not (has xs q) && contains_key s q)
contains_without [] s q = refl
contains_without (x ∷ xs) s q = contains_without xs (remove s x) q ∙ ap (λ b. not (has xs q) && b) (contains_remove s x q) ∙ not_next (is_key q x) (has xs q) (contains_key s q)

pub contains_as_set : (xs : List Bytes) (q : Bytes) → contains_key (as_set xs) q ≡ has xs q
contains_as_set xs q = contains_with xs empty q ∙ ap (λ b. has xs q || b) (contains_empty q) ∙ or-false (has xs q)

pub has_keys : (s : Members) (q : Bytes) → has (keys s) q ≡ contains_key s q
has_keys s q = sym (contains_key-keys s q)

pub as_set_keys : (s : Members) → as_set (keys s) ≡ s
as_set_keys s = same_set (as_set (keys s)) s (λ q. contains_as_set (keys s) q ∙ has_keys s q)

-- ---- one word more
pub without_append : (xs ys : List Bytes) (s : Members) → without_members (xs ++ ys) s ≡ without_members ys (without_members xs s)
without_append [] ys s = refl
without_append (x ∷ xs) ys s = without_append xs ys (remove s x)

module _ (p : Bytes → Bool) (s : Members) (x : Bytes) where
  pub retain_one_more : p x ≡ true → retain_keys (insert s x tt) p ≡ insert (retain_keys s p) x tt
  retain_one_more h = same_set _ _ (λ q.
      contains_retain (insert s x tt) p q ∙ ap (λ b. b && p q) (contains_insert s x q)
      ∙ elim (is_key q x) as (λ b. is_key q x ≡ b → (b || contains_key s q) && p q ≡ (b || contains_key s q && p q)) [
        | true ↦ λ t. ap p (same_key q x t) ∙ h
        | false ↦ λ t. refl
      ] refl
      ∙ ap (λ b. is_key q x || b) (sym (contains_retain s p q)) ∙ sym (contains_insert (retain_keys s p) x q))

  pub retain_no_more : p x ≡ false → retain_keys (insert s x tt) p ≡ retain_keys s p
  retain_no_more h = same_set _ _ (λ q.
      contains_retain (insert s x tt) p q ∙ ap (λ b. b && p q) (contains_insert s x q)
      ∙ elim (is_key q x) as (λ b. is_key q x ≡ b → (b || contains_key s q) && p q ≡ contains_key s q && p q) [
        | true ↦ λ t. let no : p q ≡ false = ap p (same_key q x t) ∙ h in no ∙ sym (ap (λ b. contains_key s q && b) no ∙ and_false (contains_key s q))
        | false ↦ λ t. refl
      ] refl
      ∙ sym (contains_retain s p q))
    where
      and_false : (b : Bool) → b && false ≡ false
      and_false true = refl
      and_false false = refl

pub retain_empty : (p : Bytes → Bool) → retain_keys {X = Unit {0}} (empty {R = bytes_cmp}) p ≡ empty
retain_empty p = same_set _ _ (λ q. contains_retain empty p q ∙ ap (λ b. b && p q) (contains_empty q) ∙ sym (contains_empty q))

as_set_push : (xs : List Bytes) (x : Bytes) → as_set (xs ++ x ∷ []) ≡ insert (as_set xs) x tt
as_set_push xs x = members-append xs (x ∷ []) empty

-- ---- a loop over words
module _ {A : Type 0} (f : A → Bytes) (xs : List A) (i : ℕ) (x : A) (here : i < length xs) (is : x ≡ get_or xs i x) (w : Bytes) (word : w ≡ f x) where
  pub more : map f (take (i + 1) xs) ≡ map f (take i xs) ++ w ∷ []
  more = more_words f xs i x here is ∙ ap (λ y. map f (take i xs) ++ y ∷ []) (sym word)

  pub word_put : (s t : Members) → s ≡ as_set (map f (take i xs)) → t ≡ insert s w tt → t ≡ as_set (map f (take (i + 1) xs))
  word_put s t h e = e ∙ ap (λ (m : Members). insert m w tt) h ∙ sym (as_set_push (map f (take i xs)) w) ∙ ap as_set (sym more)

  module _ (p : Bytes → Bool) (s : Members) (h : s ≡ retain_keys (as_set (map f (take i xs))) p) where
    pub word_chosen : (t : Members) → p w ≡ true → t ≡ insert s w tt → t ≡ retain_keys (as_set (map f (take (i + 1) xs))) p
    word_chosen t passes e =
        e ∙ ap (λ (m : Members). insert m w tt) h
        ∙ sym (retain_one_more p (as_set (map f (take i xs))) w passes)
        ∙ ap (λ (m : Members). retain_keys m p) (sym (as_set_push (map f (take i xs)) w) ∙ ap as_set (sym more))

    pub word_left : p w ≡ false → s ≡ retain_keys (as_set (map f (take (i + 1) xs))) p
    word_left fails =
        h ∙ sym (retain_no_more p (as_set (map f (take i xs))) w fails)
        ∙ ap (λ (m : Members). retain_keys m p) (sym (as_set_push (map f (take i xs)) w) ∙ ap as_set (sym more))

-- ---- how many there are
pub len_keys : (s : Members) → len s ≡ length (keys s)
len_keys s = len-entries s ∙ sym (length-map (entries s) (λ e. e.0))

pub no_keys : (s : Members) → (len s == 0) ≡ true → keys s ≡ []
no_keys s h = nil_from_length (keys s) (sym (len_keys s) ∙ eqb-true (len s) 0 h)

pub no_members : keys {X = Unit {0}} (empty {R = bytes_cmp}) ≡ []
no_members = nil_from_length (keys empty) (sym (len_keys empty) ∙ len-empty bytes_cmp (Unit {0}))
