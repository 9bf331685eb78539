-- An index of deadlines beside a map, before and after one change.
use Rattle.std.proofs.Common.{rules, ◌≡◌, ℤ, List, [], Bool, true, false, ◌&&◌, cond, Option, Some, None, refl, sym, ◌∙◌, ap, subst}
use Rattle.std.specs.Prelude.{if◌then◌else◌}
use Rattle.std.specs.Ordering.{int_eq, is_eq, eq_by_cmp}
use Rattle.std.specs.Cmp.{tied_then}
use Rattle.std.specs.FinMap.{get, insert, remove, empty, get-empty}
use Rattle.std.proofs.lemmas.Bool.Decides.{Decides-int_eq}
use Rattle.std.proofs.Math.Bool.{and-false, and-true}
use Rattle.mr_map.specs.Bytes.{Bytes, bytes_cmp}
use Rattle.mr_zset.specs.Pairs.{pair_cmp}
use Rattle.mr_keyspace.specs.Dataset.{Dataset, put_at}
use Rattle.mr_keyspace.specs.Steps.{deadline_of}
use Rattle.mr_keyspace.specs.TimedKeys.{dated, is_deadline, has, IsIndex, IsDeadlineOf, Reindexes, Updates}
use Rattle.mr_keyspace.specs.declared.timed_key.TimedKey.{TimedKey}
use Rattle.mr_keyspace.specs.declared.value.Entry.{Entry}
use Rattle.mr_keyspace.proofs.Maps.{same_key, insert_same, remove_insert, remove_absent}
use Rattle.mr_keyspace.proofs.Puts.{get_put_other}

-- an index without timed keys, beside a map without keys
pub IsIndex-empty : (m : Dataset) (s : List TimedKey) → m ≡ empty → s ≡ [] → IsIndex m s
IsIndex-empty m s none bare p =
    ap (λ (ks : List TimedKey). has ks p) bare
    ∙ sym (ap (λ (o : Option Entry). is_deadline p.1 (deadline_of o)) (ap (λ (n : Dataset). get n p.0) none ∙ get-empty bytes_cmp p.0))

-- at other keys the index says what it said, and at this one what it says now
pub IsIndex-put : (m : Dataset) (k : Bytes) (o : Option Entry) (s n : List TimedKey) → IsIndex m s → Reindexes k (deadline_of o) s n → IsIndex (put_at m k o) n
IsIndex-put m k o s n all here p =
    here p ∙ elim (eq_by_cmp bytes_cmp p.0 k) as (λ b. (if b then is_deadline p.1 (deadline_of o) else has s p) ≡ is_deadline p.1 (deadline_of (cond b o (get m p.0)))) [
      | true ↦ refl
      | false ↦ all p
    ] ∙ sym (ap (λ (e : Option Entry). is_deadline p.1 (deadline_of e)) (get_put_other m k o p.0))

-- what an index has of a key
pub of_key : (m : Dataset) (k : Bytes) (s : List TimedKey) → IsIndex m s → IsDeadlineOf k (deadline_of (get m k)) s
of_key m k s all p is = all p ∙ ap (λ (q : Bytes). is_deadline p.1 (deadline_of (get m q))) is

-- the deadline stays
pub unmoved : (k : Bytes) (d : Option ℤ) (s : List TimedKey) → IsDeadlineOf k d s → Reindexes k d s s
unmoved k d s of p = elim (eq_by_cmp bytes_cmp p.0 k) as (λ b. eq_by_cmp bytes_cmp p.0 k ≡ b → has s p ≡ (if b then is_deadline p.1 d else has s p)) [
  | true ↦ λ e. of p (same_key p.0 k e)
  | false ↦ λ e. refl
] refl

-- when a timed key is a key's with this deadline
tie : (p : Bytes × ℤ) (e : TimedKey) → is_eq (pair_cmp p (dated e)) ≡ (int_eq p.1 e.deadline && eq_by_cmp bytes_cmp p.0 e.key)
tie p e = sym (tied_then _ _)

is_itself : (a : Bool) → cond a true false ≡ a
is_itself true = refl
is_itself false = refl

not_both : (a b : Bool) → (a ≡ true → b ≡ false) → cond a false (cond b true a) ≡ b
not_both true b h = sym (h refl)
not_both false b h = is_itself b

none_left : (a : Bool) → cond a false a ≡ false
none_left true = refl
none_left false = refl

-- one timed key comes, of a key that has none
pub comes : (e : TimedKey) (s n : List TimedKey) → IsDeadlineOf e.key None s → Updates e true s n → Reindexes e.key (Some e.deadline) s n
comes e s n of u p =
    u p ∙ ap (λ b. cond b true (has s p)) (tie p e)
    ∙ elim (eq_by_cmp bytes_cmp p.0 e.key) as (λ b. eq_by_cmp bytes_cmp p.0 e.key ≡ b → cond (int_eq p.1 e.deadline && b) true (has s p) ≡ (if b then int_eq p.1 e.deadline else has s p)) [
      | true ↦ λ h. ap (λ c. cond c true (has s p)) (and-true (int_eq p.1 e.deadline)) ∙ ap (cond (int_eq p.1 e.deadline) true) (of p (same_key p.0 e.key h)) ∙ is_itself (int_eq p.1 e.deadline)
      | false ↦ λ h. ap (λ c. cond c true (has s p)) (and-false (int_eq p.1 e.deadline))
    ] refl

-- the one timed key of a key goes
pub goes_out : (e : TimedKey) (s n : List TimedKey) → IsDeadlineOf e.key (Some e.deadline) s → Updates e false s n → Reindexes e.key None s n
goes_out e s n of u p =
    u p ∙ ap (λ b. cond b false (has s p)) (tie p e)
    ∙ elim (eq_by_cmp bytes_cmp p.0 e.key) as (λ b. eq_by_cmp bytes_cmp p.0 e.key ≡ b → cond (int_eq p.1 e.deadline && b) false (has s p) ≡ (if b then false else has s p)) [
      | true ↦ λ h. ap (λ c. cond c false (has s p)) (and-true (int_eq p.1 e.deadline)) ∙ ap (cond (int_eq p.1 e.deadline) false) (of p (same_key p.0 e.key h)) ∙ none_left (int_eq p.1 e.deadline)
      | false ↦ λ h. ap (λ c. cond c false (has s p)) (and-false (int_eq p.1 e.deadline))
    ] refl

two_numbers : (a b z : ℤ) → int_eq a b ≡ false → int_eq z a ≡ true → int_eq z b ≡ false
two_numbers a b z apart h =
    let first : z ≡ a = search (rules, Decides-int_eq) in
    elim (int_eq z b) as (λ t. int_eq z b ≡ t → t ≡ false) [
      | true ↦ λ e. (let second : z ≡ b = search (rules, Decides-int_eq) in let one : a ≡ b = sym first ∙ second in let tied : int_eq a b ≡ true = search (rules, Decides-int_eq) in cc)
      | false ↦ λ e. refl
    ] refl

-- another timed key of a key comes, and its first one goes
pub moves : (first second : TimedKey) (s n r : List TimedKey) → second.key ≡ first.key → int_eq first.deadline second.deadline ≡ false → IsDeadlineOf first.key (Some first.deadline) s
    → Updates second true s n → Updates first false n r → Reindexes first.key (Some second.deadline) s r
moves first second s n r one apart of u v p =
    v p ∙ ap (λ b. cond b false (has n p)) (tie p first)
    ∙ ap (cond (int_eq p.1 first.deadline && eq_by_cmp bytes_cmp p.0 first.key) false) (u p ∙ ap (λ b. cond b true (has s p)) (tie p second ∙ ap (λ (k : Bytes). int_eq p.1 second.deadline && eq_by_cmp bytes_cmp p.0 k) one))
    ∙ elim (eq_by_cmp bytes_cmp p.0 first.key) as (λ b. eq_by_cmp bytes_cmp p.0 first.key ≡ b → cond (int_eq p.1 first.deadline && b) false (cond (int_eq p.1 second.deadline && b) true (has s p)) ≡ (if b then int_eq p.1 second.deadline else has s p)) [
      | true ↦ λ h. ap (λ c. cond c false (cond (int_eq p.1 second.deadline && true) true (has s p))) (and-true (int_eq p.1 first.deadline))
          ∙ ap (λ c. cond (int_eq p.1 first.deadline) false (cond c true (has s p))) (and-true (int_eq p.1 second.deadline))
          ∙ ap (λ c. cond (int_eq p.1 first.deadline) false (cond (int_eq p.1 second.deadline) true c)) (of p (same_key p.0 first.key h))
          ∙ not_both (int_eq p.1 first.deadline) (int_eq p.1 second.deadline) (two_numbers first.deadline second.deadline p.1 apart)
      | false ↦ λ h. ap (λ c. cond c false (cond (int_eq p.1 second.deadline && false) true (has s p))) (and-false (int_eq p.1 first.deadline))
          ∙ ap (λ c. cond c true (has s p)) (and-false (int_eq p.1 second.deadline))
    ] refl

-- numbers that are tied are one
pub same_deadline : (a b : ℤ) → int_eq a b ≡ true → a ≡ b
same_deadline a b h = search (rules, Decides-int_eq)

-- what a key has, put there again
pub IsIndex-kept : (m : Dataset) (k : Bytes) (e : Entry) (s : List TimedKey) → IsIndex m s → Some e ≡ get m k → IsIndex (insert m k e) s
IsIndex-kept m k e s all h = subst (λ (n : Dataset). IsIndex n s) (sym (insert_same m k e (sym h))) all

-- another value under the same deadline
pub IsIndex-value : (m : Dataset) (k : Bytes) (e f : Entry) (s : List TimedKey) → IsIndex m s → Some e ≡ get m k → f.deadline ≡ e.deadline → IsIndex (insert m k f) s
IsIndex-value m k e f s all h same = IsIndex-put m k (Some f) s s all (unmoved k f.deadline s (subst (λ (d : Option ℤ). IsDeadlineOf k d s) (ap deadline_of (sym h) ∙ sym same) (of_key m k s all)))

-- what an index has of a key with an entry
pub of_entry : (m : Dataset) (k : Bytes) (e : Entry) (s : List TimedKey) → IsIndex m s → Some e ≡ get m k → IsDeadlineOf k e.deadline s
of_entry m k e s all h = subst (λ (d : Option ℤ). IsDeadlineOf k d s) (ap deadline_of (sym h)) (of_key m k s all)

-- .. and of one without
pub of_none : (m : Dataset) (k : Bytes) (s : List TimedKey) → IsIndex m s → get m k ≡ None → IsDeadlineOf k None s
of_none m k s all h = subst (λ (d : Option ℤ). IsDeadlineOf k d s) (ap deadline_of h) (of_key m k s all)

is_none : (o : Option ℤ) → ((d : ℤ) → o ≡ Some d → ⊥) → o ≡ None
is_none None h = refl
is_none (Some d) h = absurd (h d refl)

module _ (m : Dataset) (k name : Bytes) (e : Entry) (s : List TimedKey) (all : IsIndex m s) (absent : get m k ≡ None) (same : name ≡ k) where
  -- a key comes without a deadline
  pub comes_without : (r : Dataset) → ((d : ℤ) → e.deadline ≡ Some d → ⊥) → r ≡ insert m name e → IsIndex r s
  comes_without r none is =
      subst (λ (n : Dataset). IsIndex n s) (sym (is ∙ ap (λ (q : Bytes). insert m q e) same))
      (IsIndex-put m k (Some e) s s all (subst (λ (d : Option ℤ). Reindexes k d s s) (sym (is_none e.deadline none)) (unmoved k None s (of_none m k s all absent))))

  -- .. or with one
  pub comes_with : (x : TimedKey) (n : List TimedKey) (r : Dataset) → x.key ≡ k → e.deadline ≡ Some x.deadline → Updates x true s n → r ≡ insert m name e → IsIndex r n
  comes_with x n r here until u is =
      subst (λ (w : Dataset). IsIndex w n) (sym (is ∙ ap (λ (q : Bytes). insert m q e) same))
      (IsIndex-put m k (Some e) s n all (subst (λ (d : Option ℤ). Reindexes k d s n) (sym until)
      (subst (λ (q : Bytes). Reindexes q (Some x.deadline) s n) here (comes x s n (subst (λ (q : Bytes). IsDeadlineOf q None s) (sym here) (of_none m k s all absent)) u))))

  -- a key that came and went
  pub came_and_went : (q : Bytes) (r : Dataset) → q ≡ k → r ≡ remove (insert m name e) q → r ≡ m
  came_and_went q r here is = is ∙ ap (λ (p : Bytes). remove (insert m p e) q) (same ∙ sym here) ∙ remove_insert m q e ∙ remove_absent m q (ap (get m) here ∙ absent)

pub same_index : (m r : Dataset) (s n : List TimedKey) → IsIndex m s → r ≡ m → n ≡ s → IsIndex r n
same_index m r s n all is keys p = ap (λ (ks : List TimedKey). has ks p) keys ∙ all p ∙ ap (λ (w : Dataset). is_deadline p.1 (deadline_of (get w p.0))) (sym is)

module _ (m : Dataset) (k : Bytes) (s : List TimedKey) (all : IsIndex m s) where
  -- a key goes that isn't there
  pub leaves_none : (r : Dataset) → get m k ≡ None → r ≡ remove m k → IsIndex r s
  leaves_none r absent is = same_index m r s s all (is ∙ remove_absent m k absent) refl

  -- .. or that has no deadline
  pub leaves_without : (e : Entry) (r : Dataset) → get m k ≡ Some e → ((d : ℤ) → e.deadline ≡ Some d → ⊥) → r ≡ remove m k → IsIndex r s
  leaves_without e r there none is =
      subst (λ (n : Dataset). IsIndex n s) (sym is) (IsIndex-put m k None s s all (unmoved k None s (subst (λ (d : Option ℤ). IsDeadlineOf k d s) (is_none e.deadline none) (of_entry m k e s all (sym there)))))

  -- .. or one
  pub leaves_with : (q : Bytes) (n : List TimedKey) (r : Dataset) → q ≡ k → Reindexes q None s n → r ≡ remove m k → IsIndex r n
  leaves_with q n r here out is =
      subst (λ (w : Dataset). IsIndex w n) (sym is) (IsIndex-put m k None s n all (subst (λ (p : Bytes). Reindexes p None s n) here out))

-- a key that is there has another entry
pub IsIndex-set : (m : Dataset) (k name : Bytes) (e : Entry) (s n : List TimedKey) → IsIndex m s → name ≡ k → Reindexes name e.deadline s n → IsIndex (insert m k e) n
IsIndex-set m k name e s n all same here = IsIndex-put m k (Some e) s n all (subst (λ (q : Bytes). Reindexes q e.deadline s n) same here)
