-- Items that are put into effects, a group at a time.
use Rattle.std.specs.Prelude.{◌==◌}
use Rattle.std.proofs.Common.{ℕ, ◌≡◌, ◌<◌, Bool, false, List, [], ◌∷◌, ◌++◌, map, length, take, drop, ◌≤◌, append_assoc, take_all, refl, sym, ◌∙◌, ap, arith}
use Rattle.std.proofs.Math.Seq.{take-append_seam, drop-append_seam}
use Rattle.std.proofs.Math.ListN.{drop_of_length-le}
use Rattle.std.specs.FinMap.{empty, keys, entries, len-entries, len-empty, entries-insert}
use Rattle.std.specs.FinMap.Entries.{put}
use Rattle.std.proofs.lemmas.List.{nil_from_length}
use Rattle.std.proofs.lemmas.Cmp.{nat_list_cmp_total}
use Rattle.mr_map.specs.Bytes.{Bytes, bytes_cmp}
use Rattle.mr_effect.specs.declared.effect.Effect.{Effect}
use Rattle.mr_keyspace.specs.Cuts.{most_items, cut}
use Rattle.mr_keyspace.proofs.Cutting.{cut_more}
use Rattle.mr_cmd_set.specs.declared.grouping.Write.{Write}
use Rattle.mr_cmd_set.specs.Members.{as_set}
use Rattle.mr_cmd_set.specs.Grouping.{group_effect, group_effects}

-- names of entries
abbrev pub names : List (Bytes × Unit {0}) → List Bytes
names es = map (λ (e : Bytes × Unit {0}). e.0) es

-- the effects so far, and those of the open group and of what is left
pub record IsPushing (f : List Bytes → Effect) (old new : List Effect) (group : List Bytes) (left : List (Bytes × Unit {0})) (all : List Bytes) : Type 0 where
  pub effects : new ++ map f (cut (group ++ names left)) ≡ old ++ map f (cut all)
  pub open_group : length group < most_items

never : 0 ≡ most_items → ⊥
never e = omega (arith, e)

module _ {A : Type 0} where
  taken_group : (g ns : List A) (n : ℕ) → length g ≡ n → take n (g ++ ns) ≡ g
  taken_group g ns n e = ap (λ k. take k (g ++ ns)) (sym e) ∙ take-append_seam g ns

  dropped_group : (g ns : List A) (n : ℕ) → length g ≡ n → drop n (g ++ ns) ≡ ns
  dropped_group g ns n e = ap (λ k. drop k (g ++ ns)) (sym e) ∙ drop-append_seam g ns

  -- a full group stands first
  pub cut_full : (g ns : List A) → length g ≡ most_items → cut (g ++ ns) ≡ g ∷ cut ns
  cut_full [] ns e = absurd (never e)
  cut_full (x ∷ g) ns e = cut_more x (g ++ ns) ∙ ap (λ h. h ∷ cut (drop most_items (x ∷ g ++ ns))) (taken_group (x ∷ g) ns most_items e) ∙ ap (λ h. (x ∷ g) ∷ cut h) (dropped_group (x ∷ g) ns most_items e)

  append_none : (g : List A) → g ++ [] ≡ g
  append_none [] = refl
  append_none (x ∷ g) = ap (λ h. x ∷ h) (append_none g)

  -- what is left is the last group
  pub cut_last : (x : A) (g : List A) → length (x ∷ g) < most_items → cut (x ∷ g) ≡ (x ∷ g) ∷ []
  cut_last x g h =
      let short : length (x ∷ g) ≤ most_items = omega (arith, h) in
      cut_more x g ∙ ap (λ h. h ∷ cut (drop most_items (x ∷ g))) (take_all most_items (x ∷ g) short) ∙ ap (λ h. (x ∷ g) ∷ cut h) (drop_of_length-le (x ∷ g) short)

module _ (f : List Bytes → Effect) (old : List Effect) (all : List Bytes) where
  after_item : (new : List Effect) (group : List Bytes) (left later : List (Bytes × Unit {0})) (x : Bytes) → IsPushing f old new group left all → names left ≡ x ∷ names later → new ++ map f (cut ((group ++ x ∷ []) ++ names later)) ≡ old ++ map f (cut all)
  after_item new group left later x p e = ap (λ xs. new ++ map f (cut xs)) (append_assoc group (x ∷ []) (names later) ∙ ap (λ xs. group ++ xs) (sym e)) ∙ p.effects

  -- the group is full
  pub group_full : (new : List Effect) (group : List Bytes) (left later : List (Bytes × Unit {0})) (x : Bytes) (more : List Effect) → IsPushing f old new group left all → names left ≡ x ∷ names later → length (group ++ x ∷ []) ≡ most_items → more ≡ new ++ f (group ++ x ∷ []) ∷ [] → IsPushing f old more [] later all
  group_full new group left later x more p e full m = record {
    effects = ap (λ es. es ++ map f (cut (names later))) m
        ∙ append_assoc new (f (group ++ x ∷ []) ∷ []) (map f (cut (names later)))
        ∙ ap (λ gs. new ++ map f gs) (sym (cut_full (group ++ x ∷ []) (names later) full))
        ∙ after_item new group left later x p e;
    open_group = omega arith;
  }

  -- the last group
  pub group_last : (new : List Effect) (group : List Bytes) (left : List (Bytes × Unit {0})) (more : List Effect) → IsPushing f old new group left all → left ≡ [] → 0 < length group → more ≡ new ++ f group ∷ [] → more ≡ old ++ map f (cut all)
  group_last new [] left more p e some m = absurd (omega (arith, some))
  group_last new (x ∷ g) left more p e some m =
      m ∙ ap (λ gs. new ++ map f gs) (sym (cut_last x g p.open_group))
      ∙ ap (λ xs. new ++ map f (cut xs)) (sym (append_none (x ∷ g)) ∙ ap (λ es. (x ∷ g) ++ names es) (sym e))
      ∙ p.effects

pub some_items : (xs : List Bytes) (b : Bool) → b ≡ (length xs == 0) → b ≡ false → 0 < length xs
some_items [] b e f = cc
some_items (x ∷ xs) b e f = omega arith

-- ---- at most one member
module _ (w : Write) (k : Bytes) (old : List Effect) where
  append_nothing : (es : List Effect) → es ++ [] ≡ es
  append_nothing [] = refl
  append_nothing (e ∷ es) = ap (λ fs. e ∷ fs) (append_nothing es)

  no_entries : entries {X = Unit {0}} (empty {R = bytes_cmp}) ≡ []
  no_entries = nil_from_length (entries empty) (sym (len-entries empty) ∙ len-empty bytes_cmp (Unit {0}))

  pub no_group : (xs : List Bytes) → xs ≡ [] → old ≡ old ++ group_effects w k (as_set xs)
  no_group xs h = sym (ap (λ ys. old ++ group_effects w k (as_set ys)) h ∙ ap (λ (es : List (Bytes × Unit {0})). old ++ map (group_effect w k) (cut (names es))) no_entries ∙ append_nothing old)

  pub one_key : (x : Bytes) → keys (as_set (x ∷ [])) ≡ x ∷ []
  one_key x = ap names (entries-insert nat_list_cmp_total empty x tt ∙ ap (put bytes_cmp x tt) no_entries)

  pub one_group : (xs : List Bytes) (x : Bytes) → xs ≡ x ∷ [] → old ++ group_effect w k (x ∷ []) ∷ [] ≡ old ++ group_effects w k (as_set xs)
  one_group xs x h = sym (ap (λ ys. old ++ group_effects w k (as_set ys)) h ∙ ap (λ ks. old ++ map (group_effect w k) (cut ks)) (one_key x))
