-- A collection that something was put to has an element, and one without elements keeps none.
use Rattle.std.proofs.Common.{◌≡◌, ◌<◌, ℕ, ℤ, List, [], ◌∷◌, ◌++◌, length, true, false, refl, ap, ◌∙◌, arith, length-append}
use Rattle.std.specs.Prelude.{◌==◌, IsTrue}
use Rattle.std.specs.FinMap.{empty, insert, len, len-empty}
use Rattle.std.proofs.lemmas.Bool.{ne_eqb}
use Rattle.mr_map.specs.Bytes.{Bytes, ByteMap, bytes_cmp}
use Rattle.mr_effect.specs.Effects.{is_some_of}
use Rattle.mr_bytes.specs.declared.ends.End.{End}
use Rattle.mr_bytes.specs.declared.ends.End.TheVariants.{Left, Right}
use Rattle.mr_keyspace.specs.Collections.{with_fields, without_fields, with_members, without_members, with_scores, without_scores, put_item, pushed}
use Rattle.mr_keyspace.proofs.Maps.{some_len, remove_empty}

pub positive : (n : ℕ) → 0 < n → (n == 0) ≡ false
positive n h = ne_eqb n 0 (λ e. omega (arith, e, h))

fields_stay : (ps : List (Bytes × Bytes)) (h : ByteMap Bytes) → 0 < len h → 0 < len (with_fields ps h)
fields_stay [] h some = some
fields_stay (p ∷ ps) h some = fields_stay ps (insert h p.0 p.1) (some_len h p.0 p.1)

pub with_fields_some : (ps : List (Bytes × Bytes)) (h : ByteMap Bytes) → IsTrue (is_some_of ps) → (len (with_fields ps h) == 0) ≡ false
with_fields_some [] h some = cc
with_fields_some (p ∷ ps) h some = positive _ (fields_stay ps (insert h p.0 p.1) (some_len h p.0 p.1))

members_stay : (xs : List Bytes) (s : ByteMap (Unit {0})) → 0 < len s → 0 < len (with_members xs s)
members_stay [] s some = some
members_stay (x ∷ xs) s some = members_stay xs (insert s x tt) (some_len s x tt)

pub with_members_some : (xs : List Bytes) (s : ByteMap (Unit {0})) → IsTrue (is_some_of xs) → (len (with_members xs s) == 0) ≡ false
with_members_some [] s some = cc
with_members_some (x ∷ xs) s some = positive _ (members_stay xs (insert s x tt) (some_len s x tt))

scores_stay : (ps : List (Bytes × ℤ)) (s : ByteMap ℤ) → 0 < len s → 0 < len (with_scores ps s)
scores_stay [] s some = some
scores_stay (p ∷ ps) s some = scores_stay ps (insert s p.0 p.1) (some_len s p.0 p.1)

pub with_scores_some : (ps : List (Bytes × ℤ)) (s : ByteMap ℤ) → IsTrue (is_some_of ps) → (len (with_scores ps s) == 0) ≡ false
with_scores_some [] s some = cc
with_scores_some (p ∷ ps) s some = positive _ (scores_stay ps (insert s p.0 p.1) (some_len s p.0 p.1))

put_some : (end : End) (x : Bytes) (xs : List Bytes) → 0 < length (put_item end x xs)
put_some Left x xs = let more : 0 < length (x ∷ xs) = omega arith in more
put_some Right x xs = let more : 0 < length (xs ++ x ∷ []) = omega (arith, length-append xs (x ∷ [])) in more

items_stay : (end : End) (new xs : List Bytes) → 0 < length xs → 0 < length (pushed end new xs)
items_stay end [] xs some = some
items_stay end (x ∷ new) xs some = items_stay end new (put_item end x xs) (put_some end x xs)

pub pushed_some : (end : End) (new xs : List Bytes) → IsTrue (is_some_of new) → (length (pushed end new xs) == 0) ≡ false
pushed_some end [] xs some = cc
pushed_some end (x ∷ new) xs some = positive _ (items_stay end new (put_item end x xs) (put_some end x xs))

pub without_fields_none : (fs : List Bytes) → without_fields fs empty ≡ empty
without_fields_none [] = refl
without_fields_none (f ∷ fs) = ap (without_fields fs) (remove_empty f) ∙ without_fields_none fs

pub without_members_none : (xs : List Bytes) → without_members xs empty ≡ empty
without_members_none [] = refl
without_members_none (x ∷ xs) = ap (without_members xs) (remove_empty x) ∙ without_members_none xs

pub without_scores_none : (xs : List Bytes) → without_scores xs empty ≡ empty
without_scores_none [] = refl
without_scores_none (x ∷ xs) = ap (without_scores xs) (remove_empty x) ∙ without_scores_none xs

pub no_elements : (X : Type 0) → (len (empty {X = X} {R = bytes_cmp}) == 0) ≡ true
no_elements X = ap (λ n. n == 0) (len-empty bytes_cmp X)
