-- What is done to a collection leaves each of its byte strings within the limit.
use Rattle.std.proofs.Common.{ℕ, zero, suc, ℤ, ◌-◌, ◌≡◌, List, [], ◌∷◌, length, take, drop, Bool, true, false, ◌&&◌, cond, IsTrue, Some, None, refl, sym, ◌∙◌, ap, subst}
use Rattle.std.specs.Prelude.{is_some, slice_get, slice_set, slice_range, insert as insert_at, not, nat_lt, if◌then◌else◌, pos, negsuc}
use Rattle.std.specs.List.{All, list_all}
use Rattle.std.specs.Str.{bytes_eq}
use Rattle.std.specs.FinMap.{get, insert, remove, empty, contains_key, get-empty, get-insert, get-remove}
use Rattle.std.specs.Ordering.{eq_by_cmp}
use Rattle.std.proofs.lemmas.Cmp.{nat_list_cmp_total}
use Rattle.std.proofs.lemmas.List.Elements.{All-cons, All-head, All-tail, All-append, All-set, All-push, All-take, All-drop, All-filter}
use Rattle.mr_map.specs.Bytes.{Bytes, ByteMap, bytes_cmp}
use Rattle.mr_bytes.specs.Words.{fits}
use Rattle.mr_value.specs.Lists.{count_of, without, without_first, without_last}
use Rattle.mr_effect.specs.Effects.{pair_fits, member_fits, has_score}
use Rattle.mr_score.specs.Score.{is_score}
use Rattle.mr_bytes.specs.declared.ends.End.{End}
use Rattle.mr_bytes.specs.declared.ends.End.TheVariants.{Left, Right}
use Rattle.mr_bytes.proofs.Both.{first, second}
use Rattle.mr_data.specs.Dataset.{IsWord}
use Rattle.mr_keyspace.specs.Collections.{with_fields, without_fields, with_members, without_members, with_scores, without_scores, put_item, pushed, popped, end_item}
use Rattle.mr_keyspace.proofs.Maps.{same_key}

-- ---- hashes

abbrev pub FieldsFit : ByteMap Bytes → Type 0
FieldsFit h = (f v : Bytes) → get h f ≡ Some v → IsWord f × IsWord v

pub no_fields : FieldsFit empty
no_fields f v h = let none : None ≡ Some v = sym (get-empty bytes_cmp f) ∙ h in cc

field_put : (h : ByteMap Bytes) (f v : Bytes) → FieldsFit h → IsWord f → IsWord v → FieldsFit (insert h f v)
field_put h f v old fit_f fit_v g w is =
    elim (eq_by_cmp bytes_cmp g f) as (λ b. eq_by_cmp bytes_cmp g f ≡ b → cond b (Some v) (get h g) ≡ Some w → IsWord g × IsWord w) [
      | true ↦ λ t s. let same : v ≡ w = cc in (subst IsWord (sym (same_key g f t)) fit_f, subst IsWord same fit_v)
      | false ↦ λ t s. old g w s
    ] refl (sym (get-insert nat_list_cmp_total h f v g) ∙ is)

field_removed : (h : ByteMap Bytes) (f : Bytes) → FieldsFit h → FieldsFit (remove h f)
field_removed h f old g w is =
    elim (eq_by_cmp bytes_cmp g f) as (λ b. cond b None (get h g) ≡ Some w → IsWord g × IsWord w) [
      | true ↦ λ s. cc
      | false ↦ λ s. old g w s
    ] (sym (get-remove nat_list_cmp_total h f g) ∙ is)

pub with_fields_fit : (ps : List (Bytes × Bytes)) (h : ByteMap Bytes) → IsTrue (list_all pair_fits ps) → FieldsFit h → FieldsFit (with_fields ps h)
with_fields_fit [] h fit old = old
with_fields_fit (p ∷ ps) h fit old =
    let here = first (pair_fits p) (list_all pair_fits ps) fit in
    with_fields_fit ps (insert h p.0 p.1) (second (pair_fits p) (list_all pair_fits ps) fit) (field_put h p.0 p.1 old (first (fits p.0) (fits p.1) here) (second (fits p.0) (fits p.1) here))

pub without_fields_fit : (fs : List Bytes) (h : ByteMap Bytes) → FieldsFit h → FieldsFit (without_fields fs h)
without_fields_fit [] h old = old
without_fields_fit (f ∷ fs) h old = without_fields_fit fs (remove h f) (field_removed h f old)

-- ---- sets

abbrev pub MembersFit : ByteMap (Unit {0}) → Type 0
MembersFit s = (x : Bytes) → IsTrue (contains_key s x) → IsWord x

pub no_members : MembersFit empty
no_members x h = let wrong : false ≡ true = sym (ap is_some (get-empty bytes_cmp x)) ∙ h in cc

member_put : (s : ByteMap (Unit {0})) (x : Bytes) → MembersFit s → IsWord x → MembersFit (insert s x tt)
member_put s x old fit y is =
    elim (eq_by_cmp bytes_cmp y x) as (λ b. eq_by_cmp bytes_cmp y x ≡ b → is_some (cond b (Some tt) (get s y)) ≡ true → IsWord y) [
      | true ↦ λ t h. subst IsWord (sym (same_key y x t)) fit
      | false ↦ λ t h. old y h
    ] refl (sym (ap is_some (get-insert nat_list_cmp_total s x tt y)) ∙ is)

member_removed : (s : ByteMap (Unit {0})) (x : Bytes) → MembersFit s → MembersFit (remove s x)
member_removed s x old y is =
    elim (eq_by_cmp bytes_cmp y x) as (λ b. is_some (cond b None (get s y)) ≡ true → IsWord y) [
      | true ↦ λ h. cc
      | false ↦ λ h. old y h
    ] (sym (ap is_some (get-remove nat_list_cmp_total s x y)) ∙ is)

pub with_members_fit : (xs : List Bytes) (s : ByteMap (Unit {0})) → IsTrue (list_all fits xs) → MembersFit s → MembersFit (with_members xs s)
with_members_fit [] s fit old = old
with_members_fit (x ∷ xs) s fit old = with_members_fit xs (insert s x tt) (second (fits x) (list_all fits xs) fit) (member_put s x old (first (fits x) (list_all fits xs) fit))

pub without_members_fit : (xs : List Bytes) (s : ByteMap (Unit {0})) → MembersFit s → MembersFit (without_members xs s)
without_members_fit [] s old = old
without_members_fit (x ∷ xs) s old = without_members_fit xs (remove s x) (member_removed s x old)

-- ---- sorted sets

abbrev pub ScoresFit : ByteMap ℤ → Type 0
ScoresFit s = (x : Bytes) (z : ℤ) → get s x ≡ Some z → IsWord x × IsTrue (is_score z)

pub no_scores : ScoresFit empty
no_scores x z h = let none : None ≡ Some z = sym (get-empty bytes_cmp x) ∙ h in cc

score_put : (s : ByteMap ℤ) (x : Bytes) (z : ℤ) → ScoresFit s → IsWord x → IsTrue (is_score z) → ScoresFit (insert s x z)
score_put s x z old fit within y u is =
    elim (eq_by_cmp bytes_cmp y x) as (λ b. eq_by_cmp bytes_cmp y x ≡ b → cond b (Some z) (get s y) ≡ Some u → IsWord y × IsTrue (is_score u)) [
      | true ↦ λ t h. let same : z ≡ u = cc in (subst IsWord (sym (same_key y x t)) fit, subst (λ (n : ℤ). IsTrue (is_score n)) same within)
      | false ↦ λ t h. old y u h
    ] refl (sym (get-insert nat_list_cmp_total s x z y) ∙ is)

score_removed : (s : ByteMap ℤ) (x : Bytes) → ScoresFit s → ScoresFit (remove s x)
score_removed s x old y u is =
    elim (eq_by_cmp bytes_cmp y x) as (λ b. cond b None (get s y) ≡ Some u → IsWord y × IsTrue (is_score u)) [
      | true ↦ λ h. cc
      | false ↦ λ h. old y u h
    ] (sym (get-remove nat_list_cmp_total s x y) ∙ is)

pub with_scores_fit : (ps : List (Bytes × ℤ)) (s : ByteMap ℤ) → IsTrue (list_all member_fits ps) → IsTrue (list_all has_score ps) → ScoresFit s → ScoresFit (with_scores ps s)
with_scores_fit [] s fit within old = old
with_scores_fit (p ∷ ps) s fit within old =
    with_scores_fit ps (insert s p.0 p.1) (second (member_fits p) (list_all member_fits ps) fit) (second (has_score p) (list_all has_score ps) within)
    (score_put s p.0 p.1 old (first (member_fits p) (list_all member_fits ps) fit) (first (has_score p) (list_all has_score ps) within))

pub without_scores_fit : (xs : List Bytes) (s : ByteMap ℤ) → ScoresFit s → ScoresFit (without_scores xs s)
without_scores_fit [] s old = old
without_scores_fit (x ∷ xs) s old = without_scores_fit xs (remove s x) (score_removed s x old)

-- ---- lists

abbrev pub ItemsFit : List Bytes → Type 0
ItemsFit xs = All IsWord xs

pub put_item_fits : (end : End) (x : Bytes) (xs : List Bytes) → IsWord x → ItemsFit xs → ItemsFit (put_item end x xs)
put_item_fits Left x xs fit old = All-cons IsWord x xs fit old
put_item_fits Right x xs fit old = All-push IsWord xs x old fit

pub pushed_fit : (end : End) (new xs : List Bytes) → IsTrue (list_all fits new) → ItemsFit xs → ItemsFit (pushed end new xs)
pushed_fit end [] xs fit old = old
pushed_fit end (x ∷ new) xs fit old = pushed_fit end new (put_item end x xs) (second (fits x) (list_all fits new) fit) (put_item_fits end x xs (first (fits x) (list_all fits new) fit) old)

pub popped_fit : (end : End) (n : ℕ) (xs : List Bytes) → ItemsFit xs → ItemsFit (popped end n xs)
popped_fit Left n xs old = All-drop IsWord n xs old
popped_fit Right n xs old = All-take IsWord (length xs - n) xs old

at_place_fits : (xs : List Bytes) (i : ℕ) (x : Bytes) → ItemsFit xs → slice_get xs i ≡ Some x → IsWord x
at_place_fits [] i x old h = cc
at_place_fits (y ∷ ys) zero x old h = let same : y ≡ x = cc in subst IsWord same (All-head IsWord y ys old)
at_place_fits (y ∷ ys) (suc i) x old h = at_place_fits ys i x (All-tail IsWord y ys old) h

pub end_item_fits : (end : End) (xs : List Bytes) (x : Bytes) → ItemsFit xs → end_item end xs ≡ Some x → IsWord x
end_item_fits Left xs x old h = at_place_fits xs 0 x old h
end_item_fits Right xs x old h = at_place_fits xs (length xs - 1) x old h

pub inserted_fit : (xs : List Bytes) (i : ℕ) (x : Bytes) → IsWord x → ItemsFit xs → ItemsFit (insert_at xs i x)
inserted_fit xs i x fit old = All-append IsWord (take i xs) (x ∷ drop i xs) (All-take IsWord i xs old) (All-cons IsWord x (drop i xs) fit (All-drop IsWord i xs old))

pub set_fit : (xs : List Bytes) (i : ℕ) (x : Bytes) → IsWord x → ItemsFit xs → ItemsFit (slice_set xs i x)
set_fit xs i x fit old = All-set IsWord xs i x fit old

pub range_fit : (xs : List Bytes) (a b : ℕ) → ItemsFit xs → ItemsFit (slice_range xs a b)
range_fit xs a b old = All-take IsWord (b - a) (drop a xs) (All-drop IsWord a xs old)

chosen_fit : (b : Bool) (ys zs : List Bytes) → ItemsFit ys → ItemsFit zs → ItemsFit (if b then ys else zs)
chosen_fit true ys zs f g = f
chosen_fit false ys zs f g = g

first_fit : (n : ℕ) (w : Bytes) (xs : List Bytes) → ItemsFit xs → ItemsFit (without_first n w xs)
first_fit n w [] old = old
first_fit n w (x ∷ xs) old = chosen_fit (nat_lt 0 n && bytes_eq x w) _ _ (first_fit (n - 1) w xs (All-tail IsWord x xs old)) (All-cons IsWord x _ (All-head IsWord x xs old) (first_fit n w xs (All-tail IsWord x xs old)))

last_fit : (n : ℕ) (w : Bytes) (xs : List Bytes) → ItemsFit xs → ItemsFit (without_last n w xs)
last_fit n w [] old = old
last_fit n w (x ∷ xs) old = chosen_fit (nat_lt (count_of w xs) n && bytes_eq x w) _ _ (last_fit n w xs (All-tail IsWord x xs old)) (All-cons IsWord x _ (All-head IsWord x xs old) (last_fit n w xs (All-tail IsWord x xs old)))

pub without_fit : (count : ℤ) (w : Bytes) (xs : List Bytes) → ItemsFit xs → ItemsFit (without count w xs)
without_fit (pos zero) w xs old = All-filter (λ x. not (bytes_eq x w)) IsWord xs old
without_fit (pos (suc n)) w xs old = first_fit (suc n) w xs old
without_fit (negsuc n) w xs old = last_fit (suc n) w xs old
