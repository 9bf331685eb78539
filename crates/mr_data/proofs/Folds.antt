-- What is put into a collection, one after another, and the effects that put it there.
use Rattle.std.proofs.Common.{ℤ, ◌≡◌, List, [], ◌∷◌, ◌++◌, Bool, true, false, ◌&&◌, refl, sym, ◌∙◌, arith}
use Rattle.std.specs.Prelude.{◌≢◌, IsTrue}
use Rattle.std.specs.List.{list_all}
use Rattle.std.specs.FinMap.{insert}
use Rattle.std.proofs.lemmas.Bool.{and_from}
use Rattle.mr_map.specs.Bytes.{Bytes, ByteMap}
use Rattle.mr_bytes.specs.Words.{fits}
use Rattle.mr_bytes.specs.declared.ends.End.{End}
use Rattle.mr_bytes.proofs.Both.{first, second}
use Rattle.mr_effect.specs.Effects.{pair_fits, member_fits, has_score, is_some_of}
use Rattle.mr_effect.specs.declared.effect.Effect.TheVariants as effect
use Rattle.mr_keyspace.specs.Collections.{with_fields, with_members, with_scores, put_item, pushed}
use Rattle.mr_keyspace.specs.Steps.{hashes, lists, sets, sorted_sets, set_fields_step, push_step, add_members_step, set_scores_step}
use Rattle.mr_keyspace.specs.Changes.{change}
use Rattle.mr_keyspace.proofs.Cutting.{IsGroup}
use Rattle.mr_keyspace.proofs.Nonempty.{with_fields_some, with_members_some, with_scores_some, pushed_some}
use Rattle.mr_effect.proofs.Appending.{length-pairs, length-scores}
use Rattle.mr_effect.proofs.Texts.{short_effect}
use Rattle.mr_data.proofs.Running.{IsStep, IsFold}

pub some_of : {X : Type 0} (xs : List X) → xs ≢ [] → is_some_of xs ≡ true
some_of [] h = absurd (h refl)
some_of (x ∷ xs) h = refl

not_none : (b : Bool) → b ≡ false → b ≡ true → ⊥
not_none b h i = let wrong : false ≡ true = sym h ∙ i in cc

-- ---- hashes
fields-append : (ps qs : List (Bytes × Bytes)) (h : ByteMap Bytes) → with_fields (ps ++ qs) h ≡ with_fields qs (with_fields ps h)
fields-append [] qs h = refl
fields-append (p ∷ ps) qs h = fields-append ps qs (insert h p.0 p.1)

pub setting_fields : IsFold hashes with_fields
setting_fields = record {
  nothing = λ h. refl;
  more = fields-append;
  deleted = λ ps h some none. absurd (not_none _ (with_fields_some ps h (some_of ps some)) none);
}

pub set_fields_is_step : (k : Bytes) → IsTrue (fits k) → (g : List (Bytes × Bytes)) → IsGroup pair_fits g → IsStep k (effect.SetFields k g) (set_fields_step g)
unfolding change
set_fields_is_step k fit g i = record {
  possible = and_from (is_some_of g) _ (some_of g i.some) (and_from (fits k) _ fit i.all);
  short = short_effect (effect.SetFields k g) (omega (arith, length-pairs g, i.few));
  is = λ m. refl;
}

-- ---- lists
pushed-append : (end : End) (xs ys zs : List Bytes) → pushed end (xs ++ ys) zs ≡ pushed end ys (pushed end xs zs)
pushed-append end [] ys zs = refl
pushed-append end (x ∷ xs) ys zs = pushed-append end xs ys (put_item end x zs)

pub pushing : (end : End) → IsFold lists (pushed end)
pushing end = record {
  nothing = λ x. refl;
  more = pushed-append end;
  deleted = λ xs x some none. absurd (not_none _ (pushed_some end xs x (some_of xs some)) none);
}

pub push_is_step : (k : Bytes) (end : End) → IsTrue (fits k) → (g : List Bytes) → IsGroup fits g → IsStep k (effect.Push k end g) (push_step end g)
unfolding change
push_is_step k end fit g i = record {
  possible = and_from (is_some_of g) _ (some_of g i.some) (and_from (fits k) _ fit i.all);
  short = short_effect (effect.Push k end g) (omega (arith, i.few));
  is = λ m. refl;
}

-- ---- sets
pub members-append : (xs ys : List Bytes) (s : ByteMap (Unit {0})) → with_members (xs ++ ys) s ≡ with_members ys (with_members xs s)
members-append [] ys s = refl
members-append (x ∷ xs) ys s = members-append xs ys (insert s x tt)

pub adding_members : IsFold sets with_members
adding_members = record {
  nothing = λ s. refl;
  more = members-append;
  deleted = λ xs s some none. absurd (not_none _ (with_members_some xs s (some_of xs some)) none);
}

pub add_members_is_step : (k : Bytes) → IsTrue (fits k) → (g : List Bytes) → IsGroup fits g → IsStep k (effect.AddMembers k g) (add_members_step g)
unfolding change
add_members_is_step k fit g i = record {
  possible = and_from (is_some_of g) _ (some_of g i.some) (and_from (fits k) _ fit i.all);
  short = short_effect (effect.AddMembers k g) (omega (arith, i.few));
  is = λ m. refl;
}

-- ---- sorted sets
scores-append : (ps qs : List (Bytes × ℤ)) (s : ByteMap ℤ) → with_scores (ps ++ qs) s ≡ with_scores qs (with_scores ps s)
scores-append [] qs s = refl
scores-append (p ∷ ps) qs s = scores-append ps qs (insert s p.0 p.1)

pub setting_scores : IsFold sorted_sets with_scores
setting_scores = record {
  nothing = λ s. refl;
  more = scores-append;
  deleted = λ ps s some none. absurd (not_none _ (with_scores_some ps s (some_of ps some)) none);
}

-- a member and its score are within their limits
abbrev pub is_kept : Bytes × ℤ → Bool
is_kept p = member_fits p && has_score p

parted : (g : List (Bytes × ℤ)) → list_all is_kept g ≡ true → (list_all member_fits g ≡ true) × (list_all has_score g ≡ true)
parted [] h = (refl, refl)
parted (p ∷ ps) h =
    let here = first (is_kept p) _ h in
    let rest = parted ps (second (is_kept p) _ h) in
    (and_from (member_fits p) _ (first (member_fits p) _ here) rest.0, and_from (has_score p) _ (second (member_fits p) _ here) rest.1)

pub set_scores_is_step : (k : Bytes) → IsTrue (fits k) → (g : List (Bytes × ℤ)) → IsGroup is_kept g → IsStep k (effect.SetScores k g) (set_scores_step g)
unfolding change
set_scores_is_step k fit g i = record {
  possible = and_from (is_some_of g && list_all has_score g) _ (and_from (is_some_of g) _ (some_of g i.some) (parted g i.all).1) (and_from (fits k) _ fit (parted g i.all).0);
  short = short_effect (effect.SetScores k g) (omega (arith, length-scores g, i.few));
  is = λ m. refl;
}
