-- Over every list of events.
use Rattle.std.proofs.Common.{zero, suc, ℕ, List, [], ◌∷◌, ◌≡◌, ◌≤◌, ◌⊎◌, arith, Some, refl, subst, inl, inr}
use Rattle.std.specs.Prelude.{slice_get}
use Rattle.law_protocol.specs.Language.{Language, Laws}
use Rattle.law_protocol.specs.History.{Book, IsAt, Grows}
use Rattle.law_protocol.specs.World.{World}
use Rattle.law_protocol.specs.Event.{Event}
use Rattle.law_protocol.specs.Rows.{Row}
use Rattle.law_protocol.specs.Runs.{nowhere, Moments}
use Rattle.law_protocol.specs.Promises.{InvariantHolds, TrueToHistory, HistoriesStay, NoSilentDifference, CaughtUpIsLevel}
use Rattle.law_protocol.specs.Invariant.{Invariant}
use Rattle.law_protocol.proofs.Fronts.{some_is, at_grows, at_unique, keeps_grows}
use Rattle.law_protocol.proofs.Keeping.{none_some}
use Rattle.law_protocol.proofs.Theorem.{reach_keeps, inv_true, nowhere_ok, grows_on, caught_up}
use Rattle.law_protocol.proofs.RowReaches.{row_reaches}

pub row_keeps : {L : Language} (laws : Laws L) (w : World L) (e : Event L) (v : World L) → Invariant w → Row w e v → Invariant v × Grows L w.book v.book
row_keeps laws w e v inv r = reach_keeps laws w v inv (row_reaches laws w e v inv r)

same_book : (L : Language) (b : Book L) → Grows L b b
same_book L b = keeps_grows L b b (λ i h e. e)

-- the k-th moment has the invariant, and the book has grown till then
pub moment_keeps : {L : Language} (laws : Laws L) (w : World L) (es : List (Event L)) (vs : List (World L)) (k : ℕ) (v : World L) → Invariant w → Moments w es vs → slice_get (w ∷ vs) k ≡ Some v
    → Invariant v × Grows L w.book v.book
moment_keeps {L} laws w es vs zero v inv m e =
    let i = some_is w v e in (subst (λ z. Invariant z) i inv, subst (λ z. Grows L w.book z.book) i (same_book L w.book))
moment_keeps laws w [] [] (suc k) v inv m e = none_some (slice_get [] k) v refl e
moment_keeps laws w [] (u ∷ vs) (suc k) v inv m e = absurd m
moment_keeps laws w (x ∷ es) [] (suc k) v inv m e = absurd m
moment_keeps {L} laws w (x ∷ es) (u ∷ vs) (suc k) v inv m e =
    let a = row_keeps laws w x u inv m.0 in
    let b = moment_keeps laws u es vs k v a.0 m.1 e in
    (b.0, grows_on L w.book u.book v.book a.1 b.1)

-- of two moments the book of one has grown to that of the other
pub either_grew : {L : Language} (laws : Laws L) (w : World L) (es : List (Event L)) (vs : List (World L)) (j k : ℕ) (u v : World L) → Invariant w → Moments w es vs → slice_get (w ∷ vs) j ≡ Some u → slice_get (w ∷ vs) k ≡ Some v
    → Grows L u.book v.book ⊎ Grows L v.book u.book
either_grew {L} laws w es vs zero k u v inv m e f =
    let i = some_is w u e in inl (subst (λ z. Grows L z.book v.book) i (moment_keeps laws w es vs k v inv m f).1)
either_grew {L} laws w es vs (suc j) zero u v inv m e f =
    let i = some_is w v f in inr (subst (λ z. Grows L z.book u.book) i (moment_keeps laws w es vs (suc j) u inv m e).1)
either_grew laws w [] [] (suc j) (suc k) u v inv m e f = none_some (slice_get [] j) u refl e
either_grew laws w [] (x ∷ vs) (suc j) (suc k) u v inv m e f = absurd m
either_grew laws w (x ∷ es) [] (suc j) (suc k) u v inv m e f = absurd m
either_grew laws w (x ∷ es) (y ∷ vs) (suc j) (suc k) u v inv m e f = either_grew laws y es vs j k u v (row_keeps laws w x y inv m.0).0 m.1 e f

-- the book of a later moment begins with that of an earlier one
pub grown_since : {L : Language} (laws : Laws L) (w : World L) (es : List (Event L)) (vs : List (World L)) (j k : ℕ) (u v : World L) → Invariant w → Moments w es vs → slice_get (w ∷ vs) j ≡ Some u → slice_get (w ∷ vs) k ≡ Some v
    → j ≤ k → Grows L u.book v.book
grown_since {L} laws w es vs zero k u v inv m e f h =
    let i = some_is w u e in subst (λ z. Grows L z.book v.book) i (moment_keeps laws w es vs k v inv m f).1
grown_since laws w es vs (suc j) zero u v inv m e f h = absurd (omega (arith, h))
grown_since laws w [] [] (suc j) (suc k) u v inv m e f h = none_some (slice_get [] j) u refl e
grown_since laws w [] (x ∷ vs) (suc j) (suc k) u v inv m e f h = absurd m
grown_since laws w (x ∷ es) [] (suc j) (suc k) u v inv m e f h = absurd m
grown_since laws w (x ∷ es) (y ∷ vs) (suc j) (suc k) u v inv m e f h =
    grown_since laws y es vs j k u v (row_keeps laws w x y inv m.0).0 m.1 e f (omega (arith, h))

pub invariant_holds : {L : Language} → Laws L → InvariantHolds L
invariant_holds {L} laws es vs k v m = (moment_keeps laws (nowhere L) es vs k v (nowhere_ok L) m.run m.there).0

pub true_to_history : {L : Language} → Laws L → TrueToHistory L
true_to_history laws es vs k v m = inv_true v (invariant_holds laws es vs k v m)

pub histories_stay : {L : Language} → Laws L → HistoriesStay L
histories_stay {L} laws es vs j k u v p q h = grown_since laws (nowhere L) es vs j k u v (nowhere_ok L) p.run p.there q.there h

pub no_silent_difference : {L : Language} → Laws L → NoSilentDifference L
no_silent_difference {L} laws es vs j k u v p q n n' i o x y s t = go (either_grew laws (nowhere L) es vs j k u v (nowhere_ok L) p.run p.there q.there)
  where
    a : IsAt L u.book i o x
    a = true_to_history laws es vs j u p n i o x s

    b : IsAt L v.book i o y
    b = true_to_history laws es vs k v q n' i o y t

    go : Grows L u.book v.book ⊎ Grows L v.book u.book → x ≡ y
    go (inl g) = at_unique L laws v.book i o x y (at_grows L u.book v.book i o x g a) b
    go (inr g) = at_unique L laws u.book i o x y a (at_grows L v.book u.book i o y g b)

pub caught_up_is_level : {L : Language} → Laws L → CaughtUpIsLevel L
caught_up_is_level laws es vs k v m l a s c = caught_up laws v l a s (invariant_holds laws es vs k v m) c
