-- What is known at each moment of a run.
use Rattle.std.proofs.Common.{zero, suc, ◌≡◌, ◌≤◌, ◌⊎◌, inl, inr, ℕ, List, [], ◌∷◌, None, Some, refl, sym, ap, subst, arith}
use Rattle.std.specs.Prelude.{slice_get}
use Rattle.std.specs.Option.{option_map}
use Rattle.mr_keyspace.specs.Dataset.{Dataset}
use Rattle.law_protocol.specs.History.{Book, Grows, IsAt}
use Rattle.law_protocol.proofs.Fronts.{some_is, at_grows, at_unique, keeps_grows}
use Rattle.law_protocol.proofs.Keeping.{none_some}
use Rattle.law_protocol.proofs.Moves.{still}
use Rattle.law_protocol.proofs.Theorem.{inv_true, move_keeps, grows_on}
use Rattle.law_minired.specs.Minired.{minired}
use Rattle.law_minired.proofs.MiniredLaws.{minired_laws}
use Rattle.law_refinement.specs.State.{WorldState}
use Rattle.law_refinement.specs.Seeing.{seen, seen_node}
use Rattle.law_refinement.specs.Worlds.{IsWorld, no_world}
use Rattle.law_refinement.specs.Events.{Holds}
use Rattle.law_refinement.proofs.Beginning.{kept_histories, worlds_begin}
use Rattle.law_refinement.specs.Showing.{Shows}
use Rattle.law_refinement.specs.Runs.{Happens, an_event, nothing_seen, Run}
use Rattle.law_refinement.specs.Headline.{NoSilentDifference, TrueToHistory, HistoriesStay, MomentsAreKnown, RunsGoOn}
use Rattle.law_refinement.proofs.Histories as kept
use Rattle.law_refinement.proofs.Histories.{at_gives}

-- a World with a book that has grown from this one
pub record Known (from : Book minired) (v : WorldState) : Type 0 where
  pub book : Book minired
  pub holds : Holds v book
  pub grown : Grows minired from book

same_book : (b : Book minired) → Grows minired b b
same_book b = keeps_grows minired b b (λ i h e. e)

step : (w v : WorldState) (book : Book minired) → Holds w book → Happens w v → IsWorld v → Known book v
step w v book holds (an_event e f) is =
    let x = f book holds in
    let k = kept_histories w book e v holds x in
    record { book = x.new_book; holds = record { world = is; kept = x.kept; invariant = k.0 }; grown = k.1 }
step w v book holds (nothing_seen f) is =
    let x = f book holds in record {
      book = book;
      holds = record { world = is; kept = x.0; invariant = move_keeps minired_laws (seen w book) (seen v book) holds.invariant (still x.1.nodes x.1.links x.1.book) };
      grown = same_book book;
    }

pub moment : (w : WorldState) (vs : List WorldState) (k : ℕ) (v : WorldState) (book : Book minired) → Holds w book → Run w vs → slice_get (w ∷ vs) k ≡ Some v → Known book v
moment w vs zero v book holds run e = record { book = book; holds = subst (λ z. Holds z book) (some_is w v e) holds; grown = same_book book }
moment w [] (suc k) v book holds run e = none_some (slice_get [] k) v refl e
moment w (u ∷ vs) (suc k) v book holds run e =
    let a = step w u book holds run.0 run.1 in
    let b = moment u vs k v a.book a.holds run.2 e in
    record { book = b.book; holds = b.holds; grown = grows_on minired book a.book b.book a.grown b.grown }

-- two moments, the book of the later one grown from that of the earlier
pub record KnownTwice (u v : WorldState) : Type 0 where
  pub book : Book minired
  pub holds : Holds u book
  pub later : Known book v

pub two_moments : (w : WorldState) (vs : List WorldState) (j k : ℕ) (u v : WorldState) (book : Book minired) → Holds w book → Run w vs → slice_get (w ∷ vs) j ≡ Some u → slice_get (w ∷ vs) k ≡ Some v → j ≤ k → KnownTwice u v
two_moments w vs zero k u v book holds run e f h =
    record { book = book; holds = subst (λ z. Holds z book) (some_is w u e) holds; later = moment w vs k v book holds run f }
two_moments w vs (suc j) zero u v book holds run e f h = absurd (omega (arith, h))
two_moments w [] (suc j) (suc k) u v book holds run e f h = none_some (slice_get [] j) u refl e
two_moments w (x ∷ vs) (suc j) (suc k) u v book holds run e f h =
    let a = step w x book holds run.0 run.1 in two_moments x vs j k u v a.book a.holds run.2 e f (omega (arith, h))

pub true_at : (w : WorldState) (book : Book minired) → Holds w book → (n : ℕ) (i : List ℕ) (o : ℕ) (m : Dataset) → Shows w n i o m → IsAt minired book i o m
true_at w book holds n i o m s = inv_true (seen w book) holds.invariant n i o m (record {
  node = seen_node s.slot;
  found = ap (option_map seen_node) s.found;
  up = s.up;
  id = s.id_is;
  offset = s.offset_is;
  held = s.held_is;
})

-- one dataset, where the first moment is no later
level : (u v : WorldState) → KnownTwice u v → (n m : ℕ) (i : List ℕ) (o : ℕ) (x y : Dataset) → Shows u n i o x → Shows v m i o y → x ≡ y
level u v k n m i o x y s t = at_unique minired minired_laws k.later.book i o x y
    (at_grows minired k.book k.later.book i o x k.later.grown (true_at u k.book k.holds n i o x s)) (true_at v k.later.book k.later.holds m i o y t)

in_order : (j k : ℕ) → (j ≤ k) ⊎ (k ≤ j)
in_order j k = grind arith

pub no_silent_difference : NoSilentDifference
no_silent_difference vs j k u v p q n m i o x y s t = elim (in_order j k) [
  | inl h ↦ level u v (two_moments no_world vs j k u v (λ i. None) worlds_begin p.run p.there q.there h) n m i o x y s t
  | inr h ↦ sym (level v u (two_moments no_world vs k j v u (λ i. None) worlds_begin p.run q.there p.there h) m n i o y x t s)
]

pub moments_are_known : MomentsAreKnown
moments_are_known vs k v p = let a = moment no_world vs k v (λ i. None) worlds_begin p.run p.there in (a.book, a.holds)

pub true_to_history : TrueToHistory
true_to_history vs k v p n i o m s =
    let a = moment no_world vs k v (λ i. None) worlds_begin p.run p.there in at_gives v a.book a.holds i o m (true_at v a.book a.holds n i o m s)

pub histories_stay : HistoriesStay
histories_stay vs j k u v p q h =
    let a = two_moments no_world vs j k u v (λ i. None) worlds_begin p.run p.there q.there h in kept.grows_on u v a.book a.later.book a.holds.kept a.later.holds.kept a.later.grown

pub runs_go_on : RunsGoOn
runs_go_on w [] vs a b = (b, refl)
runs_go_on w (u ∷ us) vs a b = let r = runs_go_on u us vs a.2 b in ((a.0, a.1, r.0), r.1)
