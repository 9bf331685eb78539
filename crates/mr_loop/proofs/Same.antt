-- That the values which a host borrowed stay those that it borrows.
use Rattle.std.proofs.Common.{◌≡◌, ◌⊎◌, ◌<◌, ◌≤◌, ℕ, zero, suc, Bool, true, arith, inl, inr, refl, ap, ◌∙◌}
use Rattle.std.specs.Borrow.{MutBor}
use Rattle.mr_aof.specs.declared.log.Log.{Log}
use Rattle.mr_aof.proofs.Opened.{rose_since}
use Rattle.mr_file.specs.LogFile.{Rose}
use Rattle.mr_wire.specs.declared.waited.Waited.{Waited}
use Rattle.mr_node_spec.specs.State.{NodeState}
use Rattle.mr_loop.specs.declared.host.Host.{Host}
use Rattle.mr_loop.specs.Hosts.{FileGoes, IsSame}
use Rattle.mr_loop.specs.Stage.{LoopState}

or_inr : {A B C : Type 0} → (B → C) → A ⊎ B → A ⊎ C
or_inr f (inl a) = inl a
or_inr f (inr b) = inr (f b)

stays_or_rises : (a c : ℕ) → a ≤ c → (c ≡ a) ⊎ (a < c)
stays_or_rises zero zero h = inl refl
stays_or_rises zero (suc c) h = inr (omega arith)
stays_or_rises (suc a) zero h = absurd (omega (arith, h))
stays_or_rises (suc a) (suc c) h = up (stays_or_rises a c (omega (arith, h)))
  where
    up : (c ≡ a) ⊎ (a < c) → (suc c ≡ suc a) ⊎ (suc a < suc c)
    up (inl e) = inl (ap suc e)
    up (inr less) = inr (omega (arith, less))

-- a count that rose and went on has risen
rose_until : (a b c : ℕ) → a ≤ b → b ≤ c → Rose a b → Rose a c
rose_until a b c h k (inl less) = inl (omega (arith, less, k))
rose_until a b c h k (inr greatest) = greatest_until (stays_or_rises a c (omega (arith, h, k)))
  where
    greatest_until : (c ≡ a) ⊎ (a < c) → Rose a c
    greatest_until (inl e) = inr (omega (arith, e, h, k) ∙ greatest)
    greatest_until (inr less) = inl less

module _ {F : Type 0} {broke : F → ℕ} where
  pub goes_still : (a : Log F) → FileGoes broke a a
  goes_still a = record { later = omega arith; cause = inl }

  pub goes_further : {a b c : Log F} → FileGoes broke a b → FileGoes broke b c → FileGoes broke a c
  goes_further {a} {b} {c} x y = record {
    later = omega (arith, x.later, y.later);
    cause = λ broken. since x y (y.cause broken);
  }
    where
      since : {a b c : Log F} → FileGoes broke a b → FileGoes broke b c → (b.broken ≡ true) ⊎ Rose (broke b.file) (broke c.file) → (a.broken ≡ true) ⊎ Rose (broke a.file) (broke c.file)
      since {a} {b} {c} x y (inl before) = or_inr (λ rose. rose_until (broke a.file) (broke b.file) (broke c.file) x.later y.later rose) (x.cause before)
      since {a} {b} {c} x y (inr rose) = inr (rose_since (broke a.file) (broke b.file) (broke c.file) x.later rose)

module _ {W F S : Type 0} {waited : W → Waited} {broke : F → ℕ} where
  pub same_here : (a : Host W F S) → IsSame waited broke a a
  same_here a = record { node = refl; own = refl; wire = refl; log = refl; source = refl; mode = refl; goes = goes_still a.log.now; wait_stays = refl }

  pub same_on : (a b c : Host W F S) → IsSame waited broke a b → IsSame waited broke b c → IsSame waited broke a c
  same_on a b c x y = record {
    node = y.node ∙ ap (λ (r : MutBor NodeState). record r { now = c.node.now }) x.node;
    own = y.own ∙ ap (λ (r : MutBor LoopState). record r { now = c.own.now }) x.own;
    wire = y.wire ∙ ap (λ (r : MutBor W). record r { now = c.wire.now }) x.wire;
    log = y.log ∙ ap (λ (r : MutBor (Log F)). record r { now = c.log.now }) x.log;
    source = y.source ∙ ap (λ (r : MutBor S). record r { now = c.source.now }) x.source;
    mode = y.mode ∙ x.mode;
    goes = goes_further x.goes y.goes;
    wait_stays = y.wait_stays ∙ x.wait_stays;
  }
