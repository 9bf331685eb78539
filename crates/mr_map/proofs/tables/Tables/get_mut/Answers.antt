use Rattle.std.proofs.Common.{refl, sym, ◌∙◌, ap, subst, inl, inr, IsSome}
use Rattle.std.specs.Prelude.{is_some}
use Rattle.std.specs.FinMap.{get, insert}
use Rattle.mr_map.proofs.Padded.{is_long, is_short}
use Rattle.mr_map.proofs.Parted.{room_in_place}
use Rattle.mr_map.proofs.Hashed.{long_found, long_set, parted_long_set, parted_short_set, seen, short_found, short_set}
use Rattle.mr_map.proofs.tables.Tables.get_mut.Goals as goal

-- a value of a short key is lent

pub invariant_of-self-lent : goal.invariant_of-self-lent
invariant_of-self-lent g c w =
    let s = c.self.inside.short in
    let l = c.self.inside.long in
    let k = c.in-Some.short in
    let short = (is_short c.args.key.now k (sym c.of.ensures.few ∙ c.in-Some.is)).1 in
    parted_short_set s l c.self.invariant k short (c.get_mut.follows.lender w) w ((c.get_mut.follows.holds w).3 (subst IsSome c.in-Some-get_mut.ensures.value refl))
    (room_in_place (seen s l) k w (ap is_some (sym (c.in-Some-get_mut.ensures.value ∙ short_found s l c.self.invariant k short))) c.self.invariant.few)

pub returns-in-Some-get_mut : goal.returns-in-Some-get_mut
returns-in-Some-get_mut g c =
    let s = c.self.inside.short in
    let l = c.self.inside.long in
    let k = c.in-Some.short in
    let found = is_short c.args.key.now k (sym c.of.ensures.few ∙ c.in-Some.is) in
    let written = λ (w : g.row.V.Denot). short_set s l c.self.invariant k found.1 (c.get_mut.follows.lender w) w ((c.get_mut.follows.holds w).3 (subst IsSome c.in-Some-get_mut.ensures.value refl)) ∙ (λ i. insert (c.self.view_is i) (found.0 i) w) in (
      (λ i. inl (c.in-Some-get_mut.value.ghost_name, λ w. written w i)),
      record { writes_back = tt; value = c.in-Some-get_mut.ensures.value ∙ short_found s l c.self.invariant k found.1 ∙ (λ i. get (c.self.view_is i) (found.0 i)) },
    )

pub returns-in-None-get_mut : goal.returns-in-None-get_mut
returns-in-None-get_mut g c =
    let s = c.self.inside.short in
    let l = c.self.inside.long in
    let k = c.in-Some.short in
    let found = is_short c.args.key.now k (sym c.of.ensures.few ∙ c.in-Some.is) in (
      (λ i. inr ((ap (λ t. seen t l) c.get_mut.follows.holds-at-none ∙ c.self.view_is) i)),
      record { writes_back = tt; value = c.in-None-get_mut.ensures.value ∙ short_found s l c.self.invariant k found.1 ∙ (λ i. get (c.self.view_is i) (found.0 i)) },
    )

-- a value of a longer key is lent

pub invariant_of-self-lent-in-Some-get_mut-2 : goal.invariant_of-self-lent-in-Some-get_mut-2
invariant_of-self-lent-in-Some-get_mut-2 g c w =
    let s = c.self.inside.short in
    let l = c.self.inside.long in
    let k = c.args.key.now in
    let long = is_long k (sym c.of.ensures.few ∙ c.in-None.is) in
    parted_long_set s l c.self.invariant k long (c.get_mut-in-None.follows.lender w) w ((c.get_mut-in-None.follows.holds w).3 (subst IsSome c.in-Some-get_mut-2.ensures.value refl))
    (room_in_place (seen s l) k w (ap is_some (sym (c.in-Some-get_mut-2.ensures.value ∙ long_found s l c.self.invariant k long))) c.self.invariant.few)

pub returns-in-Some-get_mut-2 : goal.returns-in-Some-get_mut-2
returns-in-Some-get_mut-2 g c =
    let s = c.self.inside.short in
    let l = c.self.inside.long in
    let k = c.args.key.now in
    let long = is_long k (sym c.of.ensures.few ∙ c.in-None.is) in
    let written = λ (w : g.row.V.Denot). long_set s l c.self.invariant k long (c.get_mut-in-None.follows.lender w) w ((c.get_mut-in-None.follows.holds w).3 (subst IsSome c.in-Some-get_mut-2.ensures.value refl)) ∙ ap (λ m. insert m k w) c.self.view_is in (
      (λ i. inl (c.in-Some-get_mut-2.value.ghost_name, λ w. written w i)),
      record { writes_back = tt; value = c.in-Some-get_mut-2.ensures.value ∙ long_found s l c.self.invariant k long ∙ ap (λ m. get m k) c.self.view_is },
    )

pub returns-in-None-get_mut-2 : goal.returns-in-None-get_mut-2
returns-in-None-get_mut-2 g c =
    let s = c.self.inside.short in
    let l = c.self.inside.long in
    let k = c.args.key.now in
    let long = is_long k (sym c.of.ensures.few ∙ c.in-None.is) in (
      (λ i. inr ((ap (seen s) c.get_mut-in-None.follows.holds-at-none ∙ c.self.view_is) i)),
      record { writes_back = tt; value = c.in-None-get_mut-2.ensures.value ∙ long_found s l c.self.invariant k long ∙ ap (λ m. get m k) c.self.view_is },
    )
