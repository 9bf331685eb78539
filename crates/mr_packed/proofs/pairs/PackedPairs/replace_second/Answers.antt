use Rattle.std.proofs.Common.{rules, ◌+◌, length, set, ap, ◌∙◌, arith}
use Rattle.mr_packed.specs.Pairs.{pair_at}
use Rattle.mr_packed.proofs.Pairing.{spread_is, length-strings, pairs_are, paired, second_at, second_in}
use Rattle.mr_packed.proofs.pairs.PackedPairs.replace_second.Goals as goal

pub replace-requires-clause-within : goal.replace-requires-clause-within
replace-requires-clause-within c = omega (arith, c.requires.within, c.place-place.ensures.place, length-strings c.self.inside.strings c.args.self.now c.self.invariant c.self.view_is)

pub invariant_of-self-2 : goal.invariant_of-self-2
invariant_of-self-2 c =
    paired _ (set c.args.self.now c.args.at ((pair_at c.args.self.now c.args.at).0, c.args.second.now))
    (c.in_ok-replace.ensures.ok ∙ second_in c.self.inside.strings c.args.self.now c.args.at _ c.args.second.now (spread_is _ _ c.self.invariant c.self.view_is) (ap (λ n. n + 1) c.place-place.ensures.place))

pub returns-clause-ok : goal.returns-clause-ok
returns-clause-ok c =
    pairs_are _ (set c.args.self.now c.args.at ((pair_at c.args.self.now c.args.at).0, c.args.second.now))
    (c.in_ok-replace.ensures.ok ∙ second_in c.self.inside.strings c.args.self.now c.args.at _ c.args.second.now (spread_is _ _ c.self.invariant c.self.view_is) (ap (λ n. n + 1) c.place-place.ensures.place))

pub returns-in_err-replace-clause-fits : goal.returns-in_err-replace-clause-fits
returns-in_err-replace-clause-fits c = λ fits.
    let size = ap length (second_at c.self.inside.strings c.args.self.now c.args.at _ (spread_is _ _ c.self.invariant c.self.view_is) (ap (λ n. n + 1) c.place-place.ensures.place)) in
    let none = c.in_err-replace.ensures.fits (omega (arith, fits, size)) in
    search rules
