use Rattle.std.proofs.Common.{◌∙◌, ◌<◌, sym, subst, ℕ}
use Rattle.std.specs.FinMap.{len}
use Rattle.mr_zset.specs.Pairs.{pairs_of}
use Rattle.mr_cmd_zset.proofs.Firsts.{len_pairs}
use Rattle.mr_cmd_zset.proofs.Removals.{found, window_of_one, window_of_more, window_of_none}
use Rattle.mr_cmd_zset.proofs.removing.only_pair.Goals as goal
use Rattle.mr_cmd_zset.proofs.removing.only_pair.Goals.{in_default-via-in-Some+else-first-last, in_default-via-in_default}

pub returns-in-Some : goal.returns-in-Some
returns-in-Some c =
    let set = c.args.set.now in
    let is = found c.args.first c.args.last c.len.result (len set) _ c.ranges.first c.ranges.last c.len.ensures.len c.in-Some.ensures.places in
    window_of_one (pairs_of set) c.in-Some.first c.in-Some.last _ c.nth.result (sym is) c.if-first-last.true c.nth.ensures

pub returns-in_default : goal.returns-in_default
returns-in_default c =
    let set = c.args.set.now in
    let is = found c.args.first c.args.last c.len.result (len set) c.window.result c.ranges.first c.ranges.last c.len.ensures.len c.window.ensures.places in
    elim c.in_default.branch [
      | in_default-via-in-Some+else-first-last w ↦
          let inside = subst (λ (n : ℕ). w.in-Some.last < n) (c.len.ensures.len ∙ len_pairs set) w.in-Some.ensures.within.1 in
          window_of_more (pairs_of set) w.in-Some.first w.in-Some.last _ (sym is ∙ w.in-Some.is) w.in-Some.ensures.within.0 inside w.if-first-last.false
      | in_default-via-in_default w ↦ window_of_none (pairs_of set) _ (sym is ∙ w.in_default.is)
    ]
