use Rattle.std.proofs.Common.{◌≡◌, ℕ, ◌+◌, List, [], ◌∷◌, length, inl, inr, ap, ◌∙◌, arith}
use Rattle.std.proofs.lemmas.List.{length-append}
use Rattle.std.specs.List.{slice_range}
use Rattle.mr_resp.proofs.Lists.{never_more, never_bad, found_at, all_found}
use Rattle.mr_resp.proofs.few.few_words_of.Goals as goal

pub loop-preserved : goal.loop-preserved
loop-preserved c =
    let r = c.in-Word.ensures in
    let s : List ℕ = slice_range c.args.input.now c.in-Word.start c.in-Word.end in
    record {
      inside = r.1;
      counted = omega (arith, ap length c.push.ensures, length-append c.loop.words (s ∷ []), c.loop.invariant.counted);
      done = λ used m.
          let p = c.loop.invariant.done used m in
          let both = found_at c.args.limits.now c.args.input.now c.args.count c.args.first used m c.loop.counter c.loop.at (c.in-Word.end + 2) s c.loop.words (omega arith) p.1 r.2 r.3 p.0 in
          (c.push.ensures ∙ both.0, both.1);
    }

pub unreachable-requires : goal.unreachable-requires
unreachable-requires c =
    let m = c.requires.measured.1 in
    let p = c.loop.invariant.done c.requires.measured.0 m in
    elim c.in-More.is [
      | inl e ↦ never_more c.args.limits.now c.args.input.now c.args.count c.args.first c.requires.measured.0 m c.loop.counter c.loop.at (omega arith) p.1 (rw e at c.word_at.ensures)
      | inr e ↦ never_bad c.args.limits.now c.args.input.now c.args.count c.args.first c.requires.measured.0 m c.loop.counter c.loop.at _ (omega arith) p.1 (rw e.1 at c.word_at.ensures)
    ]

pub returns : goal.returns
returns c = λ used m.
    let p = c.loop.invariant.done used m in
    let all : c.loop.counter ≡ c.args.count = omega arith in
    all_found c.args.limits.now c.args.input.now c.args.count c.args.first used m c.loop.words (rw (← all) p.0)
