use Rattle.std.proofs.Common.{◌+◌, ◌<◌, drop, length, take, sym, ap, ap₂, ◌∙◌, arith}
use Rattle.std.specs.Cmp.Lexicographic.{slice_cmp}
use Rattle.std.specs.Ordering.{nat_cmp}
use Rattle.mr_packed.specs.Packing.{strings_of}
use Rattle.mr_packed.proofs.Packing.{count_bound, ended, goes_on, size_at, next_start, ends_within, starts_within, text_at, below_more}
use Rattle.mr_packed.proofs.packed.Packed.seek.Goals as goal

pub read-here-requires-clause-start : goal.read-here-requires-clause-start
read-here-requires-clause-start c = starts_within _ _ c.loop-at.at c.loop-at.start (c.deref.ensures.value ∙ c.self.invariant) c.loop-at.invariant.start (goes_on _ (strings_of c.self.inside.bytes.items) c.loop-at.at c.loop-at.start c.self.invariant c.loop-at.invariant.start c.loop-at.invariant.within (λ e. c.if-start-len.false (omega (arith, e, c.self.inside.bytes.ok))))

pub read-here-requires-clause-end : goal.read-here-requires-clause-end
read-here-requires-clause-end c =
    let strings = strings_of c.self.inside.bytes.items in
    let whole = c.deref.ensures.value ∙ c.self.invariant in
    let within : c.loop-at.at < length strings = goes_on _ (strings_of c.self.inside.bytes.items) c.loop-at.at c.loop-at.start c.self.invariant c.loop-at.invariant.start c.loop-at.invariant.within (λ e. c.if-start-len.false (omega (arith, e, c.self.inside.bytes.ok))) in
    omega (arith, size_at _ strings c.loop-at.at c.loop-at.start whole c.loop-at.invariant.start within, ends_within _ strings c.loop-at.at c.loop-at.start whole c.loop-at.invariant.start within)

pub overflow_add-start-in-Less : goal.overflow_add-start-in-Less
overflow_add-start-in-Less c =
    let strings = strings_of c.self.inside.bytes.items in
    let whole = c.deref.ensures.value ∙ c.self.invariant in
    let within : c.loop-at.at < length strings = goes_on _ (strings_of c.self.inside.bytes.items) c.loop-at.at c.loop-at.start c.self.invariant c.loop-at.invariant.start c.loop-at.invariant.within (λ e. c.if-start-len.false (omega (arith, e, c.self.inside.bytes.ok))) in
    omega (arith, c.read-here.ensures.len, size_at _ strings c.loop-at.at c.loop-at.start whole c.loop-at.invariant.start within, ends_within _ strings c.loop-at.at c.loop-at.start whole c.loop-at.invariant.start within, ap length c.deref.ensures.value, c.self.inside.bytes.ok, c.self.inside.bytes.small)

pub returns-in-Equal-clause-found : goal.returns-in-Equal-clause-found
returns-in-Equal-clause-found c =
    let strings = strings_of c.self.inside.bytes.items in
    let whole = c.deref.ensures.value ∙ c.self.invariant in
    let within : c.loop-at.at < length strings = goes_on _ (strings_of c.self.inside.bytes.items) c.loop-at.at c.loop-at.start c.self.invariant c.loop-at.invariant.start c.loop-at.invariant.within (λ e. c.if-start-len.false (omega (arith, e, c.self.inside.bytes.ok))) in
    let text = c.read-here.ensures.text ∙ ap (λ n. take n (drop (c.loop-at.start + 1) c.deref.result.now)) (size_at _ strings c.loop-at.at c.loop-at.start whole c.loop-at.invariant.start within) ∙ text_at _ strings c.loop-at.at c.loop-at.start whole c.loop-at.invariant.start within in
    let same = c.even_cmp.ensures.equal c.in-Equal.is in
    rw (sym c.self.view_is) (record {
      within = within;
      even = same.0;
      string_is = sym text ∙ same.1;
      below = c.loop-at.invariant.below;
    })

pub returns-in-Greater-clause-before : goal.returns-in-Greater-clause-before
returns-in-Greater-clause-before c =
    let strings = strings_of c.self.inside.bytes.items in
    let whole = c.deref.ensures.value ∙ c.self.invariant in
    let within : c.loop-at.at < length strings = goes_on _ (strings_of c.self.inside.bytes.items) c.loop-at.at c.loop-at.start c.self.invariant c.loop-at.invariant.start c.loop-at.invariant.within (λ e. c.if-start-len.false (omega (arith, e, c.self.inside.bytes.ok))) in
    let text = c.read-here.ensures.text ∙ ap (λ n. take n (drop (c.loop-at.start + 1) c.deref.result.now)) (size_at _ strings c.loop-at.at c.loop-at.start whole c.loop-at.invariant.start within) ∙ text_at _ strings c.loop-at.at c.loop-at.start whole c.loop-at.invariant.start within in
    let more = c.even_cmp.ensures.greater c.in-Greater.is in
    rw (sym c.self.view_is) (record {
      within = omega (arith, within);
      below = c.loop-at.invariant.below;
      above = λ _. (more.0, ap (λ s. slice_cmp nat_cmp s c.args.string.now) (sym text) ∙ more.1);
    })

pub loop-at-preserved : goal.loop-at-preserved
loop-at-preserved c =
    let strings = strings_of c.self.inside.bytes.items in
    let whole = c.deref.ensures.value ∙ c.self.invariant in
    let within : c.loop-at.at < length strings = goes_on _ (strings_of c.self.inside.bytes.items) c.loop-at.at c.loop-at.start c.self.invariant c.loop-at.invariant.start c.loop-at.invariant.within (λ e. c.if-start-len.false (omega (arith, e, c.self.inside.bytes.ok))) in
    let size = size_at _ strings c.loop-at.at c.loop-at.start whole c.loop-at.invariant.start within in
    let text = c.read-here.ensures.text ∙ ap (λ n. take n (drop (c.loop-at.start + 1) c.deref.result.now)) size ∙ text_at _ strings c.loop-at.at c.loop-at.start whole c.loop-at.invariant.start within in
    record {
      within = omega (arith, within);
      start = ap₂ (λ m n. m + (n + 1)) c.loop-at.invariant.start (c.read-here.ensures.len ∙ size) ∙ sym (next_start strings c.loop-at.at within);
      below = below_more strings c.args.string.now c.loop-at.at c.loop-at.invariant.below (λ even. ap (λ s. slice_cmp nat_cmp s c.args.string.now) (sym text) ∙ c.even_cmp.ensures.less c.in-Less.is even);
    }

pub returns-then-start-len-clause-before : goal.returns-then-start-len-clause-before
returns-then-start-len-clause-before c =
    let all = ended _ (strings_of c.self.inside.bytes.items) c.loop-at.at c.loop-at.start c.self.invariant c.loop-at.invariant.start c.loop-at.invariant.within (omega (arith, c.if-start-len.true, c.self.inside.bytes.ok)) in
    rw (sym c.self.view_is) (record {
      within = c.loop-at.invariant.within;
      below = c.loop-at.invariant.below;
      above = λ more. absurd (omega (arith, more, all));
    })

pub returns-clause-before : goal.returns-clause-before
returns-clause-before c =
    let most = count_bound _ (strings_of c.self.inside.bytes.items) c.self.invariant in
    rw (sym c.self.view_is) (record {
      within = omega (arith, c.loop-at-test.false, c.loop-at.invariant.within, c.self.inside.bytes.ok);
      below = λ i within even. c.loop-at.invariant.below i (omega (arith, within, c.loop-at-test.false)) even;
      above = λ more. absurd (omega (arith, more, most, c.self.inside.bytes.ok));
    })
