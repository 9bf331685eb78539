use Rattle.std.proofs.Common.{◌≡◌, ℕ, List, map, option_map, IfOk, Global, subst, inl, inr}
use Rattle.std.specs.Cow.{cow_slice_items}
use Rattle.std.specs.declared.borrow.CowSlice.{CowSlice}
use Rattle.mr_inline.specs.Scans.{ReadsLine}
use Rattle.mr_inline.specs.Limits.{line_limit}
use Rattle.mr_world_script.specs.Reading.{said_by, said_of}
use Rattle.mr_world_script.proofs.LineKinds.{no_more, no_rest, not_doomed, whole_read}
use Rattle.mr_world_script.proofs.line.Line.read.Goals as goal

pub returns-then-used-text-clause-read : goal.returns-then-used-text-clause-read
returns-then-used-text-clause-read c said h =
    let found = subst (ReadsLine line_limit c.args.text.now) c.in-Whole.is c.in_ok-words.ensures.found in
    no_more c.args.text.now said c.in-Whole.used c.if-used-text.true (inl (_, found.1)) h

pub returns-then-used-text-2-clause-read : goal.returns-then-used-text-2-clause-read
returns-then-used-text-2-clause-read c said h =
    let found = subst (ReadsLine line_limit c.args.text.now) c.in-Skip.is c.in_ok-words.ensures.found in
    no_more c.args.text.now said c.in-Skip.used c.if-used-text-2.true (inr found.1) h

pub returns-else-used-text-clause-read : goal.returns-else-used-text-clause-read
returns-else-used-text-clause-read c =
    let found = subst (ReadsLine line_limit c.args.text.now) c.in-Whole.is c.in_ok-words.ensures.found in
    whole_read c.args.text.now c.in-Whole.used _ c.read_words.result c.if-used-text.false found.1.1
    (subst (λ (items : List (CowSlice ℕ Global)). IfOk c.read_words.result (λ line. option_map said_of line ≡ said_by (map cow_slice_items items))) c.deref.ensures.value c.read_words.ensures)

pub returns-in-More-clause-read : goal.returns-in-More-clause-read
returns-in-More-clause-read c said h =
    let found = c.in_ok-words.ensures.found in
    elim c.in-More.is [
      | inl more ↦ no_rest c.args.text.now said (subst (ReadsLine line_limit c.args.text.now) more found) h
      | inr bad ↦ not_doomed c.args.text.now said bad.0 (subst (ReadsLine line_limit c.args.text.now) bad.1 found) h
    ]
