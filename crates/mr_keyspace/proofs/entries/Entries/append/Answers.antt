use Rattle.std.proofs.Common.{[], ◌++◌, subst}
use Rattle.std.specs.FinMap.{insert}
use Rattle.mr_map.specs.Bytes.{Bytes}
use Rattle.mr_keyspace.specs.Changes.{at_key}
use Rattle.mr_keyspace.specs.Outcome.{Applies}
use Rattle.mr_keyspace.specs.Steps.{append_step}
use Rattle.mr_keyspace.specs.Texts.{fitting}
use Rattle.mr_keyspace.specs.declared.value.Value.TheVariants as value
use Rattle.mr_keyspace.specs.declared.value.Entry.{Entry}
use Rattle.mr_keyspace.proofs.Stepping.{with_value, entry_at, is_there}
use Rattle.mr_keyspace.proofs.TextSteps.{refuses_other, changes}
use Rattle.mr_keyspace.proofs.entries.Entries.append.Goals as goal

pub returns-in_default-value : goal.returns-in_default-value
returns-in_default-value c =
    refuses_other [] (λ text. fitting (text ++ c.args.more)) c.self.view_is c.args.key c.as_slice.result.now c.as_slice.ensures (entry_at c.self.inside.by_key c.as_slice.result.now c.in-Some.value.now) (is_there c.self.inside.by_key c.as_slice.result.now c.in-Some.value.now c.in-Some.ensures.value) c.in_default-value.not-Text

pub returns : goal.returns
returns c =
    let e : Entry = (entry_at c.self.inside.by_key c.as_slice.result.now c.in-Some.value.now) in
    let more : Bytes = c.as_slice-2.result.now in
    subst (λ (x : Bytes). Applies (at_key (append_step x) c.args.key c.args.self.now) c.args.self.now c.extend.result (insert c.self.inside.by_key c.as_slice.result.now (with_value (value.Text c.extend.new.text) e.deadline))) c.as_slice-2.ensures
    (changes [] (λ text. fitting (text ++ more)) c.self.view_is c.args.key c.as_slice.result.now c.as_slice.ensures e.deadline e.value c.in-Text.text c.extend.new.text c.extend.result (is_there c.self.inside.by_key c.as_slice.result.now c.in-Some.value.now c.in-Some.ensures.value) c.in-Text.is c.extend.ensures.ok c.extend.ensures.refused c.extend.ensures.unchanged)
