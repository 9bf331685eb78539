use Rattle.std.specs.FinMap.{get}
use Rattle.mr_keyspace.specs.Steps.{deadline_of}
use Rattle.std.proofs.Common.{[]}
use Rattle.mr_bytes.specs.Texts.{overwritten}
use Rattle.mr_keyspace.specs.Texts.{fitting}
use Rattle.mr_keyspace.proofs.Stepping.{entry_at, is_there}
use Rattle.mr_keyspace.proofs.TextSteps.{refuses_other, changes}
use Rattle.mr_keyspace.proofs.entries.Entries.write_range.Goals as goal

pub returns-in_default-value : goal.returns-in_default-value
returns-in_default-value c =
    refuses_other [] (λ text. fitting (overwritten c.args.offset c.args.part.now text)) c.self.view_is c.args.key c.as_slice.result.now c.as_slice.ensures (entry_at c.self.inside.by_key c.as_slice.result.now c.in-Some.value.now) (is_there c.self.inside.by_key c.as_slice.result.now c.in-Some.value.now c.in-Some.ensures.value) c.in_default-value.not-Text

pub returns : goal.returns
returns c =
    changes [] (λ text. fitting (overwritten c.args.offset c.args.part.now text)) c.self.view_is c.args.key c.as_slice.result.now c.as_slice.ensures (deadline_of (get c.self.inside.by_key c.as_slice.result.now)) c.in-Some.value.now c.in-Text.text c.overwrite-2.new.text c.overwrite-2.result (is_there c.self.inside.by_key c.as_slice.result.now c.in-Some.value.now c.in-Some.ensures.value) c.in-Text.is c.overwrite-2.ensures.ok c.overwrite-2.ensures.refused c.overwrite-2.ensures.unchanged
