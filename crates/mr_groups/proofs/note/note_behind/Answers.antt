use Rattle.std.proofs.Common.{◌<◌, ◌+◌, length, take, arith}
use Rattle.std.proofs.lemmas.List.{length-take}
use Rattle.mr_groups.specs.Notes.{note_limit}
use Rattle.mr_groups.proofs.Notes.{IsCutAt, cut_is, goes_on, ends}
use Rattle.mr_groups.proofs.note.note_behind.Goals as goal

pub returns-then-line-behind : goal.returns-then-line-behind
returns-then-line-behind c =
    let bytes = c.args.behind.now in
    let head = take c.min.result bytes in
    let line = c.line_len-line.result in
    let found = c.line_len-line.ensures in
    let cut : IsCutAt bytes head line = record { cut = cut_is bytes c.min.result (note_limit + 1) c.min.ensures; within = found.within; none = found.none; feed = found.feed } in
    goes_on bytes head line cut c.if-line-gt-NOTE_LIMIT.false c.if-line-behind.true

pub returns : goal.returns
returns c =
    let bytes = c.args.behind.now in
    let head = take c.min.result bytes in
    let line = c.line_len-line.result in
    let found = c.line_len-line.ensures in
    let cut : IsCutAt bytes head line = record { cut = cut_is bytes c.min.result (note_limit + 1) c.min.ensures; within = found.within; none = found.none; feed = found.feed } in
    let some : line < length bytes = omega (arith, c.if-line-behind.false, found.within, length-take c.min.result bytes) in
    ends bytes head line cut c.if-line-gt-NOTE_LIMIT.false some
