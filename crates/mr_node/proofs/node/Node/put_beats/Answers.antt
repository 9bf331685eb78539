use Rattle.std.proofs.Common.{rules, ◌≡◌, ◌-◌, ◌≤◌, ℕ, ℤ, subst, ap, to_z, of_z, w64}
use Rattle.std.proofs.lemmas.Int.{to_z-of_z}
use Rattle.mr_repl.specs.Backlog.{offset_limit}
use Rattle.mr_node_spec.specs.TimeRows.{room_in}
use Rattle.mr_node.specs.Ticking.{Doomed, SinceBeat}
use Rattle.mr_node.proofs.Ticking.{Writes, doomed_at, puts, writes_as, writes_beat, writes_full, writes_unmarked, writes_waiting}
use Rattle.mr_node.proofs.node.Node.put_beats.Goals as goal
use Rattle.mr_node.proofs.node.Node.put_beats.Goals.{in-Waiting, in-Unmarked, in-Passed+in_ok-beat-in-Passed+then-branch+in_ok-push-in-Passed, in-Passed+in_ok-beat-in-Passed+else-branch}

pub returns : goal.returns
returns c =
    let a = c.args.self.now in
    let room = offset_limit - c.end-room.result in
    let offset : c.end-room.result ≡ a.core.lineage.stream.offset = search rules in
    let room_is : room ≡ room_in a.core = ap (λ (n : ℕ). offset_limit - n) offset in
    let within : a.core.lineage.stream.offset ≤ offset_limit = search rules in
    let held : c.held.result.now ≡ a.core.held = search rules in
    let now : to_z w64 (of_z w64 c.args.now) ≡ c.args.now = to_z-of_z w64 c.args.now c.ranges.now in
    let dooms : Doomed a.core.held c.args.now (room_in a.core) c.in_ok-effects.field-0 c.doomed.new.outs =
    doomed_at a c.held.result.now c.args.now room c.in_ok-effects.field-0 c.doomed.new.outs held room_is (subst (λ (z : ℤ). Doomed c.held.result.now z room c.in_ok-effects.field-0 c.doomed.new.outs) now c.in_ok-effects.ensures.deletions) in
    let since : SinceBeat a c.args.now c.in_ok-effects.field-0.whole c.since_beat.result = subst (λ (z : ℤ). SinceBeat a z c.in_ok-effects.field-0.whole c.since_beat.result) now c.since_beat.ensures in
    let writes : Writes a c.args.now c.match-since_beat.effects.items c.match-since_beat.marks c.match-since_beat.outs = elim c.match-since_beat.branch [
      | in-Waiting w ↦ writes_as a c.args.now w.effects-is w.marks-is w.outs-is (writes_waiting a c.args.now c.in_ok-effects.field-0 c.doomed.new.outs dooms since w.in-Waiting.is)
      | in-Unmarked w ↦ writes_as a c.args.now w.effects-is w.marks-is w.outs-is (writes_unmarked a c.args.now c.in_ok-effects.field-0 c.doomed.new.outs dooms since w.in-Unmarked.is)
      | in-Passed+in_ok-beat-in-Passed+then-branch+in_ok-push-in-Passed w ↦ writes_as a c.args.now w.effects-is w.marks-is w.outs-is
          (writes_beat a c.args.now c.in_ok-effects.field-0 c.doomed.new.outs dooms w.push.new.self.items w.beat.new.self room w.in_ok-beat-in-Passed.field-0 since w.in-Passed.is room_is w.in_ok-beat-in-Passed.ensures.fits w.in_ok-beat-in-Passed.ensures.outs w.if-branch.true w.in_ok-push-in-Passed.ensures.items)
      | in-Passed+in_ok-beat-in-Passed+else-branch w ↦ writes_as a c.args.now w.effects-is w.marks-is w.outs-is
          (writes_full a c.args.now c.in_ok-effects.field-0 c.doomed.new.outs dooms w.beat.new.self room w.in_ok-beat-in-Passed.field-0 since w.in-Passed.is room_is w.in_ok-beat-in-Passed.ensures.fits w.in_ok-beat-in-Passed.ensures.outs w.if-branch.false)
    ] in
    record { puts = puts a c.args.now (record { effects = c.match-since_beat.effects; marks = c.match-since_beat.marks }) c.match-since_beat.outs c.feed_replicas.new.outs within writes c.in_ok-feed_replicas.ensures.feeds; lacks = tt }
