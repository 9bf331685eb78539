use Rattle.std.proofs.Common.{ap, refl, ◌∙◌}
use Rattle.mr_node_spec.specs.LinkRows.{closed_at}
use Rattle.mr_loop.specs.Hosts.{moment_in}
use Rattle.mr_loop.proofs.Runs.{still_here}
use Rattle.mr_loop.proofs.Waiting.{all_is, closed_waits}
use Rattle.mr_loop.proofs.Writes.{deaf_row, deaf_still, still_then}
use Rattle.mr_loop.proofs.Same.{same_on}
use Rattle.mr_loop.proofs.host.Host.unburden.Goals as goal

pub returns-then-not-is_burdened-clause-went : goal.returns-then-not-is_burdened-clause-went
returns-then-not-is_burdened-clause-went g c = still_here (moment_in g.S.Source.drawn c.args.self.now) _

pub returns-then-not-write_ready-clause-went : goal.returns-then-not-write_ready-clause-went
returns-then-not-write_ready-clause-went g c = still_then c.commit.ensures.same.mode c.in_ok-commit.ensures.went c.write_ready.ensures.went

pub returns-then-not-write_ready-clause-quiet : goal.returns-then-not-write_ready-clause-quiet
returns-then-not-write_ready-clause-quiet g c = λ q gone. all_is (c.write_ready.ensures.gone c.if-not-write_ready.true ∙ ap (closed_at c.args.link) c.commit.ensures.node) (closed_waits c.args.link c.args.self.now.node.now q)

pub returns-then-not-is_burdened-2-clause-went : goal.returns-then-not-is_burdened-2-clause-went
returns-then-not-is_burdened-2-clause-went g c = still_then c.commit.ensures.same.mode c.in_ok-commit.ensures.went c.write_ready.ensures.went

pub returns-clause-went : goal.returns-clause-went
returns-clause-went g c =
    let there = c.write_ready.ensures.there c.if-not-write_ready.false in
    let same = same_on c.args.self.now c.commit.new.self c.write_ready.new.self c.commit.ensures.same c.write_ready.ensures.same in
    still_then same.mode (still_then c.commit.ensures.same.mode c.in_ok-commit.ensures.went c.write_ready.ensures.went)
    (deaf_still c.args.socket c.args.link (moment_in g.S.Source.drawn c.write_ready.new.self) (moment_in g.S.Source.drawn c.drop_connection.new.self) (moment_in g.S.Source.drawn (record c.drop_connection.new.self { moment = c.count_deaf.new.self })) c.drop_connection.ensures.moment
    c.count_deaf.ensures.turn c.count_deaf.ensures.fresh refl
    (deaf_row c.args.socket c.args.link c.args.self.now.node.now (there.0 ∙ c.commit.ensures.node) c.requires.input there.1 (c.is_burdened-2.ensures.burdened c.if-not-is_burdened-2.false) c.drop_connection.ensures.dropped))

pub returns-clause-quiet : goal.returns-clause-quiet
returns-clause-quiet g c = λ q gone.
    let there = c.write_ready.ensures.there c.if-not-write_ready.false in
    all_is (c.drop_connection.ensures.dropped.node ∙ ap (closed_at c.args.link) (there.0 ∙ c.commit.ensures.node)) (closed_waits c.args.link c.args.self.now.node.now q)
