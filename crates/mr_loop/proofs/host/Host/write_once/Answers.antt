use Rattle.std.proofs.Common.{◌<◌, inl, inr, refl, rules, take, ◌∙◌}
use Rattle.mr_wire.specs.declared.wire.Moved.TheVariants as moved
use Rattle.mr_connections.proofs.Sent.{nil_of}
use Rattle.mr_loop.specs.Rows.{breaks, writes}
use Rattle.mr_loop.specs.Hosts.{moment_in}
use Rattle.mr_loop.proofs.Runs.{still_here, still_one}
use Rattle.mr_loop.proofs.Waiting.{all_is, ended_all}
use Rattle.mr_loop.proofs.Writes.{breaks_row, front_within, no_bytes, none_stuck, some_failed, stuck_now, waits_at, writes_none, writes_row, wrote_has, wrote_less}
use Rattle.mr_loop.proofs.host.Host.write_once.Goals as goal

pub returns-in_default-clause-went : goal.returns-in_default-clause-went
returns-in_default-clause-went g c = still_here (moment_in g.S.Source.drawn c.args.self.now) _

pub returns-then-is_empty-clause-went : goal.returns-then-is_empty-clause-went
returns-then-is_empty-clause-went g c = still_here (moment_in g.S.Source.drawn c.args.self.now) _

pub returns-then-is_empty-clause-wrote : goal.returns-then-is_empty-clause-wrote
returns-then-is_empty-clause-wrote g c = λ link has.
    let none = nil_of c.front-front.result.now c.if-is_empty.ensures in
    (refl, record { has = has; all = inl (waits_at c.args.self.now.own.now c.args.socket c.in-Some.connection.now c.in-Some.ensures ∙ c.front-front.ensures.some none) })

pub returns-then-count-length-clause-went : goal.returns-then-count-length-clause-went
returns-then-count-length-clause-went g c =
    let moment = moment_in g.S.Source.drawn c.args.self.now in let connection = c.in-Some.connection.now in let count = c.in-Bytes.count in
    still_one (writes c.args.socket (take count connection.waiting)) moment moment refl refl refl refl refl refl refl refl (λ ids. refl)
    (writes_row c.args.socket connection (moved.Bytes count) c.front-front.result.now c.requires c.in-Some.ensures c.front-front.ensures.begins (some_failed count) c.in-Bytes.ensures.within c.in-Bytes.ensures.written (λ e. (c.in-Bytes.ensures.absent e).1) c.write.ensures.later c.wrote.ensures refl (refl, refl)) refl

pub returns-then-count-length-clause-wrote : goal.returns-then-count-length-clause-wrote
returns-then-count-length-clause-wrote g c = λ link has. let some : 0 < c.in-Bytes.count = search rules in (
  refl,
  wrote_has c.args.self.now.own.now c.wrote.new.self c.args.socket link c.in-Bytes.count c.wrote.ensures has,
  wrote_less c.args.self.now.own.now c.wrote.new.self c.args.socket c.in-Some.connection.now c.in-Bytes.count c.in-Some.ensures c.wrote.ensures some (front_within c.front-front.result.now c.in-Some.connection.now.waiting c.in-Bytes.count c.front-front.ensures.begins c.in-Bytes.ensures.within),
)

pub returns-then-count-gt0-clause-went : goal.returns-then-count-gt0-clause-went
returns-then-count-gt0-clause-went g c =
    let moment = moment_in g.S.Source.drawn c.args.self.now in let connection = c.in-Some.connection.now in let count = c.in-Bytes.count in
    still_one (writes c.args.socket (take count connection.waiting)) moment moment refl refl refl refl refl refl refl refl (λ ids. refl)
    (writes_row c.args.socket connection (moved.Bytes count) c.front-front.result.now c.requires c.in-Some.ensures c.front-front.ensures.begins (some_failed count) c.in-Bytes.ensures.within c.in-Bytes.ensures.written (λ e. (c.in-Bytes.ensures.absent e).1) c.write.ensures.later c.wrote.ensures refl (refl, refl)) refl

pub returns-then-count-gt0-clause-wrote : goal.returns-then-count-gt0-clause-wrote
returns-then-count-gt0-clause-wrote g c = λ link has. (
  refl,
  wrote_has c.args.self.now.own.now c.wrote.new.self c.args.socket link c.in-Bytes.count c.wrote.ensures has,
  wrote_less c.args.self.now.own.now c.wrote.new.self c.args.socket c.in-Some.connection.now c.in-Bytes.count c.in-Some.ensures c.wrote.ensures c.if-count-gt0.true (front_within c.front-front.result.now c.in-Some.connection.now.waiting c.in-Bytes.count c.front-front.ensures.begins c.in-Bytes.ensures.within),
)

pub returns-else-count-gt0-clause-went : goal.returns-else-count-gt0-clause-went
returns-else-count-gt0-clause-went g c =
    let moment = moment_in g.S.Source.drawn c.args.self.now in let connection = c.in-Some.connection.now in let count = c.in-Bytes.count in
    still_one (writes c.args.socket (take count connection.waiting)) moment moment refl refl refl refl refl refl refl refl (λ ids. refl)
    (writes_row c.args.socket connection (moved.Bytes count) c.front-front.result.now c.requires c.in-Some.ensures c.front-front.ensures.begins (some_failed count) c.in-Bytes.ensures.within c.in-Bytes.ensures.written (λ e. (c.in-Bytes.ensures.absent e).1) c.write.ensures.later c.wrote.ensures refl (refl, refl)) refl

pub returns-else-count-gt0-clause-wrote : goal.returns-else-count-gt0-clause-wrote
returns-else-count-gt0-clause-wrote g c = λ link has. (
  refl,
  record {
    has = wrote_has c.args.self.now.own.now c.wrote.new.self c.args.socket link c.in-Bytes.count c.wrote.ensures has;
    all = inr (stuck_now (g.W.Wire.links c.args.self.now.wire.now) (g.W.Wire.links c.write.new.self) c.args.socket (moved.Bytes c.in-Bytes.count) c.front-front.result.now (some_failed c.in-Bytes.count) (no_bytes c.in-Bytes.count c.if-count-gt0.false) c.in-Bytes.ensures.written
        (λ e. (c.in-Bytes.ensures.absent e).0));
  },
)

pub returns-in-NotReady-clause-went : goal.returns-in-NotReady-clause-went
returns-in-NotReady-clause-went g c =
    let moment = moment_in g.S.Source.drawn c.args.self.now in let connection = c.in-Some.connection.now in
    still_one (writes c.args.socket (take 0 connection.waiting)) moment moment refl refl refl refl refl refl refl refl (λ ids. refl)
    (writes_none c.args.socket connection c.write.result c.front-front.result.now c.in-NotReady.is c.requires c.in-Some.ensures c.front-front.ensures.begins c.write.ensures.within c.write.ensures.written (λ e. (c.write.ensures.absent e).1) c.write.ensures.later c.wrote-in-NotReady.ensures refl (refl, refl)) refl

pub returns-in-NotReady-clause-wrote : goal.returns-in-NotReady-clause-wrote
returns-in-NotReady-clause-wrote g c = λ link has. (
  refl,
  record {
    has = wrote_has c.args.self.now.own.now c.wrote-in-NotReady.new.self c.args.socket link 0 c.wrote-in-NotReady.ensures has;
    all = inr (none_stuck (g.W.Wire.links c.args.self.now.wire.now) (g.W.Wire.links c.write.new.self) c.args.socket c.write.result c.front-front.result.now c.in-NotReady.is c.write.ensures.written (λ e. (c.write.ensures.absent e).0));
  },
)

pub returns-in-Failed-clause-went : goal.returns-in-Failed-clause-went
returns-in-Failed-clause-went g c =
    still_one (breaks c.args.socket) (moment_in g.S.Source.drawn c.args.self.now) (moment_in g.S.Source.drawn c.drop_connection.new.self) refl refl refl refl refl refl refl refl (λ ids. refl)
    (breaks_row c.args.socket c.in-Some.connection.now c.link-link.result c.front-front.result.now (g.W.Wire.links c.write.new.self) (g.W.Wire.failures c.write.new.self) c.requires c.in-Some.ensures c.link-link.ensures c.front-front.ensures.begins c.in-Failed.ensures.written (λ e. (c.write.ensures.absent e).1) (c.in-Failed.ensures.cause refl) c.drop_connection.ensures.dropped) c.drop_connection.ensures.moment

pub returns-in-Failed-clause-quiet : goal.returns-in-Failed-clause-quiet
returns-in-Failed-clause-quiet g c = λ q. all_is c.drop_connection.ensures.dropped.node (ended_all c.link-link.result c.args.self.now.node.now q)
