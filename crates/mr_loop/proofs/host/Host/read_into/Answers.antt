use Rattle.std.proofs.Common.{rules, ◌≡◌, ◌≤◌, [], true, ap, length, refl, subst, sym, take, ◌∙◌}
use Rattle.mr_aof.specs.declared.log.Log.{Log}
use Rattle.mr_wire.specs.Wire.{behind_read}
use Rattle.mr_wire.specs.declared.wire.Moved.TheVariants as moved
use Rattle.mr_node.specs.Calls.{IsUnread}
use Rattle.mr_loop.specs.declared.lacking.Asked.TheVariants as asked
use Rattle.mr_loop.specs.Stage.{losing, stage}
use Rattle.mr_loop.specs.Causes.{HasRoom, Touches}
use Rattle.mr_loop.specs.Rows.{finds_none, hears_end, loses, misses, takes}
use Rattle.mr_loop.specs.Hosts.{moment_in}
use Rattle.mr_loop.proofs.Arrivals.{dropped_all, dropped_from, fed_none, fed_refused, room_for}
use Rattle.mr_loop.specs.Counting.{pieces_by}
use Rattle.mr_loop.proofs.Runs.{own_piece, reaches_one, reaches_still, still_one}
use Rattle.mr_loop.proofs.Waiting.{all_is, closed_all, fed_others}
use Rattle.mr_loop.proofs.host.Host.read_into.Goals as goal

pub returns-then-count-eq0-clause-went : goal.returns-then-count-eq0-clause-went
returns-then-count-eq0-clause-went g c =
    let moment = moment_in g.S.Source.drawn c.args.self.now in
    reaches_still (pieces_by c.args.socket) 1 (still_one (finds_none c.args.socket) moment moment refl refl refl refl refl refl refl refl (λ ids. refl) (record {
      link = c.args.link;
      read = c.requires.read;
      answer = moved.Bytes c.in-Bytes.count;
      buffer = c.read.new.into;
      none = c.if-count-eq0.true;
      goes_on = refl;
      wire = record { changes = c.in-Bytes.ensures.read; absent = λ e. (c.read.ensures.absent e).1 };
      later = c.read.ensures.later;
      node = refl;
      own = refl;
      file = (refl, refl);
    }) refl)

pub returns-in-Ok-clause-went : goal.returns-in-Ok-clause-went
returns-in-Ok-clause-went g c =
    let moment = moment_in g.S.Source.drawn c.args.self.now in
    let long : length c.read.new.into ≡ length c.args.buffer.now = search rules in
    let room = subst (HasRoom c.args.self.now.node.now c.args.link) (sym long) c.requires.room in
    reaches_one (pieces_by c.args.socket) true (takes c.args.socket (take c.in-Bytes.count c.read.new.into)) moment moment refl refl refl refl refl refl refl refl (λ ids. refl) (record {
      link = c.args.link;
      read = c.requires.read;
      count = c.in-Bytes.count;
      buffer = c.read.new.into;
      bytes_are = refl;
      room = room_for c.args.self.now.node.now c.args.link c.in-Bytes.count (length c.read.new.into) room c.in-Bytes.ensures.within;
      wire = record { changes = c.in-Bytes.ensures.read; absent = λ e. (c.read.ensures.absent e).1 };
      later = c.read.ensures.later;
      node = record { up = c.in-Ok.ensures.0; there = c.in-Ok.ensures.1; feeds = c.in-Ok.ensures.3; sound = c.sound.ensures };
      own = c.widen.ensures;
      file = (refl, refl);
    }) refl (own_piece c.args.socket (take c.in-Bytes.count c.read.new.into))

pub returns-in-Ok-clause-quiet : goal.returns-in-Ok-clause-quiet
returns-in-Ok-clause-quiet g c = λ q. fed_others c.args.self.now.node.now c.feed.new.self c.args.link (take c.in-Bytes.count c.read.new.into) (record { up = c.in-Ok.ensures.0; there = c.in-Ok.ensures.1; feeds = c.in-Ok.ensures.3; sound = c.sound.ensures }) q

pub returns-in-Err-clause-went : goal.returns-in-Err-clause-went
returns-in-Err-clause-went g c =
    let s = c.args.self.now in
    let same = fed_none s.node.now c.feed.new.self c.args.link (take c.in-Bytes.count c.read.new.into) _ c.in-Err._refused c.in-Err.ensures in
    let long : length c.read.new.into ≡ length c.args.buffer.now = search rules in
    let room = subst (HasRoom s.node.now c.args.link) (sym long) c.requires.room in
    reaches_still (pieces_by c.args.socket) 1 (still_one (misses c.args.socket) (moment_in g.S.Source.drawn s) (moment_in g.S.Source.drawn c.drop_connection.new.self) refl refl refl refl refl refl refl refl (λ ids. refl) (record {
      link = c.args.link;
      read = c.requires.read;
      count = c.in-Bytes.count;
      buffer = c.read.new.into;
      wire = g.W.Wire.links c.read.new.self;
      touched = record { changes = c.in-Bytes.ensures.read; absent = λ e. (c.read.ensures.absent e).1 };
      failed = g.W.Wire.failures c.read.new.self;
      later = c.read.ensures.later;
      refused = fed_refused s.node.now c.feed.new.self c.args.link c.in-Bytes.count c.read.new.into c.in-Err._refused room c.in-Bytes.ensures.within c.if-count-eq0.false c.in-Err.ensures;
      unread = c.unread-unread.result;
      counted = subst (λ n. IsUnread n c.args.link c.unread-unread.result) same c.unread-unread.ensures.count;
      dropped = dropped_from (stage s.node.now s.own.now (g.W.Wire.links c.read.new.self) (g.W.Wire.failures c.read.new.self) (g.F.LogFile.told s.log.now.file) (g.F.LogFile.synced s.log.now.file)) _ c.feed.new.self c.lose.new.self _ same (c.lose.ensures ∙ ap (λ n. losing (asked.Bytes n) s.own.now) c.told_with.ensures) c.drop_connection.ensures.dropped;
    }) c.drop_connection.ensures.moment)

pub returns-in-Err-clause-quiet : goal.returns-in-Err-clause-quiet
returns-in-Err-clause-quiet g c = λ q.
    let same = fed_none c.args.self.now.node.now c.feed.new.self c.args.link (take c.in-Bytes.count c.read.new.into) _ c.in-Err._refused c.in-Err.ensures in
    dropped_all c.drop_connection.ensures.dropped (all_is same q)

pub returns-in-NotReady-clause-went : goal.returns-in-NotReady-clause-went
returns-in-NotReady-clause-went g c =
    let moment = moment_in g.S.Source.drawn c.args.self.now in
    reaches_still (pieces_by c.args.socket) 1 (still_one (finds_none c.args.socket) moment moment refl refl refl refl refl refl refl refl (λ ids. refl) (record {
      link = c.args.link;
      read = c.requires.read;
      answer = moved.NotReady;
      buffer = c.read.new.into;
      none = refl;
      goes_on = refl;
      wire = record { changes = c.in-NotReady.ensures.read; absent = λ e. (c.read.ensures.absent e).1 };
      later = c.read.ensures.later;
      node = refl;
      own = refl;
      file = (refl, refl);
    }) refl)

pub returns-in-End-clause-went : goal.returns-in-End-clause-went
returns-in-End-clause-went g c =
    let s = c.args.self.now in
    let touched : Touches (g.W.Wire.links s.wire.now) c.args.socket (behind_read g.W.Wire.tells moved.End c.read.new.into) [] (g.W.Wire.links c.read.new.self) = record { changes = c.in-End.ensures.read; absent = λ e. (c.read.ensures.absent e).1 } in
    reaches_still (pieces_by c.args.socket) 1 (still_one (hears_end c.args.socket c.args.link) (moment_in g.S.Source.drawn s) (moment_in g.S.Source.drawn c.part.new.self) refl refl refl refl refl refl refl refl (λ ids. refl) (record {
      read = c.requires.read;
      buffer = c.read.new.into;
      wire = subst (Touches (g.W.Wire.links s.wire.now) c.args.socket (behind_read g.W.Wire.tells moved.End c.read.new.into) []) (sym (ap g.W.Wire.links c.part.ensures.wire)) touched;
      later = subst (λ k. g.W.Wire.failures s.wire.now ≤ k) (sym (ap g.W.Wire.failures c.part.ensures.wire)) c.read.ensures.later;
      node = c.part.ensures.node;
      own = c.part.ensures.own;
      file = (ap (λ (l : Log g.row.F.Denot). g.F.LogFile.told l.file) c.part.ensures.log, ap (λ (l : Log g.row.F.Denot). g.F.LogFile.synced l.file) c.part.ensures.log);
    }) c.part.ensures.moment)

pub returns-in-End-clause-quiet : goal.returns-in-End-clause-quiet
returns-in-End-clause-quiet g c = λ q. all_is c.part.ensures.node (closed_all c.args.link c.args.self.now.node.now q)

pub returns-in-Failed-clause-went : goal.returns-in-Failed-clause-went
returns-in-Failed-clause-went g c =
    reaches_still (pieces_by c.args.socket) 1 (still_one (loses c.args.socket) (moment_in g.S.Source.drawn c.args.self.now) (moment_in g.S.Source.drawn c.drop_connection-in-Failed.new.self) refl refl refl refl refl refl refl refl (λ ids. refl) (record {
      link = c.args.link;
      read = c.requires.read;
      buffer = c.read.new.into;
      wire = g.W.Wire.links c.read.new.self;
      touched = record { changes = c.in-Failed.ensures.read; absent = λ e. (c.read.ensures.absent e).1 };
      failed = g.W.Wire.failures c.read.new.self;
      rose = c.in-Failed.ensures.cause refl;
      dropped = c.drop_connection-in-Failed.ensures.dropped;
    }) c.drop_connection-in-Failed.ensures.moment)

pub returns-in-Failed-clause-quiet : goal.returns-in-Failed-clause-quiet
returns-in-Failed-clause-quiet g c = λ q. dropped_all c.drop_connection-in-Failed.ensures.dropped q
