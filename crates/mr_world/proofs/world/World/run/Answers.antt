use Rattle.std.proofs.Common.{◌+◌, take, refl, sym, ap, subst, ◌∙◌}
use Rattle.std.specs.Prelude.{slice_get}
use Rattle.mr_world_parts.proofs.Places.{stands}
use Rattle.mr_world.specs.Running.{EventCall, TookAll}
use Rattle.mr_world.proofs.Taken.{took_none, took_more, took_all}
use Rattle.mr_world.proofs.world.World.run.Goals as goal

pub loop-event-init : goal.loop-event-init
loop-event-init c = (refl, took_none c.args.self.now c.args.events.now)

pub returns-in-Err : goal.returns-in-Err
returns-in-Err c =
    let i = c.loop-event.invariant in record {
      event = c.event-item.result;
      at = ap (slice_get c.args.events.now) i.0 ∙ stands c.args.events.now c.loop-event.event-index c.event-item.result c.loop-event-test.true c.event-item.is;
      before = c.loop-event.self;
      took = subst (λ n. TookAll c.args.self.now (take n c.args.events.now) c.loop-event.self) (sym i.0) i.1;
      refused = subst (λ r. EventCall c.loop-event.self c.event-item.result c.happen.new.self r) (c.in-Err.is) c.happen.ensures.row;
    }

pub loop-event-preserved : goal.loop-event-preserved
loop-event-preserved c =
    let i = c.loop-event.invariant in (
      ap (λ n. n + 1) i.0,
      took_more c.args.self.now c.args.events.now c.loop-event.event-index c.loop-event.self c.event-item.result c.happen.new.self
          (stands c.args.events.now c.loop-event.event-index c.event-item.result c.loop-event-test.true c.event-item.is) i.1
          (subst (λ r. EventCall c.loop-event.self c.event-item.result c.happen.new.self r) c.in_default.is c.happen.ensures.row) c.happen.ensures.sound,
    )

pub returns : goal.returns
returns c = took_all c.args.self.now c.args.events.now c.loop-event.event-index c.loop-event.self c.loop-event-test.false c.loop-event.invariant.1
