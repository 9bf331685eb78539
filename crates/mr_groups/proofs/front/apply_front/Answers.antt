use Rattle.std.proofs.Common.{◌+◌, subst}
use Rattle.mr_groups.specs.Readers.{HasRead}
use Rattle.mr_groups.proofs.Going.{turn_behind, behind_is, went_on, came_to, ran_out}
use Rattle.mr_groups.proofs.front.apply_front.Goals as goal

pub turns-preserved : goal.turns-preserved
turns-preserved c =
    let bytes = c.args.bytes.now in
    let used = c.turns.used in
    let turn = c.take_turn-turn.result in
    let old = c.args.dataset.now in
    let new = c.take_turn-turn.new.dataset in
    let on = turn_behind bytes used turn.used old c.turns.dataset new turn.end c.turns.invariant.within c.turns.invariant.led c.take_turn-turn.ensures.done in
    record {
      within = on.within;
      led = went_on bytes (used + turn.used) old new turn.end c.in-Item.is on;
      kept = subst (HasRead c.take_turn-turn.new.reader) (behind_is bytes used turn.used) c.take_turn-turn.ensures.kept;
    }

pub returns-in-Rest-clause-done : goal.returns-in-Rest-clause-done
returns-in-Rest-clause-done c =
    let bytes = c.args.bytes.now in
    let used = c.turns.used in
    let turn = c.take_turn-turn.result in
    let old = c.args.dataset.now in
    let new = c.take_turn-turn.new.dataset in
    let on = turn_behind bytes used turn.used old c.turns.dataset new turn.end c.turns.invariant.within c.turns.invariant.led c.take_turn-turn.ensures.done in
    came_to bytes (used + turn.used) old new turn.end c.in-Rest.rest c.in-Rest.is on

pub returns-in-Memory-clause-done : goal.returns-in-Memory-clause-done
returns-in-Memory-clause-done c =
    let bytes = c.args.bytes.now in
    let used = c.turns.used in
    let turn = c.take_turn-turn.result in
    let old = c.args.dataset.now in
    let new = c.take_turn-turn.new.dataset in
    let on = turn_behind bytes used turn.used old c.turns.dataset new turn.end c.turns.invariant.within c.turns.invariant.led c.take_turn-turn.ensures.done in
    ran_out bytes (used + turn.used) old new turn.end _ on
