use Rattle.std.proofs.Common.{arith}
use Rattle.mr_groups.proofs.Pieces.{did, one_more, some_used, waited, stopped, lacked, was_spent}
use Rattle.mr_groups.proofs.KnownTexts.{fresh_may, known_as, known_from, may_from}
use Rattle.mr_groups.proofs.replaying.replay_front.Goals as goal

pub texts-preserved : goal.texts-preserved
texts-preserved c =
    let done = did _ _ _ _ c.in-Done.more c.try_first-step.ensures.tried c.in-Done.is in
    record {
      within = (some_used c.args.bytes.now c.texts.used c.in-Done.more _ _ c.texts.invariant.within done).1;
      led = one_more c.args.bytes.now c.texts.used c.in-Done.more _ _ _ c.texts.invariant.led done;
      known = fresh_may c.try_first-step.new.progress _ (known_as c.try_first-step.new.progress _ _ c.in-Done.is c.try_first-step.ensures.after);
    }

pub try_first-step-requires : goal.try_first-step-requires
try_first-step-requires c = may_from c.texts.progress c.args.bytes.now c.texts.used c.texts.invariant.known

pub texts-smaller : goal.texts-smaller
texts-smaller c =
    let done = did _ _ _ _ c.in-Done.more c.try_first-step.ensures.tried c.in-Done.is in
    let some = some_used c.args.bytes.now c.texts.used c.in-Done.more _ _ c.texts.invariant.within done in
    omega (arith, some)

pub returns-in-Wait-clause-done : goal.returns-in-Wait-clause-done
returns-in-Wait-clause-done c =
    waited c.args.bytes.now c.texts.used c.args.dataset.now c.texts.dataset c.try_first-step.new.dataset c.try_first-step.result c.texts.invariant.within c.texts.invariant.led c.try_first-step.ensures.tried c.in-Wait.is

pub returns-in-Stop-clause-done : goal.returns-in-Stop-clause-done
returns-in-Stop-clause-done c =
    stopped c.args.bytes.now c.texts.used c.args.dataset.now c.texts.dataset c.try_first-step.new.dataset c.try_first-step.result c.texts.invariant.within c.texts.invariant.led c.try_first-step.ensures.tried c.in-Stop.is

pub returns-in-Lack-clause-done : goal.returns-in-Lack-clause-done
returns-in-Lack-clause-done c =
    lacked c.args.bytes.now c.texts.used c.args.dataset.now c.texts.dataset c.try_first-step.new.dataset c.try_first-step.result c.texts.invariant.within c.texts.invariant.led c.try_first-step.ensures.tried c.in-Lack.is

pub returns-in-Spent-clause-done : goal.returns-in-Spent-clause-done
returns-in-Spent-clause-done c =
    was_spent c.args.bytes.now c.texts.used c.args.dataset.now c.texts.dataset c.try_first-step.new.dataset c.try_first-step.result c.texts.invariant.within c.texts.invariant.led c.try_first-step.ensures.tried c.in-Spent.is

pub returns-in-Wait-clause-known : goal.returns-in-Wait-clause-known
returns-in-Wait-clause-known c = known_from c.try_first-step.new.progress c.args.bytes.now c.texts.used c.try_first-step.ensures.known

pub returns-in-Stop-clause-known : goal.returns-in-Stop-clause-known
returns-in-Stop-clause-known c = known_from c.try_first-step.new.progress c.args.bytes.now c.texts.used c.try_first-step.ensures.known

pub returns-in-Lack-clause-known : goal.returns-in-Lack-clause-known
returns-in-Lack-clause-known c = known_from c.try_first-step.new.progress c.args.bytes.now c.texts.used c.try_first-step.ensures.known

pub returns-in-Spent-clause-known : goal.returns-in-Spent-clause-known
returns-in-Spent-clause-known c = known_from c.try_first-step.new.progress c.args.bytes.now c.texts.used c.try_first-step.ensures.known

pub returns-in-Stop-clause-behind : goal.returns-in-Stop-clause-behind
returns-in-Stop-clause-behind c = known_as c.try_first-step.new.progress _ _ c.in-Stop.is c.try_first-step.ensures.after

pub returns-in-Spent-clause-behind : goal.returns-in-Spent-clause-behind
returns-in-Spent-clause-behind c = known_as c.try_first-step.new.progress _ _ c.in-Spent.is c.try_first-step.ensures.after
