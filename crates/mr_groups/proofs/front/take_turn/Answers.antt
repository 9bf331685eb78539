use Rattle.std.proofs.Common.{rules, ◌≡◌, ◌==◌, true, false, subst}
use Rattle.mr_groups.specs.Steps.{IsKnownBehind}
use Rattle.mr_groups.specs.Readers.HasRead.{partly}
use Rattle.mr_groups.proofs.Going.{run_lacks, run_waits, run_goes_on}
use Rattle.mr_groups.proofs.Resuming.{begun_no_note, known_here, may_read, starts_at}
use Rattle.mr_groups.proofs.front.take_turn.Goals as goal

pub returns-in-Open-clause-done : goal.returns-in-Open-clause-done
returns-in-Open-clause-done c =
    let run = c.replay_front-run.result in
    run_waits c.args.bytes.now run.used c.args.dataset.now c.replay_front-run.new.dataset run.halt c.in-Open.is c.replay_front-run.ensures.done

pub returns-in-Bad-clause-done : goal.returns-in-Bad-clause-done
returns-in-Bad-clause-done c =
    let run = c.replay_front-run.result in
    let turn = c.try_item-turn.result in
    run_goes_on c.args.bytes.now run.used turn.used c.args.dataset.now c.replay_front-run.new.dataset c.try_item-turn.new.dataset run.halt turn.end c.in-Bad.is c.replay_front-run.ensures.done c.try_item-turn.ensures.done

pub returns-in-Lack-clause-done : goal.returns-in-Lack-clause-done
returns-in-Lack-clause-done c =
    let run = c.replay_front-run.result in
    run_lacks c.args.bytes.now run.used c.args.dataset.now c.replay_front-run.new.dataset run.halt c.replay_front-run.ensures.done

pub try_group-requires-clause-no_note : goal.try_group-requires-clause-no_note
try_group-requires-clause-no_note c =
    let some : (c.args.reader.now.used == 0) ≡ false = search rules in
    begun_no_note c.args.reader.now c.args.bytes.now c.requires some

pub replay_front-run-requires : goal.replay_front-run-requires
replay_front-run-requires c =
    let reader = c.args.reader.now in
    let none : (reader.used == 0) ≡ true = search rules in
    (starts_at reader c.args.bytes.now (may_read reader c.args.bytes.now c.requires) none).1

pub try_item-turn-requires : goal.try_item-turn-requires
try_item-turn-requires c =
    let reader = c.args.reader.now in
    let none : (reader.used == 0) ≡ true = search rules in
    let start = (starts_at reader c.args.bytes.now (may_read reader c.args.bytes.now c.requires) none).0 in
    (start, subst (IsKnownBehind c.replay_front-run.new.progress) c.in-Bad.is c.replay_front-run.ensures.behind)

pub returns-in-Open-clause-kept : goal.returns-in-Open-clause-kept
returns-in-Open-clause-kept c =
    let reader = c.args.reader.now in
    let none : (reader.used == 0) ≡ true = search rules in
    let start = (starts_at reader c.args.bytes.now (may_read reader c.args.bytes.now c.requires) none).0 in
    partly start (known_here c.replay_front-run.new.progress _ c.replay_front-run.ensures.known)

pub returns-in-Lack-clause-kept : goal.returns-in-Lack-clause-kept
returns-in-Lack-clause-kept c =
    let reader = c.args.reader.now in
    let none : (reader.used == 0) ≡ true = search rules in
    let start = (starts_at reader c.args.bytes.now (may_read reader c.args.bytes.now c.requires) none).0 in
    partly start (known_here c.replay_front-run.new.progress _ c.replay_front-run.ensures.known)
