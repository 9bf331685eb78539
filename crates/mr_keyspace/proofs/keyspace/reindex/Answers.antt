use Rattle.std.proofs.Common.{rules, ◌≡◌, None, sym, subst, to_z, of_z, w64}
use Rattle.mr_keyspace.specs.TimedKeys.{IsDeadlineOf}
use Rattle.mr_keyspace.proofs.Index.{unmoved, comes}
use Rattle.mr_keyspace.proofs.keyspace.reindex.Goals as goal

pub returns-in-None-None-clause-ok : goal.returns-in-None-None-clause-ok
returns-in-None-None-clause-ok c =
    let s = c.args.timed_keys.now in
    rw c.in-None-None.is-1 (unmoved c.args.key None s (subst (λ d. IsDeadlineOf c.args.key d s) c.in-None-None.is-0 c.requires))

pub returns-in_ok-insert-in-None-Some-clause-ok : goal.returns-in_ok-insert-in-None-Some-clause-ok
returns-in_ok-insert-in-None-Some-clause-ok c =
    let fits : to_z w64 (of_z w64 c.in-None-Some.after) ≡ c.in-None-Some.after = search rules in
    let s = c.args.timed_keys.now in
    rw c.in-None-Some.is-1 (comes (record { deadline = c.in-None-Some.after; key = c.args.key }) s c.insert.new.self (subst (λ d. IsDeadlineOf c.args.key d s) c.in-None-Some.is-0 c.requires) (rw (sym fits) c.in_ok-insert-in-None-Some.ensures.ok))
