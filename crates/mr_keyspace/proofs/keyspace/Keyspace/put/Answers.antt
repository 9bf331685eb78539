use Rattle.std.proofs.Common.{rules, ◌≡◌, sym, ◌∙◌}
use Rattle.mr_map.proofs.Hashed.{on_err}
use Rattle.mr_keyspace.proofs.Maps.{insert_same}
use Rattle.mr_keyspace.proofs.Index.{IsIndex-kept, IsIndex-value, IsIndex-set}
use Rattle.mr_keyspace.proofs.keyspace.Keyspace.put.Goals as goal

pub invariant_of-self-then-eq : goal.invariant_of-self-then-eq
invariant_of-self-then-eq c =
    let same : c.args.entry.deadline ≡ c.in-Some.place.now.deadline = search rules in
    IsIndex-value c.self.inside.by_key c.as_slice.result.now c.in-Some.place.now c.args.entry c.self.inside.timed_keys c.self.invariant c.in-Some.ensures.value same

pub invariant_of-self-in_err-name : goal.invariant_of-self-in_err-name
invariant_of-self-in_err-name c = IsIndex-kept c.self.inside.by_key c.as_slice.result.now c.in-Some.place.now c.self.inside.timed_keys c.self.invariant c.in-Some.ensures.value

pub returns-in_err-name-clause-err : goal.returns-in_err-name-clause-err
returns-in_err-name-clause-err c = on_err c.from_residual.result (insert_same c.self.inside.by_key c.as_slice.result.now c.in-Some.place.now (sym c.in-Some.ensures.value) ∙ c.self.view_is)

pub invariant_of-self-in_err-reindex : goal.invariant_of-self-in_err-reindex
invariant_of-self-in_err-reindex c =
    rw c.in_err-reindex.ensures.err (IsIndex-kept c.self.inside.by_key c.as_slice.result.now c.in-Some.place.now c.self.inside.timed_keys c.self.invariant c.in-Some.ensures.value)

pub returns-in_err-reindex-clause-err : goal.returns-in_err-reindex-clause-err
returns-in_err-reindex-clause-err c = on_err c.from_residual-in_err-reindex.result (insert_same c.self.inside.by_key c.as_slice.result.now c.in-Some.place.now (sym c.in-Some.ensures.value) ∙ c.self.view_is)

pub invariant_of-self-2 : goal.invariant_of-self-2
invariant_of-self-2 c =
    let name : c.in_ok-name.name ≡ c.as_slice.result.now = search rules in
    IsIndex-set c.self.inside.by_key c.as_slice.result.now c.in_ok-name.name c.args.entry c.self.inside.timed_keys c.reindex.new.timed_keys c.self.invariant name c.in_ok-reindex.ensures.ok
