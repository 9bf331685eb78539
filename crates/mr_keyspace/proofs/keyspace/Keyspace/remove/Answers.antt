use Rattle.std.proofs.Common.{rules, ◌≡◌, ◌∙◌, None, sym}
use Rattle.std.specs.FinMap.{get}
use Rattle.mr_keyspace.proofs.Index.{leaves_none, leaves_without, leaves_with}
use Rattle.mr_keyspace.proofs.keyspace.Keyspace.remove.Goals as goal

pub invariant_of-self : goal.invariant_of-self
invariant_of-self c =
    let m = c.self.inside.by_key in
    let absent : get m c.args.key.now ≡ None = search rules in
    leaves_none m c.args.key.now c.self.inside.timed_keys c.self.invariant c.remove_entry.new.self absent c.remove_entry.ensures.removed

pub invariant_of-self-in-Some : goal.invariant_of-self-in-Some
invariant_of-self-in-Some c =
    leaves_with c.self.inside.by_key c.args.key.now c.self.inside.timed_keys c.self.invariant c.from_held-name.result c.unindex.new.timed_keys c.remove_entry.new.self
    (c.from_held-name.ensures ∙ c.in_ok-name.ensures.key) c.unindex.ensures c.remove_entry.ensures.removed

pub invariant_of-self-in-None-1 : goal.invariant_of-self-in-None-1
invariant_of-self-in-None-1 c =
    leaves_without c.self.inside.by_key c.args.key.now c.self.inside.timed_keys c.self.invariant c.in_ok-name.entry c.remove_entry.new.self (sym c.in_ok-name.ensures.before) c.in_default.not-Some c.remove_entry.ensures.removed
