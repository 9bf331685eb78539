use Rattle.std.proofs.Common.{rules, ◌≡◌, true, false, refl, sym, subst, Err}
use Rattle.std.specs.Prelude.{is_some}
use Rattle.std.specs.FinMap.{get}
use Rattle.mr_keyspace.specs.Outcome.{Applies}
use Rattle.mr_keyspace.specs.Steps.{lists, held}
use Rattle.mr_keyspace.specs.declared.fault.ApplyFault.TheVariants.{Refused}
use Rattle.mr_keyspace.proofs.Moving.{carry_item_refused, carry_item_done}
use Rattle.mr_keyspace.proofs.entries.Entries.carry_item.Goals as goal

pub returns-then-not-takes_items : goal.returns-then-not-takes_items
returns-then-not-takes_items c =
    let m = c.args.self.now in
    let other : is_some (held lists (get m c.args.to)) ≡ false = search rules in
    subst (λ o. Applies o m (Err Refused) m) (sym (carry_item_refused c.args.from.now c.args.to c.args.taken c.args.put m c.requires other)) (refl, refl)

pub returns : goal.returns
returns c =
    let some : is_some (held lists (get c.args.self.now c.args.to)) ≡ true = search rules in
    carry_item_done c.args.from.now c.args.to c.args.taken c.args.put c.args.self.now c.requires c.in-Some.item _ _ _ some c.in-Some.ensures.item c.in-Some.ensures.taken c.put_item.ensures
