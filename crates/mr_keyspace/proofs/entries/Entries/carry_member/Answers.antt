use Rattle.std.proofs.Common.{rules, ◌≡◌, true, false, refl, sym, ◌∙◌, [], ◌∷◌, Some, Ok, subst, Err}
use Rattle.std.specs.Prelude.{is_some}
use Rattle.std.specs.FinMap.{get}
use Rattle.mr_keyspace.specs.Outcome.{Applies}
use Rattle.mr_keyspace.specs.Steps.{sets, held, add_members_step, remove_members_step}
use Rattle.mr_keyspace.specs.Changes.{at_key, carry_member}
use Rattle.mr_keyspace.specs.declared.fault.ApplyFault.TheVariants.{Refused, Memory}
use Rattle.mr_keyspace.proofs.Moving.{carry_member_refused, carry_member_lacks_memory, carry_member_done, done}
use Rattle.mr_keyspace.proofs.entries.Entries.carry_member.Goals as goal

pub returns-then-not-takes_members : goal.returns-then-not-takes_members
returns-then-not-takes_members c =
    let m = c.args.self.now in
    let other : is_some (held sets (get m c.args.to)) ≡ false = search rules in
    subst (λ o. Applies o m (Err Refused) m) (sym (carry_member_refused c.args.from.now c.args.to c.args.member m c.requires.apart other)) (refl, refl)

pub returns-in_err-push : goal.returns-in_err-push
returns-in_err-push c =
    let m = c.args.self.now in
    let some : is_some (held sets (get m c.args.to)) ≡ true = search rules in
    let told : c.from_residual.result ≡ Err Memory = search rules in
    subst (λ r. Applies (carry_member c.args.from.now c.args.to c.args.member m) m r m) (sym told)
    (carry_member_lacks_memory c.args.from.now c.args.to c.args.member m c.requires.apart m some c.requires.there)

pub returns : goal.returns
returns c =
    let m = c.args.self.now in
    let some : is_some (held sets (get m c.args.to)) ≡ true = search rules in
    let one : c.push.new.self ≡ c.args.member ∷ [] = search rules in
    let taken : c.as_slice-2.result.now ≡ c.args.member ∷ [] = c.as_slice-2.ensures ∙ one in
    let removed : at_key (remove_members_step (c.args.member ∷ [])) c.args.from.now m ≡ Some c.remove_members.new.self = done _ m c.remove_members.new.self (subst (λ xs. Applies (at_key (remove_members_step xs) c.args.from.now m) m (Ok tt) c.remove_members.new.self) taken (search rules)) in
    carry_member_done c.args.from.now c.args.to c.args.member m c.requires.apart c.remove_members.new.self c.add_members.result c.add_members.new.self some removed
    (subst (λ xs. Applies (at_key (add_members_step xs) c.args.to c.remove_members.new.self) c.remove_members.new.self c.add_members.result c.add_members.new.self) one c.add_members.ensures)
