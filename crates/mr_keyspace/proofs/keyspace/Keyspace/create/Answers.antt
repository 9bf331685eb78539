use Rattle.std.proofs.Common.{rules, ◌≡◌, None, refl, sym, ◌∙◌, ap, to_z, of_z, w64}
use Rattle.std.specs.FinMap.{get, remove}
use Rattle.mr_keyspace.proofs.Index.{comes_without, comes_with, came_and_went, same_index}
use Rattle.mr_keyspace.proofs.keyspace.Keyspace.create.Goals as goal

pub invariant_of-self-in_default : goal.invariant_of-self-in_default
invariant_of-self-in_default c =
    let m = c.self.inside.by_key in
    let absent : get m c.args.key ≡ None = ap (λ x. get x c.args.key) c.self.view_is ∙ c.requires in
    comes_without m c.args.key c.args.key c.args.entry c.self.inside.timed_keys c.self.invariant absent refl c.insert.new.by_key c.in_default.not-Some c.in_ok-insert.ensures.ok

pub invariant_of-self-in-Ok : goal.invariant_of-self-in-Ok
invariant_of-self-in-Ok c =
    let m = c.self.inside.by_key in
    let absent : get m c.args.key ≡ None = ap (λ x. get x c.args.key) c.self.view_is ∙ c.requires in
    let fits : to_z w64 (of_z w64 c.in-Some.deadline) ≡ c.in-Some.deadline = search rules in
    comes_with m c.args.key c.args.key c.args.entry c.self.inside.timed_keys c.self.invariant absent refl (record { deadline = c.in-Some.deadline; key = c.in_ok-name.name }) c.insert-3.new.self c.insert-2.new.by_key
    (c.in_ok-name.ensures ∙ c.as_slice.ensures) c.in-Some.is (rw (sym fits) c.in-Ok.ensures.ok) c.in_ok-insert-2.ensures.ok

pub invariant_of-self-in-Err : goal.invariant_of-self-in-Err
invariant_of-self-in-Err c =
    let m = c.self.inside.by_key in
    let absent : get m c.args.key ≡ None = ap (λ x. get x c.args.key) c.self.view_is ∙ c.requires in
    let back : c.in_ok-again.again ≡ c.args.key = c.in_ok-again.ensures ∙ c.as_slice-2.ensures in
    same_index m c.take_back.new.by_key c.self.inside.timed_keys c.insert-3.new.self c.self.invariant
    (came_and_went m c.args.key c.args.key c.args.entry c.self.inside.timed_keys c.self.invariant absent refl c.in_ok-again.again c.take_back.new.by_key back (c.take_back.ensures ∙ ap (λ x. remove x c.in_ok-again.again) c.in_ok-insert-2.ensures.ok))
    c.in-Err.ensures.err

pub returns-clause-err : goal.returns-clause-err
returns-clause-err c =
    let m = c.self.inside.by_key in
    let absent : get m c.args.key ≡ None = ap (λ x. get x c.args.key) c.self.view_is ∙ c.requires in
    let back : c.in_ok-again.again ≡ c.args.key = c.in_ok-again.ensures ∙ c.as_slice-2.ensures in
    came_and_went m c.args.key c.args.key c.args.entry c.self.inside.timed_keys c.self.invariant absent refl c.in_ok-again.again c.take_back.new.by_key back (c.take_back.ensures ∙ ap (λ x. remove x c.in_ok-again.again) c.in_ok-insert-2.ensures.ok)
    ∙ c.self.view_is
