use Rattle.std.proofs.Common.{◌≡◌, ap, length, refl, rules, Some, subst}
use Rattle.mr_data.specs.Meaning.{apply_all}
use Rattle.mr_node_spec.specs.State.{NodeState, spent_as}
use Rattle.mr_node_state.specs.Parts.{Holds, node_of}
use Rattle.mr_node_state.proofs.Changes.{holds_nothing, none_there}
use Rattle.mr_node_state.proofs.state.State.apply.Goals as goal

pub returns-then-is_empty-clause-ok : goal.returns-then-is_empty-clause-ok
returns-then-is_empty-clause-ok c =
    let none : length c.args.effects.items ≡ 0 = search rules in
    holds_nothing c.args.self.now c.args.effects.items (none_there c.args.effects.items none)

pub returns-then-is_err-clause-spent : goal.returns-then-is_err-clause-spent
returns-then-is_err-clause-spent c = record {
  some = search rules;
  held = c.apply_all.new.self;
  node = ap (λ (s : NodeState). spent_as c.apply_all.new.self s) c.self.view_is;
}

pub returns-clause-ok : goal.returns-clause-ok
returns-clause-ok c =
    let i = c.self.inside in
    let applied : apply_all c.args.effects.items i.held ≡ Some c.apply_all.new.self = search rules in
    subst (λ (s : NodeState). Holds s c.args.effects.items (node_of i.up i.port i.upstream i.mark i.course c.apply_all.new.self i.ends)) c.self.view_is
    (record { held = c.apply_all.new.self; applied = applied; node = refl })
