use Rattle.std.proofs.Common.{◌≡◌, ◌∙◌, None, true, false, sym, ap, subst}
use Rattle.std.specs.FinMap.{get}
use Rattle.std.specs.Result.{is_err}
use Rattle.mr_zset.specs.Few.{AreNamed}
use Rattle.mr_zset.proofs.NameLemmas.{failed, named_added, named_back, succeeded}
use Rattle.mr_zset.proofs.ranked.Ranked.add.Goals as goal

pub invariant_of-self-then-is_err : goal.invariant_of-self-then-is_err
invariant_of-self-then-is_err c =
    let scores = c.self.inside.scores in
    let absent : get scores c.args.member.now ≡ None = ap (λ m. get m c.args.member.now) c.self.view_is ∙ c.requires.absent in
    let is : is_err c.add.result ≡ true = sym c.is_err.ensures.value ∙ c.if-is_err.true in
    subst (AreNamed c.drop_name.new.names) (sym (failed c.add.result is c.add.ensures.err))
    (named_back c.make_room.new.names c.add_name.new.names c.drop_name.new.names scores c.args.member.now _ absent c.in_ok-make_room.ensures.ok c.in_ok-add_name.ensures.ok c.drop_name.ensures)

pub invariant_of-self-else-is_err : goal.invariant_of-self-else-is_err
invariant_of-self-else-is_err c =
    let is : is_err c.add.result ≡ false = sym c.is_err.ensures.value ∙ c.if-is_err.false in
    named_added c.make_room.new.names c.add_name.new.names c.self.inside.scores c.add.new.self c.args.member.now _ c.in_ok-make_room.ensures.ok c.in_ok-add_name.ensures.ok (succeeded c.add.result is c.add.ensures.ok)
