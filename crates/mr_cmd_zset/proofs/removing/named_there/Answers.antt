use Rattle.std.proofs.Common.{◌∙◌, ap, sym, subst, List, take_all, map}
use Rattle.std.specs.Cow.{cow_slice_items}
use Rattle.std.specs.Prelude.{is_some}
use Rattle.mr_map.specs.Bytes.{Bytes}
use Rattle.mr_cmd_zset.proofs.Removals.{IsThere, none_there, word_there, word_absent, there_lost}
use Rattle.mr_cmd_zset.proofs.removing.named_there.Goals as goal
use Rattle.mr_cmd_zset.proofs.removing.named_there.Goals.{then-is_some+in_ok-push, else-is_some}

pub loop-word-init : goal.loop-word-init
loop-word-init c = none_there _ c.args.set.now c.new-there.ensures.items

pub loop-word-preserved : goal.loop-word-preserved
loop-word-preserved c =
    let says = ap is_some (sym c.score.ensures.value) ∙ sym c.is_some.ensures in
    elim c.if-is_some.branch [
      | then-is_some+in_ok-push w ↦ rw w.there-is (word_there cow_slice_items _ _ _ c.loop-word-test.true c.word-item.is c.as_slice-member.result c.as_slice-member.ensures.value c.args.set.now _ c.loop-word.invariant _ (says ∙ w.if-is_some.true) w.in_ok-push.ensures.items)
      | else-is_some w ↦ rw w.there-is (word_absent cow_slice_items _ _ _ c.loop-word-test.true c.word-item.is c.as_slice-member.result c.as_slice-member.ensures.value c.args.set.now _ c.loop-word.invariant (says ∙ w.if-is_some.false))
    ]

pub returns : goal.returns
returns c =
    c.in_byte_order.ensures
    ∙ there_lost c.loop-word.there.items c.args.members.now c.args.set.now (subst (λ (xs : List Bytes). IsThere c.loop-word.there.items xs c.args.set.now) (ap (map cow_slice_items) (take_all _ _ c.loop-word-test.false) ∙ c.as_slice-word-items.ensures) c.loop-word.invariant)
