use Rattle.std.proofs.Common.{rules, ◌∙◌, ◌≡◌, ap, sym, refl, length, ◌+◌, ◌++◌, append-nil, List, pos}
use Rattle.std.specs.Prelude.{if◌then◌else◌}
use Rattle.std.specs.FinMap.{get}
use Rattle.mr_map.specs.Bytes.{Bytes}
use Rattle.mr_cmd_shared.specs.Keys.{is_stored, dels}
use Rattle.mr_cmd_shared.proofs.KeyLists.{none_taken, word_not_chosen, word_taken_before, word_taken, not_true, not_false}
use Rattle.mr_cmd_shared.proofs.LiveLemmas.{none_expired}
use Rattle.mr_cmd_shared.proofs.looking.push_dels.Goals as goal
use Rattle.mr_cmd_shared.proofs.looking.push_dels.Goals.{then-is_stored+in_ok-take+then-branch+in_ok-copied+in_ok-push, else-is_stored, else-is_stored-via-then-is_stored+in_ok-take+else-branch, else-is_stored-via-else-is_stored}

pub loop-word-init : goal.loop-word-init
loop-word-init c = none_taken _ _ _ _ c.new-taken.ensures

pub loop-word-preserved : goal.loop-word-preserved
loop-word-preserved c =
    let says : c.is_stored.result ≡ is_stored c.args.given.now c.args.expired (get c.args.held.now c.as_slice-key.result.now) = search rules in
    elim c.if-is_stored.branch [
      | then-is_stored+in_ok-take+then-branch+in_ok-copied+in_ok-push w ↦
          rw (w.taken-is, w.effects-is) (word_taken _ _ _ _ c.loop-word-test.true c.word-item.is _ c.as_slice-key.ensures.value _ _ _ _ _ _ _ _ c.loop-word.invariant (sym says ∙ w.if-is_stored.true)
          (not_true _ (sym w.if-branch.true ∙ w.in_ok-take.ensures.first)) w.in_ok-take.ensures.taken
          (w.in_ok-take.ensures.len ∙ ap (λ b. length c.loop-word.taken + (if b then 1 else 0)) w.if-branch.true) w.in_ok-push.ensures w.in_ok-copied.ensures)
      | else-is_stored w ↦ elim w.else-is_stored.branch [
        | else-is_stored-via-then-is_stored+in_ok-take+else-branch w' ↦
            rw (w.taken-is, w.effects-is, w'.taken-is) (word_taken_before _ _ _ _ c.loop-word-test.true c.word-item.is _ c.as_slice-key.ensures.value _ _ _ _ _ _ refl c.loop-word.invariant
            (not_false _ (sym w'.if-branch.false ∙ w'.in_ok-take.ensures.first)) w'.in_ok-take.ensures.taken
            (w'.in_ok-take.ensures.len ∙ ap (λ b. length c.loop-word.taken + (if b then 1 else 0)) w'.if-branch.false))
        | else-is_stored-via-else-is_stored w' ↦ rw (w.taken-is, w.effects-is, w'.taken-is) (word_not_chosen _ _ _ _ c.loop-word-test.true c.word-item.is _ c.as_slice-key.ensures.value _ _ _ _ _ refl c.loop-word.invariant (sym says ∙ w'.if-is_stored.false))
      ]
    ]

pub returns-then-is_all_live-clause-count : goal.returns-then-is_all_live-clause-count
returns-then-is_all_live-clause-count c =
    ap (λ (ks : List Bytes). pos (length ks)) (sym (none_expired c.args.given.now c.args.held.now c.args.expired c.if-expired.true (c.is_all_live.ensures.0 c.if-is_all_live.true) c.args.keys.now))

pub returns-then-is_all_live-clause-dels : goal.returns-then-is_all_live-clause-dels
returns-then-is_all_live-clause-dels c =
    sym (append-nil c.args.effects.now)
    ∙ ap (λ (ks : List Bytes). c.args.effects.now ++ dels ks) (sym (none_expired c.args.given.now c.args.held.now c.args.expired c.if-expired.true (c.is_all_live.ensures.0 c.if-is_all_live.true) c.args.keys.now))
