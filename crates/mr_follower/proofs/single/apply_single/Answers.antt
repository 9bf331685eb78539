use Rattle.std.proofs.Common.{rules, ◌<◌, ◌≤◌, ◌^◌, ℕ, List, length, refl, take, subst, map}
use Rattle.std.specs.Cow.{cow_slice_items}
use Rattle.mr_resp.specs.Command.{IsCommand, ReadsCommand}
use Rattle.mr_resp.specs.Usual.{commands}
use Rattle.mr_resp.specs.declared.request.Scan.{Scan}
use Rattle.mr_follower.specs.Stream.{AppliesWords}
use Rattle.mr_follower.proofs.Fronts.{doomed_refused, more_open, words_in_front}
use Rattle.mr_follower.proofs.single.apply_single.Goals as goal

pub returns-in-Ok-More-clause-applied : goal.returns-in-Ok-More-clause-applied
returns-in-Ok-More-clause-applied c = λ u room front.
    let found = subst (λ (l : List ℕ). ReadsCommand commands l c.in-Ok-More.field-0) front c.in-Ok-More.ensures.found in
    (more_open (take room u) c.in-Ok-More.field-0 c.in-Ok-More.field-0-is found, (refl, refl))

pub returns-in-Ok-Bad-clause-applied : goal.returns-in-Ok-Bad-clause-applied
returns-in-Ok-Bad-clause-applied c = λ u room front.
    let found = subst (λ (l : List ℕ). ReadsCommand commands l c.in-Ok-Bad.field-0) front c.in-Ok-Bad.ensures.found in
    (doomed_refused u room c.args.held.now c.in-Ok-Bad.field-0 _ c.in-Ok-Bad.field-0-is found, (refl, refl))

pub returns-in-Ok-Whole-clause-applied : goal.returns-in-Ok-Whole-clause-applied
returns-in-Ok-Whole-clause-applied c = λ u room front.
    let m = c.args.held.now in
    let n = c.apply_words.new.held in
    let before = c.args.out.now.items in
    let after = c.apply_words.new.out.items in
    let used = c.in-Ok-Whole.used in
    let ws = map cow_slice_items c.in-Ok-Whole.words.items in
    let read = subst (λ (s : Scan). ReadsCommand commands c.args.front.now s) c.in-Ok-Whole.field-0-is c.in-Ok-Whole.ensures.found in
    let found = subst (λ (l : List ℕ). (used ≤ length l) × IsCommand commands (take used l) ws) front read in
    let done : AppliesWords (take used c.args.front.now) ws m c.apply_words.result n before after = search rules in
    let applied = subst (λ (l : List ℕ). AppliesWords (take used l) ws m c.apply_words.result n before after) front done in
    let small : used < 2 ^ 64 = search rules in
    words_in_front u used room ws m n c.apply_words.result before after found.0 small found.1 applied
