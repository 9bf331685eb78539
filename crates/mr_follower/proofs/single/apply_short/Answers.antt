use Rattle.std.proofs.Common.{rules, ◌≡◌, ◌<◌, ◌≤◌, ◌^◌, ℕ, List, length, map, None, take, refl, sym, ap, ◌∙◌, subst}
use Rattle.std.specs.Cow.{cow_slice_items}
use Rattle.std.proofs.lemmas.List.{take-map}
use Rattle.mr_resp.specs.Command.{BeginsWithCommand, IsCommand}
use Rattle.mr_resp.specs.Few.{few}
use Rattle.mr_resp.specs.Usual.{commands}
use Rattle.mr_follower.specs.Stream.{AppliesWords}
use Rattle.mr_follower.specs.Stream.MayLackFor.{many}
use Rattle.mr_follower.proofs.Loadings.{lacks}
use Rattle.mr_follower.proofs.Fronts.{words_in_front}
use Rattle.mr_follower.proofs.single.apply_short.Goals as goal

pub returns-in_default : goal.returns-in_default
returns-in_default c = λ u room front.
    let none : c.short_command.result ≡ None = search rules in
    let begun = subst (λ (l : List ℕ). BeginsWithCommand commands l) front c.requires in
    let long = subst (λ (l : List ℕ). (found : BeginsWithCommand commands l) → few < length found.words) front (c.short_command.ensures.many none) in
    (record { at = lacks u room begun; cause = many (long begun) }, (refl, refl))

pub returns : goal.returns
returns c = λ u room front.
    let m = c.args.held.now in
    let n = c.apply_words.new.held in
    let before = c.args.out.now.items in
    let after = c.apply_words.new.out.items in
    let used = c.in-Some.short.used in
    let ws = c.in-Some.short.words in
    let all = c.padded-padded.result in
    let same : map cow_slice_items (take c.len.result all) ≡ ws =
    sym (take-map cow_slice_items c.len.result all) ∙ ap (λ (k : ℕ). take k (map cow_slice_items all)) c.len.ensures ∙ c.padded-padded.ensures in
    let found = subst (λ (l : List ℕ). (used ≤ length l) × IsCommand commands (take used l) ws) front c.in-Some.ensures.found in
    let done = subst (λ (v : List (List ℕ)). AppliesWords (take used c.args.front.now) v m c.apply_words.result n before after) same c.apply_words.ensures in
    let applied = subst (λ (l : List ℕ). AppliesWords (take used l) ws m c.apply_words.result n before after) front done in
    let small : used < 2 ^ 64 = search rules in
    words_in_front u used room ws m n c.apply_words.result before after found.0 small found.1 applied
