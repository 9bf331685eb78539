use Rattle.std.proofs.Common.{◌≡◌, ◌++◌, ◌∷◌, [], pos, length, true, false, Some, option_copied, FitsSigned, w64, rules, arith}
use Rattle.std.specs.Prelude.{◌==◌}
use Rattle.std.specs.Str.{bytes_eq}
use Rattle.std.proofs.lemmas.Int.{to_z-of_z}
use Rattle.mr_resp.specs.Replies as reply
use Rattle.mr_resp.specs.ReplyView.{view}
use Rattle.mr_bytes.specs.Words.{fits}
use Rattle.mr_bytes.specs.Texts.{overwritten}
use Rattle.mr_effect.specs.declared.effect.Effect.TheVariants as effect
use Rattle.mr_keyspace.specs.Steps.{strings, held}
use Rattle.mr_cmd_string.proofs.WritingOver.{small_end, written_before, written_over}
use Rattle.mr_cmd_string.proofs.changing.setrange.Goals as goal

pub holds_part-requires : goal.holds_part-requires
holds_part-requires c =
    let within : fits (overwritten c.args.offset c.args.part.now c.in-Some.text.now) ≡ true = search rules in
    rw c.as_slice-4.ensures (small_end c.in-Some.text.now c.args.part.now c.args.offset within)

pub returns-then-holds_part : goal.returns-then-holds_part
returns-then-holds_part c =
    let within : fits (overwritten c.args.offset c.args.part.now c.in-Some.text.now) ≡ true = search rules in
    let is : held (strings []) (option_copied c.args.live_entry) ≡ Some c.in-Some.text.now = search rules in
    let some : (length c.args.part.now == 0) ≡ false = search rules in
    let same : bytes_eq c.in-Some.text.now (overwritten c.args.offset c.args.part.now c.in-Some.text.now) ≡ true = search rules in
    let replied : view c.count-then-holds_part.result ≡ reply.int (pos (length c.in-Some.text.now)) = search rules in
    written_before c.args.key.now c.args.part.now c.in-Some.text.now c.args.offset _ is some within _ _ same replied

pub overflow_cast-offset : goal.overflow_cast-offset
overflow_cast-offset c =
    let within : fits (overwritten c.args.offset c.args.part.now c.in-Some.text.now) ≡ true = search rules in
    let ends = small_end c.in-Some.text.now c.args.part.now c.args.offset within in
    record { sfits = omega (arith, ends) }

pub overwritten_len-len-requires : goal.overwritten_len-len-requires
overwritten_len-len-requires c =
    let within : fits (overwritten c.args.offset c.args.part.now c.in-Some.text.now) ≡ true = search rules in
    rw c.as_slice-8.ensures (small_end c.in-Some.text.now c.args.part.now c.args.offset within)

pub returns : goal.returns
returns c =
    let within : fits (overwritten c.args.offset c.args.part.now c.in-Some.text.now) ≡ true = search rules in
    let is : held (strings []) (option_copied c.args.live_entry) ≡ Some c.in-Some.text.now = search rules in
    let some : (length c.args.part.now == 0) ≡ false = search rules in
    let differs : bytes_eq c.in-Some.text.now (overwritten c.args.offset c.args.part.now c.in-Some.text.now) ≡ false = search rules in
    let replied : view c.count-2.result ≡ reply.int (pos (length (overwritten c.args.offset c.args.part.now c.in-Some.text.now))) = search rules in
    let ends = small_end c.in-Some.text.now c.args.part.now c.args.offset within in
    let fits_offset : FitsSigned w64 (pos c.args.offset) = record { sfits = omega (arith, ends) } in
    let put : c.push.new.self ≡ c.args.effects.now ++ effect.SetRange c.args.key.now (pos c.args.offset) c.args.part.now ∷ [] = search (rules, to_z-of_z) in
    written_over c.args.key.now c.args.part.now c.in-Some.text.now c.args.offset _ is some within _ _ _ differs replied put
