use Rattle.std.proofs.Common.{sym, ◌∙◌, arith}
use Rattle.mr_peer_lines.proofs.Places.{place_parts, place_whole, rest_from}
use Rattle.mr_peer_lines.proofs.psync.read_place.Goals as goal

pub returns-then-text-lt-OFFSET_AT : goal.returns-then-text-lt-OFFSET_AT
returns-then-text-lt-OFFSET_AT c id offset h = omega (arith, (place_parts c.args.text.now id offset h).long, c.if-text-lt-OFFSET_AT.true)

pub returns-then-text-ne32 : goal.returns-then-text-ne32
returns-then-text-ne32 c id offset h = c.if-text-ne32.true (place_parts c.args.text.now id offset h).space

pub returns-in_err-id : goal.returns-in_err-id
returns-in_err-id c = rw c.from_residual.ensures (λ id offset h. c.in_err-id.ensures.none id h.0.0 (sym (c.first.ensures ∙ (place_parts c.args.text.now id offset h).front)))

pub returns-in_err-offset : goal.returns-in_err-offset
returns-in_err-offset c = rw c.from_residual-in_err-offset.ensures (λ id offset h. c.in_err-offset.ensures.none offset h.0.1 (rest_from c.args.text.now 41 ∙ (place_parts c.args.text.now id offset h).back))

pub returns : goal.returns
returns c =
    let text = c.args.text.now in (
      (c.in_ok-id.ensures.id, c.in_ok-offset.ensures.some.0),
      place_whole text c.in_ok-id.id c.in_ok-offset.offset (record {
        front = sym (c.in_ok-id.ensures.some ∙ c.first.ensures);
        space = c.if-text-ne32.false;
        back = sym (rest_from text 41) ∙ c.in_ok-offset.ensures.some.1;
        long = c.if-text-lt-OFFSET_AT.false;
      }),
    )
