use Rattle.std.proofs.Common.{ℕ, ◌+◌, ◌<◌, length, take, sym, ap, ◌∙◌, arith}
use Rattle.std.specs.List.{position_or_len}
use Rattle.mr_peer_lines.specs.Bytes.{ends_line}
use Rattle.mr_peer_lines.proofs.Ends.{stands, too_long, goes_on, lone_feed, half_end, wrong_end, found_end, nothing_yet, some_bytes}
use Rattle.mr_peer_lines.proofs.line.front_of.Goals as goal

pub returns-then-is_empty : goal.returns-then-is_empty
returns-then-is_empty c = nothing_yet c.args.input.now (sym c.is_empty.ensures ∙ c.if-is_empty.true)

pub returns-then-end-gt-MOST : goal.returns-then-end-gt-MOST
returns-then-end-gt-MOST c =
    let input = c.args.input.now in let end = c.plain_len-end.result in
    too_long input end (stands input end (c.plain_len-end.ensures ∙ ap (λ (k : ℕ). position_or_len ends_line (take k input)) c.min.ensures)) c.if-end-gt-MOST.true

pub returns-then-end-input : goal.returns-then-end-input
returns-then-end-input c =
    let input = c.args.input.now in let end = c.plain_len-end.result in
    goes_on input end (stands input end (c.plain_len-end.ensures ∙ ap (λ (k : ℕ). position_or_len ends_line (take k input)) c.min.ensures))
    (sym c.is_mark.ensures ∙ c.if-not-is_mark.false) (some_bytes input (sym c.is_empty.ensures ∙ c.if-is_empty.false)) c.if-end-input.true c.if-end-gt-MOST.false

pub bounds-input-end : goal.bounds-input-end
bounds-input-end c =
    let input = c.args.input.now in let end = c.plain_len-end.result in
    let s = stands input end (c.plain_len-end.ensures ∙ ap (λ (k : ℕ). position_or_len ends_line (take k input)) c.min.ensures) in
    omega (arith, s.inside, c.if-end-input.false)

pub returns-then-input-end-ne13 : goal.returns-then-input-end-ne13
returns-then-input-end-ne13 c =
    let input = c.args.input.now in let end = c.plain_len-end.result in
    let s = stands input end (c.plain_len-end.ensures ∙ ap (λ (k : ℕ). position_or_len ends_line (take k input)) c.min.ensures) in
    lone_feed input end s (omega (arith, s.inside, c.if-end-input.false)) c.if-end-gt-MOST.false c.if-input-end-ne13.true

pub returns-then-end-input-2 : goal.returns-then-end-input-2
returns-then-end-input-2 c =
    let input = c.args.input.now in let end = c.plain_len-end.result in
    let s = stands input end (c.plain_len-end.ensures ∙ ap (λ (k : ℕ). position_or_len ends_line (take k input)) c.min.ensures) in
    half_end input end s (sym c.is_mark.ensures ∙ c.if-not-is_mark.false) c.if-end-input-2.true c.if-end-gt-MOST.false c.if-input-end-ne13.false

pub returns-then-input-end-ne10 : goal.returns-then-input-end-ne10
returns-then-input-end-ne10 c =
    let input = c.args.input.now in let end = c.plain_len-end.result in
    let s = stands input end (c.plain_len-end.ensures ∙ ap (λ (k : ℕ). position_or_len ends_line (take k input)) c.min.ensures) in
    wrong_end input end s (omega (arith, s.inside, c.if-end-input.false, c.if-end-input-2.false)) c.if-end-gt-MOST.false c.if-input-end-ne13.false c.if-input-end-ne10.true

pub returns : goal.returns
returns c =
    let input = c.args.input.now in let end = c.plain_len-end.result in
    let s = stands input end (c.plain_len-end.ensures ∙ ap (λ (k : ℕ). position_or_len ends_line (take k input)) c.min.ensures) in
    let less : end + 1 < length input = omega (arith, s.inside, c.if-end-input.false, c.if-end-input-2.false) in
    (omega (arith, less), found_end input end s (sym c.is_mark.ensures ∙ c.if-not-is_mark.false) less c.if-end-gt-MOST.false c.if-input-end-ne13.false c.if-input-end-ne10.false)
