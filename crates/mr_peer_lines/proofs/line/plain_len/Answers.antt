use Rattle.std.proofs.Common.{◌≡◌, ℕ, ◌≤◌, Bool, true, false, cond, nat_lt, Some, None, length, refl, ap, ◌∙◌, arith}
use Rattle.std.specs.Option.{unwrap_or}
use Rattle.std.specs.List.{position_or_len}
use Rattle.std.proofs.lemmas.Bool.Decides.{nat_tests}
use Rattle.std.proofs.lemmas.List.Sums.{prefix_len-le-length}
use Rattle.mr_peer_lines.specs.Bytes.{ends_line}
use Rattle.mr_peer_lines.proofs.Ends.{is_plain}
use Rattle.mr_peer_lines.proofs.line.plain_len.Goals as goal

chosen : (n l : ℕ) (b : Bool) → nat_lt n l ≡ b → n ≤ l → unwrap_or (cond b (Some n) None) l ≡ n
chosen n l true e h = refl
chosen n l false e h = grind (arith, nat_tests, e)

pub returns : goal.returns
returns c =
    let xs = c.args.input.now in let n = position_or_len ends_line xs in
    c.unwrap_or.ensures ∙ ap (λ o. unwrap_or o (length xs)) c.first_end.ensures ∙ chosen n (length xs) (nat_lt n (length xs)) refl (prefix_len-le-length is_plain xs)
