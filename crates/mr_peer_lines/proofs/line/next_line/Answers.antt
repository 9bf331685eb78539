use Rattle.std.proofs.Common.{◌+◌, take, drop, inr, sym}
use Rattle.std.proofs.lemmas.List.{take-append-drop}
use Rattle.mr_peer_lines.proofs.Ends.{front_parts}
use Rattle.mr_peer_lines.proofs.line.next_line.Goals as goal

pub returns-in-None : goal.returns-in-None
returns-in-None c =
    let input = c.args.input.now in let end = c.in-Ends.end in
    let whole = c.in-Ends.ensures.1 in
    let parts = front_parts input end whole.marked in
    inr (record {
      text = take (end + 2) input;
      rest = drop (end + 2) input;
      front = take end input;
      begins = sym (take-append-drop (end + 2) input);
      whole = whole;
      nothing = λ line says. c.in-None.ensures line (rw parts at says);
    })
