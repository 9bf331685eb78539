use Rattle.std.proofs.Common.{rules, ◌≡◌, ◌∙◌, [], ◌∷◌, ◌++◌, ap}
use Rattle.mr_inline.specs.Bytes.{line_feed}
use Rattle.mr_world_player.proofs.Going.{next_line}
use Rattle.mr_world_player.proofs.stage.Stage.read.Goals as goal

pub returns-then-byte-eq10 : goal.returns-then-byte-eq10
returns-then-byte-eq10 g c = λ size w read old v rest st h.
    let told = g.W.Write.contents in
    let byte = c.args.byte in
    let is : byte ≡ line_feed = search rules in
    let pushed : c.push.new.self.items ≡ c.args.self.now.line.items ++ byte ∷ [] = search rules in
    next_line size w read old v rest (told c.args.output.now) byte c.play.new.self (told c.play.new.output) c.play.result is h
    (c.play.ensures size v (rest ++ byte ∷ []) (record { backlog = st.backlog; world = st.world; line = pushed ∙ ap (λ z. z ++ byte ∷ []) st.line }))
