use Rattle.std.proofs.Common.{◌≡◌, ◌++◌, ℕ, List, Some, refl, sym, ap, ◌∙◌}
use Rattle.mr_follower.specs.Handshake.{ping_line}
use Rattle.mr_node_output.specs.Outs.{OutsState, no_outs}
use Rattle.mr_node.proofs.Linking.{dials_row, ping, ping_bytes, went_well}
use Rattle.mr_node.proofs.node.Node.dial.Goals as goal

pub returns : goal.returns
returns c =
    let on = c.if-opens_no_more.ensures.no refl in
    let same : c.self.inside.state ≡ c.args.self.now = c.self.view_is ∙ (c.fresh_outs-outs.ensures.same ∙ on.same) in
    let said : c.say_bytes.new.self ≡ record c.fresh_outs-outs.result { reply = c.fresh_outs-outs.result.reply ++ ping } = went_well c.say_bytes.result (sym c.is_err.ensures.value ∙ c.if-is_err.false) c.say_bytes.ensures in
    let greets : (z : OutsState) → z ≡ no_outs → record z { link = Some c.in-Ok.link; reply = z.reply ++ ping } ≡ record no_outs { link = Some c.in-Ok.link; reply = ping_line } =
    λ z none. ap (λ (z : OutsState). record z { link = Some c.in-Ok.link; reply = z.reply ++ ping }) none ∙ ap (λ (line : List ℕ). record no_outs { link = Some c.in-Ok.link; reply = line }) ping_bytes in (
      on.up,
      dials_row c.args.self.now c.self.inside.state c.dial.new.self c.in-Ok.link c.bind.new.self same c.requires.replica c.requires.alone c.in-Ok.ensures.fresh c.in-Ok.ensures.generation c.in-Ok.ensures.dials
          (c.bind.ensures ∙ (ap (λ (z : OutsState). record z { link = Some c.in-Ok.link }) said ∙ greets c.fresh_outs-outs.result c.fresh_outs-outs.ensures.outs)),
      on.few,
    )
