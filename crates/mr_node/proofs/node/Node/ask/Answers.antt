use Rattle.std.proofs.Common.{◌≡◌, false, rules, subst, sym, true}
use Rattle.std.specs.Prelude.{Ok}
use Rattle.mr_resp.specs.Replies.{Tree}
use Rattle.mr_cmd_node.specs.declared.node_ask.NodeAsk.{NodeAsk}
use Rattle.mr_node_output.specs.Outs.{OutsState}
use Rattle.mr_node_spec.specs.Served.{says}
use Rattle.mr_node.specs.Parts.{Keeps}
use Rattle.mr_node.specs.Reading.{IsWish, Wishes}
use Rattle.mr_node.specs.Steps.{ClientStep, step_of}
use Rattle.mr_node.proofs.Asking.{keeps_acknowledgement, keeps_discard, keeps_exec, keeps_introduction, keeps_master, keeps_unchained, of_acknowledgement, of_begin, of_discard, of_exec, of_follow, of_introduction, of_lead, of_stream}
use Rattle.mr_node.proofs.node.Node.ask.Goals as goal

pub returns-then-master : goal.returns-then-master
returns-then-master c = λ u given wish at w is.
    let told = of_stream wish c.in-Stream.wish (subst (IsWish wish) c.in-Stream.is is) in
    c.synchronize.ensures u given c.args.fresh at (subst (λ (z : NodeAsk). Wishes u c.args.used z) told w)

pub returns-in-Stream : goal.returns-in-Stream
returns-in-Stream c = λ u given wish at w is.
    let a = c.args.self.now in
    let told = of_stream wish c.in-Stream.wish (subst (IsWish wish) c.in-Stream.is is) in
    let follows : a.core.master ≡ false = search rules in
    c.say.ensures u given c.args.fresh at
    (subst (λ (t : Tree). Keeps a.core u c.args.used (says t)) (sym c.not_chained.ensures) (keeps_unchained a.core u c.args.used wish w c.in-Stream.wish.id.items c.in-Stream.wish.wanted told follows))

pub returns-in-Introduction : goal.returns-in-Introduction
returns-in-Introduction c = λ u given wish at w is.
    let told = of_introduction wish c.in-Introduction.introduction (subst (IsWish wish) c.in-Introduction.is is) in
    c.introduce.ensures u given c.args.fresh at (keeps_introduction c.args.self.now.core u c.args.used wish w told.0 told.1)

pub returns-in-Acknowledgement : goal.returns-in-Acknowledgement
returns-in-Acknowledgement c = λ u given wish at w is.
    let told = of_acknowledgement wish c.in-Acknowledgement.offset (subst (IsWish wish) c.in-Acknowledgement.is is) in
    subst (λ (o : OutsState). ClientStep c.args.self.now c.args.link u given c.args.fresh c.acknowledge.new.self (step_of o (Ok c.acknowledge.result))) (sym c.requires.begun)
    (c.acknowledge.ensures u given c.args.fresh at (keeps_acknowledgement c.args.self.now.core u c.args.used wish w c.in-Acknowledgement.offset told))

pub returns-in-Follow : goal.returns-in-Follow
returns-in-Follow c = λ u given wish at w is.
    let told = of_follow wish c.in-Follow.address (subst (IsWish wish) c.in-Follow.is is) in
    c.follow_another.ensures u given c.args.fresh at (subst (λ (z : NodeAsk). Wishes u c.args.used z) told w)

pub returns-then-master-2 : goal.returns-then-master-2
returns-then-master-2 c = λ u given wish at w is.
    let a = c.args.self.now in
    let told = of_lead wish (subst (IsWish wish) c.in-Lead.is is) in
    let leads : a.core.master ≡ true = search rules in
    c.say-then-master-2.ensures u given c.args.fresh at
    (subst (λ (t : Tree). Keeps a.core u c.args.used (says t)) (sym c.done.ensures) (keeps_master a.core u c.args.used wish w told leads))

pub returns-in-Lead : goal.returns-in-Lead
returns-in-Lead c = λ u given wish at w is.
    let told = of_lead wish (subst (IsWish wish) c.in-Lead.is is) in
    c.promote.ensures u given at (subst (λ (z : NodeAsk). Wishes u c.args.used z) told w)

pub returns-in-Begin : goal.returns-in-Begin
returns-in-Begin c = λ u given wish at w is.
    let told = of_begin wish (subst (IsWish wish) c.in-Begin.is is) in
    c.begin.ensures u given c.args.fresh at (subst (λ (z : NodeAsk). Wishes u c.args.used z) told w)

pub returns-in-Exec : goal.returns-in-Exec
returns-in-Exec c = λ u given wish at w is.
    let told = of_exec wish (subst (IsWish wish) c.in-Exec.is is) in
    c.say-in-Exec.ensures u given c.args.fresh at
    (subst (λ (t : Tree). Keeps c.args.self.now.core u c.args.used (says t)) (sym c.exec_alone.ensures) (keeps_exec c.args.self.now.core u c.args.used wish w told))

pub returns : goal.returns
returns c = λ u given wish at w is.
    let told = of_discard wish (subst (IsWish wish) c.in-Discard.is is) in
    c.say-in-Discard.ensures u given c.args.fresh at
    (subst (λ (t : Tree). Keeps c.args.self.now.core u c.args.used (says t)) (sym c.discard_alone.ensures) (keeps_discard c.args.self.now.core u c.args.used wish w told))
