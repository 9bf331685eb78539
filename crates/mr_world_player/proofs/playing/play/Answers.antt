use Rattle.std.proofs.Common.{refl, subst}
use Rattle.mr_world_script.specs.Lines.{Reads}
use Rattle.mr_world_script.specs.Reading.{said_of}
use Rattle.mr_world_player.specs.Asking.{IsAsked}
use Rattle.mr_world_player.specs.Playing.{Plays}
use Rattle.mr_world_player.proofs.Told.{told_err, told_ok}
use Rattle.mr_world_player.proofs.playing.play.Goals as goal

pub returns-in-Event-clause-ok : goal.returns-in-Event-clause-ok
returns-in-Event-clause-ok c =
    let said = said_of c.in-Some.line in
    let says = subst (λ o. Reads c.args.text.now o) c.in-Some.is c.in_ok-line.ensures.read in
    let is = subst (λ a. IsAsked c.args.backlog c.args.world.now said a) c.in-Event.is c.in_ok-asked_by.ensures in
    told_ok c.args.backlog c.args.world.now c.args.text.now c.happen.new.world c.args.out.now.items c.write-in-Event.new.out.items said c.happen.result says
    (Plays.happens c.in-Event.event is c.happen.ensures) c.write-in-Event.result c.write-in-Event.ensures.ok

pub returns-in-Event-clause-err : goal.returns-in-Event-clause-err
returns-in-Event-clause-err c =
    let said = said_of c.in-Some.line in
    let says = subst (λ o. Reads c.args.text.now o) c.in-Some.is c.in_ok-line.ensures.read in
    let is = subst (λ a. IsAsked c.args.backlog c.args.world.now said a) c.in-Event.is c.in_ok-asked_by.ensures in
    told_err c.args.backlog c.args.world.now c.args.text.now c.happen.new.world c.args.out.now.items c.write-in-Event.new.out.items said c.happen.result says
    (Plays.happens c.in-Event.event is c.happen.ensures) c.write-in-Event.result c.write-in-Event.ensures.err

pub returns-in-Show-clause-ok : goal.returns-in-Show-clause-ok
returns-in-Show-clause-ok c =
    let said = said_of c.in-Some.line in
    let says = subst (λ o. Reads c.args.text.now o) c.in-Some.is c.in_ok-line.ensures.read in
    let is = subst (λ a. IsAsked c.args.backlog c.args.world.now said a) c.in-Show.is c.in_ok-asked_by.ensures in
    told_ok c.args.backlog c.args.world.now c.args.text.now c.args.world.now c.args.out.now.items c.write-in-Show.new.out.items said c.shown.result says
    (Plays.shown c.in-Show.node is refl c.shown.ensures) c.write-in-Show.result c.write-in-Show.ensures.ok

pub returns-in-Got-clause-ok : goal.returns-in-Got-clause-ok
returns-in-Got-clause-ok c =
    let said = said_of c.in-Some.line in
    let says = subst (λ o. Reads c.args.text.now o) c.in-Some.is c.in_ok-line.ensures.read in
    let is = subst (λ a. IsAsked c.args.backlog c.args.world.now said a) c.in-Got.is c.in_ok-asked_by.ensures in
    told_ok c.args.backlog c.args.world.now c.args.text.now c.args.world.now c.args.out.now.items c.write-in-Got.new.out.items said c.got.result says
    (Plays.got c.in-Got.link is refl c.got.ensures) c.write-in-Got.result c.write-in-Got.ensures.ok
