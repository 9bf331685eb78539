use Rattle.std.proofs.Common.{◌≡◌, ◌++◌, sym, subst}
use Rattle.mr_resp.specs.Resumed.{AgreesCommand}
use Rattle.mr_resp.proofs.Resuming.{command_more}
use Rattle.mr_groups.specs.Readers.{HasRead}
use Rattle.mr_groups.proofs.Resuming.{reads_on}
use Rattle.mr_follower.proofs.inbox.Inbox.hear.Goals as goal

pub invariant_of-self-2 : goal.invariant_of-self-2
invariant_of-self-2 c =
    let before = c.self.inside.input in
    let more = c.args.bytes.now in
    let all : before ++ more ≡ c.push.new.self = sym c.in_ok-push.ensures.ok in (
      subst (HasRead c.self.inside.reader) all (reads_on c.self.inside.reader before more c.self.invariant.0),
      subst (AgreesCommand c.self.inside.known) all (command_more c.self.inside.known before more c.self.invariant.1),
    )
