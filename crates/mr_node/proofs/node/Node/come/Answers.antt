use Rattle.std.proofs.Common.{◌≡◌, not, subst, sym, take, true, false, ◌∙◌}
use Rattle.mr_resp.specs.Replies.{Tree}
use Rattle.mr_commands.specs.declared.transactions.Within.{Within}
use Rattle.mr_node_links.specs.State.{CanWait}
use Rattle.mr_node.specs.Within.{Comes, EndsWith}
use Rattle.mr_node.proofs.Ends.{one_open, open_of}
use Rattle.mr_node.proofs.Transactions.{aborts, can_wait, discards, quits_within}
use Rattle.mr_node.proofs.node.Node.come.Goals as goal

pub queue-requires-clause-open : goal.queue-requires-clause-open
queue-requires-clause-open c = open_of c.args.self.now c.args.link c.requires.comes.0 c.requires.comes.1 c.args.used c.requires.comes.2.agrees c.requires.comes.3.reads.enough

pub queue-requires-clause-request : goal.queue-requires-clause-request
queue-requires-clause-request c = λ t u at.
    let one = one_open c.args.self.now c.args.link c.requires.comes.0 t c.requires.comes.1 u c.requires.comes.2.agrees.is at in
    subst (λ z. CanWait (take c.args.used z)) one.1 (can_wait c.requires.comes.1 c.args.used c.requires.comes.3.words c.requires.comes.3.reads)

pub mark-requires-clause-open : goal.mark-requires-clause-open
mark-requires-clause-open c = open_of c.args.self.now c.args.link c.requires.comes.0 c.requires.comes.1 c.args.used c.requires.comes.2.agrees c.requires.comes.3.reads.enough

pub nest-requires-clause-open : goal.nest-requires-clause-open
nest-requires-clause-open c = open_of c.args.self.now c.args.link c.requires.comes.0 c.requires.comes.1 c.args.used c.requires.comes.2.agrees c.requires.comes.3.reads.enough

pub end_with-requires-clause-open : goal.end_with-requires-clause-open
end_with-requires-clause-open c = open_of c.args.self.now c.args.link c.requires.comes.0 c.requires.comes.1 c.args.used c.requires.comes.2.agrees c.requires.comes.3.reads.enough

pub returns-in-Queue : goal.returns-in-Queue
returns-in-Queue c = λ t u at comes. c.queue.ensures t u c.args.given at (subst (λ (w : Within). Comes (not c.args.self.now.core.master) u c.args.used w) c.in-Queue.is comes)

pub returns-in-Mark : goal.returns-in-Mark
returns-in-Mark c = λ t u at comes. c.mark.ensures t u c.args.given at (subst (λ (w : Within). Comes (not c.args.self.now.core.master) u c.args.used w) c.in-Mark.is comes)

pub returns-in-Nest : goal.returns-in-Nest
returns-in-Nest c = λ t u at comes. c.nest.ensures t u c.args.given at (subst (λ (w : Within). Comes (not c.args.self.now.core.master) u c.args.used w) c.in-Nest.is comes)

pub returns-in-Drop : goal.returns-in-Drop
returns-in-Drop c = λ t u at comes.
    let there = subst (λ (w : Within). Comes (not c.args.self.now.core.master) u c.args.used w) c.in-Drop.is comes in
    c.end_with.ensures t u c.args.given at (subst (λ (r : Tree). EndsWith (not c.args.self.now.core.master) t u c.args.used r) (sym c.done.ensures) (discards c.args.self.now c.args.self.now c.args.link t u c.args.given c.args.used at there))

pub returns-then-is_marked : goal.returns-then-is_marked
returns-then-is_marked c = λ t u at comes.
    let there = subst (λ (w : Within). Comes (not c.args.self.now.core.master) u c.args.used w) c.in-Run.is comes in
    let marked : t.marked ≡ true = sym (c.is_marked.ensures t u at.agrees) ∙ c.if-is_marked.true in
    c.end_with-then-is_marked.ensures t u c.args.given at
    (subst (λ (r : Tree). EndsWith (not c.args.self.now.core.master) t u c.args.used r) (sym c.aborted.ensures) (aborts c.args.self.now c.args.self.now c.args.link t u c.args.given c.args.used at marked there))

pub returns-else-is_marked : goal.returns-else-is_marked
returns-else-is_marked c = λ t u at comes.
    let there = subst (λ (w : Within). Comes (not c.args.self.now.core.master) u c.args.used w) c.in-Run.is comes in
    let whole : t.marked ≡ false = sym (c.is_marked.ensures t u at.agrees) ∙ c.if-is_marked.false in
    c.execute.ensures t u at whole there

pub returns-in-Quit : goal.returns-in-Quit
returns-in-Quit c = λ t u at comes.
    let there = subst (λ (w : Within). Comes (not c.args.self.now.core.master) u c.args.used w) c.in-Quit.is comes in
    c.quit.ensures.open t u c.args.given at (quits_within (not c.args.self.now.core.master) u c.args.used there)
