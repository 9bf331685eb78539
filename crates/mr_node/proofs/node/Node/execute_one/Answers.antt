use Rattle.std.proofs.Common.{◌≡◌, ◌≤◌, ◌∙◌, All, ap, arith, IsTrue, length, map, not, refl, subst, sym, take}
use Rattle.std.specs.Cow.{cow_slice_items}
use Rattle.std.specs.List.{list_all}
use Rattle.std.proofs.lemmas.List.{length-map}
use Rattle.mr_bytes.specs.Words.{fits}
use Rattle.mr_resp.specs.ReplyView.{view}
use Rattle.mr_resp.specs.Usual.{commands-words, usual-word, usual-words}
use Rattle.mr_resp.specs.declared.request.Scan.TheVariants.{Whole}
use Rattle.mr_commands.specs.Requests.{HasPlan, IsPlain, left}
use Rattle.mr_node_spec.specs.State.{NodeState}
use Rattle.mr_node.specs.Executing.{IsTold}
use Rattle.mr_node.proofs.Executing.{says_so, told_one}
use Rattle.mr_node.proofs.Reading.{all_fit, must_be_whole, read_as, waited_run, waited_say, words_again}
use Rattle.mr_node.proofs.node.Node.execute_one.Goals as goal

pub waited-requires-clause-fit : goal.waited-requires-clause-fit
waited-requires-clause-fit c =
    let input = c.args.request.now in
    let r = read_as input (Whole c.in-Whole.words c.in-Whole.used) refl c.in-Whole.is c.in-Ok.ensures.found in
    let ws = map cow_slice_items c.in-Whole.words.items in
    subst (λ xs. IsTrue (list_all fits (map cow_slice_items xs))) (sym c.as_slice.ensures.value)
    (all_fit ws (subst (λ n. All (λ w. length w ≤ n) ws) usual-word (c.words_fit.ensures.each (take c.in-Whole.used input) ws r.1)))

pub waited-requires-clause-few : goal.waited-requires-clause-few
waited-requires-clause-few c =
    let input = c.args.request.now in
    let r = read_as input (Whole c.in-Whole.words c.in-Whole.used) refl c.in-Whole.is c.in-Ok.ensures.found in
    let ws = map cow_slice_items c.in-Whole.words.items in
    let same = ap length c.as_slice.ensures.value in
    omega (arith, same, c.words_fit.ensures.count (take c.in-Whole.used input) ws r.1, usual-words, commands-words, length-map c.in-Whole.words.items cow_slice_items)

pub execute_plan-requires-clause-leads : goal.execute_plan-requires-clause-leads
execute_plan-requires-clause-leads c =
    let words = map cow_slice_items c.as_slice.result.now in
    let p = waited_run c.args.self.now words c.args.given c.in-Ok-Run.field-0 c.in-Ok-Run.plan c.in-Ok-Run.ensures c.in-Ok-Run.field-0-is in
    (left (not c.args.self.now.core.master) words c.args.given c.args.self.now.core.held, p.1.leads)

pub returns-in-Ok-Run : goal.returns-in-Ok-Run
returns-in-Ok-Run c = λ a words before m asks d is.
    let input = c.args.request.now in
    let r = read_as input (Whole c.in-Whole.words c.in-Whole.used) refl c.in-Whole.is c.in-Ok.ensures.found in
    let found = map cow_slice_items c.as_slice.result.now in
    let same : found ≡ words = ap (map cow_slice_items) c.as_slice.ensures.value ∙ words_again input words (map cow_slice_items c.in-Whole.words.items) c.in-Whole.used asks r.1 in
    let p = waited_run c.args.self.now found c.args.given c.in-Ok-Run.field-0 c.in-Ok-Run.plan c.in-Ok-Run.ensures c.in-Ok-Run.field-0-is in
    let es = c.in-Ok-Run.plan.effects.items in
    let reply = view c.in-Ok-Run.plan.reply in
    c.execute_plan.ensures a c.args.given words before m (subst IsPlain same p.0)
    (subst (λ (s : NodeState). HasPlan (not s.core.master) s.core.held words c.args.given reply es) d.node (subst (λ ws. HasPlan (not c.args.self.now.core.master) c.args.self.now.core.held ws c.args.given reply es) same p.1)) d is

pub returns : goal.returns
returns c = λ a words before m asks d is.
    let input = c.args.request.now in
    let r = read_as input (Whole c.in-Whole.words c.in-Whole.used) refl c.in-Whole.is c.in-Ok.ensures.found in
    let found = map cow_slice_items c.as_slice.result.now in
    let same : found ≡ words = ap (map cow_slice_items) c.as_slice.ensures.value ∙ words_again input words (map cow_slice_items c.in-Whole.words.items) c.in-Whole.used asks r.1 in
    let reply = view c.in-Ok-Say.reply in
    let told = waited_say c.args.self.now found c.args.given c.in-Ok-Say.field-0 c.in-Ok-Say.reply c.in-Ok-Say.ensures c.in-Ok-Say.field-0-is in
    says_so a c.args.given words before m c.args.self.now c.args.outs.now d reply c.say_only.result c.say_only.new.outs
    (told_one a c.args.self.now c.args.given words before m reply d.node (subst (λ ws. IsTold c.args.self.now ws reply) same told)) c.say_only.ensures

pub unreachable-requires : goal.unreachable-requires
unreachable-requires c = must_be_whole c.args.request.now c.in-Ok.scan c.requires.request c.in-Ok.ensures.found c.in_default-scan.not-Whole
