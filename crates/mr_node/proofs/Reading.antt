-- What is to be done about a request, from its words.
use Rattle.std.proofs.Common.{◌≡◌, ◌≤◌, ℕ, List, [], ◌∷◌, append-nil, append_assoc, inl, not, Vec, Global, Bool, true, false, length, take, drop, refl, sym, ap, subst, ◌∙◌, All, IsTrue}
use Rattle.std.specs.Prelude.{Some, Result, Ok, Err, IfOk, OnErr}
use Rattle.std.specs.List.{list_all, AllByRecursion}
use Rattle.std.specs.Cmp.Derive.{both_true}
use Rattle.std.proofs.lemmas.Bool.{le-leb}
use Rattle.std.proofs.lemmas.List.{take-append-drop}
use Rattle.std.proofs.lemmas.List.Elements.{recursion_from_All}
use Rattle.mr_bytes.specs.Words.{fits}
use Rattle.mr_inline.specs.Limits.{word_limit}
use Rattle.mr_resp.specs.ReplyView.{view}
use Rattle.mr_resp.specs.Request.{IsRequest}
use Rattle.mr_resp.specs.Resumed.{Agrees}
use Rattle.mr_resp.specs.Scans.{BeginsWithRequest}
use Rattle.mr_resp.specs.Scans as scans
use Rattle.mr_resp.specs.Usual.{usual}
use Rattle.mr_resp.specs.declared.limits.Limits.{Limits}
use Rattle.mr_resp.specs.declared.progress.Progress.{Progress}
use Rattle.mr_inline.specs.Language.{Continues}
use Rattle.mr_resp.specs.Request.{IsText}
use Rattle.mr_resp.specs.declared.reply.Reply.{Reply}
use Rattle.mr_resp.specs.declared.request.Scan.{Scan}
use Rattle.mr_resp.specs.declared.request.Scan.TheVariants as scan
use Rattle.std.specs.declared.borrow.CowSlice.{CowSlice}
use Rattle.mr_resp.proofs.OneAnswer.{not_empty, same_requests, text_wants_no_more}
use Rattle.mr_node_links.specs.State.{CanWait}
use Rattle.mr_keyspace.specs.Dataset.{Dataset}
use Rattle.mr_data.specs.declared.given.Given.{Given}
use Rattle.mr_data.specs.declared.plan.Plan.{Plan}
use Rattle.mr_cmd_server.specs.declared.question.Question.{Question}
use Rattle.mr_cmd_node.specs.declared.node_ask.NodeAsk.{NodeAsk}
use Rattle.mr_ask.specs.Asks.{asked}
use Rattle.mr_ask.specs.declared.ask.Ask.{Ask}
use Rattle.mr_ask.specs.declared.ask.Ask.TheVariants as ask
use Rattle.mr_arguments.specs.declared.fault.AskFault.{AskFault}
use Rattle.mr_commands.specs.Requests.{HasPlan, HasTexts, IsPlain, IsAnswerTo, IsPlannedAs, Leads, halting_by, halts, closes, left_by, question_by, quits, rewrites, rewriting_by}
use Rattle.mr_commands.proofs.Questions.{halting_asks_nothing, quit_asks_nothing, rewriting_asks_nothing}
use Rattle.mr_commands.specs.declared.requests.Answer.{Answer}
use Rattle.mr_commands.specs.declared.requests.Answer.TheVariants as answer
use Rattle.mr_node_links.specs.Progresses.{AgreesAlong}
use Rattle.mr_node_spec.specs.ClientRows.{MayLack}
use Rattle.mr_node_spec.specs.Requests.{Asks}
use Rattle.mr_node_spec.specs.State.{NodeState}
use Rattle.mr_node.specs.Executing.{IsTold, IsWaited, MayNotWait}
use Rattle.mr_node.specs.declared.waited.Waited.{Waited}
use Rattle.mr_node.specs.declared.waited.Waited.TheVariants as waited
use Rattle.mr_node.specs.Reading.{IsAnswered, IsAnsweredAt, KeepsAlong, IsDone, IsTodo, Reads}
use Rattle.mr_node.specs.declared.todo.Todo.{Todo}
use Rattle.mr_node.specs.declared.todo.Todo.TheVariants as todo

-- ---- the progress, and words within the limit
pub agrees_now : (p : Progress) (u : List ℕ) → AgreesAlong p u → Agrees usual p u
agrees_now p u a = subst (λ z. Agrees usual p z) (append-nil u) (a.along [])

within_by_recursion : (ws : List (List ℕ)) → AllByRecursion (λ (w : List ℕ). length w ≤ word_limit) ws → list_all fits ws ≡ true
within_by_recursion [] h = refl
within_by_recursion (w ∷ ws) h = both_true (le-leb (length w) word_limit h.0) (within_by_recursion ws h.1)

-- words within the limit, by the test
pub all_fit : (ws : List (List ℕ)) → All (λ (w : List ℕ). length w ≤ word_limit) ws → IsTrue (list_all fits ws)
all_fit ws a = within_by_recursion ws (recursion_from_All (λ (w : List ℕ). length w ≤ word_limit) ws a)

-- ---- what was read, within a server's limits
pub read_as : {limits : Limits} {scan : Scan} (u : List ℕ) (what : Scan) → limits ≡ usual → scan ≡ what → scans.Reads limits u scan → scans.Reads usual u what
read_as {limits} {scan} u what usually is r = subst (λ (z : Limits). scans.Reads z u what) usually (subst (λ (z : Scan). scans.Reads limits u z) is r)

pub asked_at : (u : List ℕ) (n : ℕ) (words : List (List ℕ)) → IsRequest usual (take n u) words → Asks u words (drop n u)
asked_at u n words r = record { text = take n u; begins = sym (take-append-drop n u); request = r }

-- .. for whose words memory was lacking
pub may_lack : (u : List ℕ) → BeginsWithRequest usual u → MayLack u
may_lack u b = MayLack.asks b.words (drop b.used u) (asked_at u b.used b.words b.request)

pub in_any_case : {A E : Type 0} (r : Result A E) (P : Type 0) → P → OnErr r P
in_any_case (Ok x) P h = tt
in_any_case (Err e) P h = h

-- ---- an answer to a command
ok_is : (a b : Ask) → ◌≡◌ {A = Result Ask AskFault} (Ok a) (Ok b) → a ≡ b
ok_is a b e = cc

pub answer_done : (replica : Bool) (words : List (List ℕ)) (given : Given) (m : Dataset) (a : Ask) (x : Answer) → asked words ≡ Ok a → ((wish : NodeAsk) → a ≡ ask.Node wish → ⊥)
    → IsAnswerTo replica a given m x → Leads x m (left_by (Ok a) replica given m) → HasTexts x → IsAnswered replica words given m x
answer_done replica words given m a (answer.Run plan) is other answers leads sent = (
  record {
    keeps_file = ap rewriting_by is ∙ answers.1;
    runs_on = ap halting_by is ∙ answers.2;
    asks_data = ap question_by is ∙ answers.3;
    asks_no_node = λ wish asks. other wish (ok_is a (ask.Node wish) (sym is ∙ asks));
  },
  record {
    goes_on = ap closes is ∙ answers.0;
    planned = record { planned = subst (λ r. IsPlannedAs r replica given m (view plan.reply) plan.effects.items) (sym is) answers.4 };
    leads = leads ∙ ap (λ r. Some (left_by r replica given m)) (sym is);
    texts = sent.texts;
    short = sent.short;
  },
)
answer_done replica words given m a answer.Quit is other answers leads sent = ap closes is ∙ answers
answer_done replica words given m a answer.Rewrite is other answers leads sent = ap rewriting_by is ∙ answers
answer_done replica words given m a (answer.Tell question) is other answers leads sent = ap question_by is ∙ answers
answer_done replica words given m a answer.Halt is other answers leads sent = ap halting_by is ∙ answers

-- .. from words to unread bytes
reads_at : (words : List (List ℕ)) (u : List ℕ) (n used : ℕ) → used ≡ n → n ≤ length u → Asks u words (drop n u) → Reads u used words
reads_at words u n used same enough asks = subst (λ z. Reads u z words) (sym same) (record { enough = enough; asks = asks })

answered_at : (replica : Bool) (words : List (List ℕ)) (u : List ℕ) (n used : ℕ) (given : Given) (m : Dataset) (x : Answer) → used ≡ n → n ≤ length u → Asks u words (drop n u) → IsAnswered replica words given m x → IsAnsweredAt replica u given m used x
answered_at replica words u n used given m (answer.Run plan) same enough asks d = record { words = words; reads = reads_at words u n used same enough asks; plain = d.0; plan = d.1 }
answered_at replica words u n used given m answer.Quit same enough asks d = record { words = words; rest = drop n u; asks = asks; quit = d }
answered_at replica words u n used given m answer.Rewrite same enough asks d = record { words = words; reads = reads_at words u n used same enough asks; rewriting = d }
answered_at replica words u n used given m (answer.Tell question) same enough asks d = record { words = words; reads = reads_at words u n used same enough asks; asked = d }
answered_at replica words u n used given m answer.Halt same enough asks d = record { words = words; reads = reads_at words u n used same enough asks; halting = d }

pub done_todo : (replica : Bool) (words : List (List ℕ)) (u : List ℕ) (n : ℕ) (given : Given) (m : Dataset) (t : Todo) → n ≤ length u → Asks u words (drop n u) → IsDone replica words n given m t → IsTodo replica u given m t
done_todo replica words u n given m (todo.Wait progress) enough asks d = absurd d
done_todo replica words u n given m (todo.Skip used) enough asks d = absurd d
done_todo replica words u n given m (todo.Refuse fault) enough asks d = absurd d
done_todo replica words u n given m (todo.Ask used request) enough asks d = (d.1, record { words = words; reads = reads_at words u n used (d.0) enough asks; asks = d.2 }, d.3)
done_todo replica words u n given m (todo.Do used x) enough asks d = answered_at replica words u n used given m x d.0 enough asks d.1

-- .. where memory wasn't lacking
pub done_all : {E : Type 0} (r : Result Todo E) (replica : Bool) (words : List (List ℕ)) (u : List ℕ) (n : ℕ) (given : Given) (m : Dataset) → n ≤ length u → Asks u words (drop n u) → IfOk r (λ t. IsDone replica words n given m t) → IfOk r (λ t. IsTodo replica u given m t)
done_all (Ok t) replica words u n given m enough asks d = done_todo replica words u n given m t enough asks d
done_all (Err e) replica words u n given m enough asks d = tt

-- what is to be done, once it is known which it is
pub found_as : (replica : Bool) (u : List ℕ) (given : Given) (m : Dataset) (t s : Todo) → t ≡ s → IsTodo replica u given m t × KeepsAlong t u → IsTodo replica u given m s × KeepsAlong s u
found_as replica u given m t s is h = subst (λ z. IsTodo replica u given m z × KeepsAlong z u) is h

-- ---- words that waited
true_false : (b : Bool) → b ≡ true → b ≡ false → ⊥
true_false b p q = let wrong : true ≡ false = sym p ∙ q in cc

-- words that are answered neither by a plan nor by what the node says of itself
pub answer_may_not_wait : (replica : Bool) (words : List (List ℕ)) (given : Given) (m : Dataset) (x : Answer) → ((plan : Plan) → x ≡ answer.Run plan → ⊥) → ((question : Question) → x ≡ answer.Tell question → ⊥) → IsAnswered replica words given m x → MayNotWait words
answer_may_not_wait replica words given m (answer.Run plan) run tell d = absurd (run plan refl)
answer_may_not_wait replica words given m answer.Quit run tell d = record { refused = λ plain goes. true_false (quits words) d goes; asks_data = quit_asks_nothing words d }
answer_may_not_wait replica words given m answer.Rewrite run tell d = record { refused = λ plain goes. true_false (rewrites words) d plain.keeps_file; asks_data = rewriting_asks_nothing words d }
answer_may_not_wait replica words given m (answer.Tell question) run tell d = absurd (tell question refl)
answer_may_not_wait replica words given m answer.Halt run tell d = record { refused = λ plain goes. true_false (halts words) d plain.runs_on; asks_data = halting_asks_nothing words d }

-- .. that ask something of the node itself
pub wish_may_not_wait : (replica : Bool) (words : List (List ℕ)) (n : ℕ) (given : Given) (m : Dataset) (t : Todo) → ((used : ℕ) (x : Answer) → t ≡ todo.Do used x → ⊥) → IsDone replica words n given m t → MayNotWait words
wish_may_not_wait replica words n given m (todo.Wait progress) other d = absurd d
wish_may_not_wait replica words n given m (todo.Skip used) other d = absurd d
wish_may_not_wait replica words n given m (todo.Refuse fault) other d = absurd d
wish_may_not_wait replica words n given m (todo.Ask used request) other d = record { refused = λ plain goes. plain.asks_no_node d.1 d.2; asks_data = ap question_by d.2 }
wish_may_not_wait replica words n given m (todo.Do used x) other d = absurd (other used x refl)

-- ---- a request's text, read again
pub must_be_whole : (request : List ℕ) (s : Scan) → CanWait request → scans.Reads usual request s → ((words : Vec (CowSlice ℕ Global) Global) (used : ℕ) → s ≡ scan.Whole words used → ⊥) → ⊥
must_be_whole request (scan.Whole words used) can r other = other words used refl
must_be_whole request (scan.Skip used) can r other = not_empty usual request (take used request) [] (drop used request) can.0 can.1 r.1 (append-nil request ∙ sym (take-append-drop used request))
must_be_whole request scan.More can r other = text_wants_no_more usual request [] (inl can) (subst (λ (z : List ℕ). Continues (IsText usual) z) (sym (append-nil request)) r)
must_be_whole request (scan.Bad fault) can r other =
    r.doomed.never r.rest request [] (inl can) (append_assoc r.front (r.byte ∷ []) r.rest ∙ (sym r.is ∙ sym (append-nil request)))

-- its words are the ones that were read
pub words_again : (request : List ℕ) (words read : List (List ℕ)) (used : ℕ) → IsRequest usual request words → IsRequest usual (take used request) read → read ≡ words
words_again request words read used asks r = (same_requests usual (take used request) request (drop used request) [] read words r asks (take-append-drop used request ∙ sym (append-nil request))).0

pub waited_run : (a : NodeState) (words : List (List ℕ)) (given : Given) (w : Waited) (plan : Plan) → IsWaited a words given w → w ≡ waited.Run plan → IsPlain words × HasPlan (not a.core.master) a.core.held words given (view plan.reply) plan.effects.items
waited_run a words given w plan is e = subst (λ (z : Waited). IsWaited a words given z) e is

pub waited_say : (a : NodeState) (words : List (List ℕ)) (given : Given) (w : Waited) (reply : Reply) → IsWaited a words given w → w ≡ waited.Say reply → IsTold a words (view reply)
waited_say a words given w reply is e = subst (λ (z : Waited). IsWaited a words given z) e is
