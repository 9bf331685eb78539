-- From what the parts of a step do to the step's row.
use Rattle.std.specs.Prelude.{All}
use Rattle.std.specs.List.{AllByRecursion}
use Rattle.std.specs.FinMap.{empty}
use Rattle.std.proofs.Common.{◌≡◌, ◌<◌, ◌≤◌, ℕ, List, [], true, not, drop, map, Option, None, Some, refl, sym, ap, subst, ◌∙◌}
use Rattle.std.proofs.lemmas.List.{length-map}
use Rattle.mr_commands.specs.Transactions.{past_limit}
use Rattle.mr_links.specs.declared.link_id.LinkId.{LinkId}
use Rattle.mr_resp.specs.Replies.{error, reply_text}
use Rattle.mr_resp.specs.Faults.{fault_text}
use Rattle.mr_resp.specs.ReplyView.{view}
use Rattle.mr_resp.specs.declared.fault.Fault.{Fault}
use Rattle.mr_keyspace.specs.Dataset.{Dataset}
use Rattle.mr_effect.specs.Spelling.{texts, IsShort}
use Rattle.mr_keyspace.specs.Changes.{NeedsNoMemory}
use Rattle.mr_data.specs.Meaning.{apply_all}
use Rattle.mr_data.specs.Rebuilding.{rebuilding}
use Rattle.mr_data.specs.declared.given.Given.{Given}
use Rattle.mr_data.specs.declared.plan.Plan.{Plan}
use Rattle.mr_repl.specs.Backlog.{offset_limit}
use Rattle.mr_cmd_server.specs.declared.question.Question.{Question}
use Rattle.mr_cmd_shared.specs.Answered.{done}
use Rattle.mr_cmd_shared.proofs.Laws.{command_texts}
use Rattle.mr_info.specs.declared.roles.Replica.{Replica}
use Rattle.mr_node_links.specs.State.EndState.{client, shut}
use Rattle.mr_node_links.specs.Replicas.{Lists}
use Rattle.mr_node_output.specs.Outs.{Output, no_outs, no_output, growth, outs_with}
use Rattle.mr_node_spec.specs.State.{NodeState, end_of}
use Rattle.mr_node_spec.specs.Requests.{IsDoomedBy}
use Rattle.mr_node_spec.specs.Growing.{FedTo, Remakes, grown_by, offset_behind}
use Rattle.mr_node_spec.specs.Ends.{Leaves}
use Rattle.mr_node_spec.specs.Telling.{Around, IsAround, link_of, reply_about}
use Rattle.mr_node_spec.specs.Served.{Answered, Served, left_of, rewritten_as, says}
use Rattle.mr_node_spec.specs.ClientRows.{ClientRow, Closes, Ends, MayLack, Stops}
use Rattle.mr_node.specs.Reading.{HaltsAt, Passes, Questions, Quits, Reads, Rewrites, Runs}
use Rattle.mr_node.specs.Parts.{Keeps, Uses}
use Rattle.mr_node.specs.Steps.{IsAt}

-- what stands around a node with these replicas, where they said nothing of themselves
abbrev pub nobody : Replica
nobody = record { address = None; port = None; acknowledged = None }

abbrev pub around_of : (a : NodeState) (names : List LinkId) → Around
around_of a names = record { replicas = map (λ _. nobody) names; link = link_of a.follow }

pub is_around_of : (a : NodeState) (names : List LinkId) → Lists names a.ends.open_links → IsAround a (around_of a names)
is_around_of a names listed = record { names = names; listed = listed; counted = length-map names (λ _. nobody); link = refl }

-- what is used is served, whatever stands around
pub serve_row : (a b : NodeState) (l : LinkId) (u : List ℕ) (given : Given) (fresh : List ℕ) (used : ℕ) (out : Output) (around : Around) → IsAt a l u → Uses a l used b → IsAround a around
    → out.grown ≡ [] → Served a.core around u given b.core (drop used u) out → ClientRow a l u given fresh b (outs_with (Some l) out)
serve_row a b l u given fresh used out around at uses is_around none served = ClientRow.serves (record {
  up = at.up;
  rest = drop used u;
  out = out;
  around = around;
  is_around = is_around;
  served = served;
  leaves = uses.leaves (client u) at.agrees.is;
  fed = subst (λ (z : List ℕ). FedTo z a []) (sym none) refl;
  outs_are = refl;
})

pub skip_row : (a b : NodeState) (l : LinkId) (u : List ℕ) (given : Given) (fresh : List ℕ) (used : ℕ) → IsAt a l u → Passes u used → Uses a l used b → ClientRow a l u given fresh b (record no_outs { link = Some l })
skip_row a b l u given fresh used at p uses =
    serve_row a b l u given fresh used no_output (around_of a uses.names) at uses (is_around_of a uses.names uses.listed) refl (Served.nothing p.asks uses.core refl)

pub halt_row : (a b : NodeState) (l : LinkId) (u : List ℕ) (given : Given) (fresh : List ℕ) (used : ℕ) → IsAt a l u → HaltsAt u used → Uses a l used b → ClientRow a l u given fresh b (record no_outs { link = Some l; halts = true })
halt_row a b l u given fresh used at h uses = ClientRow.halts (record {
  up = at.up;
  rest = drop used u;
  asks = record { words = h.words; asks = h.reads.asks; halting = h.halting };
  core = uses.core;
  leaves = uses.leaves (client u) at.agrees.is;
  outs_are = refl;
})

-- a last reply
pub last_closes : (a b : NodeState) (l : LinkId) (u last : List ℕ) → a.core.up ≡ true → Ends u last → b.core ≡ a.core → Leaves a l b shut → Closes a l u b (record no_outs { link = Some l; reply = last; closes = true })
last_closes a b l u last up ends core leaves = record {
  up = up;
  last = last;
  ends = ends;
  core = core;
  follow = leaves.follow;
  shut = record { is = leaves.is };
  others = leaves.others;
  outs_are = refl;
}

pub doomed_ends : (u : List ℕ) (fault : Fault) → IsDoomedBy u fault → Ends u (reply_text (error (fault_text fault)))
doomed_ends u fault d = Ends.doomed fault d refl

pub quit_ends : (u : List ℕ) → Quits u → Ends u (reply_text done)
quit_ends u q = Ends.quit q.words q.rest q.asks q.quit refl

pub quit_lacks : (u : List ℕ) → Quits u → MayLack u
quit_lacks u q = MayLack.asks q.words q.rest q.asks

pub remakes_of : (m : Dataset) → apply_all (rebuilding m) empty ≡ Some m → All IsShort (rebuilding m) → Remakes (rebuilding m) m
remakes_of m again short = record { again = again; texts = command_texts (rebuilding m) empty m again short; short = short }

pub rewrite_row : (a b : NodeState) (l : LinkId) (u : List ℕ) (given : Given) (fresh : List ℕ) (used : ℕ) → IsAt a l u → Rewrites u used → Remakes (rebuilding a.core.held) a.core.held → Uses a l used b
    → ClientRow a l u given fresh b (outs_with (Some l) (rewritten_as a.core.held))
rewrite_row a b l u given fresh used at r remakes uses =
    serve_row a b l u given fresh used (rewritten_as a.core.held) (around_of a uses.names) at uses (is_around_of a uses.names uses.listed) refl
    (Served.request r.words r.reads.asks (Answered.rewritten r.rewriting remakes uses.core refl))

pub tell_row : (a b : NodeState) (l : LinkId) (u : List ℕ) (given : Given) (fresh : List ℕ) (used : ℕ) (question : Question) (around : Around) → IsAt a l u → Questions u used question → IsAround a around → Uses a l used b
    → ClientRow a l u given fresh b (outs_with (Some l) (reply_about question a.core around))
tell_row a b l u given fresh used question around at q is_around uses =
    serve_row a b l u given fresh used (reply_about question a.core around) around at uses is_around refl
    (Served.request q.words q.reads.asks (Answered.tells question q.asked uses.core refl))

pub keep_row : (a b : NodeState) (l : LinkId) (u : List ℕ) (given : Given) (fresh : List ℕ) (used : ℕ) (out : Output) → IsAt a l u → Keeps a.core u used out → out.grown ≡ [] → Uses a l used b
    → ClientRow a l u given fresh b (outs_with (Some l) out)
keep_row a b l u given fresh used out at k none uses =
    serve_row a b l u given fresh used out (around_of a uses.names) at uses (is_around_of a uses.names uses.listed) none
    (Served.request k.wishes.words k.wishes.reads.asks (Answered.keeps_role k.wish k.wishes.asks k.quiet uses.core))

-- memory may be lacking for each of them
pub lacks_words : (u : List ℕ) (used : ℕ) (words : List (List ℕ)) → Reads u used words → MayLack u
lacks_words u used words r = MayLack.asks words (drop used u) r.asks

-- ---- plans
pub beyond_row : (a b : NodeState) (l : LinkId) (u : List ℕ) (given : Given) (fresh : List ℕ) (used : ℕ) (p : Plan) → IsAt a l u → Runs (not a.core.master) u given a.core.held used p
    → offset_limit < offset_behind p.effects.items a.core → Uses a l used b → ClientRow a l u given fresh b (outs_with (Some l) (says past_limit))
beyond_row a b l u given fresh used p at r beyond uses =
    serve_row a b l u given fresh used (says past_limit) (around_of a uses.names) at uses (is_around_of a uses.names uses.listed) refl
    (Served.request r.words r.reads.asks (Answered.beyond r.plain (view p.reply) p.effects.items r.plan beyond uses.core refl))

-- the effects are applied, and their texts sent to all replicas
pub within_row : (a mid b : NodeState) (l : LinkId) (u : List ℕ) (given : Given) (fresh : List ℕ) (used : ℕ) (p : Plan) (held : Dataset) (fed : List LinkId) → IsAt a l u → Runs (not a.core.master) u given a.core.held used p
    → offset_behind p.effects.items a.core ≤ offset_limit → apply_all p.effects.items a.core.held ≡ Some held → mid ≡ record a { core = grown_by p.effects.items held a.core } → Uses mid l used b
    → FedTo (texts p.effects.items) a fed → ClientRow a l u given fresh b (record (outs_with (Some l) (record (growth (texts p.effects.items)) { said = reply_text (view p.reply) })) { fed = fed })
within_row a mid b l u given fresh used p held fed at r within applied mid_is uses feeds =
    let es = p.effects.items in
    let left : held ≡ left_of a.core r.words given = some_held held (left_of a.core r.words given) (sym applied ∙ r.plan.leads) in
    let leaves = uses.leaves (client u) (ap (λ (z : NodeState). end_of z l) mid_is ∙ at.agrees.is) in
    ClientRow.serves (record {
      up = at.up;
      rest = drop used u;
      out = record (growth (texts es)) { said = reply_text (view p.reply) };
      around = around_of a uses.names;
      is_around = is_around_of a uses.names (subst (λ (z : NodeState). Lists uses.names z.ends.open_links) mid_is uses.listed);
      served = Served.request r.words r.reads.asks (Answered.within r.plain (view p.reply) es r.plan within
          (uses.core ∙ (ap (λ (z : NodeState). z.core) mid_is ∙ ap (λ (m : Dataset). grown_by es m a.core) left)) refl);
      leaves = record {
        is = leaves.is;
        others = record { stay = λ x ne. leaves.others.stay x ne ∙ ap (λ (z : NodeState). end_of z x) mid_is; opened = leaves.others.opened ∙ ap (λ (z : NodeState). z.ends.opened) mid_is };
        follow = leaves.follow ∙ ap (λ (z : NodeState). z.follow) mid_is;
      };
      fed = feeds;
      outs_are = refl;
    })
  where
    some_held : (m n : Dataset) → ◌≡◌ {A = Option Dataset} (Some m) (Some n) → m ≡ n
    some_held m n e = cc

-- a node may stop at a request with effects that take memory
pub stops_of : (a : NodeState) (u : List ℕ) (given : Given) (used : ℕ) (p : Plan) → Runs (not a.core.master) u given a.core.held used p → offset_behind p.effects.items a.core ≤ offset_limit
    → (AllByRecursion NeedsNoMemory p.effects.items → ⊥) → Stops a u given
stops_of a u given used p r within heavy = record { words = r.words; rest = drop used u; asks = r.reads.asks; reply = view p.reply; effects = p.effects.items; plan = r.plan; within = within; heavy = heavy }
