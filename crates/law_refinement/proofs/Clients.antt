-- Each row of a step at a client's end is a row of histories.
use Rattle.std.proofs.Common.{◌≡◌, ◌≢◌, ◌+◌, ◌-◌, ◌<◌, ◌≤◌, inl, inr, ℕ, List, [], ◌∷◌, ◌++◌, Bool, true, false, not, Option, None, Some, Result, Ok, length, drop, append_assoc, refl, sym, ap, subst, ◌∙◌, arith, ◌||◌, All}
use Rattle.std.specs.Prelude.{is_some}
use Rattle.std.proofs.lemmas.List.{append-nil}
use Rattle.std.proofs.lemmas.List.Elements.{All-nil}
use Rattle.std.proofs.lemmas.Option.{same_Some}
use Rattle.mr_effect.specs.Spelling.{texts}
use Rattle.mr_effect.specs.declared.effect.Effect.{Effect}
use Rattle.mr_keyspace.specs.Dataset.{Dataset}
use Rattle.mr_data.specs.Meaning.{apply_all}
use Rattle.mr_data.specs.declared.given.Given.{Given}
use Rattle.mr_resp.specs.Replies.{Tree, reply_text}
use Rattle.mr_arguments.specs.declared.fault.AskFault.{AskFault}
use Rattle.mr_cmd_server.specs.Commands.{server_reply}
use Rattle.mr_cmd_server.specs.declared.server_ask.ServerAsk.{ServerAsk}
use Rattle.mr_cmd_node.specs.declared.node_ask.NodeAsk.{NodeAsk}
use Rattle.mr_cmd_node.specs.declared.node_ask.NodeAsk.TheVariants as node
use Rattle.mr_ask.specs.Asks.{asked}
use Rattle.mr_ask.specs.declared.ask.Ask.{Ask}
use Rattle.mr_ask.specs.declared.ask.Ask.TheVariants as ask
use Rattle.mr_groups.specs.Effects.{IsGoodEffect}
use Rattle.mr_groups.specs.Groups.{group_texts, singles}
use Rattle.mr_groups.proofs.Runs.{single_applied, single_texts}
use Rattle.mr_commands.specs.Transactions.{Coming, coming, coming_by}
use Rattle.mr_commands.specs.Transactions.Coming.{waits, marks, nests, drops, ends, quits}
use Rattle.mr_commands.specs.Requests.{AsksNode, HasPlan, IsPlain, halting_by, rewriting_by, question_by}
use Rattle.mr_commands.proofs.Replicas.{none_on_replica}
use Rattle.mr_repl.specs.Backlog.{IsWindow, last_of, offset_limit}
use Rattle.mr_repl.specs.Lineage.{grown}
use Rattle.mr_inline.specs.Language.{IsDoomed}
use Rattle.mr_resp.specs.Request.{IsText}
use Rattle.mr_resp.specs.Usual.{usual}
use Rattle.mr_resp.specs.declared.fault.Fault.{Fault}
use Rattle.mr_node_links.specs.State.{begun}
use Rattle.mr_node_links.specs.State.EndState.{client}
use Rattle.mr_node_output.specs.Outs.{OutsState, Output, no_output}
use Rattle.mr_node_spec.specs.State.{Core, NodeState, end_of}
use Rattle.mr_node_spec.specs.Requests as requests
use Rattle.mr_node_spec.specs.Growing.{FedTo, grown_by, offset_behind}
use Rattle.mr_node_spec.specs.Served.{Answered, Served, IsQuiet, left_of}
use Rattle.mr_node_spec.specs.ClientRows as row
use Rattle.law_protocol.specs.Language.{Request, Transaction}
use Rattle.law_protocol.specs.Language.Request.{Handshake, Psync, Ack, Command, ReplicaOfNoOne, ReplicaOf, Quit}
use Rattle.law_protocol.specs.Language.Line.{Plain, Refusal}
use Rattle.law_protocol.specs.History.{Book}
use Rattle.law_protocol.specs.Node.{EndsAs}
use Rattle.law_protocol.specs.World as history
use Rattle.law_protocol.specs.Event as events
use Rattle.law_protocol.specs.Event.Side.{Server}
use Rattle.law_protocol.specs.Changing.{LinkBecomes}
use Rattle.law_protocol.specs.ServerRows as rows
use Rattle.law_protocol.specs.ServerRows.{ServerRow, answered, concluded}
use Rattle.law_minired.specs.Minired.{minired}
use Rattle.law_minired.specs.Lines.{Says}
use Rattle.law_minired.specs.Changes.{HasEffects, Leads, LeadsTo}
use Rattle.law_minired.proofs.Comings.{come_by}
use Rattle.law_minired.proofs.GoodGroups.{good_effects}
use Rattle.law_minired.specs.Requests.{Kind, kind_of, kind_by, kind_to_node}
use Rattle.law_minired.specs.Requests.Kind.{handshake, command, quit}
use Rattle.law_minired.specs.Requests as language
use Rattle.law_refinement.specs.Way.{unread, used_on}
use Rattle.law_refinement.specs.State.{Link, Slot, WorldState}
use Rattle.law_refinement.specs.Seeing.{seen, seen_way, seen_node, open_on, seen_link, seen_host}
use Rattle.law_refinement.specs.Carrying.{behind, filed}
use Rattle.law_refinement.specs.Events.{IsEvent, Holds, IsServed}
use Rattle.law_refinement.proofs.Reading.{node_is}
use Rattle.law_refinement.proofs.Others.{Apart, no_names}
use Rattle.law_refinement.proofs.Singles.{single_good}
use Rattle.law_refinement.proofs.Asking.{special, is_special, special_plan, unknown, node_plan, or_second, PlainKind, plain_kind, quit_kind, ping_plan, wanted_or, says_ok, says_pong, says_not_chained}
use Rattle.law_refinement.proofs.Steps as steps
use Rattle.law_refinement.proofs.Steps.{Quiet, ends_as}

-- ---- a stream that grows by nothing
last_all : (n : ℕ) (xs : List ℕ) → length xs ≤ n → last_of n (xs ++ []) ≡ xs
last_all n xs few = ap (last_of n) (append-nil xs) ∙ ap (λ z. drop z xs) (let none : length xs - n ≡ 0 = omega (arith, few) in none)

pub grown_none : (c : Core) (m : Dataset) → IsWindow c.lineage.stream → m ≡ c.held → grown_by [] m c ≡ c
grown_none c m is e =
    let place : c.lineage.stream.offset + 0 ≡ c.lineage.stream.offset = omega arith in
    ap (λ z. record c { held = z; lineage = grown c.lineage [] }) e
    ∙ (ap (λ z. record c { lineage = record c.lineage { stream = record { held = z; capacity = c.lineage.stream.capacity; offset = c.lineage.stream.offset + 0 } } }) (last_all c.lineage.stream.capacity c.lineage.stream.held is.within)
    ∙ ap (λ z. record c { lineage = record c.lineage { stream = record { held = c.lineage.stream.held; capacity = c.lineage.stream.capacity; offset = z } } }) place)

pub left_none : (effects : List Effect) (m n : Dataset) → effects ≡ [] → apply_all effects m ≡ Some n → n ≡ m
left_none effects m n none leads = sym (same_Some m n (ap (λ (es : List Effect). apply_all es m) (sym none) ∙ leads))

pub doomed_by : (u : List ℕ) (fault : Fault) → requests.IsDoomedBy u fault → IsDoomed (IsText usual) u
doomed_by u fault h = let f = h.fails in record {
  never = λ more text rest p e.
      f.doomed.never (f.rest ++ more) text rest p
      (append_assoc f.front (f.byte ∷ []) (f.rest ++ more) ∙ (sym (append_assoc f.front (f.byte ∷ f.rest) more) ∙ (ap (λ z. z ++ more) (sym f.is) ∙ e)));
}

-- ---- what begins no transaction
abbrev pub BeginsNone : List (List ℕ) → Type 0
BeginsNone words = AsksNode words node.Multi → ⊥

no_multi_there : (words : List (List ℕ)) (x : ServerAsk) → asked words ≡ Ok (ask.Server x) → BeginsNone words
no_multi_there words x e m = let q : ◌≡◌ {A = Result Ask AskFault} (Ok (ask.Server x)) (Ok (ask.Node node.Multi)) = sym e ∙ m in cc

exec_is_no_multi : node.Exec ≡ node.Multi → ⊥
exec_is_no_multi e = cc

discard_is_no_multi : node.Discard ≡ node.Multi → ⊥
discard_is_no_multi e = cc

one_wish : (x y : NodeAsk) → ◌≡◌ {A = Result Ask AskFault} (Ok (ask.Node x)) (Ok (ask.Node y)) → x ≡ y
one_wish x y e = cc

leads_none : (c : Coming) (text : List ℕ) → (c ≡ nests → ⊥) → LeadsTo c None text None
leads_none waits text n = refl
leads_none (marks reply) text n = refl
leads_none nests text n = absurd (n refl)
leads_none drops text n = refl
leads_none ends text n = refl
leads_none quits text n = refl

module _ (w : WorldState) (book : Book minired) (l : ℕ) (k : Link) (s : Slot) (given : Given) (fresh : List ℕ) (b : NodeState) (outs : OutsState) (holds : Holds w book) (served : IsServed w l k s) (plain : k.streams ≡ false)
    (apart : Apart s.node k.name b outs) (held : open_on w.slots k ≡ None) where
  abbrev Event : Type 0
  Event = IsEvent w book (events.Event.Step l Server given fresh) (steps.V w book l k s given fresh b outs holds served)

  abbrev IsQuietStep : Type 0
  IsQuietStep = Quiet w book l k s given fresh b outs holds served apart

  same_node : b.core ≡ s.node.core → b.follow ≡ s.node.follow → seen_node (behind s b outs) ≡ seen_node s
  same_node e f = node_is s b (filed outs s.file) s.node.core s.node.follow e f

  window : IsWindow s.node.core.lineage.stream
  window = (steps.sound w book l k s given fresh b outs holds served).window

  event : ServerRow (seen w book) (seen (steps.V w book l k s given fresh b outs holds served) book) k.to l (seen_link w.slots k) (seen_node s) given fresh → IsQuietStep → Event
  event row q = steps.event w book l k s given fresh b outs holds served (steps.V w book l k s given fresh b outs holds served) book (steps.quiet_book w book l k s given fresh b outs holds served apart q) row

  -- ---- a request is used, and something is said
  record Uses (request : Request (List ℕ)) : Type 0 where
    words : List (List ℕ)
    rest : List ℕ
    asks : requests.Asks (unread k.ask) words rest
    kind : language.Asks (kind_of words) request
    core : b.core ≡ s.node.core
    follow : b.follow ≡ s.node.follow
    is : end_of b k.name ≡ Some (client rest)
    quiet : IsQuietStep

  becomes : (request : Request (List ℕ)) (u : Uses request)
      → LinkBecomes (seen w book) (seen (steps.V w book l k s given fresh b outs holds served) book) l (answered (seen_link w.slots k) (seen_way (used_on (length u.asks.text) k.ask)) outs.reply)
  becomes request u = steps.quiet_becomes w book l k s given fresh b outs holds served apart (answered (seen_link w.slots k) (seen_way (used_on (length u.asks.text) k.ask)) outs.reply) u.quiet (same_node u.core u.follow)
      (steps.here_answered w book l k s given fresh b outs holds served u.asks.text u.rest plain held u.is u.asks.begins)

  -- .. a command, which leaves nothing open
  concludes : (u : Uses Command) → LinkBecomes (seen w book) (seen (steps.V w book l k s given fresh b outs holds served) book) l (concluded (seen_link w.slots k) (seen_way (used_on (length u.asks.text) k.ask)) outs.reply None)
  concludes u = steps.quiet_becomes w book l k s given fresh b outs holds served apart (concluded (seen_link w.slots k) (seen_way (used_on (length u.asks.text) k.ask)) outs.reply None) u.quiet (same_node u.core u.follow)
      (steps.here_client w book l k s given fresh b outs holds served u.asks.text u.rest plain u.is u.asks.begins)

  replies : (request : Request (List ℕ)) → rows.IsQuiet (seen_node s) request → Uses request → Event
  replies request quiet u = event (ServerRow.replies (record {
    client = plain;
    request = request;
    uses = steps.uses_of w book l k s given fresh b outs holds served None held u.words u.rest u.asks request u.kind;
    quiet = quiet;
    reply = outs.reply;
    becomes = becomes request u;
  })) u.quiet

  -- what begins no transaction leaves none open
  leads_alone : (master : Bool) (words : List (List ℕ)) (rest : List ℕ) (a : requests.Asks (unread k.ask) words rest) → BeginsNone words → Leads master (open_on w.slots k) a.text None
  leads_alone master words rest a begins_none = subst (λ (o : Option Transaction). Leads master o a.text None) (sym held)
      (record { words = words; request = a.request; to = leads_none (coming (not master) words) a.text (λ e. begins_none (come_by (not master) words nests e)) })

  -- .. and each of its effects is done alone
  has_singles : (words : List (List ℕ)) (rest : List ℕ) (a : requests.Asks (unread k.ask) words rest) (reply : Tree) (effects : List Effect) → HasPlan false s.node.core.held words given reply effects
      → HasEffects (offset_limit - s.node.core.lineage.stream.offset) (open_on w.slots k) a.text s.node.core.held given (singles effects)
  has_singles words rest a reply effects plan = subst (λ (o : Option Transaction). HasEffects (offset_limit - s.node.core.lineage.stream.offset) o a.text s.node.core.held given (singles effects)) (sym held)
      (record { words = words; request = a.request; reply = reply; effects = effects; plan = plan; alone = refl })

  answers : s.node.core.master ≡ false → (u : Uses Command) → BeginsNone u.words → Event
  answers replica u begins_none = event (ServerRow.answers (record {
    client = plain;
    replica = replica;
    uses = steps.uses_of w book l k s given fresh b outs holds served None held u.words u.rest u.asks Command u.kind;
    transaction = None;
    leads = leads_alone false u.words u.rest u.asks begins_none;
    reply = outs.reply;
    becomes = concludes u;
  })) u.quiet

  greets : Says outs.reply Plain → Uses Handshake → Event
  greets says u = event (ServerRow.greets (record {
    client = plain;
    uses = steps.uses_of w book l k s given fresh b outs holds served None held u.words u.rest u.asks Handshake u.kind;
    reply = outs.reply;
    plain = says;
    becomes = becomes Handshake u;
  })) u.quiet

  refuses : (query : Option (List ℕ × ℕ)) → s.node.core.master ≡ false → Says outs.reply Refusal → Uses (Psync query) → Event
  refuses query alone says u = event (ServerRow.refuses (record {
    client = plain;
    replica = alone;
    query = query;
    uses = steps.uses_of w book l k s given fresh b outs holds served None held u.words u.rest u.asks (Psync query) u.kind;
    reply = outs.reply;
    refusal = says;
    becomes = becomes (Psync query) u;
  })) u.quiet

  passes_limit : (effects : List Effect) (reply : Tree) → s.node.core.master ≡ true → offset_limit < offset_behind effects s.node.core → (u : Uses Command) → BeginsNone u.words → HasPlan false s.node.core.held u.words given reply effects → Event
  passes_limit effects reply master past u begins_none plan = event (ServerRow.passes_limit (record {
    client = plain;
    master = master;
    uses = steps.uses_of w book l k s given fresh b outs holds served None held u.words u.rest u.asks Command u.kind;
    effects = singles effects;
    of_request = has_singles u.words u.rest u.asks reply effects plan;
    beyond = subst (λ (t : List ℕ). offset_limit < s.node.core.lineage.stream.offset + length t) (sym (single_texts effects)) past;
    transaction = None;
    leads = leads_alone true u.words u.rest u.asks begins_none;
    reply = outs.reply;
    becomes = concludes u;
  })) u.quiet

  -- A master's stream grows by effects each of which is a group of its own.
  record GrowsSingly (effects : List Effect) (left : Dataset) (backlog : List ℕ) : Type 0 where
    good : All IsGoodEffect effects
    leads : apply_all effects s.node.core.held ≡ Some left
    within : s.node.core.lineage.stream.offset + length (texts effects) ≤ offset_limit
    last_bytes : EndsAs s.node.core.lineage.stream.held (texts effects) backlog
    node : seen_node (behind s b outs) ≡ record (seen_node s) { held = left; offset = s.node.core.lineage.stream.offset + length (texts effects); backlog = backlog }
    fed : FedTo outs.grown s.node outs.fed
    grown_is : outs.grown ≡ texts effects
    closed : outs.closed ≡ []
    unused : outs.used ≡ None

  runs_singly : (words : List (List ℕ)) (rest : List ℕ) (a : requests.Asks (unread k.ask) words rest) (effects : List Effect) (reply : Tree) (left : Dataset) (backlog : List ℕ) → s.node.core.master ≡ true → kind_of words ≡ command → BeginsNone words
      → HasPlan false s.node.core.held words given reply effects → end_of b k.name ≡ Some (client rest) → GrowsSingly effects left backlog → Event
  runs_singly words rest a effects reply left backlog master kind begins_none plan is g =
      let same : texts effects ≡ group_texts (singles effects) = sym (single_texts effects) in
      steps.runs w book l k s given fresh b outs holds served apart
      (steps.uses_of w book l k s given fresh b outs holds served None held words rest a Command (subst (λ z. language.Asks z Command) (sym kind) refl))
      (singles effects) None left backlog plain master (record {
        effects = has_singles words rest a reply effects plan;
        leads = leads_alone true words rest a begins_none;
        link = steps.here_client w book l k s given fresh b outs holds served a.text rest plain is a.begins;
      }) (record {
        good = single_good effects g.good;
        leads = single_applied effects s.node.core.held ∙ g.leads;
        within = subst (λ (t : List ℕ). s.node.core.lineage.stream.offset + length t ≤ offset_limit) same g.within;
        last_bytes = subst (λ (t : List ℕ). EndsAs s.node.core.lineage.stream.held t backlog) same g.last_bytes;
        node = g.node ∙ ap (λ (t : List ℕ). record (seen_node s) { held = left; offset = s.node.core.lineage.stream.offset + length t; backlog = backlog }) same;
        fed = g.fed;
        grown_is = g.grown_is ∙ same;
        closed = g.closed;
        unused = g.unused;
      })

  -- A command that changes nothing: a master grows by nothing.
  unchanged : (reply : Tree) → (u : Uses Command) → BeginsNone u.words → (s.node.core.master ≡ true → HasPlan false s.node.core.held u.words given reply []) → outs.closed ≡ [] → kind_of u.words ≡ command → Event
  unchanged reply u begins_none plan closed kind = go s.node.core.master refl
    where
      go : (c : Bool) → s.node.core.master ≡ c → Event
      go false e = answers e u begins_none
      go true e =
          let place : s.node.core.lineage.stream.offset ≡ s.node.core.lineage.stream.offset + 0 = omega arith in
          let countable = window.countable in
          runs_singly u.words u.rest u.asks [] reply s.node.core.held s.node.core.lineage.stream.held e kind begins_none (plan e) u.is (record {
            good = All-nil IsGoodEffect;
            leads = refl;
            within = omega (arith, countable);
            last_bytes = ([], append-nil s.node.core.lineage.stream.held);
            node = same_node u.core u.follow ∙ ap (λ z. record (seen_node s) { offset = z }) place;
            fed = subst (λ z. FedTo z s.node outs.fed) (sym u.quiet.none) u.quiet.fed;
            grown_is = u.quiet.none;
            closed = closed;
            unused = u.quiet.unused;
          })

  kind_asks : (words : List (List ℕ)) (kind : Kind) (request : Request (List ℕ)) → kind_of words ≡ kind → language.Asks kind request → language.Asks (kind_of words) request
  kind_asks words kind request e a = subst (λ z. language.Asks z request) (sym e) a

  special_step : (words : List (List ℕ)) (rest : List ℕ) (asks : requests.Asks (unread k.ask) words rest) → is_special (asked words) ≡ true → b.core ≡ s.node.core → b.follow ≡ s.node.follow → end_of b k.name ≡ Some (client rest) → IsQuietStep → outs.closed ≡ []
      → Event
  special_step words rest asks e core follow is quiet closed =
      let x = special (asked words) e in
      let kind : kind_of words ≡ command = ap kind_by x.1.0 ∙ x.1.1.0 in
      unchanged (server_reply x.0) (record { words = words; rest = rest; asks = asks; kind = kind_asks words command Command kind refl; core = core; follow = follow; is = is; quiet = quiet })
      (no_multi_there words x.0 x.1.0) (λ master. special_plan words given s.node.core.held x.0 x.1.0 x.1.1.1) closed kind

  -- ---- a request that is answered
  module _ (r : row.ServesClient s.node k.name (unread k.ask) given b outs) where
    unused : outs.used ≡ None
    unused = ap (λ (o : OutsState). o.used) r.outs_are

    closed : outs.closed ≡ []
    closed = ap (λ (o : OutsState). o.closed) r.outs_are

    grown_is : outs.grown ≡ r.out.grown
    grown_is = ap (λ (o : OutsState). o.grown) r.outs_are

    said : outs.reply ≡ r.out.said
    said = ap (λ (o : OutsState). o.reply) r.outs_are

    quiet_of : r.out.grown ≡ [] → IsQuietStep
    quiet_of none = record { fed = subst (λ z. FedTo z s.node outs.fed) none r.fed; closed = no_names s.node outs.closed closed; unused = unused; none = grown_is ∙ none }

    abbrev used : (request : Request (List ℕ)) (words : List (List ℕ)) → requests.Asks (unread k.ask) words r.rest → language.Asks (kind_of words) request → b.core ≡ s.node.core → r.out.grown ≡ [] → Uses request
    used request words asks kind core none = record { words = words; rest = r.rest; asks = asks; kind = kind; core = core; follow = r.leaves.follow; is = r.leaves.is; quiet = quiet_of none }

    -- its plan is carried out
    within : (words : List (List ℕ)) → requests.Asks (unread k.ask) words r.rest → IsPlain words → (reply : Tree) (effects : List Effect) → HasPlan (not s.node.core.master) s.node.core.held words given reply effects
        → offset_behind effects s.node.core ≤ offset_limit → b.core ≡ grown_by effects (left_of s.node.core words given) s.node.core → r.out.grown ≡ texts effects → r.out.said ≡ reply_text reply → Event
    within words asks plain_words reply effects plan few core grown_texts told = go s.node.core.master refl (plain_kind (asked words) plain_words.asks_no_node plan.goes_on)
      where
        -- nothing grew
        still : effects ≡ [] → (b.core ≡ s.node.core) × (r.out.grown ≡ [])
        still none = (
          core ∙ (ap (λ (es : List Effect). grown_by es (left_of s.node.core words given) s.node.core) none ∙ grown_none s.node.core (left_of s.node.core words given) window (left_none effects s.node.core.held (left_of s.node.core words given) none plan.leads)),
          grown_texts ∙ ap texts none,
        )

        go : (c : Bool) → s.node.core.master ≡ c → PlainKind (asked words) → Event
        go c e (inr ping) =
            let p = ping_plan words (not s.node.core.master) given s.node.core.held reply effects ping plan in
            let t = still p.1 in
            greets (subst (λ z. Says z Plain) (sym (said ∙ (told ∙ ap reply_text p.0))) says_pong) (used Handshake words asks (kind_asks words handshake Handshake (ap kind_by ping) refl) t.0 t.1)
        go false e (inl kind) =
            let t = still (none_on_replica (not s.node.core.master) words given s.node.core.held reply effects (ap not e) plan.planned) in
            answers e (used Command words asks (kind_asks words command Command kind refl) t.0 t.1) (plain_words.asks_no_node node.Multi)
        go true e (inl kind) =
            let mine : HasPlan false s.node.core.held words given reply effects = subst (λ c. HasPlan c s.node.core.held words given reply effects) (ap not e) plan in
            runs_singly words r.rest asks effects reply (left_of s.node.core words given) (last_of s.node.core.lineage.stream.capacity (s.node.core.lineage.stream.held ++ texts effects)) e kind (plain_words.asks_no_node node.Multi) mine r.leaves.is (record {
              good = good_effects effects s.node.core.held (left_of s.node.core words given) plan.leads plan.short;
              leads = plan.leads;
              within = few;
              last_bytes = ends_as s.node.core.lineage.stream.capacity s.node.core.lineage.stream.held (texts effects);
              node = node_is s b (filed outs s.file) (grown_by effects (left_of s.node.core words given) s.node.core) s.node.follow core r.leaves.follow;
              fed = subst (λ z. FedTo z s.node outs.fed) (sym grown_is) r.fed;
              grown_is = grown_is ∙ grown_texts;
              closed = closed;
              unused = unused;
            })

    beyond : (words : List (List ℕ)) → requests.Asks (unread k.ask) words r.rest → IsPlain words → (reply : Tree) (effects : List Effect) → HasPlan (not s.node.core.master) s.node.core.held words given reply effects
        → offset_limit < offset_behind effects s.node.core → b.core ≡ s.node.core → r.out.grown ≡ [] → Event
    beyond words asks plain_words reply effects plan past core none = go s.node.core.master refl (plain_kind (asked words) plain_words.asks_no_node plan.goes_on)
      where
        some : effects ≡ [] → ⊥
        some e = let countable = window.countable in let over : offset_limit < s.node.core.lineage.stream.offset + length (texts []) = subst (λ (es : List Effect). offset_limit < offset_behind es s.node.core) e past in omega (arith, countable, over)

        go : (c : Bool) → s.node.core.master ≡ c → PlainKind (asked words) → Event
        go c e (inr ping) = absurd (some (ping_plan words (not s.node.core.master) given s.node.core.held reply effects ping plan).1)
        go false e (inl kind) = absurd (some (none_on_replica (not s.node.core.master) words given s.node.core.held reply effects (ap not e) plan.planned))
        go true e (inl kind) = passes_limit effects reply e past (used Command words asks (kind_asks words command Command kind refl) core none) (plain_words.asks_no_node node.Multi)
            (subst (λ c. HasPlan c s.node.core.held words given reply effects) (ap not e) plan)

    -- what waits is to be done or dropped, and nothing waits
    nothing_waits : (words : List (List ℕ)) → requests.Asks (unread k.ask) words r.rest → (wish : NodeAsk) → AsksNode words wish → b.core ≡ s.node.core → kind_to_node wish ≡ command → wish ≢ node.Multi → r.out.grown ≡ [] → Event
    nothing_waits words asks wish e core kind other none =
        let kind_is : kind_of words ≡ command = ap kind_by e ∙ kind in
        unchanged unknown (used Command words asks (kind_asks words command Command kind_is refl) core none) (λ m. other (one_wish wish node.Multi (sym e ∙ m))) (λ master. node_plan words given s.node.core.held wish e) closed kind_is

    quietly : (words : List (List ℕ)) → requests.Asks (unread k.ask) words r.rest → (wish : NodeAsk) → AsksNode words wish → b.core ≡ s.node.core → IsQuiet s.node.core wish r.out → Event
    quietly words asks wish e core (IsQuiet.introduces told is gives) =
        greets (subst (λ z. Says z Plain) (sym (said ∙ ap (λ (o : Output). o.said) gives)) says_ok)
        (used Handshake words asks (kind_asks words handshake Handshake (ap kind_by (e ∙ ap (λ z. Ok (ask.Node z)) is)) refl) core (ap (λ (o : Output). o.grown) gives))
    quietly words asks wish e core (IsQuiet.acknowledges offset is gives) =
        replies Ack tt (used Ack words asks (kind_asks words Kind.ack Ack (ap kind_by (e ∙ ap (λ z. Ok (ask.Node z)) is)) refl) core (ap (λ (o : Output). o.grown) gives))
    quietly words asks wish e core (IsQuiet.refuses id wanted is alone gives) =
        let q = wanted_or id wanted in
        refuses q.0 alone (subst (λ z. Says z Refusal) (sym (said ∙ ap (λ (o : Output). o.said) gives)) says_not_chained)
        (used (Psync q.0) words asks (kind_asks words (Kind.psync id wanted) (Psync q.0) (ap kind_by (e ∙ ap (λ z. Ok (ask.Node z)) is)) (q.0, q.1, refl)) core (ap (λ (o : Output). o.grown) gives))
    quietly words asks wish e core (IsQuiet.execs_nothing is gives) = nothing_waits words asks wish e core (ap kind_to_node is) (λ q. exec_is_no_multi (sym is ∙ q)) (ap (λ (o : Output). o.grown) gives)
    quietly words asks wish e core (IsQuiet.discards_nothing is gives) = nothing_waits words asks wish e core (ap kind_to_node is) (λ q. discard_is_no_multi (sym is ∙ q)) (ap (λ (o : Output). o.grown) gives)
    quietly words asks wish e core (IsQuiet.stays_master is master gives) =
        replies ReplicaOfNoOne master (used ReplicaOfNoOne words asks (kind_asks words Kind.no_one ReplicaOfNoOne (ap kind_by (e ∙ ap (λ z. Ok (ask.Node z)) is)) refl) core (ap (λ (o : Output). o.grown) gives))
    quietly words asks wish e core (IsQuiet.stays_replica host port is alone followed gives) =
        replies (ReplicaOf (language.address host port)) (alone, ap seen_host followed)
        (used (ReplicaOf (language.address host port)) words asks (kind_asks words (Kind.follow host port) (ReplicaOf (language.address host port)) (ap kind_by (e ∙ ap (λ z. Ok (ask.Node z)) is)) refl) core (ap (λ (o : Output). o.grown) gives))

    answered_by : (words : List (List ℕ)) → requests.Asks (unread k.ask) words r.rest → Answered s.node.core r.around words given b.core r.out → Event
    answered_by words asks (Answered.within p reply effects plan fits is gives) = within words asks p reply effects plan fits is (ap (λ (o : Output). o.grown) gives) (ap (λ (o : Output). o.said) gives)
    answered_by words asks (Answered.beyond p reply effects plan past is gives) = beyond words asks p reply effects plan past is (ap (λ (o : Output). o.grown) gives)
    answered_by words asks (Answered.rewritten e remakes is gives) =
        special_step words r.rest asks (ap (λ z. z || (halting_by (asked words) || is_some (question_by (asked words)))) e)
        is r.leaves.follow r.leaves.is (quiet_of (ap (λ (o : Output). o.grown) gives)) closed
    answered_by words asks (Answered.tells question e is gives) =
        special_step words r.rest asks (or_second (rewriting_by (asked words)) _ (or_second (halting_by (asked words)) _ (ap is_some e)))
        is r.leaves.follow r.leaves.is (quiet_of (ap (λ (o : Output). o.grown) gives)) closed
    answered_by words asks (Answered.keeps_role wish e quiet is) = quietly words asks wish e is quiet

    skipped : requests.AsksNothing (unread k.ask) r.rest → b.core ≡ s.node.core → r.out ≡ no_output → Event
    skipped asks core gives =
        let q = quiet_of (ap (λ (o : Output). o.grown) gives) in
        let none : outs.reply ≡ [] = said ∙ ap (λ (o : Output). o.said) gives in
        event (ServerRow.skips (record {
          uses = steps.uses_none w book l k s given fresh b outs holds served r.rest asks;
          becomes = steps.quiet_becomes w book l k s given fresh b outs holds served apart (record (seen_link w.slots k) { ask = seen_way (used_on (length asks.text) k.ask) }) q (same_node core r.leaves.follow)
              (steps.here_answered w book l k s given fresh b outs holds served asks.text r.rest plain held r.leaves.is asks.begins
              ∙ (ap (answered (seen_link w.slots k) (seen_way (used_on (length asks.text) k.ask))) none ∙ steps.answered_nothing w book l k s given fresh b outs holds served (seen_way (used_on (length asks.text) k.ask))));
        })) q

    pub serves : Event
    serves = go r.served
      where
        go : Served s.node.core r.around (unread k.ask) given b.core r.rest r.out → Event
        go (Served.request words asks a) = answered_by words asks a
        go (Served.nothing asks is gives) = skipped asks is gives

  -- ---- a client asks that the program end
  pub halts : row.Halts s.node k.name (unread k.ask) b outs → Event
  halts r = special_step r.asks.words r.rest r.asks.asks
      (or_second (rewriting_by (asked r.asks.words)) _ (ap (λ z. z || is_some (question_by (asked r.asks.words))) r.asks.halting))
      r.core r.leaves.follow r.leaves.is
      (record { fed = ap (λ (o : OutsState). o.fed) r.outs_are; closed = no_names s.node outs.closed (ap (λ (o : OutsState). o.closed) r.outs_are); unused = ap (λ (o : OutsState). o.used) r.outs_are; none = ap (λ (o : OutsState). o.grown) r.outs_are })
      (ap (λ (o : OutsState). o.closed) r.outs_are)

  -- ---- the link ends
  pub closes : row.Closes s.node k.name (unread k.ask) b outs → Event
  closes r = go r.ends
    where
      quiet : IsQuietStep
      quiet = record { fed = ap (λ (o : OutsState). o.fed) r.outs_are; closed = no_names s.node outs.closed (ap (λ (o : OutsState). o.closed) r.outs_are); unused = ap (λ (o : OutsState). o.used) r.outs_are; none = ap (λ (o : OutsState). o.grown) r.outs_are }

      gone : LinkBecomes (seen w book) (seen (steps.V w book l k s given fresh b outs holds served) book) l (history.shut true (history.told (seen_link w.slots k) outs.reply))
      gone = steps.quiet_becomes w book l k s given fresh b outs holds served apart (history.shut true (history.told (seen_link w.slots k) outs.reply)) quiet (same_node r.core r.follow) (steps.here_shut w book l k s given fresh b outs holds served r.shut.is)

      go : row.Ends (unread k.ask) r.last → Event
      go (row.Ends.doomed fault d last) = event (ServerRow.faults (record { client = plain; doomed = doomed_by (unread k.ask) fault d; reply = outs.reply; becomes = gone })) quiet
      go (row.Ends.quit words rest asks q last) = event (ServerRow.quits (record {
        client = plain;
        uses = steps.uses_of w book l k s given fresh b outs holds served None held words rest asks Quit (kind_asks words quit Quit (quit_kind (asked words) q) refl);
        reply = outs.reply;
        becomes = gone;
      })) quiet

  -- ---- a transaction begins
  pub begins : row.Begins s.node k.name (unread k.ask) b outs → Event
  begins r = go s.node.core.master refl
    where
      quiet : IsQuietStep
      quiet = record { fed = ap (λ (o : OutsState). o.fed) r.outs_are; closed = no_names s.node outs.closed (ap (λ (o : OutsState). o.closed) r.outs_are); unused = ap (λ (o : OutsState). o.used) r.outs_are; none = ap (λ (o : OutsState). o.grown) r.outs_are }

      fresh_one : Option Transaction
      fresh_one = Some (record { queued = []; marked = false })

      uses : rows.Uses minired (seen_link w.slots k) Command
      uses = steps.uses_of w book l k s given fresh b outs holds served None held r.words r.rest r.asks Command (kind_asks r.words command Command (ap kind_by r.wish) refl)

      leads : (master : Bool) → Leads master (open_on w.slots k) r.asks.text fresh_one
      leads master = subst (λ (o : Option Transaction). Leads master o r.asks.text fresh_one) (sym held)
          (record { words = r.words; request = r.asks.request; to = subst (λ z. LeadsTo (coming_by (not master) z) None r.asks.text fresh_one) (sym r.wish) refl })

      link : seen_link (steps.V w book l k s given fresh b outs holds served).slots (steps.m w book l k s given fresh b outs holds served) ≡ concluded (seen_link w.slots k) uses.left outs.reply fresh_one
      link = steps.here_waiting w book l k s given fresh b outs holds served begun r.asks.text r.rest plain (apart.up ∙ served.up) r.leaves.is r.asks.begins

      go : (c : Bool) → s.node.core.master ≡ c → Event
      go false e = event (ServerRow.answers (record {
        client = plain;
        replica = e;
        uses = uses;
        transaction = fresh_one;
        leads = leads false;
        reply = outs.reply;
        becomes = steps.quiet_becomes w book l k s given fresh b outs holds served apart (concluded (seen_link w.slots k) uses.left outs.reply fresh_one) quiet (same_node r.core r.leaves.follow) link;
      })) quiet
      go true e = steps.runs_nothing w book l k s given fresh b outs holds served apart uses fresh_one plain e (record { effects = has_singles r.words r.rest r.asks unknown [] (node_plan r.words given s.node.core.held node.Multi r.wish); leads = leads true; link = link })
          quiet (same_node r.core r.leaves.follow) (ap (λ (o : OutsState). o.closed) r.outs_are)
