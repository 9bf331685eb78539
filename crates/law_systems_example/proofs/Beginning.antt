-- Servers begin, and the second asks itself to follow the first.
use Rattle.std.proofs.Common.{◌≡◌, ◌≢◌, ◌+◌, ◌<◌, ◌≤◌, ◌++◌, ℕ, List, [], ◌∷◌, Bool, true, false, cond, Option, None, Some, Ok, codes, length, refl, sym, ap, subst, ◌∙◌, arith, lit<}
use Rattle.std.specs.Fmt.{decimal}
use Rattle.std.specs.Ordering.{eq_by_cmp}
use Rattle.std.specs.FinMap.{empty, get, get-empty, get-remove}
use Rattle.std.proofs.lemmas.Fmt.{length-decimal-le}
use Rattle.law_refinement.proofs.Lines.{AreShort}
use Rattle.mr_links.specs.LinkId.{id_cmp, link_id}
use Rattle.mr_links.specs.declared.link_id.LinkId.{LinkId}
use Rattle.mr_links.proofs.LinkRows.{ids_total}
use Rattle.mr_keyspace.specs.Dataset.{Dataset}
use Rattle.mr_data.specs.declared.given.Given.{Given}
use Rattle.mr_repl.specs.Backlog.{usual_backlog}
use Rattle.mr_repl.specs.ReplId.{IsId}
use Rattle.mr_repl.specs.Lineage as lineage
use Rattle.mr_node_links.specs.State.{EndState, full, opened_as, put_end, streams, unread_in}
use Rattle.mr_node_links.specs.State.EndState.{client, upstream}
use Rattle.mr_node_links.specs.Replicas.{Lists, shut_where}
use Rattle.mr_node_links.proofs.Naming.{gone_lists, put_lists}
use Rattle.mr_node_output.specs.Outs.{OutsState, no_outs}
use Rattle.mr_cmd_shared.specs.Answered.{done}
use Rattle.mr_resp.specs.Replies.{reply_text}
use Rattle.mr_resp.specs.Spelling.{array}
use Rattle.mr_node_spec.specs.State.{Core, IsNode, NodeState, end_of, started}
use Rattle.mr_node_spec.specs.Sound.{IsSound}
use Rattle.mr_node_spec.specs.LinkRows.{closed_at}
use Rattle.mr_node_spec.specs.ClientRows.{ClientRow, Demotes}
use Rattle.mr_node_state.specs.Parts.{with_ends}
use Rattle.mr_node_state.proofs.Nodes.{closed_node, obeying_node, opened_node, put_node}
use Rattle.mr_node.specs.Calls.{FitsMore}
use Rattle.mr_node.specs.Steps.{Steps}
use Rattle.mr_node.specs.declared.step.Step.TheVariants as step
use Rattle.mr_node.proofs.Linking.{feeds_client}
use Rattle.mr_node.proofs.Ends.{some_is}
use Rattle.mr_wire.specs.Peer.{localhost}
use Rattle.mr_loop.specs.Stage.{Stage}
use Rattle.mr_world.proofs.Kept.{started_sound}
use Rattle.law_systems.specs.System.{System}
use Rattle.law_systems.specs.Steps.{AsksItself, IsNew}
use Rattle.law_systems_example.proofs.Parts.{begun_as, begun_stage, first_address, first_port}
use Rattle.law_systems_example.proofs.Stages.{Stands, got, other}
use Rattle.law_systems_example.proofs.Acting.{client_steps}
use Rattle.law_systems_example.proofs.Wording.{asks_words, short_text}
use Rattle.law_systems_example.proofs.Reading.{follow_asked}

-- what a node that begins is, its ends apart
abbrev pub begun_core : ℕ → List ℕ → Dataset → Core
begun_core port id held = record { up = true; master = true; offers = true; port = port; upstream = None; mark = None; lineage = lineage.begun id usual_backlog 0; held = held }

-- .. and once it is told to follow the first server
abbrev pub told_core : ℕ → List ℕ → Core
told_core port id = record { up = true; master = false; offers = true; port = port; upstream = Some first_address; mark = None; lineage = lineage.begun id usual_backlog 0; held = empty }

no_true : false ≡ true → ⊥
no_true e = cc

-- nobody is listed where there is nobody
pub none_listed : Lists [] empty
none_listed = record {
  each = λ x. sym (ap streams (get-empty id_cmp x));
  once = λ front behind x e. absurd (no_names front behind x e);
}
  where
    no_names : (front behind : List LinkId) (x : LinkId) → [] ≡ front ++ x ∷ behind → ⊥
    no_names [] behind x e = cc
    no_names (y ∷ front) behind x e = cc

module _ (port : ℕ) (id : List ℕ) (held : Dataset) (file : List ℕ) (is : IsId id) where
  pub begun_sound : IsSound (started false port usual_backlog id held)
  begun_sound = started_sound false port usual_backlog id held is (lit< tt) (lit< tt)

  pub begun_stands : Stands (begun_core port id held) None [] 0 0 [] file (begun_as port id held file)
  begun_stands = record {
    core = refl;
    follow = refl;
    sound = begun_sound;
    opened = refl;
    listed = none_listed;
    wired = refl;
    ends = λ x above. get-empty id_cmp x;
    wires = λ x above. get-empty id_cmp x;
    connections = λ x above. get-empty id_cmp x;
    batch_is = refl;
    file_is = refl;
  }

-- ---- the second asks itself to follow the first
module _ (x : System) (port : ℕ) (id : List ℕ) (is : IsId id) (given : Given) (fresh : List ℕ) (new : IsNew x fresh) where
  abbrev link : LinkId
  link = link_id 0 0

  abbrev words : List (List ℕ)
  words = codes "REPLICAOF" ∷ localhost ∷ decimal first_port ∷ []

  abbrev at_first : NodeState
  at_first = started false port usual_backlog id empty

  abbrev opened : NodeState
  opened = record at_first { ends = opened_as at_first.ends link (client []) }

  abbrev fed : NodeState
  fed = with_ends opened (put_end opened.ends link (client (array words)))

  abbrev stepped : NodeState
  stepped = record { core = told_core port id; ends = put_end fed.ends link (client []); follow = None }

  abbrev outs : OutsState
  outs = record no_outs { link = Some link; reply = reply_text done; follows = Some first_address }

  abbrev pub asked_stage : Stage
  asked_stage = begun_stage (closed_at link stepped) []

  no_upstream : (u : List ℕ) → client u ≡ upstream → ⊥
  no_upstream u e = cc

  opened_is : IsNode opened
  opened_is = opened_node at_first link [] (begun_sound port id empty [] is).node (get-empty id_cmp link)

  end_opened : end_of opened link ≡ Some (client [])
  end_opened = got at_first.ends.open_links link (client [])

  end_fed : end_of fed link ≡ Some (client (array words))
  end_fed = got opened.ends.open_links link (client (array words))

  fed_is : IsNode fed
  fed_is = put_node opened link (client []) (client (array words)) opened_is end_opened (no_upstream []) (no_upstream (array words)) (λ e. refl)

  fed_sound : IsSound fed
  fed_sound = let i = begun_sound port id empty [] is in record { node = fed_is; window = i.window; id = i.id; second = i.second; upstream = i.upstream; reading = i.reading }

  fed_listed : Lists [] fed.ends.open_links
  fed_listed = put_lists [] opened.ends.open_links link (client (array words)) (put_lists [] at_first.ends.open_links link (client []) none_listed (sym (ap streams (get-empty id_cmp link)))) (sym (ap streams end_opened))

  told_is : IsNode (record fed { core = told_core port id })
  told_is = obeying_node fed (told_core port id) fed.ends fed_is (record { each = λ x. stays x (streams (get fed.ends.open_links x)) (sym (fed_listed.each x)); opened = refl }) refl
    where
      stays : (x : LinkId) (b : Bool) → b ≡ false → get fed.ends.open_links x ≡ shut_where b (get fed.ends.open_links x)
      stays x true e = absurd (let q : false ≡ true = sym e in cc)
      stays x false e = go (get fed.ends.open_links x)
        where
          go : (o : _) → o ≡ shut_where false o
          go None = refl
          go (Some y) = refl

  stepped_is : IsNode stepped
  stepped_is = put_node (record fed { core = told_core port id }) link (client (array words)) (client []) told_is end_fed (no_upstream (array words)) (no_upstream []) (λ e. absurd (no_true e))

  stepped_sound : IsSound stepped
  stepped_sound = let i = begun_sound port id empty [] is in record { node = stepped_is; window = i.window; id = i.id; second = i.second; upstream = lit< tt; reading = i.reading }

  short : AreShort words
  short = (lit< tt, (lit< tt, ((let d = length-decimal-le 7 first_port (lit< tt) (lit< tt) (lit< tt) in omega (arith, d)), tt)))

  demotes : Demotes fed link (array words) stepped outs
  demotes = record {
    up = refl;
    master = refl;
    words = words;
    rest = [];
    asks = asks_words words (omega arith) (omega arith) short;
    address = first_address;
    wish = follow_asked;
    port = lit< tt;
    core = refl;
    follow = refl;
    closed = fed_listed;
    ends = record {
      is = got fed.ends.open_links link (client []);
      shuts = λ x e. absurd (no_true e);
      others = λ x apart e. other fed.ends.open_links link (client []) x apart;
      opened = refl;
    };
    outs_are = refl;
  }

  row : Steps fed link given fresh stepped (Ok (step.Done outs))
  row = client_steps fed link (array words) given fresh stepped outs fed_is refl end_fed (ClientRow.demotes demotes)

  pub asks : AsksItself x (begun_as port id empty []) asked_stage []
  asks = record {
    alone = refl;
    link = link;
    opened = opened;
    opens = record { fresh = get-empty id_cmp link; generation = refl; agrees = record { is = end_opened }; node = refl };
    bytes = array words;
    fed = fed;
    feeds = feeds_client opened fed link [] (array words) opened_is end_opened refl;
    fits = fits;
    fed_sound = fed_sound;
    given = given;
    fresh = fresh;
    new = new;
    stepped = stepped;
    outs = outs;
    steps = row;
    sound = stepped_sound;
    is = refl;
    taken_are = refl;
  }
    where
      fits : FitsMore opened link (length (array words))
      fits some too =
          let same : client [] ≡ too.end = some_is (client []) too.end (sym end_opened ∙ too.found) in
          let over : full < 0 + length (array words) = subst (λ (e : EndState). full < length (unread_in e) + length (array words)) (sym same) too.over in
          let few = short_text words (omega arith) (omega arith) short in
          absurd (omega (arith, over, few))

  elsewhere : (x : LinkId) → 1 ≤ x.generation → get stepped.ends.open_links x ≡ None
  elsewhere x above =
      other fed.ends.open_links link (client []) x apart ∙ (other opened.ends.open_links link (client (array words)) x apart ∙ (other at_first.ends.open_links link (client []) x apart ∙ get-empty id_cmp x))
    where
      apart : x ≢ link
      apart same = let g : x.generation ≡ 0 = ap (λ (l : LinkId). l.generation) same in omega (arith, above, g)

  either_none : (b : Bool) (o : Option EndState) → o ≡ None → cond b None o ≡ None
  either_none true o e = refl
  either_none false o e = e

  pub asked_stands : Stands (told_core port id) None [] 1 0 [] [] asked_stage
  asked_stands = record {
    core = refl;
    follow = refl;
    sound = record { node = closed_node stepped link stepped_is; window = stepped_sound.window; id = stepped_sound.id; second = stepped_sound.second; upstream = stepped_sound.upstream; reading = tt };
    opened = refl;
    listed = gone_lists [] stepped.ends.open_links link (put_lists [] fed.ends.open_links link (client []) fed_listed (sym (ap streams end_fed)));
    wired = refl;
    ends = λ x above. get-remove ids_total stepped.ends.open_links link x ∙ either_none (eq_by_cmp id_cmp x link) (get stepped.ends.open_links x) (elsewhere x above);
    wires = λ x above. get-empty id_cmp x;
    connections = λ x above. get-empty id_cmp x;
    batch_is = refl;
    file_is = refl;
  }
