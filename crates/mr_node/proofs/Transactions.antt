-- From what the parts of a step do, where a transaction is open, to the step's row.
use Rattle.std.proofs.Common.{◌≡◌, ◌++◌, ℕ, List, Bool, true, not, drop, take, Some, refl, sym, ap, subst, ◌∙◌}
use Rattle.std.proofs.lemmas.List.{append_cancel_right, take-append-drop}
use Rattle.mr_links.specs.declared.link_id.LinkId.{LinkId}
use Rattle.mr_resp.specs.Replies.{Tree}
use Rattle.mr_resp.specs.declared.reply.Reply.{Reply}
use Rattle.mr_resp.specs.ReplyView.{view}
use Rattle.mr_resp.specs.Request.{IsRequest}
use Rattle.mr_resp.specs.Usual.{usual}
use Rattle.mr_data.specs.declared.given.Given.{Given}
use Rattle.mr_cmd_node.specs.declared.node_ask.NodeAsk.TheVariants as node
use Rattle.mr_cmd_shared.specs.Answered.{done}
use Rattle.mr_commands.proofs.Comings.{by_quit}
use Rattle.mr_commands.specs.Transactions.{Coming, waits, marks, nests, drops, ends, quits as leaves, coming, queued, nested, aborted, IsWithin}
use Rattle.mr_commands.specs.declared.transactions.Within.{Within}
use Rattle.mr_commands.specs.declared.transactions.Within.TheVariants as within
use Rattle.mr_node_links.specs.State.{CanWait, Transaction, as_marked, begun, put_end, with_text}
use Rattle.mr_node_links.specs.State.EndState.{client, waiting}
use Rattle.mr_node_links.proofs.Places.{get_other, get_put}
use Rattle.mr_node_output.specs.Outs.{no_outs}
use Rattle.mr_node_spec.specs.State.{Core, NodeState, end_of}
use Rattle.mr_node_spec.specs.Ends.{Leaves}
use Rattle.mr_node_spec.specs.Requests.{Asks}
use Rattle.mr_node_spec.specs.ClientRows.{ClientRow, MayLack}
use Rattle.mr_node_spec.specs.Transactions.{DropsBy, StandsBy, WithinRow, only_says}
use Rattle.mr_node_state.specs.Parts.{with_ends}
use Rattle.mr_node.specs.Parts.{Uses}
use Rattle.mr_node.specs.Reading.{Passes, Quits, Reads, Wishes}
use Rattle.mr_node.specs.Steps.{IsAt}
use Rattle.mr_node.specs.Within.{Comes, EndsWith, IsAtOpen, IsTodoWithin, KeepsAlong}
use Rattle.mr_node.specs.declared.within.TodoWithin.{TodoWithin}
use Rattle.mr_node.proofs.Ends.{put_leaves}

-- ---- the text of a request
-- what so many bytes ask is asked by these bytes
pub request_at : (u : List ℕ) (used : ℕ) (words : List (List ℕ)) → Reads u used words → IsRequest usual (take used u) words
request_at u used words r =
    let whole : r.asks.text ++ drop used u ≡ take used u ++ drop used u = sym r.asks.begins ∙ sym (take-append-drop used u) in
    subst (λ (text : List ℕ). IsRequest usual text words) (append_cancel_right r.asks.text (take used u) (drop used u) whole) r.asks.request

abbrev pub asks_at : (u : List ℕ) (used : ℕ) (words : List (List ℕ)) → Reads u used words → Asks u words (drop used u)
asks_at u used words r = record { text = take used u; begins = sym (take-append-drop used u); request = request_at u used words r }

-- so it can wait
pub can_wait : (u : List ℕ) (used : ℕ) (words : List (List ℕ)) → Reads u used words → CanWait (take used u)
can_wait u used words r = (words, request_at u used words r)

pub comes_lack : (replica : Bool) (u : List ℕ) (used : ℕ) (w : Within) → Comes replica u used w → MayLack u
comes_lack replica u used w c = MayLack.asks c.words (drop used u) c.reads.asks

pub ends_lack : (replica : Bool) (t : Transaction) (u : List ℕ) (used : ℕ) (reply : Tree) → EndsWith replica t u used reply → MayLack u
ends_lack replica t u used reply e = MayLack.asks e.words (drop used u) e.reads.asks

-- ---- what it comes to
of_queue : (c : Coming) → IsWithin c within.Queue → c ≡ waits
of_queue waits h = refl
of_queue (marks told) h = absurd h
of_queue nests h = absurd h
of_queue drops h = absurd h
of_queue ends h = absurd h
of_queue leaves h = absurd h

of_mark : (c : Coming) (told : Reply) → IsWithin c (within.Mark told) → c ≡ marks (view told)
of_mark waits told h = absurd h
of_mark (marks reply) told h = ap marks (sym h)
of_mark nests told h = absurd h
of_mark drops told h = absurd h
of_mark ends told h = absurd h
of_mark leaves told h = absurd h

of_nest : (c : Coming) → IsWithin c within.Nest → c ≡ nests
of_nest waits h = absurd h
of_nest (marks told) h = absurd h
of_nest nests h = refl
of_nest drops h = absurd h
of_nest ends h = absurd h
of_nest leaves h = absurd h

of_drop : (c : Coming) → IsWithin c within.Drop → c ≡ drops
of_drop waits h = absurd h
of_drop (marks told) h = absurd h
of_drop nests h = absurd h
of_drop drops h = refl
of_drop ends h = absurd h
of_drop leaves h = absurd h

pub of_run : (c : Coming) → IsWithin c within.Run → c ≡ ends
of_run waits h = absurd h
of_run (marks told) h = absurd h
of_run nests h = absurd h
of_run drops h = absurd h
of_run ends h = refl
of_run leaves h = absurd h

-- ---- a request that ends no transaction
stands_row : (a b : NodeState) (l : LinkId) (t next : Transaction) (u : List ℕ) (given : Given) (used : ℕ) (words : List (List ℕ)) (reply : Tree) → IsAtOpen a l t u → Reads u used words
    → StandsBy (coming (not a.core.master) words) (take used u) t next reply → b ≡ with_ends a (put_end a.ends l (waiting next (drop used u))) → WithinRow a l t u given b (only_says l reply)
stands_row a b l t next u given used words reply at reads by is = WithinRow.stands (record {
  up = at.up;
  words = words;
  rest = drop used u;
  asks = asks_at u used words reads;
  next = next;
  reply = reply;
  stands = by;
  core = ap (λ (z : NodeState). z.core) is;
  leaves = put_leaves a b l (waiting next (drop used u)) is;
  outs_are = refl;
})

module _ (a b : NodeState) (l : LinkId) (t : Transaction) (u : List ℕ) (given : Given) (used : ℕ) (at : IsAtOpen a l t u) where
  pub queue_row : Comes (not a.core.master) u used within.Queue → b ≡ with_ends a (put_end a.ends l (waiting (with_text (take used u) t) (drop used u))) → WithinRow a l t u given b (only_says l queued)
  queue_row c is =
      let by = subst (λ (z : Coming). StandsBy z (take used u) t (with_text (take used u) t) queued) (sym (of_queue (coming (not a.core.master) c.words) c.is_within)) (refl, refl) in
      stands_row a b l t (with_text (take used u) t) u given used c.words queued at c.reads by is

  pub mark_row : (told : Reply) → Comes (not a.core.master) u used (within.Mark told) → b ≡ with_ends a (put_end a.ends l (waiting (as_marked t) (drop used u))) → WithinRow a l t u given b (only_says l (view told))
  mark_row told c is =
      let by = subst (λ (z : Coming). StandsBy z (take used u) t (as_marked t) (view told)) (sym (of_mark (coming (not a.core.master) c.words) told c.is_within)) (refl, refl) in
      stands_row a b l t (as_marked t) u given used c.words (view told) at c.reads by is

  pub nest_row : Comes (not a.core.master) u used within.Nest → Uses a l used b → WithinRow a l t u given b (only_says l nested)
  nest_row c uses = WithinRow.stands (record {
    up = at.up;
    words = c.words;
    rest = drop used u;
    asks = asks_at u used c.words c.reads;
    next = t;
    reply = nested;
    stands = subst (λ (z : Coming). StandsBy z (take used u) t t nested) (sym (of_nest (coming (not a.core.master) c.words) c.is_within)) (refl, refl);
    core = uses.core;
    leaves = uses.leaves (waiting t u) at.agrees.is;
    outs_are = refl;
  })

  -- an empty one
  pub pass_row : Passes u used → Uses a l used b → WithinRow a l t u given b (record no_outs { link = Some l })
  pass_row p uses = WithinRow.passes (record { up = at.up; rest = drop used u; asks = p.asks; core = uses.core; leaves = uses.leaves (waiting t u) at.agrees.is; outs_are = refl })

  -- ---- one that ends it
  pub drop_row : (reply : Tree) → EndsWith (not a.core.master) t u used reply → b.core ≡ a.core → Leaves a l b (client (drop used u)) → WithinRow a l t u given b (only_says l reply)
  drop_row reply e core left = WithinRow.drops (record {
    up = at.up;
    words = e.words;
    rest = drop used u;
    asks = asks_at u used e.words e.reads;
    reply = reply;
    drops = e.drops;
    core = core;
    leaves = left;
    outs_are = refl;
  })

  -- DISCARD
  pub discards : Comes (not a.core.master) u used within.Drop → EndsWith (not a.core.master) t u used done
  discards c = record { words = c.words; reads = c.reads; drops = subst (λ (z : Coming). DropsBy z t done) (sym (of_drop (coming (not a.core.master) c.words) c.is_within)) refl }

  -- EXEC where it was marked
  pub aborts : t.marked ≡ true → Comes (not a.core.master) u used within.Run → EndsWith (not a.core.master) t u used aborted
  aborts marked c = record { words = c.words; reads = c.reads; drops = subst (λ (z : Coming). DropsBy z t aborted) (sym (of_run (coming (not a.core.master) c.words) c.is_within)) (marked, refl) }

-- the transaction was taken out, and so many bytes are used
pub taken_out : (a b d : NodeState) (l : LinkId) (u : List ℕ) (used : ℕ) (core : Core) → b ≡ record a { core = core; ends = put_end a.ends l (client u) } → Uses b l used d → Leaves a l d (client (drop used u))
taken_out a b d l u used core is uses =
    let there = uses.leaves (client u) (ap (λ (z : NodeState). end_of z l) is ∙ get_put a.ends.open_links l (client u)) in
    record {
      is = there.is;
      others = record {
        stay = λ q ne. there.others.stay q ne ∙ (ap (λ (z : NodeState). end_of z q) is ∙ get_other a.ends.open_links l (client u) q ne);
        opened = there.others.opened ∙ ap (λ (z : NodeState). z.ends.opened) is;
      };
      follow = there.follow ∙ ap (λ (z : NodeState). z.follow) is;
    }

-- ---- where none is open
pub begins_row : (a b : NodeState) (l : LinkId) (u : List ℕ) (given : Given) (fresh : List ℕ) (used : ℕ) → IsAt a l u → Wishes u used node.Multi → b ≡ with_ends a (put_end a.ends l (waiting begun (drop used u)))
    → ClientRow a l u given fresh b (only_says l done)
begins_row a b l u given fresh used at w is = ClientRow.begins (record {
  up = at.up;
  words = w.words;
  rest = drop used u;
  asks = w.reads.asks;
  wish = w.asks;
  core = ap (λ (z : NodeState). z.core) is;
  leaves = put_leaves a b l (waiting begun (drop used u)) is;
  outs_are = refl;
})

-- ---- what is to be done, once it is known which it is
pub found_within : (replica : Bool) (u : List ℕ) (t s : TodoWithin) → t ≡ s → IsTodoWithin replica u t × KeepsAlong t u → IsTodoWithin replica u s × KeepsAlong s u
found_within replica u t s is h = subst (λ z. IsTodoWithin replica u z × KeepsAlong z u) is h

-- QUIT
of_quit : (c : Coming) → IsWithin c within.Quit → c ≡ leaves
of_quit waits h = absurd h
of_quit (marks told) h = absurd h
of_quit nests h = absurd h
of_quit drops h = absurd h
of_quit ends h = absurd h
of_quit leaves h = refl

pub quits_within : (replica : Bool) (u : List ℕ) (used : ℕ) → Comes replica u used within.Quit → Quits u
quits_within replica u used c = record { words = c.words; rest = drop used u; asks = c.reads.asks; quit = by_quit replica c.words (of_quit (coming replica c.words) c.is_within) }
