-- Links that come, are fed and go, as histories see them.
use Rattle.std.proofs.Common.{◌≡◌, ◌≢◌, ◌⊎◌, ◌+◌, ◌≤◌, inl, inr, ℕ, List, [], ◌∷◌, ◌++◌, Bool, true, false, cond, Option, None, Some, length, refl, sym, ap, subst, ◌∙◌, arith}
use Rattle.std.specs.Prelude.{slice_get, slice_set}
use Rattle.std.specs.Option.{option_map}
use Rattle.std.proofs.lemmas.List.{length-drop}
use Rattle.mr_links.specs.declared.link_id.LinkId.{LinkId}
use Rattle.mr_follower.specs.State.{FollowState, heard}
use Rattle.mr_follower.specs.Handshake.{ping_line}
use Rattle.mr_replication.specs.State.{name_of}
use Rattle.mr_node_links.specs.State.{Transaction}
use Rattle.mr_node_links.specs.State.EndState.{client, upstream}
use Rattle.mr_node_links.proofs.Naming.{at_or_other}
use Rattle.mr_node_output.specs.Outs.{OutsState}
use Rattle.mr_node_spec.specs.State.{Core, NodeState, FollowedAt, end_of}
use Rattle.mr_node_spec.specs.LinkRows.{Feeds, follow_without}
use Rattle.law_protocol.specs.Language.Request.{Handshake}
use Rattle.law_protocol.specs.Changing.Unless.{acts}
use Rattle.law_protocol.specs.World as history
use Rattle.law_protocol.specs.World.Caller.{Client, Peer}
use Rattle.law_protocol.specs.Rows as rows
use Rattle.law_minired.specs.Requests.{IsAsked}
use Rattle.law_refinement.specs.Way.{IsWay, WayState, unread, taken_on}
use Rattle.law_refinement.specs.State.{Link, Slot}
use Rattle.law_refinement.specs.Seeing.{seen_way, seen_node, open_in, open_on, link_with, seen_link, seen_follow, seen_phase}
use Rattle.law_refinement.specs.Worlds.{end_for}
use Rattle.law_refinement.specs.Carrying.{opened_link, dialled_link}
use Rattle.law_refinement.specs.Events.{OpensAreRows, OpenStopsAreRows, DialsAreRows, ServerFeedsAreRows, MasterFeedsAreRows, ServerBreaksAreRows, MasterBreaksAreRows}
use Rattle.law_refinement.proofs.Places.{set_cases, some_is}
use Rattle.law_refinement.proofs.Seen.{put_at, put_by, push_by, same_each, none_at_end, taken_seen}
use Rattle.law_refinement.proofs.Reading.{set_as, still_at}
use Rattle.law_refinement.proofs.Open.{cond_same, now_here, open_stays, same_end}
use Rattle.law_refinement.proofs.Unaccepted.{served_to}
use Rattle.law_refinement.proofs.Others.{KeepsEnds, all_seen, kept_open, served_end}
use Rattle.law_refinement.proofs.Beside.{keeps_opened, keeps_without, served_apart, without_one}
use Rattle.law_refinement.proofs.Stopping.{node_stops}
use Rattle.law_refinement.proofs.Lines.{ping_asks}

-- ---- links that come
pub opens : OpensAreRows
opens w book n s name b holds runs r = record {
  new_book = book;
  kept = holds.kept;
  row = record {
    node = seen_node s;
    found = ap (option_map seen_node) runs.at;
    does = acts runs.up (rows.Opens.opens (length w.links) (none_at_end (seen_link w.slots) w.links) (record {
      nodes = still_at seen_node w.slots n (record s { node = b }) s runs.at (ap (λ z. seen_node (record s { node = z })) r.node);
      links = set_as (λ j. option_map (seen_link w.slots) (slice_get w.links j)) (λ j. option_map new (slice_get (w.links ++ opened_link n name ∷ []) j)) (length w.links) (new (opened_link n name)) (rows.fresh_link (Client true) (Some n) [])
          (push_by (seen_link w.slots) new w.links (opened_link n name)
          (all_seen w holds.world n s runs.at runs.up (record s { node = b }) (keeps_opened s.node b name (client []) r.fresh (ap (λ (z : NodeState). z.core.up) r.node) (ap (λ (z : NodeState). z.ends) r.node))))
          (ap (λ o. link_with o (opened_link n name)) none_open);
      book = λ i. refl;
    }));
  };
}
  where
    new : Link → history.Link
    new = seen_link (slice_set w.slots n (record s { node = b }))

    none_open : open_on (slice_set w.slots n (record s { node = b })) (opened_link n name) ≡ None
    none_open = now_here w.slots n s (record s { node = b }) runs.at (opened_link n name) refl ∙ (ap (λ o. cond b.core.up (open_in o) None) r.agrees.is ∙ cond_same b.core.up None)

pub open_stops : OpenStopsAreRows
open_stops w book n s b holds runs down = record {
  new_book = book;
  kept = holds.kept;
  row = record {
    node = seen_node s;
    found = ap (option_map seen_node) runs.at;
    does = acts runs.up (rows.Opens.stops (node_stops w holds.world book n s b runs.at down));
  };
}

pub dials : DialsAreRows
dials w book n m s t name at b c outs holds runs o there up r =
    let line : outs.reply ≡ ping_line = ap (λ (z : OutsState). z.reply) r.outs_are in
    let same : seen_node (record t { node = c }) ≡ seen_node t = ap (λ z. seen_node (record t { node = z })) o.node in
    let still : (j : ℕ) → option_map seen_node (slice_get (slice_set w.slots m (record t { node = c })) j) ≡ option_map seen_node (slice_get w.slots j) = still_at seen_node w.slots m (record t { node = c }) t runs.at same in
    let put = put_at seen_node (slice_set w.slots m (record t { node = c })) n (record s { node = b; dialled = length w.links }) s there in
    record {
      new_book = book;
      kept = holds.kept;
      row = record {
        node = seen_node s;
        found = sym (still n) ∙ ap (option_map seen_node) there;
        replica = r.replica;
        waiting = ap (seen_follow s.dialled) r.alone;
        server = seen_node t;
        server_found = ap (option_map seen_node) runs.at;
        does = acts up (acts runs.up (rows.Dials.connects (record {
          link = length w.links;
          new_link = none_at_end (seen_link w.slots) w.links;
          request = outs.reply;
          asks = subst (λ z. IsAsked None z Handshake) (sym line) ping_asks;
          nodes = (put.0 ∙ ap (λ z. Some (seen_node (record s { node = z; dialled = length w.links }))) r.node, λ j ne. put.1 j ne ∙ still j);
          links = set_as (λ j. option_map (seen_link w.slots) (slice_get w.links j)) (λ j. option_map (seen_link last) (slice_get (w.links ++ new ∷ []) j)) (length w.links) (seen_link last new) (rows.fresh_link (Peer n) (Some m) outs.reply)
              (push_by (seen_link w.slots) (seen_link last) w.links new (λ j k found. ap (λ z. link_with z k) (second j k found ∙ first j k found))) (ap (λ z. link_with z new) none_open);
          book = λ i. refl;
        })));
      };
    }
  where
    -- behind the end that the server opened, and behind the one of the node that dialled
    middle : List Slot
    middle = slice_set w.slots m (record t { node = c })

    dialler : Slot
    dialler = record s { node = b; dialled = length w.links }

    last : List Slot
    last = slice_set middle n dialler

    new : Link
    new = dialled_link n name m at outs.reply

    serves : KeepsEnds t.node c
    serves = keeps_opened t.node c at (client []) o.fresh (ap (λ (z : NodeState). z.core.up) o.node) (ap (λ (z : NodeState). z.ends) o.node)

    dialled : KeepsEnds s.node b
    dialled = keeps_opened s.node b name upstream r.fresh (ap (λ (z : NodeState). z.core.up) r.node) (ap (λ (z : NodeState). z.ends) r.node)

    first : (j : ℕ) (k : Link) → slice_get w.links j ≡ Some k → open_on middle k ≡ open_on w.slots k
    first j k found = open_stays w.slots m t (record t { node = c }) runs.at k (kept_open w holds.world m t runs.at runs.up (record t { node = c }) serves j k found)

    -- an end that is there behind the first is there behind the second
    end_in : (j : ℕ) (k : Link) → slice_get w.links j ≡ Some k → k.to ≡ n → k.serving ≡ true → (held : Option Transaction) × (end_of s.node k.name ≡ Some (end_for k.streams held (unread k.ask)))
    end_in j k found to g = go (set_cases w.slots m n (record t { node = c }) s there)
      where
        go : ((n ≡ m) × (s ≡ record t { node = c })) ⊎ ((n ≢ m) × (slice_get w.slots n ≡ Some s)) → (held : Option Transaction) × (end_of s.node k.name ≡ Some (end_for k.streams held (unread k.ask)))
        go (inl p) = let e = served_end w holds.world m t runs.at runs.up j k found (to ∙ p.0) g in
            (e.0, ap (λ (z : Slot). end_of z.node k.name) p.1 ∙ serves.all k.name k.streams e.0 (unread k.ask) e.1)
        go (inr p) = served_end w holds.world n s p.1 up j k found to g

    second : (j : ℕ) (k : Link) → slice_get w.links j ≡ Some k → open_on last k ≡ open_on middle k
    second j k found = open_stays middle n s dialler there k (λ to g. let e = end_in j k found to g in same_end s dialler k.name dialled.up (dialled.all k.name k.streams e.0 (unread k.ask) e.1 ∙ sym e.1))

    opened_end : m ≡ n → end_of s.node at ≡ Some (client [])
    opened_end same = go (set_cases w.slots m n (record t { node = c }) s there)
      where
        go : ((n ≡ m) × (s ≡ record t { node = c })) ⊎ ((n ≢ m) × (slice_get w.slots n ≡ Some s)) → end_of s.node at ≡ Some (client [])
        go (inl p) = ap (λ (z : Slot). end_of z.node at) p.1 ∙ o.agrees.is
        go (inr p) = absurd (p.0 (sym same))

    none_open : open_on last new ≡ None
    none_open = open_stays middle n s dialler there new (λ to g. let e = opened_end to in same_end s dialler at dialled.up (dialled.all at false None [] e ∙ sym e))
        ∙ (now_here w.slots m t (record t { node = c }) runs.at new refl ∙ (ap (λ z. cond c.core.up (open_in z) None) o.agrees.is ∙ cond_same c.core.up None))

-- ---- the end that a link's server has is none of the link to its master, by which the node follows nobody
follows_no_client : (a : NodeState) (l : LinkId) (streams : Bool) (held : Option Transaction) (u : List ℕ) (o : Option (LinkId × FollowState)) → FollowedAt a.ends o → end_of a l ≡ Some (end_for streams held u) → name_of o ≢ Some l
follows_no_client a l streams held u None h e same = absurd (cc)
follows_no_client a l streams held u (Some f) h e same = served_apart streams held u (sym h ∙ (ap (end_of a) (some_is f.0 l same) ∙ e))

-- ---- links that are fed
pub more_left : (way : WayState) (count : ℕ) → IsWay way → way.taken + count ≤ length way.sent → (seen_way way).taken + count ≤ length (seen_way way).left
more_left way count is few = let d = length-drop way.used way.sent in let u = is.used_within in omega (arith, few, d, u)

-- what is open at an end stays there
fed_end : (a b : NodeState) (l : LinkId) (streams : Bool) (held : Option Transaction) (u bytes : List ℕ) → Feeds a l bytes b → end_of a l ≡ Some (end_for streams held u) → end_of b l ≡ Some (end_for streams held (u ++ bytes))
fed_end a b l true held u bytes r e = (r.at_replica u (record { is = e })).is
fed_end a b l false None u bytes r e = (r.at_client u (record { is = e })).is
fed_end a b l false (Some t) u bytes r e = (r.at_waiting t u (record { is = e })).is

open_for : (streams : Bool) (held : Option Transaction) (u v : List ℕ) → open_in (Some (end_for streams held u)) ≡ open_in (Some (end_for streams held v))
open_for true held u v = refl
open_for false None u v = refl
open_for false (Some t) u v = refl

pub server_feeds : ServerFeedsAreRows
server_feeds w book l k s count bytes b holds served few r =
    let way = holds.world.asks l k served.found in
    let follow : b.follow ≡ s.node.follow = r.follow (follows_no_client s.node k.name k.streams here.0 (unread k.ask) s.node.follow (holds.world.nodes k.to s served.at served.up).node.followed here.1) in
    record {
      new_book = book;
      kept = holds.kept;
      row = record {
        at = record { link = seen_link w.slots k; found = ap (option_map (seen_link w.slots)) served.found; n = k.to; to = served_to w holds.world l k served.found served.serving; serving = served.serving; node = seen_node s; node_found = ap (option_map seen_node) served.at };
        sent = more_left k.ask count way few;
        does = acts served.up (record {
          nodes = still_at seen_node w.slots k.to (record s { node = b }) s served.at
              (ap (λ (z : Core). seen_node (record s { node = record b { core = z } })) r.core ∙ ap (λ z. record (seen_node s) { follow = seen_follow s.dialled z }) follow);
          links = set_as (λ j. option_map (seen_link w.slots) (slice_get w.links j)) (λ j. option_map (seen_link after) (slice_get (slice_set w.links l fed) j)) l (seen_link after fed)
              (record (seen_link w.slots k) { ask = rows.more count (seen_way k.ask) }) (put_by (seen_link w.slots) (seen_link after) w.links l fed k served.found other_seen)
              (ap (λ o. link_with o fed) stays ∙ ap (λ z. record (seen_link w.slots k) { ask = z }) (taken_seen k.ask count way));
          book = λ i. refl;
        });
      };
    }
  where
    after : List Slot
    after = slice_set w.slots k.to (record s { node = b })

    fed : Link
    fed = record k { ask = taken_on count k.ask }

    here : (held : Option Transaction) × (end_of s.node k.name ≡ Some (end_for k.streams held (unread k.ask)))
    here = served_end w holds.world k.to s served.at served.up l k served.found refl served.serving

    runs : b.core.up ≡ s.node.core.up
    runs = ap (λ (z : Core). z.up) r.core

    stays : open_on after k ≡ open_on w.slots k
    stays = open_stays w.slots k.to s (record s { node = b }) served.at k (λ to g.
        ap (λ c. cond c (open_in (end_of b k.name)) None) runs
        ∙ ap (λ o. cond s.node.core.up o None)
        (ap open_in (fed_end s.node b k.name k.streams here.0 (unread k.ask) bytes r here.1) ∙ (open_for k.streams here.0 (unread k.ask ++ bytes) (unread k.ask) ∙ sym (ap open_in here.1))))

    other_seen : (j : ℕ) (y : Link) → j ≢ l → slice_get w.links j ≡ Some y → seen_link after y ≡ seen_link w.slots y
    other_seen j y ne found = ap (λ o. link_with o y) (open_stays w.slots k.to s (record s { node = b }) served.at y (λ to g.
        same_end s (record s { node = b }) y.name runs (r.others.stay y.name (λ n. ne (holds.world.names j l y k found served.found g served.serving to n)))))

pub master_feeds : MasterFeedsAreRows
master_feeds w book n s k name f count bytes b holds is following few r =
    let way = holds.world.tells s.dialled k is.found in
    let follow : b.follow ≡ Some (name, heard f bytes) = r.heard f following in
    record {
      new_book = book;
      kept = holds.kept;
      row = inl (record {
        at = record {
          link = seen_link w.slots k;
          found = ap (option_map (seen_link w.slots)) is.found;
          n = n;
          node = seen_node s;
          node_found = ap (option_map seen_node) is.at;
          phase = seen_phase f.phase;
          follow = ap (seen_follow s.dialled) following;
        };
        sent = more_left k.tell count way few;
        does = acts is.up (record {
          nodes = still_at seen_node w.slots n (record s { node = b }) s is.at
              (ap (λ (z : Core). seen_node (record s { node = record b { core = z } })) r.core ∙ ap (λ z. record (seen_node s) { follow = z }) (ap (seen_follow s.dialled) follow ∙ sym (ap (seen_follow s.dialled) following)));
          links = set_as (λ j. option_map (seen_link w.slots) (slice_get w.links j)) (λ j. option_map (seen_link after) (slice_get (slice_set w.links s.dialled fed) j)) s.dialled
              (seen_link after fed) (record (seen_link w.slots k) { tell = rows.more count (seen_way k.tell) })
              (put_by (seen_link w.slots) (seen_link after) w.links s.dialled fed k is.found (λ j y ne found. all_seen w holds.world n s is.at is.up (record s { node = b }) keeps j y found))
              (ap (λ o. link_with o fed) (open_stays w.slots n s (record s { node = b }) is.at k (kept_open w holds.world n s is.at is.up (record s { node = b }) keeps s.dialled k is.found))
              ∙ ap (λ z. record (seen_link w.slots k) { tell = z }) (taken_seen k.tell count way));
          book = λ i. refl;
        });
      });
    }
  where
    after : List Slot
    after = slice_set w.slots n (record s { node = b })

    fed : Link
    fed = record k { tell = taken_on count k.tell }

    up : end_of s.node name ≡ Some upstream
    up = subst (λ o. FollowedAt s.node.ends o) following (holds.world.nodes n s is.at is.up).node.followed

    keeps : KeepsEnds s.node b
    keeps = record { up = ap (λ (z : Core). z.up) r.core; all = λ q streams held v e. r.others.stay q (λ same. served_apart streams held v (sym up ∙ (ap (end_of s.node) (sym same) ∙ e))) ∙ e }

-- ---- links that go
-- who is followed stays where another link is closed
follow_stays : (a : NodeState) (d : ℕ) (l : LinkId) (streams : Bool) (held : Option Transaction) (u : List ℕ) (o : Option (LinkId × FollowState)) → FollowedAt a.ends o → end_of a l ≡ Some (end_for streams held u) → seen_follow d (follow_without l o) ≡ seen_follow d o
follow_stays a d l streams held u None h e = refl
follow_stays a d l streams held u (Some f) h e = at_or_other f.0 l (λ b. seen_follow d (cond b None (Some f)) ≡ seen_follow d (Some f))
    (λ same. absurd (served_apart streams held u (sym h ∙ (ap (end_of a) same ∙ e)))) (λ ne. refl)

pub server_breaks : ServerBreaksAreRows
server_breaks w book l k s b holds served is =
    let sound = holds.world.nodes k.to s served.at served.up in
    let here = served_end w holds.world k.to s served.at served.up l k served.found refl served.serving in
    record {
      new_book = book;
      kept = holds.kept;
      row = record {
        at = record { link = seen_link w.slots k; found = ap (option_map (seen_link w.slots)) served.found; n = k.to; to = served_to w holds.world l k served.found served.serving; serving = served.serving; node = seen_node s; node_found = ap (option_map seen_node) served.at };
        does = acts served.up (record {
          nodes = still_at seen_node w.slots k.to (record s { node = b }) s served.at
              (ap (λ z. seen_node (record s { node = z })) is ∙ ap (λ z. record (seen_node s) { follow = z }) (follow_stays s.node s.dialled k.name k.streams here.0 (unread k.ask) s.node.follow sound.node.followed here.1));
          links = put_by (seen_link w.slots) (seen_link (slice_set w.slots k.to (record s { node = b }))) w.links l (record k { serving = false }) k served.found other_seen;
          book = λ i. refl;
        });
      };
    }
  where
    other_seen : (j : ℕ) (y : Link) → j ≢ l → slice_get w.links j ≡ Some y → seen_link (slice_set w.slots k.to (record s { node = b })) y ≡ seen_link w.slots y
    other_seen j y ne found = ap (λ o. link_with o y) (open_stays w.slots k.to s (record s { node = b }) served.at y (λ to g.
        same_end s (record s { node = b }) y.name (ap (λ (z : NodeState). z.core.up) is)
        (ap (λ (z : NodeState). end_of z y.name) is ∙ without_one s.node.ends k.name y.name (λ n. ne (holds.world.names j l y k found served.found g served.serving to n)))))

gone : (name : LinkId) (f : FollowState) → follow_without name (Some (name, f)) ≡ None
gone name f = at_or_other name name (λ b. cond {A = Option (LinkId × FollowState)} b None (Some (name, f)) ≡ None) (λ same. refl) (λ ne. absurd (ne refl))

pub master_breaks : MasterBreaksAreRows
master_breaks w book n s k name f b holds is following r = record {
  new_book = book;
  kept = holds.kept;
  row = inl (record {
    at = record { link = seen_link w.slots k; found = ap (option_map (seen_link w.slots)) is.found; n = n; node = seen_node s; node_found = ap (option_map seen_node) is.at; phase = seen_phase f.phase; follow = ap (seen_follow s.dialled) following };
    does = acts is.up (record {
      nodes = set_as (λ m. option_map seen_node (slice_get w.slots m)) (λ m. option_map seen_node (slice_get (slice_set w.slots n (record s { node = b })) m)) n (seen_node (record s { node = b })) (record (seen_node s) { follow = None })
          (put_at seen_node w.slots n (record s { node = b }) s is.at)
          (ap (λ z. seen_node (record s { node = z })) r ∙ ap (λ z. record (seen_node s) { follow = seen_follow s.dialled z }) (ap (follow_without name) following ∙ gone name f));
      links = same_each (seen_link w.slots) (seen_link (slice_set w.slots n (record s { node = b }))) w.links
          (all_seen w holds.world n s is.at is.up (record s { node = b }) (keeps_without s.node b name up (ap (λ (z : NodeState). z.core.up) r) (ap (λ (z : NodeState). z.ends) r)));
      book = λ i. refl;
    });
  });
}
  where
    up : end_of s.node name ≡ Some upstream
    up = subst (λ o. FollowedAt s.node.ends o) following (holds.world.nodes n s is.at is.up).node.followed
