-- A tick, as histories see it.
use Rattle.std.proofs.Common.{◌≡◌, ◌+◌, ◌-◌, ◌≤◌, ℕ, ℤ, List, [], ◌∷◌, ◌++◌, Bool, true, false, cond, Option, None, Some, length, length-append, take, map, refl, sym, ap, subst, ◌∙◌, arith, All}
use Rattle.std.specs.Prelude.{slice_get, slice_set, nat_le}
use Rattle.std.specs.Option.{option_map}
use Rattle.std.proofs.lemmas.Bool.{leb-true}
use Rattle.std.proofs.lemmas.Option.{slice_get-map}
use Rattle.std.proofs.lemmas.List.Elements.{All-nil, All-cons, All-head, All-tail, All-append}
use Rattle.mr_links.specs.declared.link_id.LinkId.{LinkId}
use Rattle.mr_map.specs.Bytes.{Bytes}
use Rattle.mr_resp.specs.Usual.{commands-words}
use Rattle.mr_effect.specs.Spelling.{text, texts, size, words, IsShort}
use Rattle.mr_effect.specs.declared.effect.Effect.{Effect}
use Rattle.mr_effect.specs.declared.effect.Effect.TheVariants as effect
use Rattle.mr_data.specs.Due.{due, most_deleted, within}
use Rattle.mr_data.specs.declared.given.Given.{Given}
use Rattle.mr_groups.specs.Groups.{group_texts, singles}
use Rattle.mr_groups.proofs.Runs.{single_texts}
use Rattle.mr_repl.specs.Backlog.{IsWindow, last_of}
use Rattle.mr_node_links.specs.Replicas.{is_named}
use Rattle.mr_node_output.specs.Outs.{OutsState, no_outs}
use Rattle.mr_node_spec.specs.State.{Core, NodeState}
use Rattle.mr_node_spec.specs.Growing.{FedTo, grown_by}
use Rattle.mr_node_spec.specs.TimeRows.{TickRow, room_in, doomed}
use Rattle.mr_node_spec.specs.TimeRows as row
use Rattle.law_protocol.specs.History.{Book}
use Rattle.law_protocol.specs.Node.{EndsAs}
use Rattle.law_protocol.specs.World as history
use Rattle.law_protocol.specs.World.{hears, told_if}
use Rattle.law_protocol.specs.Event as events
use Rattle.law_protocol.specs.Changing.Unless.{acts}
use Rattle.law_protocol.specs.Rows.{Ticks}
use Rattle.law_minired.specs.Minired.{minired}
use Rattle.law_minired.specs.Changes.{IsDue}
use Rattle.law_refinement.specs.Way.{sent_on}
use Rattle.law_refinement.specs.State.{Link, Slot, WorldState}
use Rattle.law_refinement.specs.Seeing.{seen, seen_node, open_at, link_with, seen_link, seen_follow, seen_phase}
use Rattle.law_refinement.specs.Books.{IsBook}
use Rattle.law_refinement.specs.Carrying.{behind, filed, reached, booked_as, said_on, said_by, ticked}
use Rattle.law_refinement.specs.Events.{IsEvent, Holds, IsRunning, TickStopsAreRows, TicksAreRows}
use Rattle.law_refinement.proofs.Seen.{put_at, sent_seen}
use Rattle.law_refinement.proofs.Singles.{single_folds, single_good}
use Rattle.law_refinement.proofs.Keeping.{with_history, extended_kept, extends}
use Rattle.law_refinement.proofs.Reading.{node_is, set_as, still_at}
use Rattle.law_refinement.proofs.Open.{open_stays}
use Rattle.law_refinement.proofs.Others.{KeepsEnds, kept_open, no_names, unreached, unreached_seen, fed_reached, map_there, others_there, here}
use Rattle.law_refinement.proofs.Beside.{keeps_all}
use Rattle.law_refinement.proofs.Stopping.{node_stops}
use Rattle.law_minired.proofs.GoodGroups.{good_effects}
use Rattle.law_refinement.proofs.Steps.{book_stays, map_same, ends_as}

-- ---- what a tick writes has room, and few words
within_fits : (es : List Effect) (room : ℕ) → length (texts (within room es)) ≤ room
within_fits [] room = omega arith
within_fits (e ∷ es) room = go (nat_le (size e) room) refl (within_fits es (room - size e))
  where
    go : (c : Bool) → nat_le (size e) room ≡ c → length (texts (within (room - size e) es)) ≤ room - size e → length (texts (cond c (e ∷ within (room - size e) es) [])) ≤ room
    go false q h = omega arith
    go true q h = let few = leb-true _ _ q in let all = length-append (text e) (texts (within (room - size e) es)) in omega (arith, few, all, h)

within_short : (es : List Effect) (room : ℕ) → All IsShort es → All IsShort (within room es)
within_short [] room h = All-nil IsShort
within_short (e ∷ es) room h = go (nat_le (size e) room) (within_short es (room - size e) (All-tail IsShort e es h))
  where
    go : (c : Bool) → All IsShort (within (room - size e) es) → All IsShort (cond c (e ∷ within (room - size e) es) [])
    go false k = All-nil IsShort
    go true k = All-cons IsShort e (within (room - size e) es) (All-head IsShort e es h) k

del_short : (k : Bytes) → IsShort (effect.Del k)
unfolding words
del_short k = omega (arith, commands-words)

ping_short : IsShort effect.Ping
unfolding words
ping_short = omega (arith, commands-words)

dels_short : (ds : List (Bytes × ℤ)) → All IsShort (map (λ d. effect.Del d.0) ds)
dels_short [] = All-nil IsShort
dels_short (d ∷ ds) = All-cons IsShort (effect.Del d.0) (map (λ d. effect.Del d.0) ds) (del_short d.0) (dels_short ds)

-- what a tick writes is due, each effect alone
record Fits (c : Core) (given : Given) (effects : List Effect) : Type 0 where
  is_due : IsDue (room_in c) c.held given (singles effects)
  few : length (texts effects) ≤ room_in c
  short : All IsShort effects

fits_within : (c : Core) (given : Given) (effects es : List Effect) → IsDue (room_in c) c.held given (singles effects) → All IsShort es → effects ≡ within (room_in c) es → Fits c given effects
fits_within c given effects es is_due short is = record {
  is_due = is_due;
  few = subst (λ (xs : List Effect). length (texts xs) ≤ room_in c) (sym is) (within_fits es (room_in c));
  short = subst (λ (xs : List Effect). All IsShort xs) (sym is) (within_short es (room_in c) short);
}

fits_of : (a : NodeState) (given : Given) (effects : List Effect) (mark : Option ℤ) → row.Beats a given.now effects mark → Fits a.core given effects
fits_of a given effects mark (row.Beats.cut over is m) = fits_within a.core given effects (doomed given.now a.core.held) (IsDue.deletes (ap singles is)) (dels_short (take most_deleted (due given.now a.core.held))) is
fits_of a given effects mark (row.Beats.marks all none is m) = fits_within a.core given effects (doomed given.now a.core.held) (IsDue.deletes (ap singles (is ∙ sym all))) (dels_short (take most_deleted (due given.now a.core.held))) (is ∙ sym all)
fits_of a given effects mark (row.Beats.beats all some passed is m) = fits_within a.core given effects (doomed given.now a.core.held ++ effect.Ping ∷ []) (IsDue.beats (ap singles is))
    (All-append IsShort (doomed given.now a.core.held) (effect.Ping ∷ []) (dels_short (take most_deleted (due given.now a.core.held))) (All-cons IsShort effect.Ping [] ping_short (All-nil IsShort))) is
fits_of a given effects mark (row.Beats.waits all waiting is m) = fits_within a.core given effects (doomed given.now a.core.held) (IsDue.deletes (ap singles (is ∙ sym all))) (dels_short (take most_deleted (due given.now a.core.held))) (is ∙ sym all)
fits_of a given effects mark (row.Beats.alone all none passed is m) = fits_within a.core given effects (doomed given.now a.core.held) (IsDue.deletes (ap singles (is ∙ sym all))) (dels_short (take most_deleted (due given.now a.core.held))) (is ∙ sym all)

module _ (w : WorldState) (book : Book minired) (n : ℕ) (s : Slot) (given : Given) (b : NodeState) (outs : OutsState) (holds : Holds w book) (runs : IsRunning w n s) (keeps : KeepsEnds s.node b) where
  abbrev V : WorldState
  V = ticked w n s b outs

  event : (new_book : Book minired) → IsBook V.book new_book → Ticks (seen w book) (seen V new_book) n (seen_node s) given → IsEvent w book (events.Event.Tick n given) V
  event new_book kept row = record { new_book = new_book; kept = kept; row = record { node = seen_node s; found = ap (option_map seen_node) runs.at; does = acts runs.up row } }

  window : IsWindow s.node.core.lineage.stream
  window = (holds.world.nodes n s runs.at runs.up).window

  abbrev new : Link → history.Link
  new = seen_link V.slots

  -- what is open at the ends that the node serves stays
  stays : (j : ℕ) (y : Link) → slice_get w.links j ≡ Some y → is_named outs.closed y.name ≡ false → y.to ≡ n → y.serving ≡ true → open_at (Some (behind s b outs)) y.name ≡ open_at (Some s) y.name
  stays j y found named to g = kept_open w holds.world n s runs.at runs.up (behind s b outs) keeps j y found to g

  same_nodes : seen_node (behind s b outs) ≡ seen_node s → (m : ℕ) → option_map seen_node (slice_get (slice_set w.slots n (behind s b outs)) m) ≡ option_map seen_node (slice_get w.slots m)
  same_nodes e = still_at seen_node w.slots n (behind s b outs) s runs.at e

  -- ---- a master
  beats : row.Deletes s.node given.now b outs → IsEvent w book (events.Event.Tick n given) V
  beats r =
      let fits = fits_of s.node given r.effects r.mark r.beats in
      let node = holds.invariant.nodes n (seen_node s) (ap (option_map seen_node) runs.at) runs.up in
      let there = node.front.found in
      let groups : List (List Effect) = singles r.effects in
      let same : texts r.effects ≡ group_texts (singles r.effects) = sym (single_texts r.effects) in
      let grown_is : outs.grown ≡ group_texts (singles r.effects) = ap (λ (o : OutsState). o.grown) r.outs_are ∙ same in
      let unused : outs.used ≡ None = ap (λ (o : OutsState). o.used) r.outs_are in
      event (with_history book s.node.core.lineage.id (record { start = node.start; effects = (node.earlier ++ node.later) ++ groups }))
      (subst (λ u. IsBook (booked_as u w.book s.node.core.lineage.id s.node.core.lineage.stream.offset outs.grown) (with_history book s.node.core.lineage.id (record { start = node.start; effects = (node.earlier ++ node.later) ++ groups })))
      (sym unused) (extended_kept w.book book s.node.core.lineage.id outs.grown groups (record { start = node.start; effects = node.earlier ++ node.later }) holds.kept there grown_is))
      (Ticks.beats (record {
        master = r.master;
        effects = groups;
        due = fits.is_due;
        grown = record {
          good = single_good r.effects (good_effects r.effects s.node.core.held r.held r.applied fits.short);
          within = (let few = subst (λ (t : List ℕ). length t ≤ room_in s.node.core) same fits.few in let countable = window.countable in omega (arith, few, countable));
          held = r.held;
          folds = single_folds r.effects s.node.core.held ∙ r.applied;
          backlog = last_of s.node.core.lineage.stream.capacity (s.node.core.lineage.stream.held ++ texts r.effects);
          last_bytes = subst (λ (t : List ℕ). EndsAs s.node.core.lineage.stream.held t (last_of s.node.core.lineage.stream.capacity (s.node.core.lineage.stream.held ++ texts r.effects))) same
              (ends_as s.node.core.lineage.stream.capacity s.node.core.lineage.stream.held (texts r.effects));
          nodes = set_as (λ m. option_map seen_node (slice_get w.slots m)) (λ m. option_map seen_node (slice_get (slice_set w.slots n (behind s b outs)) m)) n (seen_node (behind s b outs)) _
              (put_at seen_node w.slots n (behind s b outs) s runs.at)
              (node_is s b (filed outs s.file) (record (grown_by r.effects r.held s.node.core) { mark = r.mark }) s.node.follow r.core r.follow
              ∙ ap (λ (t : List ℕ). record (seen_node s) {
                held = r.held;
                offset = s.node.core.lineage.stream.offset + length t;
                backlog = last_of s.node.core.lineage.stream.capacity (s.node.core.lineage.stream.held ++ texts r.effects);
              }) same);
          book = extends w.book book s.node.core.lineage.id groups (record { start = node.start; effects = node.earlier ++ node.later }) there;
        };
        no_links = λ j e. fed_there j ∙ ap (option_map (λ y. told_if (hears n y) y outs.grown)) e;
        links = λ j x e. fed_there j ∙ (ap (option_map (λ y. told_if (hears n y) y outs.grown)) e ∙ ap (λ z. Some (told_if (hears n x) x z)) grown_is);
      }))
    where
      fed : FedTo outs.grown s.node outs.fed
      fed = subst (λ z. FedTo z s.node outs.fed) (sym (ap (λ (o : OutsState). o.grown) r.outs_are)) r.fed

      fed_there : (j : ℕ) → option_map new (slice_get (said_on outs.link s.dialled outs.reply (map (reached n outs) w.links)) j) ≡ option_map (λ y. told_if (hears n y) y outs.grown) (option_map (seen_link w.slots) (slice_get w.links j))
      fed_there j = ap (λ z. option_map new (slice_get (said_on z s.dialled outs.reply (map (reached n outs) w.links)) j)) (ap (λ (o : OutsState). o.link) r.outs_are)
          ∙ map_there (seen_link w.slots) new (reached n outs) w.links (λ y. told_if (hears n y) y outs.grown) j
          (λ y f. fed_reached w holds.world n s runs.at runs.up (behind s b outs) outs j y f (stays j y f) fed (ap (λ (o : OutsState). o.closed) r.outs_are))

  -- ---- a replica
  module _ (alone : s.node.core.master ≡ false) (mark : Option ℤ) (is : b ≡ record s.node { core = record s.node.core { mark = mark } }) where
    same : seen_node (behind s b outs) ≡ seen_node s
    same = ap (λ (z : NodeState). seen_node (record s { node = z })) is

    still_seen : outs.fed ≡ [] → outs.closed ≡ [] → (j : ℕ) (y : Link) → slice_get w.links j ≡ Some y → new (reached n outs y) ≡ seen_link w.slots y
    still_seen fed closed j y f = unreached_seen w holds.world n s runs.at runs.up (behind s b outs) outs j y f (stays j y f) fed (no_names s.node outs.closed closed)

    -- nothing is given out
    rests : outs ≡ no_outs → IsEvent w book (events.Event.Tick n given) V
    rests e = event book (book_stays w.book book s.node outs holds.kept (ap (λ (o : OutsState). o.used) e) (ap (λ (o : OutsState). o.grown) e)) (Ticks.rests alone (record {
      nodes = same_nodes same;
      links = λ j. ap (λ z. option_map new (slice_get (said_on z s.dialled outs.reply (map (reached n outs) w.links)) j)) (ap (λ (o : OutsState). o.link) e)
          ∙ (map_there (seen_link w.slots) new (reached n outs) w.links (λ y. y) j (λ y f. still_seen (ap (λ (o : OutsState). o.fed) e) (ap (λ (o : OutsState). o.closed) e) j y f)
          ∙ map_same (option_map (seen_link w.slots) (slice_get w.links j)));
      book = λ i. refl;
    }))

    acknowledges : (l : LinkId) → row.IsStreaming s.node l → (bytes : List ℕ) → outs ≡ record no_outs { link = Some l; reply = bytes } → IsEvent w book (events.Event.Tick n given) V
    acknowledges l st bytes e =
        let h = holds.world.followers n s l st.reader runs.at runs.up st.found in
        let quiet : (i : ℕ) (y : Link) → slice_get w.links i ≡ Some y → reached n outs y ≡ y = λ i y f. unreached w holds.world n s runs.at runs.up outs (ap (λ (o : OutsState). o.fed) e) (no_names s.node outs.closed (ap (λ (o : OutsState). o.closed) e)) i y f in
        let there : slice_get (map (reached n outs) w.links) s.dialled ≡ Some h.link = slice_get-map (reached n outs) w.links s.dialled ∙ (ap (option_map (reached n outs)) h.found ∙ ap (λ z. Some z) (quiet s.dialled h.link h.found)) in
        let links : said_on outs.link s.dialled outs.reply (map (reached n outs) w.links) ≡ slice_set (map (reached n outs) w.links) s.dialled (record h.link { ask = sent_on outs.reply h.link.ask }) =
        ap (λ z. said_on z s.dialled outs.reply (map (reached n outs) w.links)) (ap (λ (o : OutsState). o.link) e) ∙ ap (λ z. said_by z s.dialled outs.reply (map (reached n outs) w.links)) there in
        event book (book_stays w.book book s.node outs holds.kept (ap (λ (o : OutsState). o.used) e) (ap (λ (o : OutsState). o.grown) e)) (Ticks.acknowledges (record {
          replica = alone;
          l = s.dialled;
          follow = ap (seen_follow s.dialled) st.found ∙ ap (λ z. Some (record { link = s.dialled; phase = seen_phase z })) st.streams;
          link = seen_link w.slots h.link;
          found = ap (option_map (seen_link w.slots)) h.found;
          bytes = outs.reply;
          becomes = record {
            nodes = same_nodes same;
            links = (
              ap (λ z. option_map new (slice_get z s.dialled)) links ∙ (here (seen_link w.slots) new (reached n outs) w.links s.dialled (record h.link { ask = sent_on outs.reply h.link.ask }) h.link h.found
                  ∙ (ap (λ o. Some (link_with o (record h.link { ask = sent_on outs.reply h.link.ask }))) (open_stays w.slots n s (behind s b outs) runs.at h.link (kept_open w holds.world n s runs.at runs.up (behind s b outs) keeps s.dialled h.link h.found))
                  ∙ ap (λ z. Some (record (seen_link w.slots h.link) { ask = z })) (sent_seen h.link.ask outs.reply (holds.world.asks s.dialled h.link h.found)))),
              λ j ne. ap (λ z. option_map new (slice_get z j)) links ∙ (others_there (seen_link w.slots) new (reached n outs) w.links s.dialled (record h.link { ask = sent_on outs.reply h.link.ask }) (λ y. y) j ne
                  (λ y f. still_seen (ap (λ (o : OutsState). o.fed) e) (ap (λ (o : OutsState). o.closed) e) j y f)
                  ∙ map_same (option_map (seen_link w.slots) (slice_get w.links j))),
            );
            book = λ i. refl;
          };
        }))

    replica_rests : row.Rests s.node given.now mark outs → IsEvent w book (events.Event.Tick n given) V
    replica_rests (row.Rests.marks none m e) = rests e
    replica_rests (row.Rests.acknowledges l st passed m e) = acknowledges l st _ e
    replica_rests (row.Rests.waits waiting m e) = rests e
    replica_rests (row.Rests.apart none passed m e) = rests e

  pub tick_row : TickRow s.node given.now b outs → IsEvent w book (events.Event.Tick n given) V
  tick_row (TickRow.deletes up r) = beats r
  tick_row (TickRow.rests up alone mark r is) = replica_rests alone mark is r

keeps_by : (a : NodeState) (now : ℤ) (b : NodeState) (outs : OutsState) → TickRow a now b outs → KeepsEnds a b
keeps_by a now b outs (TickRow.deletes up r) = keeps_all a b (ap (λ (z : Core). z.up) r.core) r.ends
keeps_by a now b outs (TickRow.rests up alone mark r is) = keeps_all a b (ap (λ (z : NodeState). z.core.up) is) (ap (λ (z : NodeState). z.ends) is)

pub ticks : TicksAreRows
ticks w book n s given b outs holds runs r = tick_row w book n s given b outs holds runs (keeps_by s.node given.now b outs r) r

pub tick_stops : TickStopsAreRows
tick_stops w book n s given b holds runs down = record {
  new_book = book;
  kept = holds.kept;
  row = record {
    node = seen_node s;
    found = ap (option_map seen_node) runs.at;
    does = acts runs.up (Ticks.stops (node_stops w holds.world book n s b runs.at down));
  };
}
