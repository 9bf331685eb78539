-- Nodes that begin, as histories see them; and what an event keeps.
use Rattle.std.proofs.Common.{◌≡◌, ℕ, List, [], ◌∷◌, ◌++◌, Bool, true, false, cond, Option, None, Some, ◌==◌, length, refl, sym, ap, subst, ◌∙◌}
use Rattle.std.specs.Prelude.{slice_get, slice_set, bytes_eq}
use Rattle.std.specs.Option.{option_map}
use Rattle.std.specs.FinMap.{empty}
use Rattle.std.proofs.lemmas.Option.{slice_get-map, none-some}
use Rattle.std.proofs.lemmas.Slice.Eq.{bytes_eq-Decides}
use Rattle.mr_keyspace.specs.Dataset.{Dataset}
use Rattle.mr_groups.specs.Folding.{MakesByGroups}
use Rattle.mr_groups.proofs.Runs.{makes_nothing}
use Rattle.law_protocol.specs.History.{Book, Draws, History}
use Rattle.law_protocol.specs.World as history
use Rattle.law_protocol.specs.Rows.{fresh_node}
use Rattle.law_protocol.proofs.Headline.{row_keeps}
use Rattle.law_protocol.proofs.Theorem.{nowhere_ok}
use Rattle.law_minired.specs.Minired.{minired}
use Rattle.law_minired.proofs.MiniredLaws.{minired_laws}
use Rattle.law_refinement.specs.State.{Link, Slot, BookEntry}
use Rattle.law_refinement.specs.Seeing.{seen, seen_node, open_at, link_with, seen_link}
use Rattle.law_refinement.specs.Books.{entry_of, IsKeptAs, IsBook, begun}
use Rattle.law_refinement.specs.Carrying.{shut_if, begun_slot}
use Rattle.law_refinement.specs.Events.{StartsAreRows, RestartsAreRows, EventsKeepHistories, WorldsBegin}
use Rattle.law_refinement.proofs.Seen.{put_at, push_at, none_at_end, is_seen, same_each}
use Rattle.law_refinement.proofs.Places.{push_none, push_old, some_is}
use Rattle.law_refinement.proofs.Reading.{set_as}
use Rattle.law_refinement.proofs.Open.{elsewhere, eqb_yes}
use Rattle.law_refinement.proofs.Unaccepted.{none_open, none_shuts}
use Rattle.law_refinement.proofs.Keeping.{entry_push, kept_on, is_none, with_history, set_history}

abbrev history_from : Dataset → History minired
history_from m = record { start = m; effects = [] }

abbrev entry_from : List ℕ → List ℕ → BookEntry
entry_from id start = record { id = id; start = start; texts = [] }

begun_kept : (es : List BookEntry) (book : Book minired) (id start : List ℕ) (m : Dataset) → IsBook es book → MakesByGroups start m → entry_of es id ≡ None → IsBook (begun es id start) (with_history book id (history_from m))
begun_kept es book id start m is makes none = record {
  each = λ i. subst (λ z. IsKeptAs z (with_history book id (history_from m) i)) (sym (entry_push es (entry_from id start) i))
      (kept_on (bytes_eq id i) (entry_of es i) (book i) (entry_from id start) (history_from m) (is.each i) (record { start = makes; texts_are = refl }) (λ t. ap (entry_of es) (sym ((bytes_eq-Decides id i).0 t)) ∙ none));
}

begun_draws : (es : List BookEntry) (book : Book minired) (id : List ℕ) (m : Dataset) → IsBook es book → entry_of es id ≡ None → Draws minired book (with_history book id (history_from m)) id m
begun_draws es book id m is none = record { new_id = is_none (entry_of es id) (book id) (is.each id) none; book = set_history book id (history_from m) }

-- whom a link is seen with
is_the_server : (waits : Bool) (m n : ℕ) → Some m ≡ cond {A = Option ℕ} waits None (Some n) → m ≡ n
is_the_server false m n e = some_is m n e
is_the_server true m n e = absurd (cc)

pub starts : StartsAreRows
starts w book as_replica port backlog id file holds none = record {
  new_book = with_history book id (history_from empty);
  kept = begun_kept w.book book id [] empty holds.kept makes_nothing none;
  row = record {
    node = length w.slots;
    new_node = none_at_end seen_node w.slots;
    unnamed = λ l k e q.
        let x = is_seen (seen_link w.slots) (slice_get w.links l) k e in
        let h = holds.world.servers l x.0 x.1 in
        let z : None ≡ Some h.slot = sym (push_none w.slots) ∙ (ap (slice_get w.slots) (is_the_server x.0.waits (length w.slots) x.0.to (sym q ∙ ap (λ z. z.to) (sym x.2))) ∙ h.found) in absurd (cc);
    nodes = push_at seen_node w.slots (begun_slot as_replica port backlog id empty file);
    links = same_each (seen_link w.slots) (seen_link (w.slots ++ begun_slot as_replica port backlog id empty file ∷ [])) w.links (λ j k e.
        let h = holds.world.servers j k e in
        ap (λ o. link_with (cond k.serving (open_at o k.name) None) k) (push_old w.slots (begun_slot as_replica port backlog id empty file) k.to h.slot h.found ∙ sym h.found));
    book = begun_draws w.book book id empty holds.kept none;
  };
}

-- what is open at another node's end stays
shut_seen : (slots : List Slot) (n : ℕ) (s t : Slot) (k : Link) → slice_get slots n ≡ Some s → (b : Bool) → (k.to == n) ≡ b → seen_link (slice_set slots n t) (shut_if b k) ≡ history.shut b (seen_link slots k)
shut_seen slots n s t k at true e = refl
shut_seen slots n s t k at false e = ap (λ o. link_with o k) (elsewhere slots n s t at k (λ same. let yes = eqb_yes k.to n same in let wrong : false ≡ true = sym e ∙ yes in cc))

-- .. and nothing is open on a link that waits
shut_there : (slots : List Slot) (n : ℕ) (s t : Slot) (k : Link) → slice_get slots n ≡ Some s → (k.waits ≡ true → k.serving ≡ false)
    → seen_link (slice_set slots n t) (shut_if (k.to == n) k) ≡ history.shut (history.is_to n (seen_link slots k).to) (seen_link slots k)
shut_there slots n s t k at f = go k.waits refl
  where
    go : (c : Bool) → k.waits ≡ c → seen_link (slice_set slots n t) (shut_if (k.to == n) k) ≡ history.shut (history.is_to n (cond {A = Option ℕ} c None (Some k.to))) (seen_link slots k)
    go false e = shut_seen slots n s t k at (k.to == n) refl
    go true e = ap (seen_link (slice_set slots n t)) (none_shuts k (f e) (k.to == n)) ∙ ap (λ o. link_with o k) (none_open k (f e) (slice_set slots n t) ∙ sym (none_open k (f e) slots))

pub restarts : RestartsAreRows
restarts w book n s as_replica port backlog id found kept start m holds at role none reads makes = record {
  new_book = with_history book id (history_from m);
  kept = begun_kept w.book book id start m holds.kept makes none;
  row = record {
    old = seen_node s;
    found = ap (option_map seen_node) at;
    held = m;
    restored = reads;
    nodes = set_as (λ i. option_map seen_node (slice_get w.slots i)) (λ i. option_map seen_node (slice_get (slice_set w.slots n (begun_slot as_replica port backlog id m kept)) i)) n (seen_node (begun_slot as_replica port backlog id m kept)) _
        (put_at seen_node w.slots n (begun_slot as_replica port backlog id m kept) s at) (ap (λ b. fresh_node minired id b m) (sym role));
    no_links = λ l e. ap (option_map new) (slice_get-map (λ k. shut_if (k.to == n) k) w.links l) ∙ nothing (slice_get w.links l) e;
    links = λ l k e. ap (option_map new) (slice_get-map (λ k. shut_if (k.to == n) k) w.links l) ∙ closed l (slice_get w.links l) k refl e;
    book = begun_draws w.book book id m holds.kept none;
  };
}
  where
    new : Link → history.Link
    new = seen_link (slice_set w.slots n (begun_slot as_replica port backlog id m kept))

    nothing : (o : Option Link) → option_map (seen_link w.slots) o ≡ None → option_map new (option_map (λ k. shut_if (k.to == n) k) o) ≡ None
    nothing None e = refl
    nothing (Some x) e = absurd (cc)

    closed : (l : ℕ) (o : Option Link) (k : history.Link) → slice_get w.links l ≡ o → option_map (seen_link w.slots) o ≡ Some k → option_map new (option_map (λ k. shut_if (k.to == n) k) o) ≡ Some (history.shut (history.is_to n k.to) k)
    closed l None k there e = absurd (cc)
    closed l (Some x) k there e = let same : seen_link w.slots x ≡ k = cc in
        ap (λ z. Some z) (shut_there w.slots n s (begun_slot as_replica port backlog id m kept) x at (λ q. (holds.world.untouched l x there q).serving)) ∙ ap (λ (z : history.Link). Some (history.shut (history.is_to n z.to) z)) same

pub kept_histories : EventsKeepHistories
kept_histories w book e v holds x = row_keeps minired_laws (seen w book) e (seen v x.new_book) holds.invariant x.row

pub worlds_begin : WorldsBegin
worlds_begin = record {
  world = record {
    asks = λ l k e. absurd (none-some k e);
    tells = λ l k e. absurd (none-some k e);
    servers = λ l k e. absurd (none-some k e);
    untouched = λ l k e. absurd (none-some k e);
    names = λ i j k m e. absurd (none-some k e);
    nodes = λ n s e u. absurd (none-some s e);
    followers = λ n s name f e u q. absurd (none-some s e);
  };
  kept = record { each = λ i. tt };
  invariant = nowhere_ok minired;
}
