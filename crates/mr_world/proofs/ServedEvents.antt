-- A step at a server's end is an event of histories, whatever it came to.
use Rattle.std.proofs.Common.{◌≡◌, ℕ, List, Bool, true, false, ◌||◌, Option, None, Some, refl, sym, ap, subst}
use Rattle.std.specs.Prelude.{bytes_eq, is_some}
use Rattle.std.specs.Option.{option_map}
use Rattle.mr_data.specs.declared.given.Given.{Given}
use Rattle.mr_repl.specs.ReplId.{zero_id}
use Rattle.mr_node_spec.specs.State.{stopped_as}
use Rattle.law_protocol.specs.History.{Book}
use Rattle.law_protocol.specs.Event as events
use Rattle.law_protocol.specs.Event.Side.{Server}
use Rattle.law_protocol.specs.Changing.Unless.{stopped}
use Rattle.law_minired.specs.Minired.{minired}
use Rattle.law_refinement.specs.State.{BookEntry, Link, WorldState}
use Rattle.law_refinement.specs.Seeing.{seen_link, seen_node}
use Rattle.law_refinement.specs.Books.{entry_of}
use Rattle.law_refinement.specs.Carrying.{stepped}
use Rattle.law_refinement.specs.Events.{Holds, IsEvent}
use Rattle.law_refinement.proofs.Replicas.{idle_steps, replica_steps, stopped_steps}
use Rattle.law_refinement.proofs.Roles.{client_steps}
use Rattle.law_refinement.proofs.Unaccepted.{served_to}
use Rattle.law_refinement.proofs.Within.{within_steps}
use Rattle.mr_world_parts.specs.AtNode.{is_spent}
use Rattle.mr_world.specs.Calls.{IsDown, ServesAt}
use Rattle.mr_world.specs.Serving.{HasServed, ServedRow, ServesLink}
use Rattle.mr_world.proofs.Spent.{spends_down}

-- an id that may be drawn has no entry
no_entry : (p : Bool) (o : Option BookEntry) → (p || is_some o) ≡ false → o ≡ None
no_entry true o e = absurd (cc)
no_entry false None e = refl
no_entry false (Some x) e = absurd (cc)

module _ (w : WorldState) (book : Book minired) (l : ℕ) (given : Given) (fresh : List ℕ) (holds : Holds w book) where
  abbrev Event : WorldState → Type 0
  Event v = IsEvent w book (events.Event.Step l Server given fresh) v

  served_event : (unspent : is_spent w.book fresh ≡ false) (t : HasServed w l given fresh) → Event (stepped w t.link.to t.slot l t.link t.node t.outs)
  served_event unspent t = elim t.row [
    | ServedRow.client q g r ↦ client_steps w book l t.link t.slot given fresh t.node t.outs holds t.served g (no_entry (bytes_eq fresh zero_id) (entry_of w.book fresh) unspent) r
    | ServedRow.within held q g r ↦ within_steps w book l t.link t.slot held given fresh t.node t.outs holds t.served g r
    | ServedRow.replica q r ↦ replica_steps w book l t.link t.slot given fresh t.node t.outs holds t.served q r
  ]

  -- at a node that is stopped nothing happens
  rests_event : (k : Link) → ServesAt w l k → IsDown w k.to → Event w
  rests_event k at down = record {
    new_book = book;
    kept = holds.kept;
    row = record {
      at = record { link = seen_link w.slots k; found = ap (option_map (seen_link w.slots)) at.found; n = k.to; to = served_to w holds.world l k at.found at.serving; serving = at.serving; node = seen_node down.slot; node_found = ap (option_map seen_node) down.at };
      does = stopped down.down (record { nodes = λ i. refl; links = λ j. refl; book = λ i. refl });
    };
  }

  pub step_is_event : (v : WorldState) → is_spent w.book fresh ≡ false → ServesLink w l given fresh v → Event v
  step_is_event v unspent (ServesLink.carries t e) = subst Event (sym e) (served_event unspent t)
  step_is_event v unspent (ServesLink.fails t takes e) = subst Event (sym e) (stopped_steps w book l t.link t.slot given fresh (stopped_as t.node) holds t.served refl)
  step_is_event v unspent (ServesLink.idles t e) = subst Event (sym e) (idle_steps w book l t.link t.slot given fresh t.node holds t.served t.idles)
  step_is_event v unspent (ServesLink.spends t e) = subst Event (sym e) (stopped_steps w book l t.link t.slot given fresh t.node holds t.served (spends_down t.link t.slot.node given t.node t.spends))
  step_is_event v unspent (ServesLink.rests k at down e) = subst Event (sym e) (rests_event k at down)
