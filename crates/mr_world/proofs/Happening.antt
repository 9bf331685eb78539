-- A step of the node that follows by a link is an event of histories.
use Rattle.std.proofs.Common.{◌∙◌, ℕ, List, Some, refl, sym, ap, subst}
use Rattle.std.specs.Option.{option_map}
use Rattle.mr_data.specs.declared.given.Given.{Given}
use Rattle.law_protocol.specs.History.{Book}
use Rattle.law_protocol.specs.Changing.{Still}
use Rattle.law_protocol.specs.Changing.Unless.{stopped}
use Rattle.law_protocol.specs.Event as events
use Rattle.law_protocol.specs.Event.Side.{Dialler}
use Rattle.law_minired.specs.Minired.{minired}
use Rattle.mr_node_spec.specs.State.{stopped_as}
use Rattle.law_refinement.specs.State.{Slot, WorldState}
use Rattle.law_refinement.specs.Seeing.{seen, seen_follow, seen_link, seen_node, seen_phase}
use Rattle.law_refinement.specs.Carrying.{followed, put_node}
use Rattle.law_refinement.specs.Events.{Holds, IsEvent}
use Rattle.law_refinement.proofs.Masters.{master_lacks, master_spends, master_steps, master_stops, master_waits}
use Rattle.mr_world.specs.Linking.{FollowerRests}
use Rattle.mr_world.specs.Following.{Follows}
use Rattle.mr_world.proofs.Dialling.{some_follow}
use Rattle.mr_world.specs.Happening.{FollowsAreEvents, LackedIsUnseen}

module _ (w : WorldState) (book : Book minired) (l : ℕ) (given : Given) (fresh : List ℕ) (v : WorldState) (holds : Holds w book) where
  abbrev Happens : WorldState → ℕ → Type 0
  Happens z i = IsEvent w book (events.Event.Step i Dialler given fresh) z

  -- at a node that is stopped nothing happens
  rests_event : FollowerRests w l → Happens w l
  rests_event r =
      let s : Slot = r.who.slot in
      let f = some_follow s.node.follow r.who.at.following.follows in record {
        new_book = book;
        kept = holds.kept;
        row = record {
          at = record {
            link = seen_link w.slots r.who.link;
            found = ap (option_map (seen_link w.slots)) r.who.at.found;
            n = r.number;
            node = seen_node s;
            node_found = ap (option_map seen_node) r.who.at.at;
            phase = seen_phase f.0.1.phase;
            follow = ap (seen_follow s.dialled) f.1 ∙ ap (λ i. Some (record { link = i; phase = seen_phase f.0.1.phase })) r.who.at.following.dialled;
          };
          does = stopped r.down (record { nodes = λ i. refl; links = λ j. refl; book = λ i. refl });
        };
      }

  happens : Follows w l v → IsEvent w book (events.Event.Step l Dialler given fresh) v
  happens (Follows.carries h e) =
      subst (λ (z : WorldState). Happens z l) (sym e) (subst (λ (i : ℕ). Happens (followed w h.number h.who.slot h.who.link h.node h.outs) i) h.who.by.dialled
      (master_steps w book h.number h.who.slot h.who.link h.name h.came given fresh h.node h.outs holds h.who.by.followed h.row))
  happens (Follows.fails h takes e) =
      subst (λ (z : WorldState). Happens z l) (sym e) (subst (λ (i : ℕ). Happens (put_node w h.number h.who.slot (stopped_as h.node)) i) h.who.by.dialled
      (master_stops w book h.number h.who.slot h.who.link h.name h.who.reader given fresh (stopped_as h.node) holds h.who.by.followed h.who.by.follows refl))
  happens (Follows.waits h) = subst (λ (i : ℕ). Happens v i) h.who.by.dialled
      (subst (λ (z : WorldState). Happens z h.who.slot.dialled) (sym h.carried) (master_waits w book h.number h.who.slot h.who.link h.name given fresh h.node holds h.who.by.followed h.row))
  happens (Follows.spends h) = subst (λ (i : ℕ). Happens v i) h.who.by.dialled
      (subst (λ (z : WorldState). Happens z h.who.slot.dialled) (sym h.is) (master_spends w book h.number h.who.slot h.who.link h.name given fresh h.node holds h.who.by.followed h.row))
  happens (Follows.rests r same) = subst (λ (z : WorldState). Happens z l) (sym same) (rests_event r)

pub follows_happen : FollowsAreEvents
follows_happen w book l given fresh v holds f = happens w book l given fresh v holds f

pub lacks_unseen : LackedIsUnseen
lacks_unseen w book l v holds h = subst (λ (z : WorldState). Still (seen w book) (seen z book)) (sym h.carried) (master_lacks w book h.number h.who.slot h.who.link h.name h.node holds h.who.by.followed h.row)
