-- Links behind a step at an end that a node serves, beside the connections: those are the same, and the ends of other servers are what they were.
use Rattle.std.proofs.Common.{◌≡◌, ◌≢◌, inl, inr, ℕ, List, Some, length, length-set, map, sym, ap, subst, ◌∙◌}
use Rattle.std.specs.Prelude.{slice_get}
use Rattle.std.proofs.lemmas.List.{length-map}
use Rattle.mr_node_output.specs.Outs.{OutsState}
use Rattle.mr_node_spec.specs.State.{NodeState, end_of as node_end}
use Rattle.law_refinement.specs.State.{Link, WorldState}
use Rattle.law_refinement.specs.Carrying.{reached, settled, told}
use Rattle.mr_world_parts.specs.Answering.{answered_links}
use Rattle.mr_links.specs.declared.side.Side.{Side}
use Rattle.mr_links.specs.declared.side.Side.TheVariants as side
use Rattle.law_systems.specs.System.{Connection, End, System}
use Rattle.law_systems.specs.Network.{HasEnd}
use Rattle.law_systems.proofs.Mirrors.{IsLine, Mirrors}
use Rattle.law_systems.proofs.Rebuilding.{WasThere}
use Rattle.law_systems.proofs.Told.{IsTold, answered_was, is_reached, is_settled, reached_by, reached_elsewhere, same_server, told_line, told_opener}

-- the link was this, of which it was told more
pub record WasTold (links : List Link) (i : ℕ) (l : Link) : Type 0 where
  pub link : Link
  pub more : List ℕ
  pub found : slice_get links i ≡ Some link
  pub told : IsTold link l more

module _ (x : System) (w : WorldState) (n c : ℕ) (k : Link) (b : NodeState) (outs : OutsState)
    (mirrors : Mirrors x w) (found : slice_get w.links c ≡ Some k) (to : k.to ≡ n) where
  abbrev answered : Link
  answered = settled (node_end b k.name) (told outs.reply k)

  pub was_told : (i : ℕ) (l : Link) → slice_get (answered_links n c k b outs w.links) i ≡ Some l → WasTold w.links i l
  was_told i l e = elim (answered_was w.links n outs c answered i l e) [
    | inl here ↦ record {
      link = k;
      more = outs.reply;
      found = ap (slice_get w.links) here.0 ∙ found;
      told = subst (λ (z : Link). IsTold k z outs.reply) (sym here.1) (is_settled (node_end b k.name) outs.reply k);
    }
    | inr there ↦ record {
      link = there.1.0;
      more = reached_by n outs there.1.0;
      found = there.1.1;
      told = subst (λ (z : Link). IsTold there.1.0 z (reached_by n outs there.1.0)) (sym there.1.2) (is_reached n outs there.1.0);
    }
  ]

  pub lines_told : (i : ℕ) (p : Connection) (l : Link) → slice_get x.connections i ≡ Some p → slice_get (answered_links n c k b outs w.links) i ≡ Some l → IsLine p l
  lines_told i p l e h = let was = was_told i l h in told_line p was.link l was.more was.told (mirrors.lines i p was.link e was.found)

  pub others_told : (i : ℕ) (at : Side) (p : Connection) (e : End) (l : Link) → HasEnd x.connections i at p e → slice_get (answered_links n c k b outs w.links) i ≡ Some l → e.server ≢ n → WasThere x w i at p e l
  others_told i side.Opener p e l end h apart =
      let was = was_told i l h in
      record { connection = p; link = was.link; end = end; found = was.found; same = told_opener p was.link l was.more was.told }
  others_told i side.Server p e l end h apart = elim (answered_was w.links n outs c answered i l h) [
    | inl here ↦ absurd (apart (sym ((mirrors.lines i p k end.found (ap (slice_get w.links) here.0 ∙ found)).served e end.has).1 ∙ to))
    | inr there ↦ record {
      connection = p;
      link = there.1.0;
      end = end;
      found = there.1.1;
      same = same_server p there.1.0 l (there.1.2 ∙ reached_elsewhere n outs there.1.0 (λ q. apart (sym ((mirrors.lines i p there.1.0 end.found there.1.1).served e end.has).1 ∙ q)));
    }
  ]

  pub as_many_told : length (answered_links n c k b outs w.links) ≡ length x.connections
  as_many_told = length-set (map (reached n outs) w.links) c answered ∙ (length-map w.links (reached n outs) ∙ mirrors.as_many_links)
