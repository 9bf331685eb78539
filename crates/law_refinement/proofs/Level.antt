-- A replica whose link is caught up stands where its master does.
use Rattle.std.proofs.Common.{None, Some, ap, ◌∙◌, arith}
use Rattle.std.specs.Option.{option_map}
use Rattle.std.proofs.lemmas.List.{length-drop}
use Rattle.law_protocol.proofs.Theorem.{caught_up}
use Rattle.law_minired.proofs.MiniredLaws.{minired_laws}
use Rattle.law_refinement.specs.Seeing.{seen, seen_node, seen_link, seen_phase, seen_follow}
use Rattle.law_refinement.specs.Worlds.{no_world}
use Rattle.law_refinement.proofs.Beginning.{worlds_begin}
use Rattle.law_refinement.proofs.Unaccepted.{served_to}
use Rattle.law_refinement.specs.Headline.{CaughtUpIsLevel}
use Rattle.law_refinement.proofs.Moments.{moment}

pub caught_up_is_level : CaughtUpIsLevel
caught_up_is_level vs k v p l a s c =
    let m = moment no_world vs k v (λ i. None) worlds_begin p.run p.there in
    let r = caught_up minired_laws (seen v m.book) l (seen_node a) (seen_node s) m.holds.invariant (record {
      link = seen_link v.slots c.link;
      found = ap (option_map (seen_link v.slots)) c.found;
      n = c.n;
      replica_found = ap (option_map seen_node) c.replica_found;
      replica_up = c.replica_up;
      phase = seen_phase c.follow.phase;
      follow = ap (seen_follow a.dialled) c.follows ∙ ap (λ z. seen_follow z (Some (c.name, c.follow))) c.dialled;
      m = c.link.to;
      to = served_to v m.holds.world l c.link c.found c.serving;
      master_found = ap (option_map seen_node) c.master_found;
      master_up = c.master_up;
      serving = c.serving;
      streams = c.streams;
      all_taken = let e = length-drop c.link.tell.used c.link.tell.sent in omega (arith, e, c.all_taken);
      nothing_left = c.nothing_left;
    }) in
    record { id = r.id; offset = r.offset; held = r.held }
