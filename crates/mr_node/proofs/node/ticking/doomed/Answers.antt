use Rattle.std.proofs.Common.{rules, ◌≡◌, ℤ, length, nat_eq, to_z, of_z, w64, subst}
use Rattle.std.proofs.lemmas.Int.{to_z-of_z}
use Rattle.mr_node.specs.Ticking.{Doomed}
use Rattle.mr_node.specs.declared.node.ticking.Deletions.{Deletions}
use Rattle.mr_node.proofs.Ticking.{doomed_of}
use Rattle.mr_node.proofs.node.ticking.doomed.Goals as goal

pub returns : goal.returns
returns c =
    let d : Deletions = record { effects = c.in_ok-effects.effects; whole = nat_eq c.len.result c.len-count.result } in
    let whole : nat_eq c.len.result c.len-count.result ≡ nat_eq (length c.in_ok-effects.effects.items) (length c.in_ok-dues.dues.items) = search rules in
    record {
      deletions = subst (λ (z : ℤ). Doomed c.args.held.now z c.args.room d c.put_deletions.new.outs) (to_z-of_z w64 c.args.now c.ranges.now)
          (doomed_of c.args.held.now (to_z w64 (of_z w64 c.args.now)) c.args.room c.in_ok-dues.dues.items d c.put_deletions.new.outs c.in_ok-dues.ensures.keys c.in_ok-effects.ensures whole);
      lacks = tt;
    }
