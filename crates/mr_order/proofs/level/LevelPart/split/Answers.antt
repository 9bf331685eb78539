use Rattle.std.proofs.Common.{◌≡◌, ◌-◌, ◌/◌, ◌<◌, ◌++◌, length, sym, subst, ap, ap₂, ◌∙◌, arith}
use Rattle.std.specs.List.{flat_map}
use Rattle.std.specs.Prelude.{nat_le}
use Rattle.mr_order.specs.Parts.{IsLevel}
use Rattle.mr_order.proofs.Flat.{flat_cut}
use Rattle.mr_order.proofs.Levels.{halves}
use Rattle.mr_order.proofs.level.LevelPart.split.Goals as goal

pub returns-clause-ok : goal.returns-clause-ok
returns-clause-ok g c =
    let f = g.P.Part.items in
    ap₂ (λ a b. flat_map f a ++ flat_map f b) c.in_ok-parts.ensures.items c.in_ok-parts.ensures.tail ∙ flat_cut f c.args.self.now.parts.items (c.len-half.result / 2)

pub returns-clause-kept : goal.returns-clause-kept
returns-clause-kept g c =
    let f = g.P.Part.items in
    let xs = c.args.self.now.parts.items in
    let long : c.len-half.result ≡ length xs = omega (arith, c.len-half.ensures, c.args.self.now.parts.ok.0) in
    let total = c.total-len.ensures ∙ ap (λ l. length (flat_map f l)) (c.deref.ensures.value ∙ c.in_ok-parts.ensures.tail) in
    let both = halves f g.P.Part.is_kept xs c.args.self.now.len (c.len-half.result / 2) c.total-len.result c.requires.kept c.requires.full (ap (λ n. n / 2) long) total in
    subst (λ l. IsLevel f g.P.Part.is_kept l (c.args.self.now.len - c.total-len.result)) (sym c.in_ok-parts.ensures.items) both.head

pub returns-clause-head : goal.returns-clause-head
returns-clause-head g c =
    let f = g.P.Part.items in
    let xs = c.args.self.now.parts.items in
    let long : c.len-half.result ≡ length xs = omega (arith, c.len-half.ensures, c.args.self.now.parts.ok.0) in
    let total = c.total-len.ensures ∙ ap (λ l. length (flat_map f l)) (c.deref.ensures.value ∙ c.in_ok-parts.ensures.tail) in
    let both = halves f g.P.Part.is_kept xs c.args.self.now.len (c.len-half.result / 2) c.total-len.result c.requires.kept c.requires.full (ap (λ n. n / 2) long) total in (
      record {
        kept = subst (λ l. IsLevel f g.P.Part.is_kept l (c.args.self.now.len - c.total-len.result)) (sym c.in_ok-parts.ensures.items) both.head;
        some = subst (λ l. 0 < length (flat_map f l)) (sym c.in_ok-parts.ensures.items) both.head_some;
      },
      ap (λ l. nat_le 32 (length l)) c.in_ok-parts.ensures.items ∙ both.head_room,
    )

pub returns-clause-tail : goal.returns-clause-tail
returns-clause-tail g c =
    let f = g.P.Part.items in
    let xs = c.args.self.now.parts.items in
    let long : c.len-half.result ≡ length xs = omega (arith, c.len-half.ensures, c.args.self.now.parts.ok.0) in
    let total = c.total-len.ensures ∙ ap (λ l. length (flat_map f l)) (c.deref.ensures.value ∙ c.in_ok-parts.ensures.tail) in
    let both = halves f g.P.Part.is_kept xs c.args.self.now.len (c.len-half.result / 2) c.total-len.result c.requires.kept c.requires.full (ap (λ n. n / 2) long) total in (
      record {
        kept = subst (λ l. IsLevel f g.P.Part.is_kept l c.total-len.result) (sym c.in_ok-parts.ensures.tail) both.tail;
        some = subst (λ l. 0 < length (flat_map f l)) (sym c.in_ok-parts.ensures.tail) both.tail_some;
      },
      ap (λ l. nat_le 32 (length l)) c.in_ok-parts.ensures.tail ∙ both.tail_room,
    )
