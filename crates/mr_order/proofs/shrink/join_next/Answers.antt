use Rattle.std.proofs.Common.{◌≡◌, ◌+◌, ◌++◌, length, get_or, set, ap, ap₂, ◌∙◌, arith, length-append}
use Rattle.std.specs.List.{flat_map}
use Rattle.std.proofs.lemmas.List.{get_or_default}
use Rattle.std.proofs.lemmas.List.Edits.{get_or-remove_below}
use Rattle.std.proofs.lemmas.List.Elements.{All-same, All-set}
use Rattle.mr_order.specs.Parts.{IsSound}
use Rattle.mr_order.proofs.Flat.{flat_joined, flat_put_back}
use Rattle.mr_order.proofs.Sound.{all_insert, all_remove}
use Rattle.mr_order.proofs.shrink.join_next.Goals as goal

pub returns-in-Err-clause-sound : goal.returns-in-Err-clause-sound
returns-in-Err-clause-sound g c =
    let f = g.P.Part.items in
    let P = IsSound f g.P.Part.is_kept in
    let xs = c.args.parts.now.items in
    let ys = c.remove-next.new.self.items in
    let i = c.args.part in
    let d = c.index_mut.result.now in
    let e : d ≡ get_or xs i d = c.index_mut.ensures.value ∙ ap (λ l. get_or l i d) c.remove-next.ensures.items ∙ get_or-remove_below xs (i + 1) d i (omega arith) c.requires.part in
    let kept = c.requires.sound i d (omega (arith, c.requires.part)) in
    let back = c.requires.sound (i + 1) c.remove-next.result c.requires.part in
    let v : P c.join.new.self = record { kept = c.join.ensures.kept; some = omega (arith, kept.some, ap length (c.in-Err.ensures.err ∙ ap f e)) } in
    let w : P c.in-Err.next = record { kept = c.in-Err.ensures.back.0; some = omega (arith, back.some, ap length (c.in-Err.ensures.back.1 ∙ ap f c.remove-next.ensures.value)) } in
    All-same P _ _ c.put_in_room.ensures (all_insert P (set ys i c.join.new.self) (i + 1) c.in-Err.next w (All-set P ys i c.join.new.self v (All-same P ys _ c.remove-next.ensures.items (all_remove P xs (i + 1) c.requires.sound))))

pub returns-in-Err-clause-same : goal.returns-in-Err-clause-same
returns-in-Err-clause-same g c =
    let f = g.P.Part.items in
    let xs = c.args.parts.now.items in
    let i = c.args.part in
    let d = c.index_mut.result.now in
    let e : d ≡ get_or xs i d = c.index_mut.ensures.value ∙ ap (λ l. get_or l i d) c.remove-next.ensures.items ∙ get_or-remove_below xs (i + 1) d i (omega arith) c.requires.part in
    let next : c.remove-next.result ≡ get_or xs (i + 1) d = c.remove-next.ensures.value ∙ get_or_default xs (i + 1) _ d c.requires.part in
    ap (flat_map f) c.put_in_room.ensures ∙ flat_put_back f xs c.remove-next.new.self.items i c.join.new.self c.in-Err.next d c.remove-next.ensures.items c.requires.part
    (c.in-Err.ensures.err ∙ ap f e) (c.in-Err.ensures.back.1 ∙ ap f next)

pub returns-in_default-clause-sound : goal.returns-in_default-clause-sound
returns-in_default-clause-sound g c =
    let f = g.P.Part.items in
    let P = IsSound f g.P.Part.is_kept in
    let xs = c.args.parts.now.items in
    let ys = c.remove-next.new.self.items in
    let i = c.args.part in
    let d = c.index_mut.result.now in
    let e : d ≡ get_or xs i d = c.index_mut.ensures.value ∙ ap (λ l. get_or l i d) c.remove-next.ensures.items ∙ get_or-remove_below xs (i + 1) d i (omega arith) c.requires.part in
    let kept = c.requires.sound i d (omega (arith, c.requires.part)) in
    let long = length-append (f d) (f c.remove-next.result) in
    let v : P c.join.new.self = record { kept = c.join.ensures.kept; some = omega (arith, kept.some, ap (λ p. length (f p)) e, ap length c.in_default.ensures.ok) } in
    All-set P ys i c.join.new.self v (All-same P ys _ c.remove-next.ensures.items (all_remove P xs (i + 1) c.requires.sound))

pub returns-in_default-clause-same : goal.returns-in_default-clause-same
returns-in_default-clause-same g c =
    let f = g.P.Part.items in
    let xs = c.args.parts.now.items in
    let i = c.args.part in
    let d = c.index_mut.result.now in
    let e : d ≡ get_or xs i d = c.index_mut.ensures.value ∙ ap (λ l. get_or l i d) c.remove-next.ensures.items ∙ get_or-remove_below xs (i + 1) d i (omega arith) c.requires.part in
    let next : c.remove-next.result ≡ get_or xs (i + 1) d = c.remove-next.ensures.value ∙ get_or_default xs (i + 1) _ d c.requires.part in
    flat_joined f xs c.remove-next.new.self.items i c.join.new.self d c.remove-next.ensures.items c.requires.part (c.in_default.ensures.ok ∙ ap₂ (λ p q. f p ++ f q) e next)
