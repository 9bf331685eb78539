use Rattle.std.proofs.Common.{◌≡◌, ◌+◌, ◌<◌, ◌≤◌, ◌++◌, length, get_or, take, set, refl, sym, subst, ap, ◌∙◌, arith}
use Rattle.std.specs.List.{flat_map, insert}
use Rattle.std.proofs.lemmas.List.{get_or-set_same, set-set}
use Rattle.std.proofs.lemmas.List.Elements.{All-same, All-set}
use Rattle.mr_order.specs.Parts.{IsSound}
use Rattle.mr_order.proofs.Flat.{flat_insert_two, flat_same, flat_split, on_err, on_err_map, on_ok_map}
use Rattle.mr_order.proofs.Sound.{all_insert}
use Rattle.mr_order.proofs.grow.put_in_halves.Goals as goal

pub returns-in_err-tail-clause-err : goal.returns-in_err-tail-clause-err
returns-in_err-tail-clause-err g c =
    let f = g.P.Part.items in
    let xs = c.reserve.new.self.items in
    let within : c.args.part < length xs = omega (arith, ap length c.reserve.ensures.items, c.requires.part) in
    on_err c.from_residual-in_err-tail.result
    (flat_same f xs c.args.part c.split.new.self c.index_mut.result.now within (c.in_err-tail.ensures.err ∙ ap f c.index_mut.ensures.value) ∙ ap (flat_map f) c.reserve.ensures.items)

pub returns-clause-sound : goal.returns-clause-sound
returns-clause-sound g c =
    let P = IsSound g.P.Part.items g.P.Part.is_kept in
    let xs = c.reserve.new.self.items in
    let a = c.split.new.self in
    let b = c.put_in_either-outcome.new.head in
    let all = All-set P xs c.args.part a c.in_ok-tail.ensures.head.0 (All-same P xs _ c.reserve.ensures.items c.requires.sound) in
    All-same P _ _ c.in-Ok.ensures.items
    (all_insert P (set (set xs c.args.part a) c.args.part b) (c.args.part + 1) c.put_in_either-outcome.new.tail c.put_in_either-outcome.ensures.tail
    (All-set P (set xs c.args.part a) c.args.part b c.put_in_either-outcome.ensures.head all))

pub returns-clause-ok : goal.returns-clause-ok
returns-clause-ok g c =
    let f = g.P.Part.items in
    let xs = c.reserve.new.self.items in
    let i = c.args.part in
    let a = c.split.new.self in
    let b = c.put_in_either-outcome.new.head in
    let t = c.put_in_either-outcome.new.tail in
    let d = c.index_mut.result.now in
    let e = c.index_mut-2.result.now in
    let within : i < length xs = omega (arith, ap length c.reserve.ensures.items, c.requires.part) in
    let inside : c.args.place ≤ length (f (get_or xs i d)) = subst (λ l. c.args.place ≤ length (f (get_or l i d))) (sym c.reserve.ensures.items) (c.requires.within d) in
    let halves : f e ++ f c.in_ok-tail.tail ≡ f (get_or xs i d) =
    ap (λ p. f p ++ f c.in_ok-tail.tail) (c.index_mut-2.ensures.value ∙ get_or-set_same xs i a e within) ∙ c.in_ok-tail.ensures.ok ∙ ap f c.index_mut.ensures.value in
    on_ok_map c.put_in_either-outcome.result
    (λ put. ap (flat_map f) (c.in-Ok.ensures.items ∙ ap (λ l. insert l (i + 1) t) (set-set xs i a b))
    ∙ flat_insert_two f xs i c.args.place _ b t d c.args.item within refl inside (put ∙ ap (λ l. insert l c.args.place c.args.item) halves)
    ∙ ap (λ l. insert (flat_map f l) (length (flat_map f (take i l)) + c.args.place) c.args.item) c.reserve.ensures.items)
    c.put_in_either-outcome.ensures.ok

pub returns-clause-err : goal.returns-clause-err
returns-clause-err g c =
    let f = g.P.Part.items in
    let xs = c.reserve.new.self.items in
    let i = c.args.part in
    let a = c.split.new.self in
    let b = c.put_in_either-outcome.new.head in
    let t = c.put_in_either-outcome.new.tail in
    let d = c.index_mut.result.now in
    let e = c.index_mut-2.result.now in
    let within : i < length xs = omega (arith, ap length c.reserve.ensures.items, c.requires.part) in
    let halves : f e ++ f c.in_ok-tail.tail ≡ f (get_or xs i d) =
    ap (λ p. f p ++ f c.in_ok-tail.tail) (c.index_mut-2.ensures.value ∙ get_or-set_same xs i a e within) ∙ c.in_ok-tail.ensures.ok ∙ ap f c.index_mut.ensures.value in
    on_err_map c.put_in_either-outcome.result
    (λ kept. ap (flat_map f) (c.in-Ok.ensures.items ∙ ap (λ l. insert l (i + 1) t) (set-set xs i a b))
    ∙ flat_split f xs i b t d within (kept ∙ halves)
    ∙ ap (flat_map f) c.reserve.ensures.items)
    c.put_in_either-outcome.ensures.err
