use Rattle.std.proofs.Common.{◌≡◌, ℕ, ◌+◌, ◌<◌, ◌≤◌, List, ◌++◌, ◌∷◌, [], length, map, take, set, ap, sym, ◌∙◌, arith, Bor}
use Rattle.std.proofs.lemmas.List.{length-map, length-take-le, map-set, take_more_set}
use Rattle.mr_resp.proofs.few.FewWords.push.Goals as goal

grown : (xs : List (Bor (List ℕ))) (n : ℕ) (w : Bor (List ℕ)) (shown : List (List ℕ)) → length xs ≡ 5 → n ≤ 5 → take n (map (λ (b : Bor (List ℕ)). b.now) xs) ≡ shown → length shown < 5
    → take (n + 1) (map (λ (b : Bor (List ℕ)). b.now) (set xs n w)) ≡ shown ++ w.now ∷ []
grown xs n w shown five within is few =
    let f : Bor (List ℕ) → List ℕ = λ b. b.now in
    let all : length (map f xs) ≡ 5 = length-map xs f ∙ five in
    let count : length shown ≡ n = sym (ap length is) ∙ length-take-le n (map f xs) (omega (arith, all, within)) in
    ap (take (n + 1)) (map-set f xs n w) ∙ take_more_set (map f xs) n w.now (omega (arith, all, count, few)) ∙ ap (λ (l : List (List ℕ)). l ++ w.now ∷ []) is

pub returns : goal.returns
returns c = grown c.self.inside.items c.self.inside.count c.args.word c.args.self.now c.self.ranges c.self.invariant c.self.view_is c.requires
