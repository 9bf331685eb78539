-- How what a step gave out goes to the links, and is taken back.
use Rattle.std.proofs.Common.{◌≡◌, ◌<◌, ◌∙◌, ℕ, List, Some, length, map, get_or, refl, sym, ap, subst}
use Rattle.std.specs.Prelude.{slice_get, slice_set}
use Rattle.std.specs.Option.{option_map}
use Rattle.std.proofs.lemmas.Option.{slice_get-map}
use Rattle.mr_node_output.specs.Outs.{OutsState}
use Rattle.mr_node_spec.specs.State.{NodeState, end_of}
use Rattle.law_refinement.specs.State.{Link}
use Rattle.law_refinement.specs.Carrying.{reached, settled, told}
use Rattle.law_refinement.proofs.Places.{is_within, set_here, set_same, some_is}
use Rattle.mr_world_parts.specs.Undoing.{untold}
use Rattle.mr_world_parts.specs.Answering.{IsBehind, answered_links}
use Rattle.mr_world_parts.proofs.Places.{map_set, set_twice, stands}
use Rattle.mr_world_parts.proofs.Behind.{unreached}
use Rattle.mr_world_parts.proofs.Undone.{untold_told}

read_here : (links : List Link) (l : ℕ) (k m : Link) → slice_get links l ≡ Some k → m ≡ get_or links l m → m ≡ k
read_here links l k m found again = some_is m k (sym (stands links l m (is_within links l k found) again) ∙ found)

module _ (n l : ℕ) (outs : OutsState) (links there : List Link) (k t m : Link) (within : l < length links) (link : k ≡ get_or links l k) (said : t ≡ told outs.reply k) (again : m ≡ get_or there l m) where
  found_link : slice_get links l ≡ Some k
  found_link = stands links l k within link

  -- it is taken back
  pub untold_there : (count : ℕ) (u : Link) → there ≡ slice_set links l t → count ≡ length outs.reply → u ≡ untold count m → slice_set there l u ≡ links
  untold_there count u gave counted back =
      let one : m ≡ t = read_here there l t m (ap (λ z. slice_get z l) gave ∙ set_here links l t k found_link) again in
      let was : u ≡ k = back ∙ (ap (untold count) (one ∙ said) ∙ (ap (λ i. untold i (told outs.reply k)) counted ∙ untold_told k outs.reply)) in
      ap (λ z. slice_set z l u) gave ∙ (set_twice links l t u ∙ (ap (slice_set links l) was ∙ set_same links l k found_link))

  -- what goes to replicas went to the others
  module _ (b : NodeState) (h : (q : Link) → slice_get links l ≡ Some q → IsBehind b q.name outs) (gave : there ≡ map (reached n outs) (slice_set links l t)) where
    all_reached : there ≡ slice_set (map (reached n outs) links) l (told outs.reply k)
    all_reached = gave ∙ (ap (λ z. map (reached n outs) (slice_set links l z)) said
        ∙ (map_set (reached n outs) links l (told outs.reply k) ∙ ap (slice_set (map (reached n outs) links) l) (unreached b k.name outs (h k found_link) k n outs.reply refl)))

    told_there : m ≡ told outs.reply k
    told_there = read_here there l (told outs.reply k) m
        (ap (λ z. slice_get z l) all_reached ∙ set_here (map (reached n outs) links) l (told outs.reply k) (reached n outs k) (slice_get-map (reached n outs) links l ∙ ap (option_map (reached n outs)) found_link)) again

    pub behind_told : (a : NodeState) → a ≡ b → IsBehind a m.name outs
    behind_told a same = subst (λ (z : Link). IsBehind a z.name outs) (sym told_there) (subst (λ (z : NodeState). IsBehind z k.name outs) (sym same) (h k found_link))

    pub answered_there : (a : NodeState) (f : Link) → a ≡ b → f ≡ settled (end_of a m.name) m → (q : Link) → slice_get links l ≡ Some q → slice_set there l f ≡ answered_links n l q b outs links
    answered_there a f same settles q found =
        let now : f ≡ settled (end_of b k.name) (told outs.reply k) = settles ∙ (ap (λ (z : Link). settled (end_of a z.name) z) told_there ∙ ap (λ (z : NodeState). settled (end_of z k.name) (told outs.reply k)) same) in
        ap (λ z. slice_set z l f) all_reached ∙ (set_twice (map (reached n outs) links) l (told outs.reply k) f
        ∙ (ap (slice_set (map (reached n outs) links) l) now ∙ ap (λ (z : Link). answered_links n l z b outs links) (some_is k q (sym found_link ∙ found))))
