-- What becomes of a node's ends in a step at one of them.
use Rattle.std.specs.Prelude.{◌≡◌, ◌≢◌, List, [], ◌∷◌, true, false, Option, None, Some}
use Rattle.mr_links.specs.declared.link_id.LinkId.{LinkId}
use Rattle.mr_node_links.specs.State.{EndState}
use Rattle.mr_node_links.specs.State.EndState.{shut}
use Rattle.mr_node_links.specs.Replicas.{is_named}
use Rattle.mr_node_spec.specs.State.{NodeState, end_of, OthersStay}

-- The end of the link is this now, and the others are what they were.
pub record Leaves (a : NodeState) (l : LinkId) (b : NodeState) (e : EndState) : Type 0 where
  pub is : end_of b l ≡ Some e
  pub others : OthersStay a b l
  pub follow : b.follow ≡ a.follow

-- The end of the link is this now. Of the others those of these names are closed, and the rest are what they were.
pub record Settles (a : NodeState) (l : LinkId) (b : NodeState) (e : EndState) (closed : List LinkId) : Type 0 where
  pub is : end_of b l ≡ Some e
  pub shuts : (x : LinkId) → is_named closed x ≡ true → end_of b x ≡ Some shut
  pub others : (x : LinkId) → x ≢ l → is_named closed x ≡ false → end_of b x ≡ end_of a x
  pub opened : b.ends.opened ≡ a.ends.opened

-- as a list
abbrev pub names_of : Option LinkId → List LinkId
names_of None = []
names_of (Some name) = name ∷ []
