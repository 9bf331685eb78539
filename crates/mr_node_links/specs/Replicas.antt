-- The ends that the stream is sent to.
use Rattle.std.specs.Prelude.{◌≡◌, ◌++◌, List, [], ◌∷◌, Bool, true, false, Option, None, Some, cond}
use Rattle.std.specs.Ordering.{eq_by_cmp}
use Rattle.std.specs.FinMap as map
use Rattle.mr_links.specs.Links.{Links}
use Rattle.mr_links.specs.LinkId.{id_cmp}
use Rattle.mr_links.specs.declared.link_id.LinkId.{LinkId}
use Rattle.mr_node_links.specs.State.{EndState, streams}
use Rattle.mr_node_links.specs.State.EndState.{shut}

-- the name is among these
abbrev pub is_named : List LinkId → LinkId → Bool
is_named [] x = false
is_named (n ∷ names) x = cond (eq_by_cmp id_cmp x n) true (is_named names x)

-- The names are those of the ends that the stream is sent to, each of them once.
pub record Lists (names : List LinkId) (m : map.FinMap id_cmp EndState) : Type 0 where
  pub each : (x : LinkId) → is_named names x ≡ streams (map.get m x)
  pub once : (front behind : List LinkId) (x : LinkId) → names ≡ front ++ x ∷ behind → is_named behind x ≡ false

-- an end that is shut where it is of these
abbrev pub shut_where : Bool → Option EndState → Option EndState
shut_where b None = None
shut_where true (Some e) = Some shut
shut_where false (Some e) = Some e

-- The ends of these names are shut, and no others.
pub record ShutsNamed (a : map.FinMap id_cmp EndState) (names : List LinkId) (b : map.FinMap id_cmp EndState) : Type 0 where
  pub each : (x : LinkId) → map.get b x ≡ shut_where (is_named names x) (map.get a x)

-- All ends that the stream was sent to are shut, and no others.
pub record ShutsReplicas (a b : Links EndState) : Type 0 where
  pub each : (x : LinkId) → map.get b.open_links x ≡ shut_where (streams (map.get a.open_links x)) (map.get a.open_links x)
  pub opened : b.opened ≡ a.opened
