-- What unread bytes ask of a node.
use Rattle.std.specs.Prelude.{◌≡◌, ℕ, List, ◌++◌}
use Rattle.mr_inline.specs.Language.{Continues, Fails}
use Rattle.mr_resp.specs.Request.{IsRequest, IsEmptyRequest, IsText, HasFault}
use Rattle.mr_resp.specs.Usual.{usual}
use Rattle.mr_resp.specs.declared.fault.Fault.{Fault}

-- These bytes begin with a request, and the rest is left.
pub record Asks (u : List ℕ) (words : List (List ℕ)) (rest : List ℕ) : Type 0 where
  pub text : List ℕ
  pub begins : u ≡ text ++ rest
  pub request : IsRequest usual text words

-- These bytes begin with an empty request, and the rest is left.
pub record AsksNothing (u rest : List ℕ) : Type 0 where
  pub text : List ℕ
  pub begins : u ≡ text ++ rest
  pub empty : IsEmptyRequest text

-- Neither begins these bytes, and one still may.
pub record Waits (u : List ℕ) : Type 0 where
  pub more : Continues (IsText usual) u

-- No continuation of these bytes begins with either, by this fault.
pub record IsDoomedBy (u : List ℕ) (fault : Fault) : Type 0 where
  pub fails : Fails (IsText usual) (HasFault usual fault) u
