-- How far the reader has gone over unread bytes.
use Rattle.std.specs.Prelude.{◌≤◌, ℕ, List, ◌++◌, length}
use Rattle.mr_resp.specs.Resumed.{Agrees}
use Rattle.mr_resp.specs.Usual.{usual}
use Rattle.mr_resp.specs.declared.progress.Progress.{Progress}
use Rattle.mr_node_links.specs.State.{full}

-- The progress holds of these bytes, whatever comes behind them.
pub record AgreesAlong (progress : Progress) (unread : List ℕ) : Type 0 where
  pub along : (more : List ℕ) → Agrees usual progress (unread ++ more)

-- what holds of an end: its unread bytes are not too many, and the progress is over them
pub record Fits (unread : List ℕ) (progress : Progress) : Type 0 where
  pub few : length unread ≤ full
  pub agrees : AgreesAlong progress unread
