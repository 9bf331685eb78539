-- What was found at some keys.
use Rattle.std.specs.Prelude.{◌≡◌, ℤ, List, Bool, true, if◌then◌else◌, Some, None}
use Rattle.std.specs.Borrow.{Bor}
use Rattle.std.specs.List.{list_any}
use Rattle.std.specs.FinMap.{get}
use Rattle.mr_map.specs.Bytes.{Bytes}
use Rattle.mr_keyspace.specs.Dataset.{Dataset}
use Rattle.mr_data.specs.Dataset.{seen}
use Rattle.mr_cmd_shared.specs.Keys.{is_stored}
use Rattle.mr_cmd_set.specs.Members.{Members}
use Rattle.mr_cmd_set.specs.Grouping.{members_of}
use Rattle.mr_cmd_set.specs.Combining.{sets_at}

-- one of the keys is stored and expired
abbrev pub is_any_expired : ℤ → List Bytes → Dataset → Bool
is_any_expired now ks m = list_any (λ k. is_stored now true (get m k)) ks

-- the sets, unless one of the keys holds another kind, and whether one is expired
pub record HasFound (now : ℤ) (m : Dataset) (ks : List Bytes) (found : List (Bor Members)) (other expired : Bool) : Type 0 where
  pub sets_are : (if other then None else Some (members_of found)) ≡ sets_at ks (seen now m)
  pub expired_is : expired ≡ is_any_expired now ks m
