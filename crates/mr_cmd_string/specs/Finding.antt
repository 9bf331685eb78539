-- What is found at the keys that pairs name, at a moment.
use Rattle.std.specs.Prelude.{ℤ, List, filter, Bool, true, not, is_some}
use Rattle.std.specs.List.{list_any}
use Rattle.std.specs.FinMap.{get}
use Rattle.mr_map.specs.Bytes.{Bytes}
use Rattle.mr_keyspace.specs.Dataset.{Dataset}
use Rattle.mr_data.specs.Dataset.{live}
use Rattle.mr_cmd_shared.specs.Keys.{is_stored}
use Rattle.mr_cmd_string.specs.Setting.{is_plain}

-- one of them is there and not expired
abbrev pub is_any_live : ℤ → List (Bytes × Bytes) → Dataset → Bool
is_any_live now pairs m = list_any (λ p. is_some (live now (get m p.0))) pairs

-- one of them is expired
abbrev pub is_any_expired : ℤ → List (Bytes × Bytes) → Dataset → Bool
is_any_expired now pairs m = list_any (λ p. is_stored now true (get m p.0)) pairs

-- those that don't hold their text already, without a deadline
abbrev pub changed_at : ℤ → List (Bytes × Bytes) → Dataset → List (Bytes × Bytes)
changed_at now pairs m = filter (λ p. not (is_plain p.1 (live now (get m p.0)))) pairs
