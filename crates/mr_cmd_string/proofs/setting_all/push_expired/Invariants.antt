use Rattle.std.proofs.Common.{◌≡◌, ◌++◌, map}
use Rattle.std.specs.Cow.{cow_slice_items}
use Rattle.mr_cmd_string.specs.SettingAll.{names}
use Rattle.mr_cmd_string.proofs.setting_all.push_expired.Given as goal

abbrev pub invariant-loop-key : goal.invariant-loop-key
invariant-loop-key l = map cow_slice_items l.keys.items ++ names l.key-iterator ≡ names l.pairs
