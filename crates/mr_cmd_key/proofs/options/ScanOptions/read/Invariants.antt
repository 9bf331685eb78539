use Rattle.std.proofs.Common.{◌≡◌, map}
use Rattle.std.specs.Cow.{cow_slice_items}
use Rattle.mr_arguments.specs.Options.{added}
use Rattle.mr_cmd_key.specs.Options.{scan_pair, scan_options}
use Rattle.mr_cmd_key.proofs.options.ScanOptions.read.Given as goal

-- what the pairs that are left add
abbrev pub invariant-loop-option : goal.invariant-loop-option
invariant-loop-option l =
    (goal.iterator-loop-option).can_next l.option-iterator ×
    (goal.iterator-loop-option).is_finite l.option-iterator ×
    (added scan_pair (record { pattern = l.options.0; count = l.options.1.0; kind = l.options.1.1.0 }) l.option-iterator ≡ scan_options (map cow_slice_items l.words))
