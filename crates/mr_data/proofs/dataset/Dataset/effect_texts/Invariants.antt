use Rattle.std.proofs.Common.{◌≡◌, ◌++◌, ◌⊎◌}
use Rattle.std.specs.List.{flat_map}
use Rattle.std.specs.FinMap.{get, keys}
use Rattle.mr_effect.specs.Spelling.{texts}
use Rattle.mr_data.specs.Dataset.{IsDataset}
use Rattle.mr_data.specs.Rebuilding.{rebuilt, rebuilding}
use Rattle.mr_data.proofs.dataset.Dataset.effect_texts.Given as goal

-- the texts so far, and those of the keys to come; the invariant of the dataset is known once a key was looked up
abbrev pub invariant-loop-key : goal.invariant-loop-key
invariant-loop-key l = (l.out.items ++ texts (flat_map (λ k. rebuilt k (get l.fn.self k)) l.key-iterator) ≡ texts (rebuilding l.fn.self)) × ((l.key-iterator ≡ keys l.fn.self) ⊎ IsDataset l.fn.self)
