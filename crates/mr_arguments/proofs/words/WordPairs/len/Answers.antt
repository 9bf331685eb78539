use Rattle.std.proofs.Common.{ℕ, ◌/◌, length, map, sym, ◌∙◌, ap}
use Rattle.std.proofs.lemmas.List.{length-map}
use Rattle.std.specs.Cow.{cow_slice_items}
use Rattle.mr_arguments.proofs.PairLemmas.{length-paired}
use Rattle.mr_arguments.proofs.words.WordPairs.len.Goals as goal

pub returns-clause-len : goal.returns-clause-len
returns-clause-len c = ap (λ (n : ℕ). n / 2) (sym (length-map c.self.inside.words.now cow_slice_items)) ∙ sym (length-paired (map cow_slice_items c.self.inside.words.now)) ∙ ap length c.self.view_is
