use Rattle.std.proofs.Common.{ℕ, ◌%◌, map, nat_eq, sym, ◌∙◌, ap}
use Rattle.std.proofs.lemmas.List.{length-map}
use Rattle.std.specs.Cow.{cow_slice_items}
use Rattle.mr_arguments.proofs.PairLemmas.{are_pairs-even}
use Rattle.mr_arguments.proofs.words.are_pairs.Goals as goal

pub returns : goal.returns
returns c = ap (λ (n : ℕ). nat_eq (n % 2) 0) (sym (length-map c.args.words.now cow_slice_items)) ∙ sym (are_pairs-even (map cow_slice_items c.args.words.now))
