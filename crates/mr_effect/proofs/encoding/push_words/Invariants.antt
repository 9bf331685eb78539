use Rattle.std.proofs.Common.{◌≡◌, ◌∷◌, ◌++◌, drop}
use Rattle.std.specs.List.{flat_map}
use Rattle.mr_resp.specs.Appends.{Extends}
use Rattle.mr_resp.specs.Spelling.{array, bulk}
use Rattle.mr_effect.specs.Names.{text_of}
use Rattle.mr_effect.proofs.encoding.push_words.Given as goal

abbrev pub invariant-loop-word : goal.invariant-loop-word
invariant-loop-word l = record {
  text : l.out.items ++ flat_map bulk (drop l.word-index l.words) ≡ l.fn.out.items ++ array (text_of l.fn.name ∷ l.fn.key ∷ l.fn.words);
  kept : Extends l.fn.out.items l.out.items;
}
