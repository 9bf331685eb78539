use Rattle.std.proofs.Common.{◌++◌, List, ℕ, ◌∙◌, ap}
use Rattle.std.specs.List.{flat_map}
use Rattle.mr_resp.specs.Spelling.{bulk}
use Rattle.mr_effect.specs.Names.{text_of}
use Rattle.mr_effect.proofs.Appending.{whole}
use Rattle.mr_effect.proofs.encoding.push_words.Goals as goal

pub loop-word-init : goal.loop-word-init
loop-word-init c = record {
  text = ap (λ (t : List ℕ). t ++ flat_map bulk c.args.words.now) c.in_ok-push_head.ensures.ok ∙ whole c.args.out.now.items (text_of c.args.name) c.args.key.now c.args.words.now c.len.result c.len.ensures.len;
  kept = c.push_head.ensures.kept;
}
