use Rattle.std.proofs.Common.{rules, get_or, ap, ◌∙◌}
use Rattle.std.proofs.lemmas.Simd.{get_or-chunk}
use Rattle.mr_glob.proofs.pattern.mask.front.Goals as goal

pub returns-then-text-ge-WINDOW : goal.returns-then-text-ge-WINDOW
returns-then-text-ge-WINDOW c k small here = get_or-chunk 0 64 c.args.text.now k 0 small ∙ ap (λ n. get_or c.args.text.now n 0) (search rules)
