use Rattle.std.proofs.Common.{◌≡◌, ◌++◌, ℕ, false, [], ◌∷◌, append-nil, string_bytes}
use Rattle.std.specs.Char.{encode_utf8, is_control}
use Rattle.std.proofs.lemmas.Str.{NoCharPasses-append}
use Rattle.clap.specs.Words.{Text}
use Rattle.mr_options.specs.Outcomes.{IsOneLine}
use Rattle.mr_options.proofs.explain.one_line.Goals as goal

one_more : (text : Text) (c : ℕ) → is_control c ≡ false → IsOneLine text → IsOneLine (text ++ encode_utf8 c)
one_more text c e h = NoCharPasses-append is_control text (encode_utf8 c) h (c ∷ [], append-nil (encode_utf8 c), (e, tt))

pub loop-c-preserved : goal.loop-c-preserved
loop-c-preserved c = rw c.in_ok-push.ensures.bytes (one_more (string_bytes c.loop-c.line) c.shown.result c.shown.ensures c.loop-c.invariant)
