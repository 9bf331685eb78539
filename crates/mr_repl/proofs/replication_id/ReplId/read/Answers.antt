use Rattle.std.proofs.Common.{◌≡◌, ℕ, List, Ok, ap, sym, ◌∙◌, true, false}
use Rattle.hex.specs.Hex.{decode_sized}
use Rattle.hex.proofs.HexLemmas.{decode_sized-encode_lower}
use Rattle.std.specs.Result.{is_err}
use Rattle.std.proofs.lemmas.Slice.Eq.{bytes_eq-Decides}
use Rattle.mr_repl.specs.ReplId.{IsId, digits_of}
use Rattle.mr_repl.proofs.replication_id.ReplId.read.Goals as goal

-- a text of an id is decoded to it
decoded : (id text : List ℕ) → IsId id → digits_of id ≡ text → decode_sized text 20 ≡ Ok id
decoded id text h e = ap (λ t. decode_sized t 20) (sym e) ∙ decode_sized-encode_lower id 20 h.long h.bytes

pub returns-then-is_err-clause-none : goal.returns-then-is_err-clause-none
returns-then-is_err-clause-none c id h e =
    let good = rw (decoded id c.args.text.now h e) at c.decode_to_slice.ensures.value in
    let wrong : true ≡ false = sym c.if-is_err.true ∙ c.is_err.ensures.value ∙ ap is_err good.0 in cc

pub returns-else-eq-clause-none : goal.returns-else-eq-clause-none
returns-else-eq-clause-none c id h e =
    let good = rw (decoded id c.args.text.now h e) at c.decode_to_slice.ensures.value in
    let same = c.as_slice.ensures ∙ c.digits-digits.ensures ∙ ap digits_of (c.new-id.ensures.value ∙ good.1) ∙ e in
    let wrong : true ≡ false = sym ((bytes_eq-Decides c.as_slice.result.now c.args.text.now).1 same) ∙ sym c.eq.ensures ∙ c.if-eq.false in cc
