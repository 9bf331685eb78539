-- Ids, and the words that name them.
use Rattle.std.proofs.Common.{◌≡◌, ◌≢◌, ℕ, List, [], ◌∷◌, length, get_or, replicate, true, false, cond, Option, Some, None, refl, sym, ap, ◌∙◌, subst, arith}
use Rattle.std.specs.Prelude.{Result, Ok, Err, IfSome, IfNone}
use Rattle.std.specs.Str.{bytes_eq}
use Rattle.hex.specs.Hex.{decode_sized}
use Rattle.hex.specs.declared.error.FromHexError.{FromHexError}
use Rattle.hex.proofs.HexLemmas.{decode_of-ok, decode_sized-encode_lower, decode_sized-ok, decode_sized-twice}
use Rattle.mr_repl.specs.ReplId.{IsId, digits_of}
use Rattle.mr_bytes.proofs.Numbers.{equal_bytes, same_bytes}
use Rattle.mr_world_script.specs.Said.{NamesId}
use Rattle.mr_world_script.specs.Words.{id_by, id_of, written_out}

-- the digits of an id read as it
read_back : (id digits : List ℕ) → IsId id → digits_of id ≡ digits → id_by digits (decode_sized digits 20) ≡ Some id
read_back id digits h e =
    let decoded : decode_sized digits 20 ≡ Ok id = ap (λ t. decode_sized t 20) (sym e) ∙ decode_sized-encode_lower id 20 h.long h.bytes in
    ap (id_by digits) decoded ∙ subst (λ (t : List ℕ). id_by t (Ok id) ≡ Some id) e (ap (λ b. cond b (Some id) None) (equal_bytes (digits_of id)))

pub id_is : (word id : List ℕ) → NamesId word id → id_of word ≡ Some id
unfolding id_of
id_is word id h = read_back id (written_out word) h.is_id h.digits

-- what was decoded is an id
decoded_id : (digits id : List ℕ) → decode_sized digits 20 ≡ Ok id → IsId id
decoded_id digits id h =
    let sized = decode_sized-ok digits 20 id h in
    let parts = decode_of-ok digits id (sym (decode_sized-twice digits 20 sized) ∙ h) in
    record { long = omega (arith, sized, parts.2); bytes = parts.3 }

only_id : (digits id : List ℕ) (r : Result (List ℕ) FromHexError) → decode_sized digits 20 ≡ r → id_by digits r ≡ Some id → IsId id × (digits_of id ≡ digits)
only_id digits id (Err fault) e h = cc
only_id digits id (Ok other) e h = elim (bytes_eq (digits_of other) digits) as (λ b. bytes_eq (digits_of other) digits ≡ b → cond b (Some other) None ≡ Some id → IsId id × (digits_of id ≡ digits)) [
  | true ↦ λ t s. let same : other ≡ id = cc in (subst IsId same (decoded_id digits other e), sym (ap digits_of same) ∙ same_bytes _ _ t)
  | false ↦ λ t s. cc
] refl h

pub id_names : (word id : List ℕ) → id_of word ≡ Some id → NamesId word id
unfolding id_of
id_names word id h = let is = only_id (written_out word) id (decode_sized (written_out word) 20) refl h in record { is_id = is.0; digits = is.1 }

no_id : (word : List ℕ) (r : Option (List ℕ)) → ((id : List ℕ) → IsId id → digits_of id ≢ written_out word) → id_of word ≡ r → r ≡ None
no_id word None none e = refl
no_id word (Some id) none e = let is = id_names word id e in absurd (none id is.is_id is.digits)

-- what a call answered that read these digits
pub found_id : (word digits : List ℕ) (r : Option (List ℕ)) → written_out word ≡ digits
    → IfSome r (λ id. digits_of id ≡ digits) → IfSome r IsId → IfNone r ((id : List ℕ) → IsId id → digits_of id ≢ digits) → r ≡ id_of word
found_id word digits (Some id) same e h none = sym (id_is word id (record { is_id = h; digits = e ∙ sym same }))
found_id word digits None same e h none = sym (no_id word (id_of word) (λ id is other. none id is (other ∙ same)) refl)

pub one_digit : (word : List ℕ) → length word ≡ 1 → written_out word ≡ replicate 40 (get_or word 0 0)
one_digit [] h = absurd (omega (arith, h))
one_digit (digit ∷ []) h = refl
one_digit (digit ∷ next ∷ rest) h = absurd (omega (arith, h))

pub all_digits : (word : List ℕ) → (length word ≡ 1 → ⊥) → written_out word ≡ word
all_digits [] h = refl
all_digits (digit ∷ []) h = absurd (h refl)
all_digits (digit ∷ next ∷ rest) h = refl
