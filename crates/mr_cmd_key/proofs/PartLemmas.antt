-- What was read of an argument is what its word spells.
use Rattle.mr_arguments.proofs.PartLemmas.{with_ok, integer_read, found_passes, ok_found}
use Rattle.std.proofs.Common.{arith, ℕ, zero, suc, ℤ, pos, negsuc, ◌≡◌, List, [], ◌∷◌, Bool, true, false, Option, Some, None, refl, ◌∙◌, ap, subst}
use Rattle.std.specs.Prelude.{IsTrue, IfOk, IfSome, if◌then◌else◌, Result, Ok, Err}
use Rattle.std.specs.Option.{ok_or}
use Rattle.std.specs.Fmt.{signed_decimal}
use Rattle.std.specs.Str.{bytes_eq}
use Rattle.mr_bytes.specs.Number.{number_of, is_i64}
use Rattle.std.proofs.lemmas.Bool.{ltb-true}
use Rattle.mr_bytes.proofs.Numbers.{same_bytes, number_text}
use Rattle.mr_arguments.specs.Names.{lowered}
use Rattle.mr_arguments.specs.Parts.{with, integer, not_below_1}
use Rattle.mr_cmd_key.specs.Parts.{positive, positive_if_any, cursor_at, cursor_of, timing_text, timing_of, expiring, key_expiry}
use Rattle.mr_arguments.specs.Expiry.{within_limit, said}
use Rattle.mr_cmd_key.specs.Options.{expire_text, scan_text, is_expire_condition, all_expire_conditions, expire_condition, condition_if_any, scan_option}
use Rattle.mr_arguments.specs.Spelling.{IsPart, IsPositive, AreParts}
use Rattle.mr_cmd_key.specs.Spelled.{cursor_part, expire_part}
use Rattle.mr_arguments.specs.declared.fault.AskFault.{AskFault}
use Rattle.mr_arguments.specs.declared.fault.AskFault.TheVariants.{Syntax, Other}
use Rattle.mr_arguments.specs.declared.fault.BadValue.TheVariants as bad
use Rattle.mr_arguments.specs.declared.expiry.Expiry.{Expiry}
use Rattle.mr_arguments.specs.declared.expiry.ExpiryUnit.{ExpiryUnit}
use Rattle.mr_cmd_key.specs.declared.key_ask.ExpireCondition.{ExpireCondition}
use Rattle.mr_cmd_key.specs.declared.key_ask.Cursor.{Cursor}
use Rattle.mr_cmd_key.specs.declared.key_ask.Cursor.TheVariants.{Start, Behind}
use Rattle.mr_cmd_key.specs.declared.key_ask.Timing.{Timing}
use Rattle.mr_cmd_key.specs.declared.key_ask.Timing.TheVariants.{Later, Now}
use Rattle.mr_cmd_key.specs.declared.options.ScanOption.{ScanOption}
use Rattle.mr_cmd_key.specs.declared.options.ScanOption.TheVariants as scan
use Rattle.mr_arguments.proofs.ExpiryLemmas.{within_read}

from_1 : (w : List ℕ) (n m : ℤ) → not_below_1 Syntax n ≡ Ok m → (w ≡ signed_decimal n) × IsTrue (is_i64 n) → IsPositive w
from_1 w (pos zero) m h e = cc
from_1 w (pos (suc n)) m h e = (suc n, (omega arith, ltb-true _ _ e.1, e.0))
from_1 w (negsuc n) m h e = cc

pub positive_count : (c : Option (List ℕ)) (n : Option ℤ) → positive_if_any c ≡ Ok n → IfSome c IsPositive
positive_count None n h = tt
positive_count (Some w) n h =
    let some = with_ok (positive w) _ n h in
    let number = with_ok (integer w) (not_below_1 Syntax) some.0 some.1.0 in
    from_1 w number.0 some.0 number.1.1 (number_text w number.0 (integer_read w number.0 number.1.0))

pub with_cursor : {A : Type 0} (w : List ℕ) (next : Cursor → Result A AskFault) (P : A → Type 0)
    → ((c : Cursor) → IsPart w (cursor_part c) → IfOk (next c) P) → IfOk (with (cursor_of w) next) P
with_cursor w next P h = elim (number_of w) as (λ o. number_of w ≡ o → IfOk (with (with (ok_or o (Other bad.Cursor)) cursor_at) next) P) [
  | None ↦ λ s. tt
  | Some n ↦ λ s. at n (number_text w n s)
] refl
  where
    at : (n : ℤ) → (w ≡ signed_decimal n) × IsTrue (is_i64 n) → IfOk (with (cursor_at n) next) P
    at (pos zero) e = h Start e.0
    at (pos (suc n)) e = h Behind (suc n, (omega arith, ltb-true _ _ e.1, e.0))
    at (negsuc n) e = tt

pub with_timing : {A : Type 0} (w : List ℕ) (next : Timing → Result A AskFault) (P : A → Type 0)
    → ((t : Timing) → lowered w ≡ timing_text t → IfOk (next t) P) → IfOk (with (timing_of w) next) P
with_timing w next P h = by_test (bytes_eq (lowered w) (timing_text Later)) (bytes_eq (lowered w) (timing_text Now)) refl refl
  where
    by_test : (a b : Bool) → bytes_eq (lowered w) (timing_text Later) ≡ a → bytes_eq (lowered w) (timing_text Now) ≡ b
        → IfOk (with (if a then Ok Later else (if b then Ok Now else Err Syntax)) next) P
    by_test true b s t = h Later (same_bytes _ _ s)
    by_test false true s t = h Now (same_bytes _ _ t)
    by_test false false s t = tt

condition_named : (w : List ℕ) (c : ExpireCondition) → ok_or (expire_condition w) Syntax ≡ Ok c → lowered w ≡ expire_text c
condition_named w c h = same_bytes _ _ (found_passes (is_expire_condition (lowered w)) all_expire_conditions c (ok_found (expire_condition w) c h))

pub condition_read : (ws : List (List ℕ)) (c : Option ExpireCondition) → condition_if_any ws ≡ Ok c → AreParts ws (expire_part c)
condition_read [] c h = let same : None ≡ c = cc in subst (λ x. AreParts [] (expire_part x)) same tt
condition_read (w ∷ []) c h =
    let found = with_ok (ok_or (expire_condition w) Syntax) (λ x. Ok (Some x)) c h in
    let same : Some found.0 ≡ c = cc in
    subst (λ x. AreParts (w ∷ []) (expire_part x)) same (condition_named w found.0 found.1.0, tt)
condition_read (w ∷ v ∷ ws) c h = cc

pub key_expiry_read : (u : ExpiryUnit) (w : List ℕ) (e : Expiry) → key_expiry u w ≡ Ok e → (n : ℤ) × ((said u n ≡ e) × (w ≡ signed_decimal n))
key_expiry_read u w e h =
    let x = with_ok (integer w) (within_limit (expiring u) u) e h in
    (x.0, (within_read (expiring u) u x.0 e x.1.1, (number_text w x.0 (integer_read w x.0 x.1.0)).0))

pub scan_option_text : (w : List ℕ) (o : ScanOption) → scan_option w ≡ Ok o → lowered w ≡ scan_text o
scan_option_text w o h = by_test (bytes_eq (lowered w) (scan_text scan.Pattern)) (bytes_eq (lowered w) (scan_text scan.Count)) (bytes_eq (lowered w) (scan_text scan.Kind)) refl refl refl h
  where
    by_test : (a b c : Bool) → bytes_eq (lowered w) (scan_text scan.Pattern) ≡ a → bytes_eq (lowered w) (scan_text scan.Count) ≡ b → bytes_eq (lowered w) (scan_text scan.Kind) ≡ c
        → (if a then Ok scan.Pattern else (if b then Ok scan.Count else (if c then Ok scan.Kind else Err Syntax))) ≡ Ok o → lowered w ≡ scan_text o
    by_test true b c s t u e = let same : scan.Pattern ≡ o = cc in same_bytes _ _ s ∙ ap scan_text same
    by_test false true c s t u e = let same : scan.Count ≡ o = cc in same_bytes _ _ t ∙ ap scan_text same
    by_test false false true s t u e = let same : scan.Kind ≡ o = cc in same_bytes _ _ u ∙ ap scan_text same
    by_test false false false s t u e = cc
