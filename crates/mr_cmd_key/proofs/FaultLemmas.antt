-- Answered is the fault that comes first among those that the arguments of SCAN, and of EXPIRE and its kin, have.
use Rattle.std.proofs.Common.{ℕ, ℤ, pos, negsuc, zero, suc, ◌≡◌, List, [], ◌∷◌, ◌++◌, true, false, Option, Some, None, refl}
use Rattle.std.specs.Prelude.{if◌then◌else◌, int_lt, option_map, Result, Ok, Err}
use Rattle.std.specs.Option.{ok_or}
use Rattle.mr_bytes.specs.Number.{number_of}
use Rattle.mr_arguments.specs.Parts.{with, not_below_1}
use Rattle.mr_arguments.specs.FaultOrder.{counted, first_of, in_reading, answered_fault}
use Rattle.mr_arguments.proofs.FaultPlaces.{ComesBefore, ComesLater, no_other, OnlyFault}
use Rattle.mr_arguments.specs.declared.name.Name.{Name}
use Rattle.mr_arguments.specs.declared.name.Name.TheVariants as name
use Rattle.mr_arguments.specs.declared.fault.AskFault.{AskFault}
use Rattle.mr_arguments.specs.declared.fault.AskFault.TheVariants.{Syntax, Integer, ExpireTime, Other}
use Rattle.mr_arguments.specs.declared.fault.BadValue.TheVariants as bad
use Rattle.mr_arguments.specs.declared.fault.ExpiringCommand.{ExpiringCommand}
use Rattle.mr_arguments.specs.Expiry.{expiry_of}
use Rattle.mr_cmd_key.specs.Options.{condition_if_any, expire_condition, scan_options}
use Rattle.mr_cmd_key.specs.Parts.{cursor_at, cursor_of, expiring, key_expiry, kind_of, positive_if_any}
use Rattle.mr_cmd_key.proofs.ScanOrderLemmas.{scan_options_only}
use Rattle.mr_cmd_key.specs.ArgumentFaults.{in_scan_options, cursor_and_options, time_and_condition}
use Rattle.mr_arguments.specs.declared.expiry.ExpiryUnit.{ExpiryUnit}
use Rattle.mr_cmd_key.specs.declared.options.ScanOptions.{ScanOptions}
use Rattle.mr_cmd_key.specs.declared.key_ask.Cursor.{Cursor}
use Rattle.mr_cmd_key.specs.declared.key_ask.KeyAsk.{KeyAsk}
use Rattle.mr_cmd_key.specs.declared.key_ask.KeyAsk.TheVariants as key
use Rattle.mr_cmd_key.specs.Arguments.{expire, scan}

-- what is read first and stands behind
behind_read_first : {A X Y : Type 0} (next : X → Y → A) (r : Result X AskFault) (q : Result Y AskFault) → OnlyFault Syntax q → ComesLater 3 r
    → answered_fault (with q (λ y. with r (λ x. Ok (next x y)))) ≡ first_of (in_reading r ++ in_reading q)
behind_read_first next (Ok x) (Ok y) h k = refl
behind_read_first next (Err g) (Ok y) h k = refl
behind_read_first next (Ok x) (Err f) h k = refl
behind_read_first next (Err g) (Err f) h k = rw (h, k) refl

-- ---- EXPIRE and its kin
condition_fault : (ws : List (List ℕ)) → OnlyFault Syntax (condition_if_any ws)
condition_fault [] = tt
condition_fault (w ∷ []) = elim (expire_condition w) as (λ o. OnlyFault Syntax (with (ok_or o Syntax) (λ c. Ok (Some c)))) [ None ↦ refl | Some c ↦ tt ]
condition_fault (w ∷ v ∷ ws) = refl

amount_fault : (o : Option ℤ) (u : ExpiryUnit) (c : ExpiringCommand) → ComesLater 3 (with (ok_or o Integer) (λ n. ok_or (expiry_of u n) (ExpireTime c)))
amount_fault None u c = refl
amount_fault (Some n) u c = elim (expiry_of u n) as (λ e. ComesLater 3 (ok_or e (ExpireTime c))) [ None ↦ refl | Some e ↦ tt ]

pub expire_first : (n : Name) (u : ExpiryUnit) (ws : List (List ℕ)) → answered_fault (expire n u ws) ≡ first_of (counted n (time_and_condition u ws))
expire_first n u (k ∷ a ∷ ws) =
    behind_read_first (λ expiry condition. key.Expire k expiry condition) (key_expiry u a) (condition_if_any ws) (condition_fault ws) (amount_fault (number_of a) u (expiring u))
expire_first n u _ = refl

-- ---- SCAN
cursor_fault : (o : Option ℤ) → OnlyFault (Other bad.Cursor) (with (ok_or o (Other bad.Cursor)) cursor_at)
cursor_fault None = refl
cursor_fault (Some (pos zero)) = tt
cursor_fault (Some (pos (suc n))) = tt
cursor_fault (Some (negsuc n)) = refl

count_fault : (o : Option ℤ) → ComesBefore 6 (with (with (ok_or o Integer) (not_below_1 Syntax)) (λ n. Ok (Some n)))
count_fault None = refl
count_fault (Some n) = elim (int_lt n (pos 1)) as (λ b. ComesBefore 6 (with (if b then Err Syntax else Ok n) (λ m. Ok (Some m)))) [ true ↦ refl | false ↦ tt ]

counts_fault : (c : Option (List ℕ)) → ComesBefore 6 (positive_if_any c)
counts_fault None = tt
counts_fault (Some w) = count_fault (number_of w)

cursor_last : {C D : Type 0} (next : C → D → KeyAsk) (r : Result C AskFault) (q : Result D AskFault) → OnlyFault (Other bad.Cursor) r → ComesBefore 6 q
    → answered_fault (with q (λ n. with r (λ c. Ok (next c n)))) ≡ first_of (in_reading r ++ in_reading q)
cursor_last next (Ok c) (Ok n) h k = refl
cursor_last next (Ok c) (Err f) h k = refl
cursor_last next (Err g) (Ok n) h k = refl
cursor_last next (Err g) (Err f) h k = rw (h, k) refl

scan_cases : (r : Result Cursor AskFault) (q : Result ScanOptions AskFault) → OnlyFault (Other bad.Cursor) r → OnlyFault Syntax q
    → answered_fault (with q (λ options. with (positive_if_any options.count) (λ n. with r (λ place. Ok (key.Scan place options.pattern (option_map kind_of options.kind)))))) ≡ first_of (in_reading r ++ in_scan_options q)
scan_cases r (Ok s) h k = cursor_last (λ place n. key.Scan place s.pattern (option_map kind_of s.kind)) r (positive_if_any s.count) h (counts_fault s.count)
scan_cases (Ok c) (Err f) h k = refl
scan_cases (Err g) (Err f) h k = rw (h, k) refl

pub scan_first : (ws : List (List ℕ)) → answered_fault (scan ws) ≡ first_of (counted name.Scan (cursor_and_options ws))
scan_first (w ∷ ws) = scan_cases (cursor_of w) (scan_options ws) (cursor_fault (number_of w)) (no_other (scan_options ws) (scan_options_only ws))
scan_first _ = refl
