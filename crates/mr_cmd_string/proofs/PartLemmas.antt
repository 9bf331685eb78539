-- What was read of an argument is what its word spells.
use Rattle.mr_arguments.proofs.PartLemmas.{with_ok, number_part, number_part_read, found_passes, ok_found, not_below_1_is}
use Rattle.std.proofs.Common.{ℕ, ℤ, ◌≡◌, List, [], ◌∷◌, true, false, Option, Some, None, sym, ◌∙◌, ap}
use Rattle.std.specs.Prelude.{neg_ℤ, IfOk, if◌then◌else◌, Result, Ok, Err}
use Rattle.std.specs.Option.{ok_or}
use Rattle.std.proofs.Math.IntN.{neg_ℤ-neg_ℤ}
use Rattle.mr_bytes.specs.Number.{is_i64}
use Rattle.mr_bytes.proofs.Numbers.{same_bytes}
use Rattle.mr_arguments.specs.Names.{lowered}
use Rattle.mr_arguments.specs.Parts.{with, integer, not_below_1}
use Rattle.mr_cmd_string.specs.Parts.{opposite, seconds, milliseconds, set_expiry, lifetime_if_any}
use Rattle.mr_arguments.specs.Expiry.{within_limit, said, number_said}
use Rattle.mr_arguments.specs.Amounts.{is_amount, of_seconds, seconds_of, milliseconds_of}
use Rattle.mr_cmd_string.specs.Options.{set_text, unit_text, is_set_option, all_set_options, set_option, is_unit, all_units, unit_of}
use Rattle.mr_arguments.specs.Spelling.{Part, Number, Keyword}
use Rattle.mr_cmd_string.specs.Spelled.{lifetime_option}
use Rattle.mr_arguments.specs.declared.fault.AskFault.{AskFault}
use Rattle.mr_arguments.specs.declared.fault.AskFault.TheVariants.{Syntax, ExpireTime, Other}
use Rattle.mr_arguments.specs.declared.fault.BadValue.TheVariants as bad
use Rattle.mr_arguments.specs.declared.fault.ExpiringCommand.TheVariants.{Set, SetEx, PSetEx}
use Rattle.mr_arguments.specs.declared.expiry.Expiry.{Expiry}
use Rattle.mr_arguments.specs.declared.expiry.ExpiryUnit.{ExpiryUnit}
use Rattle.mr_cmd_string.specs.declared.text_ask.Lifetime.{Lifetime}
use Rattle.mr_cmd_string.specs.declared.text_ask.Lifetime.TheVariants.{Endless, Kept, Until}
use Rattle.mr_cmd_string.specs.declared.options.LifetimeOption.{LifetimeOption}
use Rattle.mr_cmd_string.specs.declared.options.LifetimeOption.TheVariants as lifetime
use Rattle.mr_cmd_string.specs.declared.options.SetOption.{SetOption}
use Rattle.mr_cmd_string.specs.declared.options.SetOption.TheVariants as set
use Rattle.mr_arguments.proofs.ExpiryLemmas.{limit_passed, number_is, unit_is, within_read}

pub with_opposite : {A : Type 0} (n : ℤ) (next : ℤ → Result A AskFault) (P : A → Type 0)
    → ((m : ℤ) → n ≡ neg_ℤ m → IfOk (next m) P) → IfOk (with (opposite n) next) P
with_opposite n next P h = elim (is_i64 (neg_ℤ n)) as (λ b. IfOk (with (if b then Ok (neg_ℤ n) else Err (Other bad.Decrement)) next) P) [
  | true ↦ h (neg_ℤ n) (sym (neg_ℤ-neg_ℤ n))
  | false ↦ tt
]

-- an option is spelled by its word
pub option_text : (w : List ℕ) (o : SetOption) → ok_or (set_option w) Syntax ≡ Ok o → lowered w ≡ set_text o
option_text w o h = same_bytes _ _ (found_passes (is_set_option (lowered w)) all_set_options o (ok_found (set_option w) o h))

pub unit_named : (w : List ℕ) (u : ExpiryUnit) → unit_of w ≡ Some u → lowered w ≡ unit_text u
unit_named w u h = same_bytes _ _ (found_passes (is_unit (lowered w)) all_units u h)

pub seconds_read : (n m : ℤ) → seconds n ≡ Ok m → n ≡ m
seconds_read n m h =
    let x = with_ok (not_below_1 (ExpireTime SetEx) n) (λ k. ok_or (seconds_of k) (ExpireTime SetEx)) m h in
    not_below_1_is (ExpireTime SetEx) n x.0 x.1.0 ∙ limit_passed (is_amount (of_seconds x.0)) (ExpireTime SetEx) x.0 m x.1.1

pub milliseconds_read : (n m : ℤ) → milliseconds n ≡ Ok m → n ≡ m
milliseconds_read n m h =
    let x = with_ok (not_below_1 (ExpireTime PSetEx) n) (λ k. ok_or (milliseconds_of k) (ExpireTime PSetEx)) m h in
    not_below_1_is (ExpireTime PSetEx) n x.0 x.1.0 ∙ limit_passed (is_amount x.0) (ExpireTime PSetEx) x.0 m x.1.1

-- what says how long a value stays, before its number is read
abbrev pub lifetime_words : Option LifetimeOption → List (List Part)
lifetime_words None = []
lifetime_words (Some lifetime.Kept) = (Keyword (set_text set.Kept) ∷ []) ∷ []
lifetime_words (Some (lifetime.Until u w)) = (Keyword (unit_text u) ∷ number_part w ∷ []) ∷ []

until_read : (u : ExpiryUnit) (w : List ℕ) (e : Expiry) → set_expiry u w ≡ Ok e → lifetime_words (Some (lifetime.Until u w)) ≡ lifetime_option (Until e)
until_read u w e h =
    let x = with_ok (integer w) (λ n. with (not_below_1 (ExpireTime Set) n) (within_limit Set u)) e h in
    let y = with_ok (not_below_1 (ExpireTime Set) x.0) (within_limit Set u) e x.1.1 in
    let same : x.0 ≡ y.0 = not_below_1_is (ExpireTime Set) x.0 y.0 y.1.0 in
    ap (λ (p : Part). (Keyword (unit_text u) ∷ p ∷ []) ∷ []) (number_part_read w x.0 x.1.0 ∙ ap (λ (n : ℤ). Number n) (same ∙ sym (number_is u y.0)))
    ∙ ap (λ (v : ExpiryUnit). (Keyword (unit_text v) ∷ Number (number_said (said u y.0)) ∷ []) ∷ []) (sym (unit_is u y.0))
    ∙ ap (λ (x : Expiry). lifetime_option (Until x)) (within_read Set u y.0 e y.1.1)

pub lifetime_read : (o : Option LifetimeOption) (l : Lifetime) → lifetime_if_any o ≡ Ok l → lifetime_words o ≡ lifetime_option l
lifetime_read None l h = let same : Endless ≡ l = cc in ap lifetime_option same
lifetime_read (Some lifetime.Kept) l h = let same : Kept ≡ l = cc in ap lifetime_option same
lifetime_read (Some (lifetime.Until u w)) l h =
    let x = with_ok (set_expiry u w) (λ e. Ok (Until e)) l h in
    let same : Until x.0 ≡ l = cc in
    until_read u w x.0 x.1.0 ∙ ap lifetime_option same
