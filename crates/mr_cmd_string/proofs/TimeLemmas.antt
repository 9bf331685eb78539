-- The times that texts are set for are at least a millisecond.
use Rattle.std.proofs.Common.{ℕ, zero, suc, ℤ, pos, negsuc, ◌≡◌, List, [], ◌∷◌, Option, Some, None, subst, arith}
use Rattle.std.specs.Prelude.{int_le, IsTrue, IfOk, Ok}
use Rattle.std.specs.Option.{ok_or}
use Rattle.std.proofs.lemmas.Bool.Decides.{nat_tests}
use Rattle.mr_arguments.specs.Parts.{with, integer, not_below_1}
use Rattle.mr_arguments.specs.Expiry.{within_limit, said}
use Rattle.mr_cmd_string.specs.Parts.{seconds, milliseconds, set_expiry, lifetime_if_any}
use Rattle.mr_arguments.specs.Amounts.{is_amount, of_seconds, seconds_of, milliseconds_of}
use Rattle.mr_cmd_string.specs.Arguments.{set, setex, psetex}
use Rattle.mr_cmd_string.specs.Options.{no_set_options, set_options}
use Rattle.mr_cmd_string.specs.Carried.{IsTime, IsTimed}
use Rattle.mr_arguments.proofs.PartLemmas.{with_ok, if_with, not_below_1_is}
use Rattle.mr_arguments.proofs.ExpiryLemmas.{limit_passed, within_read}
use Rattle.mr_arguments.specs.declared.fault.AskFault.{AskFault}
use Rattle.mr_arguments.specs.declared.fault.AskFault.TheVariants.{ExpireTime}
use Rattle.mr_arguments.specs.declared.fault.ExpiringCommand.TheVariants.{Set, SetEx, PSetEx}
use Rattle.mr_arguments.specs.declared.expiry.Expiry.{Expiry}
use Rattle.mr_arguments.specs.declared.expiry.Expiry.TheVariants.{Seconds, Milliseconds}
use Rattle.mr_arguments.specs.declared.expiry.ExpiryUnit.{ExpiryUnit}
use Rattle.mr_arguments.specs.declared.expiry.ExpiryUnit.TheVariants as unit
use Rattle.mr_cmd_string.specs.declared.text_ask.Lifetime.{Lifetime}
use Rattle.mr_cmd_string.specs.declared.text_ask.Lifetime.TheVariants.{Endless, Kept, Until}
use Rattle.mr_cmd_string.specs.declared.text_ask.SetCondition.{SetCondition}
use Rattle.mr_cmd_string.specs.declared.text_ask.SetReply.{SetReply}
use Rattle.mr_cmd_string.specs.declared.text_ask.TextAsk.TheVariants as text
use Rattle.mr_cmd_string.specs.declared.options.LifetimeOption.{LifetimeOption}
use Rattle.mr_cmd_string.specs.declared.options.LifetimeOption.TheVariants as lifetime

-- ---- a number from 1 on, in any unit
from_1 : (f : AskFault) (n m : ℤ) → not_below_1 f n ≡ Ok m → IsTrue (int_le (pos 1) m)
from_1 f n m h = subst (λ (z : ℤ). IsTrue (int_le (pos 1) z)) (not_below_1_is f n m h) (passed n h)
  where
    passed : (z : ℤ) → not_below_1 f z ≡ Ok m → IsTrue (int_le (pos 1) z)
    passed (pos zero) e = cc
    passed (pos (suc k)) e = grind (arith, nat_tests)
    passed (negsuc k) e = cc

times_1000 : (n : ℤ) → IsTrue (int_le (pos 1) n) → IsTrue (int_le (pos 1) (of_seconds n))
times_1000 (pos n) h = grind (arith, nat_tests, h)
times_1000 (negsuc n) h = cc

said_timed : (u : ExpiryUnit) (n : ℤ) → IsTrue (int_le (pos 1) n) → IsTime (said u n)
said_timed unit.Seconds n h = times_1000 n h
said_timed unit.Milliseconds n h = h
said_timed unit.AtSecond n h = times_1000 n h
said_timed unit.AtMillisecond n h = h

-- ---- SET
expiry_timed : (u : ExpiryUnit) (w : List ℕ) (e : Expiry) → set_expiry u w ≡ Ok e → IsTime e
expiry_timed u w e h =
    let x = with_ok (integer w) (λ n. with (not_below_1 (ExpireTime Set) n) (within_limit Set u)) e h in
    let y = with_ok (not_below_1 (ExpireTime Set) x.0) (within_limit Set u) e x.1.1 in
    subst IsTime (within_read Set u y.0 e y.1.1) (said_timed u y.0 (from_1 (ExpireTime Set) x.0 y.0 y.1.0))

lifetime_timed : (k v : List ℕ) (c : Option SetCondition) (r : SetReply) (o : Option LifetimeOption) (l : Lifetime) → lifetime_if_any o ≡ Ok l → IsTimed (text.Set k v c r l)
lifetime_timed k v c r o Endless h = tt
lifetime_timed k v c r o Kept h = tt
lifetime_timed k v c r None (Until e) h = cc
lifetime_timed k v c r (Some lifetime.Kept) (Until e) h = cc
lifetime_timed k v c r (Some (lifetime.Until u w)) (Until e) h =
    let x = with_ok (set_expiry u w) (λ e. Ok (Until e)) (Until e) h in
    let same : x.0 ≡ e = cc in
    subst IsTime same (expiry_timed u w x.0 x.1.0)

pub set_timed : (ws : List (List ℕ)) → IfOk (set ws) IsTimed
set_timed [] = tt
set_timed (k ∷ []) = tt
set_timed (k ∷ v ∷ ws) = if_with (set_options no_set_options ws) _ _ (λ s h. if_with (lifetime_if_any s.lifetime) _ _ (λ l e. lifetime_timed k v s.condition s.reply s.lifetime l e))

-- ---- SETEX, PSETEX
seconds_timed : (n m : ℤ) → seconds n ≡ Ok m → IsTime (Seconds m)
seconds_timed n m h =
    let x = with_ok (not_below_1 (ExpireTime SetEx) n) (λ k. ok_or (seconds_of k) (ExpireTime SetEx)) m h in
    let same = limit_passed (is_amount (of_seconds x.0)) (ExpireTime SetEx) x.0 m x.1.1 in
    subst (λ (z : ℤ). IsTime (Seconds z)) same (times_1000 x.0 (from_1 (ExpireTime SetEx) n x.0 x.1.0))

pub setex_timed : (ws : List (List ℕ)) → IfOk (setex ws) IsTimed
setex_timed (k ∷ a ∷ v ∷ []) = if_with (integer a) _ _ (λ n e. if_with (seconds n) _ _ (λ m h. seconds_timed n m h))
setex_timed _ = tt

milliseconds_timed : (n m : ℤ) → milliseconds n ≡ Ok m → IsTime (Milliseconds m)
milliseconds_timed n m h =
    let x = with_ok (not_below_1 (ExpireTime PSetEx) n) (λ k. ok_or (milliseconds_of k) (ExpireTime PSetEx)) m h in
    let same = limit_passed (is_amount x.0) (ExpireTime PSetEx) x.0 m x.1.1 in
    subst (λ (z : ℤ). IsTime (Milliseconds z)) same (from_1 (ExpireTime PSetEx) n x.0 x.1.0)

pub psetex_timed : (ws : List (List ℕ)) → IfOk (psetex ws) IsTimed
psetex_timed (k ∷ a ∷ v ∷ []) = if_with (integer a) _ _ (λ n e. if_with (milliseconds n) _ _ (λ m h. milliseconds_timed n m h))
psetex_timed _ = tt
