-- How long a replica leaves its master alone before it dials again.
use Rattle.std.specs.Prelude.{ℕ, ℤ, ◌*◌, ◌-ℤ◌, min, Bool, true, ◌||◌, Option, None, Some, if◌then◌else◌, int_le, int_lt, nat_le, unsigned_abs, refl}
use Rattle.std.specs.Coded.{Coded, code_by, coded×, coded_ℕ, coded_ℤ, coded_option}

-- when the master was dialled last, if it was, how long it is left alone behind that, and how long behind the next dial; all in milliseconds
pub record PatienceState : Type 0 where
  pub last : Option ℤ
  pub wait : ℕ
  pub next : ℕ

abbrev pub patience_code : Coded PatienceState
patience_code = code_by (Option ℤ × (ℕ × ℕ)) (coded× (coded_option coded_ℤ) (coded× coded_ℕ coded_ℕ)) (λ p. (p.last, (p.wait, p.next))) (λ q. record { last = q.0; wait = q.1.0; next = q.1.1 }) (λ _. refl)

-- behind the first dial so many milliseconds pass before the next, and behind later ones so many at most
abbrev pub least_wait : ℕ
least_wait = 100

abbrev pub most_wait : ℕ
most_wait = 5000

-- a master that was never dialled
abbrev pub impatient : PatienceState
impatient = record { last = None; wait = least_wait; next = least_wait }

-- whether time has passed since the last dial, or there was none
abbrev pub has_passed : Option ℤ → ℤ → Bool
has_passed None now = true
has_passed (Some last) now = int_lt last now

-- whether so much time has passed since, or the clock stands still or went back
abbrev pub has_waited : Option ℤ → ℕ → ℤ → Bool
has_waited None wait now = true
has_waited (Some last) wait now = int_le now last || nat_le wait (unsigned_abs (now -ℤ last))

-- **Whether the master may be dialled** at a moment
abbrev pub may_dial : PatienceState → ℤ → Bool
may_dial p now = has_waited p.last p.wait now

-- **Each dial doubles the wait behind the next**, where time has passed since the one before
abbrev pub dialled_at : ℤ → PatienceState → PatienceState
dialled_at now p = if has_passed p.last now
    then record { last = Some now; wait = p.next; next = min (p.next * 2) most_wait }
    else record { last = Some now; wait = p.wait; next = p.next }

-- the node is in its master's stream: waits are short again
abbrev pub trusting : PatienceState → PatienceState
trusting p = record p { wait = least_wait; next = least_wait }
