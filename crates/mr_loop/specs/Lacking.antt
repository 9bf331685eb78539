-- What memory was asked for in vain, and how often.
use Rattle.std.specs.Prelude.{◌≡◌, ℕ, ◌+◌, ◌-◌, ◌^◌, ◌==◌, min, Bool, true, false, Option, Some, None, if◌then◌else◌, refl}
use Rattle.std.specs.Coded.{Coded, code_by, coded×, coded_ℕ, coded_bool, coded_option}
use Rattle.mr_loop.specs.declared.followed.Place.{Place}
use Rattle.mr_loop.specs.declared.followed.Place.TheVariants as place
use Rattle.mr_loop.specs.declared.lacking.Asked.{Asked}
use Rattle.mr_loop.specs.declared.lacking.Asked.TheVariants as asked
use Rattle.mr_loop.specs.declared.lacking.Lacked.{Lacked}

-- memory never ran out
abbrev pub no_lack : Lacked
no_lack = record { times = 0; links = 0; last = None }

-- it ran out once more, and no link is closed for it
abbrev pub lacked_once : Lacked → Lacked
lacked_once l = record l { times = min (l.times + 1) (2 ^ 64 - 1) }

-- .. as this was asked for, and a link is closed for it
abbrev pub lost : Asked → Lacked → Lacked
lost what l = record { times = min (l.times + 1) (2 ^ 64 - 1); links = min (l.links + 1) (2 ^ 64 - 1); last = Some what }

-- what came since it stood so
abbrev pub lacked_since : Lacked → Lacked → Lacked
lacked_since before l = record {
  times = l.times - before.times;
  links = l.links - before.links;
  last = if (l.links - before.links) == 0 then None else l.last;
}

-- what a step asks memory for, by where it is made, and how many bytes are unread there
abbrev pub asked_at : Place → ℕ → Asked
asked_at place.Elsewhere unread = asked.Request unread
asked_at place.BeforeStream unread = asked.Copy unread
asked_at place.InStream unread = asked.Stream unread

-- so many as are unread, if the node tells
abbrev pub told_or_none : Option ℕ → ℕ
told_or_none None = 0
told_or_none (Some count) = count

-- .. with so many more, as a count that stays at its last value
abbrev pub told_with : Option ℕ → ℕ → ℕ
told_with unread more = min (told_or_none unread + more) (2 ^ 64 - 1)

-- ---- their codes

abbrev pub asked_parts : Asked → Option (Option (Bool × (Bool × ℕ)))
asked_parts asked.Accept = None
asked_parts asked.Dial = Some None
asked_parts (asked.Bytes n) = Some (Some (true, (true, n)))
asked_parts (asked.Request n) = Some (Some (true, (false, n)))
asked_parts (asked.Copy n) = Some (Some (false, (true, n)))
asked_parts (asked.Stream n) = Some (Some (false, (false, n)))

abbrev pub asked_as : Bool → Bool → ℕ → Asked
asked_as true true n = asked.Bytes n
asked_as true false n = asked.Request n
asked_as false true n = asked.Copy n
asked_as false false n = asked.Stream n

abbrev pub asked_of : Option (Option (Bool × (Bool × ℕ))) → Asked
asked_of None = asked.Accept
asked_of (Some None) = asked.Dial
asked_of (Some (Some p)) = asked_as p.0 p.1.0 p.1.1

-- what was asked for is told by its parts
abbrev pub asked_again : (a : Asked) → asked_of (asked_parts a) ≡ a
asked_again asked.Accept = refl
asked_again asked.Dial = refl
asked_again (asked.Bytes n) = refl
asked_again (asked.Request n) = refl
asked_again (asked.Copy n) = refl
asked_again (asked.Stream n) = refl

abbrev pub asked_code : Coded Asked
asked_code = code_by (Option (Option (Bool × (Bool × ℕ)))) (coded_option (coded_option (coded× coded_bool (coded× coded_bool coded_ℕ)))) asked_parts asked_of asked_again

abbrev pub lacked_code : Coded Lacked
lacked_code = code_by (ℕ × (ℕ × Option Asked)) (coded× coded_ℕ (coded× coded_ℕ (coded_option asked_code))) (λ l. (l.times, (l.links, l.last))) (λ p. record { times = p.0; links = p.1.0; last = p.1.1 }) (λ _. refl)
