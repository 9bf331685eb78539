-- What a replica said of itself by REPLCONF, as far as it is kept.
use Rattle.std.specs.Prelude.{ℕ, List, Option, None, Some, IfSome, ◌≤◌, nat_le, if◌then◌else◌, length, refl}
use Rattle.std.specs.Coded.{Coded, code_by, coded×, coded_ℕ, coded_list, coded_option}

-- The port on which it listens, and its address, each as it spelled it, where it named one.
pub record Said : Type 0 where
  pub port : Option (List ℕ)
  pub address : Option (List ℕ)

abbrev pub said_code : Coded Said
said_code = code_by (Option (List ℕ) × Option (List ℕ)) (coded× (coded_option (coded_list coded_ℕ)) (coded_option (coded_list coded_ℕ))) (λ s. (s.port, s.address)) (λ p. record { port = p.0; address = p.1 }) (λ _. refl)

-- it named none
abbrev pub nothing_said : Said
nothing_said = record { port = None; address = None }

-- no port has more digits
abbrev pub most_digits : ℕ
most_digits = 5

-- no host's name, and no spelling of an address, has more bytes
abbrev pub most_named : ℕ
most_named = 255

-- Neither is longer than a port or an address can be.
pub record IsShort (s : Said) : Type 0 where
  pub port : IfSome s.port (λ text. length text ≤ most_digits)
  pub address : IfSome s.address (λ text. length text ≤ most_named)

-- another port, unless it is longer than a port can be
abbrev pub with_port : List ℕ → Said → Said
with_port text s = if nat_le (length text) most_digits then record s { port = Some text } else s

-- another address, unless it is longer than an address can be
abbrev pub with_address : List ℕ → Said → Said
with_address text s = if nat_le (length text) most_named then record s { address = Some text } else s

-- the later one, or the earlier one where there is none
abbrev pub or_before : Option (List ℕ) → Option (List ℕ) → Option (List ℕ)
or_before None before = before
or_before (Some text) before = Some text

-- what is said later takes the place of what was said before
abbrev pub renewed : Said → Said → Said
renewed later s = record { port = or_before later.port s.port; address = or_before later.address s.address }
