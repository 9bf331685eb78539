-- What a contract sees of an address.
use Rattle.std.specs.Prelude.{ℕ, List, refl}
use Rattle.std.specs.Coded.{Coded, code_by, coded×, coded_ℕ, coded_list}

pub record AddressState : Type 0 where
  pub host : List ℕ  -- as it was spelled
  pub port : ℕ

abbrev pub address_code : Coded AddressState
address_code = code_by (List ℕ × ℕ) (coded× (coded_list coded_ℕ) coded_ℕ) (λ a. (a.host, a.port)) (λ p. record { host = p.0; port = p.1 }) (λ _. refl)
