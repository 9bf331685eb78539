-- Values under their names, as they are kept in the order of names.
use Rattle.std.specs.Prelude.{ℕ, List, map}
use Rattle.std.specs.Cmp.{IsTotalOrder}
use Rattle.std.specs.Cmp.Lexicographic.{nat_list_cmp_total}
use Rattle.std.specs.FinMap.{from_entries}
use Rattle.std.specs.declared.cmp.Ordering.{Ordering}
use Rattle.std.proofs.lemmas.Cmp.{on_total}
use Rattle.mr_map.specs.Bytes.{bytes_cmp, ByteMap}
use Rattle.mr_value.specs.declared.named.Named.{Named}

module _ {V : Type 0} where
  -- by the bytes of the name alone
  abbrev pub name_cmp : Named V → Named V → Ordering
  name_cmp x y = bytes_cmp x.name y.name

  pub names_total : IsTotalOrder name_cmp
  names_total = on_total (λ x. x.name) nat_list_cmp_total

  -- a name and its value
  abbrev pub entry : Named V → List ℕ × V
  entry x = (x.name, x.value)

  -- the value of each name
  abbrev pub values_of : List (Named V) → ByteMap V
  values_of xs = from_entries (map entry xs)
