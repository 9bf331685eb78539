-- What is seen of a dataset at a moment.
use Rattle.std.proofs.Common.{◌≡◌, ℤ, true, false, cond, Option, Some, None, refl, sym, ◌∙◌, ap}
use Rattle.std.specs.Prelude.{is_some}
use Rattle.std.specs.FinMap.{get, get-retain_keys}
use Rattle.std.proofs.lemmas.Map.Lookups.{exact_bytes}
use Rattle.mr_map.specs.Bytes.{Bytes}
use Rattle.mr_keyspace.specs.Dataset.{Dataset}
use Rattle.mr_data.specs.Dataset.{is_expired, live, seen}
use Rattle.mr_keyspace.specs.declared.value.Entry.{Entry}

kept : (now : ℤ) (o : Option Entry) → cond (is_some (live now o)) o None ≡ live now o
kept now None = refl
kept now (Some e) = elim (is_expired now e.deadline) as (λ b. cond (is_some (cond b None (Some e))) (Some e) None ≡ cond b None (Some e)) [ true ↦ refl | false ↦ refl ]

pub get-seen : (now : ℤ) (m : Dataset) (k : Bytes) → get (seen now m) k ≡ live now (get m k)
unfolding seen
get-seen now m k =
    get-retain_keys m (λ q. is_some (live now (get m q))) k (λ x tie. ap (λ (q : Bytes). is_some (live now (get m q))) (sym (exact_bytes k x tie))) ∙ kept now (get m k)
