-- What one key has goes to another.
use Rattle.std.proofs.Common.{◌≡◌, true, false, cond, Some, None, Err, refl, sym, ◌∙◌, ap, subst}
use Rattle.std.specs.Prelude.{is_some}
use Rattle.std.specs.Option.{option_map}
use Rattle.std.specs.Ordering.{eq_by_cmp}
use Rattle.std.specs.FinMap.{get, insert, remove, contains_key, get-insert, get-remove, same_map}
use Rattle.std.proofs.lemmas.Cmp.{nat_list_cmp_total}
use Rattle.std.proofs.lemmas.Map.Lookups.{exact_bytes}
use Rattle.mr_map.specs.Bytes.{Bytes, ByteMap, bytes_cmp}
use Rattle.mr_keyspace.specs.Dataset.{Dataset}
use Rattle.mr_keyspace.specs.Changes.{rename}
use Rattle.mr_keyspace.specs.Outcome.{Applies}
use Rattle.mr_keyspace.specs.declared.fault.ApplyFault.TheVariants.{Refused}
use Rattle.mr_keyspace.proofs.Maps.{same_key, remove_absent}

-- what a key has, taken away and put there again
insert_removed : {X : Type 0} (m : ByteMap X) (k : Bytes) (e : X) → get m k ≡ Some e → insert (remove m k) k e ≡ m
insert_removed m k e h = same_map nat_list_cmp_total exact_bytes _ _ (λ q.
    get-insert nat_list_cmp_total (remove m k) k e q ∙ elim (eq_by_cmp bytes_cmp q k) as (λ b. eq_by_cmp bytes_cmp q k ≡ b → cond b (Some e) (get (remove m k) q) ≡ get m q) [
      | true ↦ λ t. sym h ∙ ap (get m) (sym (same_key q k t))
      | false ↦ λ t. get-remove nat_list_cmp_total m k q ∙ ap (λ b. cond b None (get m q)) t
    ] refl)

-- onto itself nothing changes
pub renamed_onto_itself : (m : Dataset) (k : Bytes) → contains_key m k ≡ true → rename k k m ≡ Some m
renamed_onto_itself m k there =
    elim (get m k) as (λ o. get m k ≡ o → is_some o ≡ true → option_map (insert (remove m k) k) o ≡ Some m) [
      | None ↦ λ h t. cc
      | Some e ↦ λ h t. ap Some (insert_removed m k e h)
    ] refl there

pub absent_is_refused : (m new : Dataset) (from to : Bytes) → get m from ≡ None → new ≡ remove m from → Applies (rename from to m) m (Err Refused) new
absent_is_refused m new from to none is =
    subst (λ o. Applies (option_map (insert (remove m from) to) o) m (Err Refused) new) (sym none) (refl, is ∙ remove_absent m from none)
