-- Every connection of a map was changed.
use Rattle.std.proofs.Common.{◌≡◌, true, false, cond, List, [], ◌∷◌, map, Option, None, Some, refl, sym, ap, ◌∙◌}
use Rattle.std.specs.Ordering.{eq_by_cmp}
use Rattle.std.specs.Option.{option_map}
use Rattle.std.specs.FinMap.{find, entries, get, get-entries, get-from_entries}
use Rattle.mr_links.specs.LinkId.{id_cmp}
use Rattle.mr_links.specs.declared.link_id.LinkId.{LinkId}
use Rattle.mr_links.proofs.LinkRows.{ids_total}
use Rattle.mr_connections.specs.State.{ConnectionState, Rows, with_each}
use Rattle.mr_connections.proofs.Changed.{same_rows}

abbrev each : (ConnectionState → ConnectionState) → List (LinkId × ConnectionState) → List (LinkId × ConnectionState)
each f es = map (λ (e : LinkId × ConnectionState). (e.0, f e.1)) es

find-each : (f : ConnectionState → ConnectionState) (es : List (LinkId × ConnectionState)) (q : LinkId) → find id_cmp q (each f es) ≡ option_map f (find id_cmp q es)
find-each f [] q = refl
find-each f (e ∷ es) q = ap (cond (eq_by_cmp id_cmp q e.0) (Some (f e.1))) (find-each f es q)
    ∙ elim (eq_by_cmp id_cmp q e.0) as (λ v. cond v (Some (f e.1)) (option_map f (find id_cmp q es)) ≡ option_map f (cond v (Some e.1) (find id_cmp q es))) [ true ↦ refl | false ↦ refl ]

-- what is under a name once all were changed
pub get-with_each : (f : ConnectionState → ConnectionState) (m : Rows) (k : LinkId) → get (with_each f m) k ≡ option_map f (get m k)
get-with_each f m k = get-from_entries ids_total (each f (entries m)) k ∙ find-each f (entries m) k ∙ ap (option_map f) (sym (get-entries m k))

-- one change of all after another
pub with_each-with_each : (f g : ConnectionState → ConnectionState) (m : Rows) → with_each f (with_each g m) ≡ with_each (λ c. f (g c)) m
with_each-with_each f g m = same_rows _ _ (λ q. get-with_each f (with_each g m) q ∙ ap (option_map f) (get-with_each g m q) ∙ both (get m q) ∙ sym (get-with_each (λ c. f (g c)) m q)) where
  both : (o : Option ConnectionState) → option_map f (option_map g o) ≡ option_map (λ c. f (g c)) o
  both None = refl
  both (Some c) = refl

-- changes that come to the same
pub with_each-alike : (f g : ConnectionState → ConnectionState) (m : Rows) → ((k : LinkId) (c : ConnectionState) → get m k ≡ Some c → f c ≡ g c) → with_each f m ≡ with_each g m
with_each-alike f g m is = same_rows _ _ (λ q. get-with_each f m q ∙ one q (get m q) refl ∙ sym (get-with_each g m q)) where
  one : (q : LinkId) (o : Option ConnectionState) → get m q ≡ o → option_map f o ≡ option_map g o
  one q None e = refl
  one q (Some c) e = ap Some (is q c e)

-- one that changes nothing
pub with_each-same : (f : ConnectionState → ConnectionState) (m : Rows) → ((k : LinkId) (c : ConnectionState) → get m k ≡ Some c → f c ≡ c) → with_each f m ≡ m
with_each-same f m is = same_rows _ _ (λ q. get-with_each f m q ∙ one q (get m q) refl) where
  one : (q : LinkId) (o : Option ConnectionState) → get m q ≡ o → option_map f o ≡ o
  one q None e = refl
  one q (Some c) e = ap Some (is q c e)
