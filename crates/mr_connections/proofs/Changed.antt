-- One connection of a map was changed.
use Rattle.std.proofs.Common.{◌≡◌, ◌+◌, true, false, cond, Option, Some, None, is_some, Result, Ok, Err, OnErr, refl, sym, ap, ◌∙◌}
use Rattle.std.specs.Ordering.{eq_by_cmp}
use Rattle.std.specs.Option.{option_map}
use Rattle.std.specs.FinMap.{get, insert, len, get-insert, len-insert, same_map}
use Rattle.std.proofs.lemmas.Map.Views.{tells_apart}
use Rattle.mr_links.specs.LinkId.{id_cmp}
use Rattle.mr_links.specs.declared.link_id.LinkId.{LinkId}
use Rattle.mr_links.proofs.LinkRows.{ids_total, exact_ids}
use Rattle.mr_connections.specs.State.{ConnectionState, Rows, changed, changed_by}

pub same_rows : (m n : Rows) → ((q : LinkId) → get m q ≡ get n q) → m ≡ n
same_rows m n is = same_map ids_total exact_ids m n is

-- a connection that was put in its own place
pub put_same : (m : Rows) (k : LinkId) (c d : ConnectionState) → d ≡ c → Some c ≡ get m k → insert m k d ≡ m
put_same m k c d same here = ap (insert m k) same ∙ same_rows _ _ (λ q. get-insert ids_total m k c q ∙ (elim (eq_by_cmp id_cmp q k) as (λ v. eq_by_cmp id_cmp q k ≡ v → cond v (Some c) (get m q) ≡ get m q) [
  | true ↦ λ e. here ∙ sym (ap (get m) (tells_apart exact_ids q k e))
  | false ↦ λ e. refl
] refl))

pub changed_there : (f : ConnectionState → ConnectionState) (m : Rows) (k : LinkId) (c d : ConnectionState) → d ≡ f c → Some c ≡ get m k → insert m k d ≡ changed k f m
changed_there f m k c d is here = ap (insert m k) is ∙ ap (λ o. changed_by o k f m) here

pub changed_none : (f : ConnectionState → ConnectionState) (m : Rows) (k : LinkId) → None ≡ get m k → m ≡ changed k f m
changed_none f m k none = ap (λ o. changed_by o k f m) none

get_by : (o : Option ConnectionState) (k : LinkId) (f : ConnectionState → ConnectionState) (m : Rows) (q : LinkId) → get m k ≡ o
    → get (changed_by o k f m) q ≡ cond (eq_by_cmp id_cmp q k) (option_map f o) (get m q)
get_by None k f m q is = elim (eq_by_cmp id_cmp q k) as (λ v. eq_by_cmp id_cmp q k ≡ v → get m q ≡ cond v None (get m q)) [
  | true ↦ λ e. ap (get m) (tells_apart exact_ids q k e) ∙ is
  | false ↦ λ e. refl
] refl
get_by (Some c) k f m q is = get-insert ids_total m k (f c) q

-- what is under a name once one was changed
pub get-changed : (k : LinkId) (f : ConnectionState → ConnectionState) (m : Rows) (q : LinkId) → get (changed k f m) q ≡ cond (eq_by_cmp id_cmp q k) (option_map f (get m k)) (get m q)
get-changed k f m q = get_by (get m k) k f m q refl

len_by : (o : Option ConnectionState) (k : LinkId) (f : ConnectionState → ConnectionState) (m : Rows) → get m k ≡ o → len (changed_by o k f m) ≡ len m
len_by None k f m is = refl
len_by (Some c) k f m is = len-insert ids_total m k (f c) ∙ ap (λ (o : Option ConnectionState). cond (is_some o) (len m) (len m + 1)) is

pub len-changed : (k : LinkId) (f : ConnectionState → ConnectionState) (m : Rows) → len (changed k f m) ≡ len m
len-changed k f m = len_by (get m k) k f m refl

pub on_err_map : {A E P Q : Type 0} (r : Result A E) → OnErr r P → (P → Q) → OnErr r Q
on_err_map (Ok x) h f = h
on_err_map (Err x) h f = f h
