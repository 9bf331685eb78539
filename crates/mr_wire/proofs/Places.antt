-- The links of a wire, as a map.
use Rattle.std.proofs.Common.{◌≡◌, ℕ, ◌+◌, ◌≤◌, arith, Bool, true, false, ◌||◌, cond, List, [], ◌∷◌, Some, None, IsSome, refl, sym, ap, ◌∙◌}
use Rattle.std.specs.Ordering.{eq_by_cmp}
use Rattle.std.specs.FinMap.{FinMap, get, insert, remove, keys, contains_key-keys, get-insert, get-remove, same_map}
use Rattle.std.specs.List.{find, list_any}
use Rattle.std.proofs.lemmas.Map.Views.{tells_apart}
use Rattle.std.proofs.lemmas.Cmp.{eq_by_cmp_equiv}
use Rattle.std.proofs.Math.Bool.{or-true}
use Rattle.mr_links.specs.LinkId.{id_cmp}
use Rattle.mr_links.specs.Links.{Links}
use Rattle.mr_links.specs.declared.link_id.LinkId.{LinkId}
use Rattle.mr_links.proofs.LinkRows.{ids_total, exact_ids}
use Rattle.mr_wire.specs.Wire.{LinkState, AcceptsNone, wire_of}

-- a link put in its own place
pub put_same : (m : FinMap id_cmp LinkState) (l : LinkId) (e : LinkState) → get m l ≡ Some e → insert m l e ≡ m
put_same m l e here = same_map ids_total exact_ids _ _ (λ q. get-insert ids_total m l e q ∙ (elim (eq_by_cmp id_cmp q l) as (λ v. eq_by_cmp id_cmp q l ≡ v → cond v (Some e) (get m q) ≡ get m q) [
  | true ↦ λ h. sym (ap (get m) (tells_apart exact_ids q l h) ∙ here)
  | false ↦ λ h. refl
] refl))

-- a link that came and went
pub put_and_removed : (m : FinMap id_cmp LinkState) (l : LinkId) (e : LinkState) → get m l ≡ None → remove (insert m l e) l ≡ m
put_and_removed m l e absent = same_map ids_total exact_ids _ _ (λ q. get-remove ids_total (insert m l e) l q ∙ (elim (eq_by_cmp id_cmp q l) as (λ v. eq_by_cmp id_cmp q l ≡ v → cond v None (get (insert m l e) q) ≡ get m q) [
  | true ↦ λ h. sym (ap (get m) (tells_apart exact_ids q l h) ∙ absent)
  | false ↦ λ h. get-insert ids_total m l e q ∙ ap (λ b. cond b (Some e) (get m q)) h
] refl))

abbrev with_links : Links LinkState → FinMap id_cmp LinkState → Links LinkState
with_links a m = record a { open_links = m }

-- the same of all links
pub links_same : (a : Links LinkState) (l : LinkId) (e f : LinkState) → f ≡ e → get a.open_links l ≡ Some e → ◌≡◌ {A = Links LinkState} (record { open_links = insert a.open_links l f; opened = a.opened }) a
links_same a l e f same here = ap (with_links a) (ap (λ x. insert a.open_links l x) same ∙ put_same a.open_links l e here)

pub one_more : (m n : ℕ) → n ≡ m + 1 → m ≤ n
one_more m n e = omega arith

-- links of which one came and went
pub came_and_went : (a n s b : Links LinkState) (l : LinkId) (e : LinkState) → get a.open_links l ≡ None → n.open_links ≡ insert a.open_links l e → n.opened ≡ a.opened + 1
    → s ≡ n → b.open_links ≡ remove s.open_links l → b.opened ≡ s.opened → AcceptsNone (wire_of a []) (wire_of b [])
came_and_went a n s b l e absent came more same went kept = record {
  links = went ∙ (ap (λ (z : Links LinkState). remove z.open_links l) same ∙ (ap (λ z. remove z l) came ∙ put_and_removed a.open_links l e absent));
  opened = one_more a.opened b.opened (kept ∙ (ap (λ (z : Links LinkState). z.opened) same ∙ more));
  sent = refl;
}

-- what is found is there
any_found : (p : LinkId → Bool) (l : LinkId) → eq_by_cmp id_cmp l l ≡ true → (xs : List LinkId) → find p xs ≡ Some l → list_any (eq_by_cmp id_cmp l) xs ≡ true
any_found p l same [] h = cc
any_found p l same (x ∷ xs) h = (elim (p x) as (λ b. cond b (Some x) (find p xs) ≡ Some l → (eq_by_cmp id_cmp l x || list_any (eq_by_cmp id_cmp l) xs) ≡ true) [
  | true ↦ λ e. ap (λ b. b || list_any (eq_by_cmp id_cmp l) xs) (ap (eq_by_cmp id_cmp l) ((let q : x ≡ l = cc in q)) ∙ same)
  | false ↦ λ e. ap (λ b. eq_by_cmp id_cmp l x || b) (any_found p l same xs e) ∙ or-true (eq_by_cmp id_cmp l x)
]) h

-- a name that is found among those of the open links is one's
pub found_is_there : (p : LinkId → Bool) (m : FinMap id_cmp LinkState) (l : LinkId) → find p (keys m) ≡ Some l → IsSome (get m l)
found_is_there p m l h = contains_key-keys m l ∙ any_found p l ((eq_by_cmp_equiv ids_total).refl l) (keys m) h
