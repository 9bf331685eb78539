-- Ends of links, as a map: what one that was put is, and what the others are.
use Rattle.std.proofs.Common.{◌≡◌, ◌≢◌, Bool, true, false, cond, Option, Some, IsSome, is_some, refl, sym, ap, ◌∙◌}
use Rattle.std.specs.Ordering.{eq_by_cmp}
use Rattle.std.specs.FinMap.{FinMap, get, insert, get-insert, same_map}
use Rattle.std.proofs.lemmas.Cmp.{eq_by_cmp_equiv}
use Rattle.std.proofs.lemmas.Map.Views.{tells_apart}
pub use Rattle.std.proofs.lemmas.Option.{same_Some as some_is}
use Rattle.mr_links.specs.LinkId.{id_cmp}
use Rattle.mr_links.specs.Links.{Links}
use Rattle.mr_links.specs.declared.link_id.LinkId.{LinkId}
use Rattle.mr_links.proofs.LinkRows.{ids_total, exact_ids}
use Rattle.mr_node_links.specs.State.{EndState, end_at, put_end, OthersStay}

pub get_put : (m : FinMap id_cmp EndState) (l : LinkId) (e : EndState) → get (insert m l e) l ≡ Some e
get_put m l e = get-insert ids_total m l e l ∙ ap (λ b. cond b (Some e) (get m l)) ((eq_by_cmp_equiv ids_total).refl l)

pub get_other : (m : FinMap id_cmp EndState) (l : LinkId) (e : EndState) (q : LinkId) → q ≢ l → get (insert m l e) q ≡ get m q
get_other m l e q ne = get-insert ids_total m l e q ∙ (elim (eq_by_cmp id_cmp q l) as (λ v. eq_by_cmp id_cmp q l ≡ v → cond v (Some e) (get m q) ≡ get m q) [
  | true ↦ λ h. absurd (ne (tells_apart exact_ids q l h))
  | false ↦ λ h. refl
] refl)

twice : (b : Bool) (x y : EndState) (o : Option EndState) → cond b (Some y) (cond b (Some x) o) ≡ cond b (Some y) o
twice true x y o = refl
twice false x y o = refl

-- an end put in the place of one that was put before
pub put_put : (m : FinMap id_cmp EndState) (l : LinkId) (x y : EndState) → insert (insert m l x) l y ≡ insert m l y
put_put m l x y = same_map ids_total exact_ids _ _ (λ q.
    get-insert ids_total (insert m l x) l y q
    ∙ ap (cond (eq_by_cmp id_cmp q l) (Some y)) (get-insert ids_total m l x q)
    ∙ twice (eq_by_cmp id_cmp q l) x y (get m q)
    ∙ sym (get-insert ids_total m l y q))

-- an end put in its own place
pub put_same : (m : FinMap id_cmp EndState) (l : LinkId) (e : EndState) → get m l ≡ Some e → insert m l e ≡ m
put_same m l e here = same_map ids_total exact_ids _ _ (λ q. get-insert ids_total m l e q ∙ (elim (eq_by_cmp id_cmp q l) as (λ v. eq_by_cmp id_cmp q l ≡ v → cond v (Some e) (get m q) ≡ get m q) [
  | true ↦ λ h. sym (ap (get m) (tells_apart exact_ids q l h) ∙ here)
  | false ↦ λ h. refl
] refl))

pub is_there : (m n : FinMap id_cmp EndState) (l : LinkId) (x : EndState) → n ≡ insert m l x → IsSome (get n l)
is_there m n l x e = ap is_some (ap (λ z. get z l) e ∙ get_put m l x)

-- what an end that was put is, and what the others are
pub put_is : (a b : Links EndState) (l : LinkId) (e : EndState) → b ≡ put_end a l e → end_at b l ≡ Some e
put_is a b l e is = ap (λ (z : Links EndState). end_at z l) is ∙ get_put a.open_links l e

pub put_others : (a b : Links EndState) (l : LinkId) (e : EndState) → b ≡ put_end a l e → OthersStay a b l
put_others a b l e is = record { stay = λ q ne. ap (λ (z : Links EndState). end_at z q) is ∙ get_other a.open_links l e q ne; opened = ap (λ (z : Links EndState). z.opened) is }

-- an end that is the same was put in its place
pub same_links : (a : Links EndState) (l : LinkId) (e f : EndState) → get a.open_links l ≡ Some e → f ≡ e → put_end a l f ≡ a
same_links a l e f here is = ap (λ (m : FinMap id_cmp EndState). record { open_links = m; opened = a.opened }) (ap (λ (z : EndState). insert a.open_links l z) is ∙ put_same a.open_links l e here)
