-- What is made of those who have a link is made of the one connection that has it.
use Rattle.std.proofs.Common.{◌≡◌, ℕ, List, [], ◌∷◌, ◌++◌, length, append-nil, Bool, true, false, cond, Option, Some, None, refl, sym, ap, ◌∙◌, arith}
use Rattle.std.specs.Ordering.{eq_by_cmp}
use Rattle.std.specs.Bool.{◌==◌}
use Rattle.std.proofs.lemmas.Bool.{eqb-true}
use Rattle.std.specs.Option.{option_map}
use Rattle.std.specs.FinMap.{get}
use Rattle.std.proofs.lemmas.Map.Views.{tells_apart}
use Rattle.mr_links.specs.LinkId.{id_cmp}
use Rattle.mr_links.specs.declared.link_id.LinkId.{LinkId}
use Rattle.mr_links.proofs.LinkRows.{exact_ids}
use Rattle.mr_connections.specs.State.{AreToldApart, ConnectionState, HasLink, NoneHas, Rows, at_link, changed, is_link, pushed, sent, where_linked}
use Rattle.mr_connections.proofs.Changed.{get-changed, same_rows}
use Rattle.mr_connections.proofs.Each.{get-with_each}
use Rattle.mr_connections.proofs.Indexed.{alike, apart_of}

module _ (link : LinkId) (f : ConnectionState → ConnectionState) where
  -- it is made of who has the link
  pub made_has : (c : ConnectionState) → c.link ≡ Some link → where_linked link f c ≡ f c
  made_has c has = ap (λ o. cond (is_link link o) (f c) c) has ∙ ap (λ b. cond b (f c) c) (alike link link refl)

  -- and of nobody else
  pub made_other : (c : ConnectionState) → (c.link ≡ Some link → ⊥) → where_linked link f c ≡ c
  made_other c not = elim (c.link) as (λ o. c.link ≡ o → cond (is_link link o) (f c) c ≡ c) [
    | None ↦ λ e. refl
    | Some l ↦ λ e. elim (eq_by_cmp id_cmp l link) as (λ v. eq_by_cmp id_cmp l link ≡ v → cond v (f c) c ≡ c) [
      | true ↦ λ t. absurd (not (e ∙ ap Some (tells_apart exact_ids l link t)))
      | false ↦ λ t. refl
    ] refl
  ] refl

  -- where nobody has it nothing happens
  pub linked-none : (m : Rows) → NoneHas m link → m ≡ at_link link f m
  linked-none m h = same_rows m (at_link link f m) (λ q. sym (get-with_each (where_linked link f) m q ∙ (elim (get m q) as (λ o. get m q ≡ o → option_map (where_linked link f) o ≡ o) [
    | None ↦ λ e. refl
    | Some c ↦ λ e. ap Some (made_other c (h.none q c e))
  ] refl)))

  -- where one has it, it is made of that one
  pub linked-one : (m : Rows) (k : LinkId) → HasLink m k link → AreToldApart m → changed k f m ≡ at_link link f m
  linked-one m k h one = same_rows _ _ (λ q. get-changed k f m q ∙ sym (get-with_each (where_linked link f) m q ∙ (elim (eq_by_cmp id_cmp q k) as (λ v. eq_by_cmp id_cmp q k ≡ v → option_map (where_linked link f) (get m q) ≡ cond v (option_map f (get m k)) (get m q)) [
    | true ↦ λ e. ap (λ i. option_map (where_linked link f) (get m i)) (tells_apart exact_ids q k e) ∙ ap (option_map (where_linked link f)) h.is ∙ ap Some (made_has h.connection h.has) ∙ sym (ap (option_map f) h.is)
    | false ↦ λ e. elim (get m q) as (λ o. get m q ≡ o → option_map (where_linked link f) o ≡ o) [
      | None ↦ λ _. refl
      | Some c ↦ λ is. ap Some (made_other c (λ has. apart_of q k e (one.apart q k c h.connection link is h.is has h.has)))
    ] refl
  ] refl)))

-- nothing is sent where there are no bytes
pub sent-nil : (link : LinkId) (bytes : List ℕ) (m : Rows) → bytes ≡ [] → m ≡ sent link bytes m
sent-nil link bytes m is = same_rows m (sent link bytes m) (λ q. sym (get-with_each (where_linked link (pushed bytes)) m q ∙ all_same (get m q))) where
  same : (c : ConnectionState) (b : Bool) → cond b (pushed bytes c) c ≡ c
  same c true = ap (λ w. record c { waiting = w }) (ap (λ xs. c.waiting ++ xs) is ∙ append-nil c.waiting)
  same c false = refl

  all_same : (o : Option ConnectionState) → option_map (where_linked link (pushed bytes)) o ≡ o
  all_same None = refl
  all_same (Some c) = ap Some (same c (is_link link c.link))

pub nil_of : (bytes : List ℕ) → true ≡ (length bytes == 0) → bytes ≡ []
nil_of [] e = refl
nil_of (b ∷ rest) e = let none : length (b ∷ rest) ≡ 0 = eqb-true (length (b ∷ rest)) 0 (sym e) in absurd (omega arith)
