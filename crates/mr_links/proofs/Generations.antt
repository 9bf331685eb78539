-- The generations of the ids of a map of links stay apart, and below a number.
use Rattle.std.proofs.Common.{◌≡◌, ◌≢◌, ℕ, ◌+◌, ◌<◌, ◌≤◌, true, false, cond, Option, Some, None, IsSome, subst, refl, sym, ap, ◌∙◌, arith}
use Rattle.std.specs.Ordering.{eq_by_cmp}
use Rattle.std.specs.FinMap.{FinMap, empty, get, insert, remove, get-empty, get-insert, get-remove, same_map}
use Rattle.std.proofs.lemmas.Cmp.{eq_by_cmp_equiv}
use Rattle.std.proofs.lemmas.Map.Views.{tells_apart}
use Rattle.mr_links.specs.LinkId.{LinkId, id_cmp}
use Rattle.mr_links.specs.Links.{AreNumbered}
use Rattle.mr_links.proofs.LinkRows.{ids_total, exact_ids}

not_itself : (a b : LinkId) → eq_by_cmp id_cmp a b ≡ false → a ≢ b
not_itself a b e same = let wrong : true ≡ false = sym ((eq_by_cmp_equiv ids_total).refl b) ∙ ap (λ z. eq_by_cmp id_cmp z b) (sym same) ∙ e in cc

module _ {T : Type 0} where
  -- what is under an open id
  pub link_under : (o : Option T) → IsSome o → (link : T) × (o ≡ Some link)
  link_under None h = absurd (let wrong : false ≡ true = h in cc)
  link_under (Some link) h = (link, refl)

  none_open : (m : FinMap id_cmp T) (id : LinkId) (link : T) → m ≡ empty → get m id ≡ Some link → ⊥
  none_open m id link is found = let wrong : ◌≡◌ {A = Option T} None (Some link) = sym (get-empty id_cmp id) ∙ ap (λ l. get l id) (sym is) ∙ found in cc

  -- a link of what an insertion made is the new one, or was there
  data Either (m : FinMap id_cmp T) (id q : LinkId) (link : T) : Type 0 where
    put : q ≡ id → Either m id q link
    there : get m q ≡ Some link → Either m id q link

  either : (m new : FinMap id_cmp T) (id : LinkId) (x : T) → new ≡ insert m id x → (q : LinkId) (link : T) → get new q ≡ Some link → Either m id q link
  either m new id x is q link found =
      elim (eq_by_cmp id_cmp q id) as (λ v. eq_by_cmp id_cmp q id ≡ v → cond v (Some x) (get m q) ≡ Some link → Either m id q link) [
        | true ↦ λ e _. Either.put (tells_apart exact_ids q id e)
        | false ↦ λ _ was. Either.there was
      ] refl (sym (get-insert ids_total m id x q) ∙ ap (λ l. get l q) (sym is) ∙ found)

  -- a link of what a removal left was there, under another id
  left : (m new : FinMap id_cmp T) (id : LinkId) → new ≡ remove m id → (q : LinkId) (link : T) → get new q ≡ Some link → (q ≢ id) × (get m q ≡ Some link)
  left m new id is q link found =
      elim (eq_by_cmp id_cmp q id) as (λ v. eq_by_cmp id_cmp q id ≡ v → cond v None (get m q) ≡ Some link → (q ≢ id) × (get m q ≡ Some link)) [
        | true ↦ λ _ no. absurd (let wrong : ◌≡◌ {A = Option T} None (Some link) = no in cc)
        | false ↦ λ e was. (not_itself q id e, was)
      ] refl (sym (get-remove ids_total m id q) ∙ ap (λ l. get l q) (sym is) ∙ found)

  pub numbered_empty : (n : ℕ) (m : FinMap id_cmp T) → m ≡ empty → AreNumbered n m
  numbered_empty n m is = record {
    below = λ id link found. absurd (none_open m id link is found);
    apart = λ a b x y at_a at_b same. absurd (none_open m a x is at_a);
  }

  -- where no other link has the generation of the id
  pub numbered_insert : (n k : ℕ) (m new : FinMap id_cmp T) (id : LinkId) (x : T) → new ≡ insert m id x → AreNumbered n m → n ≤ k → id.generation < k
      → ((q : LinkId) (link : T) → get m q ≡ Some link → q.generation ≡ id.generation → q ≡ id) → AreNumbered k new
  numbered_insert n k m new id x is are more fits alone = record {
    below = λ q link found. below q (either m new id x is q link found);
    apart = λ a b y z at_a at_b same. apart a b (either m new id x is a y at_a) (either m new id x is b z at_b) same;
  }
    where
      below : (q : LinkId) {link : T} → Either m id q link → q.generation < k
      below q (Either.put e) = subst (λ (i : LinkId). i.generation < k) (sym e) fits
      below q {link} (Either.there was) = let under = are.below q link was in omega (arith, under, more)

      apart : (a b : LinkId) {y z : T} → Either m id a y → Either m id b z → a.generation ≡ b.generation → a ≡ b
      apart a b (Either.put p) (Either.put q) same = p ∙ sym q
      apart a b {y} {z} (Either.put p) (Either.there q) same = p ∙ sym (alone b z q (sym same ∙ ap (λ (i : LinkId). i.generation) p))
      apart a b {y} {z} (Either.there p) (Either.put q) same = alone a y p (same ∙ ap (λ (i : LinkId). i.generation) q) ∙ sym q
      apart a b {y} {z} (Either.there p) (Either.there q) same = are.apart a b y z p q same

  pub numbered_remove : (n : ℕ) (m new : FinMap id_cmp T) (id : LinkId) → new ≡ remove m id → AreNumbered n m → AreNumbered n new
  numbered_remove n m new id is are = record {
    below = λ q link found. are.below q link (left m new id is q link found).1;
    apart = λ a b x y at_a at_b same. are.apart a b x y (left m new id is a x at_a).1 (left m new id is b y at_b).1 same;
  }

  -- without the id of the greatest generation
  pub numbered_take_back : (n k : ℕ) (m new : FinMap id_cmp T) (id : LinkId) (x : T) → new ≡ remove m id → AreNumbered n m → get m id ≡ Some x → n ≡ id.generation + 1 → k ≡ id.generation → AreNumbered k new
  numbered_take_back n k m new id x is are here last less = record {
    below = λ q link found.
        let was = left m new id is q link found in
        let under = are.below q link was.1 in
        let other : q.generation ≢ id.generation = λ same. was.0 (are.apart q id link x was.1 here same) in
        omega (arith, under, other, last, less);
    apart = (numbered_remove n m new id is are).apart;
  }

  pub taken_out : (m new : FinMap id_cmp T) (id : LinkId) → new ≡ remove m id → get new id ≡ None
  taken_out m new id is = ap (λ l. get l id) is ∙ get-remove ids_total m id id ∙ ap (λ b. cond b None (get m id)) ((eq_by_cmp_equiv ids_total).refl id)

  put_back_at : (m : FinMap id_cmp T) (id : LinkId) (x : T) → get m id ≡ Some x → (q : LinkId) → get m q ≡ cond (eq_by_cmp id_cmp q id) (Some x) (cond (eq_by_cmp id_cmp q id) None (get m q))
  put_back_at m id x here q = elim (eq_by_cmp id_cmp q id) as (λ v. eq_by_cmp id_cmp q id ≡ v → get m q ≡ cond v (Some x) (cond v None (get m q))) [
    | true ↦ λ e. ap (get m) (tells_apart exact_ids q id e) ∙ here
    | false ↦ λ e. refl
  ] refl

  -- a link that is put back where it was taken out
  pub put_back : (m new : FinMap id_cmp T) (id : LinkId) (x : T) → new ≡ remove m id → get m id ≡ Some x → m ≡ insert new id x
  put_back m new id x is here = same_map ids_total exact_ids m (insert new id x) (λ q.
      put_back_at m id x here q
      ∙ sym (get-insert ids_total new id x q
      ∙ ap (cond (eq_by_cmp id_cmp q id) (Some x)) (ap (λ l. get l q) is ∙ get-remove ids_total m id q)))

  -- links without an id are told by what they are with it
  pub inserted_once : (a b : FinMap id_cmp T) (id : LinkId) (x : T) → get a id ≡ None → get b id ≡ None → insert a id x ≡ insert b id x → a ≡ b
  inserted_once a b id x none_a none_b same = same_map ids_total exact_ids a b (λ q.
      elim (eq_by_cmp id_cmp q id) as (λ v. eq_by_cmp id_cmp q id ≡ v → cond v (Some x) (get a q) ≡ cond v (Some x) (get b q) → get a q ≡ get b q) [
        | true ↦ λ e _. ap (get a) (tells_apart exact_ids q id e) ∙ none_a ∙ sym (ap (get b) (tells_apart exact_ids q id e) ∙ none_b)
        | false ↦ λ _ others. others
      ] refl (sym (get-insert ids_total a id x q) ∙ ap (λ l. get l q) same ∙ get-insert ids_total b id x q))
