-- Each connection is found by its link.
use Rattle.std.proofs.Common.{◌≡◌, ◌≢◌, ℕ, ◌+◌, ◌-◌, true, false, cond, Option, Some, None, IsSome, is_some, Result, Ok, Err, OnOk, OnErr, refl, sym, ap, ◌∙◌}
use Rattle.std.specs.Ordering.{eq_by_cmp}
use Rattle.std.specs.Option.{option_map, unwrap_or}
use Rattle.std.specs.Result.{is_ok, is_err}
use Rattle.std.specs.FinMap.{FinMap, empty, get, insert, remove, len, get-empty, get-insert, get-remove, len-empty, len-insert, len-remove}
use Rattle.std.proofs.lemmas.Cmp.{eq_by_cmp_equiv}
use Rattle.std.proofs.lemmas.Map.Views.{tells_apart}
use Rattle.mr_links.specs.LinkId.{id_cmp}
use Rattle.mr_links.specs.declared.link_id.LinkId.{LinkId}
use Rattle.mr_links.proofs.LinkRows.{ids_total, exact_ids}
use Rattle.mr_connections.specs.State.{AreToldApart, ConnectionState, HasLink, IsIndexed, NoneHas, Rows, begun, changed, left, without, without_link}
use Rattle.mr_connections.proofs.Changed.{get-changed, len-changed}

pub same_some : {A : Type 0} (x y : A) → Some x ≡ Some y → x ≡ y
same_some x y e = ap (λ o. unwrap_or o x) e

pub never : {A P : Type 0} (x : A) → ◌≡◌ {A = Option A} None (Some x) → P
never x e = absurd (let wrong : false ≡ true = ap is_some e in cc)

pub alike : (q k : LinkId) → q ≡ k → eq_by_cmp id_cmp q k ≡ true
alike q k e = ap (λ i. eq_by_cmp id_cmp i k) e ∙ (eq_by_cmp_equiv ids_total).refl k

pub apart_of : (q k : LinkId) → eq_by_cmp id_cmp q k ≡ false → q ≢ k
apart_of q k e h = let wrong : true ≡ false = sym (alike q k h) ∙ e in cc

module _ (m : Rows) (sockets : FinMap id_cmp LinkId) (n : ℕ) (h : IsIndexed m sockets n) where
  -- no two connections have one link
  pub told_apart : AreToldApart m
  told_apart = record { apart = λ j k b c link jb kc bl cl. same_some j k (sym (h.found j b link jb bl) ∙ h.found k c link kc cl) }

  -- nobody has a link that leads nowhere
  pub none_found : (link : LinkId) → get sockets link ≡ None → NoneHas m link
  none_found link none = record { none = λ socket c is has. never socket (sym none ∙ h.found socket c link is has) }

  -- .. or to one that has another
  pub none_there : (link k : LinkId) → get sockets link ≡ Some k → (HasLink m k link → ⊥) → NoneHas m link
  none_there link k leads not = record {
    none = λ socket c is has.
        let same = same_some socket k (sym (h.found socket c link is has) ∙ leads) in not (record { connection = c; is = ap (get m) (sym same) ∙ is; has = has });
  }

  found_once_put : (k link q l : LinkId) (c : ConnectionState) → get sockets link ≡ None → get (insert m k (begun link)) q ≡ Some c → c.link ≡ Some l → get (insert sockets link k) l ≡ Some q
  found_once_put k link q l c none is has =
      elim (eq_by_cmp id_cmp q k) as (λ v. eq_by_cmp id_cmp q k ≡ v → cond v (Some (begun link)) (get m q) ≡ Some c → get (insert sockets link k) l ≡ Some q) [
        | true ↦ λ e this.
            let own = same_some link l (ap (λ (b : ConnectionState). b.link) (same_some (begun link) c this) ∙ has) in
            get-insert ids_total sockets link k l ∙ ap (λ b. cond b (Some k) (get sockets l)) (alike l link (sym own)) ∙ ap Some (sym (tells_apart exact_ids q k e))
        | false ↦ λ e was.
            let led = h.found q c l was has in
            get-insert ids_total sockets link k l ∙ elim (eq_by_cmp id_cmp l link) as (λ v. eq_by_cmp id_cmp l link ≡ v → cond v (Some k) (get sockets l) ≡ Some q) [
              | true ↦ λ t. never q (sym (ap (get sockets) (tells_apart exact_ids l link t) ∙ none) ∙ led)
              | false ↦ λ t. led
            ] refl
      ] refl (sym (get-insert ids_total m k (begun link) q) ∙ is)

  -- a connection began
  pub indexed-insert : (k link : LinkId) (new : Rows) (more : FinMap id_cmp LinkId) (count : ℕ)
      → get m k ≡ None → get sockets link ≡ None → new ≡ insert m k (begun link) → more ≡ insert sockets link k → count ≡ n + 1 → IsIndexed new more count
  indexed-insert k link new more count absent none is led one = record {
    found = λ q c l here has. ap (λ s. get s l) led ∙ found_once_put k link q l c none (sym (ap (λ r. get r q) is) ∙ here) has;
    counted = one ∙ ap (λ j. j + 1) h.counted ∙ sym (ap len is ∙ len-insert ids_total m k (begun link) ∙ ap (λ (o : Option ConnectionState). cond (is_some o) (len m) (len m + 1)) absent);
  }

  -- a link came and went
  pub indexed-undone : (k link : LinkId) (more again : FinMap id_cmp LinkId) → get sockets link ≡ None → more ≡ insert sockets link k → again ≡ remove more link → IsIndexed m again n
  indexed-undone k link more again none put gone = record {
    found = λ q c l is has. ap (λ s. get s l) (gone ∙ ap (λ s. remove s link) put) ∙ get-remove ids_total (insert sockets link k) link l
        ∙ elim (eq_by_cmp id_cmp l link) as (λ v. eq_by_cmp id_cmp l link ≡ v → cond v None (get (insert sockets link k) l) ≡ get sockets l) [
          | true ↦ λ t. sym (ap (get sockets) (tells_apart exact_ids l link t) ∙ none)
          | false ↦ λ t. get-insert ids_total sockets link k l ∙ ap (λ b. cond b (Some k) (get sockets l)) t
        ] refl
        ∙ h.found q c l is has;
    counted = h.counted;
  }

  before_change : (f : ConnectionState → ConnectionState) → ((b : ConnectionState) → (f b).link ≡ b.link) → (o : Option ConnectionState) (c : ConnectionState) → option_map f o ≡ Some c → (b : ConnectionState) × ((o ≡ Some b) × (c.link ≡ b.link))
  before_change f kept None c e = never c e
  before_change f kept (Some b) c e = (b, (refl, sym (ap (λ (d : ConnectionState). d.link) (same_some (f b) c e)) ∙ kept b))

  -- a connection was changed that kept its link
  pub indexed-changed : (f : ConnectionState → ConnectionState) (k : LinkId) (new : Rows) → ((b : ConnectionState) → (f b).link ≡ b.link) → new ≡ changed k f m → IsIndexed new sockets n
  indexed-changed f k new kept is = record {
    found = λ q c l here has.
        elim (eq_by_cmp id_cmp q k) as (λ v. eq_by_cmp id_cmp q k ≡ v → cond v (option_map f (get m k)) (get m q) ≡ Some c → get sockets l ≡ Some q) [
          | true ↦ λ e this.
              let before = before_change f kept (get m k) c this in let same = tells_apart exact_ids q k e in
              h.found q before.0 l (ap (get m) same ∙ before.1.0) (sym before.1.1 ∙ has)
          | false ↦ λ e was. h.found q c l was has
        ] refl (sym (ap (λ r. get r q) is ∙ get-changed k f m q) ∙ here);
    counted = h.counted ∙ sym (ap len is ∙ len-changed k f m);
  }

  led_by_link : (o : Option LinkId) (b : ConnectionState) (k q l : LinkId) → get m k ≡ Some b → b.link ≡ o → q ≢ k → get sockets l ≡ Some q → get (without_link o sockets) l ≡ Some q
  led_by_link None b k q l is has ne led = led
  led_by_link (Some own) b k q l is has ne led = get-remove ids_total sockets own l ∙ elim (eq_by_cmp id_cmp l own) as (λ v. eq_by_cmp id_cmp l own ≡ v → cond v None (get sockets l) ≡ Some q) [
    | true ↦ λ t. absurd (ne (same_some q k (sym led ∙ ap (get sockets) (tells_apart exact_ids l own t) ∙ h.found k b own is has)))
    | false ↦ λ t. led
  ] refl

  led_without : (o : Option ConnectionState) (k q l : LinkId) → get m k ≡ o → q ≢ k → get sockets l ≡ Some q → get (without o sockets) l ≡ Some q
  led_without None k q l is ne led = led
  led_without (Some b) k q l is ne led = led_by_link b.link b k q l is refl ne led

  -- the node's end of a connection was closed
  pub indexed-left : (k : LinkId) (new : Rows) (fewer : FinMap id_cmp LinkId) → new ≡ changed k left m → fewer ≡ without (get m k) sockets → IsIndexed new fewer n
  indexed-left k new fewer is gone = record {
    found = λ q c l here has.
        elim (eq_by_cmp id_cmp q k) as (λ v. eq_by_cmp id_cmp q k ≡ v → cond v (option_map left (get m k)) (get m q) ≡ Some c → get fewer l ≡ Some q) [
          | true ↦ λ e this. no_link (get m k) c l this has
          | false ↦ λ e was. ap (λ s. get s l) gone ∙ led_without (get m k) k q l refl (apart_of q k e) (h.found q c l was has)
        ] refl (sym (ap (λ r. get r q) is ∙ get-changed k left m q) ∙ here);
    counted = h.counted ∙ sym (ap len is ∙ len-changed k left m);
  } where
    no_link : {P : Type 0} (o : Option ConnectionState) (c : ConnectionState) (l : LinkId) → option_map left o ≡ Some c → c.link ≡ Some l → P
    no_link None c l e has = never c e
    no_link (Some b) c l e has = never l (ap (λ (d : ConnectionState). d.link) (same_some (left b) c e) ∙ has)

  -- .. it was taken out
  pub indexed-remove : (k : LinkId) (new : Rows) (fewer : FinMap id_cmp LinkId) (count : ℕ) → IsSome (get m k) → new ≡ remove m k → fewer ≡ without (get m k) sockets → count ≡ n - 1 → IsIndexed new fewer count
  indexed-remove k new fewer count some is gone one = record {
    found = λ q c l here has.
        elim (eq_by_cmp id_cmp q k) as (λ v. eq_by_cmp id_cmp q k ≡ v → cond v None (get m q) ≡ Some c → get fewer l ≡ Some q) [
          | true ↦ λ e this. never c this
          | false ↦ λ e was. ap (λ s. get s l) gone ∙ led_without (get m k) k q l refl (apart_of q k e) (h.found q c l was has)
        ] refl (sym (ap (λ r. get r q) is ∙ get-remove ids_total m k q) ∙ here);
    counted = one ∙ ap (λ j. j - 1) h.counted ∙ sym (ap len is ∙ len-remove ids_total m k ∙ ap (λ b. cond b (len m - 1) (len m)) some);
  }

pub indexed-empty : (m : Rows) (sockets : FinMap id_cmp LinkId) → m ≡ empty → IsIndexed m sockets 0
indexed-empty m sockets is = record {
  found = λ q c l here has. never c (sym (ap (λ r. get r q) is ∙ get-empty id_cmp q) ∙ here);
  counted = sym (ap len is ∙ len-empty id_cmp ConnectionState);
}

pub either_way : {A E P Q R : Type 0} (r : Result A E) → OnOk r P → OnErr r Q → (P → R) → (Q → R) → R
either_way (Ok x) p q f g = f p
either_way (Err x) p q f g = g q

pub at_ok : {A E P : Type 0} (r : Result A E) → is_ok r ≡ true → OnOk r P → P
at_ok (Ok x) e p = p
at_ok (Err x) e p = absurd (let wrong : false ≡ true = e in cc)

pub at_err : {A E P : Type 0} (r : Result A E) → true ≡ is_err r → OnErr r P → P
at_err (Ok x) e p = absurd (let wrong : true ≡ false = e in cc)
at_err (Err x) e p = p
