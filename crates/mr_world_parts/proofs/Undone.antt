-- What was carried and is taken back is as it was.
use Rattle.std.proofs.Common.{zero, suc, ◌≡◌, ◌-◌, ℕ, List, [], ◌∷◌, ◌++◌, ◌&&◌, Bool, true, false, cond, Option, None, Some, length, length-append, map, take, drop, refl, sym, ap, ◌∙◌, arith}
use Rattle.std.specs.Prelude.{slice_get, slice_set, bytes_eq}
use Rattle.std.specs.Option.{option_map}
use Rattle.std.proofs.lemmas.Option.{slice_get-map}
use Rattle.mr_links.specs.declared.link_id.LinkId.{LinkId}
use Rattle.mr_node_links.specs.Replicas.{is_named}
use Rattle.mr_node_output.specs.Outs.{OutsState}
use Rattle.law_refinement.specs.State.{BookEntry, Link}
use Rattle.law_refinement.specs.Books.{extended}
use Rattle.law_refinement.specs.Carrying.{fed_if, is_at, reached, said_by, said_on, shut_if, told}
use Rattle.law_refinement.proofs.Places.{set_here, set_same}
use Rattle.mr_world_parts.specs.Undoing.{asked, fed_by, shut_by, unasked, unfed_by, unfed_if, unsaid_by, unsaid_on, untold}
use Rattle.mr_world_parts.proofs.Places.{set_twice, map_set}

take_front : (a b : List ℕ) → take (length (a ++ b) - length b) (a ++ b) ≡ a
take_front a b = let e = length-append a b in let n : length (a ++ b) - length b ≡ length a = omega (arith, e) in ap (λ z. take z (a ++ b)) n ∙ go a b
  where
    go : (a b : List ℕ) → take (length a) (a ++ b) ≡ a
    go [] b = refl
    go (x ∷ a) b = ap (λ z. x ∷ z) (go a b)

pub untold_told : (k : Link) (bytes : List ℕ) → untold (length bytes) (told bytes k) ≡ k
untold_told k bytes = ap (λ z. record k { tell = record k.tell { sent = z } }) (take_front k.tell.sent bytes)

pub unasked_asked : (k : Link) (bytes : List ℕ) → unasked (length bytes) (asked bytes k) ≡ k
unasked_asked k bytes = ap (λ z. record k { ask = record k.ask { sent = z } }) (take_front k.ask.sent bytes)

pub unfed_fed : (n : ℕ) (outs : OutsState) (k : Link) → unfed_by n outs (fed_by n outs k) ≡ k
unfed_fed n outs k = go (is_at n k && is_named outs.fed k.name) refl
  where
    go : (c : Bool) → (is_at n k && is_named outs.fed k.name) ≡ c → unfed_by n outs (fed_if c outs.grown k) ≡ k
    go true e = ap (λ c. unfed_if c (length outs.grown) (told outs.grown k)) e ∙ untold_told k outs.grown
    go false e = ap (λ c. unfed_if c (length outs.grown) k) e

module _ {A : Type 0} (f g : A → A) (back : (x : A) → g (f x) ≡ x) where
  pub undone : (c : ℕ) (xs : List A) → map g (take c (map f (take c xs) ++ drop c xs)) ++ drop c (map f (take c xs) ++ drop c xs) ≡ xs
  undone zero xs = refl
  undone (suc c) [] = refl
  undone (suc c) (x ∷ xs) = ap (λ z. z ∷ (map g (take c (map f (take c xs) ++ drop c xs)) ++ drop c (map f (take c xs) ++ drop c xs))) (back x) ∙ ap (λ z. x ∷ z) (undone c xs)

  pub undone_all : (xs : List A) → map g (map f xs) ≡ xs
  undone_all [] = refl
  undone_all (x ∷ xs) = ap (λ z. z ∷ map g (map f xs)) (back x) ∙ ap (λ z. x ∷ z) (undone_all xs)

-- the first history of an id is the one that grows
pub extended_here : (es : List BookEntry) (i : ℕ) (e : BookEntry) (id bytes : List ℕ) → slice_get es i ≡ Some e → bytes_eq e.id id ≡ true
    → slice_set es i (record e { texts = e.texts ++ bytes }) ≡ take i es ++ extended (drop i es) id bytes
extended_here [] i e id bytes q t = absurd (cc)
extended_here (x ∷ es) zero e id bytes q t =
    let same : x ≡ e = cc in
    sym (ap (λ (z : BookEntry). cond (bytes_eq z.id id) (record z { texts = z.texts ++ bytes } ∷ es) (z ∷ extended es id bytes)) same
    ∙ ap (λ c. cond c (record e { texts = e.texts ++ bytes } ∷ es) (e ∷ extended es id bytes)) t)
extended_here (x ∷ es) (suc i) e id bytes q t = ap (λ z. x ∷ z) (extended_here es i e id bytes q t)

-- ---- feeding and shutting
reaches : (n : ℕ) (outs : OutsState) (k : Link) → shut_by n outs (fed_by n outs k) ≡ reached n outs k
reaches n outs k = go (is_at n k && is_named outs.fed k.name)
  where
    go : (c : Bool) → shut_by n outs (fed_if c outs.grown k) ≡ shut_if (is_at n k && is_named outs.closed k.name) (fed_if c outs.grown k)
    go true = refl
    go false = refl

pub reach_all : (n : ℕ) (outs : OutsState) (links : List Link) → map (shut_by n outs) (map (fed_by n outs) links) ≡ map (reached n outs) links
reach_all n outs [] = refl
reach_all n outs (k ∷ links) = ap (λ z. z ∷ map (shut_by n outs) (map (fed_by n outs) links)) (reaches n outs k) ∙ ap (λ z. reached n outs k ∷ z) (reach_all n outs links)

-- ---- what a node says to its master
reach_asked : (n : ℕ) (outs : OutsState) (bytes : List ℕ) (k : Link) → reached n outs (asked bytes k) ≡ asked bytes (reached n outs k)
reach_asked n outs bytes k = go (is_at n k && is_named outs.fed k.name) (is_at n k && is_named outs.closed k.name)
  where
    go : (c d : Bool) → shut_if d (fed_if c outs.grown (asked bytes k)) ≡ asked bytes (shut_if d (fed_if c outs.grown k))
    go true true = refl
    go true false = refl
    go false true = refl
    go false false = refl

pub reach_said : (n : ℕ) (outs : OutsState) (link : Option LinkId) (l : ℕ) (bytes : List ℕ) (links : List Link)
    → map (reached n outs) (said_on link l bytes links) ≡ said_on link l bytes (map (reached n outs) links)
reach_said n outs None l bytes links = refl
reach_said n outs (Some name) l bytes links =
    go (slice_get links l) ∙ ap (λ o. said_by o l bytes (map (reached n outs) links)) (sym (slice_get-map (reached n outs) links l))
  where
    go : (o : Option Link) → map (reached n outs) (said_by o l bytes links) ≡ said_by (option_map (reached n outs) o) l bytes (map (reached n outs) links)
    go None = refl
    go (Some k) = map_set (reached n outs) links l (asked bytes k) ∙ ap (slice_set (map (reached n outs) links) l) (reach_asked n outs bytes k)

pub unsaid_said : (link : Option LinkId) (l : ℕ) (bytes : List ℕ) (links : List Link) → unsaid_on link l (length bytes) (said_on link l bytes links) ≡ links
unsaid_said None l bytes links = refl
unsaid_said (Some name) l bytes links = go (slice_get links l) refl
  where
    go : (o : Option Link) → slice_get links l ≡ o → unsaid_by (slice_get (said_by o l bytes links) l) l (length bytes) (said_by o l bytes links) ≡ links
    go None e = ap (λ o. unsaid_by o l (length bytes) links) e
    go (Some k) e = ap (λ o. unsaid_by o l (length bytes) (slice_set links l (asked bytes k))) (set_here links l (asked bytes k) k e)
        ∙ (set_twice links l (asked bytes k) (unasked (length bytes) (asked bytes k)) ∙ (ap (slice_set links l) (unasked_asked k bytes) ∙ set_same links l k e))
