-- What a server does, and what is known of ids once it has begun.
use Rattle.std.proofs.Common.{◌≡◌, ◌==◌, ◌⊎◌, ◌||◌, inl, inr, ℕ, suc, List, [], ◌∷◌, Bool, true, false, cond, Option, None, Some, length, map, refl, sym, ap, ◌∙◌, arith}
use Rattle.std.specs.Prelude.{bytes_eq, is_some}
use Rattle.mr_repl.specs.ReplId.{zero_id}
use Rattle.law_refinement.specs.State.{BookEntry, Link, WorldState}
use Rattle.law_refinement.specs.Books.{begun, entry_of}
use Rattle.law_refinement.specs.Carrying.{shut_if}
use Rattle.law_refinement.proofs.Keeping.{entry_push, or_else}
use Rattle.mr_world_parts.specs.AtNode.{is_spent}
use Rattle.law_systems.specs.System.{Connection, System, is_taken}
use Rattle.law_systems.specs.Steps.{IsNew}
use Rattle.law_systems.proofs.Mirrors.{IsLine, Mirrors}

-- ---- what a server does

pub eq_true : (m n : ℕ) → (m == n) ≡ true → m ≡ n
eq_true m n e = grind arith

pub length_map : (f : Link → Link) (xs : List Link) → length (map f xs) ≡ length xs
length_map f [] = refl
length_map f (x ∷ xs) = ap (λ n. suc n) (length_map f xs)

pub shut_line : (b : Bool) (k : Connection) (l : Link) → IsLine k l → IsLine k (shut_if b l)
shut_line true k l i = record { asked = i.asked; answered = i.answered; waits = i.waits; served = i.served; client = i.client; dialled = i.dialled }
shut_line false k l i = i

-- ---- ids
pub true_or : (a b : Bool) → (a || b) ≡ true → (a ≡ true) ⊎ (b ≡ true)
true_or true b e = inl refl
true_or false b e = inr e

pub or_true : (a b : Bool) → (a ≡ true) ⊎ (b ≡ true) → (a || b) ≡ true
or_true true b h = refl
or_true false b (inl h) = absurd (cc)
or_true false b (inr h) = h

pub some_else : (e : BookEntry) (a : Option BookEntry) (b : Bool) → is_some (or_else a (cond b (Some e) None)) ≡ true → (is_some a ≡ true) ⊎ (b ≡ true)
some_else e (Some x) b h = inl refl
some_else e None true h = inr refl
some_else e None false h = absurd (cc)

-- what is spent once an id has begun was spent before, or is that one
pub spent_begun : (es : List BookEntry) (id start i : List ℕ) → is_spent (begun es id start) i ≡ true → (is_spent es i ≡ true) ⊎ (bytes_eq id i ≡ true)
spent_begun es id start i h =
    let e : BookEntry = record { id = id; start = start; texts = [] } in
    elim (true_or (bytes_eq i zero_id) (is_some (entry_of (begun es id start) i)) h) [
      | inl z ↦ inl (or_true (bytes_eq i zero_id) (is_some (entry_of es i)) (inl z))
      | inr q ↦ elim (some_else e (entry_of es i) (bytes_eq id i) (sym (ap is_some (entry_push es e i)) ∙ q)) [
        | inl a ↦ inl (or_true (bytes_eq i zero_id) (is_some (entry_of es i)) (inr a))
        | inr b ↦ inr b
      ]
    ]

-- .. so that it is among those that were taken
pub begun_ids : (x : System) (w : WorldState) (id start : List ℕ) → Mirrors x w → (i : List ℕ) → is_spent (begun w.book id start) i ≡ true → is_taken (id ∷ x.ids) i ≡ true
begun_ids x w id start m i h = or_true (bytes_eq id i) (is_taken x.ids i) (elim (spent_begun w.book id start i h) [
  | inl a ↦ inr (m.ids i a)
  | inr b ↦ inl b
])

-- a new id isn't known of in the World
pub unspent : (x : System) (w : WorldState) (id : List ℕ) → Mirrors x w → IsNew x id → is_spent w.book id ≡ false
unspent x w id m new = go (is_spent w.book id) refl
  where
    go : (b : Bool) → is_spent w.book id ≡ b → is_spent w.book id ≡ false
    go false e = e
    go true e = let q : true ≡ false = sym (m.ids id e) ∙ new in absurd (cc)
