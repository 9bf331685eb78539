-- What was drawn from a source. One that doesn't tell its moments, or its ids, tells `None`, and goes on doing so.
use Rattle.std.specs.Prelude.{ℕ, ℤ, List, [], ◌∷◌, ◌++◌, Option, None, Some}

-- The moment that it told last, and, of one that tells them, all moments and ids that it gave, in order.
pub record DrawnState : Type 0 where
  pub clock : ℤ
  pub moments : Option (List ℤ)
  pub ids : Option (List (List ℕ))

-- what was told, with these behind it
abbrev pub with_more : {A : Type 0} → List A → Option (List A) → Option (List A)
with_more more None = None
with_more more (Some before) = Some (before ++ more)

-- with this moment behind those that were told
abbrev pub with_moment : ℤ → DrawnState → DrawnState
with_moment now d = record d { clock = now; moments = with_more (now ∷ []) d.moments }

-- with this id behind those that were given
abbrev pub with_id : List ℕ → DrawnState → DrawnState
with_id id d = record d { ids = with_more (id ∷ []) d.ids }

-- of a source that tells neither its moments nor its ids
abbrev pub drawn_at : ℤ → DrawnState
drawn_at now = record { clock = now; moments = None; ids = None }
