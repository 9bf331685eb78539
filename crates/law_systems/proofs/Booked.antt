-- The ids that a World knows of behind what a call gave out: those that it knew of, and the one that the call took.
use Rattle.std.proofs.Common.{◌≡◌, ◌||◌, ◌++◌, ◌⊎◌, inl, inr, ℕ, List, [], ◌∷◌, Bool, true, false, Option, None, Some, bytes_eq, is_some, take, if◌then◌else◌, refl, sym, ap, ◌∙◌}
use Rattle.mr_repl.specs.ReplId.{zero_id}
use Rattle.mr_node_output.specs.Outs.{OutsState}
use Rattle.mr_node_spec.specs.State.{NodeState}
use Rattle.mr_loop.specs.Giving.{listed}
use Rattle.law_refinement.specs.State.{BookEntry}
use Rattle.law_refinement.specs.Books.{branched, cut_of, entry_of, extended}
use Rattle.law_refinement.specs.Carrying.{booked, booked_as}
use Rattle.mr_world_parts.specs.AtNode.{is_spent}
use Rattle.law_systems.specs.System.{is_taken}

one_of : (a b : Bool) → (a || b) ≡ true → (a ≡ true) ⊎ (b ≡ true)
one_of true b e = inl refl
one_of false b e = inr e

by_first : (a b : Bool) → a ≡ true → (a || b) ≡ true
by_first a b e = ap (λ z. z || b) e

by_second : (a b : Bool) → b ≡ true → (a || b) ≡ true
by_second true b e = refl
by_second false b e = e

-- the one that is there has more texts
same_there : (b : Bool) (e : BookEntry) (bytes : List ℕ) (o : Option BookEntry) → is_some (if b then Some (record e { texts = e.texts ++ bytes }) else o) ≡ is_some (if b then Some e else o)
same_there true e bytes o = refl
same_there false e bytes o = refl

later_there : (b : Bool) (e : BookEntry) (o p : Option BookEntry) → is_some o ≡ is_some p → is_some (if b then Some e else o) ≡ is_some (if b then Some e else p)
later_there true e o p same = refl
later_there false e o p same = same

still_there : (es : List BookEntry) (of bytes id : List ℕ) → is_some (entry_of (extended es of bytes) id) ≡ is_some (entry_of es id)
still_there [] of bytes id = refl
still_there (e ∷ es) of bytes id = go (bytes_eq e.id of) (still_there es of bytes id)
  where
    go : (b : Bool) → is_some (entry_of (extended es of bytes) id) ≡ is_some (entry_of es id)
        → is_some (entry_of (if b then record e { texts = e.texts ++ bytes } ∷ es else e ∷ extended es of bytes) id) ≡ is_some (if bytes_eq e.id id then Some e else entry_of es id)
    go true same = same_there (bytes_eq e.id id) e bytes (entry_of es id)
    go false same = later_there (bytes_eq e.id id) e (entry_of (extended es of bytes) id) (entry_of es id) same

-- one more is known of at most
cut_by : (b : Bool) (e : BookEntry) → is_some (if b then Some e else None) ≡ true → b ≡ true
cut_by true e h = refl
cut_by false e h = absurd (cc)

cut_is : (o : Option BookEntry) (fresh : List ℕ) (offset : ℕ) (id : List ℕ) → is_some (entry_of (cut_of o fresh offset) id) ≡ true → bytes_eq fresh id ≡ true
cut_is None fresh offset id e = absurd (cc)
cut_is (Some x) fresh offset id e = cut_by (bytes_eq fresh id) (record { id = fresh; start = x.start; texts = take offset x.texts }) e

behind_by : (b : Bool) (e : BookEntry) (o p q : Option BookEntry) → (is_some o ≡ true → (is_some p ≡ true) ⊎ (is_some q ≡ true)) → is_some (if b then Some e else o) ≡ true
    → (is_some (if b then Some e else p) ≡ true) ⊎ (is_some q ≡ true)
behind_by true e o p q rest h = inl refl
behind_by false e o p q rest h = rest h

behind_is : (es more : List BookEntry) (id : List ℕ) → is_some (entry_of (es ++ more) id) ≡ true → (is_some (entry_of es id) ≡ true) ⊎ (is_some (entry_of more id) ≡ true)
behind_is [] more id e = inr e
behind_is (x ∷ es) more id e = behind_by (bytes_eq x.id id) x (entry_of (es ++ more) id) (entry_of es id) (entry_of more id) (λ h. behind_is es more id h) e

module _ (es : List BookEntry) (taken : List (List ℕ)) (known : (id : List ℕ) → is_spent es id ≡ true → is_taken taken id ≡ true) where
  extends : (of bytes id : List ℕ) → is_spent (extended es of bytes) id ≡ true → is_taken taken id ≡ true
  extends of bytes id e = known id (sym (ap (λ b. bytes_eq id zero_id || b) (still_there es of bytes id)) ∙ e)

  branches : (of : List ℕ) (offset : ℕ) (fresh id : List ℕ) → is_spent (branched es of offset fresh) id ≡ true → is_taken (fresh ∷ taken) id ≡ true
  branches of offset fresh id e = elim (one_of (bytes_eq id zero_id) (is_some (entry_of (branched es of offset fresh) id)) e) [
    | inl zero ↦ by_second (bytes_eq fresh id) (is_taken taken id) (known id (by_first (bytes_eq id zero_id) (is_some (entry_of es id)) zero))
    | inr there ↦ elim (behind_is es (cut_of (entry_of es of) fresh offset) id there) [
      | inl before ↦ by_second (bytes_eq fresh id) (is_taken taken id) (known id (by_second (bytes_eq id zero_id) (is_some (entry_of es id)) before))
      | inr new ↦ by_first (bytes_eq fresh id) (is_taken taken id) (cut_is (entry_of es of) fresh offset id new)
    ]
  ]

  by_used : (used : Option (List ℕ)) (of : List ℕ) (offset : ℕ) (bytes id : List ℕ) → is_spent (booked_as used es of offset bytes) id ≡ true → is_taken (listed used ++ taken) id ≡ true
  by_used None of offset bytes id e = extends of bytes id e
  by_used (Some fresh) of offset bytes id e = branches of offset fresh id e

  pub booked_ids : (a : NodeState) (outs : OutsState) (id : List ℕ) → is_spent (booked es a outs) id ≡ true → is_taken (listed outs.used ++ taken) id ≡ true
  booked_ids a outs id e = by_used outs.used a.core.lineage.id a.core.lineage.stream.offset outs.grown id e

-- an id that nobody has taken is none that it knows of
pub unspent : (es : List BookEntry) (taken : List (List ℕ)) → ((id : List ℕ) → is_spent es id ≡ true → is_taken taken id ≡ true) → (id : List ℕ) → is_taken taken id ≡ false → is_spent es id ≡ false
unspent es taken known id new = go (is_spent es id) refl
  where
    go : (b : Bool) → is_spent es id ≡ b → b ≡ false
    go true e = let wrong : true ≡ false = sym (known id e) ∙ new in wrong
    go false e = refl
