-- Places as a map from names to values.
use Rattle.std.proofs.Common.{◌≡◌, ◌≢◌, ℕ, ◌<◌, zero, suc, true, false, List, [], ◌∷◌, ◌++◌, map, Option, Some, None, IsSome, is_some, Bor, Result, Ok, Err, OnErr, get_or, set, length, refl, sym, ap, ◌∙◌, arith}
use Rattle.std.specs.Option.{unwrap_or, option_copied}
use Rattle.std.specs.FinMap.{FinMap, get, insert, remove, same_map}
use Rattle.std.proofs.lemmas.List.{get_or-set_same, get_or-set_other}
use Rattle.mr_links.specs.LinkId.{link_id, id_cmp}
use Rattle.mr_links.specs.declared.link_id.LinkId.{LinkId}
use Rattle.mr_links.proofs.LinkRows.{ids_total, exact_ids, same, matching, get-links_of, links_of-put, links_of-emptied, matching_found, matching_other, matching_none, matching_some, only_one}
use Rattle.mr_links.specs.declared.rows.Row.{Row}
use Rattle.mr_connections.specs.Table.{row_of, table_of}
use Rattle.mr_connections.specs.declared.table.Entry.{Entry}

pub copied_none : {A : Type 0} (r : Option (Bor A)) (o : Option A) → option_copied r ≡ o → is_some r ≡ false → o ≡ None
copied_none None o e h = sym e
copied_none (Some x) o e h = absurd (let wrong : true ≡ false = h in cc)

pub copied_some : {A : Type 0} (r : Option (Bor A)) (o : Option A) → option_copied r ≡ o → is_some r ≡ true → IsSome o
copied_some None o e h = absurd (let wrong : false ≡ true = h in cc)
copied_some (Some x) o e h = ap is_some (sym e)

pub on_err : {A E : Type 0} (r : Result A E) {P : Type 0} → P → OnErr r P
on_err (Ok x) p = tt
on_err (Err x) p = p

module _ {T : Type 0} where
  -- what a place shows under a generation
  abbrev pub held : Option (Entry T) → ℕ → Option T
  held place g = matching (row_of place) g

  at_place : (places : List (Option (Entry T))) (k : ℕ) → get_or (map row_of places) k None ≡ row_of (get_or places k None)
  at_place [] k = refl
  at_place (p ∷ rest) zero = refl
  at_place (p ∷ rest) (suc k) = at_place rest k

  -- the value under a name is the one in its place, if that has the name's generation
  pub get-table_of : (places : List (Option (Entry T))) (q : LinkId) → get (table_of places) q ≡ held (get_or places q.index None) q.generation
  get-table_of places q = get-links_of (map row_of places) q ∙ ap (λ r. matching r q.generation) (at_place places q.index)

  pub same_table : (old new : List (Option (Entry T))) → ((k : ℕ) → get_or new k None ≡ get_or old k None) → table_of new ≡ table_of old
  same_table old new is = same_map ids_total exact_ids _ _ (λ q. get-table_of new q ∙ ap (λ p. held p q.generation) (is q.index) ∙ sym (get-table_of old q))

  pub held_found : (place : Option (Entry T)) (entry : Entry T) (g : ℕ) → place ≡ Some entry → entry.generation ≡ g → held place g ≡ Some entry.value
  held_found place entry g is e = matching_found (row_of place) (record { generation = entry.generation; link = entry.value }) g (ap row_of is) e

  pub held_other : (place : Option (Entry T)) (entry : Entry T) (g : ℕ) → place ≡ Some entry → (entry.generation ≢ g) → held place g ≡ None
  held_other place entry g is ne = matching_other (row_of place) (record { generation = entry.generation; link = entry.value }) g (ap row_of is) ne

  pub held_none : (place : Option (Entry T)) (g : ℕ) → place ≡ None → held place g ≡ None
  held_none place g is = matching_none (row_of place) g (ap row_of is)

  -- a free place more
  pub get_or-push_none : (places : List (Option (Entry T))) (k : ℕ) → get_or (places ++ None ∷ []) k None ≡ get_or places k None
  get_or-push_none [] zero = refl
  get_or-push_none [] (suc k) = refl
  get_or-push_none (p ∷ rest) zero = refl
  get_or-push_none (p ∷ rest) (suc k) = get_or-push_none rest k

  -- what is in a place that shows something
  pub there : (place : Option (Entry T)) (g : ℕ) → IsSome (held place g) → (entry : Entry T) × ((place ≡ Some entry) × (entry.generation ≡ g))
  there None g h = absurd (let wrong : false ≡ true = h in cc)
  there (Some entry) g h =
      let row = matching_some (row_of (Some entry)) g h in
      (entry, (refl, ap (λ (o : Option (Row T)). (unwrap_or o (record { generation = entry.generation; link = entry.value })).generation) row.1.0 ∙ row.1.1))

  place_is : (places : List (Option (Entry T))) (k : ℕ) (entry : Entry T) (d : Option (Entry T)) → get_or places k None ≡ Some entry → get_or places k d ≡ Some entry
  place_is [] k entry d is = absurd (let wrong : ◌≡◌ {A = Option (Entry T)} None (Some entry) = is in cc)
  place_is (p ∷ rest) zero entry d is = is
  place_is (p ∷ rest) (suc k) entry d is = place_is rest k entry d is

  -- what was lent of a place is what is there
  pub lent_is : (places : List (Option (Entry T))) (k : ℕ) (entry : Entry T) (lent : Option (Entry T)) → lent ≡ get_or places k lent → get_or places k None ≡ Some entry → lent ≡ Some entry
  lent_is places k entry lent is was = is ∙ place_is places k entry lent was

  pub has_place : (places : List (Option (Entry T))) (k : ℕ) (entry : Entry T) → get_or places k None ≡ Some entry → k < length places
  has_place [] k entry is = absurd (let wrong : ◌≡◌ {A = Option (Entry T)} None (Some entry) = is in cc)
  has_place (p ∷ rest) zero entry is = omega arith
  has_place (p ∷ rest) (suc k) entry is = omega (arith, has_place rest k entry is)

  -- what is under a name that is there
  pub under : (places : List (Option (Entry T))) (m : FinMap id_cmp T) (id : LinkId) → table_of places ≡ m → IsSome (get m id)
      → (entry : Entry T) × ((get_or places id.index None ≡ Some entry) × (entry.generation ≡ id.generation))
  under places m id is some = there (get_or places id.index None) id.generation (ap is_some (sym (get-table_of places id) ∙ ap (λ t. get t id) is) ∙ some)

  -- a value was put into a place that shows nothing under another generation
  pub table_of-put : (old new : List (Option (Entry T))) (id : LinkId) (x : T)
      → get_or new id.index None ≡ Some (record { generation = id.generation; value = x })
      → ((g : ℕ) → same g id.generation ≡ false → held (get_or old id.index None) g ≡ None)
      → ((k : ℕ) → k ≢ id.index → get_or new k None ≡ get_or old k None)
      → table_of new ≡ insert (table_of old) id x
  table_of-put old new id x here none others = links_of-put (map row_of old) (map row_of new) id.index id.generation x
      (at_place new id.index ∙ ap row_of here)
      (λ g other. ap (λ r. matching r g) (at_place old id.index) ∙ none g other)
      (λ k ne. at_place new k ∙ ap row_of (others k ne) ∙ sym (at_place old k))

  -- .. into one with the same generation, which is written
  pub table_of-written : (places : List (Option (Entry T))) (id : LinkId) (entry : Entry T) (x : T)
      → get_or places id.index None ≡ Some entry
      → entry.generation ≡ id.generation
      → table_of (set places id.index (Some (record entry { value = x }))) ≡ insert (table_of places) id x
  table_of-written places id entry x was is = let new = Some (record entry { value = x }) in
      table_of-put places (set places id.index new) id x
      (get_or-set_same places id.index new None (has_place places id.index entry was) ∙ ap (λ g. Some (record { generation = g; value = x })) is)
      (λ g other. only_one (row_of (get_or places id.index None)) (record { generation = entry.generation; link = entry.value }) id.generation g (ap row_of was) is other)
      (λ k ne. get_or-set_other places id.index k new None ne)

  -- .. into a free one
  pub table_of-set : (places : List (Option (Entry T))) (id : LinkId) (x : T) → id.index < length places → get_or places id.index None ≡ None
      → table_of (set places id.index (Some (record { generation = id.generation; value = x }))) ≡ insert (table_of places) id x
  table_of-set places id x within free = let new = Some (record { generation = id.generation; value = x }) in
      table_of-put places (set places id.index new) id x
      (get_or-set_same places id.index new None within)
      (λ g _. held_none (get_or places id.index None) g free)
      (λ k ne. get_or-set_other places id.index k new None ne)

  -- a place was emptied
  pub table_of-emptied : (places : List (Option (Entry T))) (id : LinkId) (entry : Entry T)
      → get_or places id.index None ≡ Some entry
      → entry.generation ≡ id.generation
      → table_of (set places id.index None) ≡ remove (table_of places) id
  table_of-emptied places id entry was is =
      links_of-emptied (map row_of places) (map row_of (set places id.index None)) id.index (record { generation = entry.generation; link = entry.value })
      (at_place (set places id.index None) id.index ∙ ap row_of (get_or-set_same places id.index None None (has_place places id.index entry was)))
      (at_place places id.index ∙ ap row_of was)
      (λ k ne. at_place (set places id.index None) k ∙ ap row_of (get_or-set_other places id.index k None None ne) ∙ sym (at_place places k))
      ∙ ap (λ g. remove (table_of places) (link_id id.index g)) is
