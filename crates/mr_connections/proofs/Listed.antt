-- The connections that are done are listed, each once.
use Rattle.std.proofs.Common.{◌≡◌, ◌≤◌, ◌<◌, ℕ, ◌+◌, ◌-◌, List, [], ◌∷◌, ◌++◌, length, drop, Bool, true, false, ◌||◌, cond, Option, Some, None, IfSome, IsSome, not, zero, suc, is_some, get_or, refl, sym, ap, subst, ◌∙◌, arith}
use Rattle.std.specs.List.{filter, slice_get}
use Rattle.std.specs.Ordering.{eq_by_cmp}
use Rattle.std.specs.Option.{option_map, option_to_list}
use Rattle.std.specs.FinMap.{empty, get, insert, remove, len, get-empty, get-insert, get-remove, len-empty, len-insert, len-remove}
use Rattle.std.proofs.lemmas.Map.Views.{tells_apart}
use Rattle.mr_links.specs.LinkId.{id_cmp}
use Rattle.mr_links.specs.declared.link_id.LinkId.{LinkId}
use Rattle.mr_links.proofs.LinkRows.{ids_total, exact_ids}
use Rattle.mr_connections.specs.State.{AreOnce, ConnectionState, HasLink, IsListed, NoneDone, Rows, begun, changed, is_among, is_done_at, is_nothing, listing, pushed, wrote}
use Rattle.mr_connections.proofs.Changed.{get-changed, len-changed, same_rows}
use Rattle.mr_connections.proofs.Indexed.{alike, never, same_some}

is_it : LinkId → LinkId → Bool
is_it q k = eq_by_cmp id_cmp q k

pub no_end : {P : Type 0} → false ≡ true → P
no_end e = absurd (let wrong : false ≡ true = e in cc)

-- both are false where one of them being true would be true
none_of : (a b : Bool) → (a || b) ≡ false → (a ≡ false) × (b ≡ false)
none_of true b e = no_end (sym e)
none_of false b e = (refl, e)

turned : (q k : LinkId) → eq_by_cmp id_cmp q k ≡ false → eq_by_cmp id_cmp k q ≡ false
turned q k e = elim (eq_by_cmp id_cmp k q) as (λ v. eq_by_cmp id_cmp k q ≡ v → v ≡ false) [
  | true ↦ λ t. no_end (sym e ∙ alike q k (sym (tells_apart exact_ids k q t)))
  | false ↦ λ t. refl
] refl

among-append : (q k : LinkId) (list : List LinkId) → is_among q (list ++ k ∷ []) ≡ (is_among q list || eq_by_cmp id_cmp q k)
among-append q k [] = elim (eq_by_cmp id_cmp q k) as (λ v. (v || false) ≡ v) [ true ↦ refl | false ↦ refl ]
among-append q k (s ∷ rest) = elim (eq_by_cmp id_cmp q s) as (λ v. (v || is_among q (rest ++ k ∷ [])) ≡ ((v || is_among q rest) || eq_by_cmp id_cmp q k)) [ true ↦ refl | false ↦ among-append q k rest ]

once-append : (k : LinkId) (list : List LinkId) → AreOnce list → is_among k list ≡ false → AreOnce (list ++ k ∷ [])
once-append k [] once none = (refl, tt)
once-append k (s ∷ rest) once none =
    let apart = none_of (eq_by_cmp id_cmp k s) (is_among k rest) none in
    (among-append s k rest ∙ ap (λ b. b || eq_by_cmp id_cmp s k) once.0 ∙ turned k s apart.0, once-append k rest once.1 apart.1)

-- without one that is there, there is one less
pub len_without : (m : Rows) (k : LinkId) → IsSome (get m k) → len m ≡ len (remove m k) + 1
len_without m k some = there (get m k) refl some where
  there : (o : Option ConnectionState) → get m k ≡ o → IsSome o → len m ≡ len (remove m k) + 1
  there None e some = no_end some
  there (Some c) e some = ap len (same_rows m (insert (remove m k) k c) (λ q. sym (
      get-insert ids_total (remove m k) k c q ∙ ap (cond (eq_by_cmp id_cmp q k) (Some c)) (get-remove ids_total m k q)
      ∙ (elim (eq_by_cmp id_cmp q k) as (λ v. eq_by_cmp id_cmp q k ≡ v → cond v (Some c) (cond v None (get m q)) ≡ get m q) [
        | true ↦ λ t. sym (ap (get m) (tells_apart exact_ids q k t) ∙ e)
        | false ↦ λ t. refl
      ] refl))))
      ∙ len-insert ids_total (remove m k) k c
      ∙ ap (λ (o : Option ConnectionState). cond (is_some o) (len (remove m k)) (len (remove m k) + 1)) (get-remove ids_total m k k ∙ ap (λ b. cond b None (get m k)) (alike k k refl))

-- what is listed is there, and so they are no more than are there
no_more : (list : List LinkId) (m : Rows) → AreOnce list → ((q : LinkId) → is_among q list ≡ true → IsSome (get m q)) → length list ≤ len m
no_more [] m once there = omega arith
no_more (k ∷ rest) m once there =
    let shorter = len_without m k (there k (ap (λ b. b || is_among k rest) (alike k k refl))) in
    let fewer : length rest ≤ len (remove m k) = no_more rest (remove m k) once.1 (λ q is. ap is_some (get-remove ids_total m k q) ∙ (elim (eq_by_cmp id_cmp q k) as (λ v. eq_by_cmp id_cmp q k ≡ v → is_some (cond v None (get m q)) ≡ true) [
      | true ↦ λ t. no_end (sym once.0 ∙ ap (λ i. is_among i rest) (sym (tells_apart exact_ids q k t)) ∙ is)
      | false ↦ λ t. there q (ap (λ b. b || is_among q rest) t ∙ is)
    ] refl)) in omega (arith, shorter, fewer)

some_done : (o : Option ConnectionState) → is_done_at o ≡ true → IsSome o
some_done None e = no_end e
some_done (Some c) e = refl

left_nothing : (l : Option LinkId) (w : List ℕ) → is_nothing l w ≡ true → ◌≡◌ {A = ConnectionState} (record { link = l; waiting = w }) (record { link = None; waiting = [] })
left_nothing None [] e = refl
left_nothing None (b ∷ rest) e = no_end e
left_nothing (Some l) w e = no_end e

-- who is done behind a change was there before it
pub done_before : (m new : Rows) (k : LinkId) (f : ConnectionState → ConnectionState) → new ≡ changed k f m → is_done_at (get new k) ≡ true → IsSome (get m k)
done_before m new k f is done = there (get m k) (sym (ap is_done_at (ap (λ r. get r k) is ∙ get-changed k f m k ∙ ap (λ b. cond b (option_map f (get m k)) (get m k)) (alike k k refl))) ∙ done) where
  there : (o : Option ConnectionState) → is_done_at (option_map f o) ≡ true → IsSome o
  there None e = no_end e
  there (Some c) e = refl

-- what stands at a place of a list is among it
got_among : (list : List LinkId) (i : ℕ) (k : LinkId) → slice_get list i ≡ Some k → is_among k list ≡ true
got_among [] i k is = never k is
got_among (s ∷ rest) zero k is = ap (λ b. b || is_among k rest) (alike k s (sym (same_some s k is)))
got_among (s ∷ rest) (suc i) k is = elim (eq_by_cmp id_cmp k s) as (λ v. (v || is_among k rest) ≡ true) [ true ↦ refl | false ↦ got_among rest i k is ]

module _ (m : Rows) (list : List LinkId) (room : ℕ) (h : IsListed m list room) where
  -- there is room for one that isn't listed
  pub has_room : (k : LinkId) → is_done_at (get m k) ≡ false → IsSome (get m k) → length list < room
  has_room k not some =
      let fits = h.fits in
      let more : length (k ∷ list) ≤ len m = no_more (k ∷ list) m (h.listed k ∙ not, h.once) (λ q is. elim (eq_by_cmp id_cmp q k) as (λ v. eq_by_cmp id_cmp q k ≡ v → (v || is_among q list) ≡ true → IsSome (get m q)) [
        | true ↦ λ t _. ap (λ i. is_some (get m i)) (tells_apart exact_ids q k t) ∙ some
        | false ↦ λ t among. some_done (get m q) (sym (h.listed q) ∙ among)
      ] refl is) in omega (arith, fits, more)

  -- where none is listed, none is done
  pub none_done : list ≡ [] → NoneDone m
  none_done is = record {
    none = λ q c here left nothing. no_end (sym (ap (is_among q) is) ∙ h.listed q ∙ ap is_done_at here ∙ ap (λ l. is_nothing l c.waiting) left ∙ ap (is_nothing None) nothing);
  }

  done_state : (o : Option ConnectionState) → is_done_at o ≡ true → o ≡ Some (record { link = None; waiting = [] })
  done_state None e = no_end e
  done_state (Some c) e = ap (λ d. Some d) (left_nothing c.link c.waiting e)

  -- one that is listed is done
  pub listed_done : (k : LinkId) → is_among k list ≡ true → get m k ≡ Some (record { link = None; waiting = [] })
  listed_done k is = done_state (get m k) (sym (h.listed k) ∙ is)

  -- .. so is the last
  pub last_done : (r : Option LinkId) → r ≡ slice_get list (length list - 1) → IfSome r (λ k. get m k ≡ Some (record { link = None; waiting = [] }))
  last_done None is = tt
  last_done (Some k) is = listed_done k (got_among list (length list - 1) k (sym is))

  -- one was changed that wasn't done, and is listed where it is
  pub listed-changed : (new : Rows) (more : List LinkId) (wider : ℕ) (k : LinkId) (f : ConnectionState → ConnectionState)
      → is_done_at (get m k) ≡ false → new ≡ changed k f m → more ≡ listing (is_done_at (get new k)) k list → room ≤ wider → IsListed new more wider
  listed-changed new more wider k f not is are wide = record {
    listed = λ q. ap (is_among q) are ∙ (elim (eq_by_cmp id_cmp q k) as (λ v. eq_by_cmp id_cmp q k ≡ v → is_among q (listing (is_done_at (get new k)) k list) ≡ is_done_at (get new q)) [
      | true ↦ λ t. let it = tells_apart exact_ids q k t in ap (λ i. is_among i (listing (is_done_at (get new k)) k list)) it ∙ own (is_done_at (get new k)) ∙ ap (λ i. is_done_at (get new i)) (sym it)
      | false ↦ λ t. other q t (is_done_at (get new k)) ∙ h.listed q ∙ sym (ap is_done_at (ap (λ r. get r q) is ∙ get-changed k f m q ∙ ap (λ b. cond b (option_map f (get m k)) (get m q)) t))
    ] refl);
    once = subst AreOnce (sym are) (once (is_done_at (get new k)));
    fits = let same : len new ≡ len m = ap len is ∙ len-changed k f m in let fits = h.fits in omega (arith, same, fits, wide);
  } where
    none : is_among k list ≡ false
    none = h.listed k ∙ not

    own : (b : Bool) → is_among k (listing b k list) ≡ b
    own true = among-append k k list ∙ ap (λ b. b || eq_by_cmp id_cmp k k) none ∙ alike k k refl
    own false = none

    other : (q : LinkId) → eq_by_cmp id_cmp q k ≡ false → (b : Bool) → is_among q (listing b k list) ≡ is_among q list
    other q t true = among-append q k list ∙ ap (λ b. is_among q list || b) t ∙ elim (is_among q list) as (λ v. (v || false) ≡ v) [ true ↦ refl | false ↦ refl ]
    other q t false = refl

    once : (b : Bool) → AreOnce (listing b k list)
    once true = once-append k list h.once none
    once false = h.once

  -- .. and isn't done behind that
  pub listed-kept : (new : Rows) (k : LinkId) (f : ConnectionState → ConnectionState) → is_done_at (get m k) ≡ false → new ≡ changed k f m → is_done_at (get new k) ≡ false → IsListed new list room
  listed-kept new k f not is still = listed-changed new list room k f not is (sym (ap (λ b. listing b k list) still)) (omega arith)

  -- .. since bytes were put behind what waits
  pub listed-pushed : (new : Rows) (k : LinkId) (bytes : List ℕ) → is_done_at (get m k) ≡ false → new ≡ changed k (pushed bytes) m → IsListed new list room
  listed-pushed new k bytes not is = listed-kept new k (pushed bytes) not is (
      ap is_done_at (ap (λ r. get r k) is ∙ get-changed k (pushed bytes) m k ∙ ap (λ b. cond b (option_map (pushed bytes) (get m k)) (get m k)) (alike k k refl)) ∙ waits (get m k) not) where
        more : (l : Option LinkId) (w : List ℕ) → is_nothing l w ≡ false → is_nothing l (w ++ bytes) ≡ false
        more None [] e = no_end (sym e)
        more None (b ∷ rest) e = refl
        more (Some l) w e = refl

        waits : (o : Option ConnectionState) → is_done_at o ≡ false → is_done_at (option_map (pushed bytes) o) ≡ false
        waits None e = refl
        waits (Some c) e = more c.link c.waiting e

  -- a connection began
  pub listed-insert : (new : Rows) (wider : ℕ) (k link : LinkId) → get m k ≡ None → new ≡ insert m k (begun link) → len new ≤ wider → IsListed new list wider
  listed-insert new wider k link absent is wide = record {
    listed = λ q. h.listed q ∙ sym (ap is_done_at (ap (λ r. get r q) is ∙ get-insert ids_total m k (begun link) q) ∙ (elim (eq_by_cmp id_cmp q k) as (λ v. eq_by_cmp id_cmp q k ≡ v → is_done_at (cond v (Some (begun link)) (get m q)) ≡ is_done_at (get m q)) [
      | true ↦ λ t. sym (ap is_done_at (ap (get m) (tells_apart exact_ids q k t) ∙ absent))
      | false ↦ λ t. refl
    ] refl));
    once = h.once;
    fits = wide;
  }

  -- .. it was taken out
  pub listed-remove : (new : Rows) (fewer : List LinkId) (k : LinkId) → new ≡ remove m k → ((q : LinkId) → is_among q fewer ≡ cond (eq_by_cmp id_cmp q k) false (is_among q list)) → AreOnce fewer → IsListed new fewer room
  listed-remove new fewer k is others once = record {
    listed = λ q. others q ∙ ap (cond (eq_by_cmp id_cmp q k) false) (h.listed q) ∙ sym (ap is_done_at (ap (λ r. get r q) is ∙ get-remove ids_total m k q) ∙ (elim (eq_by_cmp id_cmp q k) as (λ v. is_done_at (cond v None (get m q)) ≡ cond v false (is_done_at (get m q))) [ true ↦ refl | false ↦ refl ]));
    once = once;
    fits = let same : len new ≡ cond (is_some (get m k)) (len m - 1) (len m) = ap len is ∙ len-remove ids_total m k in let fits = h.fits in
        let less : cond (is_some (get m k)) (len m - 1) (len m) ≤ len m = elim (is_some (get m k)) as (λ v. cond v (len m - 1) (len m) ≤ len m) [ true ↦ omega arith | false ↦ omega arith ] in
        omega (arith, same, less, fits);
  }

  -- nothing changed but how much room there is
  pub listed-same : (new : Rows) (list' : List LinkId) (wider : ℕ) → new ≡ m → list' ≡ list → room ≤ wider → IsListed new list' wider
  listed-same new list' wider is are wide = record {
    listed = λ q. ap (is_among q) are ∙ h.listed q ∙ sym (ap (λ r. is_done_at (get r q)) is);
    once = subst AreOnce (sym are) h.once;
    fits = let same : len new ≡ len m = ap len is in let fits = h.fits in omega (arith, same, fits, wide);
  }

pub listed-empty : (m : Rows) (list : List LinkId) (room : ℕ) → m ≡ empty → list ≡ [] → IsListed m list room
listed-empty m list room is none_are = record {
  listed = λ q. ap (is_among q) none_are ∙ sym (ap (λ r. is_done_at (get r q)) is ∙ ap is_done_at (get-empty id_cmp q));
  once = subst AreOnce (sym none_are) tt;
  fits = let none : len m ≡ 0 = ap len is ∙ len-empty id_cmp ConnectionState in omega (arith, none);
}

-- the list without its last one
pub without_last : (list : List LinkId) (k : LinkId) → AreOnce (list ++ k ∷ []) → AreOnce list × ((q : LinkId) → is_among q list ≡ cond (eq_by_cmp id_cmp q k) false (is_among q (list ++ k ∷ [])))
without_last list k once = (
  fewer list once,
  λ q. elim (eq_by_cmp id_cmp q k) as (λ v. eq_by_cmp id_cmp q k ≡ v → is_among q list ≡ cond v false (is_among q (list ++ k ∷ []))) [
    | true ↦ λ t. ap (λ i. is_among i list) (tells_apart exact_ids q k t) ∙ last_none list once
    | false ↦ λ t. sym (among-append q k list ∙ ap (λ b. is_among q list || b) t ∙ elim (is_among q list) as (λ v. (v || false) ≡ v) [ true ↦ refl | false ↦ refl ])
  ] refl,
) where
  fewer : (xs : List LinkId) → AreOnce (xs ++ k ∷ []) → AreOnce xs
  fewer [] h = tt
  fewer (s ∷ rest) h = ((none_of (is_among s rest) (eq_by_cmp id_cmp s k) (sym (among-append s k rest) ∙ h.0)).0, fewer rest h.1)

  last_none : (xs : List LinkId) → AreOnce (xs ++ k ∷ []) → is_among k xs ≡ false
  last_none [] h = refl
  last_none (s ∷ rest) h = let apart = (none_of (is_among s rest) (eq_by_cmp id_cmp s k) (sym (among-append s k rest) ∙ h.0)).1 in
      ap (λ b. b || is_among k rest) (turned s k apart) ∙ last_none rest h.1

-- its last one was taken out
pub ended : (old new : List LinkId) (k : LinkId) (seen : List LinkId) (n : ℕ) (r : Option LinkId) → seen ≡ old → length seen ≡ n → 0 < length seen → get_or seen (length seen - 1) k ≡ k
    → (0 < n → r ≡ Some (get_or old (n - 1) k)) → old ≡ new ++ option_to_list r → old ≡ new ++ k ∷ []
ended old new k seen n r seen_is len some last value items =
    items ∙ ap (λ o. new ++ option_to_list o) (value (subst (λ i. 0 < i) len some) ∙ ap (λ j. Some j) (ap (λ xs. get_or xs (n - 1) k) (sym seen_is) ∙ ap (λ i. get_or seen (i - 1) k) (sym len) ∙ last))

-- the list without one of them, wherever it stands
module _ (k : LinkId) where
  abbrev others : List LinkId → List LinkId
  others xs = filter (λ s. not (eq_by_cmp id_cmp s k)) xs

  pub among-others : (xs : List LinkId) (q : LinkId) → is_among q (others xs) ≡ cond (eq_by_cmp id_cmp q k) false (is_among q xs)
  among-others [] q = elim (eq_by_cmp id_cmp q k) as (λ v. false ≡ cond v false false) [ true ↦ refl | false ↦ refl ]
  among-others (s ∷ rest) q = elim (eq_by_cmp id_cmp s k) as (λ v. eq_by_cmp id_cmp s k ≡ v → is_among q (cond (not v) (s ∷ others rest) (others rest)) ≡ cond (eq_by_cmp id_cmp q k) false (eq_by_cmp id_cmp q s || is_among q rest)) [
    | true ↦ λ t. among-others rest q ∙ (elim (eq_by_cmp id_cmp q k) as (λ v. eq_by_cmp id_cmp q k ≡ v → cond v false (is_among q rest) ≡ cond v false (eq_by_cmp id_cmp q s || is_among q rest)) [
      | true ↦ λ e. refl
      | false ↦ λ e. sym (ap (λ b. b || is_among q rest) (ap (eq_by_cmp id_cmp q) (tells_apart exact_ids s k t) ∙ e))
    ] refl)
    | false ↦ λ t. ap (λ b. eq_by_cmp id_cmp q s || b) (among-others rest q) ∙ (elim (eq_by_cmp id_cmp q k) as (λ v. eq_by_cmp id_cmp q k ≡ v → (eq_by_cmp id_cmp q s || cond v false (is_among q rest)) ≡ cond v false (eq_by_cmp id_cmp q s || is_among q rest)) [
      | true ↦ λ e. ap (λ b. b || false) (ap (λ i. eq_by_cmp id_cmp i s) (tells_apart exact_ids q k e) ∙ turned s k t)
      | false ↦ λ e. refl
    ] refl)
  ] refl

  pub once-others : (xs : List LinkId) → AreOnce xs → AreOnce (others xs)
  once-others [] h = tt
  once-others (s ∷ rest) h = elim (eq_by_cmp id_cmp s k) as (λ v. eq_by_cmp id_cmp s k ≡ v → AreOnce (cond (not v) (s ∷ others rest) (others rest))) [
    | true ↦ λ t. once-others rest h.1
    | false ↦ λ t. (among-others rest s ∙ ap (λ b. cond b false (is_among s rest)) t ∙ h.0, once-others rest h.1)
  ] refl

-- one that has a link isn't done
pub linked_not : (m : Rows) (socket link : LinkId) → HasLink m socket link → is_done_at (get m socket) ≡ false
linked_not m socket link h = ap is_done_at h.is ∙ ap (λ l. is_nothing l h.connection.waiting) h.has

drop_none : (count : ℕ) → ◌≡◌ {A = List ℕ} (drop count []) []
drop_none zero = refl
drop_none (suc count) = refl

-- a write changes nothing where nothing waits
pub wrote_nothing : (m : Rows) (k : LinkId) (count : ℕ) → is_done_at (get m k) ≡ true → m ≡ changed k (wrote count) m
wrote_nothing m k count done = same_rows m (changed k (wrote count) m) (λ q. sym (get-changed k (wrote count) m q ∙ (elim (eq_by_cmp id_cmp q k) as (λ v. eq_by_cmp id_cmp q k ≡ v → cond v (option_map (wrote count) (get m k)) (get m q) ≡ get m q) [
  | true ↦ λ t. same (get m k) done ∙ ap (get m) (sym (tells_apart exact_ids q k t))
  | false ↦ λ t. refl
] refl))) where
  kept : (l : Option LinkId) (w : List ℕ) → is_nothing l w ≡ true → ◌≡◌ {A = ConnectionState} (record { link = l; waiting = drop count w }) (record { link = l; waiting = w })
  kept None [] e = ap (λ w. record { link = None; waiting = w }) (drop_none count)
  kept None (b ∷ rest) e = no_end e
  kept (Some l) w e = no_end e

  same : (o : Option ConnectionState) → is_done_at o ≡ true → option_map (wrote count) o ≡ o
  same None e = refl
  same (Some c) e = ap (λ d. Some d) (kept c.link c.waiting e)
