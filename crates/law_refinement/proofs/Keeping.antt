-- The book is kept: a history grows by texts, or branches at a place among them.
use Rattle.std.proofs.Common.{◌≡◌, ◌≢◌, ℕ, List, [], ◌∷◌, ◌++◌, Bool, true, false, cond, Option, None, Some, length, take, refl, sym, ap, subst, ◌∙◌}
use Rattle.std.specs.Prelude.{bytes_eq, if◌then◌else◌}
use Rattle.std.specs.Option.{option_map}
use Rattle.std.proofs.lemmas.Slice.Eq.{bytes_eq-Decides}
use Rattle.std.proofs.lemmas.Grind.{flat_map-append}
use Rattle.mr_effect.specs.declared.effect.Effect.{Effect}
use Rattle.mr_keyspace.specs.Dataset.{Dataset}
use Rattle.mr_groups.specs.Groups.{group_text}
use Rattle.law_protocol.specs.History.{Book, History, Front, Extends, Branches, texts}
use Rattle.law_protocol.specs.Changes.{SetAt}
use Rattle.law_minired.specs.Minired.{minired}
use Rattle.law_refinement.specs.State.{BookEntry}
use Rattle.law_refinement.specs.Books.{IsKept, entry_of, IsKeptAs, IsBook}
use Rattle.law_refinement.specs.Books.{extended, cut_of, branched}

-- more texts behind the history of an id
abbrev longer : List ℕ → List ℕ → BookEntry → BookEntry
longer id bytes e = if bytes_eq e.id id then record e { texts = e.texts ++ bytes } else e

-- the entry that is found has the id
found_id : (es : List BookEntry) (i : List ℕ) (e : BookEntry) → entry_of es i ≡ Some e → e.id ≡ i
found_id [] i e q = absurd (cc)
found_id (x ∷ es) i e q = go (λ r. found_id es i e r) (bytes_eq x.id i) refl q
  where
    go : (entry_of es i ≡ Some e → e.id ≡ i) → (b : Bool) → bytes_eq x.id i ≡ b → cond b (Some x) (entry_of es i) ≡ Some e → e.id ≡ i
    go f true h r = let one : x ≡ e = cc in ap (λ z. z.id) (sym one) ∙ (bytes_eq-Decides x.id i).0 h
    go f false h r = f r

same_longer : (id bytes i : List ℕ) (o : Option BookEntry) → ((e : BookEntry) → o ≡ Some e → e.id ≡ i) → i ≢ id → option_map (longer id bytes) o ≡ o
same_longer id bytes i None f ne = refl
same_longer id bytes i (Some e) f ne = ap (λ z. Some z) (go (bytes_eq e.id id) refl)
  where
    go : (b : Bool) → bytes_eq e.id id ≡ b → cond b (record e { texts = e.texts ++ bytes }) e ≡ e
    go true h = absurd (ne (sym (f e refl) ∙ (bytes_eq-Decides e.id id).0 h))
    go false h = refl

entry_longer : (es : List BookEntry) (id bytes i : List ℕ) → entry_of (extended es id bytes) i ≡ option_map (longer id bytes) (entry_of es i)
entry_longer [] id bytes i = refl
entry_longer (e ∷ es) id bytes i = go (entry_longer es id bytes i) (bytes_eq e.id id) (bytes_eq e.id i) refl refl
  where
    go : entry_of (extended es id bytes) i ≡ option_map (longer id bytes) (entry_of es i) → (c d : Bool) → bytes_eq e.id id ≡ c → bytes_eq e.id i ≡ d
        → entry_of (cond c (record e { texts = e.texts ++ bytes } ∷ es) (e ∷ extended es id bytes)) i ≡ option_map (longer id bytes) (cond d (Some e) (entry_of es i))
    go more true true h g = ap (λ z. cond z (Some (record e { texts = e.texts ++ bytes })) (entry_of es i)) g ∙ ap (λ z. Some (cond z (record e { texts = e.texts ++ bytes }) e)) (sym h)
    go more true false h g = ap (λ z. cond z (Some (record e { texts = e.texts ++ bytes })) (entry_of es i)) g
        ∙ sym (same_longer id bytes i (entry_of es i) (λ x q. found_id es i x q) (λ q. let w : bytes_eq e.id i ≡ true = (bytes_eq-Decides e.id i).1 ((bytes_eq-Decides e.id id).0 h ∙ sym q) in let wrong : false ≡ true = sym g ∙ w in absurd (cc)))
    go more false true h g = ap (λ z. cond z (Some e) (entry_of (extended es id bytes) i)) g ∙ ap (λ z. Some (cond z (record e { texts = e.texts ++ bytes }) e)) (sym h)
    go more false false h g = ap (λ z. cond z (Some e) (entry_of (extended es id bytes) i)) g ∙ more

abbrev pub with_history : Book minired → List ℕ → History minired → Book minired
with_history book id h = λ i. cond (bytes_eq id i) (Some h) (book i)

pub set_history : (book : Book minired) (id : List ℕ) (h : History minired) → SetAt book (with_history book id h) id h
set_history book id h = (ap (λ b. cond b (Some h) (book id)) ((bytes_eq-Decides id id).1 refl), λ m ne. apart (bytes_eq id m) m refl ne)
  where
    apart : (b : Bool) (m : List ℕ) → bytes_eq id m ≡ b → m ≢ id → cond b (Some h) (book m) ≡ book m
    apart true m e ne = absurd (ne (sym ((bytes_eq-Decides id m).0 e)))
    apart false m e ne = refl

grown_one : (id bytes : List ℕ) (gs : List (List Effect)) (h : History minired) (o : Option BookEntry) (p : Option (History minired)) → bytes ≡ texts minired gs → ((e : BookEntry) → o ≡ Some e → e.id ≡ id) → p ≡ Some h → IsKeptAs o p
    → IsKeptAs (option_map (longer id bytes) o) (Some (record h { effects = h.effects ++ gs }))
grown_one id bytes gs h None p b i q k = absurd (subst (λ z. IsKeptAs None z) q k)
grown_one id bytes gs h (Some e) p b i q k =
    let kept : IsKept e h = subst (λ z. IsKeptAs (Some e) z) q k in
    subst (λ (c : Bool). IsKept (cond c (record e { texts = e.texts ++ bytes }) e) (record h { effects = h.effects ++ gs })) (sym ((bytes_eq-Decides e.id id).1 (i e refl))) (record {
      start = kept.start;
      texts_are = ap (λ z. z ++ bytes) kept.texts_are ∙ (ap (λ z. texts minired h.effects ++ z) b ∙ sym (flat_map-append group_text h.effects gs));
    })

other_one : (id bytes : List ℕ) (o : Option BookEntry) (p : Option (History minired)) → ((e : BookEntry) → o ≡ Some e → e.id ≢ id) → IsKeptAs o p → IsKeptAs (option_map (longer id bytes) o) p
other_one id bytes None p n k = k
other_one id bytes (Some e) p n k = subst (λ z. IsKeptAs (Some z) p) (sym (go (bytes_eq e.id id) refl)) k
  where
    go : (b : Bool) → bytes_eq e.id id ≡ b → cond b (record e { texts = e.texts ++ bytes }) e ≡ e
    go true h = absurd (n e refl ((bytes_eq-Decides e.id id).0 h))
    go false h = refl

-- groups at the end of a history, and their texts behind its texts
pub extended_kept : (es : List BookEntry) (book : Book minired) (id bytes : List ℕ) (gs : List (List Effect)) (h : History minired) → IsBook es book → book id ≡ Some h → bytes ≡ texts minired gs
    → IsBook (extended es id bytes) (with_history book id (record h { effects = h.effects ++ gs }))
extended_kept es book id bytes gs h is at b = record { each = λ i. subst (λ o. IsKeptAs o (with_history book id (record h { effects = h.effects ++ gs }) i)) (sym (entry_longer es id bytes i)) (go i (bytes_eq id i) refl) }
  where
    go : (i : List ℕ) (c : Bool) → bytes_eq id i ≡ c → IsKeptAs (option_map (longer id bytes) (entry_of es i)) (cond c (Some (record h { effects = h.effects ++ gs })) (book i))
    go i true e = let one : id ≡ i = (bytes_eq-Decides id i).0 e in
        grown_one id bytes gs h (entry_of es i) (book i) b (λ x q. found_id es i x q ∙ sym one) (ap book (sym one) ∙ at) (is.each i)
    go i false e = other_one id bytes (entry_of es i) (book i) (λ x q r. let w : bytes_eq id i ≡ true = (bytes_eq-Decides id i).1 (sym r ∙ found_id es i x q) in let wrong : false ≡ true = sym e ∙ w in absurd (cc)) (is.each i)

pub extends : (es : List BookEntry) (book : Book minired) (id : List ℕ) (gs : List (List Effect)) (h : History minired) → book id ≡ Some h → Extends minired book (with_history book id (record h { effects = h.effects ++ gs })) id gs
extends es book id gs h at = record { history = h; found = at; book = set_history book id (record h { effects = h.effects ++ gs }) }

-- ---- a branch
abbrev pub or_else : Option BookEntry → Option BookEntry → Option BookEntry
or_else None p = p
or_else (Some e) p = Some e

pub entry_push : (es : List BookEntry) (e : BookEntry) (i : List ℕ) → entry_of (es ++ e ∷ []) i ≡ or_else (entry_of es i) (cond (bytes_eq e.id i) (Some e) None)
entry_push [] e i = refl
entry_push (x ∷ es) e i = go (bytes_eq x.id i) (entry_push es e i)
  where
    go : (b : Bool) → entry_of (es ++ e ∷ []) i ≡ or_else (entry_of es i) (cond (bytes_eq e.id i) (Some e) None)
        → cond b (Some x) (entry_of (es ++ e ∷ []) i) ≡ or_else (cond b (Some x) (entry_of es i)) (cond (bytes_eq e.id i) (Some e) None)
    go true h = refl
    go false h = h

pub kept_on : (b : Bool) (o : Option BookEntry) (p : Option (History minired)) (e : BookEntry) (h : History minired) → IsKeptAs o p → IsKept e h → (b ≡ true → o ≡ None)
    → IsKeptAs (or_else o (cond b (Some e) None)) (cond b (Some h) p)
kept_on false None None e h k n f = k
kept_on false None (Some q) e h k n f = k
kept_on false (Some x) None e h k n f = k
kept_on false (Some x) (Some q) e h k n f = k
kept_on true None p e h k n f = n
kept_on true (Some x) p e h k n f = let g : Some x ≡ None = f refl in absurd (cc)

take_here : (xs ys : List ℕ) → take (length xs) (xs ++ ys) ≡ xs
take_here [] ys = refl
take_here (x ∷ xs) ys = ap (λ z. x ∷ z) (take_here xs ys)

-- a new id whose texts are those of another up to an end of one of its groups
pub branched_kept : (es : List BookEntry) (book : Book minired) (id fresh : List ℕ) (o : ℕ) (start : Dataset) (earlier later : List (List Effect)) → IsBook es book → Front minired book id o start earlier later
    → entry_of es fresh ≡ None → IsBook (branched es id o fresh) (with_history book fresh (record { start = start; effects = earlier }))
branched_kept es book id fresh o start earlier later is front none = go (entry_of es id) refl
  where
    h : History minired
    h = record { start = start; effects = earlier }

    go : (x : Option BookEntry) → entry_of es id ≡ x → IsBook (es ++ cut_of x fresh o) (with_history book fresh (record { start = start; effects = earlier }))
    go None q = absurd (subst (λ z. IsKeptAs None z) front.found (subst (λ z. IsKeptAs z (book id)) q (is.each id)))
    go (Some e) q =
        let kept : IsKept e (record { start = start; effects = earlier ++ later }) = subst (λ z. IsKeptAs (Some e) z) front.found (subst (λ z. IsKeptAs z (book id)) q (is.each id)) in
        let cut : take o e.texts ≡ texts minired earlier =
        ap (take o) (kept.texts_are ∙ flat_map-append group_text earlier later) ∙ (ap (λ n. take n (texts minired earlier ++ texts minired later)) (sym front.place) ∙ take_here (texts minired earlier) (texts minired later)) in
        record {
          each = λ i. subst (λ z. IsKeptAs z (with_history book fresh (record { start = start; effects = earlier }) i)) (sym (entry_push es (record { id = fresh; start = e.start; texts = take o e.texts }) i))
              (kept_on (bytes_eq fresh i) (entry_of es i) (book i) (record { id = fresh; start = e.start; texts = take o e.texts }) (record { start = start; effects = earlier }) (is.each i)
              (record { start = kept.start; texts_are = cut }) (λ t. ap (entry_of es) (sym ((bytes_eq-Decides fresh i).0 t)) ∙ none));
        }

pub is_none : (o : Option BookEntry) (p : Option (History minired)) → IsKeptAs o p → o ≡ None → p ≡ None
is_none None None k e = refl
is_none None (Some h) k e = absurd k
is_none (Some x) p k e = absurd (cc)

pub branches : (es : List BookEntry) (book : Book minired) (id fresh : List ℕ) (o : ℕ) (start : Dataset) (earlier later : List (List Effect)) → IsBook es book → Front minired book id o start earlier later
    → entry_of es fresh ≡ None → Branches minired book (with_history book fresh (record { start = start; effects = earlier })) fresh id o
branches es book id fresh o start earlier later is front none = record {
  new_id = is_none (entry_of es fresh) (book fresh) (is.each fresh) none;
  start = start;
  earlier = earlier;
  later = later;
  front = front;
  book = set_history book fresh (record { start = start; effects = earlier });
}
