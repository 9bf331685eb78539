-- Names of ends, and what becomes of them.
use Rattle.std.proofs.lemmas.Cmp.{eq_by_cmp_equiv}
use Rattle.std.specs.List.{filter}
use Rattle.std.proofs.Common.{◌≡◌, ◌≢◌, not, ℕ, List, [], ◌∷◌, ◌++◌, Bool, true, false, cond, Option, None, Some, refl, sym, ap, subst, ◌∙◌}
use Rattle.std.specs.Ordering.{eq_by_cmp}
use Rattle.std.specs.FinMap.{FinMap, get, insert, remove, get-insert, get-remove}
use Rattle.std.proofs.lemmas.Map.Views.{tells_apart}
use Rattle.mr_links.specs.Links.{Links}
use Rattle.mr_links.specs.LinkId.{id_cmp}
use Rattle.mr_links.specs.declared.link_id.LinkId.{LinkId}
use Rattle.mr_links.proofs.LinkRows.{ids_total, exact_ids}
use Rattle.mr_node_links.specs.State.{EndState, streams}
use Rattle.mr_node_links.specs.Ending.{used_of, heard_of}
use Rattle.mr_node_links.specs.Replicas.{is_named, Lists, shut_where, ShutsNamed, ShutsReplicas}
use Rattle.mr_node_links.specs.State.EndState.{client, waiting, replica, upstream, shut}

swapped : (a b r : Bool) → cond a true (cond b true r) ≡ cond b true (cond a true r)
swapped true true r = refl
swapped true false r = refl
swapped false true r = refl
swapped false false r = refl

pub named_push : (ns : List LinkId) (n x : LinkId) → is_named (ns ++ n ∷ []) x ≡ cond (eq_by_cmp id_cmp x n) true (is_named ns x)
named_push [] n x = refl
named_push (m ∷ ns) n x = ap (λ z. cond (eq_by_cmp id_cmp x m) true z) (named_push ns n x) ∙ swapped (eq_by_cmp id_cmp x m) (eq_by_cmp id_cmp x n) (is_named ns x)

pub used_streams : (n : ℕ) (e : EndState) → streams (Some (used_of n e)) ≡ streams (Some e)
used_streams n (client u) = refl
used_streams n (waiting t u) = refl
used_streams n (replica u) = refl
used_streams n upstream = refl
used_streams n shut = refl

pub heard_streams : (bytes : List ℕ) (e : EndState) → streams (Some (heard_of bytes e)) ≡ streams (Some e)
heard_streams bytes (client u) = refl
heard_streams bytes (waiting t u) = refl
heard_streams bytes (replica u) = refl
heard_streams bytes upstream = refl
heard_streams bytes shut = refl

-- ---- each of them once
abbrev pub AreOnce : List LinkId → Type 0
AreOnce names = (front behind : List LinkId) (x : LinkId) → names ≡ front ++ x ∷ behind → is_named behind x ≡ false

-- .. by recursion
abbrev pub AreDistinct : List LinkId → Type 0
AreDistinct [] = Unit {0}
AreDistinct (n ∷ names) = (is_named names n ≡ false) × AreDistinct names

empty_behind : (front behind : List LinkId) (x : LinkId) → [] ≡ front ++ x ∷ behind → ⊥
empty_behind [] behind x e = cc
empty_behind (y ∷ front) behind x e = cc

head_is : (n y : LinkId) (ns ys : List LinkId) → n ∷ ns ≡ y ∷ ys → n ≡ y
head_is n y ns ys e = cc

tail_is : (n y : LinkId) (ns ys : List LinkId) → n ∷ ns ≡ y ∷ ys → ns ≡ ys
tail_is n y ns ys e = cc

pub once_of : (names : List LinkId) → AreDistinct names → AreOnce names
once_of [] d front behind x e = absurd (empty_behind front behind x e)
once_of (n ∷ names) d [] behind x e = ap (λ z. is_named behind z) (sym (head_is n x names behind e)) ∙ (ap (λ z. is_named z n) (sym (tail_is n x names behind e)) ∙ d.0)
once_of (n ∷ names) d (y ∷ front) behind x e = once_of names d.1 front behind x (tail_is n y names (front ++ x ∷ behind) e)

pub distinct_of : (names : List LinkId) → AreOnce names → AreDistinct names
distinct_of [] o = tt
distinct_of (n ∷ names) o = (o [] names n refl, distinct_of names (λ front behind x e. o (n ∷ front) behind x (ap (λ z. n ∷ z) e)))

-- by whether it is this one
pub at_or_not : (x l : LinkId) (P : Bool → Type 0) → (x ≡ l → P true) → P false → P (eq_by_cmp id_cmp x l)
at_or_not x l P same other = (elim (eq_by_cmp id_cmp x l) as (λ v. eq_by_cmp id_cmp x l ≡ v → P v) [
  | true ↦ λ h. same (tells_apart exact_ids x l h)
  | false ↦ λ h. other
] refl)

-- an end takes another's place where the stream goes as before
pub put_lists : (ns : List LinkId) (m : FinMap id_cmp EndState) (l : LinkId) (e : EndState) → Lists ns m → streams (Some e) ≡ streams (get m l) → Lists ns (insert m l e)
put_lists ns m l e h same = record {
  each = λ x. subst (λ z. is_named ns x ≡ streams z) (sym (get-insert ids_total m l e x))
      (at_or_not x l (λ b. is_named ns x ≡ streams (cond b (Some e) (get m x))) (λ is. h.each x ∙ (ap (λ z. streams (get m z)) is ∙ sym same)) (h.each x));
  once = h.once;
}

-- an end that the stream isn't sent to was put where there was none
pub unput_lists : (ns : List LinkId) (m : FinMap id_cmp EndState) (l : LinkId) (e : EndState) → get m l ≡ None → streams (Some e) ≡ false → Lists ns (insert m l e) → Lists ns m
unput_lists ns m l e none quiet h = record {
  each = λ x. h.each x ∙ (ap streams (get-insert ids_total m l e x)
      ∙ at_or_not x l (λ b. streams (cond b (Some e) (get m x)) ≡ streams (get m x)) (λ is. quiet ∙ sym (ap (λ z. streams (get m z)) is ∙ ap streams none)) refl);
  once = h.once;
}

-- one that is the same
pub same_lists : (ns : List LinkId) (m : FinMap id_cmp EndState) (l : LinkId) (e f : EndState) → Lists ns m → get m l ≡ Some e → f ≡ e → Lists ns (insert m l f)
same_lists ns m l e f h here is = put_lists ns m l f h (ap (λ (z : EndState). streams (Some z)) is ∙ sym (ap streams here))

-- ---- a name that is put behind
not_first : (a b : Bool) → cond a true b ≡ false → a ≡ false
not_first true b e = absurd (cc)
not_first false b e = refl

not_later : (a b : Bool) → cond a true b ≡ false → b ≡ false
not_later true b e = absurd (cc)
not_later false b e = e

neither : (a b : Bool) → a ≡ false → b ≡ false → cond a true b ≡ false
neither a b p q = ap (λ z. cond z true b) p ∙ q

swapped_ids : (x y : LinkId) → eq_by_cmp id_cmp x y ≡ false → eq_by_cmp id_cmp y x ≡ false
swapped_ids x y h = at_or_not y x (λ b. b ≡ false) (λ is. absurd (both (eq_by_cmp id_cmp x y) h (ap (λ z. eq_by_cmp id_cmp x z) is ∙ (eq_by_cmp_equiv ids_total).refl x))) refl
  where
    both : (b : Bool) → b ≡ false → b ≡ true → ⊥
    both b p q = cc

pub distinct_push : (ns : List LinkId) (l : LinkId) → AreDistinct ns → is_named ns l ≡ false → AreDistinct (ns ++ l ∷ [])
distinct_push [] l d new = (refl, tt)
distinct_push (n ∷ ns) l d new = (
  named_push ns l n ∙ neither (eq_by_cmp id_cmp n l) (is_named ns n) (swapped_ids l n (not_first (eq_by_cmp id_cmp l n) (is_named ns l) new)) d.0,
  distinct_push ns l d.1 (not_later (eq_by_cmp id_cmp l n) (is_named ns l) new),
)

-- one to which it goes from now on
pub turned_lists : (ns : List LinkId) (m : FinMap id_cmp EndState) (l : LinkId) (e : EndState) → Lists ns m → streams (get m l) ≡ false → streams (Some e) ≡ true → Lists (ns ++ l ∷ []) (insert m l e)
turned_lists ns m l e h new goes = record {
  each = λ x. named_push ns l x ∙ subst (λ z. cond (eq_by_cmp id_cmp x l) true (is_named ns x) ≡ streams z) (sym (get-insert ids_total m l e x))
      (at_or_not x l (λ b. cond b true (is_named ns x) ≡ streams (cond b (Some e) (get m x))) (λ is. sym goes) (h.each x));
  once = once_of (ns ++ l ∷ []) (distinct_push ns l (distinct_of ns h.once) (h.each l ∙ new));
}

untouched : (o : Option EndState) → o ≡ shut_where false o
untouched None = refl
untouched (Some e) = refl

pub one_shut : (m : FinMap id_cmp EndState) (n : LinkId) (e : EndState) → get m n ≡ Some e → ShutsNamed m (n ∷ []) (insert m n shut)
one_shut m n e found = record {
  each = λ x. get-insert ids_total m n shut x ∙
      at_or_not x n (λ b. cond b (Some shut) (get m x) ≡ shut_where (cond b true false) (get m x))
      (λ is. sym (ap (shut_where true) (ap (get m) is ∙ found))) (untouched (get m x));
}

twice : (b d : Bool) (o : Option EndState) → shut_where d (shut_where (cond b true false) o) ≡ shut_where (cond b true d) o
twice b d None = shut_none b d
  where
    shut_none : (b d : Bool) → shut_where d (shut_where (cond b true false) None) ≡ shut_where (cond b true d) None
    shut_none true true = refl
    shut_none true false = refl
    shut_none false true = refl
    shut_none false false = refl
twice true true (Some e) = refl
twice true false (Some e) = refl
twice false true (Some e) = refl
twice false false (Some e) = refl

-- what is left to be shut comes to all
pub record Shutting (names rest : List LinkId) (a b : FinMap id_cmp EndState) : Type 0 where
  pub each : (x : LinkId) → shut_where (is_named rest x) (get b x) ≡ shut_where (is_named names x) (get a x)

pub shut_on : (names rest later : List LinkId) (n : LinkId) (a b d : FinMap id_cmp EndState) → rest ≡ n ∷ later → ShutsNamed b (n ∷ []) d → Shutting names rest a b → Shutting names later a d
shut_on names rest later n a b d is one h = record {
  each = λ x.
      ap (shut_where (is_named later x)) (one.each x) ∙ (twice (eq_by_cmp id_cmp x n) (is_named later x) (get b x)
      ∙ (ap (λ z. shut_where (is_named z x) (get b x)) (sym is) ∙ h.each x));
}

pub shut_end : (names rest : List LinkId) (a b : FinMap id_cmp EndState) → rest ≡ [] → Shutting names rest a b → ShutsNamed a names b
shut_end names rest a b is h = record { each = λ x. untouched (get b x) ∙ (ap (λ z. shut_where (is_named z x) (get b x)) (sym is) ∙ h.each x) }

pub silent : (o : Option EndState) → streams (shut_where (streams o) o) ≡ false
silent None = refl
silent (Some (client u)) = refl
silent (Some (waiting t u)) = refl
silent (Some (replica u)) = refl
silent (Some upstream) = refl
silent (Some shut) = refl

pub replicas_shut : (names : List LinkId) (a b : Links EndState) → Lists names a.open_links → ShutsNamed a.open_links names b.open_links → b.opened ≡ a.opened → ShutsReplicas a b
replicas_shut names a b h s o = record { each = λ x. s.each x ∙ ap (λ z. shut_where z (get a.open_links x)) (h.each x); opened = o }

pub none_listed : (a b : Links EndState) → ShutsReplicas a b → Lists [] b.open_links
none_listed a b s = record { each = λ x. sym (ap streams (s.each x) ∙ silent (get a.open_links x)); once = once_of [] tt }

-- ---- a name that is taken out of the list
pub at_or_other : (x l : LinkId) (P : Bool → Type 0) → (x ≡ l → P true) → (x ≢ l → P false) → P (eq_by_cmp id_cmp x l)
at_or_other x l P same other = (elim (eq_by_cmp id_cmp x l) as (λ v. eq_by_cmp id_cmp x l ≡ v → P v) [
  | true ↦ λ h. same (tells_apart exact_ids x l h)
  | false ↦ λ h. other (λ is. not_both (eq_by_cmp id_cmp x l) h (ap (λ z. eq_by_cmp id_cmp x z) (sym is) ∙ (eq_by_cmp_equiv ids_total).refl x))
] refl)
  where
    not_both : (b : Bool) → b ≡ false → b ≡ true → ⊥
    not_both b p q = cc

none_either : (b : Bool) → false ≡ cond b false false
none_either true = refl
none_either false = refl

passed : (b r : Bool) → cond b false r ≡ cond b false (cond b true r)
passed true r = refl
passed false r = refl

apart : (a b r : Bool) → (a ≡ true → b ≡ true → ⊥) → cond a true (cond b false r) ≡ cond b false (cond a true r)
apart true true r h = absurd (h refl refl)
apart true false r h = refl
apart false true r h = refl
apart false false r h = refl

pub named_forget : (ns : List LinkId) (l x : LinkId) → is_named (filter (λ n. not (eq_by_cmp id_cmp n l)) ns) x ≡ cond (eq_by_cmp id_cmp x l) false (is_named ns x)
named_forget [] l x = none_either (eq_by_cmp id_cmp x l)
named_forget (n ∷ ns) l x =
    at_or_other n l (λ b. is_named (cond (not b) (n ∷ filter (λ n. not (eq_by_cmp id_cmp n l)) ns) (filter (λ n. not (eq_by_cmp id_cmp n l)) ns)) x ≡ cond (eq_by_cmp id_cmp x l) false (cond (eq_by_cmp id_cmp x n) true (is_named ns x)))
    (λ is. named_forget ns l x ∙ (passed (eq_by_cmp id_cmp x l) (is_named ns x) ∙ ap (λ z. cond (eq_by_cmp id_cmp x l) false (cond (eq_by_cmp id_cmp x z) true (is_named ns x))) (sym is)))
    (λ ne. ap (λ z. cond (eq_by_cmp id_cmp x n) true z) (named_forget ns l x)
    ∙ apart (eq_by_cmp id_cmp x n) (eq_by_cmp id_cmp x l) (is_named ns x) (λ p q. ne (sym (tells_apart exact_ids x n p) ∙ tells_apart exact_ids x l q)))

abbrev pub forgotten : LinkId → List LinkId → List LinkId
forgotten l ns = filter (λ n. not (eq_by_cmp id_cmp n l)) ns

distinct_forget : (ns : List LinkId) (l : LinkId) → AreDistinct ns → AreDistinct (filter (λ n. not (eq_by_cmp id_cmp n l)) ns)
distinct_forget [] l d = tt
distinct_forget (n ∷ ns) l d = kept_or_not (eq_by_cmp id_cmp n l) (distinct_forget ns l d.1) (named_forget ns l n ∙ gone (eq_by_cmp id_cmp n l) (is_named ns n) d.0)
  where
    kept_or_not : (b : Bool) → AreDistinct (filter (λ k. not (eq_by_cmp id_cmp k l)) ns) → is_named (filter (λ k. not (eq_by_cmp id_cmp k l)) ns) n ≡ false
        → AreDistinct (cond (not b) (n ∷ filter (λ k. not (eq_by_cmp id_cmp k l)) ns) (filter (λ k. not (eq_by_cmp id_cmp k l)) ns))
    kept_or_not true rest out = rest
    kept_or_not false rest out = (out, rest)

    gone : (b r : Bool) → r ≡ false → cond b false r ≡ false
    gone true r e = refl
    gone false r e = e

pub shut_lists : (ns : List LinkId) (m : FinMap id_cmp EndState) (l : LinkId) → Lists ns m → Lists (filter (λ n. not (eq_by_cmp id_cmp n l)) ns) (insert m l shut)
shut_lists ns m l h = record {
  each = λ x. named_forget ns l x
      ∙ subst (λ z. cond (eq_by_cmp id_cmp x l) false (is_named ns x) ≡ streams z) (sym (get-insert ids_total m l shut x))
      (at_or_not x l (λ b. cond b false (is_named ns x) ≡ streams (cond b (Some shut) (get m x))) (λ is. refl) (h.each x));
  once = once_of _ (distinct_forget ns l (distinct_of ns h.once));
}

pub gone_lists : (ns : List LinkId) (m : FinMap id_cmp EndState) (l : LinkId) → Lists ns m → Lists (filter (λ n. not (eq_by_cmp id_cmp n l)) ns) (remove m l)
gone_lists ns m l h = record {
  each = λ x. named_forget ns l x
      ∙ subst (λ z. cond (eq_by_cmp id_cmp x l) false (is_named ns x) ≡ streams z) (sym (get-remove ids_total m l x))
      (at_or_not x l (λ b. cond b false (is_named ns x) ≡ streams (cond b None (get m x))) (λ is. refl) (h.each x));
  once = once_of _ (distinct_forget ns l (distinct_of ns h.once));
}
