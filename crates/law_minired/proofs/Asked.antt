-- No request begins another, and each asks one thing, in a transaction or in none.
use Rattle.std.proofs.Common.{◌≡◌, ◌≢◌, ℕ, ℤ, pos, List, [], ◌++◌, inl, inr, refl, sym, ◌∙◌, ap, subst, Option, Some, None}
use Rattle.std.proofs.lemmas.List.{append-nil}
use Rattle.mr_map.specs.Bytes.{Bytes}
use Rattle.mr_inline.specs.Language.{IsDoomed}
use Rattle.mr_resp.specs.Spelling.{array}
use Rattle.mr_resp.specs.Request.{IsText}
use Rattle.mr_resp.specs.Usual.{usual}
use Rattle.mr_resp.proofs.OneAnswer.{same_requests, not_empty, one_text, same_texts}
use Rattle.law_protocol.specs.Language.{Request, Transaction}
use Rattle.law_protocol.specs.Language.Request.{Psync}
use Rattle.law_minired.specs.Requests.{Kind, kind_in, IsWanted, Asks, IsAsked}
use Rattle.law_minired.specs.Requests.Kind.{handshake, psync, ack, no_one, follow, quit, command}
use Rattle.law_minired.specs.Requests.IsAsked.{by_words, by_nothing}
use Rattle.law_minired.proofs.Ids.{one_id}

pos_is : (a b : ℕ) → pos a ≡ pos b → a ≡ b
pos_is a b e = cc

one_wanted : (t : Bytes) (n : ℤ) (p q : Option (List ℕ × ℕ)) → IsWanted t n p → IsWanted t n q → p ≡ q
one_wanted t n None None x y = refl
one_wanted t n None (Some w) x y = absurd (x w.0 w.1 y)
one_wanted t n (Some w) None x y = absurd (y w.0 w.1 x)
one_wanted t n (Some w) (Some z) x y =
    let i : w.0 ≡ z.0 = one_id w.0 z.0 x.is_id y.is_id (sym x.id_is ∙ y.id_is) in
    let o : w.1 ≡ z.1 = pos_is w.1 z.1 (sym x.offset_is ∙ y.offset_is) in
    ap (λ v. Some v) (pair_is w z i o)
  where
    pair_is : (r s : List ℕ × ℕ) → r.0 ≡ s.0 → r.1 ≡ s.1 → r ≡ s
    pair_is r s e f = let g : List ℕ → List ℕ × ℕ = λ z. (z, r.1) in let h : ℕ → List ℕ × ℕ = λ z. (s.0, z) in ap g e ∙ ap h f

one_asked : (k : Kind) (a b : Request (List ℕ)) → Asks k a → Asks k b → a ≡ b
one_asked handshake a b x y = x ∙ sym y
one_asked (psync id wanted) a b x y = x.2 ∙ (ap (λ z. Psync z) (one_wanted id wanted x.0 y.0 x.1 y.1) ∙ sym y.2)
one_asked ack a b x y = x ∙ sym y
one_asked no_one a b x y = x ∙ sym y
one_asked (follow host port) a b x y = x ∙ sym y
one_asked quit a b x y = x ∙ sym y
one_asked command a b x y = x ∙ sym y

is_text : (n : Option Transaction) (t : List ℕ) (a : Request (List ℕ)) → IsAsked n t a → IsText usual t
is_text n t a (by_words ws r e) = inl (ws, r)
is_text n t a (by_nothing m e) = inr m

pub asks_cut : (n : Option Transaction) (s t : List ℕ) (a b : Request (List ℕ)) (x y : List ℕ) → IsAsked n s a → IsAsked n t b → s ++ x ≡ t ++ y → (s ≡ t) × (a ≡ b)
asks_cut n s t a b x y p q e = (same_texts usual s t x y (is_text n s a p) (is_text n t b q) e, go p q)
  where
    go : IsAsked n s a → IsAsked n t b → a ≡ b
    go (by_words ws r f) (by_words vs u g) =
        let same = (same_requests usual s t x y ws vs r u e).0 in
        one_asked (kind_in n vs) a b (subst (λ z. Asks (kind_in n z) a) same f) g
    go (by_words ws r f) (by_nothing m g) = absurd (not_empty usual s t x y ws r m e)
    go (by_nothing m f) (by_words vs u g) = absurd (not_empty usual t s y x vs u m (sym e))
    go (by_nothing m f) (by_nothing k g) = f ∙ sym g

-- the empty array is a text, and isn't empty
empty_array : IsText usual (array [])
empty_array = inr (inl (inl refl))

array_some : array [] ≢ []
array_some e = cc

pub asks_some : (n : Option Transaction) (t : List ℕ) (a : Request (List ℕ)) → IsAsked n t a → t ≢ []
asks_some n t a p e =
    array_some (one_text usual t (array []) (array []) [] (is_text n t a p) empty_array (ap (λ z. z ++ array []) e ∙ sym (append-nil (array []))))

pub doomed_cut : (n : Option Transaction) (s t : List ℕ) (a : Request (List ℕ)) (x y : List ℕ) → IsDoomed (IsText usual) s → IsAsked n t a → s ++ x ≡ t ++ y → ⊥
doomed_cut n s t a x y d p e = d.never x t y (is_text n t a p) e

pub doomed_some : IsDoomed (IsText usual) [] → ⊥
doomed_some d = d.never (array []) (array []) [] empty_array (sym (append-nil (array [])))
