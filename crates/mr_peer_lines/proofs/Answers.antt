-- A text is an answer to PSYNC, or of none.
use Rattle.std.proofs.Common.{◌≡◌, ◌≢◌, ◌<◌, ◌≤◌, ◌⊎◌, inl, inr, ℕ, ℤ, pos, negsuc, List, [], ◌∷◌, ◌++◌, Bool, true, false, Option, None, Some, length, take, drop, take-append-drop, codes, refl, sym, ap, ◌∙◌, arith}
use Rattle.std.specs.List.{AllPass}
use Rattle.std.specs.Fmt.{decimal}
use Rattle.std.proofs.lemmas.List.Elements.{All-nil, All-cons, All-head, All-tail}
use Rattle.std.proofs.lemmas.List.{append_cancel_left}
use Rattle.mr_bytes.specs.Number.{number_of}
use Rattle.mr_bytes.proofs.Numbers.{number_is, number_text}
use Rattle.mr_repl.specs.ReplId.{IsId, digits_of, is_lower_digit}
use Rattle.mr_repl.proofs.IdTexts.{texts_are_forty}
use Rattle.mr_repl.specs.Backlog.{offset_limit}
use Rattle.mr_peer_lines.specs.Replies.{place_text, IsPlaceText, IsReplyText}
use Rattle.mr_peer_lines.specs.declared.psync.PsyncReply.{PsyncReply}
use Rattle.mr_peer_lines.specs.declared.psync.PsyncReply.TheVariants as reply
use Rattle.mr_peer_lines.proofs.Places.{small, digits_long}

-- either this holds or it is refuted
abbrev pub Settled : Type 0 → Type 0
Settled P = P ⊎ (P → ⊥)

all_or : (p : ℕ → Bool) (xs : List ℕ) → Settled (AllPass p xs)
all_or p [] = inl (All-nil (λ x. p x ≡ true))
all_or p (x ∷ xs) = go (all_or p xs) (p x) refl
  where
    go : Settled (AllPass p xs) → (b : Bool) → p x ≡ b → Settled (AllPass p (x ∷ xs))
    go (inl h) true e = inl (All-cons (λ y. p y ≡ true) x xs e h)
    go (inr n) true e = inr (λ h. n (All-tail (λ y. p y ≡ true) x xs h))
    go r false e = inr (λ h. let t : p x ≡ true = All-head (λ y. p y ≡ true) x xs h in let w : false ≡ true = sym e ∙ t in cc)

number_or : (a c : ℕ) → (a ≡ c) ⊎ (a ≢ c)
number_or a c = grind arith

abbrev pub IsIdOf : List ℕ → Type 0
IsIdOf x = (id : List ℕ) × IsId id × (digits_of id ≡ x)

id_or : (x : List ℕ) → Settled (IsIdOf x)
id_or x = go (number_or (length x) 40) (all_or is_lower_digit x)
  where
    go : (length x ≡ 40) ⊎ (length x ≢ 40) → Settled (AllPass is_lower_digit x) → Settled (IsIdOf x)
    go (inl l) (inl d) = inl ((texts_are_forty x).0 (record { long = l; digits = d }))
    go (inr n) d = inr (λ h. n ((texts_are_forty x).1 h).long)
    go (inl l) (inr n) = inr (λ h. n ((texts_are_forty x).1 h).digits)

abbrev pub IsCount : List ℕ → Type 0
IsCount x = (o : ℕ) × (o ≤ offset_limit) × (x ≡ decimal o)

count_or : (x : List ℕ) → Settled (IsCount x)
count_or x = go (number_of x) refl
  where
    none : (o : Option ℤ) → number_of x ≡ o → ((n : ℕ) → n ≤ offset_limit → o ≢ Some (pos n)) → IsCount x → ⊥
    none o e n c = n c.0 c.1 (sym e ∙ number_is x (pos c.0) (small c.0 c.1) c.2)

    few_or : (n : ℕ) → (n ≤ offset_limit) ⊎ (offset_limit < n)
    few_or n = grind arith

    whole : (n : ℕ) → number_of x ≡ Some (pos n) → (n ≤ offset_limit) ⊎ (offset_limit < n) → Settled (IsCount x)
    whole n e (inl h) = inl (n, h, (number_text x (pos n) e).0)
    whole n e (inr h) = inr (none (Some (pos n)) e (λ k few q. let same : n ≡ k = pos_is n k q in omega (arith, h, few, same)))
      where
        pos_is : (a b : ℕ) → Some (pos a) ≡ Some (pos b) → a ≡ b
        pos_is a b q = cc

    go : (o : Option ℤ) → number_of x ≡ o → Settled (IsCount x)
    go None e = inr (none None e (λ n h q. absurd (cc)))
    go (Some (pos n)) e = whole n e (few_or n)
    go (Some (negsuc n)) e = inr (none (Some (negsuc n)) e (λ k h q. absurd (cc)))

abbrev pub Begins : List ℕ → List ℕ → Type 0
Begins p x = (rest : List ℕ) × (x ≡ p ++ rest)

begins_or : (p x : List ℕ) → Settled (Begins p x)
begins_or [] x = inl (x, refl)
begins_or (a ∷ p) [] = inr (λ h. let e : [] ≡ a ∷ (p ++ h.0) = h.1 in absurd (cc))
begins_or (a ∷ p) (b ∷ x) = go (number_or b a) (begins_or p x)
  where
    tails : (y z : List ℕ) → b ∷ y ≡ a ∷ z → y ≡ z
    tails y z e = cc

    heads : (y z : List ℕ) → b ∷ y ≡ a ∷ z → b ≡ a
    heads y z e = cc

    go : (b ≡ a) ⊎ (b ≢ a) → Settled (Begins p x) → Settled (Begins (a ∷ p) (b ∷ x))
    go (inl e) (inl h) = inl (h.0, ap (λ z. z ∷ x) e ∙ ap (λ z. a ∷ z) h.1)
    go (inl e) (inr n) = inr (λ h. n (h.0, tails x (p ++ h.0) h.1))
    go (inr n) r = inr (λ h. n (heads x (p ++ h.0) h.1))

abbrev pub IsPlace : List ℕ → Type 0
IsPlace x = (id : List ℕ) × (o : ℕ) × IsPlaceText x id o

take_seam : (a b : List ℕ) → take (length a) (a ++ b) ≡ a
take_seam [] b = refl
take_seam (x ∷ a) b = ap (λ z. x ∷ z) (take_seam a b)

drop_seam : (a b : List ℕ) → drop (length a) (a ++ b) ≡ b
drop_seam [] b = refl
drop_seam (x ∷ a) b = drop_seam a b

parts : (x id : List ℕ) (o : ℕ) → IsId id → x ≡ place_text id o → (take 40 x ≡ digits_of id) × (drop 40 x ≡ 32 ∷ decimal o)
parts x id o is e = let l = digits_long id is in (
  ap (take 40) e ∙ (ap (λ n. take n (digits_of id ++ 32 ∷ decimal o)) (sym l) ∙ take_seam (digits_of id) (32 ∷ decimal o)),
  ap (drop 40) e ∙ (ap (λ n. drop n (digits_of id ++ 32 ∷ decimal o)) (sym l) ∙ drop_seam (digits_of id) (32 ∷ decimal o)),
)

tail_is : (a : ℕ) (x y : List ℕ) → a ∷ x ≡ a ∷ y → x ≡ y
tail_is a x y e = cc

place_or : (x : List ℕ) → Settled (IsPlace x)
place_or x = front (id_or (take 40 x)) (begins_or (32 ∷ []) (drop 40 x))
  where
    rest : (s : Begins (32 ∷ []) (drop 40 x)) → IsIdOf (take 40 x) → Settled (IsCount s.0) → Settled (IsPlace x)
    rest s i (inl c) = inl (i.0, c.0, ((i.1, c.1), sym (take-append-drop 40 x) ∙ (ap (λ z. z ++ drop 40 x) (sym i.2) ∙ ap (λ z. digits_of i.0 ++ z) (s.1 ∙ ap (λ z. 32 ∷ z) c.2))))
    rest s i (inr n) = inr (λ h. n (h.1, h.2.0.1, tail_is 32 s.0 (decimal h.1) (sym s.1 ∙ (parts x h.0 h.1 h.2.0.0 h.2.1).1)))

    front : Settled (IsIdOf (take 40 x)) → Settled (Begins (32 ∷ []) (drop 40 x)) → Settled (IsPlace x)
    front (inr n) b = inr (λ h. n (h.0, h.2.0.0, sym (parts x h.0 h.1 h.2.0.0 h.2.1).0))
    front (inl i) (inr n) = inr (λ h. n (decimal h.1, (parts x h.0 h.1 h.2.0.0 h.2.1).1))
    front (inl i) (inl s) = rest s i (count_or s.0)

abbrev first : List ℕ → ℕ
first [] = 0
first (a ∷ rest) = a

abbrev pub IsAnswer : List ℕ → Type 0
IsAnswer x = (r : PsyncReply) × IsReplyText x r

-- a text is one of an answer, or of none
pub answer_or : (x : List ℕ) → Settled (IsAnswer x)
answer_or x = go (begins_or (codes "CONTINUE ") x) (begins_or (codes "FULLRESYNC ") x)
  where
    full : (b : Begins (codes "FULLRESYNC ") x) → (Begins (codes "CONTINUE ") x → ⊥) → Settled (IsPlace b.0) → Settled (IsAnswer x)
    full b n (inl p) = inl (reply.FullResync p.0 p.1, (p.2.0, b.1 ∙ ap (λ z. codes "FULLRESYNC " ++ z) p.2.1))
    full b n (inr m) = inr (λ h. no h.0 h.1)
      where
        no : (r : PsyncReply) → IsReplyText x r → ⊥
        no (reply.FullResync id o) h = m (id, o, (h.0, append_cancel_left (codes "FULLRESYNC ") b.0 (place_text id o) (sym b.1 ∙ h.1)))
        no (reply.Continue id) h = n (digits_of id, h.1)

    on : (b : Begins (codes "CONTINUE ") x) → (Begins (codes "FULLRESYNC ") x → ⊥) → Settled (IsIdOf b.0) → Settled (IsAnswer x)
    on b n (inl i) = inl (reply.Continue i.0, (i.1, b.1 ∙ ap (λ z. codes "CONTINUE " ++ z) (sym i.2)))
    on b n (inr m) = inr (λ h. no h.0 h.1)
      where
        no : (r : PsyncReply) → IsReplyText x r → ⊥
        no (reply.FullResync id o) h = n (place_text id o, h.1)
        no (reply.Continue id) h = m (id, h.0, append_cancel_left (codes "CONTINUE ") (digits_of id) b.0 (sym h.1 ∙ b.1))

    apart : Begins (codes "CONTINUE ") x → Begins (codes "FULLRESYNC ") x → ⊥
    apart b c = let e : codes "CONTINUE " ++ b.0 ≡ codes "FULLRESYNC " ++ c.0 = sym b.1 ∙ c.1 in let h : 67 ≡ 70 = ap first e in omega (arith, h)

    neither : (Begins (codes "CONTINUE ") x → ⊥) → (Begins (codes "FULLRESYNC ") x → ⊥) → (r : PsyncReply) → IsReplyText x r → ⊥
    neither n m (reply.FullResync id o) h = m (place_text id o, h.1)
    neither n m (reply.Continue id) h = n (digits_of id, h.1)

    go : Settled (Begins (codes "CONTINUE ") x) → Settled (Begins (codes "FULLRESYNC ") x) → Settled (IsAnswer x)
    go (inl b) c = on b (λ f. apart b f) (id_or b.0)
    go (inr n) (inl b) = full b n (place_or b.0)
    go (inr n) (inr m) = inr (λ h. neither n m h.0 h.1)
