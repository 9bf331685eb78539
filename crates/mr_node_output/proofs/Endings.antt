-- A reply behind which nothing is given out.
use Rattle.std.proofs.Common.{◌≡◌, ◌<◌, ℕ, List, [], ◌∷◌, ◌++◌, Bool, false, Option, None, Some, length, arith, refl, sym, ap, subst, ◌∙◌}
use Rattle.std.proofs.lemmas.List.{append-nil, append_assoc}
use Rattle.mr_links.specs.declared.link_id.LinkId.{LinkId}
use Rattle.mr_node_output.specs.Address.{AddressState}
use Rattle.mr_node_output.specs.Outs.{EndsWithReply, OutsState, OutState, closed_outs, closing_outs, fed_outs, followed_outs, grown_outs, appended_outs, halted_outs, outs_of, replaced_outs, reply_outs, send, sent_outs, used_outs}

-- what is sent and what comes behind it, by its parts
abbrev ends_by : Option LinkId → List ℕ → Bool → List LinkId → Option (List ℕ) → Option AddressState → Bool → List OutState
ends_by link reply closes closed used follows halts = sent_outs link reply ++ (closing_outs link closes ++ (closed_outs closed ++ (used_outs used ++ (followed_outs follows ++ halted_outs halts))))

-- of these outs that end with the reply the reply alone is left
only_reply : (a : OutsState) (l : LinkId) (reply : List ℕ) (left : List OutState) → a.link ≡ Some l → EndsWithReply a → sent_outs (Some l) reply ++ [] ≡ left → ends_by a.link reply a.closes a.closed a.used a.follows a.halts ≡ left
only_reply a l reply left link h is =
    subst (λ z. ends_by z reply a.closes a.closed a.used a.follows a.halts ≡ left) (sym link)
    (subst (λ z. ends_by (Some l) reply z a.closed a.used a.follows a.halts ≡ left) (sym h.stays)
    (subst (λ z. ends_by (Some l) reply false z a.used a.follows a.halts ≡ left) (sym h.none_closed)
    (subst (λ z. ends_by (Some l) reply false [] z a.follows a.halts ≡ left) (sym h.none_used)
    (subst (λ z. ends_by (Some l) reply false [] None z a.halts ≡ left) (sym h.none_followed)
    (subst (λ z. ends_by (Some l) reply false [] None None z ≡ left) (sym h.goes_on) is)))))

-- what comes last of five
last_of : (g x r f s : List OutState) → g ++ (x ++ (r ++ (f ++ s))) ≡ (g ++ (x ++ (r ++ (f ++ [])))) ++ s
last_of g x r f s =
    sym (append_assoc g (x ++ (r ++ (f ++ []))) s
    ∙ ap (λ z. g ++ z) (append_assoc x (r ++ (f ++ [])) s ∙ ap (λ z. x ++ z) (append_assoc r (f ++ []) s ∙ ap (λ z. r ++ z) (ap (λ z. z ++ s) (append-nil f)))))

-- the outs of a step, before what is sent on its link
abbrev outs_before : OutsState → List OutState → List OutState
outs_before a s = grown_outs a.grown ++ (appended_outs a.appended ++ (replaced_outs a.replaced ++ (fed_outs a.grown a.fed ++ s)))

-- A reply that is taken out was the last of the outs.
pub reply_is_last : (a n : OutsState) (l : LinkId) (text : List ℕ) → a.link ≡ Some l → a.reply ≡ text → 0 < length text → EndsWithReply a → n ≡ record a { reply = [] } → outs_of a ≡ outs_of n ++ send l text ∷ []
reply_is_last a n l [] link said some h rest = absurd (omega (arith, some))
reply_is_last a n l (b ∷ text) link said some h rest =
    let sent : reply_outs a ≡ send l (b ∷ text) ∷ [] = ap (λ z. ends_by a.link z a.closes a.closed a.used a.follows a.halts) said ∙ only_reply a l (b ∷ text) (send l (b ∷ text) ∷ []) link h refl in
    let none : ends_by a.link [] a.closes a.closed a.used a.follows a.halts ≡ [] = only_reply a l [] [] link h refl in
    ap (outs_before a) sent
    ∙ (last_of (grown_outs a.grown) (appended_outs a.appended) (replaced_outs a.replaced) (fed_outs a.grown a.fed) (send l (b ∷ text) ∷ [])
    ∙ ap (λ z. z ++ send l (b ∷ text) ∷ []) (ap (outs_before a) (sym none) ∙ ap outs_of (sym rest)))
