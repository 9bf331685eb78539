-- The tiny language keeps the laws.
use Rattle.std.proofs.Common.{ℕ, zero, suc, List, [], ◌∷◌, ◌++◌, ◌≡◌, ◌≢◌, ◌<◌, Option, None, Some, refl, sym, ◌∙◌, ap, arith}
use Rattle.std.proofs.lemmas.Bool.Decides.{Decides-eqb}
use Rattle.law_protocol.specs.Language.{Laws, Line, Request}
use Rattle.law_protocol.specs.Language.Line.{FullResync, Continue, Plain, Refusal}
use Rattle.law_protocol.specs.Language.Request.{Handshake, Psync, Ack, Command, ReplicaOfNoOne, ReplicaOf, Empty, Quit}
use Rattle.law_protocol.proofs.Histories.{same_length}
use Rattle.law_protocol_example.specs.Tiny.{tiny, BeginsWithZero, Said, line_text, wanted_text, request_text, said_text, meant, snapshot_text}
use Rattle.law_protocol_example.specs.Tiny.Said.{Asks, Begin, End}

line_cut : (a b : Line ℕ) (x y : List ℕ) → line_text a ++ x ≡ line_text b ++ y → a ≡ b
line_cut (FullResync i o) (FullResync p q) x y e = let h : i ≡ p = cc in let k : o ≡ q = cc in cc
line_cut (FullResync i o) (Continue p) x y e = cc
line_cut (FullResync i o) Plain x y e = cc
line_cut (FullResync i o) Refusal x y e = cc
line_cut (Continue i) (FullResync p q) x y e = cc
line_cut (Continue i) (Continue p) x y e = let h : i ≡ p = cc in cc
line_cut (Continue i) Plain x y e = cc
line_cut (Continue i) Refusal x y e = cc
line_cut Plain Plain x y e = refl
line_cut Plain _ x y e = cc
line_cut Refusal Refusal x y e = refl
line_cut Refusal _ x y e = cc

pair_is : (r s : ℕ × ℕ) → r.0 ≡ s.0 → r.1 ≡ s.1 → r ≡ s
pair_is r s e f = let g : ℕ → ℕ × ℕ = λ z. (z, r.1) in let h : ℕ → ℕ × ℕ = λ z. (s.0, z) in ap g e ∙ ap h f

wanted_cut : (a b : Option (ℕ × ℕ)) (x y : List ℕ) → wanted_text a ++ x ≡ wanted_text b ++ y → a ≡ b
wanted_cut None None x y e = refl
wanted_cut None (Some s) x y e = cc
wanted_cut (Some r) None x y e = cc
wanted_cut (Some r) (Some s) x y e = ap (λ z. Some z) (pair_is r s (cc) (cc))

request_cut : (a b : Request ℕ) (x y : List ℕ) → request_text a ++ x ≡ request_text b ++ y → a ≡ b
request_cut Handshake Handshake x y e = refl
request_cut Handshake _ x y e = cc
request_cut (Psync q) (Psync r) x y e = let f : wanted_text q ++ x ≡ wanted_text r ++ y = cc in ap (λ z. Psync z) (wanted_cut q r x y f)
request_cut (Psync q) _ x y e = cc
request_cut Ack Ack x y e = refl
request_cut Ack _ x y e = cc
request_cut Command Command x y e = refl
request_cut Command _ x y e = cc
request_cut ReplicaOfNoOne ReplicaOfNoOne x y e = refl
request_cut ReplicaOfNoOne _ x y e = cc
request_cut (ReplicaOf h) (ReplicaOf k) x y e = ap (λ z. ReplicaOf z) (same_length h k x y (cc) (cc))
request_cut (ReplicaOf h) _ x y e = cc
request_cut Empty Empty x y e = refl
request_cut Empty _ x y e = cc
request_cut Quit Quit x y e = refl
request_cut Quit _ x y e = cc

request_some : (a : Request ℕ) → request_text a ≢ []
request_some Handshake e = cc
request_some (Psync q) e = cc
request_some Ack e = cc
request_some Command e = cc
request_some ReplicaOfNoOne e = cc
request_some (ReplicaOf h) e = cc
request_some Empty e = cc
request_some Quit e = cc

-- the kinds of requests are below those of what begins and ends a transaction
below : (a : Request ℕ) (kind : ℕ) (x y : List ℕ) → 15 < kind → request_text a ++ x ≡ kind ∷ y → ⊥
below Handshake kind x y h e = let f : 6 ≡ kind = cc in omega (arith, h, f)
below (Psync q) kind x y h e = let f : 7 ≡ kind = cc in omega (arith, h, f)
below Ack kind x y h e = let f : 9 ≡ kind = cc in omega (arith, h, f)
below Command kind x y h e = let f : 10 ≡ kind = cc in omega (arith, h, f)
below ReplicaOfNoOne kind x y h e = let f : 11 ≡ kind = cc in omega (arith, h, f)
below (ReplicaOf host) kind x y h e = let f : 13 ≡ kind = cc in omega (arith, h, f)
below Empty kind x y h e = let f : 14 ≡ kind = cc in omega (arith, h, f)
below Quit kind x y h e = let f : 15 ≡ kind = cc in omega (arith, h, f)

said_cut : (a b : Said) (x y : List ℕ) → said_text a ++ x ≡ said_text b ++ y → a ≡ b
said_cut (Asks r) (Asks q) x y e = ap (λ z. Asks z) (request_cut r q x y e)
said_cut (Asks r) Begin x y e = absurd (below r 16 x y (omega arith) e)
said_cut (Asks r) End x y e = absurd (below r 17 x y (omega arith) e)
said_cut Begin (Asks q) x y e = absurd (below q 16 y x (omega arith) (sym e))
said_cut Begin Begin x y e = refl
said_cut Begin End x y e = cc
said_cut End (Asks q) x y e = absurd (below q 17 y x (omega arith) (sym e))
said_cut End Begin x y e = cc
said_cut End End x y e = refl

said_some : (a : Said) → said_text a ≢ []
said_some (Asks r) e = request_some r e
said_some Begin e = cc
said_some End e = cc

line_some : (a : Line ℕ) → line_text a ≢ []
line_some (FullResync i o) e = cc
line_some (Continue i) e = cc
line_some Plain e = cc
line_some Refusal e = cc

doomed_apart : (s : List ℕ) (a : Request ℕ) (x y : List ℕ) → BeginsWithZero s → s ++ x ≡ request_text a ++ y → ⊥
doomed_apart [] a x y d e = d
doomed_apart (suc n ∷ s) a x y d e = d
doomed_apart (zero ∷ s) Handshake x y d e = cc
doomed_apart (zero ∷ s) (Psync q) x y d e = cc
doomed_apart (zero ∷ s) Ack x y d e = cc
doomed_apart (zero ∷ s) Command x y d e = cc
doomed_apart (zero ∷ s) ReplicaOfNoOne x y d e = cc
doomed_apart (zero ∷ s) (ReplicaOf h) x y d e = cc
doomed_apart (zero ∷ s) Empty x y d e = cc
doomed_apart (zero ∷ s) Quit x y d e = cc

said_apart : (s : List ℕ) (a : Said) (x y : List ℕ) → BeginsWithZero s → s ++ x ≡ said_text a ++ y → ⊥
said_apart s (Asks r) x y d e = doomed_apart s r x y d e
said_apart [] _ x y d e = d
said_apart (suc n ∷ s) _ x y d e = d
said_apart (zero ∷ s) Begin x y d e = cc
said_apart (zero ∷ s) End x y d e = cc

pub tiny_laws : Laws tiny
tiny_laws = record {
  same_decides = Decides-eqb;
  text_cut = λ e f x y p q h. cc;
  says_cut = λ s t a b x y p q h.
      let e = line_cut a b x y (ap (λ z. z ++ x) (sym p) ∙ (h ∙ ap (λ z. z ++ y) q)) in (p ∙ (ap (λ z. line_text z) e ∙ sym q), e);
  asks_cut = λ n s t a b x y p q h.
      let e = said_cut p.0 q.0 x y (ap (λ z. z ++ x) (sym p.1) ∙ (h ∙ ap (λ z. z ++ y) q.1)) in
      (p.1 ∙ (ap (λ z. said_text z) e ∙ sym q.1), p.2 ∙ (ap (λ z. meant n z) e ∙ sym q.2));
  loads_cut = λ s t a b x y p q h.
      let f = ap (λ z. z ++ x) (sym p) ∙ (h ∙ ap (λ z. z ++ y) q) in
      let e : a ≡ b = same_length a b x y (cc) (cc) in (p ∙ (ap (λ z. snapshot_text z) e ∙ sym q), e);
  text_some = λ e h. cc;
  says_some = λ t a p e. line_some a (sym p ∙ e);
  asks_some = λ n t a p e. said_some p.0 (sym p.1 ∙ e);
  loads_some = λ t m p e. absurd (let h = sym p ∙ e in cc);
  doomed_cut = λ n s t a x y d p e. said_apart s p.0 x y d (e ∙ ap (λ z. z ++ y) p.1);
  doomed_some = λ d. d;
}
