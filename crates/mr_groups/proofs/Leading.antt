-- Effects one after another.
use Rattle.std.proofs.Common.{◌≡◌, ℕ, ◌<◌, ◌^◌, List, [], ◌∷◌, ◌++◌, length, Option, Some, None, refl, sym, ap, subst, ◌∙◌, append_assoc, append-nil, arith}
use Rattle.std.specs.Option.{option_and_then}
use Rattle.std.proofs.lemmas.List.Elements.{All-nil, All-append, All-cons}
use Rattle.std.proofs.lemmas.Option.{same_Some}
use Rattle.mr_resp.specs.Usual.{commands-words}
use Rattle.mr_effect.specs.Spelling.{words, text, texts, IsShort}
use Rattle.mr_effect.specs.declared.effect.Effect.{Effect}
use Rattle.mr_effect.proofs.Texts.{one_text}
use Rattle.mr_keyspace.specs.Dataset.{Dataset}
use Rattle.mr_data.specs.Meaning.{apply, apply_all}
use Rattle.mr_groups.specs.Effects.{IsGoodEffect, Leads}

pub few : (e : Effect) → IsShort e → length (words e) < 2 ^ 64
few e s = omega (arith, s, commands-words)

pub one_effect : (e f : Effect) (x y : List ℕ) → IsGoodEffect e → IsGoodEffect f → text e ++ x ≡ text f ++ y → (e ≡ f) × (x ≡ y)
one_effect e f x y g h q = one_text e f x y g.spelled h.spelled g.fits h.fits (few e g.short) (few f h.short) q

-- the first of some effects can be applied, and the others behind it
first_done : (o : Option Dataset) (es : List Effect) (n : Dataset) → option_and_then (apply_all es) o ≡ Some n → (m : Dataset) × (o ≡ Some m) × (apply_all es m ≡ Some n)
first_done None es n h = absurd (cc)
first_done (Some m) es n h = (m, refl, h)

-- no effects lead nowhere
pub leads_nowhere : (m : Dataset) → Leads [] m m
leads_nowhere m = record { effects = []; good = All-nil IsGoodEffect; are_texts = refl; applied = refl }

texts_push : (es : List Effect) (e : Effect) → texts (es ++ e ∷ []) ≡ texts es ++ text e
texts_push [] e = append-nil (text e)
texts_push (a ∷ es) e = ap (λ (t : List ℕ). text a ++ t) (texts_push es e) ∙ sym (append_assoc (text a) (texts es) (text e))

applied_push : (es : List Effect) (e : Effect) (old mid new : Dataset) → apply_all es old ≡ Some mid → apply e mid ≡ Some new → apply_all (es ++ e ∷ []) old ≡ Some new
applied_push [] e old mid new p q =
    let here : apply e old ≡ Some new = subst (λ m. apply e m ≡ Some new) (sym (same_Some old mid p)) q in
    ap (option_and_then (apply_all [])) here
applied_push (a ∷ es) e old mid new p q =
    let one = first_done (apply a old) es mid p in
    ap (option_and_then (apply_all (es ++ e ∷ []))) one.1 ∙ applied_push es e one.0 mid new one.2 q

-- .. and one effect more leads on
pub leads_on : (bytes : List ℕ) (e : Effect) (old mid new : Dataset) → Leads bytes old mid → IsGoodEffect e → apply e mid ≡ Some new → Leads (bytes ++ text e) old new
leads_on bytes e old mid new led good applied = record {
  effects = led.effects ++ e ∷ [];
  good = All-append IsGoodEffect led.effects (e ∷ []) led.good (All-cons IsGoodEffect e [] good (All-nil IsGoodEffect));
  are_texts = ap (λ (t : List ℕ). t ++ text e) led.are_texts ∙ sym (texts_push led.effects e);
  applied = applied_push led.effects e old mid new led.applied applied;
}

-- effects behind effects lead on
both_applied : (es fs : List Effect) (old mid new : Dataset) → apply_all es old ≡ Some mid → apply_all fs mid ≡ Some new → apply_all (es ++ fs) old ≡ Some new
both_applied [] fs old mid new p q = subst (λ m. apply_all fs m ≡ Some new) (sym (same_Some old mid p)) q
both_applied (a ∷ es) fs old mid new p q =
    let one = first_done (apply a old) es mid p in
    ap (option_and_then (apply_all (es ++ fs))) one.1 ∙ both_applied es fs one.0 mid new one.2 q

both_texts : (es fs : List Effect) → texts (es ++ fs) ≡ texts es ++ texts fs
both_texts [] fs = refl
both_texts (a ∷ es) fs = ap (λ (t : List ℕ). text a ++ t) (both_texts es fs) ∙ sym (append_assoc (text a) (texts es) (texts fs))

pub leads_further : (front behind : List ℕ) (old mid new : Dataset) → Leads front old mid → Leads behind mid new → Leads (front ++ behind) old new
leads_further front behind old mid new one two = record {
  effects = one.effects ++ two.effects;
  good = All-append IsGoodEffect one.effects two.effects one.good two.good;
  are_texts = ap (λ (t : List ℕ). t ++ behind) one.are_texts ∙ (ap (λ (t : List ℕ). texts one.effects ++ t) two.are_texts ∙ sym (both_texts one.effects two.effects));
  applied = both_applied one.effects two.effects old mid new one.applied two.applied;
}
