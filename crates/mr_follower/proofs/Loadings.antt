-- Effects by their words, and snapshots piece by piece.
use Rattle.std.proofs.Common.{◌≡◌, ◌≢◌, ℕ, ◌+◌, ◌-◌, ◌<◌, ◌≤◌, ◌^◌, ◌⊎◌, zero, suc, inl, inr, Bool, true, false, cond, ◌&&◌, List, [], ◌∷◌, ◌++◌, length, take, drop, Option, Some, None, All, refl, sym, ap, ◌∙◌, subst, arith, append-nil, append_assoc, length-append, take_all}
use Rattle.std.specs.FinMap.{empty}
use Rattle.std.specs.Option.{option_and_then}
use Rattle.std.proofs.lemmas.Bool.{and_parts}
use Rattle.std.proofs.lemmas.List.{append_cancel_left, length-take-le, length-take, length-drop, take-append-drop, take-take, drop-take}
use Rattle.std.proofs.lemmas.List.Elements.{All-head, All-tail}
use Rattle.std.proofs.Math.Seq.{take-append_seam}
use Rattle.mr_inline.specs.Language.{Continues}
use Rattle.mr_resp.specs.Command.{IsCommand, IsCommandText, BeginsWithCommand}
use Rattle.mr_resp.specs.Spelling.{array}
use Rattle.mr_resp.specs.Usual.{commands, commands-words}
use Rattle.mr_effect.specs.Effects.{has_spelling, words_fit}
use Rattle.mr_effect.specs.Spelling.{words, text, texts, IsShort}
use Rattle.mr_effect.specs.declared.effect.Effect.{Effect}
use Rattle.mr_effect.proofs.Texts.{one_text}
use Rattle.mr_keyspace.specs.Dataset.{Dataset}
use Rattle.mr_keyspace.specs.Changes.{change}
use Rattle.mr_data.specs.Meaning.{apply, apply_all}
use Rattle.mr_groups.specs.Effects.{IsGoodEffect, Leads, Makes, IsStuck, IsStuckForGood}
use Rattle.mr_groups.specs.Steps.{SpendsFirst, IsHalt, Replays}
use Rattle.mr_groups.specs.declared.replaying.Halt.{Halt}
use Rattle.mr_groups.specs.declared.replaying.Halt.TheVariants as halt
use Rattle.mr_follower.specs.Loading.{HasCommandWithin, HasEffectWithin, IsDeadEnd, pause_of, Pauses, GoesOn}
use Rattle.mr_follower.specs.Stream.{HasCommand}
use Rattle.mr_follower.specs.declared.taking.Taking.{Taking}

cond_some : (b : Bool) (o : Option Dataset) (x : Dataset) → cond b o None ≡ Some x → b ≡ true
cond_some true o x h = refl
cond_some false o x h = cc

-- what can be applied has a spelling, with words within the limit
pub possible : (e : Effect) (m n : Dataset) → apply e m ≡ Some n → (has_spelling e ≡ true) × (words_fit e ≡ true)
unfolding apply
possible e m n h = and_parts (has_spelling e) (words_fit e) (cond_some (has_spelling e && words_fit e) (change e m) n h)

pub then_some : (o : Option Dataset) (g : Dataset → Option Dataset) (k : Dataset) → option_and_then g o ≡ Some k → (n : Dataset) × ((o ≡ Some n) × (g n ≡ Some k))
then_some None g k h = cc
then_some (Some n) g k h = (n, (refl, h))

-- the text of an effect with a command's words is that command's
pub text_of_words : (e : Effect) (ws : List (List ℕ)) (t : List ℕ) → IsCommand commands t ws → words e ≡ ws → text e ≡ t
text_of_words e ws t c same = ap array same ∙ sym c.spelled

pub short_of_words : (e : Effect) (ws : List (List ℕ)) (t : List ℕ) → IsCommand commands t ws → words e ≡ ws → IsShort e
short_of_words e ws t c same = let few = c.count in omega (arith, ap length same)

pub some_text : (t : List ℕ) (ws : List (List ℕ)) → IsCommand commands t ws → 0 < length t
some_text t ws c = rw c.spelled (omega arith)

pub short_small : (e : Effect) → IsShort e → length (words e) < 2 ^ 64
short_small e h = omega (arith, commands-words)

-- ---- parts of lists
-- the shorter of two beginnings begins the longer
pub split_longer : (xs ys zs ws : List ℕ) → xs ++ ys ≡ zs ++ ws → length zs ≤ length xs → (r : List ℕ) × ((xs ≡ zs ++ r) × (r ++ ys ≡ ws))
split_longer xs ys [] ws e h = (xs, (refl, e))
split_longer [] ys (z ∷ zs) ws e h = absurd (omega (arith, h))
split_longer (x ∷ xs) ys (z ∷ zs) ws e h =
    let tails : xs ++ ys ≡ zs ++ ws = cc in
    let heads : x ≡ z = cc in
    let r = split_longer xs ys zs ws tails (omega (arith, h)) in
    (r.0, ((λ i. heads i ∷ r.1.0 i), r.1.1))

-- a beginning of a beginning
pub two_fronts : (n k : ℕ) (u : List ℕ) → k ≤ n → take k (take n u) ≡ take k u
two_fronts n k u h = take-take k n u h

pub few_taken : (n : ℕ) (u : List ℕ) → (length (take n u) ≤ n) × (length (take n u) ≤ length u)
few_taken zero u = (omega arith, omega arith)
few_taken (suc n) [] = (omega arith, omega arith)
few_taken (suc n) (x ∷ u) = let r = few_taken n u in (omega (arith, r.0), omega (arith, r.1))

pub taken_or : (n : ℕ) (u : List ℕ) → (length (take n u) ≡ n) ⊎ (length (take n u) ≡ length u)
taken_or zero u = inl refl
taken_or (suc n) [] = inr refl
taken_or (suc n) (x ∷ u) = elim (taken_or n u) [
  | inl is ↦ inl (ap suc is)
  | inr is ↦ inr (ap suc is)
]

-- a beginning of what there is of so many bytes
pub within_parts : (u : List ℕ) (left k : ℕ) → k ≤ length (take left u) → (u ≡ take k (take left u) ++ (drop k (take left u) ++ drop left u)) × (length (take k (take left u)) ≤ left)
within_parts u left k h =
    let one = take-append-drop k (take left u) in
    let two = take-append-drop left u in (
      sym two ∙ ap (λ (l : List ℕ). l ++ drop left u) (sym one) ∙ append_assoc (take k (take left u)) (drop k (take left u)) (drop left u),
      omega (arith, length-take-le k (take left u) h, h, (few_taken left u).0),
    )

-- ---- effects that go on from a dataset
some_one : (x y : Dataset) → Some x ≡ Some y → x ≡ y
some_one x y e = cc

-- what leads somewhere begins with an effect that can be applied
pub dead_end : (m n : Dataset) (all : List ℕ) → 0 < length all → Leads all m n → IsStuck m all → ⊥
dead_end m n all some led stuck = none led.effects led.good led.are_texts led.applied
  where
    none : (es : List Effect) → All IsGoodEffect es → all ≡ texts es → apply_all es m ≡ Some n → ⊥
    none [] g is applied = omega (arith, some, ap length is)
    none (e ∷ es) g is applied =
        let one = then_some (apply e m) (apply_all es) n applied in
        stuck e one.0 (texts es) (All-head IsGoodEffect e es g) one.1.0 is

one_good : (e f : Effect) (x y : List ℕ) → IsGoodEffect e → IsGoodEffect f → text e ++ x ≡ text f ++ y → (e ≡ f) × (x ≡ y)
one_good e f x y g h q = one_text e f x y g.spelled h.spelled g.fits h.fits (short_small e g.short) (short_small f h.short) q

-- of two lists of effects, the one with the longer texts goes on from where the other led
cancel : (es fs : List Effect) (old mid n : Dataset) (x y : List ℕ) → All IsGoodEffect es → All IsGoodEffect fs → apply_all es old ≡ Some mid → apply_all fs old ≡ Some n
    → texts es ++ x ≡ texts fs ++ y → length (texts es) ≤ length (texts fs) → (gs : List Effect) × (All IsGoodEffect gs × ((apply_all gs mid ≡ Some n) × (texts fs ≡ texts es ++ texts gs)))
cancel [] fs old mid n x y g h p q e few = (fs, (h, (subst (λ (k : Dataset). apply_all fs k ≡ Some n) (some_one old mid p) q, refl)))
cancel (a ∷ es) [] old mid n x y g h p q e few = absurd (omega (arith, few, length-append (text a) (texts es)))
cancel (a ∷ es) (f ∷ fs) old mid n x y g h p q e few =
    let split : text a ++ (texts es ++ x) ≡ text f ++ (texts fs ++ y) = sym (append_assoc (text a) (texts es) x) ∙ (e ∙ append_assoc (text f) (texts fs) y) in
    let both = one_good a f (texts es ++ x) (texts fs ++ y) (All-head IsGoodEffect a es g) (All-head IsGoodEffect f fs h) split in
    let one = then_some (apply a old) (apply_all es) mid p in
    let two = then_some (apply f old) (apply_all fs) n q in
    let same : two.0 ≡ one.0 = some_one two.0 one.0 (sym two.1.0 ∙ (ap (λ (k : Effect). apply k old) (sym both.0) ∙ one.1.0)) in
    let few_rest : length (texts es) ≤ length (texts fs) = omega (arith, few, length-append (text a) (texts es), length-append (text f) (texts fs), ap (λ (k : Effect). length (text k)) both.0) in
    let rest = cancel es fs one.0 mid n x y (All-tail IsGoodEffect a es g) (All-tail IsGoodEffect f fs h) one.1.1 (subst (λ (k : Dataset). apply_all fs k ≡ Some n) same two.1.1) both.1 few_rest in
    (rest.0, (rest.1.0, (rest.1.1.0, (λ i. text (sym both.0 i) ++ rest.1.1.1 i) ∙ sym (append_assoc (text a) (texts es) (texts rest.0)))))

-- of two beginnings that make datasets, the longer goes on from where the other led
pub leads_behind : (front all x y : List ℕ) (mid n : Dataset) → Makes front mid → Makes all n → front ++ x ≡ all ++ y → length front ≤ length all → (tail : List ℕ) × ((all ≡ front ++ tail) × Leads tail mid n)
leads_behind front all x y mid n one two e few =
    let whole : texts one.effects ++ x ≡ texts two.effects ++ y = ap (λ (t : List ℕ). t ++ x) (sym one.are_texts) ∙ (e ∙ ap (λ (t : List ℕ). t ++ y) two.are_texts) in
    let less : length (texts one.effects) ≤ length (texts two.effects) = omega (arith, few, ap length one.are_texts, ap length two.are_texts) in
    let c = cancel one.effects two.effects empty mid n x y one.good two.good one.applied two.applied whole less in (
      texts c.0,
      (
        two.are_texts ∙ (c.1.1.1 ∙ ap (λ (t : List ℕ). t ++ texts c.0) (sym one.are_texts)),
        record { effects = c.0; good = c.1.0; are_texts = refl; applied = c.1.1.0 },
      ),
    )

-- no bytes lead nowhere else
some_leads : (m n : Dataset) → Leads [] m n → m ≡ n
some_leads m n led = of_effects led.effects led.are_texts led.applied
  where
    of_effects : (es : List Effect) → [] ≡ texts es → apply_all es m ≡ Some n → m ≡ n
    of_effects [] is applied = some_one m n applied
    of_effects (e ∷ es) is applied = absurd (omega (arith, ap length is))

-- the same bytes make one dataset
pub one_made : (bytes : List ℕ) (m n : Dataset) → Makes bytes m → Makes bytes n → m ≡ n
one_made bytes m n one two =
    let r = leads_behind bytes bytes [] [] m n one two refl (omega arith) in
    let none : [] ≡ r.0 = append_cancel_left bytes [] r.0 (append-nil bytes ∙ r.1.0) in
    some_leads m n (subst (λ (l : List ℕ). Leads l m n) (sym none) r.1.1)

-- ---- why no more is taken of a snapshot
-- all bytes that are to come are there, and begin with no effect that can be applied
there_stuck : (m : Dataset) (left : ℕ) (kept : List ℕ) → left ≤ length kept → 0 < left → IsStuck m (take left kept) → IsDeadEnd m left kept
there_stuck m left kept there some stuck all more behind n size e led =
    let r = split_longer kept more all behind e (omega (arith, size, there)) in
    let front : take left kept ≡ all = (λ i. take (sym size i) (r.1.0 i)) ∙ take-append_seam all r.0 in
    dead_end m n all (omega (arith, size, some)) led (subst (λ (l : List ℕ). IsStuck m l) front stuck)

-- some are there, and nothing good comes of them
begun_stuck : (m : Dataset) (left : ℕ) (kept : List ℕ) → length kept < left → IsStuckForGood m (take left kept) → IsDeadEnd m left kept
begun_stuck m left kept few stuck all more behind n size e led =
    let r = split_longer all behind kept more (sym e) (omega (arith, size, few)) in
    let whole : take left kept ≡ kept = take_all left kept (omega (arith, few)) in
    let here : take left kept ++ r.0 ≡ all = ap (λ (l : List ℕ). l ++ r.0) whole ∙ sym r.1.0 in
    dead_end m n all (omega (arith, size, few)) led (subst (λ (l : List ℕ). IsStuck m l) here (stuck r.0))

command_within : (left : ℕ) (kept : List ℕ) → BeginsWithCommand commands (take left kept) → HasCommandWithin left kept
command_within left kept h =
    let parts = within_parts kept left h.used h.inside in record {
      words = h.words;
      front = take h.used (take left kept);
      behind = drop h.used (take left kept) ++ drop left kept;
      is = parts.0;
      inside = parts.1;
      command = h.command;
    }

effect_within : (m n : Dataset) (left : ℕ) (kept : List ℕ) → SpendsFirst (take left kept) m n → HasEffectWithin m left kept
effect_within m n left kept s =
    let d = s.does in
    let parts = within_parts kept left s.used d.within in record {
      effect = d.effect;
      good = d.good;
      behind = drop s.used (take left kept) ++ drop left kept;
      is = parts.0 ∙ ap (λ (l : List ℕ). l ++ (drop s.used (take left kept) ++ drop left kept)) d.is_text;
      inside = subst (λ (l : List ℕ). length l ≤ left) d.is_text parts.1;
      can = s.can;
      applies = d.applied;
      heavy = s.heavy;
    }

pauses_by : (h : Halt) (there ended : Bool) (left : ℕ) (kept : List ℕ) (m n : Dataset) → IsHalt m (take left kept) h n → (there ≡ true → left ≤ length kept) → (there ≡ false → length kept < left)
    → (ended ≡ true → left ≡ 0) → (ended ≡ false → 0 < left) → Pauses m left kept (pause_of h there ended) n
pauses_by halt.Open there true left kept m n h all few end some = (h.0, end refl)
pauses_by halt.Open true false left kept m n h all few end some = (h.0, there_stuck m left kept (all refl) (some refl) h.1.stuck)
pauses_by halt.Open false false left kept m n h all few end some =
    let short = few refl in
    (h.0, (short, subst (λ (l : List ℕ). Continues (IsCommandText commands) l) (take_all left kept (omega (arith, short))) h.1.begun))
pauses_by halt.Bad there true left kept m n h all few end some = (h.0, end refl)
pauses_by halt.Bad true false left kept m n h all few end some = (h.0, there_stuck m left kept (all refl) (some refl) (subst (IsStuck m) (append-nil (take left kept)) (h.1 [])))
pauses_by halt.Bad false false left kept m n h all few end some = (h.0, begun_stuck m left kept (few refl) h.1)
pauses_by halt.Lack there true left kept m n h all few end some = (h.0, end refl)
pauses_by halt.Lack there false left kept m n h all few end some = (h.0, command_within left kept h.1)
pauses_by halt.Spent there ended left kept m n h all few end some = effect_within m n left kept h

pub gone_on : (t : Taking) (unread : List ℕ) (used : ℕ) (made : Dataset) (h : Halt) (there ended : Bool) → t.done ≤ t.size → Replays (take (t.size - t.done) unread) used t.made made h
    → (there ≡ true → length (take (t.size - t.done) unread) ≡ t.size - t.done) → (there ≡ false → length (take (t.size - t.done) unread) ≢ t.size - t.done)
    → (ended ≡ true → t.done + used ≡ t.size) → (ended ≡ false → t.done + used ≢ t.size)
    → GoesOn t unread used (pause_of h there ended) (record { head = t.head; size = t.size; done = t.done + used; made = made })
gone_on t unread used made h there ended fits r all few end some =
    let total = t.size - t.done in
    let left = t.size - (t.done + used) in
    let cut = few_taken total unread in
    let size = length-take total unread in
    let inside = r.within in
    let parts : total ≡ used + left = omega (arith, inside, cut.0, fits) in
    let few_used : used ≤ total = omega (arith, parts) in
    let behind : drop used (take total unread) ≡ take left (drop used unread) = ap (λ (k : ℕ). drop used (take k unread)) parts ∙ drop-take used left unread in
    let long = length-drop used unread in
    record {
      head = refl;
      size = refl;
      done = refl;
      within = omega (arith, inside, cut.0, fits);
      inside = omega (arith, inside, cut.1);
      made = r.mid;
      led = subst (λ (l : List ℕ). Leads l t.made r.mid) (two_fronts total used unread few_used) r.led;
      pauses = pauses_by h there ended left (drop used unread) r.mid made (subst (λ (l : List ℕ). IsHalt r.mid l h made) behind r.left)
          (λ e. omega (arith, all e, cut.1, long, parts)) (λ e. short_of (few e)) (λ e. omega (arith, end e)) (λ e. some_left (some e));
    }
  where
    fewer : (length (take (t.size - t.done) unread) ≡ t.size - t.done) ⊎ (length (take (t.size - t.done) unread) ≡ length unread) → length (take (t.size - t.done) unread) ≢ t.size - t.done → length (drop used unread) < t.size - (t.done + used)
    fewer (inl is) other = absurd (other is)
    fewer (inr is) other =
        let few = r.within in let cut = (few_taken (t.size - t.done) unread).0 in
        omega (arith, other, is, cut, few, length-drop used unread, fits)

    short_of : length (take (t.size - t.done) unread) ≢ t.size - t.done → length (drop used unread) < t.size - (t.done + used)
    short_of other = fewer (taken_or (t.size - t.done) unread) other

    some_left : t.done + used ≢ t.size → 0 < t.size - (t.done + used)
    some_left other = let few = r.within in let cut = (few_taken (t.size - t.done) unread).0 in omega (arith, other, few, cut, fits)

-- ---- the front of the stream
abbrev pub lacks : (u : List ℕ) (room : ℕ) → BeginsWithCommand commands (take room u) → HasCommand u room
lacks u room h =
    let parts = within_parts u room h.used h.inside in record {
      words = h.words;
      front = take h.used (take room u);
      behind = drop h.used (take room u) ++ drop room u;
      is = parts.0;
      within = parts.1;
      command = h.command;
    }

-- what was put behind the others is cut off
pub cut_back : (xs ys zs all : List ℕ) (k : ℕ) → all ≡ xs ++ ys → k ≡ length xs → zs ≡ take k all → zs ≡ xs
cut_back xs ys zs all k put at cut = cut ∙ (λ i. take (at i) (put i)) ∙ take-append_seam xs ys
