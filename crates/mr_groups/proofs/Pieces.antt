-- Bytes that are done piece by piece.
use Rattle.std.proofs.Common.{◌≡◌, ℕ, ◌<◌, ◌≤◌, ◌+◌, ◌-◌, List, ◌++◌, length, take, drop, refl, sym, ap, subst, ◌∙◌, arith}
use Rattle.std.proofs.lemmas.List.{length-take-le, length-drop, take_all}
use Rattle.std.proofs.Common.{take-add}
use Rattle.mr_effect.specs.Spelling.{text}
use Rattle.mr_keyspace.specs.Dataset.{Dataset}
use Rattle.mr_groups.specs.Effects.{Leads}
use Rattle.mr_groups.specs.Steps.{DoesFirst, TriesFirst, IsHalt, Replays}
use Rattle.mr_groups.specs.declared.replaying.Step.{Step}
use Rattle.mr_groups.specs.declared.replaying.Step.TheVariants as step
use Rattle.mr_groups.specs.declared.replaying.Halt.{Halt}
use Rattle.mr_groups.specs.declared.replaying.Halt.TheVariants as halt
use Rattle.mr_groups.proofs.Leading.{leads_on}

-- what stands from a place on, as a slice gives it
abbrev pub rest_from : ℕ → List ℕ → List ℕ
rest_from n bytes = take (length bytes - n) (drop n bytes)

pub rest_is : (n : ℕ) (bytes : List ℕ) → rest_from n bytes ≡ drop n bytes
rest_is n bytes = take_all (length bytes - n) (drop n bytes) (omega (arith, length-drop n bytes))

-- why no more was done
abbrev IsEnd : Step → Halt → Type 0
IsEnd (step.Done n) h = ⊥
IsEnd step.Wait h = h ≡ halt.Open
IsEnd step.Stop h = h ≡ halt.Bad
IsEnd step.Lack h = h ≡ halt.Lack
IsEnd step.Spent h = h ≡ halt.Spent

-- a step that did an effect
pub did : (bytes : List ℕ) (old new : Dataset) (s : Step) (used : ℕ) → TriesFirst bytes old new s → s ≡ step.Done used → DoesFirst bytes used old new
did bytes old new s used h e = subst (TriesFirst bytes old new) e h

halts : (bytes : List ℕ) (mid new : Dataset) (s : Step) (h : Halt) → TriesFirst bytes mid new s → IsEnd s h → IsHalt mid bytes h new
halts bytes mid new (step.Done n) h tried end = absurd end
halts bytes mid new step.Wait h tried end = subst (λ x. IsHalt mid bytes x new) (sym end) tried
halts bytes mid new step.Stop h tried end = subst (λ x. IsHalt mid bytes x new) (sym end) tried
halts bytes mid new step.Lack h tried end = subst (λ x. IsHalt mid bytes x new) (sym end) tried
halts bytes mid new step.Spent h tried end = subst (λ x. IsHalt mid bytes x new) (sym end) tried

-- a step that did nothing, and what is left behind it
is_left : (bytes : List ℕ) (used : ℕ) (old mid new : Dataset) (s : Step) (h : Halt) → used ≤ length bytes → Leads (take used bytes) old mid → TriesFirst (rest_from used bytes) mid new s → IsEnd s h → Replays bytes used old new h
is_left bytes used old mid new s h within led tried end = record {
  within = within;
  mid = mid;
  led = led;
  left = subst (λ xs. IsHalt mid xs h new) (rest_is used bytes) (halts (rest_from used bytes) mid new s h tried end);
}

pub waited : (bytes : List ℕ) (used : ℕ) (old mid new : Dataset) (s : Step) → used ≤ length bytes → Leads (take used bytes) old mid → TriesFirst (rest_from used bytes) mid new s → s ≡ step.Wait → Replays bytes used old new halt.Open
waited bytes used old mid new s within led tried e = is_left bytes used old mid new step.Wait halt.Open within led (subst (TriesFirst (rest_from used bytes) mid new) e tried) refl

pub stopped : (bytes : List ℕ) (used : ℕ) (old mid new : Dataset) (s : Step) → used ≤ length bytes → Leads (take used bytes) old mid → TriesFirst (rest_from used bytes) mid new s → s ≡ step.Stop → Replays bytes used old new halt.Bad
stopped bytes used old mid new s within led tried e = is_left bytes used old mid new step.Stop halt.Bad within led (subst (TriesFirst (rest_from used bytes) mid new) e tried) refl

pub lacked : (bytes : List ℕ) (used : ℕ) (old mid new : Dataset) (s : Step) → used ≤ length bytes → Leads (take used bytes) old mid → TriesFirst (rest_from used bytes) mid new s → s ≡ step.Lack → Replays bytes used old new halt.Lack
lacked bytes used old mid new s within led tried e = is_left bytes used old mid new step.Lack halt.Lack within led (subst (TriesFirst (rest_from used bytes) mid new) e tried) refl

pub was_spent : (bytes : List ℕ) (used : ℕ) (old mid new : Dataset) (s : Step) → used ≤ length bytes → Leads (take used bytes) old mid → TriesFirst (rest_from used bytes) mid new s → s ≡ step.Spent → Replays bytes used old new halt.Spent
was_spent bytes used old mid new s within led tried e = is_left bytes used old mid new step.Spent halt.Spent within led (subst (TriesFirst (rest_from used bytes) mid new) e tried) refl

-- one effect more was done
pub one_more : (bytes : List ℕ) (used more : ℕ) (old mid new : Dataset) → Leads (take used bytes) old mid → DoesFirst (rest_from used bytes) more mid new → Leads (take (used + more) bytes) old new
one_more bytes used more old mid new led done =
    let there : take more (drop used bytes) ≡ text done.effect = ap (take more) (sym (rest_is used bytes)) ∙ done.is_text in
    subst (λ (t : List ℕ). Leads t old new) (sym (take-add used more bytes ∙ ap (λ (t : List ℕ). take used bytes ++ t) there)) (leads_on (take used bytes) done.effect old mid new led done.good done.applied)

-- .. and it took some bytes, all of which are there
pub some_used : (bytes : List ℕ) (used more : ℕ) (old new : Dataset) → used ≤ length bytes → DoesFirst (rest_from used bytes) more old new → (0 < more) × (used + more ≤ length bytes)
some_used bytes used more old new within done =
    let long : length (rest_from used bytes) ≡ length bytes - used = ap length (rest_is used bytes) ∙ length-drop used bytes in
    let size : more ≡ length (text done.effect) = sym (length-take-le more (rest_from used bytes) done.within) ∙ ap length done.is_text in
    (omega (arith, size), omega (arith, long, done.within, within))
