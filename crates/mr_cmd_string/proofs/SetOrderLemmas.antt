-- Options of SET that stand side by side may change places.
use Rattle.std.proofs.Common.{ℕ, ◌≡◌, List, [], ◌∷◌, ◌++◌, Bool, true, Option, Some, None, refl, sym, ◌∙◌, ap, append_assoc}
use Rattle.std.specs.Prelude.{Result, Ok, Err, if◌then◌else◌}
use Rattle.std.specs.Option.{is_some, ok_or}
use Rattle.mr_arguments.specs.Parts.{with}
use Rattle.mr_arguments.proofs.OrderLemmas.{with_joined, with_same, OnlySyntax, second_refused, words_alike, two_alike, twice_refused, unless, only_found}
use Rattle.mr_arguments.specs.declared.fault.AskFault.{AskFault}
use Rattle.mr_arguments.specs.declared.fault.AskFault.TheVariants.{Syntax}
use Rattle.mr_cmd_string.specs.Options.{AreOneOption, before_also, lifetime_also, number_then, set_also, set_option, set_options, set_word, unit_of, until}
use Rattle.mr_arguments.specs.declared.expiry.ExpiryUnit.{ExpiryUnit}
use Rattle.mr_cmd_string.specs.declared.options.LifetimeOption.{LifetimeOption}
use Rattle.mr_cmd_string.specs.declared.options.LifetimeOption.TheVariants as lifetime
use Rattle.mr_cmd_string.specs.declared.options.SetOption.{SetOption}
use Rattle.mr_cmd_string.specs.declared.options.SetOption.TheVariants as set
use Rattle.mr_cmd_string.specs.declared.options.SetOptions.{SetOptions}
use Rattle.mr_cmd_string.specs.declared.text_ask.SetCondition.{SetCondition}
use Rattle.mr_cmd_string.specs.declared.text_ask.SetReply.{SetReply}
use Rattle.mr_cmd_string.specs.declared.text_ask.SetReply.TheVariants.{Done, Before}

abbrev options : Option SetCondition → SetReply → Option LifetimeOption → SetOptions
options c r l = record { condition = c; reply = r; lifetime = l }

before_only : (c : Option SetCondition) (r : SetReply) (l : Option LifetimeOption) → OnlySyntax (before_also c r l)
unfolding OnlySyntax
before_only c Done l = tt
before_only c Before l = refl

lifetime_only : (s : SetOptions) (x : LifetimeOption) → OnlySyntax (lifetime_also s x)
lifetime_only s x = unless (is_some s.lifetime) (options s.condition s.reply (Some x))

also_only : (s : SetOptions) (o : SetOption) → OnlySyntax (set_also s o)
also_only s (set.Condition c) = unless (is_some s.condition) (options (Some c) s.reply s.lifetime)
also_only s set.Before = before_only s.condition s.reply s.lifetime
also_only s set.Kept = lifetime_only s lifetime.Kept

-- GET beside NX or XX
before_condition : (c : Option SetCondition) (r : SetReply) (l : Option LifetimeOption) (a : SetCondition)
    → with (set_also (options c r l) (set.Condition a)) (λ t. set_also t set.Before) ≡ with (before_also c r l) (λ t. set_also t (set.Condition a))
before_condition None Done l a = refl
before_condition None Before l a = refl
before_condition (Some c) Done l a = refl
before_condition (Some c) Before l a = refl

-- GET beside what says how long the value stays
before_lifetime : (c : Option SetCondition) (r : SetReply) (l : Option LifetimeOption) (x : LifetimeOption)
    → with (lifetime_also (options c r l) x) (λ t. set_also t set.Before) ≡ with (before_also c r l) (λ t. lifetime_also t x)
before_lifetime c Done None x = refl
before_lifetime c Before None x = refl
before_lifetime c Done (Some y) x = refl
before_lifetime c Before (Some y) x = refl

-- an option beside what says how long the value stays
pub lifetime_alike : (c : Option SetCondition) (r : SetReply) (l : Option LifetimeOption) (o : SetOption) (x : LifetimeOption)
    → with (set_also (options c r l) o) (λ t. lifetime_also t x) ≡ with (lifetime_also (options c r l) x) (λ t. set_also t o)
lifetime_alike c r l (set.Condition a) x = two_alike (is_some c) (is_some l) _ _ _ _ _ refl refl
lifetime_alike c r l set.Before x = sym (before_lifetime c r l x)
lifetime_alike c r l set.Kept x = twice_refused (is_some l) _ _ _ _ refl refl

pub alike : (c : Option SetCondition) (r : SetReply) (l : Option LifetimeOption) (o p : SetOption)
    → with (set_also (options c r l) o) (λ t. set_also t p) ≡ with (set_also (options c r l) p) (λ t. set_also t o)
alike c r l (set.Condition a) (set.Condition b) = twice_refused (is_some c) _ _ _ _ refl refl
alike c r l (set.Condition a) set.Before = before_condition c r l a
alike c r l set.Before (set.Condition b) = sym (before_condition c r l b)
alike c r l set.Before set.Before = refl
alike c r l o set.Kept = lifetime_alike c r l o lifetime.Kept
alike c r l set.Kept p = sym (lifetime_alike c r l p lifetime.Kept)

words_change : (s : SetOptions) (v w : List ℕ) → with (set_word s v) (λ t. set_word t w) ≡ with (set_word s w) (λ t. set_word t v)
words_change s v w =
    words_alike set_also set_also (ok_or (set_option v) Syntax) (ok_or (set_option w) Syntax) also_only also_only
    (only_found (set_option v)) (only_found (set_option w)) (λ t o p. alike t.condition t.reply t.lifetime o p) s

word_only : (s : SetOptions) (w : List ℕ) → OnlySyntax (set_word s w)
unfolding OnlySyntax
word_only s w = by_option (ok_or (set_option w) Syntax) (only_found (set_option w))
  where
    by_option : (r : Result SetOption AskFault) → OnlySyntax r → OnlySyntax (with r (set_also s))
    by_option (Ok o) h = also_only s o
    by_option (Err f) h = h

word_until : (s : SetOptions) (w : List ℕ) (u : ExpiryUnit) (n : List ℕ) → with (set_word s w) (λ t. until t (Some u) n) ≡ with (until s (Some u) n) (λ t. set_word t w)
unfolding OnlySyntax
word_until s w u n = by_option (ok_or (set_option w) Syntax) (only_found (set_option w))
  where
    by_option : (r : Result SetOption AskFault) → OnlySyntax r → with (with r (set_also s)) (λ t. until t (Some u) n) ≡ with (until s (Some u) n) (λ t. with r (set_also t))
    by_option (Ok o) h = lifetime_alike s.condition s.reply s.lifetime o (lifetime.Until u n)
    by_option (Err f) h = sym (second_refused (until s (Some u) n) f (lifetime_only s (lifetime.Until u n)) h)

word_numbered : (s : SetOptions) (w : List ℕ) (o : Option ExpiryUnit) (n : List ℕ) → with (set_word s w) (λ t. until t o n) ≡ with (until s o n) (λ t. set_word t w)
word_numbered s w None n = second_refused (set_word s w) Syntax (word_only s w) refl
word_numbered s w (Some u) n = word_until s w u n

both_numbered : (s : SetOptions) (o p : Option ExpiryUnit) (m n : List ℕ) → with (until s o m) (λ t. until t p n) ≡ with (until s p n) (λ t. until t o m)
both_numbered s None None m n = refl
both_numbered s None (Some v) m n = sym (second_refused (until s (Some v) n) Syntax (lifetime_only s (lifetime.Until v n)) refl)
both_numbered s (Some u) None m n = second_refused (until s (Some u) m) Syntax (lifetime_only s (lifetime.Until u m)) refl
both_numbered s (Some u) (Some v) m n = twice_refused (is_some s.lifetime) _ _ _ _ refl refl

-- what one option sets
abbrev pub step : SetOptions → List (List ℕ) → Result SetOptions AskFault
step s (w ∷ []) = set_word s w
step s (w ∷ n ∷ []) = until s (unit_of w) n
step s _ = Err Syntax

steps_alike : (s : SetOptions) (a b : List (List ℕ)) → AreOneOption a → AreOneOption b → with (step s a) (λ t. step t b) ≡ with (step s b) (λ t. step t a)
steps_alike s [] b g h = absurd g
steps_alike s (w ∷ u ∷ v ∷ ws) b g h = absurd g
steps_alike s a [] g h = absurd h
steps_alike s a (x ∷ y ∷ z ∷ xs) g h = absurd h
steps_alike s (w ∷ []) (x ∷ []) g h = words_change s w x
steps_alike s (w ∷ []) (x ∷ n ∷ []) g h = word_numbered s w (unit_of x) n
steps_alike s (w ∷ n ∷ []) (x ∷ []) g h = sym (word_numbered s x (unit_of w) n)
steps_alike s (w ∷ m ∷ []) (x ∷ n ∷ []) g h = both_numbered s (unit_of w) (unit_of x) m n

with_unit : (s : SetOptions) (o : Option ExpiryUnit) (w n : List ℕ) (rest : List (List ℕ)) → is_some o ≡ true
    → (if is_some o then number_then s o (n ∷ rest) else with (set_word s w) (λ t. set_options t (n ∷ rest))) ≡ with (until s o n) (λ t. set_options t rest)
with_unit s None w n rest h = cc
with_unit s (Some u) w n rest h = refl

pub one_step : (s : SetOptions) (a rest : List (List ℕ)) → AreOneOption a → set_options s (a ++ rest) ≡ with (step s a) (λ t. set_options t rest)
one_step s [] rest h = absurd h
one_step s (w ∷ []) rest h = ap (λ (b : Bool). if b then number_then s (unit_of w) rest else with (set_word s w) (λ t. set_options t rest)) h
one_step s (w ∷ n ∷ []) rest h = with_unit s (unit_of w) w n rest h
one_step s (w ∷ u ∷ v ∷ ws) rest h = absurd h

two_steps : (s : SetOptions) (a b back : List (List ℕ)) → AreOneOption a → AreOneOption b
    → set_options s (a ++ b ++ back) ≡ with (with (step s a) (λ t. step t b)) (λ t. set_options t back)
two_steps s a b back g h =
    ap (set_options s) (append_assoc a b back)
    ∙ one_step s a (b ++ back) g
    ∙ with_same (step s a) _ _ (λ t. one_step t b back h)
    ∙ with_joined (step s a) (λ t. step t b) (λ t. set_options t back)

pub set_in_any_order : (s : SetOptions) (a b back : List (List ℕ)) → AreOneOption a → AreOneOption b → set_options s (a ++ b ++ back) ≡ set_options s (b ++ a ++ back)
set_in_any_order s a b back g h =
    two_steps s a b back g h
    ∙ ap (λ r. with r (λ t. set_options t back)) (steps_alike s a b g h)
    ∙ sym (two_steps s b a back h g)
