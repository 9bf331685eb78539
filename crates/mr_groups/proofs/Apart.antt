-- The texts of groups are apart.
use Rattle.std.proofs.Common.{◌≡◌, ℕ, ◌<◌, ◌≤◌, ◌^◌, List, [], ◌∷◌, ◌++◌, length, Bool, true, false, ◌||◌, lit<, refl, sym, ap, ◌∙◌, append_assoc, arith, All}
use Rattle.std.specs.Prelude.{codes}
use Rattle.std.specs.List.{flat_map}
use Rattle.std.specs.Str.{bytes_eq}
use Rattle.std.proofs.lemmas.List.{append_cancel_left}
use Rattle.std.proofs.lemmas.List.Elements.{All-nil, All-cons, All-head, All-tail}
use Rattle.mr_inline.specs.Limits.{word_limit}
use Rattle.mr_map.specs.Bytes.{Bytes}
use Rattle.mr_resp.specs.Command.{IsCommand, IsCommandText}
use Rattle.mr_resp.specs.Spelling.{number_line, bulk, array}
use Rattle.mr_resp.specs.Usual.{commands, commands-word, commands-words}
use Rattle.mr_resp.proofs.Commands.{commands_apart}
use Rattle.mr_resp.proofs.Requests.{array_parts}
use Rattle.mr_resp.proofs.Words.{line_unique, bulk_unique}
use Rattle.mr_effect.specs.Names.{text_of}
use Rattle.mr_effect.specs.Spelling.{words, text, texts, name_of, arguments}
use Rattle.mr_effect.specs.declared.name.EffectName.{EffectName}
use Rattle.mr_effect.specs.declared.name.EffectName.TheVariants as name
use Rattle.mr_effect.specs.declared.effect.Effect.{Effect}
use Rattle.mr_effect.proofs.Texts.{command_text}
use Rattle.mr_groups.specs.Effects.{IsGoodEffect}
use Rattle.mr_groups.proofs.Leading.{one_effect}
use Rattle.mr_groups.specs.Groups.{IsGroup, IsGoodGroup, multi, exec, group_text}
use Rattle.mr_groups.specs.Parts.{multi_words, exec_words}

-- ---- the texts of a frame are command texts

one_word : (w : Bytes) → length w ≤ word_limit → IsCommand commands (array (w ∷ [])) (w ∷ [])
one_word w short = record {
  spelled = refl;
  some = lit< tt;
  count = omega (arith, commands-words);
  each = All-cons (λ v. length v ≤ commands.word) w [] (omega (arith, commands-word, short)) (All-nil (λ v. length v ≤ commands.word));
}

pub multi_command : IsCommand commands multi multi_words
unfolding multi
multi_command = one_word (codes "MULTI") (omega arith)

pub exec_command : IsCommand commands exec exec_words
unfolding exec
exec_command = one_word (codes "EXEC") (omega arith)

-- ---- .. and no effect's

abbrev is_framing : Bytes → Bool
is_framing w = bytes_eq w (codes "MULTI") || bytes_eq w (codes "EXEC")

names_no_frame : (n : EffectName) → is_framing (text_of n) ≡ false
names_no_frame name.Set = refl
names_no_frame n = refl

pub heads : (a b : List ℕ) (xs ys : List (List ℕ)) → a ∷ xs ≡ b ∷ ys → a ≡ b
heads a b xs ys e = cc

pub tails : (a b : List ℕ) (xs ys : List (List ℕ)) → a ∷ xs ≡ b ∷ ys → xs ≡ ys
tails a b xs ys e = cc

short_name : (n : EffectName) → length (text_of n) < 2 ^ 64
short_name name.Set = lit< tt
short_name n = lit< tt

-- an effect's text begins with no text of one word but its name
no_framing : (e : Effect) (w : Bytes) (x y : List ℕ) → IsGoodEffect e → is_framing w ≡ true → length w < 2 ^ 64 → text e ++ x ≡ array (w ∷ []) ++ y → ⊥
unfolding words
no_framing e w x y good framing small q =
    let n = text_of (name_of e) in
    let ws = arguments e in
    let both : 42 ∷ (number_line (length (n ∷ ws)) ++ (flat_map bulk (n ∷ ws) ++ x)) ≡ 42 ∷ (number_line 1 ++ (flat_map bulk (w ∷ []) ++ y)) = sym (array_parts (n ∷ ws) x) ∙ (q ∙ array_parts (w ∷ []) y) in
    let inner : number_line (length (n ∷ ws)) ++ (flat_map bulk (n ∷ ws) ++ x) ≡ number_line 1 ++ (flat_map bulk (w ∷ []) ++ y) = cc in
    let line = line_unique (length (n ∷ ws)) 1 (flat_map bulk (n ∷ ws) ++ x) (flat_map bulk (w ∷ []) ++ y) (omega (arith, good.short, commands-words)) (lit< tt) inner in
    let split : bulk n ++ (flat_map bulk ws ++ x) ≡ bulk w ++ ([] ++ y) = sym (append_assoc (bulk n) (flat_map bulk ws) x) ∙ (line.1 ∙ append_assoc (bulk w) [] y) in
    let head : n ≡ w = (bulk_unique n w (flat_map bulk ws ++ x) ([] ++ y) (short_name (name_of e)) small split).0 in
    let wrong : false ≡ true = sym (names_no_frame (name_of e)) ∙ (ap is_framing head ∙ framing) in
    cc

pub no_multi : (e : Effect) (x y : List ℕ) → IsGoodEffect e → text e ++ x ≡ multi ++ y → ⊥
unfolding multi
no_multi e x y good q = no_framing e (codes "MULTI") x y good refl (lit< tt) q

pub no_exec : (e : Effect) (x y : List ℕ) → IsGoodEffect e → text e ++ x ≡ exec ++ y → ⊥
unfolding exec
no_exec e x y good q = no_framing e (codes "EXEC") x y good refl (lit< tt) q

pub multi_no_exec : (x y : List ℕ) → multi ++ x ≡ exec ++ y → ⊥
multi_no_exec x y q =
    let same = (commands_apart commands multi exec x y multi_words exec_words multi_command exec_command q).1 in
    let head : codes "MULTI" ≡ codes "EXEC" = heads (codes "MULTI") (codes "EXEC") [] [] same in
    let wrong : true ≡ false = ap (λ w. bytes_eq w (codes "MULTI")) head in
    cc

pub effect_command : (e : Effect) → IsGoodEffect e → IsCommandText commands (text e)
effect_command e good = command_text e good.spelled good.fits good.short

-- ---- a group's text determines the group, and where it ends

pub regroup : (es : List Effect) (x : List ℕ) → (multi ++ (texts es ++ exec)) ++ x ≡ multi ++ (texts es ++ (exec ++ x))
regroup es x = append_assoc multi (texts es ++ exec) x ∙ ap (λ (t : List ℕ). multi ++ t) (append_assoc (texts es) exec x)

inside : (es fs : List Effect) (x y : List ℕ) → All IsGoodEffect es → All IsGoodEffect fs → texts es ++ (exec ++ x) ≡ texts fs ++ (exec ++ y) → (es ≡ fs) × (x ≡ y)
inside [] [] x y g k q = (refl, append_cancel_left exec x y q)
inside [] (f ∷ fs) x y g k q = absurd (no_exec f (texts fs ++ (exec ++ y)) x (All-head IsGoodEffect f fs k) (sym (append_assoc (text f) (texts fs) (exec ++ y)) ∙ sym q))
inside (e ∷ es) [] x y g k q = absurd (no_exec e (texts es ++ (exec ++ x)) y (All-head IsGoodEffect e es g) (sym (append_assoc (text e) (texts es) (exec ++ x)) ∙ q))
inside (e ∷ es) (f ∷ fs) x y g k q =
    let split : text e ++ (texts es ++ (exec ++ x)) ≡ text f ++ (texts fs ++ (exec ++ y)) = sym (append_assoc (text e) (texts es) (exec ++ x)) ∙ (q ∙ append_assoc (text f) (texts fs) (exec ++ y)) in
    let one = one_effect e f (texts es ++ (exec ++ x)) (texts fs ++ (exec ++ y)) (All-head IsGoodEffect e es g) (All-head IsGoodEffect f fs k) split in
    let rest = inside es fs x y (All-tail IsGoodEffect e es g) (All-tail IsGoodEffect f fs k) one.1 in
    (join e f es fs one.0 rest.0, rest.1)
  where
    join : (a b : Effect) (xs ys : List Effect) → a ≡ b → xs ≡ ys → a ∷ xs ≡ b ∷ ys
    join a b xs ys p r = cc

pub no_empty : {X : Type 0} → IsGroup [] → X
no_empty h = let wrong : false ≡ true = h in cc

pub one_group : (es fs : List Effect) (x y : List ℕ) → IsGoodGroup es → IsGoodGroup fs → group_text es ++ x ≡ group_text fs ++ y → (es ≡ fs) × (x ≡ y)
one_group [] fs x y g k q = no_empty g.group
one_group (e ∷ []) [] x y g k q = no_empty k.group
one_group (e ∷ e2 ∷ es) [] x y g k q = no_empty k.group
one_group (e ∷ []) (f ∷ []) x y g k q =
    let one = one_effect e f x y (All-head IsGoodEffect e [] g.good) (All-head IsGoodEffect f [] k.good) q in
    (ap (λ (z : Effect). z ∷ []) one.0, one.1)
one_group (e ∷ []) (f ∷ f2 ∷ fs) x y g k q = absurd (no_multi e x (texts (f ∷ f2 ∷ fs) ++ (exec ++ y)) (All-head IsGoodEffect e [] g.good) (q ∙ regroup (f ∷ f2 ∷ fs) y))
one_group (e ∷ e2 ∷ es) (f ∷ []) x y g k q = absurd (no_multi f y (texts (e ∷ e2 ∷ es) ++ (exec ++ x)) (All-head IsGoodEffect f [] k.good) (sym q ∙ regroup (e ∷ e2 ∷ es) x))
one_group (e ∷ e2 ∷ es) (f ∷ f2 ∷ fs) x y g k q =
    let framed = sym (regroup (e ∷ e2 ∷ es) x) ∙ (q ∙ regroup (f ∷ f2 ∷ fs) y) in
    inside (e ∷ e2 ∷ es) (f ∷ f2 ∷ fs) x y g.good k.good (append_cancel_left multi (texts (e ∷ e2 ∷ es) ++ (exec ++ x)) (texts (f ∷ f2 ∷ fs) ++ (exec ++ y)) framed)
