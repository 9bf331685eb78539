-- A command text in front that begins no frame: it is a group of its own, or no group's.
use Rattle.std.proofs.Common.{◌≡◌, ℕ, List, [], ◌∷◌, ◌++◌, refl, sym, ap, ◌∙◌, append_assoc, All}
use Rattle.std.specs.List.{concat}
use Rattle.std.proofs.lemmas.List.Elements.{All-head}
use Rattle.mr_map.specs.Bytes.{Bytes}
use Rattle.mr_resp.specs.Command.{IsCommand}
use Rattle.mr_resp.specs.Usual.{commands}
use Rattle.mr_resp.proofs.Commands.{commands_apart}
use Rattle.mr_effect.specs.Spelling.{text, texts}
use Rattle.mr_effect.specs.declared.effect.Effect.{Effect}
use Rattle.mr_groups.specs.Effects.{IsGoodEffect}
use Rattle.mr_groups.specs.Groups.{IsGoodGroup, multi, exec, group_text, parts}
use Rattle.mr_groups.specs.Parts.{multi_words}
use Rattle.mr_groups.specs.Reading.{IsOpen}
use Rattle.mr_groups.proofs.Apart.{no_empty, multi_command, effect_command}
use Rattle.mr_groups.proofs.Openings.{IsWhole, same_text, multi_text, no_command}

-- these words don't begin a frame
abbrev pub IsLone : List Bytes → Type 0
IsLone ws = ws ≡ multi_words → ⊥

not_multi : (t : List ℕ) (ws : List Bytes) → IsCommand commands t ws → IsLone ws → t ≡ multi → ⊥
not_multi t ws command lone is = lone (commands_apart commands t multi [] [] ws multi_words command multi_command (ap (λ (x : List ℕ). x ++ []) is)).1

-- a group whose text begins what it begins is one effect's
pub record IsOne (t : List ℕ) (g : List Effect) : Type 0 where
  pub effect : Effect
  pub alone : g ≡ effect ∷ []
  pub good : IsGoodEffect effect
  pub is_text : t ≡ text effect

pub lone_group : (t behind y : List ℕ) (ws : List Bytes) (g : List Effect) → IsCommand commands t ws → IsLone ws → IsGoodGroup g → t ++ behind ≡ group_text g ++ y → IsOne t g
lone_group t behind y ws [] command lone good q = absurd (no_empty good.group)
lone_group t behind y ws (e ∷ []) command lone good q =
    let one = All-head IsGoodEffect e [] good.good in
    record { effect = e; alone = refl; good = one; is_text = same_text t (text e) behind y (ws, command) (effect_command e one) q }
lone_group t behind y ws (e ∷ f ∷ es) command lone good q =
    let framed : t ++ behind ≡ multi ++ ((texts (e ∷ f ∷ es) ++ exec) ++ y) = q ∙ append_assoc multi (texts (e ∷ f ∷ es) ++ exec) y in
    absurd (not_multi t ws command lone (same_text t multi behind ((texts (e ∷ f ∷ es) ++ exec) ++ y) (ws, command) multi_text framed))

first_of_parts : (t : List ℕ) (ts more : List (List ℕ)) (ws : List Bytes) (g : List Effect) → IsCommand commands t ws → IsLone ws → IsGoodGroup g → parts g ≡ t ∷ (ts ++ more) → IsOne t g
first_of_parts t ts more ws [] command lone good q = absurd (no_empty good.group)
first_of_parts t ts more ws (e ∷ []) command lone good q = record { effect = e; alone = refl; good = All-head IsGoodEffect e [] good.good; is_text = (let heads : text e ≡ t = cc in sym heads) }
first_of_parts t ts more ws (e ∷ f ∷ es) command lone good q = absurd (not_multi t ws command lone (let heads : multi ≡ t = cc in sym heads))

-- so no more is waited for
pub lone_not_open : (u t behind : List ℕ) (ws : List Bytes) → IsCommand commands t ws → IsLone ws → u ≡ t ++ behind → IsOpen u → ⊥
lone_not_open u t behind ws command lone is o = by_front o.front o.cut.is o.cut.each o.begin.more o.begin.is
  where
    begun : (one : IsOne t o.begin.group) → ⊥
    begun one = o.none (record {
      group = o.begin.group;
      good = o.begin.good;
      behind = behind;
      is = is ∙ ap (λ (x : List ℕ). x ++ behind) (one.is_text ∙ sym (ap group_text one.alone));
    })

    by_front : (front : List (List ℕ)) → u ≡ concat front ++ o.rest → All IsWhole front → (more : List (List ℕ)) → parts o.begin.group ≡ front ++ more → ⊥
    by_front [] all each more parts_are = no_command t behind o.rest (ws, command) o.open_end (sym all ∙ is)
    by_front (v ∷ vs) all each more parts_are =
        let same : v ≡ t = same_text v t (concat vs ++ o.rest) behind (All-head IsWhole v vs each) (ws, command) (sym (append_assoc v (concat vs) o.rest) ∙ (sym all ∙ is)) in
        begun (first_of_parts t vs more ws o.begin.group command lone o.begin.good (parts_are ∙ ap (λ (x : List ℕ). x ∷ (vs ++ more)) same))
