-- Groups of effects, and their texts.
use Rattle.std.specs.Prelude.{ℕ, zero, suc, List, [], ◌∷◌, ◌++◌, map, codes, Bool, true, false, IsTrue, All}
use Rattle.std.specs.List.{flat_map, list_all}
use Rattle.mr_resp.specs.Spelling.{array}
use Rattle.mr_effect.specs.Spelling.{text, texts}
use Rattle.mr_effect.specs.declared.effect.Effect.{Effect}
use Rattle.mr_effect.specs.declared.effect.Effect.TheVariants as effect
use Rattle.mr_groups.specs.Effects.{IsGoodEffect}

-- it can stand beside others in a group: PING can't
abbrev pub can_join : Effect → Bool
can_join effect.Ping = false
can_join e = true

-- one effect, or two or more that aren't PING
abbrev pub is_group : List Effect → Bool
is_group [] = false
is_group (e ∷ []) = true
is_group (e ∷ f ∷ es) = list_all can_join (e ∷ f ∷ es)

abbrev pub IsGroup : List Effect → Type 0
IsGroup es = IsTrue (is_group es)

-- .. each with a text of its own
pub record IsGoodGroup (es : List Effect) : Type 0 where
  pub group : IsGroup es
  pub good : All IsGoodEffect es

-- the frame: what stands in front of the texts of two or more effects, and behind them
unfoldable pub multi : List ℕ
multi = array (codes "MULTI" ∷ [])

unfoldable pub exec : List ℕ
exec = array (codes "EXEC" ∷ [])

-- one effect has no frame
abbrev pub group_text : List Effect → List ℕ
group_text (e ∷ []) = text e
group_text es = multi ++ (texts es ++ exec)

-- the texts of groups, one after another
abbrev pub group_texts : List (List Effect) → List ℕ
group_texts gs = flat_map group_text gs

-- how many bytes of a frame stand round the texts of so many effects
abbrev pub frame_for : ℕ → ℕ
frame_for zero = 0
frame_for (suc zero) = 0
frame_for (suc (suc n)) = 29

-- what a stream grows by where these effects are done as one: nothing where there are none
abbrev pub grown_text : List Effect → List ℕ
grown_text [] = []
grown_text (e ∷ es) = group_text (e ∷ es)

-- .. and the groups that they are: one, or none
abbrev pub as_group : List Effect → List (List Effect)
as_group [] = []
as_group (e ∷ es) = (e ∷ es) ∷ []

-- each effect as a group of its own
abbrev pub singles : List Effect → List (List Effect)
singles es = map (λ e. e ∷ []) es

-- the command texts that a group's text is made of
abbrev pub parts : List Effect → List (List ℕ)
parts (e ∷ []) = text e ∷ []
parts es = multi ∷ (map text es ++ exec ∷ [])
