-- A request's words have room for those that its command carries.
use Rattle.std.proofs.Common.{ℕ, ◌≡◌, ◌≤◌, List, [], ◌∷◌, length, map, refl, subst, arith}
use Rattle.std.specs.Prelude.{Result, Ok, Err, IfOk}
use Rattle.std.proofs.lemmas.List.{length-map}
use Rattle.mr_resp.specs.Usual.{commands}
use Rattle.mr_arguments.specs.Spelling.{Part, Word, AreParts}
use Rattle.mr_cmd_string.specs.Carried.{text_words}
use Rattle.mr_ask.specs.Carried.{AskFits}
use Rattle.mr_ask.specs.Spelled.{Spells}
use Rattle.mr_cmd_string.specs.Spelled.{AreOfTexts}
use Rattle.mr_cmd_string.specs.declared.text_ask.TextAsk.{TextAsk}
use Rattle.mr_cmd_string.specs.declared.text_ask.TextAsk.TheVariants as text
use Rattle.mr_ask.specs.declared.ask.Ask.{Ask}
use Rattle.mr_ask.specs.declared.ask.Ask.TheVariants as ask
use Rattle.mr_commands.specs.PlannedCommands.{HasRoom}
use Rattle.mr_commands.specs.Requests.{HasTexts}
use Rattle.mr_commands.specs.declared.requests.Answer.{Answer}

as_many : (ws : List (List ℕ)) (ps : List Part) → AreParts ws ps → length ws ≡ length ps
as_many [] [] h = refl
as_many (w ∷ ws) (p ∷ ps) h = omega (arith, as_many ws ps h.1)
as_many [] (p ∷ ps) h = absurd h
as_many (w ∷ ws) [] h = absurd h

same_number : (ws vs : List (List ℕ)) → AreParts ws (map Word vs) → length vs ≤ length ws
same_number [] [] h = omega arith
same_number (w ∷ ws) (v ∷ vs) h = omega (arith, same_number ws vs h.1)
same_number [] (v ∷ vs) h = absurd h
same_number (w ∷ ws) [] h = absurd h

no_fewer : (ws : List (List ℕ)) (c : TextAsk) → AreOfTexts ws c → length (text_words c) ≤ length ws
no_fewer ws (text.Set k v condition reply lifetime) h = omega (arith, as_many _ _ h.1.1)
no_fewer ws (text.SetEx k n v) h = omega (arith, as_many _ _ h)
no_fewer ws (text.PSetEx k n v) h = omega (arith, as_many _ _ h)
no_fewer ws (text.GetRange k first last) h = omega (arith, as_many _ _ h)
no_fewer ws (text.SetRange k offset v) h = omega (arith, as_many _ _ h)
no_fewer ws (text.Increase k by) h = omega (arith, as_many _ _ h)
no_fewer ws c h = same_number ws (text_words c) h

pub room : (ws : List (List ℕ)) (a : Ask) → Spells ws a → length ws ≤ commands.words → HasRoom a
room [] a s few = absurd s
room (w ∷ ws) (ask.Texts c) s few = omega (arith, no_fewer ws c s.1.1.parts, few)
room (w ∷ ws) (ask.Keys c) s few = tt
room (w ∷ ws) (ask.Hashes c) s few = tt
room (w ∷ ws) (ask.Lists c) s few = tt
room (w ∷ ws) (ask.Sets c) s few = tt
room (w ∷ ws) (ask.SortedSets c) s few = tt
room (w ∷ ws) (ask.Server c) s few = tt
room (w ∷ ws) (ask.Node c) s few = tt

-- for words that lie in memory
pub room_of : {X : Type 0} (f : X → List ℕ) (ws : List X) (a : Ask) → Spells (map f ws) a → length ws ≤ commands.words → HasRoom a
room_of f ws a s few = room (map f ws) a s (omega (arith, length-map ws f, few))

pub ok_at : {X E : Type 0} (P : X → Type 0) (r : Result X E) (a : X) → r ≡ Ok a → IfOk r P → P a
ok_at P r a is h = subst (λ q. IfOk q P) is h

pub with_room : {E : Type 0} (r : Result Answer E) (a : Ask) (A B : Type 0) → (A → AskFits a) → (B → HasRoom a) → IfOk r (λ x. AskFits a → HasRoom a → HasTexts x) → IfOk r (λ x. A → B → HasTexts x)
with_room (Ok x) a A B f g h = λ fit few. h (f fit) (g few)
with_room (Err e) a A B f g h = tt
