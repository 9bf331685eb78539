-- The times that texts are set for are at least a millisecond.
use Rattle.std.proofs.Common.{ℕ, ◌≡◌, List, refl, sym, ◌∙◌, ap, subst}
use Rattle.std.specs.Prelude.{IfOk, Result, Ok, Err}
use Rattle.mr_cmd_string.specs.Arguments.{set, setex, psetex}
use Rattle.mr_ask.specs.Asks.{of_kind, reading}
use Rattle.mr_cmd_string.specs.Carried.{IsTimed}
use Rattle.mr_ask.specs.Spelled.{SpellsNamed}
use Rattle.mr_cmd_string.proofs.TimeLemmas.{set_timed, setex_timed, psetex_timed}
use Rattle.mr_arguments.specs.declared.name.Name.{Name}
use Rattle.mr_arguments.specs.declared.name.Name.TheVariants as name
use Rattle.mr_arguments.specs.declared.fault.AskFault.{AskFault}
use Rattle.mr_cmd_string.specs.declared.text_ask.TextAsk.{TextAsk}
use Rattle.mr_cmd_string.specs.declared.text_ask.TextAsk.TheVariants as text
use Rattle.mr_ask.specs.declared.ask.Ask.{Ask}
use Rattle.mr_ask.specs.declared.ask.Ask.TheVariants as ask

abbrev pub IsTimedAsk : Ask → Type 0
IsTimedAsk (ask.Texts command) = IsTimed command
IsTimedAsk _ = Unit {0}

-- a command on strings, by how it is read under its name
text_timed : (read : List (List ℕ) → Result TextAsk AskFault) (n called : Name) (ws : List (List ℕ)) (a : TextAsk) → reading n ws ≡ of_kind ask.Texts (read ws) → n ≡ called → reading called ws ≡ Ok (ask.Texts a) → IfOk (read ws) IsTimed → IsTimed a
text_timed read n called ws a table same is h = of_read (read ws) (sym table ∙ ap (λ (x : Name). reading x ws) same ∙ is) h
  where
    of_read : (r : Result TextAsk AskFault) → of_kind ask.Texts r ≡ Ok (ask.Texts a) → IfOk r IsTimed → IsTimed a
    of_read (Ok b) e t = let same : b ≡ a = cc in subst IsTimed same t
    of_read (Err f) e t = cc

pub reading_timed : (n : Name) (ws : List (List ℕ)) (a : Ask) → reading n ws ≡ Ok a → SpellsNamed n ws a → IsTimedAsk a
reading_timed n ws (ask.Texts (text.Set k v c r l)) is s = text_timed set name.Set n ws (text.Set k v c r l) refl s.name_is is (set_timed ws)
reading_timed n ws (ask.Texts (text.SetEx k t v)) is s = text_timed setex name.SetEx n ws (text.SetEx k t v) refl s.name_is is (setex_timed ws)
reading_timed n ws (ask.Texts (text.PSetEx k t v)) is s = text_timed psetex name.PSetEx n ws (text.PSetEx k t v) refl s.name_is is (psetex_timed ws)
reading_timed n ws _ is s = tt
