-- What a line that the parser takes names.
use Rattle.std.proofs.Common.{◌≡◌, ◌∙◌, List, [], ◌∷◌, Option, Some, None, true, false, sym, ap, refl, length, ◌==◌, map}
use Rattle.std.specs.Prelude.{IfOk, Result, Ok, Err}
use Rattle.std.specs.Box.{box_value}
use Rattle.std.specs.Option.{option_map, unwrap_or}
use Rattle.clap.specs.Words.{App, HasMatchesOf, Row, Text, fault_of, is_simple, is_simple_and_free, subcommand_name_of, subcommand_of, subcommand_rows, subcommand_rows_of}
use Rattle.clap.specs.declared.parser.matches.ArgMatches.{ArgMatches}
use Rattle.clap.specs.declared.parser.matches.ArgMatches.TheViews.{out-ArgMatches, out-SubCommand}
use Rattle.mr_options.specs.Lines.{line}
use Rattle.mr_options.specs.Outcomes.{AreOptionsOf, ExplainsFault, ExplainsServe, IsLineOf, IsServeLine, SaysOptions}
use Rattle.mr_options.specs.declared.fault.UsageFault.{UsageFault}
use Rattle.mr_options.specs.declared.fault.UsageFault.TheVariants.{Line, BadValue, BadMode, BadMaster, BadAddress, Memory}
use Rattle.mr_options.specs.declared.line.Options.{Options}

pair_is : (o : Option (Text × List Row)) (name : Text) (rows : List Row) → option_map (λ (p : Text × List Row). p.0) o ≡ Some name → option_map (λ (p : Text × List Row). p.1) o ≡ Some rows → o ≡ Some (name, rows)
pair_is None name rows a b = cc
pair_is (Some p) name rows a b = λ i. Some (ap (λ x. unwrap_or x name) a i, ap (λ x. unwrap_or x rows) b i)

names : (m : ArgMatches) → option_map (λ (p : Text × List Row). p.0) (subcommand_rows_of m) ≡ subcommand_name_of m
names m = elim (out-ArgMatches m).subcommand as (λ o. option_map (λ (p : Text × List Row). p.0) (subcommand_rows o) ≡ option_map (λ b. (out-SubCommand (box_value b)).name.now) o) [ None ↦ refl | Some b ↦ refl ]

-- a line without a fault, by what the parser's matches say of it
pub line_of : {command : App} {name : Text} {rows : List Row} (words : List Text) (m : ArgMatches) → command ≡ line → (is_simple_and_free command ≡ true → fault_of command words ≡ []) → HasMatchesOf command words m
    → Some name ≡ subcommand_name_of m → Some rows ≡ option_map (λ (p : Text × List Row). p.1) (subcommand_rows_of m) → IsLineOf name words rows
line_of {command} {name} {rows} words m is fine matches a b =
    let said = (matches (ap is_simple is)).1 ∙ ap (λ (a : App). subcommand_of a words) is in
    (sym (ap (λ (a : App). fault_of a words) is) ∙ fine (ap is_simple_and_free is), sym said ∙ pair_is (subcommand_rows_of m) name rows (names m ∙ sym a) (sym b))

-- what a line says that is not empty
pub of_some : {X : Type 0} (f : X → Text) (xs : List X) (r : Result Options UsageFault) → (length xs == 0) ≡ false → IfOk r (SaysOptions (map f xs)) → IfOk r (AreOptionsOf (map f xs))
of_some f [] r e h = absurd (let wrong : true ≡ false = e in cc)
of_some f (x ∷ xs) (Ok options) e h = h
of_some f (x ∷ xs) (Err fault) e h = h

-- why a line of `serve` is refused, where one of its values is none
pub explained : (words : List Text) (rows : List Row) (fault : UsageFault) → IsServeLine words rows → ExplainsServe rows fault → ExplainsFault words fault
explained words rows BadMode is why = (rows, (is, why))
explained words rows BadMaster is why = (rows, (is, why))
explained words rows BadAddress is why = (rows, (is, why))
explained words rows (Line text) is why = absurd why
explained words rows BadValue is why = absurd why
explained words rows Memory is why = absurd why
