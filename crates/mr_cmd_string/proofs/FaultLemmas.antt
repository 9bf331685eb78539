-- Answered is the fault that comes first among those that the arguments of SET have.
use Rattle.std.proofs.Common.{ℕ, ◌≡◌, List, ◌∷◌, refl}
use Rattle.std.specs.Prelude.{Result, Ok, Err}
use Rattle.mr_arguments.specs.Parts.{with}
use Rattle.mr_arguments.specs.FaultOrder.{counted, first_of, in_reading, answered_fault}
use Rattle.mr_arguments.specs.declared.name.Name.TheVariants as name
use Rattle.mr_arguments.specs.declared.fault.AskFault.{AskFault}
use Rattle.mr_cmd_string.specs.Options.{no_set_options, set_options}
use Rattle.mr_cmd_string.specs.Parts.{lifetime_if_any}
use Rattle.mr_cmd_string.specs.ArgumentFaults.{in_set_options, key_value_options}
use Rattle.mr_cmd_string.specs.declared.options.SetOptions.{SetOptions}
use Rattle.mr_cmd_string.specs.declared.text_ask.TextAsk.TheVariants as text
use Rattle.mr_cmd_string.specs.Arguments.{set}

lifetime_first : {A X : Type 0} (next : X → A) (r : Result X AskFault) → answered_fault (with r (λ x. Ok (next x))) ≡ first_of (in_reading r)
lifetime_first next (Ok x) = refl
lifetime_first next (Err f) = refl

options_first : (k v : List ℕ) (r : Result SetOptions AskFault)
    → answered_fault (with r (λ options. with (lifetime_if_any options.lifetime) (λ stays. Ok (text.Set k v options.condition options.reply stays)))) ≡ first_of (in_set_options r)
options_first k v (Ok s) = lifetime_first (λ stays. text.Set k v s.condition s.reply stays) (lifetime_if_any s.lifetime)
options_first k v (Err f) = refl

pub set_first : (ws : List (List ℕ)) → answered_fault (set ws) ≡ first_of (counted name.Set (key_value_options ws))
set_first (k ∷ v ∷ ws) = options_first k v (set_options no_set_options ws)
set_first _ = refl
