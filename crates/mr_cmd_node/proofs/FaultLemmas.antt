-- Answered of a command to the node is the fault that comes first among those that its words have.
use Rattle.std.proofs.Common.{ℕ, ◌≡◌, List, [], ◌∷◌, Bool, true, false, Some, None, refl}
use Rattle.std.specs.Prelude.{if◌then◌else◌, Result, Ok, Err}
use Rattle.std.specs.Option.{ok_or}
use Rattle.std.specs.Str.{bytes_eq}
use Rattle.mr_bytes.specs.Number.{number_of}
use Rattle.mr_arguments.specs.Names.{lowered}
use Rattle.mr_arguments.specs.Parts.{with}
use Rattle.mr_arguments.specs.FaultOrder.{answered_fault, counted, first_of, in_reading}
use Rattle.mr_arguments.specs.declared.name.Name.{Name}
use Rattle.mr_arguments.specs.declared.fault.AskFault.{AskFault}
use Rattle.mr_arguments.specs.declared.fault.AskFault.TheVariants.{Syntax}
use Rattle.mr_cmd_node.specs.ArgumentFaults.{following_faults, replconf_faults, telling_faults}
use Rattle.mr_cmd_node.specs.Arguments.{replconf, replicaof, acknowledgement, telling, ack, is_no_one, port}
use Rattle.mr_cmd_node.specs.Options.{all_tell, told}
use Rattle.mr_cmd_node.specs.declared.node_ask.NodeAsk.{NodeAsk}
use Rattle.mr_cmd_node.specs.declared.node_ask.NodeAsk.TheVariants as node

one_reading : (r : Result NodeAsk AskFault) → answered_fault r ≡ first_of (in_reading r)
one_reading (Ok a) = refl
one_reading (Err f) = refl

one_with : {A : Type 0} (next : A → NodeAsk) (r : Result A AskFault) → answered_fault (with r (λ a. Ok (next a))) ≡ first_of (in_reading r)
one_with next (Ok a) = refl
one_with next (Err f) = refl

telling_first : (ws : List (List ℕ)) → answered_fault (telling ws) ≡ first_of (telling_faults ws)
telling_first ws = elim (all_tell ws) as (λ b. answered_fault (with (ok_or (if b then Some (told ws) else None) Syntax) (λ t. Ok (node.ReplConf t))) ≡ first_of (if b then [] else Syntax ∷ [])) [
  | true ↦ refl
  | false ↦ refl
]

two_first : (b : Bool) (o w : List ℕ) → answered_fault (if b then acknowledgement w else telling (o ∷ w ∷ [])) ≡ first_of (if b then in_reading (acknowledgement w) else telling_faults (o ∷ w ∷ []))
two_first true o w = one_reading (acknowledgement w)
two_first false o w = telling_first (o ∷ w ∷ [])

pub replconf_first : (ws : List (List ℕ)) → answered_fault (replconf ws) ≡ first_of (replconf_faults ws)
replconf_first [] = refl
replconf_first (o ∷ []) = telling_first (o ∷ [])
replconf_first (o ∷ w ∷ []) = two_first (bytes_eq (lowered o) ack) o w
replconf_first (o ∷ w ∷ x ∷ ws) = telling_first (o ∷ w ∷ x ∷ ws)

of_port : (b : Bool) (h w : List ℕ) → answered_fault (if b then Ok node.NoOne else with (port w) (λ p. Ok (node.ReplicaOf h p))) ≡ first_of (if b then [] else in_reading (port w))
of_port true h w = refl
of_port false h w = one_with (λ p. node.ReplicaOf h p) (port w)

pub replicaof_first : (called : Name) (ws : List (List ℕ)) → answered_fault (replicaof called ws) ≡ first_of (counted called (following_faults ws))
replicaof_first called (h ∷ w ∷ []) = of_port (is_no_one h w) h w
replicaof_first called _ = refl
