-- What is read of a command to the node is spelled by the words.
use Rattle.std.proofs.Common.{ℕ, ℤ, pos, negsuc, ◌≡◌, List, [], ◌∷◌, Bool, true, false, ◌&&◌, Option, Some, None, inl, inr, refl, ◌∙◌, ap}
use Rattle.std.specs.Prelude.{IfOk, if◌then◌else◌, nat_le, Result, Ok, Err}
use Rattle.std.specs.Fmt.{signed_decimal}
use Rattle.std.specs.Option.{ok_or}
use Rattle.std.specs.Str.{bytes_eq}
use Rattle.mr_bytes.specs.Number.{number_of}
use Rattle.mr_bytes.proofs.Numbers.{number_text, same_bytes}
use Rattle.mr_arguments.specs.Names.{lowered}
use Rattle.mr_arguments.specs.Parts.{with}
use Rattle.mr_arguments.specs.declared.name.Name.{Name}
use Rattle.mr_arguments.specs.declared.name.Name.TheVariants as name
use Rattle.mr_arguments.specs.declared.fault.AskFault.{AskFault}
use Rattle.mr_arguments.specs.declared.fault.AskFault.TheVariants.{Integer, Syntax}
use Rattle.mr_arguments.proofs.PartLemmas.{with_integer}
use Rattle.mr_cmd_node.specs.Arguments.{psync, replconf, replicaof, multi, exec, discard, acknowledgement, telling, ack, no, one, is_no_one, port, port_of}
use Rattle.mr_cmd_node.specs.Options.{all_tell, told, told_by}
use Rattle.mr_cmd_node.specs.Spelled.{IsFollowing, NodeSpells}
use Rattle.mr_cmd_node.specs.declared.node_ask.ReplicaOption.{ReplicaOption}
use Rattle.mr_cmd_node.specs.declared.node_ask.NodeAsk.{NodeAsk}
use Rattle.mr_cmd_node.specs.declared.node_ask.NodeAsk.TheVariants as node
use Rattle.mr_cmd_node.proofs.ToldLemmas.{told_spelled}

pub psync_spells : (ws : List (List ℕ)) → IfOk (psync ws) (NodeSpells name.Psync ws)
psync_spells (i ∷ w ∷ []) = with_integer w _ _ (λ n e. (refl, (refl, (e, tt))))
psync_spells _ = tt

acknowledgement_spells : (o w : List ℕ) → lowered o ≡ ack → IfOk (acknowledgement w) (NodeSpells name.ReplConf (o ∷ w ∷ []))
acknowledgement_spells o w e = elim (number_of w) as (λ x. number_of w ≡ x → IfOk (with (ok_or x Syntax) (λ n. Ok (node.Ack n))) (NodeSpells name.ReplConf (o ∷ w ∷ []))) [
  | None ↦ λ s. tt
  | Some n ↦ λ s. (refl, (e, ((number_text w n s).0, tt)))
] refl

telling_spells : (ws : List (List ℕ)) → IfOk (telling ws) (NodeSpells name.ReplConf ws)
telling_spells ws = elim (all_tell ws) as (λ b. all_tell ws ≡ b → IfOk (with (ok_or (if b then Some (told ws) else None) Syntax) (λ t. Ok (node.ReplConf t))) (NodeSpells name.ReplConf ws)) [
  | true ↦ λ s. (refl, told_spelled ws s)
  | false ↦ λ s. tt
] refl

ack_or_told : (o w : List ℕ) → IfOk (replconf (o ∷ w ∷ [])) (NodeSpells name.ReplConf (o ∷ w ∷ []))
ack_or_told o w = elim (bytes_eq (lowered o) ack) as (λ b. bytes_eq (lowered o) ack ≡ b → IfOk (if b then acknowledgement w else telling (o ∷ w ∷ [])) (NodeSpells name.ReplConf (o ∷ w ∷ []))) [
  | true ↦ λ s. acknowledgement_spells o w (same_bytes _ _ s)
  | false ↦ λ s. telling_spells (o ∷ w ∷ [])
] refl

pub replconf_spells : (ws : List (List ℕ)) → IfOk (replconf ws) (NodeSpells name.ReplConf ws)
replconf_spells [] = tt
replconf_spells (o ∷ w ∷ []) = ack_or_told o w
replconf_spells (o ∷ []) = telling_spells (o ∷ [])
replconf_spells (o ∷ w ∷ x ∷ ws) = telling_spells (o ∷ w ∷ x ∷ ws)

-- a port that is read is the number
pub port_number : (n : ℤ) (p : ℕ) → port_of n ≡ Ok p → n ≡ pos p
port_number (pos m) p h = elim (nat_le 1 m && nat_le m 65535) as (λ b. (if b then Ok m else Err Integer) ≡ Ok p → pos m ≡ pos p) [
  | true ↦ λ e. cc
  | false ↦ λ e. cc
] h
port_number (negsuc m) p h = cc

port_spells : (called : Name) (h w : List ℕ) → IsFollowing called → (n : ℤ) → w ≡ signed_decimal n → IfOk (with (port_of n) (λ p. Ok (node.ReplicaOf h p))) (NodeSpells called (h ∷ w ∷ []))
port_spells called h w c n e = elim (port_of n) as (λ r. port_of n ≡ r → IfOk (with r (λ p. Ok (node.ReplicaOf h p))) (NodeSpells called (h ∷ w ∷ []))) [
  | Ok p ↦ λ s. (c, (refl, (e ∙ ap signed_decimal (port_number n p s), tt)))
  | Err f ↦ λ s. tt
] refl

follow_spells : (called : Name) (h w : List ℕ) → IsFollowing called → IfOk (with (port w) (λ p. Ok (node.ReplicaOf h p))) (NodeSpells called (h ∷ w ∷ []))
follow_spells called h w c = elim (number_of w) as (λ x. number_of w ≡ x → IfOk (with (with (ok_or x Integer) port_of) (λ p. Ok (node.ReplicaOf h p))) (NodeSpells called (h ∷ w ∷ []))) [
  | None ↦ λ s. tt
  | Some n ↦ λ s. port_spells called h w c n (number_text w n s).0
] refl

pub replicaof_spells : (called : Name) → IsFollowing called → (ws : List (List ℕ)) → IfOk (replicaof called ws) (NodeSpells called ws)
replicaof_spells called c (h ∷ w ∷ []) = by_tests (bytes_eq (lowered h) no) (bytes_eq (lowered w) one) refl refl
  where
    by_tests : (a b : Bool) → bytes_eq (lowered h) no ≡ a → bytes_eq (lowered w) one ≡ b
        → IfOk (if a && b then Ok node.NoOne else with (port w) (λ p. Ok (node.ReplicaOf h p))) (NodeSpells called (h ∷ w ∷ []))
    by_tests true true s t = (c, (same_bytes _ _ s, (same_bytes _ _ t, tt)))
    by_tests true false s t = follow_spells called h w c
    by_tests false b s t = follow_spells called h w c
replicaof_spells called c _ = tt

pub multi_spells : (ws : List (List ℕ)) → IfOk (multi ws) (NodeSpells name.Multi ws)
multi_spells [] = (refl, tt)
multi_spells (w ∷ ws) = tt

pub exec_spells : (ws : List (List ℕ)) → IfOk (exec ws) (NodeSpells name.Exec ws)
exec_spells [] = (refl, tt)
exec_spells (w ∷ ws) = tt

pub discard_spells : (ws : List (List ℕ)) → IfOk (discard ws) (NodeSpells name.Discard ws)
discard_spells [] = (refl, tt)
discard_spells (w ∷ ws) = tt
