-- What a replica says of itself is spelled by its words, and read again.
use Rattle.std.proofs.Common.{ℕ, ◌≡◌, ◌<◌, List, [], ◌∷◌, length, map, Bool, true, false, ◌&&◌, Option, Some, None, refl, ◌∙◌, ap, arith}
use Rattle.std.specs.Prelude.{◌==◌, if◌then◌else◌, is_some}
use Rattle.std.specs.Str.{bytes_eq}
use Rattle.mr_bytes.proofs.Numbers.{same_bytes}
use Rattle.mr_arguments.specs.Names.{lowered}
use Rattle.mr_arguments.specs.Spelling.{AreParts}
use Rattle.mr_cmd_node.specs.Arguments.{ack}
use Rattle.mr_cmd_node.specs.Options.{all_tell, first_told, option_of, option_text, told, told_by}
use Rattle.mr_cmd_node.specs.Spelled.{told_parts}
use Rattle.mr_cmd_node.specs.declared.node_ask.ReplicaOption.{ReplicaOption}
use Rattle.mr_cmd_node.specs.declared.node_ask.ReplicaOption.TheVariants.{ListeningPort, IpAddress, Capability}

-- the option that is read is the one whose name the word is
pub option_is : (w : List ℕ) (o : ReplicaOption) → option_of w ≡ Some o → lowered w ≡ option_text o
option_is w o h = by_tests (bytes_eq (lowered w) (option_text ListeningPort)) (bytes_eq (lowered w) (option_text IpAddress)) (bytes_eq (lowered w) (option_text Capability)) refl refl refl h
  where
    named : (x : ReplicaOption) → bytes_eq (lowered w) (option_text x) ≡ true → Some x ≡ Some o → lowered w ≡ option_text o
    named x t e = let same : x ≡ o = cc in same_bytes _ _ t ∙ ap option_text same

    by_tests : (a b c : Bool) → bytes_eq (lowered w) (option_text ListeningPort) ≡ a → bytes_eq (lowered w) (option_text IpAddress) ≡ b → bytes_eq (lowered w) (option_text Capability) ≡ c
        → (if a then Some ListeningPort else (if b then Some IpAddress else (if c then Some Capability else None))) ≡ Some o → lowered w ≡ option_text o
    by_tests true b c s t u e = named ListeningPort s e
    by_tests false true c s t u e = named IpAddress t e
    by_tests false false true s t u e = named Capability u e
    by_tests false false false s t u e = cc

-- an option, of a word in lower case
abbrev named_option : List ℕ → Option ReplicaOption
named_option word =
    if bytes_eq word (option_text ListeningPort) then Some ListeningPort
    else (if bytes_eq word (option_text IpAddress) then Some IpAddress
    else (if bytes_eq word (option_text Capability) then Some Capability
    else None))

named_itself : (o : ReplicaOption) → named_option (option_text o) ≡ Some o
named_itself ListeningPort = refl
named_itself IpAddress = refl
named_itself Capability = refl

pub option_read : (w : List ℕ) (o : ReplicaOption) → lowered w ≡ option_text o → option_of w ≡ Some o
option_read w o e = ap named_option e ∙ named_itself o

-- no option is called ACK
no_ack : (o : ReplicaOption) → bytes_eq (option_text o) ack ≡ false
no_ack ListeningPort = refl
no_ack IpAddress = refl
no_ack Capability = refl

pub option_no_ack : (w : List ℕ) (o : ReplicaOption) → lowered w ≡ option_text o → bytes_eq (lowered w) ack ≡ false
option_no_ack w o e = ap (λ x. bytes_eq x ack) e ∙ no_ack o

pub told_spelled : (ws : List (List ℕ)) → all_tell ws ≡ true → AreParts ws (told_parts (told ws))
told_spelled [] h = tt
told_spelled (o ∷ []) h = cc
told_spelled (o ∷ v ∷ ws) h = elim (option_of o) as (λ x. option_of o ≡ x → is_some x && all_tell ws ≡ true → AreParts (o ∷ v ∷ ws) (told_parts (first_told x v (told ws)))) [
  | None ↦ λ s t. cc
  | Some x ↦ λ s t. (option_is o x s, (refl, told_spelled ws t))
] refl h

pub all_are_told : (ws : List (List ℕ)) (ts : List (ReplicaOption × List ℕ)) → AreParts ws (told_parts ts) → all_tell ws ≡ true
all_are_told [] [] h = refl
all_are_told [] (t ∷ ts) h = absurd h
all_are_told (o ∷ ws) [] h = absurd h
all_are_told (o ∷ []) (t ∷ ts) h = absurd h.1
all_are_told (o ∷ v ∷ ws) (t ∷ ts) h = ap (λ x. is_some x && all_tell ws) (option_read o t.0 h.0) ∙ all_are_told ws ts h.1.1

pub told_again : (ws : List (List ℕ)) (ts : List (ReplicaOption × List ℕ)) → AreParts ws (told_parts ts) → told ws ≡ ts
told_again [] [] h = refl
told_again [] (t ∷ ts) h = absurd h
told_again (o ∷ ws) [] h = absurd h
told_again (o ∷ []) (t ∷ ts) h = absurd h.1
told_again (o ∷ v ∷ ws) (t ∷ ts) h =
    let pair : List ℕ → ReplicaOption × List ℕ = λ y. (t.0, y) in
    ap (λ y. first_told y v (told ws)) (option_read o t.0 h.0)
    ∙ ap (λ (y : List ℕ). pair y ∷ told ws) h.1.0
    ∙ ap (λ (ys : List (ReplicaOption × List ℕ)). t ∷ ys) (told_again ws ts h.1.1)

pub told_by_again : (ws : List (List ℕ)) (ts : List (ReplicaOption × List ℕ)) → AreParts ws (told_parts ts) → told_by ws ≡ Some ts
told_by_again ws ts h =
    ap (λ (b : Bool). if b then Some (told ws) else None) (all_are_told ws ts h)
    ∙ ap (λ (xs : List (ReplicaOption × List ℕ)). Some xs) (told_again ws ts h)

-- one word alone is no option with a value
pub fewer_than_two : {X : Type 0} (f : X → List ℕ) (xs : List X) → length xs < 2 → (length xs == 0) ≡ all_tell (map f xs)
fewer_than_two f [] few = refl
fewer_than_two f (x ∷ []) few = refl
fewer_than_two f (x ∷ y ∷ xs) few = absurd (omega (arith, few))
