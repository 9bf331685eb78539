-- Words that spell a command to the node are read as it.
use Rattle.std.proofs.Common.{ℕ, ℤ, pos, ◌<◌, ◌≤◌, ◌^◌, ◌≡◌, ◌≢◌, List, [], ◌∷◌, length, get_or, decimal, Bool, true, false, ◌&&◌, Some, None, refl, sym, ◌∙◌, ap, subst, arith}
use Rattle.std.specs.Prelude.{if◌then◌else◌, IsTrue, nat_le, Result, Ok, Err}
use Rattle.std.specs.Fmt.{signed_decimal}
use Rattle.std.specs.Option.{ok_or}
use Rattle.std.specs.Str.{bytes_eq}
use Rattle.std.proofs.lemmas.Bool.Decides.{nat_tests}
use Rattle.mr_bytes.specs.Number.{is_i64}
use Rattle.mr_bytes.proofs.Numbers.{bounds, digit, each_is_digit, number_is, same_bytes}
use Rattle.mr_arguments.specs.Names.{lowered, lowered_byte}
use Rattle.mr_arguments.specs.Parts.{with, integer}
use Rattle.mr_arguments.specs.Spelling.{Part, Word, Number, Keyword, AreParts, IsPart}
use Rattle.mr_arguments.proofs.ReadLemmas.{integer_is, keyword_is, two_parts, with_read}
use Rattle.mr_arguments.specs.declared.name.Name.{Name}
use Rattle.mr_arguments.specs.declared.name.Name.TheVariants as name
use Rattle.mr_arguments.specs.declared.fault.AskFault.{AskFault}
use Rattle.mr_arguments.specs.declared.fault.AskFault.TheVariants.{Integer, Syntax}
use Rattle.mr_cmd_node.specs.Askable.{NodeIsAskable}
use Rattle.mr_cmd_node.specs.Arguments.{psync, replconf, replicaof, acknowledgement, telling, ack, no, one, is_no_one, port, port_of}
use Rattle.mr_cmd_node.specs.Options.{option_text}
use Rattle.mr_cmd_node.specs.Spelled.{told_parts}
use Rattle.mr_cmd_node.specs.declared.node_ask.ReplicaOption.{ReplicaOption}
use Rattle.mr_cmd_node.specs.declared.node_ask.NodeAsk.{NodeAsk}
use Rattle.mr_cmd_node.specs.declared.node_ask.NodeAsk.TheVariants as node
use Rattle.mr_cmd_node.proofs.ToldLemmas.{option_no_ack, told_by_again}

pub psync_read : (id : List ℕ) (wanted : ℤ) (ws : List (List ℕ)) → IsTrue (is_i64 wanted) → AreParts ws (Word id ∷ Number wanted ∷ []) → psync ws ≡ Ok (node.Psync id wanted)
psync_read id wanted ws fits s =
    two_parts (λ xs. psync xs ≡ Ok (node.Psync id wanted)) (Word id) (Number wanted)
    (λ a b ea eb. with_read (integer b) wanted (λ n. Ok (node.Psync a n)) (integer_is b wanted fits eb) ∙ ap (λ (x : List ℕ). Ok (node.Psync x wanted)) ea) ws s

pub ack_read : (offset : ℤ) (ws : List (List ℕ)) → IsTrue (is_i64 offset) → AreParts ws (Keyword ack ∷ Number offset ∷ []) → replconf ws ≡ Ok (node.Ack offset)
ack_read offset ws fits s =
    two_parts (λ xs. replconf xs ≡ Ok (node.Ack offset)) (Keyword ack) (Number offset)
    (λ a b ea eb.
    ap (λ (x : Bool). if x then acknowledgement b else telling (a ∷ b ∷ [])) (keyword_is a ack ea)
    ∙ ap (λ o. with (ok_or o Syntax) (λ n. Ok (node.Ack n))) (number_is b offset fits eb)) ws s

telling_read : (ws : List (List ℕ)) (ts : List (ReplicaOption × List ℕ)) → AreParts ws (told_parts ts) → telling ws ≡ Ok (node.ReplConf ts)
telling_read ws ts s = ap (λ o. with (ok_or o Syntax) (λ t. Ok (node.ReplConf t))) (told_by_again ws ts s)

pub told_read : (ts : List (ReplicaOption × List ℕ)) (ws : List (List ℕ)) → ts ≢ [] → AreParts ws (told_parts ts) → replconf ws ≡ Ok (node.ReplConf ts)
told_read [] ws some s = absurd (some refl)
told_read (t ∷ ts) [] some s = absurd s
told_read (t ∷ ts) (o ∷ []) some s = telling_read (o ∷ []) (t ∷ ts) s
told_read (t ∷ ts) (o ∷ v ∷ []) some s =
    ap (λ (x : Bool). if x then acknowledgement v else telling (o ∷ v ∷ [])) (option_no_ack o t.0 s.0) ∙ telling_read (o ∷ v ∷ []) (t ∷ ts) s
told_read (t ∷ ts) (o ∷ v ∷ w ∷ ws) some s = telling_read (o ∷ v ∷ w ∷ ws) (t ∷ ts) s

-- a number isn't the word ONE
first_lowered : (w : List ℕ) → get_or (lowered w) 0 0 ≡ lowered_byte (get_or w 0 0)
first_lowered [] = refl
first_lowered (b ∷ bs) = refl

digit_lowered : (b : ℕ) → 48 ≤ b → b ≤ 57 → lowered_byte b ≡ b
digit_lowered b low high = grind (arith, nat_tests, low, high)

no_number : (n : ℕ) → n ≤ 65535 → lowered (decimal n) ≡ one → ⊥
no_number n small e =
    let some = (bounds n (omega (arith, small))).0 in
    let d = digit (get_or (decimal n) 0 0) (each_is_digit n 0 (omega (arith, small)) some) in
    let first : get_or (decimal n) 0 0 ≡ 111 = sym (digit_lowered (get_or (decimal n) 0 0) d.1 d.2) ∙ sym (first_lowered (decimal n)) ∙ ap (λ w. get_or w 0 0) e in
    omega (arith, first, d.2)

number_not_one : (w : List ℕ) (n : ℕ) → n ≤ 65535 → w ≡ signed_decimal (pos n) → bytes_eq (lowered w) one ≡ false
number_not_one w n small e = elim (bytes_eq (lowered w) one) as (λ b. bytes_eq (lowered w) one ≡ b → b ≡ false) [
  | true ↦ λ t. absurd (no_number n small (ap lowered (sym e) ∙ same_bytes _ _ t))
  | false ↦ λ t. refl
] refl

and_false : (a b : Bool) → b ≡ false → a && b ≡ false
and_false true b e = e
and_false false b e = refl

port_in : (n : ℕ) → 1 ≤ n → n ≤ 65535 → port_of (pos n) ≡ Ok n
port_in n low high = let tests : nat_le 1 n && nat_le n 65535 ≡ true = grind (arith, nat_tests, low, high) in ap (λ (b : Bool). if b then Ok n else Err Integer) tests

pub following_read : (called : Name) (host : List ℕ) (n : ℕ) (ws : List (List ℕ)) → (1 ≤ n) × (n ≤ 65535) → AreParts ws (Word host ∷ Number (pos n) ∷ []) → replicaof called ws ≡ Ok (node.ReplicaOf host n)
following_read called host n ws h s =
    two_parts (λ xs. replicaof called xs ≡ Ok (node.ReplicaOf host n)) (Word host) (Number (pos n))
    (λ a b ea eb.
    let small : n < 2 ^ 63 = omega (arith, h.1) in
    let fits : IsTrue (is_i64 (pos n)) = grind (arith, nat_tests, small) in
    ap (λ (x : Bool). if x then Ok node.NoOne else with (port b) (λ p. Ok (node.ReplicaOf a p))) (and_false (bytes_eq (lowered a) no) _ (number_not_one b n h.1 eb))
    ∙ ap (λ r. with (with r port_of) (λ p. Ok (node.ReplicaOf a p))) (integer_is b (pos n) fits eb)
    ∙ ap (λ r. with r (λ p. Ok (node.ReplicaOf a p))) (port_in n h.0 h.1)
    ∙ ap (λ (x : List ℕ). Ok (node.ReplicaOf x n)) ea) ws s

both_true : (a b : Bool) → a ≡ true → b ≡ true → a && b ≡ true
both_true true b e f = f
both_true false b e f = cc

pub no_one_read : (called : Name) (ws : List (List ℕ)) → AreParts ws (Keyword no ∷ Keyword one ∷ []) → replicaof called ws ≡ Ok node.NoOne
no_one_read called ws s =
    two_parts (λ xs. replicaof called xs ≡ Ok node.NoOne) (Keyword no) (Keyword one)
    (λ a b ea eb. ap (λ (x : Bool). if x then Ok node.NoOne else with (port b) (λ p. Ok (node.ReplicaOf a p))) (both_true _ _ (keyword_is a no ea) (keyword_is b one eb))) ws s
