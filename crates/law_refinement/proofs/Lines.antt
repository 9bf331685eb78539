-- What a replica sends its master asks what it should.
use Rattle.std.proofs.Common.{◌≡◌, ◌+◌, ◌*◌, ◌<◌, ◌≤◌, inl, ℕ, ℤ, pos, negsuc, List, [], ◌∷◌, ◌++◌, IsTrue, Option, None, Some, Ok, length, length-append, codes, refl, sym, ap, subst, arith, lit<, All}
use Rattle.std.proofs.lemmas.Bool.Decides.{nat_tests}
use Rattle.std.specs.Fmt.{decimal}
use Rattle.std.specs.List.{flat_map}
use Rattle.std.specs.Option.{ok_or}
use Rattle.std.proofs.lemmas.Fmt.{length-decimal-le, decimal_digit}
use Rattle.std.proofs.lemmas.List.Elements.{All-nil, All-cons}
use Rattle.mr_bytes.specs.Number.{number_of, is_i64}
use Rattle.mr_bytes.proofs.Numbers.{number_is}
use Rattle.mr_repl.specs.Backlog.{offset_limit}
use Rattle.mr_arguments.specs.Names.{named}
use Rattle.mr_arguments.specs.Parts.{with}
use Rattle.mr_arguments.specs.declared.fault.AskFault.TheVariants.{Integer}
use Rattle.mr_resp.specs.Usual.{usual, usual-word, usual-words, usual-text}
use Rattle.mr_resp.specs.Spelling.{array, bulk, number_line}
use Rattle.mr_repl.specs.ReplId.{IsId, digits_of}
use Rattle.mr_cmd_node.specs.declared.node_ask.NodeAsk.TheVariants as node
use Rattle.mr_ask.specs.Asks.{of_kind}
use Rattle.mr_ask.specs.declared.ask.Ask.TheVariants as ask
use Rattle.law_protocol.specs.Language.{Request}
use Rattle.law_protocol.specs.Language.Request.{Handshake, Psync}
use Rattle.law_minired.specs.Requests.{kind_of, kind_by, Asks, IsAsked}
use Rattle.law_minired.specs.Requests.Kind.{psync}
use Rattle.law_minired.specs.Requests.IsAsked.{by_words}
use Rattle.law_minired.proofs.Ids.{forty}
use Rattle.mr_follower.specs.Handshake.{ping_line, port_line, capabilities_line, psync_line}
use Rattle.mr_node_spec.specs.Sound.{ports}

-- each word has less than 100 bytes
abbrev pub AreShort : List (List ℕ) → Type 0
AreShort [] = Unit {0}
AreShort (w ∷ ws) = (length w < 100) × AreShort ws

pub short_number : (n : ℕ) → n < 100 → length (number_line n) ≤ 9
short_number n h =
    let d = length-decimal-le 7 n (lit< tt) (omega (arith, h)) (omega (arith, h)) in
    let a = length-append (decimal n) (13 ∷ 10 ∷ []) in
    omega (arith, d, a)

pub short_bulk : (w : List ℕ) → length w < 100 → length (bulk w) ≤ 112
short_bulk w h =
    let n = short_number (length w) h in
    let a = length-append (number_line (length w)) (w ++ 13 ∷ 10 ∷ []) in
    let b = length-append w (13 ∷ 10 ∷ []) in
    omega (arith, h, n, a, b)

pub short_bulks : (ws : List (List ℕ)) → AreShort ws → length (flat_map bulk ws) ≤ 112 * length ws
short_bulks [] h = omega arith
short_bulks (w ∷ ws) h =
    let a = short_bulk w h.0 in
    let b = short_bulks ws h.1 in
    let c = length-append (bulk w) (flat_map bulk ws) in
    omega (arith, a, b, c)

pub each_fits : (ws : List (List ℕ)) → AreShort ws → All (λ word. length word ≤ usual.word) ws
each_fits [] h = All-nil (λ word. length word ≤ usual.word)
each_fits (w ∷ ws) h = let a = h.0 in All-cons (λ word. length word ≤ usual.word) w ws (omega (arith, a, usual-word)) (each_fits ws h.1)

-- a few short words
asks_short : (ws : List (List ℕ)) (r : Request (List ℕ)) → 0 < length ws → length ws < 10 → AreShort ws → Asks (kind_of ws) r → IsAsked None (array ws) r
asks_short ws r some few each asks = by_words ws (inl (record {
  spelled = refl;
  some = some;
  count = omega (arith, few, usual-words);
  each = each_fits ws each;
  size =
      let n = short_number (length ws) (omega (arith, few)) in
      let b = short_bulks ws each in
      let c = length-append (number_line (length ws)) (flat_map bulk ws) in
      omega (arith, few, n, b, c, usual-text);
})) asks

pub ping_asks : IsAsked None ping_line Handshake
unfolding named
ping_asks = asks_short (codes "PING" ∷ []) Handshake (omega arith) (omega arith) (lit< tt, tt) refl

pub port_asks : (port : ℕ) → port < ports → IsAsked None (port_line port) Handshake
unfolding named
port_asks port h = asks_short (codes "REPLCONF" ∷ codes "listening-port" ∷ decimal port ∷ []) Handshake (omega arith) (omega arith)
    (lit< tt, (lit< tt, (let d = length-decimal-le 7 port (lit< tt) (omega (arith, h)) (omega (arith, h)) in omega (arith, d), tt))) refl

pub capabilities_ask : IsAsked None capabilities_line Handshake
unfolding named
capabilities_ask = asks_short (codes "REPLCONF" ∷ codes "capa" ∷ codes "eof" ∷ codes "capa" ∷ codes "psync2" ∷ []) Handshake (omega arith) (omega arith)
    (lit< tt, (lit< tt, (lit< tt, (lit< tt, (lit< tt, tt))))) refl

-- the kind of PSYNC with this id and this number
wants_kind : (id number : List ℕ) (n : ℤ) → number_of number ≡ Some n → kind_of (codes "PSYNC" ∷ id ∷ number ∷ []) ≡ psync id n
unfolding named
wants_kind id number n e = ap (λ (x : Option ℤ). kind_by (of_kind ask.Node (with (ok_or x Integer) (λ wanted. Ok (node.Psync id wanted))))) e

pub psync_asks : (id : List ℕ) (o : ℕ) → IsId id → o ≤ offset_limit → IsAsked None (psync_line (Some (id, o))) (Psync (Some (id, o + 1)))
psync_asks id o is few = asks_short (codes "PSYNC" ∷ digits_of id ∷ decimal (o + 1) ∷ []) (Psync (Some (id, o + 1))) (omega arith) (omega arith)
    (lit< tt, (let l = forty id is in omega (arith, l), (let d = length-decimal-le 20 (o + 1) (lit< tt) (omega (arith, few)) (omega (arith, few)) in omega (arith, d), tt)))
    (subst (λ k. Asks k (Psync (Some (id, o + 1)))) (sym (wants_kind (digits_of id) (decimal (o + 1)) (pos (o + 1)) (number_is (decimal (o + 1)) (pos (o + 1)) (fits o few) refl)))
    (Some (id, o + 1), record { is_id = is; id_is = refl; offset_is = refl }, refl))
  where
    fits : (n : ℕ) → n ≤ offset_limit → IsTrue (is_i64 (pos (n + 1)))
    fits n few = grind (arith, nat_tests, few)

-- where there is nothing to continue
pub psync_all_asks : IsAsked None (psync_line None) (Psync None)
psync_all_asks = asks_short (codes "PSYNC" ∷ codes "?" ∷ codes "-1" ∷ []) (Psync None) (omega arith) (omega arith) (lit< tt, (lit< tt, (lit< tt, tt)))
    (subst (λ k. Asks k (Psync None)) (sym (wants_kind (codes "?") (codes "-1") (negsuc 0) (number_is (codes "-1") (negsuc 0) refl (ap (λ z. 45 ∷ z) (sym (decimal_digit 1 (lit< tt)))))))
    (None, λ id o w. long id w.is_id w.id_is, refl))
  where
    long : (id : List ℕ) → IsId id → codes "?" ≡ digits_of id → ⊥
    long id is e = let a : 1 ≡ length (digits_of id) = ap length e in let b = forty id is in omega (arith, a, b)
