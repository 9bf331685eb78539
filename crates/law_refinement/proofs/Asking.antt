-- What words ask of a node, in the words of histories.
use Rattle.std.proofs.Common.{◌≡◌, ◌≢◌, ◌<◌, ◌≤◌, ◌⊎◌, ◌||◌, inl, inr, ℕ, ℤ, pos, negsuc, List, [], ◌∷◌, ◌++◌, Bool, true, false, not, Option, None, Some, Result, Ok, Err, length, codes, refl, sym, ap, subst, ◌∙◌, arith}
use Rattle.std.specs.Prelude.{is_some}
use Rattle.std.specs.List.{AllPass}
use Rattle.std.specs.Fmt.{decimal}
use Rattle.std.proofs.lemmas.Fmt.{decimal_injective}
use Rattle.std.proofs.lemmas.List.Elements.{All-nil, All-cons, All-head, All-tail}
use Rattle.std.proofs.lemmas.List.Sums.{AllPass-from_list_all}
use Rattle.mr_repl.specs.ReplId.{is_lower_digit}
use Rattle.mr_repl.proofs.IdTexts.{texts_are_forty}
use Rattle.mr_resp.specs.Replies.{Tree, error, reply_text}
use Rattle.mr_resp.specs.Command.{IsCommandText}
use Rattle.mr_resp.specs.Usual.{commands}
use Rattle.mr_resp.proofs.Digits.{AreDigits, decimal_digits}
use Rattle.mr_effect.specs.Spelling.{text, IsShort}
use Rattle.mr_effect.specs.declared.effect.Effect.{Effect}
use Rattle.mr_keyspace.specs.Dataset.{Dataset}
use Rattle.mr_data.specs.declared.given.Given.{Given}
use Rattle.mr_cmd_shared.specs.Answered.{done}
use Rattle.mr_arguments.specs.Faults.{fault_text}
use Rattle.mr_arguments.specs.declared.fault.AskFault.{AskFault}
use Rattle.mr_arguments.specs.declared.fault.AskFault.TheVariants.{Unknown}
use Rattle.mr_cmd_server.specs.Commands.{server_reply}
use Rattle.mr_cmd_server.specs.declared.server_ask.ServerAsk.{ServerAsk}
use Rattle.mr_cmd_server.specs.declared.server_ask.ServerAsk.TheVariants as server
use Rattle.mr_cmd_node.specs.declared.node_ask.NodeAsk.{NodeAsk}
use Rattle.mr_ask.specs.Asks.{asked}
use Rattle.mr_ask.specs.declared.ask.Ask.{Ask}
use Rattle.mr_ask.specs.declared.ask.Ask.TheVariants as ask
use Rattle.mr_commands.specs.Requests.{HasPlan, IsPlannedAs, is_quit, closes, rewriting_by, halting_by, question_by, left_by}
use Rattle.mr_peer_lines.specs.Bytes.{ends_line}
use Rattle.mr_peer_lines.specs.Lines.{status, refusal}
use Rattle.mr_peer_lines.specs.Replies.{IsReplyText}
use Rattle.mr_peer_lines.specs.declared.psync.PsyncReply.{PsyncReply}
use Rattle.mr_peer_lines.specs.declared.psync.PsyncReply.TheVariants as reply
use Rattle.mr_peer_lines.proofs.Answers.{IsIdOf}
use Rattle.mr_node_output.specs.Address.{AddressState}
use Rattle.mr_node_spec.specs.Sound.{ports}
use Rattle.mr_node_spec.specs.Served.{not_chained}
use Rattle.law_protocol.specs.Language.{Request}
use Rattle.law_protocol.specs.Language.Request.{Handshake, Psync, Ack, Command, ReplicaOfNoOne, ReplicaOf, Quit}
use Rattle.law_protocol.specs.Language.Line.{Plain, Refusal}
use Rattle.law_minired.specs.Lines.{Says}
use Rattle.law_minired.specs.Requests.{Kind, kind_by, kind_to_server, Asks, IsWanted, address}
use Rattle.law_minired.specs.Requests.Kind.{handshake, psync, ack, no_one, follow, quit, command}

-- ---- commands to the server that are answered by the node
abbrev pub is_special : Result Ask AskFault → Bool
is_special r = rewriting_by r || (halting_by r || is_some (question_by r))

abbrev pub Special : Result Ask AskFault → Type 0
Special r = (x : ServerAsk) × ((r ≡ Ok (ask.Server x)) × ((kind_to_server x ≡ command) × (is_quit (ask.Server x) ≡ false)))

special_server : (x : ServerAsk) → is_special (Ok (ask.Server x)) ≡ true → Special (Ok (ask.Server x))
special_server (server.Ping None) e = absurd (cc)
special_server (server.Ping (Some m)) e = absurd (cc)
special_server (server.Echo m) e = absurd (cc)
special_server server.Select e = absurd (cc)
special_server server.Quit e = absurd (cc)
special_server server.BgRewriteAof e = (server.BgRewriteAof, (refl, (refl, refl)))
special_server (server.Info section) e = (server.Info section, (refl, (refl, refl)))
special_server server.Role e = (server.Role, (refl, (refl, refl)))
special_server (server.Shutdown saving) e = (server.Shutdown saving, (refl, (refl, refl)))
special_server (server.Command arguments) e = absurd (cc)
special_server (server.ClientSetName label) e = absurd (cc)
special_server (server.ClientSetInfo attribute value) e = absurd (cc)

pub special : (r : Result Ask AskFault) → is_special r ≡ true → Special r
special (Err f) e = absurd (cc)
special (Ok (ask.Texts c)) e = absurd (cc)
special (Ok (ask.Keys c)) e = absurd (cc)
special (Ok (ask.Hashes c)) e = absurd (cc)
special (Ok (ask.Lists c)) e = absurd (cc)
special (Ok (ask.Sets c)) e = absurd (cc)
special (Ok (ask.SortedSets c)) e = absurd (cc)
special (Ok (ask.Server x)) e = special_server x e
special (Ok (ask.Node c)) e = absurd (cc)

pub or_second : (a b : Bool) → b ≡ true → (a || b) ≡ true
or_second true b e = refl
or_second false b e = e

-- such a request has a plan without effects
pub special_plan : (words : List (List ℕ)) (given : Given) (m : Dataset) (x : ServerAsk) → asked words ≡ Ok (ask.Server x) → is_quit (ask.Server x) ≡ false → HasPlan false m words given (server_reply x) []
special_plan words given m x e q = record {
  goes_on = ap closes e ∙ q;
  planned = record { planned = subst (λ (r : Result Ask AskFault). IsPlannedAs r false given m (server_reply x) []) (sym e) (record { reply_is = refl; effects_are = refl }) };
  leads = ap (λ (r : Result Ask AskFault). Some (left_by r false given m)) (sym e);
  texts = All-nil (λ e. IsCommandText commands (text e));
  short = All-nil IsShort;
}

-- A request to the node has one too, at a dataset, which knows no such command.
abbrev pub unknown : Tree
unknown = error (fault_text Unknown)

pub node_plan : (words : List (List ℕ)) (given : Given) (m : Dataset) (wish : NodeAsk) → asked words ≡ Ok (ask.Node wish) → HasPlan false m words given unknown []
node_plan words given m wish e = record {
  goes_on = ap closes e;
  planned = record { planned = subst (λ (r : Result Ask AskFault). IsPlannedAs r false given m unknown []) (sym e) (record { reply_is = refl; effects_are = refl }) };
  leads = ap (λ (r : Result Ask AskFault). Some (left_by r false given m)) (sym e);
  texts = All-nil (λ e. IsCommandText commands (text e));
  short = All-nil IsShort;
}

-- ---- all others
abbrev pub PlainKind : Result Ask AskFault → Type 0
PlainKind r = (kind_by r ≡ command) ⊎ (r ≡ Ok (ask.Server (server.Ping None)))

plain_server : (x : ServerAsk) → is_quit (ask.Server x) ≡ false → PlainKind (Ok (ask.Server x))
plain_server (server.Ping None) e = inr refl
plain_server (server.Ping (Some m)) e = inl refl
plain_server (server.Echo m) e = inl refl
plain_server server.Select e = inl refl
plain_server server.Quit e = absurd (cc)
plain_server server.BgRewriteAof e = inl refl
plain_server (server.Info section) e = inl refl
plain_server server.Role e = inl refl
plain_server (server.Shutdown saving) e = inl refl
plain_server (server.Command arguments) e = inl refl
plain_server (server.ClientSetName label) e = inl refl
plain_server (server.ClientSetInfo attribute value) e = inl refl

pub plain_kind : (r : Result Ask AskFault) → ((wish : NodeAsk) → r ≡ Ok (ask.Node wish) → ⊥) → closes r ≡ false → PlainKind r
plain_kind (Err f) n e = inl refl
plain_kind (Ok (ask.Texts c)) n e = inl refl
plain_kind (Ok (ask.Keys c)) n e = inl refl
plain_kind (Ok (ask.Hashes c)) n e = inl refl
plain_kind (Ok (ask.Lists c)) n e = inl refl
plain_kind (Ok (ask.Sets c)) n e = inl refl
plain_kind (Ok (ask.SortedSets c)) n e = inl refl
plain_kind (Ok (ask.Server x)) n e = plain_server x e
plain_kind (Ok (ask.Node c)) n e = absurd (n c refl)

-- what asks that a link be closed is QUIT
pub quit_kind : (r : Result Ask AskFault) → closes r ≡ true → kind_by r ≡ quit
quit_kind (Err f) e = absurd (cc)
quit_kind (Ok (ask.Texts c)) e = absurd (cc)
quit_kind (Ok (ask.Keys c)) e = absurd (cc)
quit_kind (Ok (ask.Hashes c)) e = absurd (cc)
quit_kind (Ok (ask.Lists c)) e = absurd (cc)
quit_kind (Ok (ask.Sets c)) e = absurd (cc)
quit_kind (Ok (ask.SortedSets c)) e = absurd (cc)
quit_kind (Ok (ask.Node c)) e = absurd (cc)
quit_kind (Ok (ask.Server x)) e = go x e
  where
    go : (x : ServerAsk) → is_quit (ask.Server x) ≡ true → kind_to_server x ≡ quit
    go (server.Ping None) e = absurd (cc)
    go (server.Ping (Some m)) e = absurd (cc)
    go (server.Echo m) e = absurd (cc)
    go server.Select e = absurd (cc)
    go server.Quit e = refl
    go server.BgRewriteAof e = absurd (cc)
    go (server.Info section) e = absurd (cc)
    go server.Role e = absurd (cc)
    go (server.Shutdown saving) e = absurd (cc)
    go (server.Command arguments) e = absurd (cc)
    go (server.ClientSetName label) e = absurd (cc)
    go (server.ClientSetInfo attribute value) e = absurd (cc)

-- PING's plan
pub ping_plan : (words : List (List ℕ)) (replica : Bool) (given : Given) (m : Dataset) (reply : Tree) (effects : List Effect) → asked words ≡ Ok (ask.Server (server.Ping None)) → HasPlan replica m words given reply effects
    → (reply ≡ server_reply (server.Ping None)) × (effects ≡ [])
ping_plan words replica given m reply effects e p = go replica (subst (λ (r : Result Ask AskFault). IsPlannedAs r replica given m reply effects) e p.planned.planned)
  where
    go : (b : Bool) → IsPlannedAs (Ok (ask.Server (server.Ping None))) b given m reply effects → (reply ≡ server_reply (server.Ping None)) × (effects ≡ [])
    go true h = (h.0, h.1)
    go false h = (h.reply_is, h.effects_are)

-- ---- what PSYNC wants
all_or : (p : ℕ → Bool) (xs : List ℕ) → AllPass p xs ⊎ (AllPass p xs → ⊥)
all_or p [] = inl (All-nil (λ x. p x ≡ true))
all_or p (x ∷ xs) = go (all_or p xs) (p x) refl
  where
    go : AllPass p xs ⊎ (AllPass p xs → ⊥) → (b : Bool) → p x ≡ b → AllPass p (x ∷ xs) ⊎ (AllPass p (x ∷ xs) → ⊥)
    go (inl h) true e = inl (All-cons (λ y. p y ≡ true) x xs e h)
    go (inr n) true e = inr (λ h. n (All-tail (λ y. p y ≡ true) x xs h))
    go r false e = inr (λ h. let t : p x ≡ true = All-head (λ y. p y ≡ true) x xs h in let w : false ≡ true = sym e ∙ t in cc)

length_or : (a c : ℕ) → (a ≡ c) ⊎ (a ≢ c)
length_or a c = grind arith

id_or : (x : List ℕ) → IsIdOf x ⊎ (IsIdOf x → ⊥)
id_or x = go (length_or (length x) 40) (all_or is_lower_digit x)
  where
    go : (length x ≡ 40) ⊎ (length x ≢ 40) → AllPass is_lower_digit x ⊎ (AllPass is_lower_digit x → ⊥) → IsIdOf x ⊎ (IsIdOf x → ⊥)
    go (inl l) (inl d) = inl ((texts_are_forty x).0 (record { long = l; digits = d }))
    go (inr n) d = inr (λ h. n ((texts_are_forty x).1 h).long)
    go (inl l) (inr n) = inr (λ h. n ((texts_are_forty x).1 h).digits)

pub wanted_or : (t : List ℕ) (z : ℤ) → (q : Option (List ℕ × ℕ)) × IsWanted t z q
wanted_or t z = go (id_or t) z
  where
    go : IsIdOf t ⊎ (IsIdOf t → ⊥) → (z : ℤ) → (q : Option (List ℕ × ℕ)) × IsWanted t z q
    go (inl i) (pos n) = (Some (i.0, n), record { is_id = i.1; id_is = sym i.2; offset_is = refl })
    go (inl i) (negsuc n) = (None, λ id o w. let e : negsuc n ≡ pos o = w.offset_is in absurd (cc))
    go (inr n) z = (None, λ id o w. n (id, w.is_id, sym w.id_is))

-- each kind asks something
unfoldable pub asks_some : (k : Kind) → (r : Request (List ℕ)) × Asks k r
asks_some handshake = (Handshake, refl)
asks_some (psync id wanted) = let q = wanted_or id wanted in (Psync q.0, (q.0, q.1, refl))
asks_some ack = (Ack, refl)
asks_some no_one = (ReplicaOfNoOne, refl)
asks_some (follow host port) = (ReplicaOf (address host port), refl)
asks_some quit = (Quit, refl)
asks_some command = (Command, refl)

-- ---- addresses
cons_is : (a b : ℕ) (x y : List ℕ) → a ∷ x ≡ b ∷ y → (a ≡ b) × (x ≡ y)
cons_is a b x y e = (cc, cc)

no_space : (d g e : List ℕ) → AreDigits d → d ≡ g ++ 32 ∷ e → ⊥
no_space [] [] e h q = absurd (cc)
no_space [] (y ∷ g) e h q = absurd (cc)
no_space (x ∷ d) [] e h q = let low = (All-head (λ d. (48 ≤ d) × (d ≤ 57)) x d h).0 in let same = (cons_is x 32 d e q).0 in omega (arith, low, same)
no_space (x ∷ d) (y ∷ g) e h q = no_space d g e (All-tail (λ d. (48 ≤ d) × (d ≤ 57)) x d h) (cons_is x y d (g ++ 32 ∷ e) q).1

last_space : (h g d e : List ℕ) → AreDigits d → AreDigits e → h ++ 32 ∷ d ≡ g ++ 32 ∷ e → (h ≡ g) × (d ≡ e)
last_space [] [] d e p q same = (refl, (cons_is 32 32 d e same).1)
last_space [] (y ∷ g) d e p q same = absurd (no_space d g e p (cons_is 32 y d (g ++ 32 ∷ e) same).1)
last_space (x ∷ h) [] d e p q same = absurd (no_space e h d q (sym (cons_is x 32 (h ++ 32 ∷ d) e same).1))
last_space (x ∷ h) (y ∷ g) d e p q same =
    let both = cons_is x y (h ++ 32 ∷ d) (g ++ 32 ∷ e) same in
    let rest = last_space h g d e p q both.1 in
    (ap (λ z. z ∷ h) both.0 ∙ ap (λ z. y ∷ z) rest.0, rest.1)

pub one_address : (a c : AddressState) → a.port < ports → c.port < ports → address a.host a.port ≡ address c.host c.port → a ≡ c
one_address a c p q e =
    let both = last_space a.host c.host (decimal a.port) (decimal c.port) (decimal_digits a.port (omega (arith, p))) (decimal_digits c.port (omega (arith, q))) e in
    let port = decimal_injective a.port c.port (omega (arith, p)) (omega (arith, q)) both.1 in
    ap (λ z. record { host = z; port = a.port }) both.0 ∙ ap (λ z. record { host = c.host; port = z }) port

-- ---- what is said to one who asks
abbrev first : List ℕ → ℕ
first [] = 0
first (a ∷ rest) = a

no_answer : (t : List ℕ) → first t ≢ 70 → first t ≢ 67 → (r : PsyncReply) → IsReplyText t r → ⊥
no_answer t n m (reply.FullResync id o) h = n (ap first h.1)
no_answer t n m (reply.Continue id) h = m (ap first h.1)

pub says_ok : Says (reply_text done) Plain
says_ok = record {
  said = status (codes "OK");
  whole = record { front = 43 ∷ codes "OK"; whole = record { ended = refl; marked = refl; plain = AllPass-from_list_all (λ b. not (ends_line b)) (43 ∷ codes "OK") refl; short = omega arith }; says = refl };
  means = no_answer (codes "OK") (λ e. absurd (omega (arith, e))) (λ e. absurd (omega (arith, e)));
}

pub says_pong : Says (reply_text (server_reply (server.Ping None))) Plain
says_pong = record {
  said = status (codes "PONG");
  whole = record { front = 43 ∷ codes "PONG"; whole = record { ended = refl; marked = refl; plain = AllPass-from_list_all (λ b. not (ends_line b)) (43 ∷ codes "PONG") refl; short = omega arith }; says = refl };
  means = no_answer (codes "PONG") (λ e. absurd (omega (arith, e))) (λ e. absurd (omega (arith, e)));
}

pub says_not_chained : Says (reply_text not_chained) Refusal
says_not_chained = record {
  said = refusal (codes "ERR replicas are not chained");
  whole = record {
    front = 45 ∷ codes "ERR replicas are not chained";
    whole = record { ended = refl; marked = refl; plain = AllPass-from_list_all (λ b. not (ends_line b)) (45 ∷ codes "ERR replicas are not chained") refl; short = omega arith };
    says = refl;
  };
  means = tt;
}
