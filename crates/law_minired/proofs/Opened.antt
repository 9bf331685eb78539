-- What a transaction is, by the commands that begin it, go on in it and end it.
use Rattle.std.proofs.Common.{◌≡◌, ◌≤◌, ◌⊎◌, ℕ, inl, inr, List, [], ◌∷◌, Bool, true, false, not, Option, Some, None, Result, Ok, Err, length, refl, sym, ap, ◌∙◌, subst, arith}
use Rattle.std.specs.Prelude.{◌&&◌, if◌then◌else◌}
use Rattle.std.proofs.lemmas.Option.{same_Some}
use Rattle.mr_map.specs.Bytes.{Bytes}
use Rattle.mr_resp.specs.Request.{IsRequest}
use Rattle.mr_resp.specs.Usual.{usual}
use Rattle.mr_resp.proofs.OneAnswer.{one_words, not_empty}
use Rattle.mr_effect.specs.declared.effect.Effect.{Effect}
use Rattle.mr_keyspace.specs.Dataset.{Dataset}
use Rattle.mr_data.specs.Meaning.{apply_all}
use Rattle.mr_data.specs.declared.given.Given.{Given}
use Rattle.mr_groups.specs.Groups.{as_group, grown_text, group_texts}
use Rattle.mr_groups.specs.Folding.{apply_groups}
use Rattle.mr_arguments.specs.declared.fault.AskFault.{AskFault}
use Rattle.mr_cmd_server.specs.declared.server_ask.ServerAsk.TheVariants as server
use Rattle.mr_cmd_node.specs.declared.node_ask.NodeAsk.{NodeAsk}
use Rattle.mr_cmd_node.specs.declared.node_ask.NodeAsk.TheVariants as node
use Rattle.mr_ask.specs.Asks.{asked}
use Rattle.mr_ask.specs.declared.ask.Ask.{Ask}
use Rattle.mr_ask.specs.declared.ask.Ask.TheVariants as ask
use Rattle.mr_commands.specs.Requests.{closes, readonly}
use Rattle.mr_commands.specs.Writes.{writes}
use Rattle.mr_commands.specs.Transactions.{Coming, coming, coming_by, coming_of_ask}
use Rattle.mr_commands.specs.Transactions.Coming.{waits, marks, nests, drops, ends, quits}
use Rattle.law_protocol.specs.Language.{Request, Transaction}
use Rattle.law_protocol.specs.Language.Request.{Command, Empty, Quit}
use Rattle.law_minired.specs.Changes.{HasGroup, HasThen, Leads, LeadsTo}
use Rattle.law_minired.specs.Requests.{Kind, kind_by, kind_in, kind_of, within_kind, Asks}
use Rattle.law_minired.specs.Requests.Kind.{quit}
use Rattle.law_minired.specs.Requests.IsAsked.{by_words, by_nothing}
use Rattle.law_minired.specs.Transactions.{AsksNode, AsksToQuit, AreOfExec, OnlyExecHasEffects, MultiBegins, OnlyMultiBegins, AsksToEnd, ExecAndDiscardEnd, OnlyTheyEnd, GoesOn, OthersGoOn, WritesWaitAtMasters, WritesMarkAtReplicas, QuitIsHeard, AllElseIsCommand}
use Rattle.law_minired.proofs.Comings.{come_by}
use Rattle.law_minired.proofs.GoodGroups.{as_group_applied, as_group_texts}
use Rattle.law_minired.proofs.Planned.{sound_group}

-- what a request's words ask is asked by its text
asks_as : (wish : NodeAsk) (text : List ℕ) (words : List Bytes) → IsRequest usual text words → AsksNode wish text → asked words ≡ Ok (ask.Node wish)
asks_as wish text words request a = ap asked (one_words usual text words a.words request a.request) ∙ a.asks

none_some : {P : Type 0} (t : Transaction) → None ≡ Some t → P
none_some t e = absurd (cc)

-- ---- effects
module _ (room : ℕ) (t : Transaction) (text : List ℕ) (m : Dataset) (given : Given) (groups : List (List Effect)) where
  at_exec : AsksNode node.Exec text → t.marked ≡ false → HasGroup room t.queued m given groups → (groups ≡ []) ⊎ AreOfExec room t text m groups
  at_exec asks whole p = let s = sound_group room t.queued m given groups p in by_effects p.effects p.held p.as_one (s.fits (omega arith)) s.leads
    where
      by_effects : (es : List Effect) (held : Dataset) → groups ≡ as_group es → length (grown_text es) ≤ room → apply_all es m ≡ Some held → (groups ≡ []) ⊎ AreOfExec room t text m groups
      by_effects [] held is fits leads = inl is
      by_effects (e ∷ es) held is fits leads = inr (record {
        asks = asks;
        whole = whole;
        one = ap length is;
        fits = subst (λ (gs : List (List Effect)). length (group_texts gs) ≤ room) (sym is) (subst (λ (z : List ℕ). length z ≤ room) (sym (as_group_texts (e ∷ es))) fits);
        held = held;
        applied = ap (λ gs. apply_groups gs m) is ∙ as_group_applied (e ∷ es) m held leads;
      })

  by_coming : (words : List Bytes) → IsRequest usual text words → (c : Coming) → coming false words ≡ c → HasThen c room t m given groups → (groups ≡ []) ⊎ AreOfExec room t text m groups
  by_coming words request ends e (inl p) = inl p.1
  by_coming words request ends e (inr p) = at_exec (record { words = words; request = request; asks = come_by false words ends e }) p.0 p.1
  by_coming words request _ e p = inl p

pub only_exec : OnlyExecHasEffects
only_exec room t text m given groups p = by_coming room t text m given groups p.words p.request (coming false p.words) refl p.then

-- ---- what is open
pub multi_begins : MultiBegins
multi_begins master text new asks l =
    subst (λ (c : Coming). LeadsTo c None text new) (ap (coming_by (not master)) (asks_as node.Multi text l.words l.request asks)) l.to

pub only_multi : OnlyMultiBegins
only_multi master text t l = go (coming (not master) l.words) refl l.to
  where
    go : (c : Coming) → coming (not master) l.words ≡ c → LeadsTo c None text (Some t) → AsksNode node.Multi text
    go nests e p = record { words = l.words; request = l.request; asks = come_by (not master) l.words nests e }
    go _ e p = none_some t (sym p)

pub they_end : ExecAndDiscardEnd
they_end master t text new (inl asks) l =
    subst (λ (c : Coming). LeadsTo c (Some t) text new) (ap (coming_by (not master)) (asks_as node.Exec text l.words l.request asks)) l.to
they_end master t text new (inr asks) l =
    subst (λ (c : Coming). LeadsTo c (Some t) text new) (ap (coming_by (not master)) (asks_as node.Discard text l.words l.request asks)) l.to

pub only_they : OnlyTheyEnd
only_they master t text l = go (coming (not master) l.words) refl l.to
  where
    go : (c : Coming) → coming (not master) l.words ≡ c → LeadsTo c (Some t) text None → AsksToEnd text ⊎ AsksToQuit text
    go waits e p = none_some _ p
    go (marks reply) e p = none_some _ p
    go nests e p = none_some _ p
    go drops e p = inl (inr (record { words = l.words; request = l.request; asks = come_by (not master) l.words drops e }))
    go ends e p = inl (inl (record { words = l.words; request = l.request; asks = come_by (not master) l.words ends e }))
    go quits e p = inr (record { words = l.words; request = l.request; asks = come_by (not master) l.words quits e })

pub others_go_on : OthersGoOn
others_go_on master t s text l = go (coming (not master) l.words) refl l.to
  where
    go : (c : Coming) → coming (not master) l.words ≡ c → LeadsTo c (Some t) text (Some s) → GoesOn t text s
    go waits e p = let is = same_Some s _ p in GoesOn.waits (ap (λ (z : Transaction). z.queued) is) (ap (λ (z : Transaction). z.marked) is)
    go (marks reply) e p = let is = same_Some s _ p in GoesOn.marks (ap (λ (z : Transaction). z.queued) is) (ap (λ (z : Transaction). z.marked) is)
    go nests e p = GoesOn.nests (record { words = l.words; request = l.request; asks = come_by (not master) l.words nests e }) (same_Some s t p)
    go drops e p = none_some s (sym p)
    go ends e p = none_some s (sym p)
    go quits e p = none_some s (sym p)

-- ---- writes
refused_if : (replica : Bool) (command : Ask) → writes command ≡ true → (if replica && writes command then marks readonly else waits) ≡ (if replica then marks readonly else waits)
refused_if true command is = ap (λ b. if b then marks readonly else waits) is
refused_if false command is = refl

never_so : {P : Type 0} → false ≡ true → P
never_so e = absurd (cc)

write_comes : (replica : Bool) (command : Ask) → writes command ≡ true → coming_of_ask replica command ≡ (if replica then marks readonly else waits)
write_comes replica (ask.Texts c) is = refused_if replica (ask.Texts c) is
write_comes replica (ask.Keys c) is = refused_if replica (ask.Keys c) is
write_comes replica (ask.Hashes c) is = refused_if replica (ask.Hashes c) is
write_comes replica (ask.Lists c) is = refused_if replica (ask.Lists c) is
write_comes replica (ask.Sets c) is = refused_if replica (ask.Sets c) is
write_comes replica (ask.SortedSets c) is = refused_if replica (ask.SortedSets c) is
write_comes replica (ask.Server c) is = never_so is
write_comes replica (ask.Node c) is = never_so is

write_leads : (master : Bool) (t : Transaction) (text : List ℕ) (words : List Bytes) (command : Ask) (new : Option Transaction) → IsRequest usual text words → asked words ≡ Ok command → writes command ≡ true
    → Leads master (Some t) text new → LeadsTo (if not master then marks readonly else waits) (Some t) text new
write_leads master t text words command new request read is l =
    let same : asked l.words ≡ Ok command = ap asked (one_words usual text l.words words l.request request) ∙ read in
    subst (λ (c : Coming). LeadsTo c (Some t) text new) (ap (coming_by (not master)) same ∙ write_comes (not master) command is) l.to

pub writes_wait : WritesWaitAtMasters
writes_wait t text words command new request read is l = write_leads true t text words command new request read is l

pub writes_mark : WritesMarkAtReplicas
writes_mark t text words command new request read is l = write_leads false t text words command new request read is l

-- ---- what is asked
quit_kind : (r : Result Ask AskFault) → closes r ≡ true → kind_by r ≡ quit
quit_kind (Ok (ask.Server server.Quit)) e = refl
quit_kind (Ok _) e = absurd (cc)
quit_kind (Err f) e = absurd (cc)

quit_in : (n : Option Transaction) (words : List Bytes) → kind_of words ≡ quit → kind_in n words ≡ quit
quit_in None words e = e
quit_in (Some t) words e = ap within_kind e

pub quit_is_heard : QuitIsHeard
quit_is_heard n text request asks (by_words words is f) =
    let closing : closes (asked words) ≡ true = ap (λ ws. closes (asked ws)) (one_words usual text words asks.words is asks.request) ∙ asks.asks in
    subst (λ (k : Kind). Asks k request) (quit_in n words (quit_kind (asked words) closing)) f
quit_is_heard n text request asks (by_nothing none f) = absurd (not_empty usual text text [] [] asks.words asks.request none refl)

by_kind : (k : Kind) (request : Request (List ℕ)) → Asks (within_kind k) request → (request ≡ Command) ⊎ (request ≡ Quit) ⊎ (request ≡ Empty)
by_kind quit request f = inr (inl f)
by_kind _ request f = inl f

pub all_else : AllElseIsCommand
all_else t text request (by_words words is f) = by_kind (kind_of words) request f
all_else t text request (by_nothing none f) = inr (inr f)
