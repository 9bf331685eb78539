-- The effects of a plan lead somewhere, and their texts are command texts.
use Rattle.std.proofs.Common.{◌≡◌, List, [], Bool, true, false, Some, ◌∙◌, ap, refl, sym, subst}
use Rattle.std.specs.Prelude.{Result, Ok, Err, IfOk}
use Rattle.std.proofs.lemmas.List.Elements.{All-same, All-nil}
use Rattle.std.specs.Prelude.{ℤ}
use Rattle.mr_resp.specs.Replies.{Tree}
use Rattle.mr_resp.specs.Command.{IsCommandText}
use Rattle.mr_resp.specs.Usual.{commands}
use Rattle.mr_keyspace.specs.Dataset.{Dataset}
use Rattle.mr_data.specs.Meaning.{apply_all}
use Rattle.mr_effect.specs.Spelling.{text, IsShort}
use Rattle.mr_effect.specs.declared.effect.Effect.{Effect}
use Rattle.mr_data.specs.declared.given.Given.{Given}
use Rattle.mr_ask.specs.Carried.{AskFits}
use Rattle.mr_ask.specs.declared.ask.Ask.{Ask}
use Rattle.mr_commands.specs.PlannedCommands.{command_of}
use Rattle.mr_commands.specs.Requests.{AreSent, IsPlannedAs, Leads, is_rewriting, is_shutdown, left_by, question_asked, replica_reply}
use Rattle.mr_ask.specs.declared.ask.Ask.TheVariants as ask
use Rattle.mr_cmd_server.specs.declared.server_ask.ServerAsk.TheVariants as server
use Rattle.mr_cmd_server.specs.declared.question.Question.{Question}
use Rattle.mr_commands.specs.declared.requests.Answer.{Answer}
use Rattle.mr_cmd_shared.specs.Commands.{Command, effects, after, IsPlan, IsFaithful, HasCommandTexts}

pub planned_leads : (c : Command) (now : ℤ) (m : Dataset) (r : Tree) (list : List Effect) → IsPlan c now m r list → IsFaithful c now m → apply_all list m ≡ Some (after c now m)
planned_leads c now m r list p f = ap (λ (xs : List Effect). apply_all xs m) p.effects_are ∙ f.leads

pub planned_texts : (c : Command) (now : ℤ) (m : Dataset) (r : Tree) (list : List Effect) → IsPlan c now m r list → HasCommandTexts c now m → AreSent list
planned_texts c now m r list p h = record {
  texts = All-same (λ e. IsCommandText commands (text e)) list (effects c now m) p.effects_are h.each;
  short = All-same IsShort list (effects c now m) p.effects_are h.short;
}

-- a master's plan is the command's
pub on_master : (replica : Bool) (a : Ask) (given : Given) (m : Dataset) (reply : Tree) (es : List Effect) → replica ≡ false → IsPlan (command_of a given) given.now m reply es → IsPlannedAs (Ok a) replica given m reply es
on_master replica a given m reply es is p = subst (λ b. IsPlannedAs (Ok a) b given m reply es) (sym is) p

pub leads_on_master : (replica : Bool) (a : Ask) (given : Given) (m : Dataset) (reply : Tree) (es : List Effect) → replica ≡ false → IsPlan (command_of a given) given.now m reply es → IsFaithful (command_of a given) given.now m
    → apply_all es m ≡ Some (left_by (Ok a) replica given m)
leads_on_master replica a given m reply es is p f = planned_leads (command_of a given) given.now m reply es p f ∙ ap (λ b. Some (left_by (Ok a) b given m)) (sym is)

-- a replica only answers
pub on_replica : (replica : Bool) (a : Ask) (given : Given) (m : Dataset) (reply : Tree) (es : List Effect) → replica ≡ true → reply ≡ replica_reply a given m → es ≡ [] → IsPlannedAs (Ok a) replica given m reply es
on_replica replica a given m reply es is r none = subst (λ b. IsPlannedAs (Ok a) b given m reply es) (sym is) (r, none)

pub leads_on_replica : (replica : Bool) (a : Ask) (given : Given) (m : Dataset) (es : List Effect) → replica ≡ true → es ≡ [] → apply_all es m ≡ Some (left_by (Ok a) replica given m)
leads_on_replica replica a given m es is none = ap (λ (xs : List Effect). apply_all xs m) none ∙ ap (λ b. Some (left_by (Ok a) b given m)) (sym is)

pub no_texts : (es : List Effect) → es ≡ [] → AreSent es
no_texts es none = subst AreSent (sym none) (record { texts = All-nil (λ e. IsCommandText commands (text e)); short = All-nil IsShort })

-- what holds of the command that words are holds of the words
pub with_fits : {E : Type 0} (r : Result Answer E) (a : Ask) (A : Type 0) (m n p : Dataset) → n ≡ p → (A → AskFits a) → IfOk r (λ x. AskFits a → Leads x m n) → IfOk r (λ x. A → Leads x m p)
with_fits (Ok x) a A m n p same f h = λ fit. subst (λ z. Leads x m z) same (h (f fit))
with_fits (Err e) a A m n p same f h = tt

-- a rewriting leaves the dataset
pub left_by_rewriting : (replica : Bool) (a : Ask) (given : Given) (m : Dataset) → is_rewriting a ≡ true → m ≡ left_by (Ok a) replica given m
left_by_rewriting false (ask.Server server.BgRewriteAof) given m is = refl
left_by_rewriting true a given m is = refl
left_by_rewriting false _ given m is = absurd (cc)

-- .. and so does what the node tells of itself, and the end of the program
pub left_by_question : (replica : Bool) (a : Ask) (given : Given) (m : Dataset) (q : Question) → question_asked a ≡ Some q → m ≡ left_by (Ok a) replica given m
left_by_question false (ask.Server command) given m q is = refl
left_by_question true a given m q is = refl
left_by_question false _ given m q is = absurd (cc)

pub left_by_shutdown : (replica : Bool) (a : Ask) (given : Given) (m : Dataset) → is_shutdown a ≡ true → m ≡ left_by (Ok a) replica given m
left_by_shutdown false (ask.Server command) given m is = refl
left_by_shutdown true a given m is = refl
left_by_shutdown false _ given m is = absurd (cc)
