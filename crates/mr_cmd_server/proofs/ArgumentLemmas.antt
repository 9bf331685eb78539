-- What is read of a command to the server itself is spelled by the words.
use Rattle.std.proofs.Common.{ℕ, ℤ, pos, ◌≡◌, List, [], ◌∷◌, Bool, true, false, refl, ◌∙◌, ap}
use Rattle.std.specs.Prelude.{IfOk, if◌then◌else◌, Result, Ok, Err}
use Rattle.std.specs.Str.{bytes_eq}
use Rattle.mr_bytes.proofs.Numbers.{same_bytes, same_number}
use Rattle.mr_arguments.specs.Names.{lowered}
use Rattle.mr_arguments.specs.Parts.{with}
use Rattle.std.specs.Ordering.{int_eq}
use Rattle.std.specs.Fmt.{signed_decimal}
use Rattle.mr_cmd_server.specs.Arguments.{ping, echo, select, quit, bgrewriteaof, info, role, shutdown, saving_of, saving_text, command, client, database, setname, setinfo}
use Rattle.mr_arguments.proofs.FitLemmas.{all_words}
use Rattle.mr_cmd_server.specs.Spelled.{ServerSpells}
use Rattle.mr_arguments.proofs.PartLemmas.{with_integer, with_keyword}
use Rattle.mr_arguments.specs.declared.name.Name.TheVariants as name
use Rattle.mr_cmd_server.specs.declared.server_ask.ServerAsk.TheVariants as server
use Rattle.mr_arguments.specs.declared.fault.AskFault.{AskFault}
use Rattle.mr_arguments.specs.declared.fault.AskFault.TheVariants.{Other, Syntax}
use Rattle.mr_cmd_server.specs.declared.server_ask.Saving.{Saving}
use Rattle.mr_cmd_server.specs.declared.server_ask.Saving.TheVariants.{First, Never}
use Rattle.mr_arguments.specs.declared.fault.BadValue.TheVariants.{Database}

pub ping_carries : (ws : List (List ℕ)) → IfOk (ping ws) (ServerSpells name.Ping ws)
ping_carries [] = record { name_is = refl; parts = tt }
ping_carries (m ∷ []) = record { name_is = refl; parts = (refl, tt) }
ping_carries _ = tt

pub echo_carries : (ws : List (List ℕ)) → IfOk (echo ws) (ServerSpells name.Echo ws)
echo_carries (m ∷ []) = record { name_is = refl; parts = (refl, tt) }
echo_carries _ = tt

database_carries : (w : List ℕ) (n : ℤ) → w ≡ signed_decimal n → IfOk (database n) (ServerSpells name.Select (w ∷ []))
database_carries w n e = elim (int_eq n (pos 0)) as (λ b. int_eq n (pos 0) ≡ b → IfOk {E = AskFault} (if b then Ok server.Select else Err (Other Database)) (ServerSpells name.Select (w ∷ []))) [
  | true ↦ λ s. record { name_is = refl; parts = (e ∙ ap signed_decimal (same_number n (pos 0) s), tt) }
  | false ↦ λ s. tt
] refl

pub select_carries : (ws : List (List ℕ)) → IfOk (select ws) (ServerSpells name.Select ws)
select_carries (w ∷ []) = with_integer w _ _ (database_carries w)
select_carries _ = tt

pub quit_carries : (ws : List (List ℕ)) → IfOk (quit ws) (ServerSpells name.Quit ws)
quit_carries [] = record { name_is = refl; parts = tt }
quit_carries _ = tt

pub bgrewriteaof_carries : (ws : List (List ℕ)) → IfOk (bgrewriteaof ws) (ServerSpells name.BgRewriteAof ws)
bgrewriteaof_carries [] = record { name_is = refl; parts = tt }
bgrewriteaof_carries _ = tt

pub info_carries : (ws : List (List ℕ)) → IfOk (info ws) (ServerSpells name.Info ws)
info_carries [] = record { name_is = refl; parts = tt }
info_carries (section ∷ []) = record { name_is = refl; parts = (refl, tt) }
info_carries _ = tt

pub role_carries : (ws : List (List ℕ)) → IfOk (role ws) (ServerSpells name.Role ws)
role_carries [] = record { name_is = refl; parts = tt }
role_carries _ = tt

with_saving : {A : Type 0} (w : List ℕ) (next : Saving → Result A AskFault) (P : A → Type 0)
    → ((s : Saving) → lowered w ≡ saving_text s → IfOk (next s) P) → IfOk (with (saving_of w) next) P
with_saving w next P h = by_test (bytes_eq (lowered w) (saving_text First)) (bytes_eq (lowered w) (saving_text Never)) refl refl
  where
    by_test : (a b : Bool) → bytes_eq (lowered w) (saving_text First) ≡ a → bytes_eq (lowered w) (saving_text Never) ≡ b
        → IfOk (with (if a then Ok First else (if b then Ok Never else Err Syntax)) next) P
    by_test true b s t = h First (same_bytes _ _ s)
    by_test false true s t = h Never (same_bytes _ _ t)
    by_test false false s t = tt

pub shutdown_carries : (ws : List (List ℕ)) → IfOk (shutdown ws) (ServerSpells name.Shutdown ws)
shutdown_carries [] = record { name_is = refl; parts = tt }
shutdown_carries (w ∷ []) = with_saving w _ _ (λ s e. record { name_is = refl; parts = (e, tt) })
shutdown_carries _ = tt

pub command_carries : (ws : List (List ℕ)) → IfOk (command ws) (ServerSpells name.Command ws)
command_carries ws = record { name_is = refl; parts = all_words ws }

pub client_carries : (ws : List (List ℕ)) → IfOk (client ws) (ServerSpells name.Client ws)
client_carries (o ∷ x ∷ []) = with_keyword o setname _ _ (λ e. record { name_is = refl; parts = (e, (refl, tt)) })
client_carries (o ∷ x ∷ y ∷ []) = with_keyword o setinfo _ _ (λ e. record { name_is = refl; parts = (e, (refl, (refl, tt))) })
client_carries _ = tt
