-- QUIT, BGREWRITEAOF and SHUTDOWN ask nothing about the node.
use Rattle.std.proofs.Common.{◌≡◌, List, ℕ, true, refl}
use Rattle.std.specs.Prelude.{Result, Ok, Err, None}
use Rattle.mr_ask.specs.Asks.{asked}
use Rattle.mr_ask.specs.declared.ask.Ask.{Ask}
use Rattle.mr_ask.specs.declared.ask.Ask.TheVariants as ask
use Rattle.mr_cmd_server.specs.Questions.{question_of}
use Rattle.mr_cmd_server.specs.declared.server_ask.ServerAsk.{ServerAsk}
use Rattle.mr_cmd_server.specs.declared.server_ask.ServerAsk.TheVariants as server
use Rattle.mr_arguments.specs.declared.fault.AskFault.{AskFault}
use Rattle.mr_commands.specs.Requests.{closes, halting_by, halts, is_quit, is_rewriting, is_shutdown, question_by, question_in, quits, rewrites, rewriting_by}

quit_server : (command : ServerAsk) → is_quit (ask.Server command) ≡ true → question_of command ≡ None
quit_server server.Quit e = refl
quit_server _ e = absurd (cc)

quit_by : (r : Result Ask AskFault) → closes r ≡ true → question_by r ≡ None
quit_by (Ok (ask.Server command)) e = quit_server command e
quit_by (Ok _) e = refl
quit_by (Err fault) e = refl

pub quit_asks_nothing : (words : List (List ℕ)) → quits words ≡ true → question_in words ≡ None
quit_asks_nothing words e = quit_by (asked words) e

rewriting_server : (command : ServerAsk) → is_rewriting (ask.Server command) ≡ true → question_of command ≡ None
rewriting_server server.BgRewriteAof e = refl
rewriting_server _ e = absurd (cc)

rewriting_asks : (r : Result Ask AskFault) → rewriting_by r ≡ true → question_by r ≡ None
rewriting_asks (Ok (ask.Server command)) e = rewriting_server command e
rewriting_asks (Ok _) e = refl
rewriting_asks (Err fault) e = refl

pub rewriting_asks_nothing : (words : List (List ℕ)) → rewrites words ≡ true → question_in words ≡ None
rewriting_asks_nothing words e = rewriting_asks (asked words) e

shutdown_server : (command : ServerAsk) → is_shutdown (ask.Server command) ≡ true → question_of command ≡ None
shutdown_server (server.Shutdown saving) e = refl
shutdown_server _ e = absurd (cc)

halting_asks : (r : Result Ask AskFault) → halting_by r ≡ true → question_by r ≡ None
halting_asks (Ok (ask.Server command)) e = shutdown_server command e
halting_asks (Ok _) e = refl
halting_asks (Err fault) e = refl

pub halting_asks_nothing : (words : List (List ℕ)) → halts words ≡ true → question_in words ≡ None
halting_asks_nothing words e = halting_asks (asked words) e
