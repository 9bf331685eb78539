-- A command to the server itself has no effect.
use Rattle.std.specs.Prelude.{ℤ}
use Rattle.mr_keyspace.specs.Dataset.{Dataset}
use Rattle.mr_cmd_server.specs.declared.server_ask.ServerAsk.{ServerAsk}
use Rattle.mr_cmd_shared.proofs.Laws.{none_answered, IsLawful}
use Rattle.mr_cmd_server.specs.Commands.{server_reply, command}

pub server_faithful : (c : ServerAsk) (now : ℤ) (m : Dataset) → IsLawful (command c) now m
server_faithful c now m = none_answered (λ n. server_reply c) now m
