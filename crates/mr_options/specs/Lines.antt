-- The command line as a command of clap, which says what each line names.
use Rattle.std.specs.Prelude.{ℕ, Some, codes, true, ◌^◌, ◌-◌}
use Rattle.clap.specs.Words.{App, Rule, Text, new_app, new_rule, with_rule, with_subcommand}
use Rattle.clap.specs.declared.builder.value_parser.ValueParser.TheVariants as vp

-- an option that is a text
abbrev pub text_rule : Text → Rule
text_rule name = record (new_rule name) { long = Some name }

-- an option that is a number from the first to the second, both included
abbrev pub number_rule : Text → ℕ → ℕ → Rule
number_rule name least most = record (new_rule name) { long = Some name; parser = Some (vp.Unsigned least most) }

-- an option that every line of its subcommand has
abbrev pub needed : Rule → Rule
needed rule = record rule { required = true }

-- `pipe [--id H] [--now N] [--word N] [--aof PATH]`
abbrev pub pipe_line : App
pipe_line =
    with_rule
    (with_rule
    (with_rule (with_rule (new_app (codes "pipe")) (text_rule (codes "id"))) (number_rule (codes "now") 0 (2 ^ 61)))
    (number_rule (codes "word") 0 (2 ^ 64 - 1)))
    (text_rule (codes "aof"))

-- the options of `serve` of its node, its file and its end: `--port P [--aof PATH] [--sync MODE] [--turns N] [--backlog N]`
abbrev pub node_line : App
node_line =
    with_rule
    (with_rule
    (with_rule
    (with_rule (with_rule (new_app (codes "serve")) (needed (number_rule (codes "port") 1 65535))) (text_rule (codes "aof")))
    (text_rule (codes "sync")))
    (number_rule (codes "turns") 0 (2 ^ 64 - 1)))
    (number_rule (codes "backlog") 1 (2 ^ 30))

-- .. and those of its links: `[--replicaof HOST:PORT] [--bind ADDRESS] [--repl-timeout N] [--timeout N] [--tcp-keepalive N] [--maxclients N]`
abbrev pub serve_line : App
serve_line =
    with_rule
    (with_rule
    (with_rule
    (with_rule
    (with_rule (with_rule node_line (text_rule (codes "replicaof"))) (text_rule (codes "bind")))
    (number_rule (codes "repl-timeout") 11 86400))
    (number_rule (codes "timeout") 0 2147483647))
    (number_rule (codes "tcp-keepalive") 0 32767))
    (number_rule (codes "maxclients") 1 1000000)

-- `trio`, which has no options
abbrev pub trio_line : App
trio_line = new_app (codes "trio")

-- `world [--backlog N]`
abbrev pub world_line : App
world_line = with_rule (new_app (codes "world")) (number_rule (codes "backlog") 1 (2 ^ 30))

-- the program: one of its subcommands is named, and nothing answers with a help text
abbrev pub bare : App
bare = record (new_app (codes "minired")) {
  top = record (new_app (codes "minired")).top {
    no_binary_name = true;
    disable_help_flag = true;
    disable_help_subcommand = true;
    subcommand_required = true;
  };
}

-- the program's words, its name left out
abbrev pub line : App
line = with_subcommand (with_subcommand (with_subcommand (with_subcommand bare pipe_line.top) serve_line.top) trio_line.top) world_line.top
