-- What the parser lets through of each subcommand.
use Rattle.std.proofs.Common.{◌≡◌, ◌≢◌, ◌∙◌, ◌^◌, ◌-◌, ◌⊎◌, inl, inr, ◌&&◌, List, [], ◌∷◌, Option, Some, None, Bool, true, false, not, sym, ap, refl, subst, cond, codes, arith}
use Rattle.std.specs.Prelude.{fold}
use Rattle.std.specs.List.{find}
use Rattle.std.specs.Option.{option_map, option_map_or}
use Rattle.std.specs.Str.{bytes_eq}
use Rattle.std.proofs.lemmas.List.Folds.{list_any-from_Any}
use Rattle.clap.specs.Words.{Kinds, Row, Rule, Shape, Text}
use Rattle.clap.specs.Faults.{check_fault, defaults_fault, entered_fault, level_fault, settle_fault, walk_fault}
use Rattle.clap.specs.Kinds.{check_kinds}
use Rattle.clap.specs.Simple.{argument_words, built, built_leaf, entered, inherited, label_of, names_of, rows_at}
use Rattle.clap.specs.Takes.{is_given}
use Rattle.clap.specs.Walk.{answers_to, has_row, nothing_held, settled, stop_after, walk, walk_from, with_default}
use Rattle.clap.specs.declared.builder.value_parser.ValueParser.TheVariants as vp
use Rattle.clap.specs.declared.error.kind.ErrorKind.TheVariants.{MissingRequiredArgument}
use Rattle.mr_options.specs.Lines.{line, pipe_line, serve_line, trio_line, world_line}
use Rattle.mr_options.specs.Outcomes.{IsLineOf, IsPipeLine, IsServeLine, IsWorldLine}
use Rattle.mr_options.specs.Values.{PipeNumbersPass, ServeNumbersPass, WorldNumbersPass, usual_clients, usual_idle, usual_keepalive, usual_timeout, usual_turns}
use Rattle.mr_repl.specs.Backlog.{usual_backlog}
use Rattle.mr_options.proofs.Ranges.{number_given, number_there}
use Rattle.mr_options.proofs.Rows.{AreOptions, Each, IsKnown, RowsFine, first_none, one_valued, option_known, second_none, settled_fine, some_of}

-- ---- the words of one subcommand, whose options have no usual values of the parser's

no_default : (c : List Rule) (a : Rule) → IsKnown c a → (rows : List Row) → with_default rows a ≡ rows
no_default c a k rows =
    let P : Rule → Type 0 = λ x. with_default rows x ≡ rows in
    subst P (sym k.is) (elim (has_row k.name rows) as (λ b. cond b rows rows ≡ rows) [ true ↦ refl | false ↦ refl ])

no_defaults : (c xs : List Rule) → Each (IsKnown c) xs → (rows : List Row) → fold with_default rows xs ≡ rows
no_defaults c [] all rows = refl
no_defaults c (a ∷ rest) all rows = ap (λ (r : List Row). fold with_default r rest) (no_default c a all.0 rows) ∙ no_defaults c rest all.1 rows

-- the rows are those of this subcommand, and passed
record Passes (s : Shape) (name : Text) (rows : List Row) : Type 0 where
  named : s.name ≡ name
  fine : RowsFine s.rules rows
  checked : check_fault s rows false ≡ []

-- P holds of one of the subcommands
abbrev OneOf : (Shape → Type 0) → List Shape → Type 0
OneOf P [] = ⊥
OneOf P (s ∷ rest) = P s ⊎ OneOf P rest

-- the words behind a subcommand are without a fault, and give this
abbrev Entered : List Text → Text × List Row → Shape → Type 0
Entered words p s = (level_fault s [] nothing_held words false [] ≡ []) × (rows_at s words ≡ p)

level_passes : (s : Shape) → AreOptions s.rules → s.args_override_self ≡ false → (words : List Text) (p : Text × List Row) → Entered words p s → Passes s p.0 p.1
level_passes s o once words p h =
    let end = (walk s.rules [] nothing_held words).held in
    let rows = (settled s.rules end).rows in
    let behind = second_none (walk_fault s [] (walk_from nothing_held) words) _ h.0 in
    let last = second_none (defaults_fault rows s.rules) _ (second_none (settle_fault s.rules s.args_override_self end) _ behind) in
    let fine = subst (RowsFine s.rules) (sym (no_defaults s.rules s.rules o.all rows)) (settled_fine s o once words h.0) in
    let P : Text × List Row → Type 0 = λ q. Passes s q.0 q.1 in
    subst P h.1 (record { named = refl; fine = fine; checked = last })

entered_one : (shapes : List Shape) (word : Text) (words : List Text) (p : Text × List Row) → option_map_or (λ (s : Shape). level_fault s [] nothing_held words false []) (find (λ (s : Shape). answers_to word (label_of s)) shapes) [] ≡ []
    → option_map (λ (s : Shape). rows_at s words) (find (λ (s : Shape). answers_to word (label_of s)) shapes) ≡ Some p → OneOf (Entered words p) shapes
entered_one [] word words p e is = absurd (let wrong : ◌≡◌ {A = Option (Text × List Row)} None (Some p) = is in cc)
entered_one (s ∷ ss) word words p e is =
    let on : Option Shape = find (λ (s : Shape). answers_to word (label_of s)) ss in
    elim (answers_to word (label_of s)) as (λ b. option_map_or (λ (s : Shape). level_fault s [] nothing_held words false []) (cond b (Some s) on) [] ≡ [] → option_map (λ (s : Shape). rows_at s words) (cond b (Some s) on) ≡ Some p → OneOf (Entered words p) (s ∷ ss)) [
      | true ↦ λ e is. inl (e, some_of (rows_at s words) p is)
      | false ↦ λ e is. inr (entered_one ss word words p e is)
    ] e is

-- ---- the subcommands

abbrev pipe_rules : List Rule
pipe_rules =
    one_valued (codes "id") vp.String false ∷ one_valued (codes "now") (vp.Unsigned 0 (2 ^ 61)) false ∷ one_valued (codes "word") (vp.Unsigned 0 (2 ^ 64 - 1)) false ∷ one_valued (codes "aof") vp.String false ∷ []

abbrev pipe_shape : Shape
pipe_shape = built_leaf (inherited (built line).top pipe_line.top)

are_pipe : AreOptions pipe_rules
are_pipe = record {
  all = (option_known refl, (option_known refl, (option_known refl, (option_known refl, tt))));
  no_short = λ x. refl;
  no_index = λ i. refl;
}

abbrev serve_rules : List Rule
serve_rules =
    one_valued (codes "port") (vp.Unsigned 1 65535) true ∷ one_valued (codes "aof") vp.String false ∷ one_valued (codes "sync") vp.String false ∷ one_valued (codes "turns") (vp.Unsigned 0 (2 ^ 64 - 1)) false ∷ one_valued (codes "backlog") (vp.Unsigned 1 (2 ^ 30)) false ∷ one_valued (codes "replicaof") vp.String false ∷ one_valued (codes "bind") vp.String false ∷ one_valued (codes "repl-timeout") (vp.Unsigned 11 86400) false ∷ one_valued (codes "timeout") (vp.Unsigned 0 2147483647) false ∷ one_valued (codes "tcp-keepalive") (vp.Unsigned 0 32767) false ∷ one_valued (codes "maxclients") (vp.Unsigned 1 1000000) false ∷ []

abbrev serve_shape : Shape
serve_shape = built_leaf (inherited (built line).top serve_line.top)

are_serve : AreOptions serve_rules
are_serve = record {
  all = (option_known refl, (option_known refl, (option_known refl, (option_known refl, (option_known refl, (option_known refl, (option_known refl, (option_known refl, (option_known refl, (option_known refl, (option_known refl, tt)))))))))));
  no_short = λ x. refl;
  no_index = λ i. refl;
}

abbrev trio_shape : Shape
trio_shape = built_leaf (inherited (built line).top trio_line.top)

are_none : AreOptions []
are_none = record { all = tt; no_short = λ x. refl; no_index = λ i. refl }

abbrev world_rules : List Rule
world_rules = one_valued (codes "backlog") (vp.Unsigned 1 (2 ^ 30)) false ∷ []

abbrev world_shape : Shape
world_shape = built_leaf (inherited (built line).top world_line.top)

are_world : AreOptions world_rules
are_world = record { all = (option_known refl, tt); no_short = λ x. refl; no_index = λ i. refl }

abbrev EitherPasses : Text × List Row → Type 0
EitherPasses p = Passes pipe_shape p.0 p.1 ⊎ (Passes serve_shape p.0 p.1 ⊎ (Passes trio_shape p.0 p.1 ⊎ Passes world_shape p.0 p.1))

either_of : (words : List Text) (p : Text × List Row) → OneOf (Entered words p) (pipe_shape ∷ serve_shape ∷ trio_shape ∷ world_shape ∷ []) → EitherPasses p
either_of words p (inl h) = inl (level_passes pipe_shape are_pipe refl words p h)
either_of words p (inr (inl h)) = inr (inl (level_passes serve_shape are_serve refl words p h))
either_of words p (inr (inr (inl h))) = inr (inr (inl (level_passes trio_shape are_none refl words p h)))
either_of words p (inr (inr (inr (inl h)))) = inr (inr (inr (level_passes world_shape are_world refl words p h)))
either_of words p (inr (inr (inr (inr h)))) = absurd h

stop_passes : (stop : Option (Text × List Text)) (p : Text × List Row) → entered_fault (built line) stop ≡ [] → entered (built line) stop ≡ Some p → EitherPasses p
stop_passes None p e is = absurd (let wrong : ◌≡◌ {A = Option (Text × List Row)} None (Some p) = is in cc)
stop_passes (Some q) p e is = either_of q.1 p (entered_one (pipe_shape ∷ serve_shape ∷ trio_shape ∷ world_shape ∷ []) q.0 q.1 p e is)

line_passes : (name : Text) (words : List Text) (rows : List Row) → IsLineOf name words rows → EitherPasses (name, rows)
line_passes name words rows h =
    let a = built line in
    let given = argument_words a words in
    let stop = stop_after a.top.rules (names_of a) given in
    let below = first_none (entered_fault a stop) _ (second_none (walk_fault a.top (names_of a) (walk_from nothing_held) given) _ h.0) in
    stop_passes stop (name, rows) below h.1

apart : codes "serve" ≢ codes "pipe"
apart e = let wrong : false ≡ true = ap (λ (t : Text). bytes_eq t (codes "pipe")) e in cc

trio_apart : codes "trio" ≢ codes "pipe"
trio_apart e = let wrong : false ≡ true = ap (λ (t : Text). bytes_eq t (codes "pipe")) e in cc

trio_is_no_server : codes "trio" ≢ codes "serve"
trio_is_no_server e = let wrong : false ≡ true = ap (λ (t : Text). bytes_eq t (codes "serve")) e in cc

world_apart : codes "world" ≢ codes "pipe"
world_apart e = let wrong : false ≡ true = ap (λ (t : Text). bytes_eq t (codes "pipe")) e in cc

world_is_no_server : codes "world" ≢ codes "serve"
world_is_no_server e = let wrong : false ≡ true = ap (λ (t : Text). bytes_eq t (codes "serve")) e in cc

world_is_no_trio : codes "world" ≢ codes "trio"
world_is_no_trio e = let wrong : false ≡ true = ap (λ (t : Text). bytes_eq t (codes "trio")) e in cc

-- ---- their numbers

pub pipe_numbers : (words : List Text) (rows : List Row) → IsPipeLine words rows → PipeNumbersPass rows
pipe_numbers words rows h = elim (line_passes (codes "pipe") words rows h) [
  | inl passed ↦
      let now = number_there pipe_rules (codes "now") 0 (2 ^ 61) false rows refl passed.fine 0 (omega arith) (omega arith) in
      let word = number_there pipe_rules (codes "word") 0 (2 ^ 64 - 1) false rows refl passed.fine 0 (omega arith) (omega arith) in
      record { now = (now.0, (now.1.1, now.1.2)); word = (word.0, word.1.2) }
  | inr (inl passed) ↦ absurd (apart passed.named)
  | inr (inr (inl passed)) ↦ absurd (trio_apart passed.named)
  | inr (inr (inr passed)) ↦ absurd (world_apart passed.named)
]

port_given : (rows : List Row) → check_fault serve_shape rows false ≡ [] → is_given (codes "port") rows ≡ true
port_given rows e =
    let is_missing : Rule → Bool = λ a. a.required && not (is_given a.id rows) in
    elim (is_given (codes "port") rows) as (λ b. is_given (codes "port") rows ≡ b → b ≡ true) [
      | true ↦ λ is. refl
      | false ↦ λ is.
          let missing = list_any-from_Any is_missing serve_rules (0, _, omega arith, refl, ap not is) in
          absurd (let wrong : ◌≡◌ {A = Kinds} (MissingRequiredArgument ∷ []) [] = sym (ap (λ (b : Bool). check_kinds false false b) missing) ∙ e in cc)
    ] refl

pub serve_numbers : (words : List Text) (rows : List Row) → IsServeLine words rows → ServeNumbersPass rows
serve_numbers words rows h = elim (line_passes (codes "serve") words rows h) [
  | inl passed ↦ absurd (apart (sym passed.named))
  | inr (inr (inl passed)) ↦ absurd (trio_is_no_server passed.named)
  | inr (inr (inr passed)) ↦ absurd (world_is_no_server passed.named)
  | inr (inl passed) ↦
      let turns = number_there serve_rules (codes "turns") 0 (2 ^ 64 - 1) false rows refl passed.fine usual_turns (omega arith) (omega arith) in
      record {
        port = number_given serve_rules (codes "port") 1 65535 true rows refl passed.fine (port_given rows passed.checked);
        turns = (turns.0, turns.1.2);
        backlog = number_there serve_rules (codes "backlog") 1 (2 ^ 30) false rows refl passed.fine usual_backlog (omega arith) (omega arith);
        timeout = number_there serve_rules (codes "repl-timeout") 11 86400 false rows refl passed.fine usual_timeout (omega arith) (omega arith);
        idle_timeout = number_there serve_rules (codes "timeout") 0 2147483647 false rows refl passed.fine usual_idle (omega arith) (omega arith);
        keepalive = number_there serve_rules (codes "tcp-keepalive") 0 32767 false rows refl passed.fine usual_keepalive (omega arith) (omega arith);
        most_clients = number_there serve_rules (codes "maxclients") 1 1000000 false rows refl passed.fine usual_clients (omega arith) (omega arith);
      }
]

pub world_numbers : (words : List Text) (rows : List Row) → IsWorldLine words rows → WorldNumbersPass rows
world_numbers words rows h = elim (line_passes (codes "world") words rows h) [
  | inl passed ↦ absurd (world_apart (sym passed.named))
  | inr (inl passed) ↦ absurd (world_is_no_server (sym passed.named))
  | inr (inr (inl passed)) ↦ absurd (world_is_no_trio (sym passed.named))
  | inr (inr (inr passed)) ↦ number_there world_rules (codes "backlog") 1 (2 ^ 30) false rows refl passed.fine usual_backlog (omega arith) (omega arith)
]
