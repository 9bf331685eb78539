use Rattle.std.proofs.Common.{◌≡◌, ◌≢◌, Option, Some, None, refl, sym, codes}
use Rattle.clap.specs.Words.{Text, first_value, found_of, rows_of}
use Rattle.clap.specs.declared.parser.matches.Found.{Found}
use Rattle.mr_file.specs.declared.sync_mode.SyncMode.{SyncMode}
use Rattle.mr_file.specs.declared.sync_mode.SyncMode.TheVariants.{Always, No}
use Rattle.mr_options.specs.Values.{HasMode, IsModeWord, NamesNoMode, mode_word}
use Rattle.mr_options.proofs.Firsts.{first_is, first_named}
use Rattle.mr_options.proofs.serve_values.mode_of.Goals as goal

has_mode : (f : Found) (o : Option Text) (mode : SyncMode) → o ≡ first_value f (codes "sync") → IsModeWord o mode → HasMode (rows_of f) mode
has_mode f o mode e h = let P : Option Text → Type 0 = λ x. IsModeWord x mode in first_is P f (codes "sync") o e h

no_mode : (f : Found) (text : Text) → Some text ≡ first_value f (codes "sync") → text ≢ codes "always" → text ≢ codes "no" → NamesNoMode (rows_of f)
no_mode f text e not_always not_no = (text, (first_named f (codes "sync") text e, neither))
  where
    neither : (mode : SyncMode) → mode_word mode ≢ text
    neither Always is = not_always (sym is)
    neither No is = not_no (sym is)

pub returns-in-None-clause-ok : goal.returns-in-None-clause-ok
returns-in-None-clause-ok c = has_mode (found_of c.args.matches.now) None Always c.in-None.ensures refl

pub returns-in-Some-always-clause-ok : goal.returns-in-Some-always-clause-ok
returns-in-Some-always-clause-ok c = has_mode (found_of c.args.matches.now) (Some c.in-Some-always.field-0.now) Always c.in-Some-always.ensures (sym c.in-Some-always.is-always)

pub returns-in-Some-no-clause-ok : goal.returns-in-Some-no-clause-ok
returns-in-Some-no-clause-ok c = has_mode (found_of c.args.matches.now) (Some c.in-Some-no.field-0.now) No c.in-Some-no.ensures (sym c.in-Some-no.is-no)

pub returns-in-Some-clause-err : goal.returns-in-Some-clause-err
returns-in-Some-clause-err c = no_mode (found_of c.args.matches.now) c.in-Some._other.now c.in-Some.ensures c.in-Some.not-always c.in-Some.not-no
