use Rattle.std.proofs.Common.{rules, ◌≡◌, ◌≢◌, ◌∙◌, ℕ, List, Option, Some, None, sym, ap, subst, codes}
use Rattle.std.specs.Prelude.{IfNone}
use Rattle.clap.specs.Words.{Text, found_of, first_value, rows_of}
use Rattle.clap.specs.declared.parser.matches.Found.{Found}
use Rattle.clap.proofs.WalkLemmas.{first_value-rows}
use Rattle.mr_repl.specs.ReplId.{IsId, digits_of}
use Rattle.mr_options.specs.Values.{HasId, IsIdText, NamesNoId}
use Rattle.mr_options.specs.declared.line.PipeOptions.{PipeOptions}
use Rattle.mr_options.proofs.pipe_values.id_of.Goals as goal

whatever : {P : Type 0} (r : Option (List ℕ)) → P → IfNone r P
whatever None p = p
whatever (Some x) p = tt

has_id : (f : Found) (o : Option Text) (id : List ℕ) → o ≡ first_value f (codes "id") → IsIdText o id → HasId (rows_of f) id
has_id f o id e h = let P : Option Text → Type 0 = λ x. IsIdText x id in subst P (e ∙ first_value-rows f (codes "id")) h

no_id : (f : Found) (text read : Text) → Some text ≡ first_value f (codes "id") → read ≡ text → ((id : List ℕ) → IsId id → digits_of id ≢ read) → NamesNoId (rows_of f)
no_id f text read e same none = (text, (sym (e ∙ first_value-rows f (codes "id")), λ id h is. none id h (is ∙ sym same)))

pub returns-in-None-clause-some : goal.returns-in-None-clause-some
returns-in-None-clause-some c = has_id (found_of c.args.matches.now) None c.usual.result.id c.in-None.ensures (ap (λ (o : PipeOptions). o.id) c.usual.ensures)

pub returns-in_err-id-in-Some-clause-none : goal.returns-in_err-id-in-Some-clause-none
returns-in_err-id-in-Some-clause-none c = whatever c.from_residual.result (no_id (found_of c.args.matches.now) c.in-Some.text.now c.as_bytes.result.now c.in-Some.ensures c.as_bytes.ensures.value c.in_err-id-in-Some.ensures.none)

pub returns-in_ok-id-in-Some-clause-some : goal.returns-in_ok-id-in-Some-clause-some
returns-in_ok-id-in-Some-clause-some c = has_id (found_of c.args.matches.now) (Some c.in-Some.text.now) c.in_ok-id-in-Some.id c.in-Some.ensures (search rules, c.in_ok-id-in-Some.ensures.some ∙ c.as_bytes.ensures.value)
