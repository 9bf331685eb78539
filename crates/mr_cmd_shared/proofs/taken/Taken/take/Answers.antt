use Rattle.std.proofs.Common.{◌∙◌, ap, sym, not, cond, true, ℕ, List}
use Rattle.std.specs.Borrow.{Bor}
use Rattle.mr_cmd_shared.specs.Taken.{has, is_key}
use Rattle.mr_cmd_shared.proofs.TakenLemmas.{has-texts, cond_or}
use Rattle.mr_cmd_shared.proofs.taken.Taken.take.Goals as goal

pub returns-clause-first : goal.returns-clause-first
returns-clause-first c =
    c.in_ok-insert.ensures.added
    ∙ ap not (has-texts c.self.inside.keys.keys c.args.key ∙ ap (λ xs. has xs c.args.key.now) c.self.view_is)

pub returns-clause-taken : goal.returns-clause-taken
returns-clause-taken c = λ q.
    let key : Bor (List ℕ) = record { ref_ptr = c.args.key.ref_ptr; now = q } in
    sym (has-texts c.insert.new.self.keys key)
    ∙ c.in_ok-insert.ensures.updates.0 key
    ∙ ap (cond (is_key c.args.key.now q) true) (has-texts c.self.inside.keys.keys key ∙ ap (λ xs. has xs q) c.self.view_is)
    ∙ cond_or (is_key c.args.key.now q) (has c.args.self.now q)
