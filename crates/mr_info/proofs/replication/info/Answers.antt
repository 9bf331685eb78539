use Rattle.std.proofs.Common.{◌≡◌, ℕ, List, ◌++◌, ap, ◌∙◌}
use Rattle.std.specs.Fmt.{decimal}
use Rattle.std.specs.Prelude.{codes}
use Rattle.mr_info.specs.Info.{info_text, line}
use Rattle.mr_info.proofs.replication.info.Goals as goal

-- one line more
more : {old new text : List ℕ} (added : List ℕ) → new ≡ old ++ added → old ≡ text → new ≡ text ++ added
more added e f = e ∙ ap (λ z. z ++ added) f

pub returns : goal.returns
returns c =
    let whole : record { id = c.id.result; second = c.second-second.result; stream = c.stream-stream.result.now } ≡ c.args.lineage.now = λ i. record { id = c.id.ensures i; second = c.second-second.ensures.second i; stream = c.stream-stream.ensures i } in
    more _ (c.in_ok-push_number-6.ensures ∙ ap (λ (n : ℕ). c.push_number-5.new.text.items ++ line (codes "repl_backlog_histlen") (decimal n)) c.len.ensures.len)
    (more _ (c.in_ok-push_number-5.ensures ∙ ap (λ (n : ℕ). c.push_number-4.new.text.items ++ line (codes "repl_backlog_first_byte_offset") (decimal n)) c.first.ensures.first)
    (more _ (c.in_ok-push_number-4.ensures ∙ ap (λ (n : ℕ). c.push_number-3.new.text.items ++ line (codes "repl_backlog_size") (decimal n)) c.capacity.ensures.capacity)
    (more _ c.in_ok-push_number-3.ensures
    (more _ c.in_ok-push_second_offset.ensures
    (more _ (c.in_ok-push_number-2.ensures ∙ ap (λ (n : ℕ). c.push_second_id.new.text.items ++ line (codes "master_repl_offset") (decimal n)) c.end.ensures.end)
    (more _ c.in_ok-push_second_id.ensures
    (more _ (c.in_ok-push_field-2.ensures ∙ ap (λ (digits : List ℕ). c.push_number.new.text.items ++ line (codes "master_replid") digits) c.digits.ensures)
    (more _ c.in_ok-push_number.ensures
    (more _ (c.in_ok-push_field.ensures ∙ ap (λ (role : List ℕ). c.in_ok-text.text.items ++ line (codes "role") role) c.role_text.ensures) c.in_ok-text.ensures.items)))))))))
    ∙ ap (info_text c.args.replica c.args.followers) whole
