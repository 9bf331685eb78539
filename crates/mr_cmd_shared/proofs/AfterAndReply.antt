-- What the next command on a key sees.
use Rattle.std.proofs.Common.{ℤ, ◌≡◌, [], ◌∷◌, Option, ◌∙◌, ap}
use Rattle.std.specs.FinMap.{get}
use Rattle.mr_map.specs.Bytes.{Bytes}
use Rattle.mr_keyspace.specs.Dataset.{Dataset, put_at}
use Rattle.mr_keyspace.specs.declared.value.Entry.{Entry}
use Rattle.mr_keyspace.proofs.Puts.{get_put}
use Rattle.mr_data.specs.Dataset.{live}
use Rattle.mr_data.proofs.Seeing.{get-seen}
use Rattle.mr_cmd_shared.specs.Keys.{purged}
use Rattle.mr_cmd_shared.specs.Answered.{Answered}
use Rattle.mr_cmd_shared.specs.Commands.{after, answer, on_key}
use Rattle.mr_cmd_shared.proofs.PlanLemmas.{purged_at}

pub next_sees : (k : Bytes) (answers next : Option Entry → Answered) (now : ℤ) (m : Dataset) → answer (on_key k next) now (after (on_key k answers) now m) ≡ (next (live now (answers (live now (get m k))).entry)).reply
next_sees k answers next now m =
    let left : Dataset = purged now (k ∷ []) m in
    ap (λ o. (next o).reply) (get-seen now (put_at left k (answers (get left k)).entry) k
    ∙ ap (live now) (get_put left k (answers (get left k)).entry ∙ ap (λ o. (answers o).entry) (purged_at now k m)))
