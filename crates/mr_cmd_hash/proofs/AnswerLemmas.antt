-- Answers from what is done to a hash.
use Rattle.std.proofs.Common.{◌≡◌, List, ◌++◌, Option, Some, None, sym, ◌∙◌, ap}
use Rattle.mr_resp.specs.Replies.{Tree}
use Rattle.mr_effect.specs.declared.effect.Effect.{Effect}
use Rattle.mr_keyspace.specs.Steps.{hashes, held}
use Rattle.mr_keyspace.specs.declared.value.Entry.{Entry}
use Rattle.mr_cmd_hash.specs.declared.hash_ask.HashAsk.{HashAsk}
use Rattle.mr_cmd_shared.specs.Answered.{Answered, Takes, wrong_kind}
use Rattle.mr_cmd_shared.specs.Collections.{changed}
use Rattle.mr_cmd_shared.proofs.PlanLemmas.{takes_reply}
use Rattle.mr_cmd_hash.specs.Hashes.{Hash}
use Rattle.mr_cmd_hash.specs.Commands.{change, answer_of, Makes}

-- at a key of another kind
pub takes_wrong : (c : HashAsk) (o : Option Entry) (r : Tree) (old : List Effect) → held hashes o ≡ None → r ≡ wrong_kind → Takes (answer_of c o) r old old
takes_wrong c o r old is replied_so =
    let same : answer_of c o ≡ changed hashes (change c) None o = ap (λ (h : Option Hash). changed hashes (change c) h o) is in
    takes_reply (answer_of c o) old (ap (λ (t : Answered). t.effects) same) (replied_so ∙ sym (ap (λ (t : Answered). t.reply) same))

-- at a key with this hash
pub takes_made : (c : HashAsk) (o : Option Entry) (h : Hash) (r : Tree) (old new : List Effect) → held hashes o ≡ Some h → Makes (change c h) r old new → Takes (answer_of c o) r old new
takes_made c o h r old new is made =
    let same : answer_of c o ≡ changed hashes (change c) (Some h) o = ap (λ (x : Option Hash). changed hashes (change c) x o) is in
    record {
      reply_is = made.reply_is ∙ sym (ap (λ (t : Answered). t.reply) same);
      effects_are = made.effects_are ∙ ap (λ es. old ++ es) (sym (ap (λ (t : Answered). t.effects) same));
    }
