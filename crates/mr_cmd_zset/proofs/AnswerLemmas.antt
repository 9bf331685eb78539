-- Answers from what is done to a sorted set.
use Rattle.std.proofs.Common.{◌≡◌, List, [], ◌++◌, Option, Some, None, sym, ◌∙◌, ap}
use Rattle.mr_resp.specs.Replies.{Tree}
use Rattle.mr_effect.specs.declared.effect.Effect.{Effect}
use Rattle.mr_keyspace.specs.Steps.{sorted_sets, held}
use Rattle.mr_keyspace.specs.declared.value.Entry.{Entry}
use Rattle.mr_cmd_shared.specs.Answered.{Answered, Takes, wrong_kind}
use Rattle.mr_cmd_shared.specs.Collections.{Change, changed, changing, telling, replied}
use Rattle.mr_cmd_shared.proofs.PlanLemmas.{takes_reply}
use Rattle.mr_cmd_zset.specs.declared.zset_ask.ZSetAsk.{ZSetAsk}
use Rattle.mr_cmd_zset.specs.declared.zset_ask.ZSetAsk.TheVariants as ask
use Rattle.mr_cmd_zset.specs.Scores.{Scores, told, Makes}
use Rattle.mr_cmd_zset.specs.Commands.{change, answer_of}

-- another kind is refused, and a set is answered as it is changed
record IsChange (answer : Option Entry → Answered) (change : Scores → Change Scores) : Type 0 where
  wrong_reply : (o : Option Entry) → held sorted_sets o ≡ None → (answer o).reply ≡ wrong_kind
  wrong_effects : (o : Option Entry) → held sorted_sets o ≡ None → (answer o).effects ≡ []
  reply : (o : Option Entry) (s : Scores) → held sorted_sets o ≡ Some s → (answer o).reply ≡ (change s).reply
  effects : (o : Option Entry) (s : Scores) → held sorted_sets o ≡ Some s → (answer o).effects ≡ (change s).effects

changes : (change : Scores → Change Scores) → IsChange (changing sorted_sets change) change
changes change = record {
  wrong_reply = λ o is. ap (λ (h : Option Scores). (changed sorted_sets change h o).reply) is;
  wrong_effects = λ o is. ap (λ (h : Option Scores). (changed sorted_sets change h o).effects) is;
  reply = λ o s is. ap (λ (h : Option Scores). (changed sorted_sets change h o).reply) is;
  effects = λ o s is. ap (λ (h : Option Scores). (changed sorted_sets change h o).effects) is;
}

tells : (answer : Scores → Tree) → IsChange (telling sorted_sets answer) (told answer)
tells answer = record {
  wrong_reply = λ o is. ap (λ (h : Option Scores). (replied sorted_sets answer h o).reply) is;
  wrong_effects = λ o is. ap (λ (h : Option Scores). (replied sorted_sets answer h o).effects) is;
  reply = λ o s is. ap (λ (h : Option Scores). (replied sorted_sets answer h o).reply) is;
  effects = λ o s is. ap (λ (h : Option Scores). (replied sorted_sets answer h o).effects) is;
}

of_set : (c : ZSetAsk) → IsChange (answer_of c) (change c)
of_set (ask.ZAdd k only than reply pairs) = changes _
of_set (ask.ZIncrBy k by x) = changes _
of_set (ask.ZRem k xs) = changes _
of_set (ask.ZCard k) = tells _
of_set (ask.ZCount k min max) = tells _
of_set (ask.ZScore k x) = tells _
of_set (ask.ZMScore k xs) = tells _
of_set (ask.GetRank k x order) = tells _
of_set (ask.RangeByRank k first last order reply) = tells _
of_set (ask.RangeByScore k min max order limit reply) = tells _
of_set (ask.TakePairs k order count) = changes _
of_set (ask.ZRemRangeByRank k first last) = changes _
of_set (ask.ZRemRangeByScore k min max) = changes _

-- at a key of another kind
pub takes_wrong : (c : ZSetAsk) (o : Option Entry) (r : Tree) (old : List Effect) → held sorted_sets o ≡ None → r ≡ wrong_kind → Takes (answer_of c o) r old old
takes_wrong c o r old is replied_so = takes_reply (answer_of c o) old ((of_set c).wrong_effects o is) (replied_so ∙ sym ((of_set c).wrong_reply o is))

-- at a key with this set
pub takes_made : (c : ZSetAsk) (o : Option Entry) (s : Scores) (r : Tree) (old new : List Effect) → held sorted_sets o ≡ Some s → Makes (change c s) r old new → Takes (answer_of c o) r old new
takes_made c o s r old new is made = record {
  reply_is = made.reply_is ∙ sym ((of_set c).reply o s is);
  effects_are = made.effects_are ∙ ap (λ es. old ++ es) (sym ((of_set c).effects o s is));
}
