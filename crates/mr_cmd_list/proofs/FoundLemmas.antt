-- Answers from the list that is found at a key.
use Rattle.std.proofs.Common.{◌≡◌, List, ◌++◌, Option, Some, None, refl, sym, ◌∙◌, ap, subst}
use Rattle.std.specs.Option.{option_map}
use Rattle.mr_map.specs.Bytes.{Bytes}
use Rattle.mr_resp.specs.Replies.{Tree}
use Rattle.mr_keyspace.specs.Steps.{lists, held}
use Rattle.mr_keyspace.specs.declared.value.Value.TheVariants as value
use Rattle.mr_keyspace.specs.declared.value.Entry.{Entry}
use Rattle.mr_effect.specs.declared.effect.Effect.{Effect}
use Rattle.mr_cmd_shared.specs.Answered.{Answered, Takes, kept, wrong_kind}
use Rattle.mr_cmd_shared.specs.Collections.{Change, replied, telling, changed, changing}
use Rattle.mr_cmd_shared.proofs.PlanLemmas.{takes_reply}
use Rattle.mr_cmd_list.specs.declared.list_ask.ListAsk.{ListAsk}
use Rattle.mr_cmd_list.specs.declared.list_ask.ListAsk.TheVariants as ask
use Rattle.mr_cmd_list.specs.declared.list_ask.PushTo.TheVariants.{AnyKey, ExistingKey}
use Rattle.mr_cmd_list.specs.Lists.{found, entry_with}
use Rattle.mr_cmd_list.specs.Commands.{answer_of}

-- the same reply, and the same effects
record Alike (s t : Answered) : Type 0 where
  reply : s.reply ≡ t.reply
  effects : s.effects ≡ t.effects

-- an entry of another kind is refused, and of two with the same list the same is answered
record IsOfList (answer : Entry → Answered) : Type 0 where
  wrong : (e : Entry) → lists.of e.value ≡ None → Alike (answer e) (kept wrong_kind (Some e))
  alike : (e f : Entry) → lists.of e.value ≡ lists.of f.value → Alike (answer e) (answer f)

changed_any : (change : List Bytes → Change (List Bytes)) (e f : Entry) (h : Option (List Bytes)) → Alike (changed lists change h (Some e)) (changed lists change h (Some f))
changed_any change e f None = record { reply = refl; effects = refl }
changed_any change e f (Some xs) = record { reply = refl; effects = refl }

changes : (change : List Bytes → Change (List Bytes)) → IsOfList (λ e. changing lists change (Some e))
changes change = record {
  wrong = λ e none. record {
    reply = ap (λ (h : Option (List Bytes)). (changed lists change h (Some e)).reply) none;
    effects = ap (λ (h : Option (List Bytes)). (changed lists change h (Some e)).effects) none;
  };
  alike = λ e f same. record {
    reply = ap (λ (h : Option (List Bytes)). (changed lists change h (Some e)).reply) same ∙ (changed_any change e f (lists.of f.value)).reply;
    effects = ap (λ (h : Option (List Bytes)). (changed lists change h (Some e)).effects) same ∙ (changed_any change e f (lists.of f.value)).effects;
  };
}

told_any : (answer : List Bytes → Tree) (e f : Entry) (h : Option (List Bytes)) → Alike (replied lists answer h (Some e)) (replied lists answer h (Some f))
told_any answer e f None = record { reply = refl; effects = refl }
told_any answer e f (Some xs) = record { reply = refl; effects = refl }

tells : (answer : List Bytes → Tree) → IsOfList (λ e. telling lists answer (Some e))
tells answer = record {
  wrong = λ e none. record {
    reply = ap (λ (h : Option (List Bytes)). (replied lists answer h (Some e)).reply) none;
    effects = ap (λ (h : Option (List Bytes)). (replied lists answer h (Some e)).effects) none;
  };
  alike = λ e f same. record {
    reply = ap (λ (h : Option (List Bytes)). (replied lists answer h (Some e)).reply) same ∙ (told_any answer e f (lists.of f.value)).reply;
    effects = ap (λ (h : Option (List Bytes)). (replied lists answer h (Some e)).effects) same ∙ (told_any answer e f (lists.of f.value)).effects;
  };
}

of_list : (a : ListAsk) → IsOfList (λ e. answer_of a (Some e))
of_list (ask.Push k end AnyKey items) = changes _
of_list (ask.Push k end ExistingKey items) = changes _
of_list (ask.Pop k end None) = changes _
of_list (ask.Pop k end (Some most)) = changes _
of_list (ask.LLen k) = tells _
of_list (ask.LRange k first last) = tells _
of_list (ask.LIndex k index) = tells _
of_list (ask.LSet k index item) = changes _
of_list (ask.LInsert k side pivot item) = changes _
of_list (ask.LRem k count item) = changes _
of_list (ask.LTrim k first last) = changes _
of_list (ask.LMove from to taken put) = changes _
of_list (ask.RPopLPush from to) = changes _

-- at a key of another kind
pub takes_wrong : (a : ListAsk) (o : Option Entry) (r : Tree) (old : List Effect) → held lists o ≡ None → r ≡ wrong_kind → Takes (answer_of a o) r old old
takes_wrong a None r old is replied_so = cc
takes_wrong a (Some e) r old is replied_so =
    let w = (of_list a).wrong e is in
    takes_reply (answer_of a (Some e)) old w.effects (replied_so ∙ sym w.reply)

-- at a key with this list, or at an absent one
module _ (a : ListAsk) (l : Option (List Bytes)) (r : Tree) (old new : List Effect) (t : Takes (answer_of a (entry_with l)) r old new) where
  by_list : (e : Entry) (h : Option (List Bytes)) → lists.of e.value ≡ h → option_map Some h ≡ Some l → Takes (answer_of a (Some e)) r old new
  by_list e None at is = cc
  by_list e (Some xs) at is =
      let some : l ≡ Some xs = cc in
      let there : Takes (answer_of a (entry_with (Some xs))) r old new = subst (λ (x : Option (List Bytes)). Takes (answer_of a (entry_with x)) r old new) some t in
      let same = (of_list a).alike e (record { value = value.List xs; deadline = None }) at in
      record { reply_is = there.reply_is ∙ sym same.reply; effects_are = there.effects_are ∙ ap (λ es. old ++ es) (sym same.effects) }

  pub takes_found : (o : Option Entry) → found o ≡ Some l → Takes (answer_of a o) r old new
  takes_found None is =
      let none : l ≡ None = cc in
      subst (λ (x : Option (List Bytes)). Takes (answer_of a (entry_with x)) r old new) none t
  takes_found (Some e) is = by_list e (lists.of e.value) refl is
