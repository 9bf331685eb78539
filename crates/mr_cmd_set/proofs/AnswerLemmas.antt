-- Answers from what is done to the set at a key.
use Rattle.std.proofs.Common.{◌≡◌, List, [], ◌∷◌, ◌++◌, Option, Some, None, refl, sym, subst}
use Rattle.std.specs.Prelude.{ℤ, IsTrue}
use Rattle.std.specs.List.{list_all}
use Rattle.std.specs.FinMap.{get}
use Rattle.mr_map.specs.Bytes.{Bytes}
use Rattle.mr_bytes.specs.Words.{fits}
use Rattle.mr_resp.specs.Replies.{Tree}
use Rattle.mr_keyspace.specs.Dataset.{Dataset}
use Rattle.mr_data.specs.Dataset.{live}
use Rattle.mr_keyspace.specs.Steps.{sets, held}
use Rattle.mr_keyspace.specs.declared.value.Entry.{Entry}
use Rattle.mr_effect.specs.declared.effect.Effect.{Effect}
use Rattle.mr_cmd_shared.specs.Answered.{Takes, kept, wrong_kind}
use Rattle.mr_cmd_shared.specs.Keys.{dels, expired}
use Rattle.mr_cmd_shared.specs.Collections.{Change, telling, changed, changing}
use Rattle.mr_cmd_shared.specs.Commands.{on_key, before, Plans}
use Rattle.mr_cmd_shared.proofs.PlanLemmas.{on_key_plans, takes_reply}
use Rattle.mr_cmd_shared.proofs.Laws.{faithful, at_key_faithful, IsLawful}
use Rattle.mr_cmd_shared.proofs.Changing.{telling_faithful}
use Rattle.mr_cmd_set.specs.Members.{Members}
use Rattle.mr_cmd_set.specs.Sets.{Makes}

module _ (k : Bytes) (change : Members → Change Members) {now : ℤ} {m : Dataset} (o : Option Entry) {r : Tree} {old looked : List Effect} (is : o ≡ live now (get m k)) (look : looked ≡ old ++ dels (expired now (k ∷ []) m)) where
  -- at a key of another kind
  pub plans_wrong : held sets o ≡ None → r ≡ wrong_kind → Plans (on_key k (changing sets change)) now m r old looked
  plans_wrong none reply = on_key_plans k (changing sets change) now m o r old looked looked is look
      (subst (λ h. Takes (changed sets change h o) r looked looked) (sym none) (takes_reply (kept wrong_kind o) looked refl reply))

  -- at a key with this set
  pub plans_made : (s : Members) {new : List Effect} → held sets o ≡ Some s → Makes (change s) r looked new → Plans (on_key k (changing sets change)) now m r old new
  plans_made s {new} some made = on_key_plans k (changing sets change) now m o r old looked new is look
      (subst (λ h. Takes (changed sets change h o) r looked new) (sym some) (record { reply_is = made.reply_is; effects_are = made.effects_are }))

pub tells_faithful : (k : Bytes) (answer : Members → Tree) (now : ℤ) (m : Dataset) → IsTrue (list_all fits (k ∷ [])) → IsLawful (on_key k (telling sets answer)) now m
tells_faithful k answer now m h =
    let command = on_key k (telling sets answer) in
    faithful command now m h (at_key_faithful k (telling sets answer) (before command now m) (telling_faithful sets answer k (before command now m)))
