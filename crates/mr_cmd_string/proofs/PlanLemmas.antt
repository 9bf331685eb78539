-- The plan of a command on several keys, from what was seen there.
use Rattle.std.proofs.Common.{◌≡◌, List, [], ◌∷◌, ◌++◌, ℤ, refl, sym, ◌∙◌, ap}
use Rattle.std.specs.Prelude.{map}
use Rattle.std.specs.FinMap.{get}
use Rattle.mr_map.specs.Bytes.{Bytes}
use Rattle.mr_resp.specs.Replies as reply
use Rattle.mr_resp.specs.Replies.{Tree}
use Rattle.mr_resp.specs.ReplyView.{trees_of}
use Rattle.mr_keyspace.specs.Dataset.{Dataset}
use Rattle.mr_data.specs.Dataset.{seen}
use Rattle.mr_data.proofs.Seeing.{get-seen}
use Rattle.mr_effect.specs.declared.effect.Effect.{Effect}
use Rattle.mr_cmd_shared.specs.Keys.{dels, expired}
use Rattle.mr_cmd_shared.specs.Commands.{Plans, on_keys}
use Rattle.mr_cmd_shared.proofs.PlanLemmas.{on_keys_plans}
use Rattle.mr_cmd_string.specs.Texts.{found, told_texts, texts_at}

-- ---- the texts at several keys
live_texts : (now : ℤ) (m : Dataset) (ks : List Bytes) → texts_at now ks m ≡ map (λ k. found (get (seen now m) k)) ks
live_texts now m [] = refl
live_texts now m (k ∷ ks) = ap (λ o. found o ∷ texts_at now ks m) (sym (get-seen now m k)) ∙ ap (λ ts. found (get (seen now m) k) ∷ ts) (live_texts now m ks)

pub texts_plans : (ks : List Bytes) (now : ℤ) (m : Dataset) (r : Tree) (old new : List Effect) → new ≡ old ++ dels (expired now ks m) → r ≡ reply.array (trees_of (texts_at now ks m)) → Plans (on_keys ks (told_texts ks)) now m r old new
texts_plans ks now m r old new look replied = on_keys_plans ks (λ n. reply.array (trees_of (map (λ k. found (get n k)) ks))) now m r old new look (replied ∙ ap (λ ts. reply.array (trees_of ts)) (live_texts now m ks))
