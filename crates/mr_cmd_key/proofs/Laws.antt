-- The effects of commands on keys are faithful.
use Rattle.std.proofs.Common.{◌≡◌, List, [], ◌∷◌, Some, None, refl, sym, ◌∙◌, ap}
use Rattle.std.specs.Prelude.{IsTrue, is_some, ℤ, pos}
use Rattle.std.specs.List.{list_all}
use Rattle.std.specs.FinMap.{len}
use Rattle.mr_map.specs.Bytes.{Bytes}
use Rattle.mr_bytes.specs.Words.{fits}
use Rattle.mr_bytes.proofs.Both.{first}
use Rattle.mr_resp.specs.Replies as reply
use Rattle.mr_keyspace.specs.Dataset.{Dataset}
use Rattle.mr_cmd_key.specs.Carried.{key_words}
use Rattle.mr_arguments.specs.Expiry.{deadline_at}
use Rattle.mr_cmd_key.specs.declared.key_ask.KeyAsk.{KeyAsk}
use Rattle.mr_cmd_key.specs.declared.key_ask.KeyAsk.TheVariants as ask
use Rattle.mr_cmd_shared.specs.Keys.{chosen, without, dels}
use Rattle.mr_cmd_shared.specs.Commands.{on_keys}
use Rattle.mr_cmd_shared.proofs.KeyLists.{dels_lead, chosen_fits, without_chosen, none_chosen}
use Rattle.mr_cmd_shared.proofs.Laws.{faithful, IsFaithfulAt, by_answer, by_telling, keys_answered, none_answered, IsLawful, dels_short}
use Rattle.mr_cmd_key.specs.Kinds.{type_reply}
use Rattle.mr_cmd_key.specs.Outcomes.{deleted, present}
use Rattle.mr_cmd_key.specs.Listing.{listed, bulks, scan_reply, from_cursor}
use Rattle.mr_cmd_key.specs.Commands.{command, HasDeadline}
use Rattle.mr_cmd_key.specs.Expiring.{expire_answer, persist_answer, answered_in}
use Rattle.mr_cmd_key.specs.declared.expiring.DeadlineForm.TheVariants as form
use Rattle.mr_cmd_key.proofs.Deadlines.{expire_faithful, persist_faithful}
use Rattle.mr_cmd_key.proofs.Renamings.{renamed_faithful, renamed_nx_faithful, cleared_faithful}

-- DEL, UNLINK
dels_none : (ks : List Bytes) → dels ks ≡ [] → ks ≡ []
dels_none [] h = refl
dels_none (k ∷ ks) h = cc

deleted_faithful : (ks : List Bytes) (m : Dataset) → IsTrue (list_all fits ks) → IsFaithfulAt (deleted ks m) m
deleted_faithful ks m h = record {
  leads = dels_lead (chosen is_some ks m) m (chosen_fits is_some ks m h) ∙ ap Some (without_chosen ks m);
  short = dels_short (chosen is_some ks m);
  none = λ e. sym (without_chosen ks m) ∙ ap (λ xs. without xs m) (dels_none _ e);
  some = λ e. ap dels (none_chosen ks m e);
}

-- ---- each command
pub keys_faithful : (c : KeyAsk) (now : ℤ) (m : Dataset) → IsTrue (list_all fits (key_words c)) → HasDeadline c now → IsLawful (command c now) now m
keys_faithful (ask.Del ks) now m h named = faithful (on_keys ks (deleted ks)) now m h (deleted_faithful ks _ h)
keys_faithful (ask.Unlink ks) now m h named = faithful (on_keys ks (deleted ks)) now m h (deleted_faithful ks _ h)
keys_faithful (ask.Exists ks) now m h named = keys_answered ks (λ n. reply.int (pos (present n ks))) now m h
keys_faithful (ask.KeyType k) now m h named = by_telling k type_reply now m h
keys_faithful (ask.Keys p) now m h named = none_answered (λ n. bulks (listed (Some p) None n)) now m
keys_faithful (ask.Scan c p k) now m h named = none_answered (λ n. scan_reply (from_cursor c (listed p k n))) now m
keys_faithful ask.DbSize now m h named = none_answered (λ n. reply.int (pos (len n))) now m
keys_faithful (ask.Rename from to) now m h named = renamed_faithful from to now m h
keys_faithful (ask.RenameNx from to) now m h named = renamed_nx_faithful from to now m h
keys_faithful (ask.Clear databases timing) now m h named = cleared_faithful now m
keys_faithful (ask.Expire k expiry when) now m h named = by_answer k (expire_answer k when now (deadline_at now expiry)) now m h (λ n. expire_faithful k when now (deadline_at now expiry) n (first _ _ h) named)
keys_faithful (ask.Ttl k) now m h named = by_telling k (λ o. reply.int (answered_in form.SecondsLeft now o)) now m h
keys_faithful (ask.PTtl k) now m h named = by_telling k (λ o. reply.int (answered_in form.MillisecondsLeft now o)) now m h
keys_faithful (ask.ExpireTime k) now m h named = by_telling k (λ o. reply.int (answered_in form.Second now o)) now m h
keys_faithful (ask.PExpireTime k) now m h named = by_telling k (λ o. reply.int (answered_in form.Millisecond now o)) now m h
keys_faithful (ask.Persist k) now m h named = by_answer k (persist_answer k) now m h (λ n. persist_faithful k n (first _ _ h))
