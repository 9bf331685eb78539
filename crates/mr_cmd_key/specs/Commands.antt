-- The commands on keys whatever they hold.
use Rattle.std.specs.Prelude.{ℤ, [], ◌∷◌}
use Rattle.mr_cmd_shared.specs.Commands.{Command, on_key, on_keys, on_none}
use Rattle.mr_arguments.specs.Expiry.{deadline_at}
use Rattle.mr_cmd_key.specs.declared.key_ask.KeyAsk.{KeyAsk}
use Rattle.mr_cmd_key.specs.declared.key_ask.KeyAsk.TheVariants as ask
use Rattle.mr_cmd_key.specs.Kinds.{type_answer}
use Rattle.mr_cmd_key.specs.Outcomes.{deleted, counted}
use Rattle.mr_cmd_key.specs.Renaming.{renamed, renamed_nx, cleared}
use Rattle.mr_cmd_key.specs.Listing.{matching, scanned, sized}
use Rattle.mr_cmd_key.specs.Expiring.{expire_answer, persist_answer, deadline_answer, CanBeNamed}
use Rattle.mr_cmd_key.specs.declared.expiring.DeadlineForm.TheVariants as form

-- what a command is, at a moment
abbrev pub command : KeyAsk → ℤ → Command
command (ask.Del ks) now = on_keys ks (deleted ks)
command (ask.Unlink ks) now = on_keys ks (deleted ks)
command (ask.Exists ks) now = on_keys ks (counted ks)
command (ask.KeyType k) now = on_key k type_answer
command (ask.Keys pattern) now = on_none (matching pattern)
command (ask.Scan cursor pattern kind) now = on_none (scanned cursor pattern kind)
command ask.DbSize now = on_none sized
command (ask.Rename from to) now = on_keys (from ∷ to ∷ []) (renamed from to)
command (ask.RenameNx from to) now = on_keys (from ∷ to ∷ []) (renamed_nx from to)
command (ask.Clear databases timing) now = on_none cleared
command (ask.Expire k expiry when) now = on_key k (expire_answer k when now (deadline_at now expiry))
command (ask.Ttl k) now = on_key k (deadline_answer form.SecondsLeft now)
command (ask.PTtl k) now = on_key k (deadline_answer form.MillisecondsLeft now)
command (ask.ExpireTime k) now = on_key k (deadline_answer form.Second now)
command (ask.PExpireTime k) now = on_key k (deadline_answer form.Millisecond now)
command (ask.Persist k) now = on_key k (persist_answer k)

-- an effect can name the deadline that a command sets
abbrev pub HasDeadline : KeyAsk → ℤ → Type 0
HasDeadline (ask.Expire k expiry when) now = CanBeNamed now (deadline_at now expiry)
HasDeadline _ now = Unit {0}
