-- Words that spell a command on keys are read as it.
use Rattle.std.proofs.Common.{ℕ, ◌≡◌, List, [], ◌∷◌, map, Some, None, refl, ap, subst}
use Rattle.std.specs.Prelude.{Ok}
use Rattle.mr_arguments.specs.Spelling.{Word, AreParts}
use Rattle.mr_arguments.proofs.ReadLemmas.{literals, words_are}
use Rattle.mr_cmd_key.proofs.ReadLemmas.{scan_is_read, expires, cleared}
use Rattle.mr_arguments.specs.declared.name.Name.TheVariants as name
use Rattle.mr_cmd_key.specs.Askable.{KeyIsAskable}
use Rattle.mr_ask.specs.Asks.{of_kind, reading}
use Rattle.mr_cmd_key.specs.Called.{key_name}
use Rattle.mr_cmd_key.specs.Carried.{key_words}
use Rattle.mr_cmd_key.specs.Spelled.{key_parts, AreOfKeys}
use Rattle.mr_arguments.specs.declared.expiry.Expiry.TheVariants.{Seconds, Milliseconds, AtSecond, AtMillisecond}
use Rattle.mr_cmd_key.specs.declared.key_ask.Databases.TheVariants as databases
use Rattle.mr_cmd_key.specs.declared.key_ask.KeyAsk.{KeyAsk}
use Rattle.mr_cmd_key.specs.declared.key_ask.KeyAsk.TheVariants as key
use Rattle.mr_ask.specs.declared.ask.Ask.TheVariants as ask

plain_read : (ws : List (List ℕ)) (a : KeyAsk) → key_parts a ≡ map Word (key_words a) → AreParts ws (key_parts a) → reading (key_name a) ws ≡ reading (key_name a) (key_words a)
plain_read ws a e s = ap (reading (key_name a)) (words_are ws (key_words a) (subst (AreParts ws) e s))

pub key_read : (ws : List (List ℕ)) (a : KeyAsk) → KeyIsAskable a → AreOfKeys ws a → reading (key_name a) ws ≡ Ok (ask.Keys a)
key_read ws (key.Del []) h s = absurd (h refl)
key_read ws (key.Del (k ∷ ks)) h s = plain_read ws (key.Del (k ∷ ks)) refl s
key_read ws (key.Unlink []) h s = absurd (h refl)
key_read ws (key.Unlink (k ∷ ks)) h s = plain_read ws (key.Unlink (k ∷ ks)) refl s
key_read ws (key.Exists []) h s = absurd (h refl)
key_read ws (key.Exists (k ∷ ks)) h s = plain_read ws (key.Exists (k ∷ ks)) refl s
key_read ws (key.KeyType k) h s = plain_read ws (key.KeyType k) refl s
key_read ws (key.Keys pattern) h s = plain_read ws (key.Keys pattern) refl s
key_read ws (key.Scan cursor pattern kind) h s = ap (of_kind ask.Keys) (scan_is_read cursor pattern kind ws s)
key_read ws key.DbSize h s = plain_read ws key.DbSize refl s
key_read ws (key.Rename from to) h s = plain_read ws (key.Rename from to) refl s
key_read ws (key.RenameNx from to) h s = plain_read ws (key.RenameNx from to) refl s
key_read ws (key.Clear databases.All None) h s = ap (reading name.FlushAll) (literals ws [] refl s)
key_read ws (key.Clear databases.Selected None) h s = ap (reading name.FlushDb) (literals ws [] refl s)
key_read ws (key.Clear databases.All (Some t)) h s = ap (of_kind ask.Keys) (cleared databases.All t ws s)
key_read ws (key.Clear databases.Selected (Some t)) h s = ap (of_kind ask.Keys) (cleared databases.Selected t ws s)
key_read ws (key.Expire k (Seconds n) c) h s = ap (of_kind ask.Keys) (expires name.Expire k (Seconds n) c ws h s)
key_read ws (key.Expire k (Milliseconds n) c) h s = ap (of_kind ask.Keys) (expires name.PExpire k (Milliseconds n) c ws h s)
key_read ws (key.Expire k (AtSecond n) c) h s = ap (of_kind ask.Keys) (expires name.ExpireAt k (AtSecond n) c ws h s)
key_read ws (key.Expire k (AtMillisecond n) c) h s = ap (of_kind ask.Keys) (expires name.PExpireAt k (AtMillisecond n) c ws h s)
key_read ws (key.Ttl k) h s = plain_read ws (key.Ttl k) refl s
key_read ws (key.PTtl k) h s = plain_read ws (key.PTtl k) refl s
key_read ws (key.ExpireTime k) h s = plain_read ws (key.ExpireTime k) refl s
key_read ws (key.PExpireTime k) h s = plain_read ws (key.PExpireTime k) refl s
key_read ws (key.Persist k) h s = plain_read ws (key.Persist k) refl s
