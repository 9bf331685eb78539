-- Items of a list replaced, inserted and removed.
use Rattle.std.specs.Prelude.{ℕ, ℤ, pos, negsuc, ◌+◌, List, [], ◌∷◌, length, slice_get, slice_set, slice_range, insert, Bool, false, ◌==◌, ◌&&◌, Option, Some, None}
use Rattle.std.specs.Str.{bytes_eq}
use Rattle.mr_map.specs.Bytes.{Bytes}
use Rattle.mr_resp.specs.Replies as reply
use Rattle.mr_value.specs.Lists.{without, removed_count, count_of}
use Rattle.mr_bytes.specs.Window.{named_place, window_of}
use Rattle.mr_bytes.specs.declared.ends.Side.{Side}
use Rattle.mr_keyspace.specs.Collections.{place_beside}
use Rattle.mr_keyspace.specs.declared.value.Entry.{Entry}
use Rattle.mr_effect.specs.declared.effect.Effect.TheVariants as effect
use Rattle.mr_cmd_shared.specs.Answered.{Answered, done}
use Rattle.mr_cmd_shared.specs.Collections.{Change}
use Rattle.mr_cmd_list.specs.Lists.{on_list, unchanged, unless, no_such_key, out_of_range}

-- ---- LSET key index item: OK, or why not

abbrev pub is_item : Bytes → Option Bytes → Bool
is_item item None = false
is_item item (Some x) = bytes_eq x item

abbrev pub with_item : Bytes → Bytes → Option ℕ → List Bytes → Change (List Bytes)
with_item k item None xs = unchanged out_of_range xs
with_item k item (Some place) xs = record {
  reply = done;
  value = slice_set xs place item;
  effects = unless (is_item item (slice_get xs place)) (effect.SetItem k (pos place) item);
}

abbrev pub lset_answer : Bytes → ℤ → Bytes → Option Entry → Answered
lset_answer k index item = on_list no_such_key (λ xs. with_item k item (named_place index (length xs)) xs)

-- ---- LINSERT key BEFORE|AFTER pivot item: the new length, -1 without a pivot, 0 where the key is absent

abbrev pub with_inserted : Bytes → Side → Bytes → Bytes → Option ℕ → List Bytes → Change (List Bytes)
with_inserted k side pivot item None xs = unchanged (reply.int (negsuc 0)) xs
with_inserted k side pivot item (Some place) xs = record {
  reply = reply.int (pos (length xs + 1));
  value = insert xs place item;
  effects = effect.InsertItem k side pivot item ∷ [];
}

abbrev pub linsert_answer : Bytes → Side → Bytes → Bytes → Option Entry → Answered
linsert_answer k side pivot item = on_list (reply.int (pos 0)) (λ xs. with_inserted k side pivot item (place_beside side pivot xs) xs)

-- ---- LREM key count item: how many are removed

abbrev pub without_equal : Bytes → ℤ → Bytes → ℕ → List Bytes → Change (List Bytes)
without_equal k count item removed xs = record {
  reply = reply.int (pos removed);
  value = without count item xs;
  effects = unless (removed == 0) (effect.RemoveItems k count item);
}

abbrev pub lrem_answer : Bytes → ℤ → Bytes → Option Entry → Answered
lrem_answer k count item = on_list (reply.int (pos 0)) (λ xs. without_equal k count item (removed_count count (count_of item xs)) xs)

-- ---- LTRIM key first last: OK

-- the window is the whole of so many places
abbrev pub is_whole : ℕ × ℕ → ℕ → Bool
is_whole w n = (w.0 == 0) && (w.1 + 1 == n)

-- a list of which nothing stays goes with its key
abbrev pub trimmed : Bytes → Option (ℕ × ℕ) → List Bytes → Change (List Bytes)
trimmed k None xs = record { reply = done; value = []; effects = effect.Del k ∷ [] }
trimmed k (Some w) xs = record {
  reply = done;
  value = slice_range xs w.0 (w.1 + 1);
  effects = unless (is_whole w (length xs)) (effect.Trim k (pos w.0) (pos w.1));
}

abbrev pub ltrim_answer : Bytes → ℤ → ℤ → Option Entry → Answered
ltrim_answer k first last = on_list done (λ xs. trimmed k (window_of first last (length xs)) xs)
