-- Items taken from an end of a list.
use Rattle.std.specs.Prelude.{ℕ, pos, min, List, [], ◌∷◌, length, take, reverse, ◌==◌, Option, Some, None}
use Rattle.mr_map.specs.Bytes.{Bytes}
use Rattle.mr_resp.specs.Replies as reply
use Rattle.mr_bytes.specs.declared.ends.End.{End}
use Rattle.mr_bytes.specs.declared.ends.End.TheVariants.{Left, Right}
use Rattle.mr_keyspace.specs.Collections.{end_item, popped}
use Rattle.mr_keyspace.specs.declared.value.Entry.{Entry}
use Rattle.mr_effect.specs.declared.effect.Effect.TheVariants as effect
use Rattle.mr_cmd_shared.specs.Answered.{Answered}
use Rattle.mr_cmd_shared.specs.Collections.{Change}
use Rattle.mr_cmd_list.specs.Lists.{on_list, unchanged, unless, items_reply}

abbrev pub without_item : Bytes → End → Option Bytes → List Bytes → Change (List Bytes)
without_item k end None xs = unchanged reply.null_bulk xs
without_item k end (Some item) xs = record { reply = reply.bytes item; value = popped end 1 xs; effects = effect.Pop k end (pos 1) ∷ [] }

-- the items at an end, at most so many, in the order in which they are taken
abbrev pub taken_items : End → ℕ → List Bytes → List Bytes
taken_items Left n xs = take n xs
taken_items Right n xs = take n (reverse xs)

abbrev pub without_items : Bytes → End → ℕ → List Bytes → Change (List Bytes)
without_items k end n xs = record {
  reply = items_reply (taken_items end n xs);
  value = popped end n xs;
  effects = unless (n == 0) (effect.Pop k end (pos n));
}

-- LPOP key, RPOP key: the item, nil where the key is absent. LPOP key most, RPOP key most: the items, of which there may be fewer,
-- and a null array where the key is absent.
abbrev pub pop_answer : Bytes → End → Option ℕ → Option Entry → Answered
pop_answer k end None = on_list reply.null_bulk (λ xs. without_item k end (end_item end xs) xs)
pop_answer k end (Some most) = on_list reply.null_array (λ xs. without_items k end (min most (length xs)) xs)
