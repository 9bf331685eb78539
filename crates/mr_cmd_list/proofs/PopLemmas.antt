-- Items in the order in which they are taken.
use Rattle.std.proofs.Common.{ℕ, ◌+◌, ◌-◌, ◌<◌, ◌≡◌, List, [], ◌∷◌, ◌++◌, length, take, sym, ◌∙◌, ap, arith}
use Rattle.std.specs.Prelude.{map, reverse, slice_get, Some}
use Rattle.std.proofs.lemmas.List.{take_more, map-append, get_or-reverse, length-reverse}
use Rattle.std.proofs.lemmas.Option.{get_or_from_slice_get, slice_get_within}
use Rattle.mr_map.specs.Bytes.{Bytes}
use Rattle.mr_resp.specs.Replies as reply
use Rattle.mr_resp.specs.ReplyView.{view}
use Rattle.mr_resp.specs.declared.reply.Reply.{Reply}
use Rattle.mr_bytes.specs.declared.ends.End.TheVariants.{Left, Right}
use Rattle.mr_cmd_list.specs.Pops.{taken_items}

module _ (xs : List Bytes) (i : ℕ) (x : Bytes) where
  pub left_more : slice_get xs i ≡ Some x → taken_items Left (i + 1) xs ≡ taken_items Left i xs ++ x ∷ []
  left_more h = take_more xs i x (slice_get_within xs i x h) ∙ ap (λ y. take i xs ++ y ∷ []) (get_or_from_slice_get xs i x x h)

  pub right_more : i < length xs → slice_get xs (length xs - 1 - i) ≡ Some x → taken_items Right (i + 1) xs ≡ taken_items Right i xs ++ x ∷ []
  right_more below h =
      take_more (reverse xs) i x (omega (arith, length-reverse xs))
      ∙ ap (λ y. take i (reverse xs) ++ y ∷ []) (get_or-reverse xs i x below ∙ get_or_from_slice_get xs (length xs - 1 - i) x x h)

-- one reply more
pub reply_more : (before after : List Bytes) (x : Bytes) (replies later : List Reply) (r : Reply) → later ≡ replies ++ r ∷ [] → view r ≡ reply.bytes x → map view replies ≡ map reply.bytes before → after ≡ before ++ x ∷ [] → map view later ≡ map reply.bytes after
reply_more before after x replies later r more is same one =
    ap (map view) more ∙ map-append view replies (r ∷ [])
    ∙ ap (λ ts. ts ++ view r ∷ []) same ∙ ap (λ t. map reply.bytes before ++ t ∷ []) is
    ∙ sym (map-append reply.bytes before (x ∷ [])) ∙ ap (map reply.bytes) (sym one)
