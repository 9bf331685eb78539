-- What commands on strings tell of what others left.
use Rattle.std.proofs.Common.{ℕ, pos, ◌+ℤ◌, ◌≡◌, ◌≤◌, ◌<◌, ◌+◌, ◌-◌, List, [], ◌∷◌, ◌++◌, length, take, drop, map, replicate, length-append, length-take, length-drop, append_assoc, true, false, Option, Some, None, refl, sym, ◌∙◌, ap, arith}
use Rattle.std.specs.Prelude.{◌≢◌, codes, slice_range, if◌then◌else◌}
use Rattle.std.specs.Int.{int_min, int_max}
use Rattle.std.specs.Fmt.{signed_decimal}
use Rattle.std.specs.FinMap.{get}
use Rattle.std.proofs.lemmas.Bool.{ne_eqb}
use Rattle.std.proofs.lemmas.Int.{ints, clamps}
use Rattle.std.proofs.lemmas.List.{length-replicate, take_at, drop_at}
use Rattle.mr_map.specs.Bytes.{Bytes}
use Rattle.mr_bytes.specs.Number.{is_i64, number_of}
use Rattle.mr_bytes.specs.Texts.{overwritten}
use Rattle.mr_bytes.specs.Window.{place_of, window_of, windowed}
use Rattle.mr_bytes.specs.Words.{fits}
use Rattle.mr_bytes.proofs.Windows.{some_window}
use Rattle.mr_resp.specs.Replies as reply
use Rattle.mr_resp.specs.Replies.{Tree}
use Rattle.mr_resp.specs.ReplyView.{trees_of}
use Rattle.mr_effect.specs.declared.effect.Effect.TheVariants as effect
use Rattle.mr_keyspace.specs.Steps.{strings, held, text_of}
use Rattle.mr_keyspace.specs.declared.value.Value.{Value}
use Rattle.mr_keyspace.specs.declared.value.Value.TheVariants as value
use Rattle.mr_keyspace.specs.declared.value.Entry.{Entry}
use Rattle.mr_cmd_shared.specs.Answered.{kept, wrong_kind, overflow}
use Rattle.mr_cmd_string.specs.Texts.{get_reply, strlen_reply, getrange_reply, found, text_or_null, of_value}
use Rattle.mr_cmd_string.specs.Setting.{holds_other, is_other}
use Rattle.mr_cmd_string.specs.Changing.{rewritten, length_of, too_long, lengthened, appended, put_over, increase_from, increase_text}
use Rattle.mr_cmd_string.specs.Laws.{AppendAnswersLength, AppendIsRead, SetRangeIsRead, IncreaseIsRead, IncreaseAdds, MGetIsGetOfEach}

-- ---- APPEND
other_value : (answer : Bytes → Tree) (v : Value) → text_of v ≡ None → wrong_kind ≡ of_value answer v
other_value answer (value.Text t) h = cc
other_value answer (value.Hash t) h = refl
other_value answer (value.List t) h = refl
other_value answer (value.Set t) h = refl
other_value answer (value.SortedSet t) h = refl

other_length : (before : Option Entry) → held (strings []) before ≡ None → wrong_kind ≡ strlen_reply before
other_length None h = cc
other_length (Some e) h = other_value (λ text. reply.int (pos (length text))) e.value h

pub append_length : AppendAnswersLength
append_length k more before =
    elim (held (strings []) before) as (λ h. held (strings []) before ≡ h → (appended k more h before).reply ≢ too_long → (appended k more h before).reply ≡ strlen_reply (appended k more h before).entry) [
      | None ↦ λ e short. other_length before e
      | Some text ↦ λ e.
          elim (fits (text ++ more)) as (λ b.
          (if b then rewritten (text ++ more) (effect.Append k more) (length_of (text ++ more)) before else kept too_long before).reply ≢ too_long
          → (if b then rewritten (text ++ more) (effect.Append k more) (length_of (text ++ more)) before else kept too_long before).reply
          ≡ strlen_reply (if b then rewritten (text ++ more) (effect.Append k more) (length_of (text ++ more)) before else kept too_long before).entry) [
            | true ↦ λ short. refl
            | false ↦ λ short. absurd (short refl)
          ]
    ] refl

pub append_read : AppendIsRead
append_read k text more before is fit =
    ap (λ h. get_reply (appended k more h before).entry) is
    ∙ ap (λ b. get_reply (if b then rewritten (text ++ more) (effect.Append k more) (length_of (text ++ more)) before else kept too_long before).entry) fit

-- ---- SETRANGE
before_size : (t : List ℕ) (offset n : ℕ) → length (take offset t ++ replicate (offset - length t) 0) ≡ n → n ≡ offset
before_size t offset n h = omega (arith, simp (length-append, length-take, length-replicate) at h)

reach : (t v : List ℕ) (offset n : ℕ) → length (overwritten offset v t) ≡ n → offset + length v ≤ n
unfolding overwritten
reach t v offset n h =
    let all : length (take offset t ++ (replicate (offset - length t) 0 ++ (v ++ drop (offset + length v) t))) ≡ n = h in
    omega (arith, simp (length-append, length-take, length-replicate, length-drop) at all)

behind : (t v : List ℕ) (offset : ℕ) → drop offset (overwritten offset v t) ≡ v ++ drop (offset + length v) t
unfolding overwritten
behind t v offset =
    let front : List ℕ = take offset t ++ replicate (offset - length t) 0 in
    ap (drop offset) (sym (append_assoc (take offset t) (replicate (offset - length t) 0) (v ++ drop (offset + length v) t)))
    ∙ drop_at front (v ++ drop (offset + length v) t) offset (before_size t offset (length front) refl)

-- what was put is there
part_is : (t v : List ℕ) (offset : ℕ) → slice_range (overwritten offset v t) offset (offset + length v) ≡ v
part_is t v offset =
    let long : length v ≡ offset + length v - offset = omega arith in
    ap (take (offset + length v - offset)) (behind t v offset) ∙ take_at v (drop (offset + length v) t) (offset + length v - offset) long

module _ (first last n : ℕ) (some : first ≤ last) (within : last < n) where
  starts : pos first ≡ int_max (pos 0) (place_of (pos first) n)
  starts = omega (arith, ints, clamps)

  ends : pos (last + 1) ≡ int_max (pos 0) (int_min (place_of (pos last) n +ℤ pos 1) (pos n))
  ends = omega (arith, ints, clamps)

  window_is : window_of (pos first) (pos last) n ≡ Some (first, last + 1 - 1)
  window_is = sym (some_window (pos first) (pos last) n first (last + 1) starts ends (omega arith))

read_back : (t v : List ℕ) (offset last : ℕ) → 0 < length v → offset + length v ≡ last + 1 → windowed (window_of (pos offset) (pos last) (length (overwritten offset v t))) (overwritten offset v t) ≡ v
read_back t v offset last some is =
    let size : ℕ = length (overwritten offset v t) in
    let long : offset + length v ≤ size = reach t v offset size refl in
    let end : last + 1 - 1 + 1 ≡ offset + length v = omega arith in
    ap (λ w. windowed w (overwritten offset v t)) (window_is offset last size (omega arith) (omega arith))
    ∙ ap (slice_range (overwritten offset v t) offset) end
    ∙ part_is t v offset

pub setrange_read : SetRangeIsRead
setrange_read k text part offset last before is fit some end =
    let written : Bytes = overwritten offset part text in
    let made = effect.SetRange k (pos offset) part in
    ap (λ h. getrange_reply (pos offset) (pos last) (put_over k offset part h before).entry) is
    ∙ ap (λ b. getrange_reply (pos offset) (pos last) (if b then kept (length_of text) before else lengthened written made before).entry) (ne_eqb (length part) 0 (λ e. omega (arith, e, some)))
    ∙ ap (λ b. getrange_reply (pos offset) (pos last) (if b then rewritten written made (length_of written) before else kept too_long before).entry) fit
    ∙ ap reply.bytes (read_back text part offset last some end)

-- ---- INCR and its kin
pub increase_read : IncreaseIsRead
increase_read k by n before =
    elim (held (strings (codes "0")) before) as (λ h. (increase_text k by h before).reply ≡ reply.int n → get_reply (increase_text k by h before).entry ≡ reply.bytes (signed_decimal n)) [
      | None ↦ λ e. cc
      | Some text ↦ elim (number_of text) as (λ o. (increase_from k by o before).reply ≡ reply.int n → get_reply (increase_from k by o before).entry ≡ reply.bytes (signed_decimal n)) [
        | None ↦ λ e. cc
        | Some a ↦ elim (is_i64 (a +ℤ by)) as (λ b.
            (if b then rewritten (signed_decimal (a +ℤ by)) (effect.Increase k by) (reply.int (a +ℤ by)) before else kept overflow before).reply ≡ reply.int n
            → get_reply (if b then rewritten (signed_decimal (a +ℤ by)) (effect.Increase k by) (reply.int (a +ℤ by)) before else kept overflow before).entry ≡ reply.bytes (signed_decimal n)) [
              | true ↦ λ e. let same : a +ℤ by ≡ n = cc in ap (λ z. reply.bytes (signed_decimal z)) same
              | false ↦ λ e. cc
            ]
      ]
    ]

pub increase_sum : IncreaseAdds
increase_sum k by n before is fit =
    ap (λ h. (increase_text k by h before).reply) is.held_is
    ∙ ap (λ o. (increase_from k by o before).reply) is.number
    ∙ ap (λ b. (if b then rewritten (signed_decimal (n +ℤ by)) (effect.Increase k by) (reply.int (n +ℤ by)) before else kept overflow before).reply) fit

-- ---- MGET
got_value : (v : Value) → text_or_null v ≡ (if is_other v then reply.null_bulk else of_value reply.bytes v)
got_value (value.Text t) = refl
got_value (value.Hash t) = refl
got_value (value.List t) = refl
got_value (value.Set t) = refl
got_value (value.SortedSet t) = refl

got_one : (o : Option Entry) → found o ≡ (if holds_other o then reply.null_bulk else get_reply o)
got_one None = refl
got_one (Some e) = got_value e.value

each_same : {X Y : Type 0} (f g : X → Y) → ((x : X) → f x ≡ g x) → (xs : List X) → map f xs ≡ map g xs
each_same f g h [] = refl
each_same f g h (x ∷ xs) = ap (λ y. y ∷ map f xs) (h x) ∙ ap (λ ys. g x ∷ ys) (each_same f g h xs)

pub each_got : MGetIsGetOfEach
each_got ks m = ap (λ ts. reply.array (trees_of ts)) (each_same _ _ (λ k. got_one (get m k)) ks)
