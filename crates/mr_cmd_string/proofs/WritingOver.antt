-- Texts that are written over, and numbers that are added to.
use Rattle.std.proofs.Common.{ℕ, ℤ, pos, ◌≡◌, ◌≤◌, ◌<◌, ◌+◌, ◌-◌, ◌^◌, List, [], ◌∷◌, ◌++◌, length, take, drop, replicate, length-append, length-take, length-drop, Bool, true, false, ◌&&◌, Option, Some, None, refl, sym, ◌∙◌, ap, subst, arith}
use Rattle.std.specs.Prelude.{◌+ℤ◌, ◌==◌, codes, is_some, slice_range, if◌then◌else◌}
use Rattle.std.specs.Fmt.{signed_decimal}
use Rattle.std.specs.Ordering.{int_eq}
use Rattle.std.specs.Str.{bytes_eq}
use Rattle.std.proofs.lemmas.List.{length-replicate, take-append-drop, append_cancel_left, append_cancel_right}
use Rattle.std.proofs.lemmas.List.Folds.{drop_split}
use Rattle.mr_map.specs.Bytes.{Bytes}
use Rattle.mr_bytes.specs.Number.{is_i64, number_of}
use Rattle.mr_bytes.specs.Texts.{overwritten}
use Rattle.mr_bytes.specs.Words.{fits}
use Rattle.std.proofs.lemmas.Int.{ints}
use Rattle.mr_bytes.proofs.Numbers.{number_of-signed_decimal, same_bytes, equal_bytes}
use Rattle.mr_bytes.proofs.Texts.{ends_within}
use Rattle.mr_resp.specs.Replies as reply
use Rattle.mr_resp.specs.Replies.{Tree}
use Rattle.mr_effect.specs.declared.effect.Effect.{Effect}
use Rattle.mr_effect.specs.declared.effect.Effect.TheVariants as effect
use Rattle.mr_keyspace.specs.Steps.{strings, held, text_of}
use Rattle.mr_keyspace.specs.declared.value.Value.{Value}
use Rattle.mr_keyspace.specs.declared.value.Value.TheVariants as value
use Rattle.mr_keyspace.specs.declared.value.Entry.{Entry}
use Rattle.mr_cmd_shared.specs.Answered.{Takes, overflow}
use Rattle.mr_cmd_shared.proofs.PlanLemmas.{takes_reply}
use Rattle.mr_cmd_string.specs.Setting.{is_text}
use Rattle.mr_cmd_string.specs.Changing.{holds, rewritten, length_of, too_long, lengthened, put_over, setrange_answer, increase_from, increase_text, increase_answer}

-- ---- how long a text is that is written over
sizes : (t v : List ℕ) (offset n : ℕ) → length (overwritten offset v t) ≡ n → (length t ≤ offset + length v → offset + length v ≡ n) × (offset + length v ≤ length t → length t ≡ n)
unfolding overwritten
sizes t v offset n h =
    let all : length (take offset t ++ (replicate (offset - length t) 0 ++ (v ++ drop (offset + length v) t))) ≡ n = h in
    ((λ a. omega (arith, a, simp (length-append, length-take, length-replicate, length-drop) at all)), (λ b. omega (arith, b, simp (length-append, length-take, length-replicate, length-drop) at all)))

pub ends_behind : (t v : List ℕ) (offset : ℕ) → length t ≤ offset + length v → offset + length v ≡ length (overwritten offset v t)
ends_behind t v offset = (sizes t v offset _ refl).0

pub ends_inside : (t v : List ℕ) (offset : ℕ) → offset + length v ≤ length t → length t ≡ length (overwritten offset v t)
ends_inside t v offset = (sizes t v offset _ refl).1

-- ---- whether it is what it was
same_tests : (a b : Bool) → (a ≡ true → b ≡ true) → (b ≡ true → a ≡ true) → a ≡ b
same_tests true b f g = sym (f refl)
same_tests false true f g = g refl
same_tests false false f g = refl

no_zeros : (n : ℕ) → n ≡ 0 → replicate {A = ℕ} n 0 ≡ []
no_zeros n h = ap (λ k. replicate {A = ℕ} k 0) h

inside : (t v : List ℕ) (offset : ℕ) → offset + length v ≤ length t → overwritten offset v t ≡ take offset t ++ (v ++ drop (offset + length v) t)
unfolding overwritten
inside t v offset h = ap (λ zs. take offset t ++ (zs ++ (v ++ drop (offset + length v) t))) (no_zeros (offset - length t) (omega (arith, h)))

whole : (t v : List ℕ) (offset : ℕ) → t ≡ take offset t ++ (slice_range t offset (offset + length v) ++ drop (offset + length v) t)
whole t v offset = sym (take-append-drop offset t) ∙ ap (λ xs. take offset t ++ xs) (drop_split t offset (offset + length v) (omega arith))

pub part_there : (t v : List ℕ) (offset : ℕ) → offset + length v ≤ length t → bytes_eq (slice_range t offset (offset + length v)) v ≡ bytes_eq t (overwritten offset v t)
part_there t v offset h =
    let s : List ℕ = slice_range t offset (offset + length v) in
    let rest : List ℕ = drop (offset + length v) t in
    same_tests _ _
    (λ a. let same : t ≡ overwritten offset v t = whole t v offset ∙ ap (λ xs. take offset t ++ (xs ++ rest)) (same_bytes s v a) ∙ sym (inside t v offset h) in ap (bytes_eq t) (sym same) ∙ equal_bytes t)
    (λ b. let same : s ++ rest ≡ v ++ rest = append_cancel_left (take offset t) (s ++ rest) (v ++ rest) (sym (whole t v offset) ∙ same_bytes t (overwritten offset v t) b ∙ inside t v offset h) in
    ap (bytes_eq s) (sym (append_cancel_right s v rest same)) ∙ equal_bytes s)

pub part_behind : (t v : List ℕ) (offset : ℕ) → length t < offset + length v → false ≡ bytes_eq t (overwritten offset v t)
part_behind t v offset h = elim (bytes_eq t (overwritten offset v t)) as (λ b. bytes_eq t (overwritten offset v t) ≡ b → false ≡ b) [
  | true ↦ λ e. let same : length t ≡ length (overwritten offset v t) = ap length (same_bytes t _ e) in absurd (omega (arith, h, same, ends_behind t v offset (omega (arith, h))))
  | false ↦ λ e. refl
] refl

-- ---- what a key holds
held_is : (text t : Bytes) (v : Value) → text_of v ≡ Some t → is_text text v ≡ bytes_eq t text
held_is text t (value.Text s) h = let same : s ≡ t = cc in ap (λ x. bytes_eq x text) same
held_is text t (value.Hash s) h = cc
held_is text t (value.List s) h = cc
held_is text t (value.Set s) h = cc
held_is text t (value.SortedSet s) h = cc

-- ---- SETRANGE
pub small_end : (t v : List ℕ) (offset : ℕ) → fits (overwritten offset v t) ≡ true → offset + length v < 2 ^ 63
small_end t v offset h = omega (arith, ends_within t v offset h)

module _ (k part text : Bytes) (offset : ℕ) (o : Option Entry) (is : held (strings []) o ≡ Some text) (some : (length part == 0) ≡ false) (within : fits (overwritten offset part text) ≡ true) where
  put_over_is : setrange_answer k offset part o ≡ rewritten (overwritten offset part text) (effect.SetRange k (pos offset) part) (length_of (overwritten offset part text)) o
  put_over_is =
      ap (λ h. put_over k offset part h o) is
      ∙ ap (λ b. if b then record { reply = length_of text; entry = o; effects = [] } else lengthened (overwritten offset part text) (effect.SetRange k (pos offset) part) o) some
      ∙ ap (λ b. if b then rewritten (overwritten offset part text) (effect.SetRange k (pos offset) part) (length_of (overwritten offset part text)) o else record { reply = too_long; entry = o; effects = [] }) within

  -- an absent key has no byte to be written over
  there : bytes_eq text (overwritten offset part text) ≡ true → holds (overwritten offset part text) o ≡ true
  there same = elim o as (λ (x : Option Entry). held (strings []) x ≡ Some text → holds (overwritten offset part text) x ≡ true) [
    | None ↦ λ e. absurd (nothing (let none : text ≡ [] = cc in none) same)
    | Some f ↦ λ e. held_is (overwritten offset part text) text f.value e ∙ same
  ] is
    where
      never : (p : List ℕ) → (length p == 0) ≡ false → length p ≡ 0 → ⊥
      never [] h e = cc
      never (x ∷ xs) h e = omega (arith, e)

      nothing : text ≡ [] → bytes_eq text (overwritten offset part text) ≡ true → ⊥
      nothing none h =
          let no_bytes : length text ≡ 0 = ap length none in
          let long : offset + length part ≡ length (overwritten offset part text) = ends_behind text part offset (omega (arith, no_bytes)) in
          let alike : length text ≡ length (overwritten offset part text) = ap length (same_bytes text _ h) in
          never part some (omega (arith, no_bytes, long, alike))

  not_there : bytes_eq text (overwritten offset part text) ≡ false → holds (overwritten offset part text) o ≡ false
  not_there differs = elim o as (λ (x : Option Entry). held (strings []) x ≡ Some text → holds (overwritten offset part text) x ≡ false) [
    | None ↦ λ e. refl
    | Some f ↦ λ e. held_is (overwritten offset part text) text f.value e ∙ differs
  ] is

  pub written_before : (r : Tree) (old : List Effect) → bytes_eq text (overwritten offset part text) ≡ true → r ≡ reply.int (pos (length text)) → Takes (setrange_answer k offset part o) r old old
  written_before r old same replied_so =
      subst (λ t. Takes t r old old) (sym put_over_is)
      (takes_reply _ old (ap (λ b. let none : List Effect = [] in if b then none else effect.SetRange k (pos offset) part ∷ []) (there same)) (replied_so ∙ ap (λ (x : Bytes). length_of x) (same_bytes text _ same)))

  pub written_over : (r : Tree) (old new : List Effect) → bytes_eq text (overwritten offset part text) ≡ false → r ≡ reply.int (pos (length (overwritten offset part text))) → new ≡ old ++ effect.SetRange k (pos offset) part ∷ [] → Takes (setrange_answer k offset part o) r old new
  written_over r old new differs replied_so put =
      subst (λ t. Takes t r old new) (sym put_over_is)
      (record { reply_is = replied_so; effects_are = put ∙ ap (λ b. old ++ (if b then [] else effect.SetRange k (pos offset) part ∷ [])) (sym (not_there differs)) })

-- ---- INCR and its kin
no_more : (n by : ℤ) → n ≡ n +ℤ by → by ≡ pos 0
no_more n by h = omega (arith, ints, h)

module _ (k text : Bytes) (by n : ℤ) (o : Option Entry) (is : held (strings (codes "0")) o ≡ Some text) (spelled : number_of text ≡ Some n) (within : is_i64 (n +ℤ by) ≡ true) where
  increase_is : increase_answer k by o ≡ rewritten (signed_decimal (n +ℤ by)) (effect.Increase k by) (reply.int (n +ℤ by)) o
  increase_is =
      ap (λ h. increase_text k by h o) is
      ∙ ap (λ a. increase_from k by a o) spelled
      ∙ ap (λ b. if b then rewritten (signed_decimal (n +ℤ by)) (effect.Increase k by) (reply.int (n +ℤ by)) o else record { reply = overflow; entry = o; effects = [] }) within

  not_zero : int_eq by (pos 0) ≡ false → bytes_eq text (signed_decimal (n +ℤ by)) ≡ false
  not_zero differs = elim (bytes_eq text (signed_decimal (n +ℤ by))) as (λ b. bytes_eq text (signed_decimal (n +ℤ by)) ≡ b → b ≡ false) [
    | true ↦ λ e.
        let both : Some n ≡ Some (n +ℤ by) = sym spelled ∙ ap number_of (same_bytes text _ e) ∙ number_of-signed_decimal (n +ℤ by) within in
        let same : n ≡ n +ℤ by = cc in
        let wrong : true ≡ false = ap (λ z. int_eq z (pos 0)) (sym (no_more n by same)) ∙ differs in
        cc
    | false ↦ λ e. refl
  ] refl

  other : (is_some o && int_eq by (pos 0)) ≡ false → holds (signed_decimal (n +ℤ by)) o ≡ false
  other differs = elim o as (λ (x : Option Entry). held (strings (codes "0")) x ≡ Some text → (is_some x && int_eq by (pos 0)) ≡ false → holds (signed_decimal (n +ℤ by)) x ≡ false) [
    | None ↦ λ e d. refl
    | Some f ↦ λ e d. held_is (signed_decimal (n +ℤ by)) text f.value e ∙ not_zero d
  ] is differs

  pub increased : (sum : ℤ) (r : Tree) (old new : List Effect) → (is_some o && int_eq by (pos 0)) ≡ false → sum ≡ n +ℤ by → r ≡ reply.int sum → new ≡ old ++ effect.Increase k by ∷ [] → Takes (increase_answer k by o) r old new
  increased sum r old new differs total replied_so put =
      subst (λ t. Takes t r old new) (sym increase_is)
      (record { reply_is = replied_so ∙ ap reply.int total; effects_are = put ∙ ap (λ b. old ++ (if b then [] else effect.Increase k by ∷ [])) (sym (other differs)) })
