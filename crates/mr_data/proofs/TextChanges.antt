-- Effects on texts, and on whole entries, leave a dataset a dataset.
use Rattle.std.proofs.Common.{◌≡◌, ℤ, List, [], ◌∷◌, ◌++◌, true, false, IsTrue, Some, None, refl, subst, codes, length, arith}
use Rattle.std.specs.Prelude.{◌+ℤ◌, ◌+◌, ◌≤◌, ◌==◌, if◌then◌else◌, unsigned_abs}
use Rattle.std.specs.Option.{option_map, option_and_then}
use Rattle.std.specs.List.{list_all}
use Rattle.std.specs.Fmt.{signed_decimal}
use Rattle.std.specs.FinMap.{get, insert, remove}
use Rattle.std.proofs.lemmas.Bool.{le-leb, ltb-true}
use Rattle.std.proofs.lemmas.Fmt.{length_signed_le}
use Rattle.mr_map.specs.Bytes.{Bytes}
use Rattle.mr_bytes.specs.Number.{is_i64, number_of}
use Rattle.mr_bytes.specs.Texts.{overwritten}
use Rattle.mr_bytes.specs.Words.{fits}
use Rattle.mr_bytes.proofs.Both.{first, second}
use Rattle.mr_effect.specs.Effects.{pair_fits}
use Rattle.mr_keyspace.specs.Dataset.{Dataset}
use Rattle.mr_data.specs.Dataset.{IsWord, IsDataset, IsValue}
use Rattle.mr_keyspace.specs.Steps.{strings, held, same, on, without_deadline, append_step, set_range_step, increase_step}
use Rattle.mr_keyspace.specs.Texts.{fitting, sum_of, increased}
use Rattle.mr_keyspace.specs.Changes.{with_texts, rename}
use Rattle.mr_keyspace.specs.declared.value.Value.{Value}
use Rattle.mr_keyspace.specs.declared.value.Value.TheVariants as value
use Rattle.mr_data.proofs.Datasets.{Keeps, Stands, Suits, on_keeps, put_keeps}

texts_suit : (absent : Bytes) → IsWord absent → Suits (strings absent) IsWord
texts_suit absent fit = record { none = fit; taken = taken_text; put = λ x some is. is }
  where
    taken_text : (v : Value) (x : Bytes) → (strings absent).of v ≡ Some x → IsValue v → IsWord x
    taken_text (value.Text s) x h is = let one : s ≡ x = cc in subst IsWord one is
    taken_text (value.Hash s) x h is = cc
    taken_text (value.List s) x h is = cc
    taken_text (value.Set s) x h is = cc
    taken_text (value.SortedSet s) x h is = cc

fitting_fits : (x y : Bytes) → fitting x ≡ Some y → IsWord y
fitting_fits x y h =
    elim (fits x) as (λ b. fits x ≡ b → (if b then Some x else None) ≡ Some y → IsWord y) [
      | true ↦ λ t i. let one : x ≡ y = cc in subst IsWord one t
      | false ↦ λ t i. cc
    ] refl h

pub append_keeps : (more : Bytes) → Keeps (append_step more)
append_keeps more = on_keeps (strings []) IsWord (texts_suit [] refl) (λ text. fitting (text ++ more)) (λ x y fit h. fitting_fits (x ++ more) y h)

same_keeps : (absent : Bytes) → Keeps (same (strings absent))
same_keeps absent before after has h =
    elim (held (strings absent) before) as (λ o. option_map (λ x. before) o ≡ Some after → Stands after) [
      | None ↦ λ i. cc
      | Some x ↦ λ i. let one : before ≡ after = cc in subst Stands one has
    ] h

pub set_range_keeps : (offset : ℤ) (part : Bytes) → Keeps (set_range_step offset part)
set_range_keeps offset part =
    elim (length part == 0) as (λ b. Keeps (if b then same (strings []) else on (strings []) (λ text. fitting (overwritten (unsigned_abs offset) part text)))) [
      | true ↦ same_keeps []
      | false ↦ on_keeps (strings []) IsWord (texts_suit [] refl) (λ text. fitting (overwritten (unsigned_abs offset) part text)) (λ x y fit h. fitting_fits (overwritten (unsigned_abs offset) part x) y h)
    ]

number_fits : (n : ℤ) → is_i64 n ≡ true → IsWord (signed_decimal n)
number_fits n h = let few : length (signed_decimal n) ≤ 20 + 1 = length_signed_le 20 n (omega (arith, ltb-true _ _ h)) (ltb-true _ _ h) in le-leb _ _ (omega arith)

sum_is : (a b n : ℤ) → sum_of a b ≡ Some n → is_i64 n ≡ true
sum_is a b n h =
    elim (is_i64 (a +ℤ b)) as (λ t. is_i64 (a +ℤ b) ≡ t → (if t then Some (a +ℤ b) else None) ≡ Some n → is_i64 n ≡ true) [
      | true ↦ λ t i. let one : a +ℤ b ≡ n = cc in subst (λ z. is_i64 z ≡ true) one t
      | false ↦ λ t i. cc
    ] refl h

increased_fits : (by : ℤ) (x y : Bytes) → increased by x ≡ Some y → IsWord y
increased_fits by x y h =
    elim (number_of x) as (λ o. option_map signed_decimal (option_and_then (λ n. sum_of n by) o) ≡ Some y → IsWord y) [
      | None ↦ λ i. cc
      | Some n ↦ λ i. elim (sum_of n by) as (λ o. sum_of n by ≡ o → option_map signed_decimal o ≡ Some y → IsWord y) [
        | None ↦ λ t j. cc
        | Some sum ↦ λ t j. let one : signed_decimal sum ≡ y = cc in subst IsWord one (number_fits sum (sum_is n by sum t))
      ] refl i
    ] h

pub increase_keeps : (by : ℤ) → Keeps (increase_step by)
increase_keeps by = on_keeps (strings (codes "0")) IsWord (texts_suit (codes "0") refl) (increased by) (λ x y fit h. increased_fits by x y h)

pub with_texts_keeps : (ps : List (Bytes × Bytes)) (m : Dataset) → IsTrue (list_all pair_fits ps) → IsDataset m → IsDataset (with_texts ps m)
with_texts_keeps [] m fit old = old
with_texts_keeps (p ∷ ps) m fit old =
    let here = first (pair_fits p) (list_all pair_fits ps) fit in
    with_texts_keeps ps (insert m p.0 (without_deadline (value.Text p.1))) (second (pair_fits p) (list_all pair_fits ps) fit)
    (put_keeps m p.0 (Some (without_deadline (value.Text p.1))) old (first (fits p.0) (fits p.1) here) (second (fits p.0) (fits p.1) here, tt))

pub rename_keeps : (from to : Bytes) (m n : Dataset) → IsDataset m → IsWord from → IsWord to → rename from to m ≡ Some n → IsDataset n
rename_keeps from to m n old fit_from fit_to h =
    elim (get m from) as (λ o. get m from ≡ o → option_map (insert (remove m from) to) o ≡ Some n → IsDataset n) [
      | None ↦ λ t i. cc
      | Some e ↦ λ t i.
          let one : insert (remove m from) to e ≡ n = cc in
          subst IsDataset one (put_keeps (remove m from) to (Some e) (put_keeps m from None old fit_from tt) fit_to ((old.entries from e t).value, (old.entries from e t).deadline))
    ] refl h
