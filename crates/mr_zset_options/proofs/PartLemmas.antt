-- What was read of an argument is what its word spells.
use Rattle.std.proofs.Common.{ℕ, ℤ, ◌≡◌, List, [], ◌∷◌, Option, Some, None, refl, ◌∙◌, ap, subst}
use Rattle.std.specs.Prelude.{IfOk, Result, Ok}
use Rattle.std.specs.Option.{ok_or}
use Rattle.mr_bytes.specs.Number.{number_of}
use Rattle.mr_arguments.specs.Parts.{with, integer}
use Rattle.mr_arguments.specs.Spelling.{Part, Number, Keyword, AreParts}
use Rattle.mr_arguments.proofs.PartLemmas.{with_ok, if_with, number_part, number_part_read}
use Rattle.mr_arguments.proofs.FaultPlaces.{found_or, OnlyFault}
use Rattle.mr_arguments.specs.declared.fault.AskFault.{AskFault}
use Rattle.mr_arguments.specs.declared.fault.AskFault.TheVariants.{Integer, Other}
use Rattle.mr_arguments.specs.declared.fault.BadValue.TheVariants as bad
use Rattle.mr_zset.specs.declared.bound.Bound.{Bound}
use Rattle.mr_score.specs.Texts.{IsScoreText, score_of}
use Rattle.mr_zset.specs.Texts.{bound_of}
use Rattle.mr_score.proofs.TextLemmas.{read_spelled}
use Rattle.mr_zset_options.specs.Parts.{bound, bounds, limit, limit_if_any, score}
use Rattle.mr_zset_options.specs.RangeOptions.{limit_text}
use Rattle.mr_zset_options.specs.Spelled.{bound_parts, limit_option}
use Rattle.mr_zset_options.specs.declared.range_options.LimitWords.{LimitWords}
use Rattle.mr_zset_options.specs.declared.choices.Limit.{Limit}
use Rattle.mr_zset_options.specs.declared.choices.Order.{Order}
use Rattle.mr_zset_options.specs.declared.choices.Order.TheVariants.{Ascending, Descending}

pub with_score : {A : Type 0} (w : List ℕ) (next : ℤ → Result A AskFault) (P : A → Type 0)
    → ((n : ℤ) → IsScoreText w n → IfOk (next n) P) → IfOk (with (score w) next) P
with_score w next P h = elim (score_of w) as (λ o. score_of w ≡ o → IfOk (with (ok_or o Integer) next) P) [
  | None ↦ λ s. tt
  | Some n ↦ λ s. h n (read_spelled w n s)
] refl

bound_read : (w : List ℕ) (b : Bound) → bound w ≡ Ok b → bound_of w ≡ Some b
bound_read w b h = elim (bound_of w) as (λ o. ok_or o (Other bad.Bound) ≡ Ok b → o ≡ Some b) [
  | None ↦ λ s. cc
  | Some c ↦ λ s. let same : c ≡ b = cc in ap (λ (x : Bound). Some x) same
] h

bounds_read : (o : Order) (v w : List ℕ) (p : Bound × Bound) → bounds o v w ≡ Ok p → AreParts (v ∷ w ∷ []) (bound_parts o p.0 p.1)
bounds_read Ascending v w p h =
    let x = with_ok (bound v) (λ min. with (bound w) (λ max. Ok (min, max))) p h in
    let y = with_ok (bound w) (λ max. Ok (x.0, max)) p x.1.1 in
    let same : (x.0, y.0) ≡ p = cc in
    subst (λ (q : Bound × Bound). AreParts (v ∷ w ∷ []) (bound_parts Ascending q.0 q.1)) same (bound_read v x.0 x.1.0, (bound_read w y.0 y.1.0, tt))
bounds_read Descending v w p h =
    let x = with_ok (bound w) (λ min. with (bound v) (λ max. Ok (min, max))) p h in
    let y = with_ok (bound v) (λ max. Ok (x.0, max)) p x.1.1 in
    let same : (x.0, y.0) ≡ p = cc in
    subst (λ (q : Bound × Bound). AreParts (v ∷ w ∷ []) (bound_parts Descending q.0 q.1)) same (bound_read v y.0 y.1.0, (bound_read w x.0 x.1.0, tt))

pub with_bounds : {A : Type 0} (o : Order) (v w : List ℕ) (next : Bound × Bound → Result A AskFault) (P : A → Type 0)
    → ((p : Bound × Bound) → AreParts (v ∷ w ∷ []) (bound_parts o p.0 p.1) → IfOk (next p) P) → IfOk (with (bounds o v w) next) P
with_bounds o v w next P h = if_with (bounds o v w) next P (λ p e. h p (bounds_read o v w p e))

-- LIMIT with its words, before they are read
abbrev pub words_option : (List ℕ → Part) → Option LimitWords → List (List Part)
words_option shown None = []
words_option shown (Some words) = (Keyword limit_text ∷ shown words.offset ∷ shown words.count ∷ []) ∷ []

limit_read : (ws : LimitWords) (p : Limit) → limit ws ≡ Ok p → words_option number_part (Some ws) ≡ limit_option (Some p)
limit_read ws p h =
    let x = with_ok (integer ws.offset) (λ offset. with (integer ws.count) (λ count. Ok (record { offset = offset; count = count }))) p h in
    let y = with_ok (integer ws.count) (λ count. Ok (record { offset = x.0; count = count })) p x.1.1 in
    let same : record { offset = x.0; count = y.0 } ≡ p = cc in
    ap (λ (q : Part). (Keyword limit_text ∷ q ∷ number_part ws.count ∷ []) ∷ []) (number_part_read ws.offset x.0 x.1.0)
    ∙ ap (λ (q : Part). (Keyword limit_text ∷ Number x.0 ∷ q ∷ []) ∷ []) (number_part_read ws.count y.0 y.1.0)
    ∙ ap (λ (l : Limit). limit_option (Some l)) same

pub limit_if_any_read : (o : Option LimitWords) (p : Option Limit) → limit_if_any o ≡ Ok p → words_option number_part o ≡ limit_option p
limit_if_any_read None p h = let same : None ≡ p = cc in ap limit_option same
limit_if_any_read (Some ws) p h =
    let x = with_ok (limit ws) (λ l. Ok (Some l)) p h in
    let same : Some x.0 ≡ p = cc in
    limit_read ws x.0 x.1.0 ∙ ap limit_option same

-- ---- which fault
pub bound_fault : (w : List ℕ) → OnlyFault (Other bad.Bound) (bound w)
bound_fault w = found_or (bound_of w) (Other bad.Bound)

abbrev limit_by : Option ℤ → Option ℤ → Result Limit AskFault
limit_by o p = with (ok_or o Integer) (λ offset. with (ok_or p Integer) (λ count. Ok (record { offset = offset; count = count })))

limit_fault : (o p : Option ℤ) → OnlyFault Integer (with (limit_by o p) (λ l. Ok (Some l)))
limit_fault None p = refl
limit_fault (Some m) None = refl
limit_fault (Some m) (Some n) = tt

pub limit_faults : (words : Option LimitWords) → OnlyFault Integer (limit_if_any words)
limit_faults None = tt
limit_faults (Some words) = limit_fault (number_of words.offset) (number_of words.count)
