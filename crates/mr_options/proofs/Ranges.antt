-- The number of an option, which passed its parser: it is within its range.
use Rattle.std.proofs.Common.{◌≡◌, ◌∙◌, ◌<◌, ◌≤◌, ℕ, List, [], ◌∷◌, Option, Some, None, Bool, true, false, sym, ap, refl, subst, cond, length, arith}
use Rattle.std.specs.Prelude.{IfSome, slice_get}
use Rattle.std.specs.List.{find}
use Rattle.std.specs.Option.{option_and_then, option_map, option_map_or}
use Rattle.std.specs.Str.{bytes_eq}
use Rattle.std.specs.Str.Parse.{digits_value, without_leading_plus}
use Rattle.std.proofs.lemmas.Slice.Eq.{bytes_eq-Decides}
use Rattle.clap.specs.Words.{Kinds, Row, Rule, Text}
use Rattle.clap.specs.Facts.{explicit_source}
use Rattle.clap.specs.Kinds.{value_kinds, values_kinds}
use Rattle.clap.specs.Takes.{is_given}
use Rattle.clap.specs.Values.{read_as}
use Rattle.clap.specs.Walk.{arg_by_id, row_text}
use Rattle.clap.proofs.ValueTestLemmas.{accepts-Accepts}
use Rattle.clap.specs.declared.builder.value_parser.Reading.{Reading}
use Rattle.clap.specs.declared.builder.value_parser.Reading.TheVariants.{AsWritten}
use Rattle.clap.specs.declared.builder.value_parser.ValueParser.TheVariants as vp
use Rattle.clap.specs.declared.error.kind.ErrorKind.{ErrorKind}
use Rattle.mr_options.specs.Values.{HasNumber, IsNumber, NamesNumber}
use Rattle.mr_options.proofs.Numbers.{named_number}
use Rattle.mr_options.proofs.Rows.{RowFine, RowsFine, ValuesFine, first_none, one_valued, some_of}

taken : (b : Bool) (k : ErrorKind) → cond b [] (k ∷ []) ≡ [] → b ≡ true
taken true k e = refl
taken false k e = absurd (let wrong : ◌≡◌ {A = Kinds} (k ∷ []) [] = e in cc)

-- the text is that of a number within these bounds
abbrev IsWithin : ℕ → ℕ → Option Text → Type 0
IsWithin least most text = (n : ℕ) × ((least ≤ n) × (n ≤ most) × ((t : Text) × ((text ≡ Some t) × IsNumber (Some t) 0 n)))

number_in : (least most : ℕ) (values : List Text) (how : Reading) → 0 < length values → values_kinds false (vp.Unsigned least most) values ≡ [] → how ≡ AsWritten → IsWithin least most (option_map (read_as how) (slice_get values 0))
number_in least most [] how lt e is = absurd (omega arith)
number_in least most (v ∷ vs) how lt e is =
    let parser = vp.Unsigned least most in
    let fits = accepts-Accepts false parser v (taken _ _ (first_none (value_kinds false parser v) _ e)) in
    let P : Reading → Type 0 = λ r. IsWithin least most (Some (read_as r v)) in
    subst P (sym is) (digits_value 10 (without_leading_plus v), (fits.2, fits.3, (v, (refl, ((fits.0, fits.1), refl)))))

found_row : (c : List Rule) (name : Text) (rows : List Row) (r : Row) → find (λ (x : Row). bytes_eq x.id name) rows ≡ Some r → RowsFine c rows → RowFine c r × (bytes_eq r.id name ≡ true)
found_row c name [] r e fine = absurd (let wrong : ◌≡◌ {A = Option Row} None (Some r) = e in cc)
found_row c name (x ∷ xs) r e fine =
    let P : Row → Type 0 = λ y. RowFine c y × (bytes_eq y.id name ≡ true) in
    elim (bytes_eq x.id name) as (λ b. bytes_eq x.id name ≡ b → cond b (Some x) (find (λ (x : Row). bytes_eq x.id name) xs) ≡ Some r → RowFine c r × (bytes_eq r.id name ≡ true)) [
      | true ↦ λ is e. subst P (some_of x r e) (fine.0, is)
      | false ↦ λ is e. found_row c name xs r e fine.1
    ] refl e

-- the line names a number within these bounds
abbrev pub NamesWithin : ℕ → ℕ → List Row → Text → Type 0
NamesWithin least most rows name = (n : ℕ) × ((least ≤ n) × (n ≤ most) × NamesNumber rows name n)

module _ (c : List Rule) (name : Text) (least most : ℕ) (is_needed : Bool) (rows : List Row) (there : arg_by_id c name ≡ Some (one_valued name (vp.Unsigned least most) is_needed)) (fine : RowsFine c rows) where
  abbrev its_row : Option Row
  its_row = find (λ (r : Row). bytes_eq r.id name) rows

  row_number : (r : Row) → its_row ≡ Some r → NamesWithin least most rows name
  row_number r is =
      let found = found_row c name rows r is fine in
      let P : Text → Type 0 = λ id. IfSome (arg_by_id c id) (ValuesFine r) in
      let here = subst P ((bytes_eq-Decides r.id name).0 found.1) found.0 in
      let Q : Option Rule → Type 0 = λ o. IfSome o (ValuesFine r) in
      let values = subst Q there here in
      let n = number_in least most r.values r.reading values.0 values.1.0 values.1.1 in
      (n.0, (n.1.0, n.1.1, (n.1.2.0, (ap (λ (o : Option Row). option_and_then row_text o) is ∙ n.1.2.1.0, n.1.2.1.1))))

  -- an option that the line may leave out
  pub number_there : (usual : ℕ) → least ≤ usual → usual ≤ most → (n : ℕ) × ((least ≤ n) × (n ≤ most) × HasNumber rows name usual n)
  number_there usual ge le =
      elim its_row as (λ o. its_row ≡ o → (n : ℕ) × ((least ≤ n) × (n ≤ most) × HasNumber rows name usual n)) [
        | None ↦ λ is.
            let P : Option Text → Type 0 = λ text. IsNumber text usual usual in
            (usual, (ge, le, subst P (sym (ap (λ (o : Option Row). option_and_then row_text o) is)) refl))
        | Some r ↦ λ is. let named = row_number r is in (named.0, (named.1.0, named.1.1, named_number rows name usual named.0 named.1.2))
      ] refl

  -- an option that the line names
  pub number_given : is_given name rows ≡ true → NamesWithin least most rows name
  number_given given =
      elim its_row as (λ o. its_row ≡ o → option_map_or (λ (r : Row). explicit_source r.source) o false ≡ true → NamesWithin least most rows name) [
        | None ↦ λ is e. absurd (let wrong : false ≡ true = e in cc)
        | Some r ↦ λ is e. row_number r is
      ] refl given
