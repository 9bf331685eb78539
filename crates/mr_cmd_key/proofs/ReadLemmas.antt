-- Words that spell SCAN, EXPIRE and its kin, or FLUSHALL, are read as it.
use Rattle.std.proofs.Common.{ℕ, zero, suc, ℤ, pos, ◌<◌, ◌^◌, ◌≡◌, List, [], ◌∷◌, ◌++◌, map, true, false, Option, Some, None, refl, sym, ◌∙◌, ap, subst, arith}
use Rattle.std.specs.Prelude.{find, int_le, option_map, if◌then◌else◌, IfSome, IsPermutation, IsTrue, Result, Ok, Err}
use Rattle.std.specs.Fmt.{signed_decimal}
use Rattle.std.specs.Option.{ok_or}
use Rattle.std.specs.Str.{bytes_eq}
use Rattle.std.proofs.lemmas.Bool.{lt-ltb}
use Rattle.std.proofs.lemmas.Bool.Decides.{nat_tests}
use Rattle.mr_bytes.specs.Number.{is_i64}
use Rattle.mr_bytes.proofs.Numbers.{number_is}
use Rattle.mr_arguments.specs.Options.{added}
use Rattle.mr_arguments.specs.Pairing.{are_pairs, paired, pairs_of}
use Rattle.mr_arguments.specs.Parts.{with}
use Rattle.mr_arguments.specs.Spelling.{Part, Word, Number, Keyword, IsPart, IsPositive, AreParts, in_a_row}
use Rattle.mr_arguments.proofs.OrderLemmas.{second_refused}
use Rattle.mr_arguments.proofs.OrderedLemmas.{any_order}
use Rattle.mr_arguments.proofs.ReadLemmas.{from_one, literals, one_part, two_first, two_parts, first_part}
use Rattle.mr_arguments.specs.declared.name.Name.{Name}
use Rattle.mr_arguments.specs.declared.fault.AskFault.{AskFault}
use Rattle.mr_arguments.specs.declared.fault.AskFault.TheVariants.{Syntax}
use Rattle.mr_arguments.specs.AskableAmounts.{IsAmount}
use Rattle.mr_arguments.specs.Expiry.{number_said, unit_said}
use Rattle.mr_cmd_key.specs.Arguments.{clear, expire, scan}
use Rattle.mr_cmd_key.specs.Options.{all_expire_conditions, condition_if_any, expire_text, is_expire_condition, no_scan_options, scan_also, scan_options, scan_pair, scan_text}
use Rattle.mr_cmd_key.specs.Parts.{cursor_of, key_expiry, kind_of, positive, positive_if_any, timing_text}
use Rattle.mr_cmd_key.specs.Spelled.{cursor_part, expire_part, AreOfScan}
use Rattle.mr_cmd_key.specs.Spelled as spelled
use Rattle.mr_cmd_key.proofs.ScanOrderLemmas.{scan_alike, scan_also_only}
use Rattle.mr_arguments.specs.declared.expiry.Expiry.{Expiry}
use Rattle.mr_arguments.specs.declared.expiry.Expiry.TheVariants.{Seconds, Milliseconds, AtSecond, AtMillisecond}
use Rattle.mr_cmd_key.specs.declared.key_ask.Cursor.{Cursor}
use Rattle.mr_cmd_key.specs.declared.key_ask.Cursor.TheVariants.{Start, Behind}
use Rattle.mr_cmd_key.specs.declared.key_ask.Databases.{Databases}
use Rattle.mr_cmd_key.specs.declared.key_ask.ExpireCondition.{ExpireCondition}
use Rattle.mr_cmd_key.specs.declared.key_ask.ExpireCondition.TheVariants as condition
use Rattle.mr_cmd_key.specs.declared.key_ask.KindName.{KindName}
use Rattle.mr_cmd_key.specs.declared.key_ask.Timing.{Timing}
use Rattle.mr_cmd_key.specs.declared.key_ask.Timing.TheVariants.{Later, Now}
use Rattle.mr_cmd_key.specs.declared.key_ask.KeyAsk.TheVariants as key
use Rattle.mr_cmd_key.specs.declared.options.ScanOption.{ScanOption}
use Rattle.mr_cmd_key.specs.declared.options.ScanOption.TheVariants as scans
use Rattle.mr_cmd_key.specs.declared.options.ScanOptions.{ScanOptions}

-- ---- SCAN's options: a word with its argument
abbrev OneOption : Type 0
OneOption = ScanOption × List ℕ

abbrev add : ScanOptions → OneOption → Result ScanOptions AskFault
add s o = scan_also s o.1 o.0

adds_alike : (s : ScanOptions) (o p : OneOption) → with (add s o) (λ t. add t p) ≡ with (add s p) (λ t. add t o)
adds_alike s o p = scan_alike o.1 p.1 s o.0 p.0

abbrev part : OneOption → List Part
part o = Keyword (scan_text o.0) ∷ Word o.1 ∷ []

-- by the word in lower case
abbrev option_said : List ℕ → Result ScanOption AskFault
option_said x = if bytes_eq x (scan_text scans.Pattern) then Ok scans.Pattern
    else (if bytes_eq x (scan_text scans.Count) then Ok scans.Count
    else (if bytes_eq x (scan_text scans.Kind) then Ok scans.Kind else Err Syntax))

option_itself : (o : ScanOption) → option_said (scan_text o) ≡ Ok o
option_itself scans.Pattern = refl
option_itself scans.Count = refl
option_itself scans.Kind = refl

-- further options, of words that are pairs
abbrev more : ScanOptions → List (List ℕ) → Result ScanOptions AskFault
more s words = with (ok_or (pairs_of words) Syntax) (added scan_pair s)

pair_read : (s : ScanOptions) (o : OneOption) (w v : List ℕ) → IsPart w (Keyword (scan_text o.0)) → v ≡ o.1 → scan_pair s (w, v) ≡ add s o
pair_read s o w v is argument =
    ap (λ x. with x (scan_also s v)) (ap option_said is ∙ option_itself o.0)
    ∙ ap (λ (x : List ℕ). scan_also s x o.0) argument

-- where the words behind it are no pairs, nothing is read
pair_first : (s : ScanOptions) (o : OneOption) (rest : List (List ℕ)) (w v : List ℕ) → IsPart w (Keyword (scan_text o.0)) → v ≡ o.1 → more s (w ∷ v ∷ rest) ≡ with (add s o) (λ t. more t rest)
pair_first s o rest w v is argument =
    elim (are_pairs rest) as (λ b. with (ok_or (if b then Some ((w, v) ∷ paired rest) else None) Syntax) (added scan_pair s) ≡ with (add s o) (λ t. with (ok_or (if b then Some (paired rest) else None) Syntax) (added scan_pair t))) [
      | true ↦ ap (λ x. with x (λ t. added scan_pair t (paired rest))) (pair_read s o w v is argument)
      | false ↦ sym (second_refused (add s o) Syntax (scan_also_only s o.1 o.0) refl)
    ]

first : (s : ScanOptions) (o : OneOption) (words rest : List (List ℕ)) → AreParts words (part o) → more s (words ++ rest) ≡ with (add s o) (λ t. more t rest)
first s o words rest h = two_parts (λ xs. more s (xs ++ rest) ≡ with (add s o) (λ t. more t rest)) (Keyword (scan_text o.0)) (Word o.1) (pair_first s o rest) words h

-- all that are set, in one order
abbrev option_steps : ScanOption → Option (List ℕ) → List OneOption
option_steps o None = []
option_steps o (Some argument) = (o, argument) ∷ []

abbrev steps : Option (List ℕ) → Option (List ℕ) → Option (List ℕ) → List OneOption
steps p c k = option_steps scans.Pattern p ++ option_steps scans.Count c ++ option_steps scans.Kind k

abbrev parts : Option (List ℕ) → Option (List ℕ) → Option (List ℕ) → List (List Part)
parts p c k = spelled.scan_option scans.Pattern p ++ spelled.scan_option scans.Count c ++ spelled.scan_option scans.Kind k

all_set : (p c k : Option (List ℕ)) → (map part (steps p c k) ≡ parts p c k) × (added add no_scan_options (steps p c k) ≡ Ok (record { pattern = p; count = c; kind = k }))
all_set None None None = (refl, refl)
all_set None None (Some k) = (refl, refl)
all_set None (Some c) None = (refl, refl)
all_set None (Some c) (Some k) = (refl, refl)
all_set (Some p) None None = (refl, refl)
all_set (Some p) None (Some k) = (refl, refl)
all_set (Some p) (Some c) None = (refl, refl)
all_set (Some p) (Some c) (Some k) = (refl, refl)

options_are : (p c k : Option (List ℕ)) (words : List (List ℕ)) (order : List (List Part))
    → IsPermutation (parts p c k) order → AreParts words (in_a_row order) → scan_options words ≡ Ok (record { pattern = p; count = c; kind = k })
options_are p c k words order same h =
    let all = all_set p c k in
    any_order add adds_alike part more (λ s. refl) first (steps p c k) order no_scan_options words
    (subst (λ (x : List (List Part)). IsPermutation x order) (sym all.0) same) h
    ∙ all.1

-- ---- SCAN's numbers
positive_is : (w : List ℕ) → IsPositive w → (n : ℤ) × (positive w ≡ Ok n)
positive_is w h =
    let fits : IsTrue (is_i64 (pos h.0)) = lt-ltb h.0 (2 ^ 63) h.1.1 in
    let above : IsTrue (int_le (pos 1) (pos h.0)) = grind (arith, nat_tests, h.1.0) in
    (pos h.0, rw (number_is w (pos h.0) fits h.1.2, from_one (pos h.0) above) refl)

counts_are : (c : Option (List ℕ)) → IfSome c IsPositive → (n : Option ℤ) × (positive_if_any c ≡ Ok n)
counts_are None h = (None, refl)
counts_are (Some w) h = let n = positive_is w h in (Some n.0, ap (λ x. with x (λ m. Ok (Some m))) n.1)

behind_is : (w : List ℕ) (n : ℕ) → 0 < n → n < 2 ^ 63 → w ≡ signed_decimal (pos n) → cursor_of w ≡ Ok Behind
behind_is w zero some small e = let no : ⊥ = omega arith in absurd no
behind_is w (suc n) some small e = rw (number_is w (pos (suc n)) (lt-ltb (suc n) (2 ^ 63) small) e) refl

cursor_is : (w : List ℕ) (c : Cursor) → IsPart w (cursor_part c) → cursor_of w ≡ Ok c
cursor_is w Start h = rw (number_is w (pos 0) refl h) refl
cursor_is w Behind h = behind_is w h.0 h.1.0 h.1.1 h.1.2

scanned : (cursor : Cursor) (pattern : Option (List ℕ)) (kind : Option KindName) (count kind_word : Option (List ℕ)) (order : List (List Part)) → IfSome count IsPositive → option_map kind_of kind_word ≡ kind
    → IsPermutation (parts pattern count kind_word) order → (w : List ℕ) (ws : List (List ℕ)) → IsPart w (cursor_part cursor) → AreParts ws (in_a_row order) → scan (w ∷ ws) ≡ Ok (key.Scan cursor pattern kind)
scanned cursor pattern kind count kind_word order positive named same w ws is rest =
    let counts = counts_are count positive in
    ap (λ x. with x (λ options. with (positive_if_any options.count) (λ n. with (cursor_of w) (λ place. Ok (key.Scan place options.pattern (option_map kind_of options.kind))))))
    (options_are pattern count kind_word ws order same rest)
    ∙ ap (λ x. with x (λ n. with (cursor_of w) (λ place. Ok (key.Scan place pattern (option_map kind_of kind_word))))) counts.1
    ∙ ap (λ x. with x (λ place. Ok (key.Scan place pattern (option_map kind_of kind_word)))) (cursor_is w cursor is)
    ∙ ap (λ x. Ok (key.Scan cursor pattern x)) named

pub scan_is_read : (cursor : Cursor) (pattern : Option (List ℕ)) (kind : Option KindName) (ws : List (List ℕ)) → AreOfScan ws cursor pattern kind → scan ws ≡ Ok (key.Scan cursor pattern kind)
scan_is_read cursor pattern kind ws s =
    first_part (λ xs. scan xs ≡ Ok (key.Scan cursor pattern kind)) (cursor_part cursor) (in_a_row s.are.0) (scanned cursor pattern kind s.count s.kind_word s.are.0 s.counts s.names s.are.1.0) ws s.are.1.1

-- ---- EXPIRE and its kin
condition_itself : (c : ExpireCondition) → find (is_expire_condition (expire_text c)) all_expire_conditions ≡ Some c
condition_itself condition.Endless = refl
condition_itself condition.Expiring = refl
condition_itself condition.Later = refl
condition_itself condition.Earlier = refl

condition_is : (c : Option ExpireCondition) (ws : List (List ℕ)) → AreParts ws (expire_part c) → condition_if_any ws ≡ Ok c
condition_is None ws h = ap condition_if_any (literals ws [] refl h)
condition_is (Some c) ws h = one_part (λ xs. condition_if_any xs ≡ Ok (Some c)) (Keyword (expire_text c)) (λ w is.
    ap (λ (x : List ℕ). with (ok_or (find (is_expire_condition x) all_expire_conditions) Syntax) (λ found. Ok (Some found))) is
    ∙ ap (λ x. with (ok_or x Syntax) (λ found. Ok (Some found))) (condition_itself c)) ws h

expiry_is : (e : Expiry) (w : List ℕ) → IsAmount e → w ≡ signed_decimal (number_said e) → key_expiry (unit_said e) w ≡ Ok e
expiry_is (Seconds n) w h is = rw (number_is w n h.0 is, h.1) refl
expiry_is (Milliseconds n) w h is = rw (number_is w n h.0 is, h.1) refl
expiry_is (AtSecond n) w h is = rw (number_is w n h.0 is, h.1) refl
expiry_is (AtMillisecond n) w h is = rw (number_is w n h.0 is, h.1) refl

pub expires : (called : Name) (k : List ℕ) (e : Expiry) (c : Option ExpireCondition) (ws : List (List ℕ)) → IsAmount e → AreParts ws (Word k ∷ Number (number_said e) ∷ expire_part c)
    → expire called (unit_said e) ws ≡ Ok (key.Expire k e c)
expires called k e c ws h s =
    two_first (λ xs. expire called (unit_said e) xs ≡ Ok (key.Expire k e c)) (Word k) (Number (number_said e)) (expire_part c) (λ a b rest ea eb is.
    ap (λ x. with x (λ condition. with (key_expiry (unit_said e) b) (λ expiry. Ok (key.Expire a expiry condition)))) (condition_is c rest is)
    ∙ ap (λ x. with x (λ expiry. Ok (key.Expire a expiry c))) (expiry_is e b h eb)
    ∙ ap (λ (x : List ℕ). Ok (key.Expire x e c)) ea) ws s

-- ---- FLUSHALL, FLUSHDB
abbrev timing_said : List ℕ → Result Timing AskFault
timing_said x = if bytes_eq x (timing_text Later) then Ok Later else (if bytes_eq x (timing_text Now) then Ok Now else Err Syntax)

timing_itself : (t : Timing) → timing_said (timing_text t) ≡ Ok t
timing_itself Later = refl
timing_itself Now = refl

pub cleared : (d : Databases) (t : Timing) (ws : List (List ℕ)) → AreParts ws (Keyword (timing_text t) ∷ []) → clear d ws ≡ Ok (key.Clear d (Some t))
cleared d t ws h = one_part (λ xs. clear d xs ≡ Ok (key.Clear d (Some t))) (Keyword (timing_text t)) (λ w is.
    ap (λ x. with x (λ found. Ok (key.Clear d (Some found)))) (ap timing_said is ∙ timing_itself t)) ws h
