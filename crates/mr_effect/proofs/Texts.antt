-- The texts of effects are apart.
use Rattle.std.proofs.Common.{◌≡◌, ℕ, suc, ℤ, pos, negsuc, ◌<◌, ◌≤◌, ◌^◌, List, [], ◌∷◌, ◌++◌, length, ◌&&◌, IsTrue, refl, sym, ◌∙◌, append_assoc, arith}
use Rattle.std.specs.List.{list_all, flat_map}
use Rattle.std.specs.Fmt.{signed_decimal}
use Rattle.std.specs.Prelude.{All}
use Rattle.std.proofs.lemmas.Bool.{leb-true, ltb-true}
use Rattle.std.proofs.lemmas.List.Elements.{All-nil, All-cons}
use Rattle.mr_inline.specs.Limits.{word_limit}
use Rattle.mr_map.specs.Bytes.{Bytes}
use Rattle.mr_bytes.specs.Words.{fits}
use Rattle.mr_bytes.specs.Number.{is_i64}
use Rattle.mr_bytes.proofs.Numbers.{bounds}
use Rattle.mr_resp.specs.Spelling.{number_line, bulk, array}
use Rattle.mr_resp.specs.Command.{IsCommandText}
use Rattle.mr_resp.specs.Usual.{commands, commands-word, commands-words}
use Rattle.mr_resp.proofs.Words.{line_unique, bulk_unique}
use Rattle.mr_score.proofs.TextLemmas.{score_fits}
use Rattle.mr_effect.specs.Effects.{pair_fits, member_fits, words_fit, is_some_of, has_score, has_spelling}
use Rattle.mr_effect.specs.Names.{text_of}
use Rattle.mr_effect.specs.Spelling.{words, text, name_of, arguments, pair_words, score_words, end_word, side_word, IsShort}
use Rattle.mr_effect.specs.declared.name.EffectName.{EffectName}
use Rattle.mr_effect.specs.declared.name.EffectName.TheVariants as name
use Rattle.mr_effect.specs.declared.effect.Effect.{Effect}
use Rattle.mr_effect.specs.declared.effect.Effect.TheVariants as effect
use Rattle.mr_bytes.specs.declared.ends.End.{End}
use Rattle.mr_bytes.specs.declared.ends.End.TheVariants.{Left, Right}
use Rattle.mr_bytes.specs.declared.ends.Side.{Side}
use Rattle.mr_bytes.specs.declared.ends.Side.TheVariants.{Before, After}
use Rattle.mr_bytes.proofs.Both.{first, second}
use Rattle.mr_effect.proofs.Deadlines.{deadline_fits}
use Rattle.mr_effect.proofs.Readings.{one_effect}

-- each word is within the word limit
abbrev AreShort : List Bytes → Type 0
AreShort [] = Unit {0}
AreShort (w ∷ ws) = (length w ≤ word_limit) × AreShort ws

bulks_unique : (ws vs : List Bytes) (x y : List ℕ) → AreShort ws → AreShort vs → length ws ≡ length vs → flat_map bulk ws ++ x ≡ flat_map bulk vs ++ y → (ws ≡ vs) × (x ≡ y)
bulks_unique [] [] x y s t n e = (refl, e)
bulks_unique [] (v ∷ vs) x y s t n e = absurd (omega arith)
bulks_unique (w ∷ ws) [] x y s t n e = absurd (omega arith)
bulks_unique (w ∷ ws) (v ∷ vs) x y s t n e =
    let both : bulk w ++ (flat_map bulk ws ++ x) ≡ bulk v ++ (flat_map bulk vs ++ y) = sym (append_assoc (bulk w) (flat_map bulk ws) x) ∙ e ∙ append_assoc (bulk v) (flat_map bulk vs) y in
    let first = bulk_unique w v (flat_map bulk ws ++ x) (flat_map bulk vs ++ y) (omega (arith, s.0)) (omega (arith, t.0)) both in
    let rest = bulks_unique ws vs x y s.1 t.1 (omega arith) first.1 in
    let head : w ≡ v = first.0 in
    let tail : ws ≡ vs = rest.0 in
    (cc, rest.1)

array_unique : (ws vs : List Bytes) (x y : List ℕ) → length ws < 2 ^ 64 → length vs < 2 ^ 64 → AreShort ws → AreShort vs → array ws ++ x ≡ array vs ++ y → (ws ≡ vs) × (x ≡ y)
array_unique ws vs x y few_ws few_vs s t e =
    let inner : (number_line (length ws) ++ flat_map bulk ws) ++ x ≡ (number_line (length vs) ++ flat_map bulk vs) ++ y = cc in
    let both = sym (append_assoc (number_line (length ws)) (flat_map bulk ws) x) ∙ inner ∙ append_assoc (number_line (length vs)) (flat_map bulk vs) y in
    let line = line_unique (length ws) (length vs) (flat_map bulk ws ++ x) (flat_map bulk vs ++ y) few_ws few_vs both in
    bulks_unique ws vs x y s t line.0 line.1

short : (w : Bytes) → IsTrue (fits w) → length w ≤ word_limit
short w h = omega (arith, leb-true _ _ h)

short_number : (n : ℤ) → IsTrue (is_i64 n) → length (signed_decimal n) ≤ word_limit
short_number (pos n) h = let small : n < 2 ^ 63 = ltb-true _ _ h in omega (arith, (bounds n (omega arith)).1)
short_number (negsuc n) h = let small : n < 2 ^ 63 = ltb-true _ _ h in omega (arith, (bounds (suc n) (omega arith)).1)

short_words : (ws : List Bytes) → IsTrue (list_all fits ws) → AreShort ws
short_words [] h = tt
short_words (w ∷ ws) h = (short w (first (fits w) _ h), short_words ws (second (fits w) _ h))

short_pairs : (ps : List (Bytes × Bytes)) → IsTrue (list_all pair_fits ps) → AreShort (flat_map pair_words ps)
short_pairs [] h = tt
short_pairs (p ∷ ps) h =
    let here : IsTrue (fits p.0 && fits p.1) = first (pair_fits p) _ h in
    (short p.0 (first (fits p.0) _ here), (short p.1 (second (fits p.0) _ here), short_pairs ps (second (pair_fits p) _ h)))

short_scores : (ps : List (Bytes × ℤ)) → IsTrue (list_all has_score ps) → IsTrue (list_all member_fits ps) → AreShort (flat_map score_words ps)
short_scores [] s h = tt
short_scores (p ∷ ps) s h =
    let score = short_number p.1 (score_fits p.1 (first (has_score p) _ s)) in
    (score, (short p.0 (first (member_fits p) _ h), short_scores ps (second (has_score p) _ s) (second (member_fits p) _ h)))

short_name : (n : EffectName) → length (text_of n) ≤ word_limit
short_name name.Set = omega arith
short_name name.MSet = omega arith
short_name name.Append = omega arith
short_name name.SetRange = omega arith
short_name name.IncrBy = omega arith
short_name name.Del = omega arith
short_name name.PExpireAt = omega arith
short_name name.Persist = omega arith
short_name name.Rename = omega arith
short_name name.FlushAll = omega arith
short_name name.Ping = omega arith
short_name name.HSet = omega arith
short_name name.HDel = omega arith
short_name name.LPush = omega arith
short_name name.RPush = omega arith
short_name name.LPop = omega arith
short_name name.RPop = omega arith
short_name name.LSet = omega arith
short_name name.LInsert = omega arith
short_name name.LRem = omega arith
short_name name.LTrim = omega arith
short_name name.LMove = omega arith
short_name name.SAdd = omega arith
short_name name.SRem = omega arith
short_name name.SMove = omega arith
short_name name.ZAdd = omega arith
short_name name.ZRem = omega arith

short_end : (e : End) → length (end_word e) ≤ word_limit
short_end Left = omega arith
short_end Right = omega arith

short_side : (s : Side) → length (side_word s) ≤ word_limit
short_side Before = omega arith
short_side After = omega arith

arguments_short : (e : Effect) → IsTrue (has_spelling e) → IsTrue (words_fit e) → AreShort (arguments e)
arguments_short (effect.Set k v) s h = (short k (first (fits k) _ h), (short v (second (fits k) _ h), tt))
arguments_short (effect.SetUntil k v d) s h = (short k (first (fits k) _ h), (short v (second (fits k) _ h), (omega arith, (short_number d (deadline_fits d s), tt))))
arguments_short (effect.SetKeeping k v) s h = (short k (first (fits k) _ h), (short v (second (fits k) _ h), (omega arith, tt)))
arguments_short (effect.MSet pairs) s h = short_pairs pairs h
arguments_short (effect.Append k v) s h = (short k (first (fits k) _ h), (short v (second (fits k) _ h), tt))
arguments_short (effect.SetRange k i v) s h = (short k (first (fits k) _ h), (short_number i (first (is_i64 i) _ s), (short v (second (fits k) _ h), tt)))
arguments_short (effect.Increase k n) s h = (short k h, (short_number n s, tt))
arguments_short (effect.Del k) s h = (short k h, tt)
arguments_short (effect.Expire k d) s h = (short k h, (short_number d (deadline_fits d s), tt))
arguments_short (effect.Persist k) s h = (short k h, tt)
arguments_short (effect.Rename from to) s h = (short from (first (fits from) _ h), (short to (second (fits from) _ h), tt))
arguments_short effect.Clear s h = tt
arguments_short effect.Ping s h = tt
arguments_short (effect.SetFields k pairs) s h = (short k (first (fits k) _ h), short_pairs pairs (second (fits k) _ h))
arguments_short (effect.RemoveFields k fields) s h = (short k (first (fits k) _ h), short_words fields (second (fits k) _ h))
arguments_short (effect.Push k end items) s h = (short k (first (fits k) _ h), short_words items (second (fits k) _ h))
arguments_short (effect.Pop k end n) s h = (short k h, (short_number n s, tt))
arguments_short (effect.SetItem k i item) s h = (short k (first (fits k) _ h), (short_number i (first (is_i64 i) _ s), (short item (second (fits k) _ h), tt)))
arguments_short (effect.InsertItem k side pivot item) s h =
    let both = first (fits k && fits pivot) _ h in
    (short k (first (fits k) _ both), (short_side side, (short pivot (second (fits k) _ both), (short item (second (fits k && fits pivot) _ h), tt))))
arguments_short (effect.RemoveItems k n item) s h = (short k (first (fits k) _ h), (short_number n s, (short item (second (fits k) _ h), tt)))
arguments_short (effect.Trim k a b) s h = (short k h, (short_number a (first (is_i64 a) _ s), (short_number b (second (is_i64 a) _ s), tt)))
arguments_short (effect.MoveItem from to taken put) s h = (short from (first (fits from) _ h), (short to (second (fits from) _ h), (short_end taken, (short_end put, tt))))
arguments_short (effect.AddMembers k members) s h = (short k (first (fits k) _ h), short_words members (second (fits k) _ h))
arguments_short (effect.RemoveMembers k members) s h = (short k (first (fits k) _ h), short_words members (second (fits k) _ h))
arguments_short (effect.MoveMember from to member) s h =
    let both = first (fits from && fits to) _ h in
    (short from (first (fits from) _ both), (short to (second (fits from) _ both), (short member (second (fits from && fits to) _ h), tt)))
arguments_short (effect.SetScores k scores) s h = (short k (first (fits k) _ h), short_scores scores (second (is_some_of scores) _ s) (second (fits k) _ h))
arguments_short (effect.RemoveScores k members) s h = (short k (first (fits k) _ h), short_words members (second (fits k) _ h))

words_short : (e : Effect) → IsTrue (has_spelling e) → IsTrue (words_fit e) → AreShort (words e)
unfolding words
words_short e s h = (short_name (name_of e), arguments_short e s h)

-- bytes that begin with the texts of two effects begin with one text of one effect
pub one_text : (e f : Effect) (x y : List ℕ) → IsTrue (has_spelling e) → IsTrue (has_spelling f) → IsTrue (words_fit e) → IsTrue (words_fit f) → length (words e) < 2 ^ 64 → length (words f) < 2 ^ 64 → text e ++ x ≡ text f ++ y → (e ≡ f) × (x ≡ y)
one_text e f x y spelled_e spelled_f fits_e fits_f few_e few_f h =
    let both = array_unique (words e) (words f) x y few_e few_f (words_short e spelled_e fits_e) (words_short f spelled_f fits_f) h in
    (one_effect e f spelled_e spelled_f both.0, both.1)

-- ---- an effect's text is a command text
all_short : (ws : List Bytes) → AreShort ws → All (λ w. length w ≤ commands.word) ws
all_short [] h = All-nil (λ w. length w ≤ commands.word)
all_short (w ∷ ws) h = All-cons (λ w. length w ≤ commands.word) w ws (omega (arith, commands-word, h.0)) (all_short ws h.1)

some_words : (e : Effect) → 0 < length (words e)
unfolding words
some_words e = omega arith

pub command_text : (e : Effect) → IsTrue (has_spelling e) → IsTrue (words_fit e) → IsShort e → IsCommandText commands (text e)
command_text e spelled fit few = (words e, record { spelled = refl; some = some_words e; count = few; each = all_short (words e) (words_short e spelled fit) })

pub short_effect : (e : Effect) → length (arguments e) < 1048576 → IsShort e
unfolding words
short_effect e few = omega (arith, commands-words, few)
