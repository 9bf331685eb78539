-- The effects of commands that set texts at several keys are faithful.
use Rattle.std.proofs.Common.{ℤ, ◌≡◌, List, [], ◌∷◌, Bool, true, false, not, cond, Option, Some, None, refl, sym, ◌∙◌, ap, ℕ, ◌<◌, ◌≤◌, ◌+◌, ◌*◌, length, arith}
use Rattle.std.specs.Prelude.{IsTrue, filter, if◌then◌else◌, pos, All}
use Rattle.std.specs.List.{AllByRecursion, list_all}
use Rattle.std.specs.Option.{option_and_then}
use Rattle.std.specs.FinMap.{empty, get, insert, entries, find, get-entries, get-empty, get-insert, same_map, len, len-insert, len-entries, len-empty, contains_key}
use Rattle.std.proofs.lemmas.Cmp.{nat_list_cmp_total}
use Rattle.std.proofs.lemmas.List.Elements.{All-nil, All-cons}
use Rattle.std.proofs.lemmas.Map.Lookups.{exact_bytes}
use Rattle.std.proofs.lemmas.Bool.{and_from}
use Rattle.mr_map.specs.Bytes.{Bytes, ByteMap, bytes_cmp}
use Rattle.mr_bytes.specs.Words.{fits}
use Rattle.mr_bytes.proofs.Both.{first, second}
use Rattle.mr_bytes.proofs.Numbers.{equal_bytes}
use Rattle.mr_resp.specs.Replies as reply
use Rattle.mr_resp.specs.Replies.{Tree}
use Rattle.mr_effect.specs.Effects.{pair_fits}
use Rattle.mr_keyspace.specs.Dataset.{Dataset}
use Rattle.mr_keyspace.specs.Collections.{with_fields, last_values}
use Rattle.mr_keyspace.specs.Changes.{change, with_texts}
use Rattle.mr_data.specs.Meaning.{apply, apply_all}
use Rattle.mr_keyspace.specs.declared.value.Entry.{Entry}
use Rattle.mr_data.proofs.Fitting.{no_fields, with_fields_fit}
use Rattle.mr_data.proofs.Entries.{all_map, AreApart, entries_apart, own_entries, missing}
use Rattle.mr_keyspace.proofs.Maps.{insert_same, same_key}
use Rattle.mr_arguments.specs.Pairing.{unpaired}
use Rattle.mr_cmd_shared.specs.Taken.{is_key}
use Rattle.mr_cmd_shared.specs.Answered.{done}
use Rattle.mr_cmd_shared.specs.Outcomes.{answered}
use Rattle.mr_cmd_shared.specs.Commands.{Command, on_keys, before, IsFaithful, HasCommandTexts}
use Rattle.mr_cmd_shared.proofs.Laws.{answered_faithful, IsLeadingAt, leading_at, leading, sent, none_short, one_short}
use Rattle.mr_cmd_string.specs.Setting.{plain, is_plain}
use Rattle.mr_cmd_string.specs.SettingAll.{names, changed, set_effects, put_all, mset, is_any_there, msetnx}
use Rattle.mr_cmd_string.specs.Laws.{MSetIsNoLonger, MSetNxIsNoLonger}
use Rattle.mr_cmd_string.proofs.SameTexts.{plain_is}
use Rattle.mr_effect.specs.declared.effect.Effect.TheVariants as effect
use Rattle.mr_effect.proofs.Texts.{short_effect}
use Rattle.mr_resp.specs.Usual.{commands, commands-words}
use Rattle.mr_effect.specs.Spelling.{IsShort, arguments}
use Rattle.mr_effect.proofs.Appending.{length-pairs}

abbrev Pair : Type 0
Pair = Bytes × Bytes

-- ---- what is at a key in the end
abbrev over : Option Bytes → Option Entry → Option Entry
over None before = before
over (Some text) before = Some (plain text)

get_over : (ps : List Pair) (h : ByteMap Bytes) (m n : Dataset) → ((q : Bytes) → get n q ≡ over (get h q) (get m q)) → (q : Bytes) → get (with_texts ps n) q ≡ over (get (with_fields ps h) q) (get m q)
get_over [] h m n same q = same q
get_over (p ∷ ps) h m n same q = get_over ps (insert h p.0 p.1) m (insert n p.0 (plain p.1)) (λ k.
    get-insert nat_list_cmp_total n p.0 (plain p.1) k
    ∙ elim (is_key k p.0) as (λ b. cond b (Some (plain p.1)) (get n k) ≡ over (cond b (Some p.1) (get h k)) (get m k)) [ true ↦ refl | false ↦ same k ]
    ∙ ap (λ o. over o (get m k)) (sym (get-insert nat_list_cmp_total h p.0 p.1 k))) q

get_last : (ps : List Pair) (m : Dataset) (q : Bytes) → get (with_texts ps m) q ≡ over (get (last_values ps) q) (get m q)
get_last ps m q = get_over ps empty m m (λ k. ap (λ o. over o (get m k)) (sym (get-empty bytes_cmp k))) q

-- ---- pairs whose keys are apart
get_apart : (es : List Pair) (m : Dataset) (q : Bytes) → AreApart es → get (with_texts es m) q ≡ over (find bytes_cmp q es) (get m q)
get_apart [] m q a = refl
get_apart (e ∷ es) m q a =
    get_apart es (insert m e.0 (plain e.1)) q a.1
    ∙ ap (over (find bytes_cmp q es)) (get-insert nat_list_cmp_total m e.0 (plain e.1) q)
    ∙ elim (is_key q e.0) as (λ b. is_key q e.0 ≡ b → over (find bytes_cmp q es) (cond b (Some (plain e.1)) (get m q)) ≡ over (cond b (Some e.1) (find bytes_cmp q es)) (get m q)) [
      | true ↦ λ t. ap (λ o. over o (Some (plain e.1))) (ap (λ k. find bytes_cmp k es) (same_key q e.0 t) ∙ missing es e.0 a.0)
      | false ↦ λ t. refl
    ] refl

-- the last texts alone do what all do
with_entries : (ps : List Pair) (m : Dataset) → with_texts (entries (last_values ps)) m ≡ with_texts ps m
with_entries ps m = same_map nat_list_cmp_total exact_bytes _ _ (λ q.
    get_apart (entries (last_values ps)) m q (entries_apart (last_values ps))
    ∙ ap (λ o. over o (get m q)) (sym (get-entries (last_values ps) q))
    ∙ sym (get_last ps m q))

-- ---- the keys that change
abbrev is_new : Dataset → Pair → Bool
is_new m p = not (is_plain p.1 (get m p.0))

still : (e : Pair) (m n : Dataset) (es : List Pair) → AllByRecursion (λ (x : Pair). is_key x.0 e.0 ≡ false) es → AllByRecursion (λ (x : Pair). get n x.0 ≡ get m x.0) es → AllByRecursion (λ (x : Pair). get (insert n e.0 (plain e.1)) x.0 ≡ get m x.0) es
still e m n [] a same = tt
still e m n (x ∷ xs) a same = (get-insert nat_list_cmp_total n e.0 (plain e.1) x.0 ∙ ap (λ b. cond b (Some (plain e.1)) (get n x.0)) a.0 ∙ same.0, still e m n xs a.1 same.1)

-- a key that holds its text already needs no change
skipped : (es : List Pair) (m n : Dataset) → AreApart es → AllByRecursion (λ (x : Pair). get n x.0 ≡ get m x.0) es → with_texts (filter (is_new m) es) n ≡ with_texts es n
skipped [] m n a same = refl
skipped (e ∷ es) m n a same = elim (is_plain e.1 (get m e.0)) as (λ b. is_plain e.1 (get m e.0) ≡ b → with_texts (cond (not b) (e ∷ filter (is_new m) es) (filter (is_new m) es)) n ≡ with_texts es (insert n e.0 (plain e.1))) [
  | true ↦ λ t. skipped es m n a.1 same.1 ∙ ap (with_texts es) (sym (insert_same n e.0 (plain e.1) (same.0 ∙ plain_is e.1 _ t)))
  | false ↦ λ t. skipped es m (insert n e.0 (plain e.1)) a.1 (still e m n es a.0 same.1)
] refl

itself : (m : Dataset) (es : List Pair) → AllByRecursion (λ (x : Pair). get m x.0 ≡ get m x.0) es
itself m [] = tt
itself m (e ∷ es) = (refl, itself m es)

with_changed : (ps : List Pair) (m : Dataset) → with_texts (changed ps m) m ≡ with_texts ps m
with_changed ps m = skipped (entries (last_values ps)) m m (entries_apart (last_values ps)) (itself m (entries (last_values ps))) ∙ with_entries ps m

none_left : (m : Dataset) (es : List Pair) → AllByRecursion (λ (x : Pair). get m x.0 ≡ Some (plain x.1)) es → filter (is_new m) es ≡ []
none_left m [] a = refl
none_left m (e ∷ es) a = ap (λ b. cond (not b) (e ∷ filter (is_new m) es) (filter (is_new m) es)) (ap (is_plain e.1) a.0 ∙ equal_bytes e.1) ∙ none_left m es a.1

none_changed : (ps : List Pair) (m : Dataset) → with_texts ps m ≡ m → changed ps m ≡ []
none_changed ps m same = none_left m (entries (last_values ps)) (all_map _ _ (λ x is. ap (λ (n : Dataset). get n x.0) (sym same) ∙ get_last ps m x.0 ∙ ap (λ o. over o (get m x.0)) is) (entries (last_values ps)) (own_entries (last_values ps)))

-- ---- words within the limit
all_pairs : (es : List Pair) → AllByRecursion (λ (x : Pair). IsTrue (fits x.0) × IsTrue (fits x.1)) es → list_all pair_fits es ≡ true
all_pairs [] h = refl
all_pairs (e ∷ es) h = and_from (pair_fits e) _ (and_from (fits e.0) (fits e.1) h.0.0 h.0.1) (all_pairs es h.1)

all_filter : (p q : Pair → Bool) (xs : List Pair) → list_all p xs ≡ true → list_all p (filter q xs) ≡ true
all_filter p q [] h = refl
all_filter p q (x ∷ xs) h = elim (q x) as (λ b. list_all p (cond b (x ∷ filter q xs) (filter q xs)) ≡ true) [
  | true ↦ and_from (p x) _ (first (p x) _ h) (all_filter p q xs (second (p x) _ h))
  | false ↦ all_filter p q xs (second (p x) _ h)
]

changed_fit : (ps : List Pair) (m : Dataset) → list_all pair_fits ps ≡ true → list_all pair_fits (changed ps m) ≡ true
changed_fit ps m fit = all_filter pair_fits (is_new m) (entries (last_values ps)) (all_pairs (entries (last_values ps)) (all_map _ _ (λ x is. with_fields_fit ps empty fit no_fields x.0 x.1 is) (entries (last_values ps)) (own_entries (last_values ps))))

pairs_fit : (ps : List Pair) → list_all fits (unpaired ps) ≡ true → list_all pair_fits ps ≡ true
pairs_fit [] h = refl
pairs_fit (p ∷ ps) h = and_from (pair_fits p) _ (and_from (fits p.0) (fits p.1) (first (fits p.0) _ h) (first (fits p.1) _ (second (fits p.0) _ h))) (pairs_fit ps (second (fits p.1) _ (second (fits p.0) _ h)))

names_fit : (ps : List Pair) → list_all fits (unpaired ps) ≡ true → list_all fits (names ps) ≡ true
names_fit [] h = refl
names_fit (p ∷ ps) h = and_from (fits p.0) _ (first (fits p.0) _ h) (names_fit ps (second (fits p.1) _ (second (fits p.0) _ h)))

-- ---- the law
changed_leads : (xs ps : List Pair) (m : Dataset) → changed ps m ≡ xs → list_all pair_fits xs ≡ true → apply_all (set_effects xs) m ≡ Some (with_texts ps m)
unfolding apply change
changed_leads [] ps m e fit = ap Some (ap (λ xs. with_texts xs m) (sym e) ∙ with_changed ps m)
changed_leads (x ∷ xs) ps m e fit =
    ap (λ b. option_and_then (apply_all []) (if b then Some (with_texts (x ∷ xs) m) else None)) fit
    ∙ ap Some (ap (λ ys. with_texts ys m) (sym e) ∙ with_changed ps m)

no_effect : (xs : List Pair) → set_effects xs ≡ [] → xs ≡ []
no_effect [] h = refl
no_effect (x ∷ xs) h = cc

put_all_faithful : (answer : Tree) (ps : List Pair) (m : Dataset) → list_all pair_fits ps ≡ true → IsLeadingAt (put_all answer ps m) m
put_all_faithful answer ps m fit = record {
  leads = changed_leads (changed ps m) ps m refl (changed_fit ps m fit);
  none = λ e. sym (with_changed ps m) ∙ ap (λ xs. with_texts xs m) (no_effect (changed ps m) e);
  some = λ e. ap set_effects (none_changed ps m e);
}

pub mset_faithful : (ps : List Pair) (now : ℤ) (m : Dataset) → IsTrue (list_all fits (unpaired ps)) → IsFaithful (on_keys (names ps) (mset ps)) now m
mset_faithful ps now m h = let command : Command = on_keys (names ps) (mset ps) in leading command now m (names_fit ps h) (put_all_faithful done ps (before command now m) (pairs_fit ps h))

new_faithful : (ps : List Pair) (m : Dataset) → list_all pair_fits ps ≡ true → IsLeadingAt (msetnx ps m) m
new_faithful ps m fit = elim (is_any_there ps m) as (λ b. IsLeadingAt (if b then answered (reply.int (pos 0)) m else put_all (reply.int (pos 1)) ps m) m) [
  | true ↦ leading_at _ m (answered_faithful _ m refl refl)
  | false ↦ put_all_faithful _ ps m fit
]

pub msetnx_faithful : (ps : List Pair) (now : ℤ) (m : Dataset) → IsTrue (list_all fits (unpaired ps)) → IsFaithful (on_keys (names ps) (msetnx ps)) now m
msetnx_faithful ps now m h = let command : Command = on_keys (names ps) (msetnx ps) in leading command now m (names_fit ps h) (new_faithful ps (before command now m) (pairs_fit ps h))

-- ---- an effect of no more pairs than the command names is short
filter_few : {X : Type 0} (p : X → Bool) (xs : List X) → length (filter p xs) ≤ length xs
filter_few p [] = omega arith
filter_few p (x ∷ xs) = elim (p x) as (λ b. length (cond b (x ∷ filter p xs) (filter p xs)) ≤ length (x ∷ xs)) [
  | true ↦ omega (arith, filter_few p xs)
  | false ↦ omega (arith, filter_few p xs)
]

one_more : (b : Bool) (n : ℕ) → cond b n (n + 1) ≤ n + 1
one_more true n = omega arith
one_more false n = omega arith

texts_few : (ps : List Pair) (t : ByteMap Bytes) → len (with_fields ps t) ≤ len t + length ps
texts_few [] t = omega arith
texts_few (p ∷ ps) t = omega (arith, texts_few ps (insert t p.0 p.1), len-insert nat_list_cmp_total t p.0 p.1, one_more (contains_key t p.0) (len t))

changed_few : (ps : List Pair) (m : Dataset) → length (changed ps m) ≤ length ps
changed_few ps m = omega (arith, filter_few (λ (p : Pair). not (is_plain p.1 (get m p.0))) (entries (last_values ps)), len-entries (last_values ps), texts_few ps empty, len-empty bytes_cmp Bytes)

unpaired_twice : (ps : List Pair) → length (unpaired ps) ≡ 2 * length ps
unpaired_twice [] = refl
unpaired_twice (p ∷ ps) = omega (arith, unpaired_twice ps)

set_effects_short : (xs : List Pair) → 2 * length xs < 1048576 → All IsShort (set_effects xs)
set_effects_short [] few = none_short [] refl
set_effects_short (x ∷ xs) few = one_short (effect.MSet (x ∷ xs)) (short_effect (effect.MSet (x ∷ xs)) (omega (arith, length-pairs (x ∷ xs), few)))

put_all_short : (ps : List Pair) (m : Dataset) → length (unpaired ps) < commands.words → All IsShort (set_effects (changed ps m))
put_all_short ps m few = set_effects_short (changed ps m) (omega (arith, commands-words, unpaired_twice ps, changed_few ps m, few))

pub mset_texts : (ps : List Pair) (now : ℤ) (m : Dataset) → IsTrue (list_all fits (unpaired ps)) → length (unpaired ps) < commands.words → HasCommandTexts (on_keys (names ps) (mset ps)) now m
mset_texts ps now m h few = let command : Command = on_keys (names ps) (mset ps) in sent command now m (mset_faithful ps now m h) (put_all_short ps (before command now m) few)

new_short : (ps : List Pair) (m : Dataset) → length (unpaired ps) < commands.words → All IsShort (msetnx ps m).effects
new_short ps m few = elim (is_any_there ps m) as (λ b. All IsShort (if b then answered (reply.int (pos 0)) m else put_all (reply.int (pos 1)) ps m).effects) [
  | true ↦ none_short [] refl
  | false ↦ put_all_short ps m few
]

pub msetnx_texts : (ps : List Pair) (now : ℤ) (m : Dataset) → IsTrue (list_all fits (unpaired ps)) → length (unpaired ps) < commands.words → HasCommandTexts (on_keys (names ps) (msetnx ps)) now m
msetnx_texts ps now m h few = let command : Command = on_keys (names ps) (msetnx ps) in sent command now m (msetnx_faithful ps now m h) (new_short ps (before command now m) few)

-- ---- .. and carries no more words than the command
set_effects_few : (n : ℕ) (xs : List Pair) → 2 * length xs ≤ n → All (λ e. length (arguments e) ≤ n) (set_effects xs)
set_effects_few n [] few = All-nil (λ e. length (arguments e) ≤ n)
set_effects_few n (x ∷ xs) few = All-cons (λ e. length (arguments e) ≤ n) (effect.MSet (x ∷ xs)) [] (omega (arith, length-pairs (x ∷ xs), few)) (All-nil (λ e. length (arguments e) ≤ n))

pub mset_few : MSetIsNoLonger
mset_few ps m = set_effects_few (length (unpaired ps)) (changed ps m) (omega (arith, unpaired_twice ps, changed_few ps m))

pub msetnx_few : MSetNxIsNoLonger
msetnx_few ps m = elim (is_any_there ps m) as (λ b. All (λ e. length (arguments e) ≤ length (unpaired ps)) (if b then answered (reply.int (pos 0)) m else put_all (reply.int (pos 1)) ps m).effects) [
  | true ↦ All-nil (λ e. length (arguments e) ≤ length (unpaired ps))
  | false ↦ mset_few ps m
]
