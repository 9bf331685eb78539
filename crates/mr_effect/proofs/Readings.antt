-- Reading and spelling undo one another.
use Rattle.std.proofs.Common.{◌≡◌, ℕ, ◌-◌, ◌<◌, ◌≤◌, ℤ, List, [], ◌∷◌, ◌++◌, append_assoc, length, get_or, take, drop, map, arith, Bool, true, false, ◌&&◌, Option, Some, None, IsTrue, refl, sym, ◌∙◌, ap, subst}
use Rattle.std.proofs.Common.{to_z, of_z, w64}
use Rattle.std.specs.Prelude.{T, ◌==◌, codes, if◌then◌else◌}
use Rattle.std.proofs.Math.Facts.{sfits_lit}
use Rattle.std.proofs.lemmas.Int.{to_z-of_z}
use Rattle.std.proofs.Math.Seq.{take-length}
use Rattle.std.specs.Option.{option_map, option_and_then}
use Rattle.std.specs.List.{flat_map, list_all}
use Rattle.std.specs.Fmt.{signed_decimal}
use Rattle.std.specs.Str.{bytes_eq}
use Rattle.mr_map.specs.Bytes.{Bytes}
use Rattle.mr_bytes.specs.Number.{is_i64, number_of}
use Rattle.mr_score.specs.Score.{is_score}
use Rattle.mr_score.specs.Texts.{within_limit}
use Rattle.mr_score.proofs.TextLemmas.{score_fits}
use Rattle.mr_effect.specs.Effects.{has_spelling, is_place, is_deadline, is_some_of, has_score}
use Rattle.mr_effect.specs.Names.{text_of, named}
use Rattle.mr_effect.specs.Spelling.{words, name_of, arguments, pair_words, score_words, end_word, side_word, IsSpelled, Spells, FindsEach}
use Rattle.mr_effect.specs.Reading.{effect_of, read_as, reading, end_of, side_of, within, place_of, within_deadlines, deadline_of, score_of, pairs_of, scores_of, trim_of, move_item_of}
use Rattle.mr_effect.specs.declared.name.EffectName.{EffectName}
use Rattle.mr_effect.specs.declared.name.EffectName.TheVariants as name
use Rattle.mr_effect.specs.declared.effect.Effect.{Effect}
use Rattle.mr_effect.specs.declared.effect.Effect.TheVariants as effect
use Rattle.mr_bytes.specs.declared.ends.End.{End}
use Rattle.mr_bytes.specs.declared.ends.End.TheVariants.{Left, Right}
use Rattle.mr_bytes.specs.declared.ends.Side.{Side}
use Rattle.mr_bytes.specs.declared.ends.Side.TheVariants.{Before, After}
use Rattle.mr_bytes.proofs.Numbers.{number_of-signed_decimal, number_text, same_bytes}
use Rattle.mr_bytes.proofs.Both.{first, second}
use Rattle.mr_effect.proofs.Deadlines.{deadline_fits}
use Rattle.mr_effect.proofs.NameLemmas.{named_itself, named_is}

-- ---- what is spelled is read

place_read : (i : ℤ) → IsTrue (is_place i) → place_of (signed_decimal i) ≡ Some i
place_read i h = ap (option_and_then within) (number_of-signed_decimal i (first (is_i64 i) _ h)) ∙ ap (λ b. if b then Some i else None) h

deadline_read : (d : ℤ) → IsTrue (is_deadline d) → deadline_of (signed_decimal d) ≡ Some d
deadline_read d h = ap (option_and_then within_deadlines) (number_of-signed_decimal d (deadline_fits d h)) ∙ ap (λ b. if b then Some d else None) h

end_read : (e : End) → end_of (end_word e) ≡ Some e
end_read Left = refl
end_read Right = refl

side_read : (s : Side) → side_of (side_word s) ≡ Some s
side_read Before = refl
side_read After = refl

pairs_read : (ps : List (Bytes × Bytes)) → pairs_of (flat_map pair_words ps) ≡ Some ps
pairs_read [] = refl
pairs_read (p ∷ ps) = ap (option_map (λ (qs : List (Bytes × Bytes)). p ∷ qs)) (pairs_read ps)

score_read : (n : ℤ) → IsTrue (is_score n) → score_of (signed_decimal n) ≡ Some n
score_read n h = ap (option_and_then within_limit) (number_of-signed_decimal n (score_fits n h)) ∙ ap (λ b. if b then Some n else None) h

scores_read : (ps : List (Bytes × ℤ)) → IsTrue (list_all has_score ps) → scores_of (flat_map score_words ps) ≡ Some ps
scores_read [] h = refl
scores_read (p ∷ ps) h =
    ap (option_and_then (λ (n : ℤ). option_map (λ (qs : List (Bytes × ℤ)). (p.0, n) ∷ qs) (scores_of (flat_map score_words ps)))) (score_read p.1 (first (has_score p) _ h))
    ∙ ap (option_map (λ (qs : List (Bytes × ℤ)). p ∷ qs)) (scores_read ps (second (has_score p) _ h))

both_ends : (from to : Bytes) (taken put : End) → move_item_of (from ∷ to ∷ end_word taken ∷ end_word put ∷ []) ≡ Some (effect.MoveItem from to taken put)
both_ends from to Left Left = refl
both_ends from to Left Right = refl
both_ends from to Right Left = refl
both_ends from to Right Right = refl

trim_read : (k : Bytes) (a b : ℤ) → IsTrue (is_i64 a && is_i64 b) → trim_of (k ∷ signed_decimal a ∷ signed_decimal b ∷ []) ≡ Some (effect.Trim k a b)
trim_read k a b h =
    ap (option_and_then (λ x. option_map (effect.Trim k x) (number_of (signed_decimal b)))) (number_of-signed_decimal a (first _ _ h))
    ∙ ap (option_map (effect.Trim k a)) (number_of-signed_decimal b (second (is_i64 a) _ h))

reading-arguments : (e : Effect) → IsTrue (has_spelling e) → reading (name_of e) (arguments e) ≡ Some e
unfolding reading
reading-arguments (effect.Set k text) h = refl
reading-arguments (effect.SetUntil k text d) h = ap (option_map (effect.SetUntil k text)) (deadline_read d h)
reading-arguments (effect.SetKeeping k text) h = refl
reading-arguments (effect.MSet []) h = cc
reading-arguments (effect.MSet (p ∷ ps)) h = ap (option_map effect.MSet) (pairs_read (p ∷ ps))
reading-arguments (effect.Append k text) h = refl
reading-arguments (effect.SetRange k i text) h = ap (option_map (λ j. effect.SetRange k j text)) (place_read i h)
reading-arguments (effect.Increase k n) h = ap (option_map (effect.Increase k)) (number_of-signed_decimal n h)
reading-arguments (effect.Del k) h = refl
reading-arguments (effect.Expire k d) h = ap (option_map (effect.Expire k)) (deadline_read d h)
reading-arguments (effect.Persist k) h = refl
reading-arguments (effect.Rename from to) h = refl
reading-arguments effect.Clear h = refl
reading-arguments effect.Ping h = refl
reading-arguments (effect.SetFields k []) h = cc
reading-arguments (effect.SetFields k (p ∷ ps)) h = ap (option_map (effect.SetFields k)) (pairs_read (p ∷ ps))
reading-arguments (effect.RemoveFields k []) h = cc
reading-arguments (effect.RemoveFields k (f ∷ fs)) h = refl
reading-arguments (effect.Push k end []) h = cc
reading-arguments (effect.Push k Left (x ∷ xs)) h = refl
reading-arguments (effect.Push k Right (x ∷ xs)) h = refl
reading-arguments (effect.Pop k Left n) h = ap (option_map (effect.Pop k Left)) (number_of-signed_decimal n h)
reading-arguments (effect.Pop k Right n) h = ap (option_map (effect.Pop k Right)) (number_of-signed_decimal n h)
reading-arguments (effect.SetItem k i x) h = ap (option_map (λ j. effect.SetItem k j x)) (place_read i h)
reading-arguments (effect.InsertItem k side pivot x) h = ap (option_map (λ s. effect.InsertItem k s pivot x)) (side_read side)
reading-arguments (effect.RemoveItems k n x) h = ap (option_map (λ m. effect.RemoveItems k m x)) (number_of-signed_decimal n h)
reading-arguments (effect.Trim k a b) h = trim_read k a b h
reading-arguments (effect.MoveItem from to taken put) h = both_ends from to taken put
reading-arguments (effect.AddMembers k []) h = cc
reading-arguments (effect.AddMembers k (m ∷ ms)) h = refl
reading-arguments (effect.RemoveMembers k []) h = cc
reading-arguments (effect.RemoveMembers k (m ∷ ms)) h = refl
reading-arguments (effect.MoveMember from to m) h = refl
reading-arguments (effect.SetScores k []) h = cc
reading-arguments (effect.SetScores k (p ∷ ps)) h = ap (option_map (effect.SetScores k)) (scores_read (p ∷ ps) h)
reading-arguments (effect.RemoveScores k []) h = cc
reading-arguments (effect.RemoveScores k (m ∷ ms)) h = refl

-- the words of an effect are read as that effect
pub effect_of-words : (e : Effect) → IsTrue (has_spelling e) → effect_of (words e) ≡ Some e
unfolding effect_of words
effect_of-words e h = ap (λ n. read_as n (arguments e)) (named_itself (name_of e)) ∙ reading-arguments e h

-- scores that were read, and those still to come
joined : (ps : List (Bytes × ℤ)) (p : Bytes × ℤ) (o : Option (List (Bytes × ℤ))) → option_map (λ (qs : List (Bytes × ℤ)). ps ++ qs) (option_map (λ (qs : List (Bytes × ℤ)). p ∷ qs) o) ≡ option_map (λ (qs : List (Bytes × ℤ)). (ps ++ p ∷ []) ++ qs) o
joined ps p None = refl
joined ps p (Some qs) = ap Some (sym (append_assoc ps (p ∷ []) qs))

pub scores_on : {X : Type 0} (f : X → Bytes) (ps : List (Bytes × ℤ)) (xs : List X) (s m : X) (n : ℤ) → 2 ≤ length xs → s ≡ get_or xs 0 s → m ≡ get_or xs 1 m → score_of (f s) ≡ Some n
    → option_map (λ (qs : List (Bytes × ℤ)). ps ++ qs) (scores_of (map f xs)) ≡ option_map (λ (qs : List (Bytes × ℤ)). (ps ++ (f m, n) ∷ []) ++ qs) (scores_of (map f (take (length xs - 2) (drop 2 xs))))
scores_on f ps [] s m n two s_is m_is read = absurd (omega arith)
scores_on f ps (x ∷ []) s m n two s_is m_is read = absurd (omega arith)
scores_on {X} f ps (x ∷ y ∷ xs) s m n two s_is m_is read =
    let rest : take (length (x ∷ y ∷ xs) - 2) xs ≡ xs = ap (λ (k : ℕ). take k xs) (omega arith) ∙ take-length xs in
    let spelled : score_of (f x) ≡ Some n = ap (λ (z : X). score_of (f z)) (sym s_is) ∙ read in
    ap (λ (o : Option ℤ). option_map (λ (qs : List (Bytes × ℤ)). ps ++ qs) (option_and_then (λ (k : ℤ). option_map (λ (qs : List (Bytes × ℤ)). (f y, k) ∷ qs) (scores_of (map f xs))) o)) spelled
    ∙ joined ps (f y, n) (scores_of (map f xs))
    ∙ ap (λ (z : X). option_map (λ (qs : List (Bytes × ℤ)). (ps ++ (f z, n) ∷ []) ++ qs) (scores_of (map f xs))) (sym m_is)
    ∙ ap (λ (zs : List X). option_map (λ (qs : List (Bytes × ℤ)). (ps ++ (f m, n) ∷ []) ++ qs) (scores_of (map f zs))) (sym rest)

-- a score without its member
pub scores_odd : {X : Type 0} (f : X → Bytes) (xs : List X) → length xs < 2 → (length xs == 0) ≡ false → scores_of (map f xs) ≡ None
scores_odd f [] few some = cc
scores_odd f (x ∷ []) few some = refl
scores_odd f (x ∷ y ∷ xs) few some = absurd (omega arith)

-- ---- what is read is spelled

mapped : {A B : Type 0} {P : Type 0} (f : A → B) (o : Option A) (e : B) → option_map f o ≡ Some e → ((a : A) → o ≡ Some a → f a ≡ e → P) → P
mapped f None e h go = cc
mapped f (Some a) e h go = let same : f a ≡ e = cc in go a refl same

chosen : {A B : Type 0} {P : Type 0} (f : A → Option B) (o : Option A) (e : B) → option_and_then f o ≡ Some e → ((a : A) → o ≡ Some a → f a ≡ Some e → P) → P
chosen f None e h go = cc
chosen f (Some a) e h go = go a refl h

is : (ws : List Bytes) (f e : Effect) → IsTrue (has_spelling f) → words f ≡ ws → f ≡ e → IsSpelled ws e
is ws f e spelled same h = subst (IsSpelled ws) h (spelled, same)

given : {A : Type 0} (x y : A) → Some x ≡ Some y → x ≡ y
given x y h = cc

pairs_sound : (ws : List Bytes) (ps : List (Bytes × Bytes)) → pairs_of ws ≡ Some ps → flat_map pair_words ps ≡ ws
pairs_sound [] ps h = let same : [] ≡ ps = given _ _ h in subst (λ (x : List (Bytes × Bytes)). flat_map pair_words x ≡ []) same refl
pairs_sound (f ∷ []) ps h = cc
pairs_sound (f ∷ v ∷ ws) ps h = mapped (λ (qs : List (Bytes × Bytes)). (f, v) ∷ qs) (pairs_of ws) ps h (λ qs found same.
    subst (λ (x : List (Bytes × Bytes)). flat_map pair_words x ≡ f ∷ v ∷ ws) same (ap (λ (x : List Bytes). f ∷ v ∷ x) (pairs_sound ws qs found)))

some_pairs : (f : Bytes) (ws : List Bytes) (ps : List (Bytes × Bytes)) → flat_map pair_words ps ≡ f ∷ ws → IsTrue (is_some_of ps)
some_pairs f ws [] h = cc
some_pairs f ws (p ∷ ps) h = refl

place_sound : (w : Bytes) (i : ℤ) → place_of w ≡ Some i → (w ≡ signed_decimal i) × IsTrue (is_place i)
place_sound w i h = chosen within (number_of w) i h (λ j read kept.
    elim (is_place j) as (λ b. is_place j ≡ b → (if b then Some j else None) ≡ Some i → (w ≡ signed_decimal i) × IsTrue (is_place i)) [
      | true ↦ λ t s. subst (λ (z : ℤ). (w ≡ signed_decimal z) × IsTrue (is_place z)) (given _ _ s) ((number_text w j read).0, t)
      | false ↦ λ t s. cc
    ] refl kept)

deadline_sound : (w : Bytes) (d : ℤ) → deadline_of w ≡ Some d → (w ≡ signed_decimal d) × IsTrue (is_deadline d)
deadline_sound w d h = chosen within_deadlines (number_of w) d h (λ m read kept.
    elim (is_deadline m) as (λ b. is_deadline m ≡ b → (if b then Some m else None) ≡ Some d → (w ≡ signed_decimal d) × IsTrue (is_deadline d)) [
      | true ↦ λ t s. subst (λ (z : ℤ). (w ≡ signed_decimal z) × IsTrue (is_deadline z)) (given _ _ s) ((number_text w m read).0, t)
      | false ↦ λ t s. cc
    ] refl kept)

both : (a b : Bool) → IsTrue a → IsTrue b → IsTrue (a && b)
both true b p q = q
both false b p q = cc

score_sound : (w : Bytes) (n : ℤ) → score_of w ≡ Some n → (w ≡ signed_decimal n) × IsTrue (is_score n)
score_sound w n h = chosen within_limit (number_of w) n h (λ m read kept.
    elim (is_score m) as (λ b. is_score m ≡ b → (if b then Some m else None) ≡ Some n → (w ≡ signed_decimal n) × IsTrue (is_score n)) [
      | true ↦ λ t s. subst (λ (z : ℤ). (w ≡ signed_decimal z) × IsTrue (is_score z)) (given _ _ s) ((number_text w m read).0, t)
      | false ↦ λ t s. cc
    ] refl kept)

-- a score that is passed on stays the same
pub same_score : (w : Bytes) (n : ℤ) → score_of w ≡ Some n → to_z w64 (of_z w64 n) ≡ n
same_score w n h = to_z-of_z w64 n (sfits_lit {w = w64} {z = n} (subst T (sym (score_fits n (score_sound w n h).1)) tt))

scores_sound : (ws : List Bytes) (ps : List (Bytes × ℤ)) → scores_of ws ≡ Some ps → (flat_map score_words ps ≡ ws) × IsTrue (list_all has_score ps)
scores_sound [] ps h = let same : [] ≡ ps = given _ _ h in subst (λ (x : List (Bytes × ℤ)). (flat_map score_words x ≡ []) × IsTrue (list_all has_score x)) same (refl, refl)
scores_sound (s ∷ []) ps h = cc
scores_sound (s ∷ m ∷ ws) ps h = chosen (λ (n : ℤ). option_map (λ (qs : List (Bytes × ℤ)). (m, n) ∷ qs) (scores_of ws)) (score_of s) ps h (λ n found_n later.
    mapped (λ (qs : List (Bytes × ℤ)). (m, n) ∷ qs) (scores_of ws) ps later (λ qs found same.
    let here = score_sound s n found_n in
    let rest = scores_sound ws qs found in
    subst (λ (x : List (Bytes × ℤ)). (flat_map score_words x ≡ s ∷ m ∷ ws) × IsTrue (list_all has_score x)) same
    (ap (λ (x : Bytes). x ∷ m ∷ flat_map score_words qs) (sym here.0) ∙ ap (λ (x : List Bytes). s ∷ m ∷ x) rest.0, both _ _ here.1 rest.1)))

some_scores : (s : Bytes) (ws : List Bytes) (ps : List (Bytes × ℤ)) → flat_map score_words ps ≡ s ∷ ws → IsTrue (is_some_of ps)
some_scores s ws [] h = cc
some_scores s ws (p ∷ ps) h = refl

end_sound : (w : Bytes) (e : End) → end_of w ≡ Some e → w ≡ end_word e
end_sound w e h = elim (bytes_eq w (codes "LEFT")) as (λ b. bytes_eq w (codes "LEFT") ≡ b → (if b then Some Left else if bytes_eq w (codes "RIGHT") then Some Right else None) ≡ Some e → w ≡ end_word e) [
  | true ↦ λ t s. same_bytes w _ t ∙ ap end_word (given _ _ s)
  | false ↦ λ t s. elim (bytes_eq w (codes "RIGHT")) as (λ b. bytes_eq w (codes "RIGHT") ≡ b → (if b then Some Right else None) ≡ Some e → w ≡ end_word e) [
    | true ↦ λ t s. same_bytes w _ t ∙ ap end_word (given _ _ s)
    | false ↦ λ t s. cc
  ] refl s
] refl h

side_sound : (w : Bytes) (e : Side) → side_of w ≡ Some e → w ≡ side_word e
side_sound w e h = elim (bytes_eq w (codes "BEFORE")) as (λ b. bytes_eq w (codes "BEFORE") ≡ b → (if b then Some Before else if bytes_eq w (codes "AFTER") then Some After else None) ≡ Some e → w ≡ side_word e) [
  | true ↦ λ t s. same_bytes w _ t ∙ ap side_word (given _ _ s)
  | false ↦ λ t s. elim (bytes_eq w (codes "AFTER")) as (λ b. bytes_eq w (codes "AFTER") ≡ b → (if b then Some After else None) ≡ Some e → w ≡ side_word e) [
    | true ↦ λ t s. same_bytes w _ t ∙ ap side_word (given _ _ s)
    | false ↦ λ t s. cc
  ] refl s
] refl h

-- the words, the name among them
abbrev Sound : EffectName → List Bytes → Type 0
Sound n ws = (e : Effect) → reading n ws ≡ Some e → IsSpelled (text_of n ∷ ws) e

-- where a text is a word that was looked for, what is read then
when : {P : Type 0} (a b : Bytes) (o : Option Effect) (e : Effect) → (if bytes_eq a b then o else None) ≡ Some e → (a ≡ b → o ≡ Some e → P) → P
when {P} a b o e h go = elim (bytes_eq a b) as (λ t. bytes_eq a b ≡ t → (if t then o else None) ≡ Some e → P) [
  | true ↦ λ t s. go (same_bytes a b t) s
  | false ↦ λ t s. cc
] refl h

set_sound : (ws : List Bytes) → Sound name.Set ws
unfolding reading words
set_sound [] e h = cc
set_sound (k ∷ []) e h = cc
set_sound (k ∷ text ∷ []) e h = is _ (effect.Set k text) e refl refl (given _ _ h)
set_sound (k ∷ text ∷ w ∷ []) e h = when w (codes "KEEPTTL") (Some (effect.SetKeeping k text)) e h (λ same read.
    is _ (effect.SetKeeping k text) e refl (ap (λ (x : Bytes). codes "SET" ∷ k ∷ text ∷ x ∷ []) (sym same)) (given _ _ read))
set_sound (k ∷ text ∷ v ∷ w ∷ []) e h = when v (codes "PXAT") (option_map (effect.SetUntil k text) (deadline_of w)) e h (λ same_option read. mapped (effect.SetUntil k text) (deadline_of w) e read (λ d found same.
    let spelled = deadline_sound w d found in
    is _ (effect.SetUntil k text d) e spelled.1 (ap (λ (x : Bytes). codes "SET" ∷ k ∷ text ∷ x ∷ signed_decimal d ∷ []) (sym same_option) ∙ ap (λ (x : Bytes). codes "SET" ∷ k ∷ text ∷ v ∷ x ∷ []) (sym spelled.0)) same))
set_sound (k ∷ text ∷ v ∷ w ∷ x ∷ ws) e h = cc

mset_sound : (ws : List Bytes) → Sound name.MSet ws
unfolding reading words
mset_sound [] e h = cc
mset_sound (k ∷ ws) e h = mapped effect.MSet (pairs_of (k ∷ ws)) e h (λ ps found same.
    let spelled = pairs_sound (k ∷ ws) ps found in
    is _ (effect.MSet ps) e (some_pairs k ws ps spelled) (ap (λ (x : List Bytes). codes "MSET" ∷ x) spelled) same)

append_sound : (ws : List Bytes) → Sound name.Append ws
unfolding reading words
append_sound [] e h = cc
append_sound (k ∷ []) e h = cc
append_sound (k ∷ text ∷ []) e h = is _ (effect.Append k text) e refl refl (given _ _ h)
append_sound (k ∷ text ∷ w ∷ ws) e h = cc

set_range_sound : (ws : List Bytes) → Sound name.SetRange ws
unfolding reading words
set_range_sound [] e h = cc
set_range_sound (k ∷ []) e h = cc
set_range_sound (k ∷ w ∷ []) e h = cc
set_range_sound (k ∷ w ∷ text ∷ []) e h = mapped (λ i. effect.SetRange k i text) (place_of w) e h (λ i found same.
    let spelled = place_sound w i found in
    is _ (effect.SetRange k i text) e spelled.1 (ap (λ (x : Bytes). codes "SETRANGE" ∷ k ∷ x ∷ text ∷ []) (sym spelled.0)) same)
set_range_sound (k ∷ w ∷ text ∷ x ∷ ws) e h = cc

increase_sound : (ws : List Bytes) → Sound name.IncrBy ws
unfolding reading words
increase_sound [] e h = cc
increase_sound (k ∷ []) e h = cc
increase_sound (k ∷ w ∷ []) e h = mapped (effect.Increase k) (number_of w) e h (λ n found same.
    let spelled = number_text w n found in
    is _ (effect.Increase k n) e spelled.1 (ap (λ (x : Bytes). codes "INCRBY" ∷ k ∷ x ∷ []) (sym spelled.0)) same)
increase_sound (k ∷ w ∷ x ∷ ws) e h = cc

rename_sound : (ws : List Bytes) → Sound name.Rename ws
unfolding reading words
rename_sound [] e h = cc
rename_sound (from ∷ []) e h = cc
rename_sound (from ∷ to ∷ []) e h = is _ (effect.Rename from to) e refl refl (given _ _ h)
rename_sound (from ∷ to ∷ w ∷ ws) e h = cc

clear_sound : (ws : List Bytes) → Sound name.FlushAll ws
unfolding reading words
clear_sound [] e h = is _ effect.Clear e refl refl (given _ _ h)
clear_sound (w ∷ ws) e h = cc

del_sound : (ws : List Bytes) → Sound name.Del ws
unfolding reading words
del_sound [] e h = cc
del_sound (k ∷ []) e h = is _ (effect.Del k) e refl refl (given _ _ h)
del_sound (k ∷ w ∷ ws) e h = cc

expire_sound : (ws : List Bytes) → Sound name.PExpireAt ws
unfolding reading words
expire_sound [] e h = cc
expire_sound (k ∷ []) e h = cc
expire_sound (k ∷ w ∷ []) e h = mapped (effect.Expire k) (deadline_of w) e h (λ d found same.
    let spelled = deadline_sound w d found in
    is _ (effect.Expire k d) e spelled.1 (ap (λ (x : Bytes). codes "PEXPIREAT" ∷ k ∷ x ∷ []) (sym spelled.0)) same)
expire_sound (k ∷ w ∷ x ∷ ws) e h = cc

persist_sound : (ws : List Bytes) → Sound name.Persist ws
unfolding reading words
persist_sound [] e h = cc
persist_sound (k ∷ []) e h = is _ (effect.Persist k) e refl refl (given _ _ h)
persist_sound (k ∷ w ∷ ws) e h = cc

ping_sound : (ws : List Bytes) → Sound name.Ping ws
unfolding reading words
ping_sound [] e h = is _ effect.Ping e refl refl (given _ _ h)
ping_sound (w ∷ ws) e h = cc

set_fields_sound : (ws : List Bytes) → Sound name.HSet ws
unfolding reading words
set_fields_sound [] e h = cc
set_fields_sound (k ∷ []) e h = cc
set_fields_sound (k ∷ f ∷ ws) e h = mapped (effect.SetFields k) (pairs_of (f ∷ ws)) e h (λ ps found same.
    let spelled = pairs_sound (f ∷ ws) ps found in
    is _ (effect.SetFields k ps) e (some_pairs f ws ps spelled) (ap (λ (x : List Bytes). codes "HSET" ∷ k ∷ x) spelled) same)

remove_fields_sound : (ws : List Bytes) → Sound name.HDel ws
unfolding reading words
remove_fields_sound [] e h = cc
remove_fields_sound (k ∷ []) e h = cc
remove_fields_sound (k ∷ f ∷ ws) e h = is _ (effect.RemoveFields k (f ∷ ws)) e refl refl (given _ _ h)

push_left_sound : (ws : List Bytes) → Sound name.LPush ws
unfolding reading words
push_left_sound [] e h = cc
push_left_sound (k ∷ []) e h = cc
push_left_sound (k ∷ x ∷ ws) e h = is _ (effect.Push k Left (x ∷ ws)) e refl refl (given _ _ h)

push_right_sound : (ws : List Bytes) → Sound name.RPush ws
unfolding reading words
push_right_sound [] e h = cc
push_right_sound (k ∷ []) e h = cc
push_right_sound (k ∷ x ∷ ws) e h = is _ (effect.Push k Right (x ∷ ws)) e refl refl (given _ _ h)

pop_left_sound : (ws : List Bytes) → Sound name.LPop ws
unfolding reading words
pop_left_sound [] e h = cc
pop_left_sound (k ∷ []) e h = cc
pop_left_sound (k ∷ w ∷ []) e h = mapped (effect.Pop k Left) (number_of w) e h (λ n found same.
    let spelled = number_text w n found in
    is _ (effect.Pop k Left n) e spelled.1 (ap (λ (x : Bytes). codes "LPOP" ∷ k ∷ x ∷ []) (sym spelled.0)) same)
pop_left_sound (k ∷ w ∷ x ∷ ws) e h = cc

pop_right_sound : (ws : List Bytes) → Sound name.RPop ws
unfolding reading words
pop_right_sound [] e h = cc
pop_right_sound (k ∷ []) e h = cc
pop_right_sound (k ∷ w ∷ []) e h = mapped (effect.Pop k Right) (number_of w) e h (λ n found same.
    let spelled = number_text w n found in
    is _ (effect.Pop k Right n) e spelled.1 (ap (λ (x : Bytes). codes "RPOP" ∷ k ∷ x ∷ []) (sym spelled.0)) same)
pop_right_sound (k ∷ w ∷ x ∷ ws) e h = cc

set_item_sound : (ws : List Bytes) → Sound name.LSet ws
unfolding reading words
set_item_sound [] e h = cc
set_item_sound (k ∷ []) e h = cc
set_item_sound (k ∷ w ∷ []) e h = cc
set_item_sound (k ∷ w ∷ item ∷ []) e h = mapped (λ i. effect.SetItem k i item) (place_of w) e h (λ i found same.
    let spelled = place_sound w i found in
    is _ (effect.SetItem k i item) e spelled.1 (ap (λ (x : Bytes). codes "LSET" ∷ k ∷ x ∷ item ∷ []) (sym spelled.0)) same)
set_item_sound (k ∷ w ∷ item ∷ x ∷ ws) e h = cc

insert_item_sound : (ws : List Bytes) → Sound name.LInsert ws
unfolding reading words
insert_item_sound [] e h = cc
insert_item_sound (k ∷ []) e h = cc
insert_item_sound (k ∷ w ∷ []) e h = cc
insert_item_sound (k ∷ w ∷ pivot ∷ []) e h = cc
insert_item_sound (k ∷ w ∷ pivot ∷ item ∷ []) e h = mapped (λ s. effect.InsertItem k s pivot item) (side_of w) e h (λ s found same.
    is _ (effect.InsertItem k s pivot item) e refl (ap (λ (x : Bytes). codes "LINSERT" ∷ k ∷ x ∷ pivot ∷ item ∷ []) (sym (side_sound w s found))) same)
insert_item_sound (k ∷ w ∷ pivot ∷ item ∷ x ∷ ws) e h = cc

remove_items_sound : (ws : List Bytes) → Sound name.LRem ws
unfolding reading words
remove_items_sound [] e h = cc
remove_items_sound (k ∷ []) e h = cc
remove_items_sound (k ∷ w ∷ []) e h = cc
remove_items_sound (k ∷ w ∷ item ∷ []) e h = mapped (λ n. effect.RemoveItems k n item) (number_of w) e h (λ n found same.
    let spelled = number_text w n found in
    is _ (effect.RemoveItems k n item) e spelled.1 (ap (λ (x : Bytes). codes "LREM" ∷ k ∷ x ∷ item ∷ []) (sym spelled.0)) same)
remove_items_sound (k ∷ w ∷ item ∷ x ∷ ws) e h = cc

trim_sound : (ws : List Bytes) → Sound name.LTrim ws
unfolding reading words
trim_sound [] e h = cc
trim_sound (k ∷ []) e h = cc
trim_sound (k ∷ v ∷ []) e h = cc
trim_sound (k ∷ v ∷ w ∷ []) e h = chosen (λ a. option_map (effect.Trim k a) (number_of w)) (number_of v) e h (λ a found_a low_read. mapped (effect.Trim k a) (number_of w) e low_read (λ b found_b same.
    let low = number_text v a found_a in
    let high = number_text w b found_b in
    is _ (effect.Trim k a b) e (both _ _ low.1 high.1) (ap (λ (x : Bytes). codes "LTRIM" ∷ k ∷ x ∷ signed_decimal b ∷ []) (sym low.0) ∙ ap (λ (x : Bytes). codes "LTRIM" ∷ k ∷ v ∷ x ∷ []) (sym high.0)) same))
trim_sound (k ∷ v ∷ w ∷ x ∷ ws) e h = cc

move_item_sound : (ws : List Bytes) → Sound name.LMove ws
unfolding reading words
move_item_sound [] e h = cc
move_item_sound (from ∷ []) e h = cc
move_item_sound (from ∷ to ∷ []) e h = cc
move_item_sound (from ∷ to ∷ v ∷ []) e h = cc
move_item_sound (from ∷ to ∷ v ∷ w ∷ []) e h = chosen (λ t. option_map (effect.MoveItem from to t) (end_of w)) (end_of v) e h (λ t found_t first_read. mapped (effect.MoveItem from to t) (end_of w) e first_read (λ p found_p same.
    is _ (effect.MoveItem from to t p) e refl (ap (λ (x : Bytes). codes "LMOVE" ∷ from ∷ to ∷ x ∷ end_word p ∷ []) (sym (end_sound v t found_t)) ∙ ap (λ (x : Bytes). codes "LMOVE" ∷ from ∷ to ∷ v ∷ x ∷ []) (sym (end_sound w p found_p))) same))
move_item_sound (from ∷ to ∷ v ∷ w ∷ x ∷ ws) e h = cc

add_members_sound : (ws : List Bytes) → Sound name.SAdd ws
unfolding reading words
add_members_sound [] e h = cc
add_members_sound (k ∷ []) e h = cc
add_members_sound (k ∷ m ∷ ws) e h = is _ (effect.AddMembers k (m ∷ ws)) e refl refl (given _ _ h)

remove_members_sound : (ws : List Bytes) → Sound name.SRem ws
unfolding reading words
remove_members_sound [] e h = cc
remove_members_sound (k ∷ []) e h = cc
remove_members_sound (k ∷ m ∷ ws) e h = is _ (effect.RemoveMembers k (m ∷ ws)) e refl refl (given _ _ h)

move_member_sound : (ws : List Bytes) → Sound name.SMove ws
unfolding reading words
move_member_sound [] e h = cc
move_member_sound (from ∷ []) e h = cc
move_member_sound (from ∷ to ∷ []) e h = cc
move_member_sound (from ∷ to ∷ m ∷ []) e h = is _ (effect.MoveMember from to m) e refl refl (given _ _ h)
move_member_sound (from ∷ to ∷ m ∷ x ∷ ws) e h = cc

set_scores_sound : (ws : List Bytes) → Sound name.ZAdd ws
unfolding reading words
set_scores_sound [] e h = cc
set_scores_sound (k ∷ []) e h = cc
set_scores_sound (k ∷ s ∷ ws) e h = mapped (effect.SetScores k) (scores_of (s ∷ ws)) e h (λ ps found same.
    let spelled = scores_sound (s ∷ ws) ps found in
    is _ (effect.SetScores k ps) e (both _ _ (some_scores s ws ps spelled.0) spelled.1) (ap (λ (x : List Bytes). codes "ZADD" ∷ k ∷ x) spelled.0) same)

remove_scores_sound : (ws : List Bytes) → Sound name.ZRem ws
unfolding reading words
remove_scores_sound [] e h = cc
remove_scores_sound (k ∷ []) e h = cc
remove_scores_sound (k ∷ m ∷ ws) e h = is _ (effect.RemoveScores k (m ∷ ws)) e refl refl (given _ _ h)

reading_sound : (n : EffectName) (ws : List Bytes) → Sound n ws
reading_sound name.Set = set_sound
reading_sound name.MSet = mset_sound
reading_sound name.Append = append_sound
reading_sound name.SetRange = set_range_sound
reading_sound name.IncrBy = increase_sound
reading_sound name.Del = del_sound
reading_sound name.PExpireAt = expire_sound
reading_sound name.Persist = persist_sound
reading_sound name.Rename = rename_sound
reading_sound name.FlushAll = clear_sound
reading_sound name.Ping = ping_sound
reading_sound name.HSet = set_fields_sound
reading_sound name.HDel = remove_fields_sound
reading_sound name.LPush = push_left_sound
reading_sound name.RPush = push_right_sound
reading_sound name.LPop = pop_left_sound
reading_sound name.RPop = pop_right_sound
reading_sound name.LSet = set_item_sound
reading_sound name.LInsert = insert_item_sound
reading_sound name.LRem = remove_items_sound
reading_sound name.LTrim = trim_sound
reading_sound name.LMove = move_item_sound
reading_sound name.SAdd = add_members_sound
reading_sound name.SRem = remove_members_sound
reading_sound name.SMove = move_member_sound
reading_sound name.ZAdd = set_scores_sound
reading_sound name.ZRem = remove_scores_sound

read_sound : (w : Bytes) (o : Option EffectName) (ws : List Bytes) (e : Effect) → named w ≡ o → read_as o ws ≡ Some e → IsSpelled (w ∷ ws) e
read_sound w None ws e name_is h = cc
read_sound w (Some n) ws e name_is h = subst (λ (x : Bytes). IsSpelled (x ∷ ws) e) (sym (named_is w n name_is)) (reading_sound n ws e h)

-- what is read has these words
pub effect_of_sound : (ws : List Bytes) (e : Effect) → effect_of ws ≡ Some e → IsSpelled ws e
unfolding effect_of
effect_of_sound [] e h = cc
effect_of_sound (w ∷ ws) e h = read_sound w (named w) ws e refl h

pub one_effect : (e f : Effect) → IsTrue (has_spelling e) → IsTrue (has_spelling f) → words e ≡ words f → e ≡ f
one_effect e f spelled_e spelled_f same = given e f (sym (effect_of-words e spelled_e) ∙ ap effect_of same ∙ effect_of-words f spelled_f)

pub finds_each : (ws : List Bytes) (found : Option Effect) → found ≡ effect_of ws → FindsEach ws found
finds_each ws found found_is e h = found_is ∙ ap effect_of (sym h.1) ∙ effect_of-words e h.0

pub spells : (ws : List Bytes) (found : Option Effect) → found ≡ effect_of ws → Spells ws found
spells ws None found_is = λ e h. let none : None ≡ Some e = finds_each ws None found_is e h in cc
spells ws (Some e) found_is = effect_of_sound ws e (sym found_is)
