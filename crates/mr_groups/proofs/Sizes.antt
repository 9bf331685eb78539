-- An effect whose words are within the limit of command texts has words that fit.
use Rattle.std.proofs.Common.{ℤ, ◌≤◌, List, [], ◌∷◌, length, Bool, true, false, ◌&&◌, IsTrue, refl, arith, All}
use Rattle.std.specs.List.{flat_map, list_all}
use Rattle.std.proofs.lemmas.Bool.{le-leb}
use Rattle.std.proofs.lemmas.List.Elements.{All-head, All-tail}
use Rattle.mr_inline.specs.Limits.{word_limit}
use Rattle.mr_map.specs.Bytes.{Bytes}
use Rattle.mr_bytes.specs.Words.{fits}
use Rattle.mr_resp.specs.Usual.{commands, commands-word}
use Rattle.mr_effect.specs.Effects.{pair_fits, member_fits, words_fit}
use Rattle.mr_effect.specs.Spelling.{words, arguments, pair_words, score_words}
use Rattle.mr_effect.specs.declared.effect.Effect.{Effect}
use Rattle.mr_effect.specs.declared.effect.Effect.TheVariants as effect

-- each word fits
abbrev AllFit : List Bytes → Type 0
AllFit [] = Unit {0}
AllFit (w ∷ ws) = IsTrue (fits w) × AllFit ws

all_fit : (ws : List Bytes) → All (λ w. length w ≤ commands.word) ws → AllFit ws
all_fit [] h = tt
all_fit (w ∷ ws) h =
    let short : length w ≤ word_limit = omega (arith, commands-word, All-head (λ v. length v ≤ commands.word) w ws h) in
    (le-leb (length w) word_limit short, all_fit ws (All-tail (λ v. length v ≤ commands.word) w ws h))

both : (a b : Bool) → IsTrue a → IsTrue b → IsTrue (a && b)
both true b h k = k
both false b h k = cc

list_fits : (ws : List Bytes) → AllFit ws → IsTrue (list_all fits ws)
list_fits [] h = refl
list_fits (w ∷ ws) h = both (fits w) _ h.0 (list_fits ws h.1)

pairs_fit : (ps : List (Bytes × Bytes)) → AllFit (flat_map pair_words ps) → IsTrue (list_all pair_fits ps)
pairs_fit [] h = refl
pairs_fit (p ∷ ps) h = both (pair_fits p) _ (both (fits p.0) _ h.0 h.1.0) (pairs_fit ps h.1.1)

scores_fit : (ps : List (Bytes × ℤ)) → AllFit (flat_map score_words ps) → IsTrue (list_all member_fits ps)
scores_fit [] h = refl
scores_fit (p ∷ ps) h = both (member_fits p) _ h.1.0 (scores_fit ps h.1.1)

two_fit : (a b : Bytes) → IsTrue (fits a) → IsTrue (fits b) → IsTrue (fits a && fits b)
two_fit a b h k = both (fits a) (fits b) h k

three_fit : (a b c : Bytes) → IsTrue (fits a) → IsTrue (fits b) → IsTrue (fits c) → IsTrue (fits a && fits b && fits c)
three_fit a b c h k l = both (fits a && fits b) (fits c) (two_fit a b h k) l

arguments_fit : (e : Effect) → AllFit (arguments e) → IsTrue (words_fit e)
arguments_fit (effect.Set k v) h = two_fit k v h.0 h.1.0
arguments_fit (effect.SetUntil k v d) h = two_fit k v h.0 h.1.0
arguments_fit (effect.SetKeeping k v) h = two_fit k v h.0 h.1.0
arguments_fit (effect.MSet pairs) h = pairs_fit pairs h
arguments_fit (effect.Append k v) h = two_fit k v h.0 h.1.0
arguments_fit (effect.SetRange k i v) h = two_fit k v h.0 h.1.1.0
arguments_fit (effect.Increase k n) h = h.0
arguments_fit (effect.Del k) h = h.0
arguments_fit (effect.Expire k d) h = h.0
arguments_fit (effect.Persist k) h = h.0
arguments_fit (effect.Rename from to) h = two_fit from to h.0 h.1.0
arguments_fit effect.Clear h = refl
arguments_fit effect.Ping h = refl
arguments_fit (effect.SetFields k pairs) h = both (fits k) _ h.0 (pairs_fit pairs h.1)
arguments_fit (effect.RemoveFields k fields) h = both (fits k) _ h.0 (list_fits fields h.1)
arguments_fit (effect.Push k end items) h = both (fits k) _ h.0 (list_fits items h.1)
arguments_fit (effect.Pop k end n) h = h.0
arguments_fit (effect.SetItem k i item) h = two_fit k item h.0 h.1.1.0
arguments_fit (effect.InsertItem k side pivot item) h = three_fit k pivot item h.0 h.1.1.0 h.1.1.1.0
arguments_fit (effect.RemoveItems k n item) h = two_fit k item h.0 h.1.1.0
arguments_fit (effect.Trim k a b) h = h.0
arguments_fit (effect.MoveItem from to taken put) h = two_fit from to h.0 h.1.0
arguments_fit (effect.AddMembers k members) h = both (fits k) _ h.0 (list_fits members h.1)
arguments_fit (effect.RemoveMembers k members) h = both (fits k) _ h.0 (list_fits members h.1)
arguments_fit (effect.MoveMember from to member) h = three_fit from to member h.0 h.1.0 h.1.1.0
arguments_fit (effect.SetScores k scores) h = both (fits k) _ h.0 (scores_fit scores h.1)
arguments_fit (effect.RemoveScores k members) h = both (fits k) _ h.0 (list_fits members h.1)

pub fits_by_words : (e : Effect) → All (λ w. length w ≤ commands.word) (words e) → IsTrue (words_fit e)
unfolding words
fits_by_words e h = arguments_fit e (all_fit (words e) h).1
