-- Pairs of scores and members, one after another.
use Rattle.std.proofs.Common.{ℕ, ℤ, ◌≡◌, ◌+◌, ◌<◌, ◌≤◌, ◌^◌, List, [], ◌∷◌, ◌++◌, map, length, Bool, true, false, cond, Option, Some, None, refl, sym, ◌∙◌, ap, subst, arith}
use Rattle.std.specs.Prelude.{◌+ℤ◌, if◌then◌else◌}
use Rattle.std.specs.Int.{from_bool}
use Rattle.std.specs.FinMap.{get, insert, empty, get-insert}
use Rattle.std.proofs.lemmas.Cmp.{nat_list_cmp_total}
use Rattle.mr_map.specs.Bytes.{Bytes}
use Rattle.mr_resp.specs.Replies.{Tree}
use Rattle.mr_score.specs.Score.{is_score}
use Rattle.mr_score.specs.Texts.{within_limit}
use Rattle.mr_effect.specs.declared.effect.Effect.{Effect}
use Rattle.mr_effect.specs.declared.effect.Effect.TheVariants as effect
use Rattle.mr_keyspace.specs.Cuts.{cut}
use Rattle.mr_cmd_shared.specs.Taken.{is_key}
use Rattle.mr_keyspace.proofs.Puts.{is_key_itself}
use Rattle.mr_zset_options.specs.declared.choices.ScoreCondition.{ScoreCondition}
use Rattle.mr_zset_options.specs.declared.choices.Comparison.{Comparison}
use Rattle.mr_zset_options.specs.declared.choices.ScoresReply.{ScoresReply}
use Rattle.mr_cmd_zset.specs.Scores.{Scores, number, score_reply, changed, changed_alone, over, unchanged, set_to, Makes}
use Rattle.mr_cmd_zset.specs.Adding.{is_set, score_after, is_counted, with_pair, with_pairs, count_pairs, zadd, out_of_range, score_or_0, zincrby}
use Rattle.mr_cmd_zset.proofs.Maps.{or_else, get_over, over_insert, over_none}
use Rattle.mr_cmd_zset.proofs.Differences.{changed_over, changed_one}

-- ---- the score so far
pub so_far_set : (w s : Scores) (x : Bytes) (z : ℤ) → get w x ≡ Some z → Some z ≡ get (over w s) x
so_far_set w s x z h = sym (get_over w s x ∙ ap (λ o. or_else o (get s x)) h)

pub so_far_held : (w s : Scores) (x : Bytes) → get w x ≡ None → get s x ≡ get (over w s) x
so_far_held w s x h = sym (get_over w s x ∙ ap (λ o. or_else o (get s x)) h)

-- ---- one pair
module _ (only : Option ScoreCondition) (than : Option Comparison) where
  pub pair_put : (w w2 s : Scores) (x : Bytes) (z : ℤ) (o : Option ℤ) → o ≡ get (over w s) x → is_set only than o z ≡ true → w2 ≡ insert w x z → over w2 s ≡ with_pair only than (z, x) (over w s)
  pair_put w w2 s x z o before set is =
      ap (λ v. over v s) is ∙ over_insert w s x z
      ∙ sym (ap (λ b. if b then insert (over w s) x z else over w s) (ap (λ p. is_set only than p z) (sym before) ∙ set))

  pub pair_left : (w s : Scores) (x : Bytes) (z : ℤ) (o : Option ℤ) → o ≡ get (over w s) x → is_set only than o z ≡ false → over w s ≡ with_pair only than (z, x) (over w s)
  pair_left w s x z o before set = sym (ap (λ b. if b then insert (over w s) x z else over w s) (ap (λ p. is_set only than p z) (sym before) ∙ set))

  -- ---- one after another
  module _ (reply : ScoresReply) where
    pub record IsPutting (all : List (ℤ × Bytes)) (s w : Scores) (n : ℕ) (rest : List (ℤ × Bytes)) : Type 0 where
      pub scores : with_pairs only than rest (over w s) ≡ with_pairs only than all s
      pub count : n + count_pairs only than reply rest (over w s) ≡ count_pairs only than reply all s

    none_and : (n m : ℕ) → n ≡ m → 0 + n ≡ m
    none_and n m h = omega (arith, h)

    pub putting_starts : (all rest : List (ℤ × Bytes)) (s w : Scores) → w ≡ empty → rest ≡ all → IsPutting all s w 0 rest
    putting_starts all rest s w none whole =
        let same : over w s ≡ s = ap (λ v. over v s) none ∙ over_none s in
        record {
          scores = ap (with_pairs only than rest) same ∙ ap (λ ps. with_pairs only than ps s) whole;
          count = none_and _ _ (ap (count_pairs only than reply rest) same ∙ ap (λ ps. count_pairs only than reply ps s) whole);
        }

    one_more : (b : Bool) (n m l : ℕ) → n + ((if b then 1 else 0) + m) ≡ l → (n + from_bool b) + m ≡ l
    one_more true n m l h = omega (arith, h)
    one_more false n m l h = omega (arith, h)

    pub putting_goes : (all rest later : List (ℤ × Bytes)) (s w w2 : Scores) (n : ℕ) (p : ℤ × Bytes) (b : Bool) → IsPutting all s w n rest → rest ≡ p ∷ later → over w2 s ≡ with_pair only than p (over w s) → b ≡ is_counted reply (get (over w s) p.1) (score_after only than (get (over w s) p.1) p.0) → IsPutting all s w2 (n + from_bool b) later
    putting_goes all rest later s w w2 n p b before more put counts = record {
      scores = ap (with_pairs only than later) put ∙ ap (λ ps. with_pairs only than ps (over w s)) (sym more) ∙ before.scores;
      count = one_more b n (count_pairs only than reply later (over w2 s)) (count_pairs only than reply all s)
          (ap (λ (v : Scores). n + ((if b then 1 else 0) + count_pairs only than reply later v)) put
          ∙ ap (λ c. n + ((if c then 1 else 0) + count_pairs only than reply later (with_pair only than p (over w s)))) counts
          ∙ ap (λ ps. n + count_pairs only than reply ps (over w s)) (sym more)
          ∙ before.count);
    }

    pub put_scores : (all rest : List (ℤ × Bytes)) (s w : Scores) (n : ℕ) → IsPutting all s w n rest → rest ≡ [] → over w s ≡ with_pairs only than all s
    put_scores all rest s w n p none = sym (ap (λ ps. with_pairs only than ps (over w s)) none) ∙ p.scores

    pub put_count : (all rest : List (ℤ × Bytes)) (s w : Scores) (n : ℕ) → IsPutting all s w n rest → rest ≡ [] → n ≡ count_pairs only than reply all s
    put_count all rest s w n p none =
        let e : n + 0 ≡ count_pairs only than reply all s = sym (ap (λ ps. n + count_pairs only than reply ps (over w s)) none) ∙ p.count in
        omega (arith, e)

    at_most : (b : Bool) (m l : ℕ) → m ≤ l → (if b then 1 else 0) + m ≤ l + 1
    at_most true m l h = omega (arith, h)
    at_most false m l h = omega (arith, h)

    pub few_counted : (ps : List (ℤ × Bytes)) (s : Scores) → count_pairs only than reply ps s ≤ length ps
    few_counted [] s = omega arith
    few_counted (p ∷ ps) s = let h = at_most (is_counted reply (get s p.1) (score_after only than (get s p.1) p.0)) _ _ (few_counted ps (with_pair only than p s)) in omega (arith, h)

    pub few_put : (all rest : List (ℤ × Bytes)) (s w : Scores) (n : ℕ) → IsPutting all s w n rest → length all < 2 ^ 63 → n < 2 ^ 63
    few_put all rest s w n p small = omega (arith, p.count, few_counted all s, small)

pub at_most_one : (b : Bool) → from_bool b ≤ 1
at_most_one true = omega arith
at_most_one false = omega arith

-- ---- what is made of a set
if_nat : (b : Bool) → from_bool b ≡ (if b then 1 else 0) + 0
if_nat true = refl
if_nat false = refl

pub adds_made : (k : Bytes) (s t w : Scores) (r : Tree) (n m : ℕ) (old new : List Effect) → r ≡ number m → m ≡ n → over w s ≡ t → new ≡ old ++ map (effect.SetScores k) (cut (changed s w)) → Makes (set_to k (number n) s t) r old new
adds_made k s t w r n m old new replied same is put = record {
  reply_is = replied ∙ ap number same;
  effects_are = put ∙ ap (λ ps. old ++ map (effect.SetScores k) (cut ps)) (changed_over w s ∙ ap (changed s) is);
}

-- one member has another score
pub alone_made : (k x : Bytes) (reply r : Tree) (s t : Scores) (old new : List Effect) (before after : Option ℤ) → before ≡ get s x → after ≡ get t x → ((q : Bytes) → is_key q x ≡ false → get t q ≡ get s q) → r ≡ reply → new ≡ old ++ map (effect.SetScores k) (cut (changed_alone x before after)) → Makes (set_to k reply s t) r old new
alone_made k x reply r s t old new before after is was others replied put = record {
  reply_is = replied;
  effects_are = put ∙ ap (λ ps. old ++ map (effect.SetScores k) (cut ps)) (ap (λ o. changed_alone x o after) is ∙ ap (changed_alone x (get s x)) was ∙ sym (changed_one s t x others));
}

inserted : (s : Scores) (x : Bytes) (z : ℤ) → get (insert s x z) x ≡ Some z
inserted s x z = get-insert nat_list_cmp_total s x z x ∙ ap (λ b. cond b (Some z) (get s x)) (is_key_itself x)

other : (s : Scores) (x : Bytes) (z : ℤ) (q : Bytes) → is_key q x ≡ false → get (insert s x z) q ≡ get s q
other s x z q h = get-insert nat_list_cmp_total s x z q ∙ ap (λ b. cond b (Some z) (get s q)) h

module _ (only : Option ScoreCondition) (than : Option Comparison) where
  paired : (s : Scores) (x : Bytes) (z : ℤ) → get (with_pair only than (z, x) s) x ≡ score_after only than (get s x) z
  paired s x z = elim (is_set only than (get s x) z) as (λ b. get (if b then insert s x z else s) x ≡ (if b then Some z else get s x)) [ true ↦ inserted s x z | false ↦ refl ]

  unpaired : (s : Scores) (x : Bytes) (z : ℤ) (q : Bytes) → is_key q x ≡ false → get (with_pair only than (z, x) s) q ≡ get s q
  unpaired s x z q h = elim (is_set only than (get s x) z) as (λ b. get (if b then insert s x z else s) q ≡ get s q) [ true ↦ other s x z q h | false ↦ refl ]

  pub one_made : (answer : ScoresReply) (k x : Bytes) (z y : ℤ) (s : Scores) (r : Tree) (b : Bool) (old new : List Effect) (before after : Option ℤ) → y ≡ z → before ≡ get s x → after ≡ score_after only than before y → b ≡ is_counted answer before after → r ≡ number (from_bool b) → new ≡ old ++ map (effect.SetScores k) (cut (changed_alone x before after)) → Makes (zadd only than k answer ((z, x) ∷ []) s) r old new
  one_made answer k x z y s r b old new before after same is was counts replied put =
      let later : after ≡ score_after only than (get s x) z = was ∙ ap (λ v. score_after only than before v) same ∙ ap (λ o. score_after only than o z) is in
      alone_made k x _ r s (with_pair only than (z, x) s) old new before after is (later ∙ sym (paired s x z)) (unpaired s x z)
      (replied ∙ ap number (if_nat b ∙ ap (λ c. (if c then 1 else 0) + 0) (counts ∙ ap (λ o. is_counted answer o after) is ∙ ap (is_counted answer (get s x)) later))) put

-- ---- sums
limited : (n z : ℤ) → within_limit n ≡ Some z → (is_score n ≡ true) × (n ≡ z)
limited n z h = elim (is_score n) as (λ b. (if b then Some n else None) ≡ Some z → (b ≡ true) × (n ≡ z)) [ true ↦ λ e. (refl, cc) | false ↦ λ e. cc ] h

pub sum_made : (k x : Bytes) (by y z : ℤ) (s : Scores) (r : Tree) (old new : List Effect) (before : Option ℤ) → y ≡ by → before ≡ get s x → within_limit (score_or_0 before +ℤ y) ≡ Some z → r ≡ score_reply z → new ≡ old ++ map (effect.SetScores k) (cut (changed_alone x before (Some z))) → Makes (zincrby k by x s) r old new
sum_made k x by y z s r old new before same is sum replied put =
    let n = score_or_0 (get s x) +ℤ by in
    let sum_is : within_limit n ≡ Some z = ap (λ o. within_limit (score_or_0 o +ℤ by)) (sym is) ∙ ap (λ v. within_limit (score_or_0 before +ℤ v)) (sym same) ∙ sum in
    let found = limited n z sum_is in
    subst (λ c. Makes c r old new) (sym (ap (λ b. if b then set_to k (score_reply n) s (insert s x n) else unchanged out_of_range s) found.0 ∙ ap (λ v. set_to k (score_reply v) s (insert s x v)) found.1))
    (alone_made k x (score_reply z) r s (insert s x z) old new before (Some z) is (sym (inserted s x z)) (other s x z) replied put)
