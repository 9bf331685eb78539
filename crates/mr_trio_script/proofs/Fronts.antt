-- The line that begins some bytes.
use Rattle.std.proofs.Common.{◌≡◌, ◌≢◌, ◌∙◌, ℕ, ◌+◌, ◌-◌, List, [], ◌∷◌, ◌++◌, length, take, drop, get_or, sym, ap, subst, arith, append_assoc, length-append, length-drop, take_all}
use Rattle.std.proofs.Math.Seq.{take-append_seam, drop-append-add}
use Rattle.mr_resp.specs.Spelling.{line_end}
use Rattle.mr_trio_script.specs.ReplyLines.{BeginsWith, HasNoFeed, IsFeedAt}
use Rattle.mr_trio_script.proofs.ReplyFeeds.{SameCut, has_feed, no_feed_push, no_feed_front, same_cut, same_last}

-- a line up to its line feed
pub cut_at : (f : ℕ) (t r : List ℕ) → (f ∷ t ++ line_end) ++ r ≡ (f ∷ t ++ 13 ∷ []) ++ 10 ∷ r
cut_at f t r = ap (λ xs. f ∷ xs) (append_assoc t line_end r ∙ sym (append_assoc t (13 ∷ []) (10 ∷ r)))

pub no_line : (bytes : List ℕ) → HasNoFeed bytes → (f : ℕ) (t r : List ℕ) → BeginsWith bytes f t r → ⊥
no_line bytes none f t r b = has_feed (f ∷ t ++ 13 ∷ []) r (subst HasNoFeed (b.is ∙ cut_at f t r) none)

pub same_line : (bytes front rest : List ℕ) (f : ℕ) (t r : List ℕ) → bytes ≡ front ++ 10 ∷ rest → HasNoFeed front → BeginsWith bytes f t r → SameCut front (f ∷ t ++ 13 ∷ []) rest r
same_line bytes front rest f t r is none b =
    same_cut front (f ∷ t ++ 13 ∷ []) rest r none (b.no_feed, no_feed_push t 13 b.none (λ e. absurd (omega (arith, e)))) (sym is ∙ b.is ∙ cut_at f t r)

-- two lines at the front are one
pub record SameLine (f g : ℕ) (t u r s : List ℕ) : Type 0 where
  pub form : f ≡ g
  pub text : t ≡ u
  pub rest : r ≡ s

pub one_line : (bytes : List ℕ) (f g : ℕ) (t u r s : List ℕ) → BeginsWith bytes f t r → BeginsWith bytes g u s → SameLine f g t u r s
one_line bytes f g t u r s a b =
    let both = same_line bytes (f ∷ t ++ 13 ∷ []) r g u s (a.is ∙ cut_at f t r) (a.no_feed, no_feed_push t 13 a.none (λ e. absurd (omega (arith, e)))) b in
    record {
      form = ap (λ xs. get_or xs 0 0) both.front;
      text = (same_last t u 13 13 (ap (drop 1) both.front)).front;
      rest = both.rest;
    }

-- ---- the first line feed at this place
front_is : (bytes : List ℕ) (feed : ℕ) (at : IsFeedAt bytes feed) → take feed bytes ≡ at.front
front_is bytes feed at = ap (λ n. take n bytes) at.place_is ∙ ap (take (length at.front)) at.is ∙ take-append_seam at.front (10 ∷ at.rest)

rest_is : (bytes : List ℕ) (feed : ℕ) (at : IsFeedAt bytes feed) → take (length bytes - (feed + 1)) (drop (feed + 1) bytes) ≡ at.rest
rest_is bytes feed at =
    let place : feed + 1 ≡ length at.front + 1 = omega (arith, at.place_is) in
    take_all (length bytes - (feed + 1)) (drop (feed + 1) bytes) (omega (arith, length-drop (feed + 1) bytes))
    ∙ (λ i. drop (place i) (at.is i)) ∙ drop-append-add at.front (10 ∷ at.rest) 1

-- nothing stands in front of it
pub none_before : (bytes : List ℕ) (feed : ℕ) → IsFeedAt bytes feed → length (take feed bytes) ≡ 0 → (f : ℕ) (t r : List ℕ) → BeginsWith bytes f t r → ⊥
none_before bytes feed at none f t r b =
    let same = same_line bytes at.front at.rest f t r at.is at.none b in
    omega (arith, none, ap length (front_is bytes feed at ∙ same.front))

-- one byte alone does
pub one_before : (bytes behind : List ℕ) (feed form : ℕ) → IsFeedAt bytes feed → take feed bytes ≡ form ∷ behind → length behind ≡ 0 → (f : ℕ) (t r : List ℕ) → BeginsWith bytes f t r → ⊥
one_before bytes behind feed form at cut none f t r b =
    let same = same_line bytes at.front at.rest f t r at.is at.none b in
    let whole : behind ≡ t ++ 13 ∷ [] = ap (drop 1) (sym cut ∙ front_is bytes feed at ∙ same.front) in
    omega (arith, none, ap length whole, length-append t (13 ∷ []))

-- no carriage return does
pub other_before : (bytes behind text : List ℕ) (feed form last : ℕ) → IsFeedAt bytes feed → take feed bytes ≡ form ∷ behind → behind ≡ text ++ last ∷ [] → last ≢ 13 → (f : ℕ) (t r : List ℕ) → BeginsWith bytes f t r → ⊥
other_before bytes behind text feed form last at cut is other f t r b =
    let same = same_line bytes at.front at.rest f t r at.is at.none b in
    let whole : behind ≡ t ++ 13 ∷ [] = ap (drop 1) (sym cut ∙ front_is bytes feed at ∙ same.front) in
    other (same_last text t last 13 (sym is ∙ whole)).last

-- a line does
pub line_before : (bytes behind text : List ℕ) (feed form last : ℕ) → IsFeedAt bytes feed → take feed bytes ≡ form ∷ behind → behind ≡ text ++ last ∷ [] → last ≡ 13 → BeginsWith bytes form text (take (length bytes - (feed + 1)) (drop (feed + 1) bytes))
line_before bytes behind text feed form last at cut is same =
    let front : at.front ≡ form ∷ text ++ 13 ∷ [] = sym (front_is bytes feed at) ∙ cut ∙ ap (λ xs. form ∷ xs) (is ∙ ap (λ b. text ++ b ∷ []) same) in
    let none : HasNoFeed (form ∷ text ++ 13 ∷ []) = subst HasNoFeed front at.none in
    record {
      is = at.is ∙ (λ i. front i ++ 10 ∷ sym (rest_is bytes feed at) i) ∙ sym (cut_at form text _);
      no_feed = none.0;
      none = no_feed_front text (13 ∷ []) none.1;
    }
