-- The line with which each part begins, and that a part is known by its front.
use Rattle.std.proofs.Common.{◌≡◌, ◌≢◌, ◌∙◌, ℕ, ◌<◌, ◌^◌, List, [], ◌∷◌, ◌++◌, length, take, drop, decimal, sym, ap, refl, arith, append_assoc, append-nil, inl, inr}
use Rattle.std.proofs.Math.Seq.{take-append_seam, drop-append_seam}
use Rattle.std.proofs.lemmas.Fmt.{decimal_injective}
use Rattle.mr_resp.specs.Spelling.{line_end}
use Rattle.mr_trio_script.specs.ReplyLines.{BeginsWith, HasNoFeed}
use Rattle.mr_trio_script.specs.Replies.{Part, line, word, no_word, no_list, list, IsForm, IsPart, part_text}
use Rattle.mr_trio_script.specs.Heads.{none_text}
use Rattle.mr_trio_script.proofs.Counts.{no_feed_in, minus_is_no_digit}

-- ---- its first line
abbrev pub form_of : Part → ℕ
form_of (line form text) = form
form_of (word bytes) = 36
form_of no_word = 36
form_of no_list = 42
form_of (list count) = 42

abbrev pub head_text : Part → List ℕ
head_text (line form text) = text
head_text (word bytes) = decimal (length bytes)
head_text no_word = none_text
head_text no_list = none_text
head_text (list count) = decimal count

abbrev pub tail_of : Part → List ℕ
tail_of (line form text) = []
tail_of (word bytes) = bytes ++ line_end
tail_of no_word = []
tail_of no_list = []
tail_of (list count) = []

pub text_is : (p : Part) → part_text p ≡ (form_of p ∷ head_text p ++ line_end) ++ tail_of p
text_is (line form text) = sym (append-nil _)
text_is (word bytes) = refl
text_is no_word = refl
text_is no_list = refl
text_is (list count) = sym (append-nil _)

form_no_feed : (form : ℕ) → IsForm form → form ≢ 10
form_no_feed form (inl is) e = omega (arith, is, e)
form_no_feed form (inr (inl is)) e = omega (arith, is, e)
form_no_feed form (inr (inr is)) e = omega (arith, is, e)

none_no_feed : HasNoFeed none_text
none_no_feed = (λ e. absurd (omega (arith, e)), (λ e. absurd (omega (arith, e)), tt))

head_no_feed : (p : Part) → IsPart p → (form_of p ≢ 10) × HasNoFeed (head_text p)
head_no_feed (line form text) is = (form_no_feed form is.0, is.1)
head_no_feed (word bytes) is = (λ e. absurd (omega (arith, e)), no_feed_in (length bytes) (omega (arith, is)))
head_no_feed no_word is = (λ e. absurd (omega (arith, e)), none_no_feed)
head_no_feed no_list is = (λ e. absurd (omega (arith, e)), none_no_feed)
head_no_feed (list count) is = (λ e. absurd (omega (arith, e)), no_feed_in count (omega (arith, is)))

-- bytes that a part begins
pub part_begins : (p : Part) (bytes rest : List ℕ) → IsPart p → bytes ≡ part_text p ++ rest → BeginsWith bytes (form_of p) (head_text p) (tail_of p ++ rest)
part_begins p bytes rest is e = record {
  is = e ∙ ap (λ t. t ++ rest) (text_is p) ∙ append_assoc (form_of p ∷ head_text p ++ line_end) (tail_of p) rest;
  no_feed = (head_no_feed p is).0;
  none = (head_no_feed p is).1;
}

-- ---- one part
pub no_length : (n : ℕ) → n < 2 ^ 63 → decimal n ≡ none_text → ⊥
no_length n small e = minus_is_no_digit n (omega (arith, small)) (49 ∷ []) e

pub form_apart : (form other : ℕ) → IsForm form → form ≡ other → other ≡ 36 → ⊥
form_apart form other (inl is) e o = omega (arith, is, e, o)
form_apart form other (inr (inl is)) e o = omega (arith, is, e, o)
form_apart form other (inr (inr is)) e o = omega (arith, is, e, o)

pub form_apart_list : (form other : ℕ) → IsForm form → form ≡ other → other ≡ 42 → ⊥
form_apart_list form other (inl is) e o = omega (arith, is, e, o)
form_apart_list form other (inr (inl is)) e o = omega (arith, is, e, o)
form_apart_list form other (inr (inr is)) e o = omega (arith, is, e, o)

pub record SamePart (p q : Part) (x y : List ℕ) : Type 0 where
  pub part : p ≡ q
  pub rest : x ≡ y

same_word : (w v x y : List ℕ) → length w < 2 ^ 63 → length v < 2 ^ 63 → decimal (length w) ≡ decimal (length v) → (w ++ line_end) ++ x ≡ (v ++ line_end) ++ y → SamePart (word w) (word v) x y
same_word w v x y a b e same =
    let len : length w ≡ length v = decimal_injective (length w) (length v) (omega (arith, a)) (omega (arith, b)) e in
    let flat : w ++ (line_end ++ x) ≡ v ++ (line_end ++ y) = sym (append_assoc w line_end x) ∙ same ∙ append_assoc v line_end y in
    let bytes : w ≡ v = sym (take-append_seam w (line_end ++ x)) ∙ (λ i. take (len i) (flat i)) ∙ take-append_seam v (line_end ++ y) in
    let rest : line_end ++ x ≡ line_end ++ y = sym (drop-append_seam w (line_end ++ x)) ∙ (λ i. drop (len i) (flat i)) ∙ drop-append_seam v (line_end ++ y) in
    record { part = ap word bytes; rest = ap (drop 2) rest }

pub same_part : (p q : Part) (x y : List ℕ) → IsPart p → IsPart q → form_of p ≡ form_of q → head_text p ≡ head_text q → tail_of p ++ x ≡ tail_of q ++ y → SamePart p q x y
same_part (line f t) (line g u) x y a b form text rest = record { part = λ i. line (form i) (text i); rest = rest }
same_part (line f t) (word v) x y a b form text rest = absurd (form_apart f 36 a.0 form refl)
same_part (line f t) no_word x y a b form text rest = absurd (form_apart f 36 a.0 form refl)
same_part (line f t) no_list x y a b form text rest = absurd (form_apart_list f 42 a.0 form refl)
same_part (line f t) (list n) x y a b form text rest = absurd (form_apart_list f 42 a.0 form refl)
same_part (word w) (line g u) x y a b form text rest = absurd (form_apart g 36 b.0 (sym form) refl)
same_part (word w) (word v) x y a b form text rest = same_word w v x y a b text rest
same_part (word w) no_word x y a b form text rest = absurd (no_length (length w) a text)
same_part (word w) no_list x y a b form text rest = absurd (omega (arith, form))
same_part (word w) (list n) x y a b form text rest = absurd (omega (arith, form))
same_part no_word (line g u) x y a b form text rest = absurd (form_apart g 36 b.0 (sym form) refl)
same_part no_word (word v) x y a b form text rest = absurd (no_length (length v) b (sym text))
same_part no_word no_word x y a b form text rest = record { part = refl; rest = rest }
same_part no_word no_list x y a b form text rest = absurd (omega (arith, form))
same_part no_word (list n) x y a b form text rest = absurd (omega (arith, form))
same_part no_list (line g u) x y a b form text rest = absurd (form_apart_list g 42 b.0 (sym form) refl)
same_part no_list (word v) x y a b form text rest = absurd (omega (arith, form))
same_part no_list no_word x y a b form text rest = absurd (omega (arith, form))
same_part no_list no_list x y a b form text rest = record { part = refl; rest = rest }
same_part no_list (list n) x y a b form text rest = absurd (no_length n b (sym text))
same_part (list n) (line g u) x y a b form text rest = absurd (form_apart_list g 42 b.0 (sym form) refl)
same_part (list n) (word v) x y a b form text rest = absurd (omega (arith, form))
same_part (list n) no_word x y a b form text rest = absurd (omega (arith, form))
same_part (list n) no_list x y a b form text rest = absurd (no_length n a text)
same_part (list n) (list m) x y a b form text rest = record { part = ap list (decimal_injective n m (omega (arith, a)) (omega (arith, b)) text); rest = rest }
