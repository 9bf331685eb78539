-- Where bytes lead, one after the other.
use Rattle.std.proofs.Common.{◌≡◌, ℕ, ◌+◌, ◌<◌, ◌≤◌, List, [], ◌∷◌, ◌++◌, length, All, lit<, lit≤, refl, ap, arith}
use Rattle.std.specs.List.{fold}
use Rattle.std.proofs.lemmas.List.Elements.{All-nil, All-cons}
use Rattle.mr_inline.specs.Bytes.{line_feed, double_quote, single_quote}
use Rattle.mr_inline.specs.Places.{kind_of, turn_at, turn_after, need_of}
use Rattle.mr_inline.specs.declared.place.Kind.{Kind}
use Rattle.mr_inline.specs.declared.place.Kind.TheVariants.{LineFeed}
use Rattle.mr_inline.specs.declared.place.Place.{Place}
use Rattle.mr_inline.specs.declared.place.Place.TheVariants.{Between, Plain, Double, DoubleEscape, Single, SingleEscape, Closed}
use Rattle.mr_inline.specs.declared.place.Turn.{Turn}
use Rattle.mr_inline.specs.declared.place.Turn.TheVariants.{Goes, Ends, Breaks}

abbrev pub run : Turn → List ℕ → Turn
run turn bytes = fold turn_after turn bytes

pub run-append : (turn : Turn) (xs ys : List ℕ) → run turn (xs ++ ys) ≡ run (run turn xs) ys
run-append turn [] ys = refl
run-append turn (x ∷ xs) ys = run-append (turn_after turn x) xs ys

run-Breaks : (xs : List ℕ) → run Breaks xs ≡ Breaks
run-Breaks [] = refl
run-Breaks (x ∷ xs) = run-Breaks xs

pub never_ends : (xs : List ℕ) → run Breaks xs ≡ Ends → ⊥
never_ends xs e = let h = run-Breaks xs in cc

pub ended : (xs : List ℕ) → run Ends xs ≡ Ends → xs ≡ []
ended [] e = refl
ended (x ∷ xs) e = absurd (never_ends xs e)

pub goes_no_more : (xs : List ℕ) (place : Place) → run Ends xs ≡ Goes place → ⊥
goes_no_more [] place e = cc
goes_no_more (x ∷ xs) place e = let h = run-Breaks xs in cc

-- the fewest bytes after which a line may have ended
abbrev pub rank : Turn → ℕ
rank (Goes place) = need_of place + 1
rank Ends = 0
rank Breaks = 2

rank_turn : (place : Place) (kind : Kind) → need_of place + 1 ≤ rank (turn_at place kind) + 1
rank_turn Between LineFeed = lit≤ tt
rank_turn Between kind = lit≤ tt
rank_turn Plain LineFeed = lit≤ tt
rank_turn Plain kind = lit≤ tt
rank_turn Double LineFeed = lit≤ tt
rank_turn Double kind = lit≤ tt
rank_turn DoubleEscape LineFeed = lit≤ tt
rank_turn DoubleEscape kind = lit≤ tt
rank_turn Single LineFeed = lit≤ tt
rank_turn Single kind = lit≤ tt
rank_turn SingleEscape LineFeed = lit≤ tt
rank_turn SingleEscape kind = lit≤ tt
rank_turn Closed LineFeed = lit≤ tt
rank_turn Closed kind = lit≤ tt

rank_after : (turn : Turn) (b : ℕ) → rank turn ≤ rank (turn_after turn b) + 1
rank_after (Goes place) b = rank_turn place (kind_of b)
rank_after Ends b = lit≤ tt
rank_after Breaks b = lit≤ tt

pub rank_run : (xs : List ℕ) (turn : Turn) → run turn xs ≡ Ends → rank turn ≤ length xs
rank_run [] turn e = omega (arith, ap rank e)
rank_run (x ∷ xs) turn e = omega (arith, rank_run xs (turn_after turn x) e, rank_after turn x)

-- bytes that end a line
abbrev pub closing : Place → List ℕ
closing Between = line_feed ∷ []
closing Plain = line_feed ∷ []
closing Double = double_quote ∷ line_feed ∷ []
closing DoubleEscape = 97 ∷ double_quote ∷ line_feed ∷ []
closing Single = single_quote ∷ line_feed ∷ []
closing SingleEscape = 97 ∷ single_quote ∷ line_feed ∷ []
closing Closed = line_feed ∷ []

pub run-closing : (place : Place) → run (Goes place) (closing place) ≡ Ends
unfolding kind_of
run-closing Between = refl
run-closing Plain = refl
run-closing Double = refl
run-closing DoubleEscape = refl
run-closing Single = refl
run-closing SingleEscape = refl
run-closing Closed = refl

pub length-closing : (place : Place) → length (closing place) ≡ need_of place + 1
length-closing Between = refl
length-closing Plain = refl
length-closing Double = refl
length-closing DoubleEscape = refl
length-closing Single = refl
length-closing SingleEscape = refl
length-closing Closed = refl

bytes_line_feed : All (λ b. b < 256) (line_feed ∷ [])
bytes_line_feed = All-cons (λ b. b < 256) line_feed [] (lit< tt) (All-nil (λ b. b < 256))

pub bytes_closing : (place : Place) → All (λ b. b < 256) (closing place)
bytes_closing Between = bytes_line_feed
bytes_closing Plain = bytes_line_feed
bytes_closing Double = All-cons (λ b. b < 256) double_quote (line_feed ∷ []) (lit< tt) bytes_line_feed
bytes_closing DoubleEscape = All-cons (λ b. b < 256) 97 (double_quote ∷ line_feed ∷ []) (lit< tt) (All-cons (λ b. b < 256) double_quote (line_feed ∷ []) (lit< tt) bytes_line_feed)
bytes_closing Single = All-cons (λ b. b < 256) single_quote (line_feed ∷ []) (lit< tt) bytes_line_feed
bytes_closing SingleEscape = All-cons (λ b. b < 256) 97 (single_quote ∷ line_feed ∷ []) (lit< tt) (All-cons (λ b. b < 256) single_quote (line_feed ∷ []) (lit< tt) bytes_line_feed)
bytes_closing Closed = bytes_line_feed
