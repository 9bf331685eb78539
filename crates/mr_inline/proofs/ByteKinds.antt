-- The kind of a byte, and what it says of the byte.
use Rattle.std.proofs.Common.{◌≡◌, ◌≢◌, ℕ, Bool, true, false, ◌==◌, refl, sym, ◌∙◌, subst, arith}
use Rattle.std.proofs.lemmas.Bool.{eqb-true, eqb-false, true≢false}
use Rattle.mr_inline.specs.Bytes.{line_feed, double_quote, single_quote, backslash, letter_x, is_separator}
use Rattle.mr_inline.specs.Line.{IsPlain}
use Rattle.mr_inline.specs.Places.{kind_by, kind_of}
use Rattle.mr_inline.specs.declared.place.Kind.{Kind}
use Rattle.mr_inline.specs.declared.place.Kind.TheVariants.{LineFeed, Separator, DoubleQuote, SingleQuote, Backslash, Other}

-- none of the four bytes that have a kind of their own
pub record IsNoMark (b : ℕ) : Type 0 where
  pub no_line_feed : b ≢ line_feed
  pub no_double : b ≢ double_quote
  pub no_single : b ≢ single_quote
  pub no_backslash : b ≢ backslash

abbrev pub IsOfKind : Kind → ℕ → Type 0
IsOfKind LineFeed b = b ≡ line_feed
IsOfKind DoubleQuote b = b ≡ double_quote
IsOfKind SingleQuote b = b ≡ single_quote
IsOfKind Backslash b = b ≡ backslash
IsOfKind Separator b = (is_separator b ≡ true) × IsNoMark b
IsOfKind Other b = (is_separator b ≡ false) × IsNoMark b

of_tests : (b : ℕ) (f d s k p : Bool) → (b == line_feed) ≡ f → (b == double_quote) ≡ d → (b == single_quote) ≡ s → (b == backslash) ≡ k → is_separator b ≡ p → IsOfKind (kind_by f d s k p) b
of_tests b true d s k p hf hd hs hk hp = eqb-true b line_feed hf
of_tests b false true s k p hf hd hs hk hp = eqb-true b double_quote hd
of_tests b false false true k p hf hd hs hk hp = eqb-true b single_quote hs
of_tests b false false false true p hf hd hs hk hp = eqb-true b backslash hk
of_tests b false false false false true hf hd hs hk hp =
    (hp, record { no_line_feed = eqb-false b line_feed hf; no_double = eqb-false b double_quote hd; no_single = eqb-false b single_quote hs; no_backslash = eqb-false b backslash hk })
of_tests b false false false false false hf hd hs hk hp =
    (hp, record { no_line_feed = eqb-false b line_feed hf; no_double = eqb-false b double_quote hd; no_single = eqb-false b single_quote hs; no_backslash = eqb-false b backslash hk })

pub of_kind : (b : ℕ) → IsOfKind (kind_of b) b
unfolding kind_of
of_kind b = of_tests b (b == line_feed) (b == double_quote) (b == single_quote) (b == backslash) (is_separator b) refl refl refl refl refl

pub kind-line_feed : kind_of line_feed ≡ LineFeed
unfolding kind_of
kind-line_feed = refl

pub kind-double_quote : kind_of double_quote ≡ DoubleQuote
unfolding kind_of
kind-double_quote = refl

pub kind-single_quote : kind_of single_quote ≡ SingleQuote
unfolding kind_of
kind-single_quote = refl

pub kind-backslash : kind_of backslash ≡ Backslash
unfolding kind_of
kind-backslash = refl

pub kind-letter_x : kind_of letter_x ≡ Other
unfolding kind_of
kind-letter_x = refl

-- the four marks are no separators
no_separator : (b c : ℕ) → b ≡ c → is_separator c ≡ false → is_separator b ≡ true → ⊥
no_separator b c e f h = true≢false (sym h ∙ subst (λ x. is_separator x ≡ false) (sym e) f)

separates : (k : Kind) (b : ℕ) → IsOfKind k b → is_separator b ≡ true → k ≡ Separator
separates LineFeed b f h = absurd (no_separator b line_feed f refl h)
separates DoubleQuote b f h = absurd (no_separator b double_quote f refl h)
separates SingleQuote b f h = absurd (no_separator b single_quote f refl h)
separates Backslash b f h = absurd (no_separator b backslash f refl h)
separates Separator b f h = refl
separates Other b f h = absurd (true≢false (sym h ∙ f.0))

pub kind-separator : (b : ℕ) → is_separator b ≡ true → kind_of b ≡ Separator
kind-separator b h = separates (kind_of b) b (of_kind b) h

-- a byte of one of two kinds
pub data IsInWord : Kind → Type 0 where
  slash : IsInWord Backslash
  other : IsInWord Other

in_word : (k : Kind) (b : ℕ) → IsOfKind k b → IsPlain b → IsInWord k
in_word LineFeed b f p = absurd (p.no_line_feed f)
in_word DoubleQuote b f p = absurd (p.no_double f)
in_word SingleQuote b f p = absurd (p.no_single f)
in_word Backslash b f p = slash
in_word Separator b f p = absurd (true≢false (sym f.0 ∙ p.no_separator))
in_word Other b f p = other

pub plain_in_word : (b : ℕ) → IsPlain b → IsInWord (kind_of b)
plain_in_word b p = in_word (kind_of b) b (of_kind b) p

pub plain_other : (b : ℕ) → IsOfKind Other b → IsPlain b
plain_other b f = record { no_separator = f.0; no_line_feed = f.1.no_line_feed; no_double = f.1.no_double; no_single = f.1.no_single }

backslash_plain : IsPlain backslash
backslash_plain = record { no_separator = refl; no_line_feed = λ e. omega (arith, e); no_double = λ e. omega (arith, e); no_single = λ e. omega (arith, e) }

pub plain_backslash : (b : ℕ) → IsOfKind Backslash b → IsPlain b
plain_backslash b f = subst IsPlain (sym f) backslash_plain
