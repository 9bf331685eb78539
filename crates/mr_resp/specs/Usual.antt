-- The limits of a server.
use Rattle.std.specs.Prelude.{◌≡◌, ◌+◌, ◌*◌, ◌≤◌, length}
use Rattle.std.specs.Fmt.{decimal}
use Rattle.std.proofs.Common.{refl, lit<, arith}
use Rattle.std.proofs.lemmas.Fmt.{length-decimal-le}
use Rattle.mr_inline.specs.Limits.{word_limit, words_limit, text_limit}
use Rattle.mr_resp.specs.declared.limits.Limits.{Limits}

-- so many empty words fit the text
pub usual-room : 3 + length (decimal words_limit) + 6 * words_limit ≤ text_limit
usual-room = omega (arith, length-decimal-le 7 words_limit (lit< tt) (lit< tt) (lit< tt))

-- words of 512 MiB, 1,048,576 of them, and a text of 1 GiB
unfoldable pub usual : Limits
usual = record {
  word = word_limit;
  words = words_limit;
  text = text_limit;
  some_word = lit< tt;
  some_words = lit< tt;
  room = usual-room;
  small = lit< tt;
  small_word = lit< tt;
}

pub usual-word : usual.word ≡ word_limit
unfolding usual
usual-word = refl

pub usual-words : usual.words ≡ words_limit
unfolding usual
usual-words = refl

pub usual-text : usual.text ≡ text_limit
unfolding usual
usual-text = refl

pub commands-room : 3 + length (decimal words_limit) + 6 * words_limit ≤ 18446744073709551615
commands-room = omega (arith, usual-room)

-- The limits of command texts: words as for a server, and a text of any length that a slice may have.
unfoldable pub commands : Limits
commands = record {
  word = word_limit;
  words = words_limit;
  text = 18446744073709551615;
  some_word = lit< tt;
  some_words = lit< tt;
  room = commands-room;
  small = lit< tt;
  small_word = lit< tt;
}

pub commands-word : commands.word ≡ word_limit
unfolding commands
commands-word = refl

pub commands-words : commands.words ≡ words_limit
unfolding commands
commands-words = refl

pub commands-text : commands.text ≡ 18446744073709551615
unfolding commands
commands-text = refl
