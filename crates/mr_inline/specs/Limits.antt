-- What a request may have at most.
use Rattle.std.specs.Prelude.{ℕ}

-- the most bytes before the line feed of a line, of requests and of scripts
abbrev pub line_limit : ℕ
line_limit = 65536

-- the most bytes of a word of a request or of an effect: 512 MiB
abbrev pub word_limit : ℕ
word_limit = 536870912

-- the most words of a request in array form
abbrev pub words_limit : ℕ
words_limit = 1048576

-- the most bytes of a request in array form, and of a client's unread input: 1 GiB
abbrev pub text_limit : ℕ
text_limit = 1073741824
