-- What is written is a line, and says what it is to say.
use Rattle.std.proofs.Common.{◌≡◌, ◌≢◌, ne_eqb, ◌≤◌, ◌==◌, ◌||◌, not, ℕ, Bool, true, false, List, [], ◌∷◌, ◌++◌, length, length-append, append_assoc, Result, Ok, Err, OnOk, All, codes, refl, sym, ap, ◌∙◌, arith}
use Rattle.std.specs.List.{AllPass}
use Rattle.std.specs.Fmt.{decimal}
use Rattle.std.proofs.lemmas.Fmt.{length-decimal-le}
use Rattle.std.proofs.lemmas.Bool.Decides.{nat_tests}
use Rattle.std.proofs.lemmas.List.Sums.{AllPass-from_list_all}
use Rattle.std.proofs.lemmas.List.Elements.{All-cons, All-head, All-nil, All-tail}
use Rattle.mr_resp.specs.Spelling.{line_end}
use Rattle.mr_resp.proofs.Digits.{decimal_digits}
use Rattle.mr_repl.specs.ReplId.{IsId, IsIdText, is_lower_digit, digits_of}
use Rattle.mr_repl.proofs.IdTexts.{texts_are_forty}
use Rattle.mr_repl.specs.Backlog.{offset_limit}
use Rattle.mr_peer_lines.specs.Bytes.{ends_line}
use Rattle.mr_peer_lines.specs.Lines.{IsLine, IsMarked, IsPeerLine, size}
use Rattle.mr_peer_lines.specs.Replies.{IsReply, reply_text, place_text}
use Rattle.mr_peer_lines.specs.declared.psync.PsyncReply.{PsyncReply}
use Rattle.mr_peer_lines.specs.declared.psync.PsyncReply.TheVariants.{FullResync, Continue}
use Rattle.mr_peer_lines.specs.Written.{reply_line, length_line, SaysReply}

abbrev is_plain : ℕ → Bool
is_plain b = not (ends_line b)

abbrev IsPlain : ℕ → Type 0
IsPlain b = is_plain b ≡ true

-- a byte past both is plain
neither : (a b : Bool) → a ≡ false → b ≡ false → not (a || b) ≡ true
neither a b p q = cc

plain_past : (b : ℕ) → 14 ≤ b → IsPlain b
plain_past b h = let p : b ≢ 13 = omega (arith, h) in let q : b ≢ 10 = omega (arith, h) in neither (b == 13) (b == 10) (ne_eqb b 13 p) (ne_eqb b 10 q)

lower_past : (b : ℕ) → is_lower_digit b ≡ true → 14 ≤ b
lower_past b h = grind (arith, nat_tests, h)

all_to : (p : ℕ → Bool) → ((b : ℕ) → p b ≡ true → IsPlain b) → (xs : List ℕ) → AllPass p xs → AllPass is_plain xs
all_to p f [] h = All-nil IsPlain
all_to p f (x ∷ xs) h = All-cons IsPlain x xs (f x (All-head (λ b. p b ≡ true) x xs h)) (all_to p f xs (All-tail (λ b. p b ≡ true) x xs h))

digits_plain : (xs : List ℕ) → All (λ d. (48 ≤ d) × (d ≤ 57)) xs → AllPass is_plain xs
digits_plain [] h = All-nil IsPlain
digits_plain (x ∷ xs) h = let here = (All-head (λ d. (48 ≤ d) × (d ≤ 57)) x xs h).0 in
    All-cons IsPlain x xs (plain_past x (omega (arith, here))) (digits_plain xs (All-tail (λ d. (48 ≤ d) × (d ≤ 57)) x xs h))

plain_both : (xs ys : List ℕ) → AllPass is_plain xs → AllPass is_plain ys → AllPass is_plain (xs ++ ys)
plain_both [] ys h k = k
plain_both (x ∷ xs) ys h k = All-cons IsPlain x (xs ++ ys) (All-head IsPlain x xs h) (plain_both xs ys (All-tail IsPlain x xs h) k)

pub decimal_plain : (n : ℕ) → n ≤ offset_limit → AllPass is_plain (decimal n)
decimal_plain n h = digits_plain (decimal n) (decimal_digits n (omega arith))

pub decimal_short : (n : ℕ) → n ≤ offset_limit → length (decimal n) ≤ 20
decimal_short n h = length-decimal-le 20 n (omega arith) (omega arith) (omega arith)

id_text : (id : List ℕ) → IsId id → IsIdText (digits_of id)
id_text id i = (texts_are_forty (digits_of id)).1 (id, i, refl)

id_plain : (id : List ℕ) → IsId id → AllPass is_plain (digits_of id)
id_plain id i = all_to is_lower_digit (λ b h. plain_past b (lower_past b h)) (digits_of id) (id_text id i).digits

full_word : AllPass is_plain (codes "FULLRESYNC ")
full_word = AllPass-from_list_all is_plain (codes "FULLRESYNC ") refl

continue_word : AllPass is_plain (codes "CONTINUE ")
continue_word = AllPass-from_list_all is_plain (codes "CONTINUE ") refl

id_long : (id : List ℕ) → IsId id → length (digits_of id) ≡ 40
id_long id i = (id_text id i).long

place_plain : (id : List ℕ) (n : ℕ) → IsId id → n ≤ offset_limit → AllPass is_plain (place_text id n)
place_plain id n i h = plain_both (digits_of id) (32 ∷ decimal n) (id_plain id i) (All-cons IsPlain 32 (decimal n) refl (decimal_plain n h))

reply_plain : (r : PsyncReply) → IsReply r → AllPass is_plain (reply_text r)
reply_plain (FullResync id n) i = plain_both (codes "FULLRESYNC ") (place_text id n) full_word (place_plain id n i.0 i.1)
reply_plain (Continue id) i = plain_both (codes "CONTINUE ") (digits_of id) continue_word (id_plain id i)

place_short : (id : List ℕ) (n : ℕ) → IsId id → n ≤ offset_limit → length (place_text id n) ≤ 61
place_short id n i h = let long = id_long id i in let all = length-append (digits_of id) (32 ∷ decimal n) in let few = decimal_short n h in omega (arith, long, all, few)

reply_short : (r : PsyncReply) → IsReply r → length (reply_text r) ≤ 72
reply_short (FullResync id n) i = let few = place_short id n i.0 i.1 in let all = length-append (codes "FULLRESYNC ") (place_text id n) in omega (arith, few, all)
reply_short (Continue id) i = let long = id_long id i in let all = length-append (codes "CONTINUE ") (digits_of id) in omega (arith, long, all)

-- what is put before a line end, behind its mark
line_is : (front : List ℕ) → IsMarked front → AllPass is_plain front → length front ≤ 1024 → IsLine (front ++ line_end) front
line_is front marked plain short = record { ended = refl; marked = marked; plain = plain; short = short }

pub says_reply : (r : PsyncReply) → IsReply r → SaysReply (reply_line r) r
unfolding reply_line
says_reply r i = let few = reply_short r i in record {
  text = reply_text r;
  whole = record { front = 43 ∷ reply_text r; whole = line_is (43 ∷ reply_text r) refl (All-cons IsPlain 43 (reply_text r) refl (reply_plain r i)) (omega (arith, few)); says = refl };
  reads = (i, refl);
}

pub says_length : (n : ℕ) → n ≤ offset_limit → IsPeerLine (length_line n) (size n)
unfolding length_line
says_length n h = let few = decimal_short n h in
    record { front = 36 ∷ decimal n; whole = line_is (36 ∷ decimal n) refl (All-cons IsPlain 36 (decimal n) refl (decimal_plain n h)) (omega (arith, few)); says = (refl, h) }

-- one piece behind another
pub push_on : (s t u a b : List ℕ) → t ≡ s ++ a → u ≡ t ++ b → u ≡ s ++ (a ++ b)
push_on s t u a b p q = q ∙ (ap (λ z. z ++ b) p ∙ append_assoc s a b)

-- what is put in pieces is the line
full_words : (id : List ℕ) (n : ℕ) → codes "+FULLRESYNC " ++ (digits_of id ++ (codes " " ++ (decimal n ++ codes "\r\n"))) ≡ reply_line (FullResync id n)
unfolding reply_line
full_words id n = ap (λ z. codes "+FULLRESYNC " ++ z) (sym (append_assoc (digits_of id) (32 ∷ decimal n) (codes "\r\n"))) ∙ sym (append_assoc (codes "+FULLRESYNC ") (place_text id n) (codes "\r\n"))

pub full_put : (id digits number out : List ℕ) (n : ℕ) → digits ≡ digits_of id → number ≡ decimal n
    → out ++ (codes "+FULLRESYNC " ++ (digits ++ (codes " " ++ (number ++ codes "\r\n")))) ≡ out ++ reply_line (FullResync id n)
full_put id digits number out n d e = ap (λ z. out ++ (codes "+FULLRESYNC " ++ (z ++ (codes " " ++ (number ++ codes "\r\n"))))) d
    ∙ (ap (λ z. out ++ (codes "+FULLRESYNC " ++ (digits_of id ++ (codes " " ++ (z ++ codes "\r\n"))))) e ∙ ap (λ z. out ++ z) (full_words id n))

continue_words : (id : List ℕ) → codes "+CONTINUE " ++ (digits_of id ++ codes "\r\n") ≡ reply_line (Continue id)
unfolding reply_line
continue_words id = sym (append_assoc (codes "+CONTINUE ") (digits_of id) (codes "\r\n"))

pub continue_put : (id digits out : List ℕ) → digits ≡ digits_of id → out ++ (codes "+CONTINUE " ++ (digits ++ codes "\r\n")) ≡ out ++ reply_line (Continue id)
continue_put id digits out d = ap (λ z. out ++ (codes "+CONTINUE " ++ (z ++ codes "\r\n"))) d ∙ ap (λ z. out ++ z) (continue_words id)

pub length_put : (number out : List ℕ) (n : ℕ) → number ≡ decimal n → out ++ (codes "$" ++ (number ++ codes "\r\n")) ≡ out ++ length_line n
unfolding length_line
length_put number out n e = ap (λ z. out ++ (codes "$" ++ (z ++ codes "\r\n"))) e

pub on_ok_same : {A E : Type 0} (r : Result A E) (new x y : List ℕ) → OnOk r (new ≡ x) → x ≡ y → OnOk r (new ≡ y)
on_ok_same (Ok a) new x y h e = h ∙ e
on_ok_same (Err a) new x y h e = h
