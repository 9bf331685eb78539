-- Command texts among the requests.
use Rattle.std.proofs.Common.{◌≡◌, ◌≢◌, ℕ, ◌<◌, ◌≤◌, ◌*◌, ◌^◌, ◌⊎◌, inl, inr, List, [], ◌∷◌, ◌++◌, length, get_or, take, drop, map, All, Result, Ok, Err, IfOk, lit<, refl, sym, ap, ◌∙◌, subst, append_assoc, arith}
use Rattle.std.specs.Fmt.{decimal}
use Rattle.std.specs.List.{flat_map}
use Rattle.std.specs.Cow.{cow_slice_items}
use Rattle.std.proofs.lemmas.Fmt.{length-decimal-le}
use Rattle.std.proofs.lemmas.List.{append-nil, length-append, take-append-drop, get_or_append_left}
use Rattle.std.proofs.lemmas.List.Elements.{All-nil, All-cons, All-head, All-tail}
use Rattle.mr_inline.specs.Language.{Continues, IsDoomed, Fails}
use Rattle.mr_inline.specs.Limits.{word_limit, words_limit}
use Rattle.mr_resp.specs.Array.{IsNumber, IsCountLine, IsArray, IsEmptyArray, IsArrayText, HasArrayFault}
use Rattle.mr_resp.specs.Command.{IsCommand, IsCommandText, HasCommandFault, ReadsCommand}
use Rattle.mr_resp.specs.Scans.{ReadsArray}
use Rattle.mr_resp.specs.Spelling.{line_end, number_line, bulk, array}
use Rattle.mr_resp.specs.declared.fault.Fault.{Fault}
use Rattle.mr_resp.specs.declared.fault.Fault.TheVariants.{MultibulkLength}
use Rattle.mr_resp.specs.declared.limits.Limits.{Limits}
use Rattle.mr_resp.specs.declared.request.Scan.{Scan}
use Rattle.mr_resp.specs.declared.request.Scan.TheVariants.{Whole, Skip, More, Bad}
use Rattle.mr_resp.proofs.LineEnds.{bytes_nil, bytes_cons, bytes_end}
use Rattle.mr_resp.proofs.Digits.{is_of}
use Rattle.mr_resp.proofs.Lines.{decimal_0}
use Rattle.mr_resp.proofs.Words.{bytes_append, bytes_line, bytes_bulk, length-bulk, line_unique}
use Rattle.mr_resp.proofs.Requests.{array_parts, few, same_words, text_star}

-- the input begins no empty request
abbrev pub IsClear : List ℕ → Type 0
IsClear input = (b : ℕ) (rest : List ℕ) → input ≡ 42 ∷ b ∷ rest → (b ≢ 48) × (b ≢ 45)

-- a beginning of clear input is clear
clear_front : (input front rest : List ℕ) → input ≡ front ++ rest → IsClear input → IsClear front
clear_front input front rest e clear = λ b r k. clear b (r ++ rest) (e ∙ ap (λ (x : List ℕ). x ++ rest) k)

empty_second : (text : List ℕ) → IsEmptyArray text → (b : ℕ) × (rest : List ℕ) × (text ≡ 42 ∷ b ∷ rest) × ((b ≡ 48) ⊎ (b ≡ 45))
empty_second text (inl e) = (48, line_end ++ [], e ∙ ap (λ (x : List ℕ). (42 ∷ x ++ line_end) ++ []) decimal_0, inl refl)
empty_second text (inr e) = (45, 49 ∷ line_end, e, inr refl)

clear_no_empty : (text rest : List ℕ) → IsClear (text ++ rest) → IsEmptyArray text → ⊥
clear_no_empty text rest clear empty =
    let s = empty_second text empty in
    let both = clear s.0 (s.1 ++ rest) (ap (λ (x : List ℕ). x ++ rest) s.2) in
    elim s.3 [ inl e ↦ both.0 e | inr e ↦ both.1 e ]

-- a request is a command
pub command_of : (limits : Limits) (text : List ℕ) (words : List (List ℕ)) → IsArray limits text words → IsCommand limits text words
command_of limits text words r = record { spelled = r.spelled; some = r.some; count = r.count; each = r.each }

-- a number above 0 begins with no 0
pub first_digit : (n b : ℕ) (x y : List ℕ) → 0 < n → n < 2 ^ 64 → number_line n ++ x ≡ b ∷ y → 48 < b
first_digit n b x y pos small e =
    let digits = is_of n (omega (arith, small)) in
    let first : b ≡ get_or (decimal n ++ (line_end ++ x)) 0 0 = ap (λ (t : List ℕ). get_or t 0 0) (sym e ∙ append_assoc (decimal n) line_end x) in
    omega (arith, first, get_or_append_left (decimal n) (line_end ++ x) 0 0 digits.some, digits.no_zero pos)

pub map_ok : {T E : Type 0} (r : Result T E) (P Q : T → Type 0) → ((x : T) → P x → Q x) → IfOk r P → IfOk r Q
map_ok (Ok x) P Q f h = f x h
map_ok (Err e) P Q f h = tt

module _ (limits : Limits) (word : limits.word ≡ word_limit) (words : limits.words ≡ words_limit) (text : limits.text ≡ 18446744073709551615) where
  -- a word takes at most these bytes, and so all words fit the text
  word_size : (w : List ℕ) → length w ≤ limits.word → length (bulk w) ≤ 536870937
  word_size w le = omega (arith, length-bulk w, length-decimal-le 20 (length w) (lit< tt) (omega (arith, le, word)) (omega (arith, le, word)))

  pub words_size : (ws : List (List ℕ)) → All (λ w. length w ≤ limits.word) ws → length (flat_map bulk ws) ≤ 536870937 * length ws
  words_size [] h = omega arith
  words_size (w ∷ ws) h = omega (arith, length-append (bulk w) (flat_map bulk ws), word_size w (All-head (λ w. length w ≤ limits.word) w ws h), words_size ws (All-tail (λ w. length w ≤ limits.word) w ws h))

  pub request_of : (t : List ℕ) (ws : List (List ℕ)) → IsCommand limits t ws → IsArray limits t ws
  request_of t ws c = record {
    spelled = c.spelled;
    some = c.some;
    count = c.count;
    each = c.each;
    size = omega (
      arith,
      ap length c.spelled,
      length-append (42 ∷ number_line (length ws)) (flat_map bulk ws),
      length-append (decimal (length ws)) line_end,
      length-decimal-le 20 (length ws) (lit< tt) (omega (arith, c.count, words)) (omega (arith, c.count, words)),
      words_size ws c.each,
      c.count,
      words,
      text,
    );
  }

  -- a text that begins no empty request is a command
  pub text_command : (t rest : List ℕ) → IsClear (t ++ rest) → IsArrayText limits t → IsCommandText limits t
  text_command t rest clear (inl r) = (r.0, command_of limits t r.0 r.1)
  text_command t rest clear (inr e) = absurd (clear_no_empty t rest clear e)

  doomed_command : (y : List ℕ) → IsDoomed (IsArrayText limits) y → IsDoomed (IsCommandText limits) y
  doomed_command y d = record { never = λ more t rest c e. d.never more t rest (inl (c.0, request_of t c.0 c.1)) e }

  pub one_command : IsCommand limits (array ([] ∷ [])) ([] ∷ [])
  one_command = record { spelled = refl; some = lit< tt; count = omega (arith, words); each = All-cons (λ w. length w ≤ limits.word) [] [] (omega arith) (All-nil (λ w. length w ≤ limits.word)) }

  bytes_one : All (λ b. b < 256) (number_line 1 ++ flat_map bulk ([] ∷ []))
  bytes_one = bytes_append (number_line 1) (flat_map bulk ([] ∷ [])) (bytes_line 1 (lit< tt)) (bytes_append (bulk []) [] (bytes_bulk [] (lit< tt) bytes_nil) bytes_nil)

  star_begins : (bs : List ℕ) → bs ≡ 42 ∷ [] → Continues (IsCommandText limits) bs
  star_begins bs e = record {
    more = number_line 1 ++ flat_map bulk ([] ∷ []);
    some = omega (arith, length-append (number_line 1) (flat_map bulk ([] ∷ [])), length-append (decimal 1) line_end);
    are_bytes = bytes_one;
    whole = ([] ∷ [], subst (λ (x : List ℕ). IsCommand limits (x ++ (number_line 1 ++ flat_map bulk ([] ∷ []))) ([] ∷ [])) (sym e) one_command);
  }

  nothing_begins : Continues (IsCommandText limits) []
  nothing_begins = record {
    more = array ([] ∷ []);
    some = omega (arith, length-append (42 ∷ number_line 1) (flat_map bulk ([] ∷ [])));
    are_bytes = bytes_cons 42 (number_line 1 ++ flat_map bulk ([] ∷ [])) (lit< tt) bytes_one;
    whole = ([] ∷ [], one_command);
  }

  -- more bytes leave the second one as it is
  pub clear_more : (a b : ℕ) (r more : List ℕ) → IsClear (a ∷ b ∷ r) → IsClear ((a ∷ b ∷ r) ++ more)
  clear_more a b r more clear = λ c rest e.
      let both : a ∷ b ∷ (r ++ more) ≡ 42 ∷ c ∷ rest = e in
      let first : a ≡ 42 = cc both in
      let second : b ≡ c = cc both in
      clear c r (ap (λ (x : ℕ). x ∷ b ∷ r) first ∙ ap (λ (x : ℕ). 42 ∷ x ∷ r) second)

  goes_on : (input : List ℕ) → IsClear input → Continues (IsArrayText limits) input → Continues (IsCommandText limits) input
  goes_on [] clear h = nothing_begins
  goes_on (a ∷ []) clear h =
      let star = text_star limits (a ∷ h.more) h.whole in
      let both : a ∷ h.more ≡ 42 ∷ star.0 = star.1 in
      let is : a ≡ 42 = cc both in
      star_begins (a ∷ []) (ap (λ (x : ℕ). x ∷ []) is)
  goes_on (a ∷ b ∷ r) clear h = record {
    more = h.more;
    some = h.some;
    are_bytes = h.are_bytes;
    whole = text_command ((a ∷ b ∷ r) ++ h.more) [] (subst (λ (x : List ℕ). IsClear x) (sym (append-nil ((a ∷ b ∷ r) ++ h.more))) (clear_more a b r h.more clear)) h.whole;
  }

  fails_command : (input : List ℕ) (fault : Fault) → IsClear input → Fails (IsArrayText limits) (HasArrayFault limits fault) input → Fails (IsCommandText limits) (HasCommandFault limits fault) input
  fails_command input fault clear f = record {
    front = f.front;
    byte = f.byte;
    rest = f.rest;
    is = f.is;
    before = goes_on f.front (clear_front input f.front (f.byte ∷ f.rest) f.is clear) f.before;
    doomed = doomed_command (f.front ++ f.byte ∷ []) f.doomed;
    fault = inr (
      λ zero. (clear 48 f.rest (f.is ∙ sym (append_assoc f.front (f.byte ∷ []) f.rest) ∙ ap (λ (x : List ℕ). x ++ f.rest) zero)).0 refl,
      f.fault,
    );
  }

  pub reads_command : (input : List ℕ) (scan : Scan) → IsClear input → ReadsArray limits input scan → ReadsCommand limits input scan
  reads_command input (Whole ws used) clear p = (p.0, command_of limits (take used input) (map cow_slice_items ws.items) p.1)
  reads_command input (Skip used) clear p = clear_no_empty (take used input) (drop used input) (subst (λ (x : List ℕ). IsClear x) (sym (take-append-drop used input)) clear) p.1
  reads_command input More clear p = goes_on input clear p
  reads_command input (Bad fault) clear p = fails_command input fault clear p

  -- the first digit of a count that isn't 0
  pub second_byte : (b : ℕ) (x t rest : List ℕ) → IsCommandText limits t → 42 ∷ b ∷ x ≡ t ++ rest → 48 < b
  second_byte b x t rest c e =
      let ws : List (List ℕ) = c.0 in
      let is : 42 ∷ b ∷ x ≡ 42 ∷ (number_line (length ws) ++ (flat_map bulk ws ++ rest)) = e ∙ ap (λ (y : List ℕ). y ++ rest) c.1.spelled ∙ array_parts ws rest in
      let inner : number_line (length ws) ++ (flat_map bulk ws ++ rest) ≡ b ∷ x = cc is in
      first_digit (length ws) b (flat_map bulk ws ++ rest) x c.1.some (few limits (length ws) c.1.count) inner

  line_begins : Continues (IsCountLine limits) (42 ∷ [])
  line_begins = record { more = 45 ∷ 49 ∷ line_end; some = lit< tt; are_bytes = bytes_cons 45 (49 ∷ line_end) (lit< tt) (bytes_cons 49 line_end (lit< tt) bytes_end); whole = inr refl }

  pub no_number : IsNumber 42 (42 ∷ 45 ∷ []) → ⊥
  no_number n =
      let same : n.0 ≡ 45 ∷ [] = cc (n.1) in
      let digits = subst (λ (x : List ℕ). All (λ d. (48 ≤ d) × (d ≤ 57)) x) same n.2.each in
      omega (arith, (All-head (λ d. (48 ≤ d) × (d ≤ 57)) 45 [] digits).0)

  empty_fault : (b : ℕ) → (b ≡ 48) ⊎ (b ≡ 45) → HasCommandFault limits MultibulkLength (42 ∷ []) b
  empty_fault b (inl e) = inl (ap (λ (x : ℕ). 42 ∷ x ∷ []) e, refl)
  empty_fault b (inr e) = inr (
    λ zero. let both : 42 ∷ b ∷ [] ≡ 42 ∷ 48 ∷ [] = zero in let same : b ≡ 48 = cc both in absurd (omega (arith, e, same)),
    inl (line_begins, λ n. no_number (subst (λ (x : ℕ). IsNumber 42 (42 ∷ x ∷ [])) e n)),
  )

  pub empty_fails : (input : List ℕ) (b : ℕ) (rest : List ℕ) → input ≡ 42 ∷ b ∷ rest → (b ≡ 48) ⊎ (b ≡ 45) → Fails (IsCommandText limits) (HasCommandFault limits MultibulkLength) input
  empty_fails input b rest e which = record {
    front = 42 ∷ [];
    byte = b;
    rest = rest;
    is = e;
    before = star_begins (42 ∷ []) refl;
    doomed = record {
      never = λ more t after c k.
          let above = second_byte b more t after c k in
          elim which [ inl is ↦ absurd (omega (arith, above, is)) | inr is ↦ absurd (omega (arith, above, is)) ];
    };
    fault = empty_fault b which;
  }

module _ (limits : Limits) where
  same_commands : (a b x y : List ℕ) (ws vs : List (List ℕ)) → IsCommand limits a ws → IsCommand limits b vs → a ++ x ≡ b ++ y → (ws ≡ vs) × (x ≡ y)
  same_commands a b x y ws vs r q e =
      let both : 42 ∷ (number_line (length ws) ++ (flat_map bulk ws ++ x)) ≡ 42 ∷ (number_line (length vs) ++ (flat_map bulk vs ++ y)) =
      sym (array_parts ws x) ∙ ap (λ (t : List ℕ). t ++ x) (sym r.spelled) ∙ e ∙ ap (λ (t : List ℕ). t ++ y) q.spelled ∙ array_parts vs y in
      let inner : number_line (length ws) ++ (flat_map bulk ws ++ x) ≡ number_line (length vs) ++ (flat_map bulk vs ++ y) = cc in
      let parts = line_unique (length ws) (length vs) (flat_map bulk ws ++ x) (flat_map bulk vs ++ y) (few limits (length ws) r.count) (few limits (length vs) q.count) inner in
      same_words limits ws vs x y limits.small_word r.each q.each parts.0 parts.1

  -- no command text begins another, and each has one list of words
  pub commands_apart : (a b x y : List ℕ) (ws vs : List (List ℕ)) → IsCommand limits a ws → IsCommand limits b vs → a ++ x ≡ b ++ y → (a ≡ b) × (ws ≡ vs)
  commands_apart a b x y ws vs r q e =
      let same = (same_commands a b x y ws vs r q e).0 in
      (r.spelled ∙ ap array same ∙ sym q.spelled, same)

  -- what begins with a command text wants no more
  pub command_wants_no_more : (text rest : List ℕ) → IsCommandText limits text → Continues (IsCommandText limits) (text ++ rest) → ⊥
  command_wants_no_more text rest c h =
      let both : text ++ (rest ++ h.more) ≡ ((text ++ rest) ++ h.more) ++ [] = sym (append_assoc text rest h.more) ∙ sym (append-nil ((text ++ rest) ++ h.more)) in
      let none = (same_commands text ((text ++ rest) ++ h.more) (rest ++ h.more) [] c.0 h.whole.0 c.1 h.whole.1 both).1 in
      omega (arith, ap length none, length-append rest h.more, h.some)
