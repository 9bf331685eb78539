-- The two forms of a request are told apart by the first byte.
use Rattle.std.proofs.Common.{◌≡◌, ◌≢◌, ℕ, ◌<◌, ◌⊎◌, inl, inr, List, [], ◌∷◌, ◌++◌, length, get_or, map, All, Global, refl, sym, ap, ◌∙◌, subst, append_assoc, arith}
use Rattle.std.specs.Cow.{cow_slice_items, IsBorrowedSlice}
use Rattle.std.specs.List.{flat_map, AllZip}
use Rattle.std.specs.declared.borrow.CowSlice.{CowSlice}
use Rattle.std.proofs.lemmas.List.{length-append}
use Rattle.std.proofs.lemmas.List.Elements.{All-head, All-tail}
use Rattle.mr_inline.specs.Language.{Continues, IsDoomed, Fails}
use Rattle.mr_inline.specs.Bytes.{star, line_feed}
use Rattle.mr_inline.specs.Line.{IsLineOf, IsLineText, Part, word_text, part_text, part_value}
use Rattle.mr_inline.specs.Scans.{HasNoQuote}
use Rattle.mr_resp.specs.Array.{IsArrayText, HasArrayFault}
use Rattle.mr_inline.specs.Limits.{line_limit}
use Rattle.mr_resp.specs.Request.{IsText, IsInArray, HasInlineFault, HasFault}
use Rattle.mr_resp.specs.Scans.{Reads, ReadsArray, ReadsInline, CopiesNothing, CopiesOnlyQuoted}
use Rattle.mr_resp.specs.declared.limits.Limits.{Limits}
use Rattle.mr_resp.specs.declared.fault.Fault.{Fault}
use Rattle.mr_resp.specs.declared.request.Scan.{Scan}
use Rattle.mr_resp.specs.declared.request.Scan.TheVariants.{Whole, Skip, More, Bad}
use Rattle.mr_resp.proofs.Requests.{text_star, nothing_continues}

pub star_on : (a x : List ℕ) → IsInArray a → IsInArray (a ++ x)
star_on [] x h = absurd h
star_on (b ∷ a) x h = h

pub star_back : (a x : List ℕ) → 0 < length a → IsInArray (a ++ x) → IsInArray a
star_back [] x some h = absurd (omega (arith, some))
star_back (b ∷ a) x some h = h

-- both begin the same bytes, the one with a star and the other without
pub not_both : (a b x y : List ℕ) → IsInArray a → (IsInArray b → ⊥) → 0 < length b → a ++ x ≡ b ++ y → ⊥
not_both a b x y begun none some e = none (star_back b y some (subst (λ (t : List ℕ). IsInArray t) e (star_on a x begun)))

pub line_some : (limit : ℕ) (text : List ℕ) → IsLineText limit text → 0 < length text
line_some limit text t = elim t [ inl l ↦ some text l.0 l.1.1 | inr l ↦ some text [] l ]
  where
    some : (text : List ℕ) (words : List (List ℕ)) → IsLineOf limit text words → 0 < length text
    some text words l = omega (arith, ap length l.spelled, length-append (flat_map part_text l.parts ++ l.after) (line_feed ∷ []))

pub line_no_star : (limit : ℕ) (text : List ℕ) → IsLineText limit text → IsInArray text → ⊥
line_no_star limit text (inl l) = l.1.1.no_array
line_no_star limit text (inr l) = l.no_array

module _ (limits : Limits) where
  pub array_star : (text : List ℕ) → IsArrayText limits text → IsInArray text
  array_star text t = let s = text_star limits text t in subst (λ (x : List ℕ). IsInArray x) (sym s.1) refl

  pub array_text : (text : List ℕ) → IsArrayText limits text → IsText limits text
  array_text text (inl r) = inl (r.0, inl r.1)
  array_text text (inr e) = inr (inl e)

  pub line_text : (text : List ℕ) → IsLineText line_limit text → IsText limits text
  line_text text (inl r) = inl (r.0, inr r.1)
  line_text text (inr e) = inr (inr e)

  -- a text is of one form
  pub form_of : (text : List ℕ) → IsText limits text → IsArrayText limits text ⊎ IsLineText line_limit text
  form_of text (inl (ws, inl r)) = inl (inl (ws, r))
  form_of text (inl (ws, inr r)) = inr (inl (ws, r))
  form_of text (inr (inl e)) = inl (inr e)
  form_of text (inr (inr e)) = inr (inr e)

  pub array_continues : (input : List ℕ) → Continues (IsArrayText limits) input → Continues (IsText limits) input
  array_continues input h = record { more = h.more; some = h.some; are_bytes = h.are_bytes; whole = array_text (input ++ h.more) h.whole }

  pub line_continues : (input : List ℕ) → Continues (IsLineText line_limit) input → Continues (IsText limits) input
  line_continues input h = record { more = h.more; some = h.some; are_bytes = h.are_bytes; whole = line_text (input ++ h.more) h.whole }

  pub empty_continues : (input : List ℕ) → input ≡ [] → Continues (IsText limits) input
  empty_continues input e = array_continues input (nothing_continues limits input e)

  array_doomed : (input : List ℕ) → IsInArray input → IsDoomed (IsArrayText limits) input → IsDoomed (IsText limits) input
  array_doomed input begun d = record {
    never = λ more text rest t e. elim (form_of text t) [
      | inl a ↦ d.never more text rest a e
      | inr l ↦ not_both input text more rest begun (line_no_star line_limit text l) (line_some line_limit text l) e
    ];
  }

  line_doomed : (input : List ℕ) → 0 < length input → (IsInArray input → ⊥) → IsDoomed (IsLineText line_limit) input → IsDoomed (IsText limits) input
  line_doomed input some none d = record {
    never = λ more text rest t e. elim (form_of text t) [
      | inl a ↦ not_both text input rest more (array_star text a) none some (sym e)
      | inr l ↦ d.never more text rest l e
    ];
  }

  -- the shortest doomed beginning, and what follows it
  cut_at : (input front rest : List ℕ) (byte : ℕ) → input ≡ front ++ byte ∷ rest → (front ++ byte ∷ []) ++ rest ≡ input
  cut_at input front rest byte e = append_assoc front (byte ∷ []) rest ∙ sym e

  some_cut : (front : List ℕ) (byte : ℕ) → 0 < length (front ++ byte ∷ [])
  some_cut front byte = omega (arith, length-append front (byte ∷ []))

  pub array_fails : (input : List ℕ) (fault : Fault) → IsInArray input → Fails (IsArrayText limits) (HasArrayFault limits fault) input → Fails (IsText limits) (HasFault limits fault) input
  array_fails input fault begun f =
      let begins : IsInArray (f.front ++ f.byte ∷ []) =
      star_back (f.front ++ f.byte ∷ []) f.rest (some_cut f.front f.byte) (subst (λ (x : List ℕ). IsInArray x) (sym (cut_at input f.front f.rest f.byte f.is)) begun) in
      record {
        front = f.front;
        byte = f.byte;
        rest = f.rest;
        is = f.is;
        before = array_continues f.front f.before;
        doomed = array_doomed (f.front ++ f.byte ∷ []) begins f.doomed;
        fault = inl (begins, f.fault);
      }

  pub line_fails : (input : List ℕ) (fault : Fault) → (IsInArray input → ⊥) → Fails (IsLineText line_limit) (HasInlineFault fault) input → Fails (IsText limits) (HasFault limits fault) input
  line_fails input fault none f =
      let begins : IsInArray (f.front ++ f.byte ∷ []) → ⊥ =
      λ begun. none (subst (λ (x : List ℕ). IsInArray x) (cut_at input f.front f.rest f.byte f.is) (star_on (f.front ++ f.byte ∷ []) f.rest begun)) in
      record {
        front = f.front;
        byte = f.byte;
        rest = f.rest;
        is = f.is;
        before = line_continues f.front f.before;
        doomed = line_doomed (f.front ++ f.byte ∷ []) (some_cut f.front f.byte) begins f.doomed;
        fault = inr (begins, f.fault);
      }

  pub array_reads : (input : List ℕ) (scan : Scan) → IsInArray input → ReadsArray limits input scan → Reads limits input scan
  array_reads input (Whole words used) begins p = (p.0, inl p.1)
  array_reads input (Skip used) begins p = (p.0, inl p.1)
  array_reads input More begins p = array_continues input p
  array_reads input (Bad fault) begins p = array_fails input fault begins p

  pub line_reads : (input : List ℕ) (scan : Scan) → (IsInArray input → ⊥) → ReadsInline input scan → Reads limits input scan
  line_reads input (Whole words used) none p = (p.0, inr p.1)
  line_reads input (Skip used) none p = (p.0, inr p.1)
  line_reads input More none p = line_continues input p
  line_reads input (Bad fault) none p = line_fails input fault none p

-- where all words are borrowed
own_words : (parts : List Part) (words : List (CowSlice ℕ Global)) → map cow_slice_items words ≡ map part_value parts → All IsBorrowedSlice words → AllZip (λ part word. HasNoQuote (word_text part.word) → IsBorrowedSlice word) parts words
own_words [] [] e all = tt
own_words [] (word ∷ words) e all = absurd (omega (arith, ap length e))
own_words (part ∷ parts) [] e all = absurd (omega (arith, ap length e))
own_words (part ∷ parts) (word ∷ words) e all =
    let later : map cow_slice_items words ≡ map part_value parts = cc in
    (λ none. All-head IsBorrowedSlice word words all, own_words parts words later (All-tail IsBorrowedSlice word words all))

pub array_copies : (input : List ℕ) (scan : Scan) → CopiesNothing scan → CopiesOnlyQuoted input scan
array_copies input (Whole words used) all = (λ begins. all, λ line. own_words line.parts words.items line.means all)
array_copies input (Skip used) all = tt
array_copies input More all = tt
array_copies input (Bad fault) all = tt

-- the first byte is a star, or it isn't
pub star_first : (input : List ℕ) → 0 < length input → get_or input 0 0 ≡ star → IsInArray input
star_first [] some e = absurd (omega (arith, some))
star_first (b ∷ rest) some e = e

pub no_star_first : (input : List ℕ) → get_or input 0 0 ≢ star → IsInArray input → ⊥
no_star_first [] ne h = h
no_star_first (b ∷ rest) ne h = ne h
