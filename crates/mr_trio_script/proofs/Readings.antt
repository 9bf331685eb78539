-- How far a reply is read.
use Rattle.std.proofs.Common.{◌≡◌, ◌≢◌, ◌∙◌, ℕ, zero, suc, ◌<◌, ◌≤◌, ◌+◌, ◌-◌, List, [], ◌∷◌, ◌++◌, length, take, drop, sym, ap, refl, subst, arith, append_assoc, append-nil, length-append, length-drop, take-add, take_all, take-append-drop}
use Rattle.std.specs.List.{flat_map}
use Rattle.std.proofs.lemmas.List.{drop_all}
use Rattle.std.proofs.lemmas.List.Concat.{flat_map-append}
use Rattle.mr_trio_script.specs.Replies.{Part, IsPart, IsReply, Settles, part_text, opens}
use Rattle.mr_trio_script.specs.Heads.{IsFirst, NoneIsFirst}
use Rattle.mr_trio_script.specs.declared.head.Head.{Head}
use Rattle.mr_trio_script.proofs.Fronts.{one_line}
use Rattle.mr_resp.specs.Spelling.{line_end}
use Rattle.mr_trio_script.proofs.Parts.{SamePart, form_of, head_text, part_begins, same_part, tail_of, text_is}

abbrev pub texts_of : List Part → List ℕ
texts_of parts = flat_map part_text parts

-- These parts follow, which are so many replies, and then these bytes.
pub record Follows (left : ℕ) (bytes rest : List ℕ) : Type 0 where
  pub parts : List Part
  pub settles : Settles left parts
  pub is : bytes ≡ texts_of parts ++ rest

-- Parts were read up to this place, and so many replies are to come.
pub record HasRead (bytes : List ℕ) (at left : ℕ) : Type 0 where
  pub within : at ≤ length bytes
  pub parts : List Part
  pub is : take at bytes ≡ texts_of parts
  pub opens_to : (more : List Part) → Settles left more → Settles 1 (parts ++ more)
  pub only : (rest : List ℕ) → Follows 1 bytes rest → Follows left (drop at bytes) rest

pub begun : (bytes : List ℕ) → HasRead bytes 0 1
begun bytes = record { within = omega arith; parts = []; is = refl; opens_to = λ more s. s; only = λ rest f. f }

pub follows_reply : (bytes text rest : List ℕ) → IsReply text → bytes ≡ text ++ rest → Follows 1 bytes rest
follows_reply bytes text rest r e = record { parts = r.parts; settles = r.settles; is = e ∙ ap (λ t. t ++ rest) r.is }

drop_is : (bytes : List ℕ) (at n : ℕ) → drop (at + n) bytes ≡ drop n (drop at bytes)
drop_is bytes zero n = ap (λ k. drop k bytes) (omega arith)
drop_is [] (suc at) n = drop_all (suc at + n) [] (omega arith) ∙ sym (drop_all n [] (omega arith))
drop_is (b ∷ bytes) (suc at) n = ap (λ k. drop k (b ∷ bytes)) (let e : suc at + n ≡ suc (at + n) = omega arith in e) ∙ drop_is bytes at n

-- what a slice from this place on has
pub behind_is : (bytes : List ℕ) (at : ℕ) → take (length bytes - at) (drop at bytes) ≡ drop at bytes
behind_is bytes at = take_all (length bytes - at) (drop at bytes) (omega (arith, length-drop at bytes))

-- ---- a part more
part_first : (p q : Part) (bytes x y : List ℕ) → IsPart p → IsPart q → bytes ≡ part_text p ++ x → bytes ≡ part_text q ++ y → SamePart p q x y
part_first p q bytes x y a b e f =
    let one = one_line bytes _ _ _ _ _ _ (part_begins p bytes x a e) (part_begins q bytes y b f) in
    same_part p q x y a b one.form one.text one.rest

follows_on : (k : ℕ) (bytes rest more : List ℕ) (p : Part) → IsPart p → bytes ≡ part_text p ++ more → Follows (suc k) bytes rest → Follows (k + opens p) more rest
follows_on k bytes rest more p is e f = cases f.parts f.settles f.is where
  cases : (qs : List Part) → Settles (suc k) qs → bytes ≡ texts_of qs ++ rest → Follows (k + opens p) more rest
  cases [] s i = absurd s
  cases (q ∷ qs) s i =
      let same = part_first p q bytes more (texts_of qs ++ rest) is s.0 e (i ∙ append_assoc (part_text q) (texts_of qs) rest) in
      record { parts = qs; settles = subst (λ (r : Part). Settles (k + opens r) qs) (sym same.part) s.1; is = same.rest }

pub read_on : (bytes : List ℕ) (at k : ℕ) (head : Head) → HasRead bytes at (suc k) → IsFirst (drop at bytes) head → HasRead bytes (at + head.len) (k + head.opens)
read_on bytes at k head h f = record {
  within = omega (arith, f.within, length-drop at bytes, h.within);
  parts = h.parts ++ f.part ∷ [];
  is = take-add at head.len bytes ∙ (λ i. h.is i ++ f.text i) ∙ ap (λ t. texts_of h.parts ++ t) (sym (append-nil (part_text f.part))) ∙ sym (flat_map-append part_text h.parts (f.part ∷ []));
  opens_to = λ more s.
      let behind : Settles (k + opens f.part) more = subst (λ (n : ℕ). Settles (k + n) more) f.opened s in
      subst (Settles 1) (sym (append_assoc h.parts (f.part ∷ []) more)) (h.opens_to (f.part ∷ more) (f.is_part, behind));
  only = λ rest whole.
      let behind = drop head.len (drop at bytes) in
      let begins : drop at bytes ≡ part_text f.part ++ behind = sym (take-append-drop head.len (drop at bytes)) ∙ ap (λ t. t ++ behind) f.text in
      let on = follows_on k (drop at bytes) rest behind f.part f.is_part begins (h.only rest whole) in
      let left : Follows (k + head.opens) behind rest = subst (λ (n : ℕ). Follows (k + n) behind rest) (sym f.opened) on in
      subst (λ (xs : List ℕ). Follows (k + head.opens) xs rest) (sym (drop_is bytes at head.len)) left;
}

-- ---- the end
pub is_read : (bytes : List ℕ) (at : ℕ) → HasRead bytes at 0 → (at ≤ length bytes) × IsReply (take at bytes)
is_read bytes at h = (h.within, record { parts = h.parts; settles = subst (Settles 1) (append-nil h.parts) (h.opens_to [] tt); is = h.is })

no_follower : (bytes rest : List ℕ) (k : ℕ) → NoneIsFirst bytes → (parts : List Part) → Settles (suc k) parts → bytes ≢ texts_of parts ++ rest
no_follower bytes rest k none [] s e = s
no_follower bytes rest k none (q ∷ qs) s e = none q (texts_of qs ++ rest) s.0 (e ∙ append_assoc (part_text q) (texts_of qs) rest)

-- where no part comes, no reply does
pub none_reads : (bytes : List ℕ) (at k : ℕ) → HasRead bytes at (suc k) → NoneIsFirst (drop at bytes) → (text rest : List ℕ) → IsReply text → bytes ≢ text ++ rest
none_reads bytes at k h none text rest r e =
    let f = h.only rest (follows_reply bytes text rest r e) in
    no_follower (drop at bytes) rest k none f.parts f.settles f.is

some_text : (p : Part) → 1 ≤ length (part_text p)
some_text p = omega (arith, ap length (text_is p), length-append (form_of p ∷ head_text p ++ line_end) (tail_of p))

settles_len : (left : ℕ) (parts : List Part) → Settles left parts → left ≤ length (texts_of parts)
settles_len zero parts s = omega arith
settles_len (suc left) [] s = absurd s
settles_len (suc left) (p ∷ ps) s = omega (arith, some_text p, settles_len (left + opens p) ps s.1, length-append (part_text p) (texts_of ps))

-- so many replies have as many bytes at least
pub replies_len : (left : ℕ) (bytes rest : List ℕ) → Follows left bytes rest → left ≤ length bytes
replies_len left bytes rest f = omega (arith, settles_len left f.parts f.settles, ap length f.is, length-append (texts_of f.parts) rest)

-- too many replies are to come
pub too_many : (bytes : List ℕ) (at left : ℕ) → HasRead bytes at left → length bytes - at < left → (text rest : List ℕ) → IsReply text → bytes ≢ text ++ rest
too_many bytes at left h many text rest r e = omega (arith, many, length-drop at bytes, replies_len left (drop at bytes) rest (h.only rest (follows_reply bytes text rest r e)))
