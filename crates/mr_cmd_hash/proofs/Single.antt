-- One field that gets a value.
use Rattle.std.proofs.Common.{ℕ, suc, ℤ, ◌≡◌, List, [], ◌∷◌, ◌++◌, map, length, Bool, true, false, not, cond, Option, Some, None, FitsSigned, w64, refl, sym, ◌∙◌, ap, subst, arith}
use Rattle.std.specs.Prelude.{◌+ℤ◌, filter, if◌then◌else◌, is_some, is_none, option_copied}
use Rattle.std.specs.Int.{from_bool}
use Rattle.std.specs.Borrow.{Bor}
use Rattle.std.specs.Fmt.{signed_decimal}
use Rattle.std.specs.FinMap.{empty, get, insert, entries, contains_key, put, entries-insert, len-entries, len-empty}
use Rattle.std.proofs.lemmas.Cmp.{nat_list_cmp_total}
use Rattle.mr_cmd_shared.specs.Answered.{overflow}
use Rattle.mr_map.specs.Bytes.{Bytes, bytes_cmp}
use Rattle.mr_bytes.proofs.Numbers.{is_i64-fits}
use Rattle.mr_resp.specs.Replies as reply
use Rattle.mr_resp.specs.Replies.{Tree}
use Rattle.mr_effect.specs.declared.effect.Effect.{Effect}
use Rattle.mr_effect.specs.declared.effect.Effect.TheVariants as effect
use Rattle.mr_keyspace.specs.Cuts.{cut}
use Rattle.mr_cmd_hash.specs.Hashes.{Hash, is_value, changed, set_pairs, unchanged, count_reply, hsetnx, number_at, increase_from, hincrby, fields_reply, count_new, hset, removed, hdel}
use Rattle.mr_cmd_hash.specs.declared.hash_ask.FieldsReply.{FieldsReply}
use Rattle.mr_cmd_hash.specs.Commands.{Makes}

no_length : {A : Type 0} (xs : List A) → length xs ≡ 0 → xs ≡ []
no_length [] h = refl
no_length (x ∷ xs) h = absurd (never (length xs) h)
  where
    never : (n : ℕ) → suc n ≡ 0 → ⊥
    never n h = omega (arith, h)

pub one_entry : {X : Type 0} (f : Bytes) (v : X) → entries (insert {R = bytes_cmp} empty f v) ≡ (f, v) ∷ []
one_entry {X} f v = entries-insert nat_list_cmp_total empty f v ∙ ap (put bytes_cmp f v) (no_length (entries empty) (sym (len-entries empty) ∙ len-empty bytes_cmp X))

one_changed : (f v : Bytes) (h : Hash) → changed ((f, v) ∷ []) h ≡ (if is_value v (get h f) then [] else (f, v) ∷ [])
one_changed f v h = ap (filter (λ p. not (is_value p.1 (get h p.0)))) (one_entry f v) ∙ kept (is_value v (get h f))
  where
    kept : (b : Bool) → cond {A = List (Bytes × Bytes)} (not b) ((f, v) ∷ []) [] ≡ (if b then [] else (f, v) ∷ [])
    kept true = refl
    kept false = refl

one_set : (k f v : Bytes) (answer r : Tree) (h : Hash) (o : Option Bytes) (es es2 : List Effect) → o ≡ get h f → r ≡ answer → es2 ≡ es ++ map (effect.SetFields k) (cut (if is_value v o then [] else (f, v) ∷ [])) → Makes (set_pairs k answer ((f, v) ∷ []) h) r es es2
one_set k f v answer r h o es es2 is replied put = record {
  reply_is = replied;
  effects_are = put ∙ ap (λ ps. es ++ map (effect.SetFields k) (cut ps)) (ap (λ x. if is_value v x then [] else (f, v) ∷ []) is ∙ sym (one_changed f v h));
}

absent : {X : Type 0} (o : Option X) → is_some o ≡ false → None ≡ o
absent None h = refl
absent (Some x) h = cc

-- HSETNX of a field that isn't there
pub new_set : (k f v : Bytes) (r : Tree) (h : Hash) (es es2 : List Effect) → contains_key h f ≡ false → r ≡ count_reply 1 → es2 ≡ es ++ map (effect.SetFields k) (cut ((f, v) ∷ [])) → Makes (hsetnx k f v h) r es es2
new_set k f v r h es es2 there replied put =
    subst (λ (b : Bool). Makes (if b then unchanged (count_reply 0) h else set_pairs k (count_reply 1) ((f, v) ∷ []) h) r es es2) (sym there)
    (one_set k f v (count_reply 1) r h None es es2 (absent (get h f) there) replied put)

-- HINCRBY of a number whose sum fits
pub sum_set : (k f : Bytes) (by n sum : ℤ) (text : Bytes) (r : Tree) (h : Hash) (o : Option Bytes) (es es2 : List Effect) → o ≡ get h f → number_at o ≡ Some n → FitsSigned w64 (n +ℤ by) → sum ≡ n +ℤ by → text ≡ signed_decimal sum → r ≡ reply.int sum → es2 ≡ es ++ map (effect.SetFields k) (cut (if is_value text o then [] else (f, text) ∷ [])) → Makes (hincrby k f by h) r es es2
sum_set k f by n sum text r h o es es2 is number fits total spelled replied put =
    subst (λ (x : Option ℤ). Makes (increase_from k f by x h) r es es2) (sym number ∙ ap number_at is)
    (subst (λ (b : Bool). Makes (if b then set_pairs k (reply.int (n +ℤ by)) ((f, signed_decimal (n +ℤ by)) ∷ []) h else unchanged overflow h) r es es2) (sym (is_i64-fits (n +ℤ by) fits))
    (one_set k f (signed_decimal (n +ℤ by)) (reply.int (n +ℤ by)) r h o es es2 is (replied ∙ ap reply.int total)
    (put ∙ ap (λ (x : Bytes). es ++ map (effect.SetFields k) (cut (if is_value x o then [] else (f, x) ∷ []))) (spelled ∙ ap signed_decimal total))))

-- HSET of one field
one_new : (f v : Bytes) (h : Hash) → count_new ((f, v) ∷ []) h ≡ cond (is_some (get h f)) 0 1
one_new f v h = ap (λ es. length (filter (λ p. not (contains_key h p.0)) es)) (one_entry f v) ∙ kept (contains_key h f)
  where
    kept : (b : Bool) → length (cond {A = List (Bytes × Bytes)} (not b) ((f, v) ∷ []) []) ≡ cond b 0 1
    kept true = refl
    kept false = refl

none_counted : {X : Type 0} (o : Option (Bor X)) → from_bool (is_none o) ≡ cond (is_some (option_copied o)) 0 1
none_counted None = refl
none_counted (Some x) = refl

pub field_set : (k f v : Bytes) (answer : FieldsReply) (n : ℕ) (r : Tree) (h : Hash) (o : Option (Bor Bytes)) (es es2 : List Effect) → option_copied o ≡ get h f → n ≡ from_bool (is_none o) → r ≡ fields_reply answer n → es2 ≡ es ++ map (effect.SetFields k) (cut (if is_value v (option_copied o) then [] else (f, v) ∷ [])) → Makes (hset k answer ((f, v) ∷ []) h) r es es2
field_set k f v answer n r h o es es2 is new replied put =
    one_set k f v (fields_reply answer (count_new ((f, v) ∷ []) h)) r h (option_copied o) es es2 is
    (replied ∙ ap (fields_reply answer) (new ∙ none_counted o ∙ ap (λ (x : Option Bytes). cond (is_some x) 0 1) is ∙ sym (one_new f v h))) put

-- HDEL of one field
one_removed : (f : Bytes) (h : Hash) → removed (f ∷ []) h ≡ (if contains_key h f then f ∷ [] else [])
one_removed f h = ap (λ es. filter (contains_key h) (map (λ e. e.0) es)) (one_entry {X = Unit {0}} f tt)

pub field_removed : (k f : Bytes) (there : Bool) (n : ℕ) (r : Tree) (h : Hash) (es es2 : List Effect) → there ≡ contains_key h f → n ≡ from_bool there → r ≡ count_reply n → es2 ≡ es ++ map (effect.RemoveFields k) (cut (if there then f ∷ [] else [])) → Makes (hdel k (f ∷ []) h) r es es2
field_removed k f there n r h es es2 is counted replied put =
    let is_removed : (if there then f ∷ [] else []) ≡ removed (f ∷ []) h = ap (λ b. if b then f ∷ [] else []) is ∙ sym (one_removed f h) in
    record {
      reply_is = replied ∙ ap count_reply (counted ∙ one_counted there) ∙ ap (λ (fs : List Bytes). count_reply (length fs)) is_removed;
      effects_are = put ∙ ap (λ (fs : List Bytes). es ++ map (effect.RemoveFields k) (cut fs)) is_removed;
    }
  where
    one_counted : (b : Bool) → from_bool b ≡ length (if b then f ∷ [] else [])
    one_counted true = refl
    one_counted false = refl
