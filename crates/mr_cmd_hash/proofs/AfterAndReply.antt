-- What commands on hashes tell of what others left.
use Rattle.std.proofs.Common.{ℕ, zero, suc, ◌+ℤ◌, ◌≡◌, ◌<◌, ◌+◌, ◌-◌, List, [], ◌∷◌, ◌++◌, length, map, Bool, true, false, not, cond, Some, None, refl, sym, ◌∙◌, ap, arith}
use Rattle.std.specs.Prelude.{filter, is_some, if◌then◌else◌}
use Rattle.std.specs.Fmt.{signed_decimal}
use Rattle.std.specs.List.{AllByRecursion}
use Rattle.std.specs.FinMap.{empty, get, insert, remove, len, entries, keys, contains_key, empty_of_len, get-empty, get-insert, get-remove, len-insert, len-remove}
use Rattle.std.proofs.lemmas.Cmp.{nat_list_cmp_total}
use Rattle.mr_data.proofs.Entries.{AreApart, entries_apart}
use Rattle.mr_map.specs.Bytes.{Bytes, bytes_cmp}
use Rattle.mr_bytes.specs.Number.{is_i64}
use Rattle.mr_resp.specs.Replies as reply
use Rattle.mr_resp.specs.ReplyView.{trees_of}
use Rattle.mr_keyspace.specs.Collections.{with_fields, without_fields, with_members}
use Rattle.mr_keyspace.proofs.Maps.{got}
use Rattle.mr_cmd_shared.specs.Taken.{is_key}
use Rattle.mr_cmd_shared.specs.Answered.{overflow}
use Rattle.mr_cmd_hash.specs.Hashes.{Hash, count_reply, value_reply, hget, last_values, count_new, set_pairs, unchanged, number_at, increase_from, removed}
use Rattle.mr_cmd_hash.specs.Laws.{SetCountsNewFields, SetIsRead, RemoveCountsFields, IncreaseIsRead, HMGetIsHGetOfEach}
use Rattle.mr_cmd_hash.proofs.Fields.{Pair, with_entries}
use Rattle.mr_cmd_hash.proofs.Removed.{NamesApart, names_apart, with_names}

-- ---- HSET
fresh : Hash → List Pair → List Pair
fresh h es = filter (λ p. not (contains_key h p.0)) es

still_fresh : (h : Hash) (e : Pair) (es : List Pair) → AllByRecursion (λ (x : Pair). is_key x.0 e.0 ≡ false) es → fresh (insert h e.0 e.1) es ≡ fresh h es
unfolding fresh
still_fresh h e [] a = refl
still_fresh h e (x ∷ xs) a =
    ap (λ b. cond (not b) (x ∷ fresh (insert h e.0 e.1) xs) (fresh (insert h e.0 e.1) xs)) (ap is_some (get-insert nat_list_cmp_total h e.0 e.1 x.0 ∙ ap (λ b. cond b (Some e.1) (get h x.0)) a.0))
    ∙ ap (λ ys. cond (not (contains_key h x.0)) (x ∷ ys) ys) (still_fresh h e xs a.1)

-- a hash grows by the fields that it does not have
grown : (es : List Pair) (h : Hash) → AreApart es → len (with_fields es h) ≡ len h + length (fresh h es)
unfolding fresh
grown [] h a = omega arith
grown (e ∷ es) h a =
    grown es (insert h e.0 e.1) a.1
    ∙ ap (λ n. n + length (fresh (insert h e.0 e.1) es)) (len-insert nat_list_cmp_total h e.0 e.1)
    ∙ ap (λ ys. cond (contains_key h e.0) (len h) (len h + 1) + length ys) (still_fresh h e es a.0)
    ∙ one_more (contains_key h e.0) (len h) (fresh h es)
  where
    one_more : (b : Bool) (n : ℕ) (ys : List Pair) → cond b n (n + 1) + length ys ≡ n + length (cond (not b) (e ∷ ys) ys)
    one_more true n ys = refl
    one_more false n ys = omega arith

all_new : (pairs : List Pair) (h : Hash) → len (with_fields pairs h) ≡ len h + count_new pairs h
unfolding fresh
all_new pairs h = ap len (sym (with_entries pairs h)) ∙ grown (entries (last_values pairs)) h (entries_apart (last_values pairs))

same_count : (a b c n : ℕ) → c ≡ a + b → a + n ≡ c → b ≡ n
same_count a b c n h i = omega (arith, h, i)

pub set_counts : SetCountsNewFields
set_counts k pairs h n is = ap count_reply (same_count (len h) (count_new pairs h) (len (with_fields pairs h)) n (all_new pairs h) is)

with_last : (pairs : List Pair) (f v : Bytes) (h : Hash) → with_fields (pairs ++ (f, v) ∷ []) h ≡ insert (with_fields pairs h) f v
with_last [] f v h = refl
with_last (p ∷ ps) f v h = with_last ps f v (insert h p.0 p.1)

pub set_read : SetIsRead
set_read k answer pairs f v h = ap (λ (m : Hash). value_reply (get m f)) (with_last pairs f v h) ∙ ap value_reply (got (with_fields pairs h) f v)

-- ---- HDEL
there_are : Hash → List Bytes → List Bytes
there_are h es = filter (contains_key h) es

still_there : (h : Hash) (e : Bytes) (es : List Bytes) → AllByRecursion (λ (x : Bytes). is_key x e ≡ false) es → there_are (remove h e) es ≡ there_are h es
unfolding there_are
still_there h e [] a = refl
still_there h e (x ∷ xs) a =
    ap (λ b. cond b (x ∷ there_are (remove h e) xs) (there_are (remove h e) xs)) (ap is_some (get-remove nat_list_cmp_total h e x ∙ ap (λ b. cond b None (get h x)) a.0))
    ∙ ap (λ ys. cond (contains_key h x) (x ∷ ys) ys) (still_there h e xs a.1)

some_field : (h : Hash) (f : Bytes) → contains_key h f ≡ true → 0 < len h
some_field h f t =
    elim (len h) as (λ n. len h ≡ n → 0 < n) [
      | zero ↦ λ e. let wrong : false ≡ true = sym (ap is_some (ap (λ (m : Hash). get m f) (empty_of_len h e) ∙ get-empty bytes_cmp f)) ∙ t in cc
      | suc n ↦ λ e. omega arith
    ] refl

-- a hash shrinks by the fields that it has
shrunk : (es : List Bytes) (h : Hash) → NamesApart es → len (without_fields es h) + length (there_are h es) ≡ len h
unfolding there_are
shrunk [] h a = omega arith
shrunk (e ∷ es) h a = elim (contains_key h e) as (λ b. contains_key h e ≡ b → len (without_fields es (remove h e)) + length (cond b (e ∷ there_are h es) (there_are h es)) ≡ len h) [
  | true ↦ λ t.
      let less : len (remove h e) ≡ len h - 1 = len-remove nat_list_cmp_total h e ∙ ap (λ b. cond b (len h - 1) (len h)) t in
      let same : length (there_are (remove h e) es) ≡ length (there_are h es) = ap length (still_there h e es a.0) in
      let rest : len (without_fields es (remove h e)) + length (there_are (remove h e) es) ≡ len (remove h e) = shrunk es (remove h e) a.1 in
      omega (arith, some_field h e t, less, same, rest)
  | false ↦ λ t.
      let less : len (remove h e) ≡ len h = len-remove nat_list_cmp_total h e ∙ ap (λ b. cond b (len h - 1) (len h)) t in
      let same : length (there_are (remove h e) es) ≡ length (there_are h es) = ap length (still_there h e es a.0) in
      let rest : len (without_fields es (remove h e)) + length (there_are (remove h e) es) ≡ len (remove h e) = shrunk es (remove h e) a.1 in
      omega (arith, less, same, rest)
] refl

all_removed : (fs : List Bytes) (h : Hash) → len (without_fields fs h) + length (removed fs h) ≡ len h
unfolding there_are
all_removed fs h = ap (λ (m : Hash). len m + length (removed fs h)) (with_names fs h) ∙ shrunk (keys (with_members fs empty)) h (names_apart (with_members fs empty))

pub remove_counts : RemoveCountsFields
remove_counts k fs h n is = ap count_reply (same_count (len (without_fields fs h)) (length (removed fs h)) (len h) n (sym (all_removed fs h)) is)

-- ---- HINCRBY
pub increase_read : IncreaseIsRead
increase_read k f by n h =
    elim (number_at (get h f)) as (λ o. (increase_from k f by o h).reply ≡ reply.int n → (hget f (increase_from k f by o h).value).reply ≡ reply.bytes (signed_decimal n)) [
      | None ↦ λ e. cc
      | Some a ↦ elim (is_i64 (a +ℤ by)) as (λ b.
          (if b then set_pairs k (reply.int (a +ℤ by)) ((f, signed_decimal (a +ℤ by)) ∷ []) h else unchanged overflow h).reply ≡ reply.int n
          → (hget f (if b then set_pairs k (reply.int (a +ℤ by)) ((f, signed_decimal (a +ℤ by)) ∷ []) h else unchanged overflow h).value).reply ≡ reply.bytes (signed_decimal n)) [
            | true ↦ λ e. let same : a +ℤ by ≡ n = cc in ap value_reply (got h f (signed_decimal (a +ℤ by))) ∙ ap (λ z. reply.bytes (signed_decimal z)) same
            | false ↦ λ e. cc
          ]
    ]

-- ---- HMGET
each_value : (fs : List Bytes) (h : Hash) → map value_reply (map (get h) fs) ≡ map (λ f. value_reply (get h f)) fs
each_value [] h = refl
each_value (f ∷ fs) h = ap (λ ts. value_reply (get h f) ∷ ts) (each_value fs h)

pub each_got : HMGetIsHGetOfEach
each_got fs h = ap (λ ts. reply.array (trees_of ts)) (each_value fs h)
