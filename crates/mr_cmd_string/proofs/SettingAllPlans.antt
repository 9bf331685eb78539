-- The plans of commands that set texts at several keys.
use Rattle.std.proofs.Common.{ℤ, pos, ◌≡◌, List, [], ◌∷◌, ◌++◌, append_assoc, Bool, true, false, not, cond, Option, Some, None, refl, sym, ◌∙◌, ap}
use Rattle.std.specs.Prelude.{◌||◌, filter, is_some, if◌then◌else◌}
use Rattle.std.specs.List.{AllByRecursion, list_any}
use Rattle.std.specs.FinMap.{empty, get, insert, entries, find, get-entries, get-empty, get-insert}
use Rattle.std.proofs.lemmas.Cmp.{nat_list_cmp_total}
use Rattle.std.proofs.lemmas.List.{append-nil}
use Rattle.mr_map.specs.Bytes.{Bytes, ByteMap, bytes_cmp}
use Rattle.mr_resp.specs.Replies as reply
use Rattle.mr_resp.specs.Replies.{Tree}
use Rattle.mr_effect.specs.declared.effect.Effect.{Effect}
use Rattle.mr_keyspace.specs.Dataset.{Dataset}
use Rattle.mr_data.specs.Dataset.{live, seen}
use Rattle.mr_keyspace.specs.Collections.{with_fields, last_values}
use Rattle.mr_keyspace.specs.declared.value.Entry.{Entry}
use Rattle.mr_data.proofs.Seeing.{get-seen}
use Rattle.mr_data.proofs.Entries.{all_map, own_entries}
use Rattle.mr_cmd_shared.specs.Taken.{is_key, has}
use Rattle.mr_cmd_shared.specs.Keys.{chosen, dels, is_stored, expired, purged}
use Rattle.mr_cmd_shared.specs.Answered.{done}
use Rattle.mr_cmd_shared.specs.Outcomes.{answered}
use Rattle.mr_cmd_shared.specs.Commands.{Plans, on_keys}
use Rattle.mr_keyspace.proofs.Maps.{same_key}
use Rattle.mr_keyspace.proofs.Puts.{is_key_itself}
use Rattle.mr_cmd_shared.proofs.KeyLists.{chosen_alike, get_purged}
use Rattle.mr_cmd_string.specs.Setting.{is_plain}
use Rattle.mr_cmd_string.specs.SettingAll.{names, changed, set_effects, put_all, mset, is_any_there, msetnx}
use Rattle.mr_cmd_string.specs.Finding.{is_any_live, is_any_expired, changed_at}

abbrev Pair : Type 0
Pair = Bytes × Bytes

left : (a b : Bool) → (a || b) ≡ false → a ≡ false
left true b h = cc
left false b h = refl

right : (a b : Bool) → (a || b) ≡ false → b ≡ false
right true b h = cc
right false b h = h

neither : (a b : Bool) → a ≡ false → b ≡ false → (a || b) ≡ false
neither true b h i = cc
neither false b h i = i

either : (a b : Bool) → b ≡ true → (a || b) ≡ true
either true b h = refl
either false b h = h

-- ---- the keys of the last texts are those that are named
not_named : (ps : List Pair) (h : ByteMap Bytes) (q : Bytes) → has (names ps) q ≡ false → get (with_fields ps h) q ≡ get h q
not_named [] h q other = refl
not_named (p ∷ ps) h q other =
    not_named ps (insert h p.0 p.1) q (right (is_key q p.0) _ other)
    ∙ get-insert nat_list_cmp_total h p.0 p.1 q
    ∙ ap (λ b. cond b (Some p.1) (get h q)) (left (is_key q p.0) _ other)

named : (ps : List Pair) (q v : Bytes) → get (last_values ps) q ≡ Some v → has (names ps) q ≡ true
named ps q v is = elim (has (names ps) q) as (λ b. has (names ps) q ≡ b → b ≡ true) [
  | true ↦ λ t. refl
  | false ↦ λ other. let wrong : None ≡ Some v = sym (not_named ps empty q other ∙ get-empty bytes_cmp q) ∙ is in cc
] refl

not_there : (b : Bool) (v : Bytes) (o : Option Bytes) → cond b (Some v) o ≡ None → (b ≡ false) × (o ≡ None)
not_there true v o h = cc
not_there false v o h = (refl, h)

absent : (ps : List Pair) (h : ByteMap Bytes) (q : Bytes) → get (with_fields ps h) q ≡ None → (get h q ≡ None) × (has (names ps) q ≡ false)
absent [] h q none = (none, refl)
absent (p ∷ ps) h q none =
    let later = absent ps (insert h p.0 p.1) q none in
    let here = not_there (is_key q p.0) p.1 (get h q) (sym (get-insert nat_list_cmp_total h p.0 p.1 q) ∙ later.0) in
    (here.1, neither _ _ here.0 later.1)

-- ---- no key is expired
never : (ks : List Bytes) (m : Dataset) → chosen (λ o. false) ks m ≡ []
never [] m = refl
never (k ∷ ks) m = never ks m

none_expired : (now : ℤ) (ks : List Bytes) (m : Dataset) → ((q : Bytes) → has ks q ≡ true → is_stored now true (get m q) ≡ false) → expired now ks m ≡ []
none_expired now ks m h = chosen_alike (is_stored now true) (λ o. false) ks m m refl h ∙ never ks m

no_dels : (now : ℤ) (ks : List Bytes) (m : Dataset) (es : List Effect) → ((q : Bytes) → has ks q ≡ true → is_stored now true (get m q) ≡ false) → es ≡ es ++ dels (expired now ks m)
no_dels now ks m es h = sym (ap (λ xs. es ++ dels xs) (none_expired now ks m h) ∙ append-nil es)

-- of the keys that pairs name
named_not_expired : (now : ℤ) (m : Dataset) (ps : List Pair) → is_any_expired now ps m ≡ false → (q : Bytes) → has (names ps) q ≡ true → is_stored now true (get m q) ≡ false
named_not_expired now m [] h q is = cc
named_not_expired now m (p ∷ ps) h q is = elim (is_key q p.0) as (λ b. is_key q p.0 ≡ b → (b || has (names ps) q) ≡ true → is_stored now true (get m q) ≡ false) [
  | true ↦ λ t i. ap (λ k. is_stored now true (get m k)) (same_key q p.0 t) ∙ left _ _ h
  | false ↦ λ t i. named_not_expired now m ps (right (is_stored now true (get m p.0)) _ h) q i
] refl is

pub none_of_pairs : (now : ℤ) (m : Dataset) (ps : List Pair) (es : List Effect) → is_any_expired now ps m ≡ false → es ≡ es ++ dels (expired now (names ps) m)
none_of_pairs now m ps es h = no_dels now (names ps) m es (named_not_expired now m ps h)

-- .. and of those that have a last text
found_not_expired : (now : ℤ) (m : Dataset) (es : List Pair) (q v : Bytes) → find bytes_cmp q es ≡ Some v → is_any_expired now es m ≡ false → is_stored now true (get m q) ≡ false
found_not_expired now m [] q v is h = cc
found_not_expired now m (e ∷ es) q v is h = elim (is_key q e.0) as (λ b. is_key q e.0 ≡ b → cond b (Some e.1) (find bytes_cmp q es) ≡ Some v → is_stored now true (get m q) ≡ false) [
  | true ↦ λ t i. ap (λ k. is_stored now true (get m k)) (same_key q e.0 t) ∙ left _ _ h
  | false ↦ λ t i. found_not_expired now m es q v i (right (is_stored now true (get m e.0)) _ h)
] refl is

last_not_expired : (now : ℤ) (m : Dataset) (ps : List Pair) → is_any_expired now (entries (last_values ps)) m ≡ false → (q : Bytes) → has (names ps) q ≡ true → is_stored now true (get m q) ≡ false
last_not_expired now m ps h q is = elim (get (last_values ps) q) as (λ o. get (last_values ps) q ≡ o → is_stored now true (get m q) ≡ false) [
  | None ↦ λ none. let wrong : true ≡ false = sym is ∙ (absent ps empty q none).1 in cc
  | Some v ↦ λ there. found_not_expired now m (entries (last_values ps)) q v (sym (get-entries (last_values ps) q) ∙ there) h
] refl

pub none_of_texts : (now : ℤ) (m : Dataset) (ps : List Pair) (es : List Effect) → is_any_expired now (entries (last_values ps)) m ≡ false → es ≡ es ++ dels (expired now (names ps) m)
none_of_texts now m ps es h = no_dels now (names ps) m es (last_not_expired now m ps h)

-- ---- what is there once expired keys are deleted
kept : (now : ℤ) (m : Dataset) (ks : List Bytes) (q : Bytes) → has ks q ≡ true → get (purged now ks m) q ≡ live now (get m q)
kept now m ks q is = get_purged now ks m q ∙ ap (λ b. cond b (live now (get m q)) (get m q)) is

filter_alike : (p q : Pair → Bool) (xs : List Pair) → AllByRecursion (λ (x : Pair). p x ≡ q x) xs → filter p xs ≡ filter q xs
filter_alike p q [] a = refl
filter_alike p q (x ∷ xs) a = ap (λ b. cond b (x ∷ filter p xs) (filter p xs)) a.0 ∙ ap (λ ys. cond (q x) (x ∷ ys) ys) (filter_alike p q xs a.1)

changed_purged : (now : ℤ) (m : Dataset) (ps : List Pair) → changed_at now (entries (last_values ps)) m ≡ changed ps (purged now (names ps) m)
changed_purged now m ps = filter_alike _ _ (entries (last_values ps)) (all_map _ _ (λ x is. ap (λ o. not (is_plain x.1 o)) (sym (kept now m (names ps) x.0 (named ps x.0 x.1 is)))) (entries (last_values ps)) (own_entries (last_values ps)))

-- effects behind those that were there and the DELs
behind : (ks : List Bytes) (now : ℤ) (m : Dataset) (old looked own : List Effect) → looked ≡ old ++ dels (expired now ks m) → looked ++ own ≡ old ++ (dels (expired now ks m) ++ own)
behind ks now m old looked own look = ap (λ es. es ++ own) look ∙ append_assoc old (dels (expired now ks m)) own

-- MSET
pub mset_plans : (ps : List Pair) (now : ℤ) (m : Dataset) (r : Tree) (old looked new : List Effect) → looked ≡ old ++ dels (expired now (names ps) m) → r ≡ done → new ≡ looked ++ set_effects (changed_at now (entries (last_values ps)) m) → Plans (on_keys (names ps) (mset ps)) now m r old new
mset_plans ps now m r old looked new look replied put = record {
  reply_is = replied;
  effects_are = put ∙ behind (names ps) now m old looked (set_effects (changed_at now (entries (last_values ps)) m)) look
      ∙ ap (λ xs. old ++ (dels (expired now (names ps) m) ++ set_effects xs)) (changed_purged now m ps);
}

-- ---- MSETNX
any_alike : (p q : Pair → Bool) (xs : List Pair) → AllByRecursion (λ (x : Pair). p x ≡ q x) xs → list_any p xs ≡ list_any q xs
any_alike p q [] a = refl
any_alike p q (x ∷ xs) a = ap (λ b. b || list_any p xs) a.0 ∙ ap (λ b. q x || b) (any_alike p q xs a.1)

all_of : (P : Pair → Type 0) → ((x : Pair) → P x) → (xs : List Pair) → AllByRecursion P xs
all_of P f [] = tt
all_of P f (x ∷ xs) = (f x, all_of P f xs)

all_named : (ks : List Bytes) (xs : List Pair) → ((q : Bytes) → has (names xs) q ≡ true → has ks q ≡ true) → AllByRecursion (λ (x : Pair). has ks x.0 ≡ true) xs
all_named ks [] up = tt
all_named ks (x ∷ xs) up = (up x.0 (ap (λ b. b || has (names xs) x.0) (is_key_itself x.0)), all_named ks xs (λ q h. up q (either _ _ h)))

live_seen : (now : ℤ) (m : Dataset) (ps : List Pair) → is_any_live now ps m ≡ is_any_there ps (seen now m)
live_seen now m ps = any_alike _ _ ps (all_of _ (λ x. ap is_some (sym (get-seen now m x.0))) ps)

live_purged : (now : ℤ) (m : Dataset) (ps : List Pair) → is_any_live now ps m ≡ is_any_there ps (purged now (names ps) m)
live_purged now m ps = any_alike _ _ ps (all_map _ _ (λ x is. ap is_some (sym (kept now m (names ps) x.0 is))) ps (all_named (names ps) ps (λ q h. h)))

-- no key is there, so all texts are new
no_entry : (o : Option Entry) → is_some o ≡ false → o ≡ None
no_entry None h = refl
no_entry (Some e) h = cc

named_not_there : (now : ℤ) (m : Dataset) (ps : List Pair) → is_any_live now ps m ≡ false → (q : Bytes) → has (names ps) q ≡ true → live now (get m q) ≡ None
named_not_there now m [] h q is = cc
named_not_there now m (p ∷ ps) h q is = elim (is_key q p.0) as (λ b. is_key q p.0 ≡ b → (b || has (names ps) q) ≡ true → live now (get m q) ≡ None) [
  | true ↦ λ t i. ap (λ k. live now (get m k)) (same_key q p.0 t) ∙ no_entry _ (left _ _ h)
  | false ↦ λ t i. named_not_there now m ps (right (is_some (live now (get m p.0))) _ h) q i
] refl is

filter_whole : (p : Pair → Bool) (xs : List Pair) → AllByRecursion (λ (x : Pair). p x ≡ true) xs → filter p xs ≡ xs
filter_whole p [] a = refl
filter_whole p (x ∷ xs) a = ap (λ b. cond b (x ∷ filter p xs) (filter p xs)) a.0 ∙ ap (λ ys. x ∷ ys) (filter_whole p xs a.1)

all_changed : (now : ℤ) (m : Dataset) (ps : List Pair) → is_any_live now ps m ≡ false → entries (last_values ps) ≡ changed ps (purged now (names ps) m)
all_changed now m ps h = sym (filter_whole _ (entries (last_values ps)) (all_map _ _ (λ x is. let here = named ps x.0 x.1 is in ap (λ o. not (is_plain x.1 o)) (kept now m (names ps) x.0 here ∙ named_not_there now m ps h x.0 here)) (entries (last_values ps)) (own_entries (last_values ps))))

module _ (ps : List Pair) (now : ℤ) (m : Dataset) (r : Tree) (old looked : List Effect) (look : looked ≡ old ++ dels (expired now (names ps) m)) where
  pub some_there : is_any_live now ps m ≡ true → r ≡ reply.int (pos 0) → Plans (on_keys (names ps) (msetnx ps)) now m r old looked
  some_there there replied = record {
    reply_is = replied ∙ ap (λ b. (if b then answered (reply.int (pos 0)) (seen now m) else put_all (reply.int (pos 1)) ps (seen now m)).reply) (sym there ∙ live_seen now m ps);
    effects_are = look ∙ ap (λ es. old ++ es) (sym (append-nil _)
        ∙ ap (λ b. dels (expired now (names ps) m) ++ (if b then answered (reply.int (pos 0)) (purged now (names ps) m) else put_all (reply.int (pos 1)) ps (purged now (names ps) m)).effects) (sym there ∙ live_purged now m ps));
  }

  pub none_there : (new : List Effect) → is_any_live now ps m ≡ false → r ≡ reply.int (pos 1) → new ≡ looked ++ set_effects (entries (last_values ps)) → Plans (on_keys (names ps) (msetnx ps)) now m r old new
  none_there new there replied put = record {
    reply_is = replied ∙ ap (λ b. (if b then answered (reply.int (pos 0)) (seen now m) else put_all (reply.int (pos 1)) ps (seen now m)).reply) (sym there ∙ live_seen now m ps);
    effects_are = put ∙ behind (names ps) now m old looked (set_effects (entries (last_values ps))) look
        ∙ ap (λ es. old ++ es) (ap (λ xs. dels (expired now (names ps) m) ++ set_effects xs) (all_changed now m ps there)
        ∙ ap (λ b. dels (expired now (names ps) m) ++ (if b then answered (reply.int (pos 0)) (purged now (names ps) m) else put_all (reply.int (pos 1)) ps (purged now (names ps) m)).effects) (sym there ∙ live_purged now m ps));
  }
