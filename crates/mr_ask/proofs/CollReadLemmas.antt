-- Words that spell a command on a collection, or to the server, are read as it.
use Rattle.std.proofs.Common.{ℕ, pos, ◌≡◌, List, [], ◌∷◌, map, Bool, Some, None, inl, inr, refl, sym, ◌∙◌, ap, subst}
use Rattle.std.specs.Prelude.{if◌then◌else◌, Result, Ok, Err}
use Rattle.std.specs.Fmt.{signed_decimal}
use Rattle.std.specs.Option.{ok_or}
use Rattle.std.specs.Str.{bytes_eq}
use Rattle.mr_bytes.specs.declared.ends.End.{End}
use Rattle.mr_bytes.specs.declared.ends.End.TheVariants.{Left, Right}
use Rattle.mr_bytes.specs.declared.ends.Side.{Side}
use Rattle.mr_bytes.specs.declared.ends.Side.TheVariants.{Before, After}
use Rattle.mr_bytes.proofs.Numbers.{number_of-signed_decimal}
use Rattle.mr_arguments.specs.Parts.{with, count}
use Rattle.mr_arguments.specs.Spelling.{Word, Number, Keyword, ScoreBound, IsPart, AreParts}
use Rattle.mr_arguments.proofs.ReadLemmas.{four_parts, keyword_is, literals, one_part, pairs_itself, three_parts, two_parts, words_are}
use Rattle.mr_arguments.specs.declared.name.Name.{Name}
use Rattle.mr_arguments.specs.declared.name.Name.TheVariants as name
use Rattle.mr_arguments.specs.declared.fault.AskFault.{AskFault}
use Rattle.mr_arguments.specs.declared.fault.AskFault.TheVariants.{Arity, Syntax}
use Rattle.mr_cmd_hash.specs.Called.{hash_name}
use Rattle.mr_cmd_list.specs.Called.{list_name}
use Rattle.mr_cmd_set.specs.Called.{set_name}
use Rattle.mr_cmd_hash.specs.Carried.{hash_words}
use Rattle.mr_cmd_list.specs.Carried.{list_words}
use Rattle.mr_cmd_set.specs.Carried.{set_words}
use Rattle.mr_cmd_list.specs.Parts.{end_of, end_text, side_of, side_text}
use Rattle.mr_cmd_hash.specs.Spelled.{hash_parts}
use Rattle.mr_cmd_list.specs.Spelled.{list_parts}
use Rattle.mr_cmd_set.specs.Spelled.{set_parts}
use Rattle.mr_cmd_hash.specs.declared.hash_ask.FieldsReply.TheVariants.{Added, Done}
use Rattle.mr_cmd_hash.specs.declared.hash_ask.HashPart.TheVariants.{Pairs, Fields, Values}
use Rattle.mr_cmd_hash.specs.declared.hash_ask.HashAsk.{HashAsk}
use Rattle.mr_cmd_hash.specs.declared.hash_ask.HashAsk.TheVariants as hash
use Rattle.mr_cmd_list.specs.declared.list_ask.PushTo.TheVariants.{AnyKey, ExistingKey}
use Rattle.mr_cmd_list.specs.declared.list_ask.ListAsk.{ListAsk}
use Rattle.mr_cmd_list.specs.declared.list_ask.ListAsk.TheVariants as list
use Rattle.mr_cmd_set.specs.declared.set_ask.SetOperation.TheVariants.{Intersection, Union, Difference}
use Rattle.mr_cmd_set.specs.declared.set_ask.SetAsk.{SetAsk}
use Rattle.mr_cmd_set.specs.declared.set_ask.SetAsk.TheVariants as set
use Rattle.mr_cmd_zset.specs.Askable.{ZSetIsAskable}
use Rattle.mr_cmd_zset.specs.Spelled.{ZSetSpells}
use Rattle.mr_cmd_zset.proofs.AddReadLemmas.{zadd_scores, zincrby_read}
use Rattle.mr_cmd_zset.proofs.RangeReadLemmas.{by_score_scores, zrange_ranks, zrange_scores, zrevrange_ranks}
use Rattle.mr_zset_options.specs.declared.choices.Order.TheVariants.{Ascending, Descending}
use Rattle.mr_cmd_zset.specs.declared.zset_ask.ZSetAsk.{ZSetAsk}
use Rattle.mr_cmd_zset.specs.declared.zset_ask.ZSetAsk.TheVariants as zset
use Rattle.mr_cmd_hash.specs.Askable.{HashIsAskable}
use Rattle.mr_cmd_list.specs.Askable.{ListIsAskable}
use Rattle.mr_cmd_set.specs.Askable.{SetIsAskable}
use Rattle.mr_ask.specs.Asks.{of_kind, reading}
use Rattle.mr_cmd_server.specs.Called.{server_name}
use Rattle.mr_cmd_server.specs.Arguments.{saving_text, setinfo, setname}
use Rattle.mr_cmd_server.specs.declared.server_ask.Saving.{Saving}
use Rattle.mr_cmd_server.specs.declared.server_ask.Saving.TheVariants.{First, Never}
use Rattle.mr_cmd_server.specs.Spelled.{server_parts}
use Rattle.mr_cmd_server.specs.declared.server_ask.ServerAsk.{ServerAsk}
use Rattle.mr_cmd_server.specs.declared.server_ask.ServerAsk.TheVariants as server
use Rattle.mr_ask.specs.declared.ask.Ask.TheVariants as ask

-- ---- hashes
-- where all arguments are words
hash_words_read : (ws : List (List ℕ)) (a : HashAsk) → hash_parts a ≡ map Word (hash_words a) → AreParts ws (hash_parts a) → reading (hash_name a) ws ≡ reading (hash_name a) (hash_words a)
hash_words_read ws a e s = ap (reading (hash_name a)) (words_are ws (hash_words a) (subst (AreParts ws) e s))

pub hash_read : (ws : List (List ℕ)) (a : HashAsk) → HashIsAskable a → AreParts ws (hash_parts a) → reading (hash_name a) ws ≡ Ok (ask.Hashes a)
hash_read ws (hash.HSet key [] reply) h s = absurd (h refl)
hash_read ws (hash.HSet key (p ∷ ps) Added) h s =
    hash_words_read ws (hash.HSet key (p ∷ ps) Added) refl s
    ∙ ap (λ o. of_kind ask.Hashes (with (ok_or o (Arity name.HSet)) (λ pairs. Ok (hash.HSet key pairs Added)))) (pairs_itself (p ∷ ps))
hash_read ws (hash.HSet key (p ∷ ps) Done) h s =
    hash_words_read ws (hash.HSet key (p ∷ ps) Done) refl s
    ∙ ap (λ o. of_kind ask.Hashes (with (ok_or o (Arity name.HMSet)) (λ pairs. Ok (hash.HSet key pairs Done)))) (pairs_itself (p ∷ ps))
hash_read ws (hash.HSetNx key field value) h s = hash_words_read ws (hash.HSetNx key field value) refl s
hash_read ws (hash.HGet key field) h s = hash_words_read ws (hash.HGet key field) refl s
hash_read ws (hash.HMGet key []) h s = absurd (h refl)
hash_read ws (hash.HMGet key (f ∷ fs)) h s = hash_words_read ws (hash.HMGet key (f ∷ fs)) refl s
hash_read ws (hash.ListHash key Pairs) h s = hash_words_read ws (hash.ListHash key Pairs) refl s
hash_read ws (hash.ListHash key Fields) h s = hash_words_read ws (hash.ListHash key Fields) refl s
hash_read ws (hash.ListHash key Values) h s = hash_words_read ws (hash.ListHash key Values) refl s
hash_read ws (hash.HDel key []) h s = absurd (h refl)
hash_read ws (hash.HDel key (f ∷ fs)) h s = hash_words_read ws (hash.HDel key (f ∷ fs)) refl s
hash_read ws (hash.HExists key field) h s = hash_words_read ws (hash.HExists key field) refl s
hash_read ws (hash.HLen key) h s = hash_words_read ws (hash.HLen key) refl s
hash_read ws (hash.HStrLen key field) h s = hash_words_read ws (hash.HStrLen key field) refl s
hash_read ws (hash.HIncrBy key field by) h s =
    ap (reading name.HIncrBy) (literals ws (Word key ∷ Word field ∷ Number by ∷ []) refl s) ∙ rw (number_of-signed_decimal by h) refl

-- ---- lists
-- LEFT or RIGHT, BEFORE or AFTER, by the word in lower case
abbrev end_said : List ℕ → Result End AskFault
end_said x = if bytes_eq x (end_text Left) then Ok Left else (if bytes_eq x (end_text Right) then Ok Right else Err Syntax)

end_itself : (e : End) → end_said (end_text e) ≡ Ok e
end_itself Left = refl
end_itself Right = refl

end_is : (w : List ℕ) (e : End) → IsPart w (Keyword (end_text e)) → end_of w ≡ Ok e
end_is w e h = ap end_said h ∙ end_itself e

abbrev side_said : List ℕ → Result Side AskFault
side_said x = if bytes_eq x (side_text Before) then Ok Before else (if bytes_eq x (side_text After) then Ok After else Err Syntax)

side_itself : (e : Side) → side_said (side_text e) ≡ Ok e
side_itself Before = refl
side_itself After = refl

side_is : (w : List ℕ) (e : Side) → IsPart w (Keyword (side_text e)) → side_of w ≡ Ok e
side_is w e h = ap side_said h ∙ side_itself e

list_words_read : (ws : List (List ℕ)) (a : ListAsk) → list_parts a ≡ map Word (list_words a) → AreParts ws (list_parts a) → reading (list_name a) ws ≡ reading (list_name a) (list_words a)
list_words_read ws a e s = ap (reading (list_name a)) (words_are ws (list_words a) (subst (AreParts ws) e s))

insert_read : (k p v : List ℕ) (e : Side) (a b c d : List ℕ) → a ≡ k → IsPart b (Keyword (side_text e)) → c ≡ p → d ≡ v → reading name.LInsert (a ∷ b ∷ c ∷ d ∷ []) ≡ Ok (ask.Lists (list.LInsert k e p v))
insert_read k p v e a b c d ek es ep ev =
    ap (λ x. of_kind ask.Lists (with x (λ side. Ok (list.LInsert a side c d)))) (side_is b e es)
    ∙ ap (λ (x : List ℕ). Ok (ask.Lists (list.LInsert x e c d))) ek
    ∙ ap (λ (x : List ℕ). Ok (ask.Lists (list.LInsert k e x d))) ep
    ∙ ap (λ (x : List ℕ). Ok (ask.Lists (list.LInsert k e p x))) ev

move_read : (from to : List ℕ) (e f : End) (a b c d : List ℕ) → a ≡ from → b ≡ to → IsPart c (Keyword (end_text e)) → IsPart d (Keyword (end_text f)) → reading name.LMove (a ∷ b ∷ c ∷ d ∷ []) ≡ Ok (ask.Lists (list.LMove from to e f))
move_read from to e f a b c d ea eb ec ed =
    ap (λ x. of_kind ask.Lists (with x (λ taken. with (end_of d) (λ put. Ok (list.LMove a b taken put))))) (end_is c e ec)
    ∙ ap (λ x. of_kind ask.Lists (with x (λ put. Ok (list.LMove a b e put)))) (end_is d f ed)
    ∙ ap (λ (x : List ℕ). Ok (ask.Lists (list.LMove x b e f))) ea
    ∙ ap (λ (x : List ℕ). Ok (ask.Lists (list.LMove from x e f))) eb

pub list_read : (ws : List (List ℕ)) (a : ListAsk) → ListIsAskable a → AreParts ws (list_parts a) → reading (list_name a) ws ≡ Ok (ask.Lists a)
list_read ws (list.Push key end to []) h s = absurd (h refl)
list_read ws (list.Push key Left AnyKey (i ∷ is)) h s = list_words_read ws (list.Push key Left AnyKey (i ∷ is)) refl s
list_read ws (list.Push key Right AnyKey (i ∷ is)) h s = list_words_read ws (list.Push key Right AnyKey (i ∷ is)) refl s
list_read ws (list.Push key Left ExistingKey (i ∷ is)) h s = list_words_read ws (list.Push key Left ExistingKey (i ∷ is)) refl s
list_read ws (list.Push key Right ExistingKey (i ∷ is)) h s = list_words_read ws (list.Push key Right ExistingKey (i ∷ is)) refl s
list_read ws (list.Pop key Left None) h s = ap (reading name.LPop) (literals ws (Word key ∷ []) refl s)
list_read ws (list.Pop key Right None) h s = ap (reading name.RPop) (literals ws (Word key ∷ []) refl s)
list_read ws (list.Pop key Left (Some n)) h s = ap (reading name.LPop) (literals ws (Word key ∷ Number (pos n) ∷ []) refl s) ∙ rw (number_of-signed_decimal (pos n) h) refl
list_read ws (list.Pop key Right (Some n)) h s = ap (reading name.RPop) (literals ws (Word key ∷ Number (pos n) ∷ []) refl s) ∙ rw (number_of-signed_decimal (pos n) h) refl
list_read ws (list.LLen key) h s = list_words_read ws (list.LLen key) refl s
list_read ws (list.LRange key first last) h s =
    ap (reading name.LRange) (literals ws (Word key ∷ Number first ∷ Number last ∷ []) refl s) ∙ rw (number_of-signed_decimal first h.0, number_of-signed_decimal last h.1) refl
list_read ws (list.LIndex key index) h s = ap (reading name.LIndex) (literals ws (Word key ∷ Number index ∷ []) refl s) ∙ rw (number_of-signed_decimal index h) refl
list_read ws (list.LSet key index item) h s = ap (reading name.LSet) (literals ws (Word key ∷ Number index ∷ Word item ∷ []) refl s) ∙ rw (number_of-signed_decimal index h) refl
list_read ws (list.LInsert key side pivot item) h s =
    four_parts (λ xs. reading name.LInsert xs ≡ Ok (ask.Lists (list.LInsert key side pivot item))) (Word key) (Keyword (side_text side)) (Word pivot) (Word item) (insert_read key pivot item side) ws s
list_read ws (list.LRem key count item) h s = ap (reading name.LRem) (literals ws (Word key ∷ Number count ∷ Word item ∷ []) refl s) ∙ rw (number_of-signed_decimal count h) refl
list_read ws (list.LTrim key first last) h s =
    ap (reading name.LTrim) (literals ws (Word key ∷ Number first ∷ Number last ∷ []) refl s) ∙ rw (number_of-signed_decimal first h.0, number_of-signed_decimal last h.1) refl
list_read ws (list.LMove from to taken put) h s =
    four_parts (λ xs. reading name.LMove xs ≡ Ok (ask.Lists (list.LMove from to taken put))) (Word from) (Word to) (Keyword (end_text taken)) (Keyword (end_text put)) (move_read from to taken put) ws s
list_read ws (list.RPopLPush from to) h s = list_words_read ws (list.RPopLPush from to) refl s

-- ---- sets
set_words_read : (ws : List (List ℕ)) (a : SetAsk) → set_parts a ≡ map Word (set_words a) → AreParts ws (set_parts a) → reading (set_name a) ws ≡ reading (set_name a) (set_words a)
set_words_read ws a e s = ap (reading (set_name a)) (words_are ws (set_words a) (subst (AreParts ws) e s))

pub set_read : (ws : List (List ℕ)) (a : SetAsk) → SetIsAskable a → AreParts ws (set_parts a) → reading (set_name a) ws ≡ Ok (ask.Sets a)
set_read ws (set.SAdd key []) h s = absurd (h refl)
set_read ws (set.SAdd key (m ∷ ms)) h s = set_words_read ws (set.SAdd key (m ∷ ms)) refl s
set_read ws (set.SRem key []) h s = absurd (h refl)
set_read ws (set.SRem key (m ∷ ms)) h s = set_words_read ws (set.SRem key (m ∷ ms)) refl s
set_read ws (set.SIsMember key member) h s = set_words_read ws (set.SIsMember key member) refl s
set_read ws (set.SMIsMember key []) h s = absurd (h refl)
set_read ws (set.SMIsMember key (m ∷ ms)) h s = set_words_read ws (set.SMIsMember key (m ∷ ms)) refl s
set_read ws (set.SMembers key) h s = set_words_read ws (set.SMembers key) refl s
set_read ws (set.SCard key) h s = set_words_read ws (set.SCard key) refl s
set_read ws (set.SPop key None) h s = ap (reading name.SPop) (literals ws (Word key ∷ []) refl s)
set_read ws (set.SPop key (Some n)) h s = ap (reading name.SPop) (literals ws (Word key ∷ Number (pos n) ∷ []) refl s) ∙ rw (number_of-signed_decimal (pos n) h) refl
set_read ws (set.SRandMember key None) h s = ap (reading name.SRandMember) (literals ws (Word key ∷ []) refl s)
set_read ws (set.SRandMember key (Some n)) h s = ap (reading name.SRandMember) (literals ws (Word key ∷ Number (pos n) ∷ []) refl s) ∙ rw (number_of-signed_decimal (pos n) h) refl
set_read ws (set.SMove from to member) h s = set_words_read ws (set.SMove from to member) refl s
set_read ws (set.Combine operation []) h s = absurd (h refl)
set_read ws (set.Combine Intersection (k ∷ ks)) h s = set_words_read ws (set.Combine Intersection (k ∷ ks)) refl s
set_read ws (set.Combine Union (k ∷ ks)) h s = set_words_read ws (set.Combine Union (k ∷ ks)) refl s
set_read ws (set.Combine Difference (k ∷ ks)) h s = set_words_read ws (set.Combine Difference (k ∷ ks)) refl s

-- ---- sorted sets
pub zset_read : (n : Name) (ws : List (List ℕ)) (a : ZSetAsk) → ZSetIsAskable a → ZSetSpells n ws a → reading n ws ≡ Ok (ask.SortedSets a)
zset_read n ws (zset.ZAdd key c d r pairs) h s = ap (λ x. reading x ws) s.0 ∙ ap (of_kind ask.SortedSets) (zadd_scores key c d r pairs ws h.0 h.1 s.1)
zset_read n ws (zset.ZIncrBy key by member) h s = ap (λ x. reading x ws) s.0 ∙ ap (of_kind ask.SortedSets) (zincrby_read key member by ws s.1)
zset_read n ws (zset.ZRem key []) h s = absurd (h refl)
zset_read n ws (zset.ZRem key (m ∷ ms)) h s = ap (λ x. reading x ws) s.0 ∙ ap (reading name.ZRem) (words_are ws (key ∷ m ∷ ms) s.1)
zset_read n ws (zset.ZCard key) h s = ap (λ x. reading x ws) s.0 ∙ ap (reading name.ZCard) (words_are ws (key ∷ []) s.1)
zset_read n ws (zset.ZCount key min max) h s =
    ap (λ x. reading x ws) s.0
    ∙ three_parts (λ xs. reading name.ZCount xs ≡ Ok (ask.SortedSets (zset.ZCount key min max))) (Word key) (ScoreBound min) (ScoreBound max)
    (λ a b c ek eb ec. rw (ek, eb, ec) refl) ws s.1
zset_read n ws (zset.ZScore key member) h s = ap (λ x. reading x ws) s.0 ∙ ap (reading name.ZScore) (words_are ws (key ∷ member ∷ []) s.1)
zset_read n ws (zset.ZMScore key []) h s = absurd (h refl)
zset_read n ws (zset.ZMScore key (m ∷ ms)) h s = ap (λ x. reading x ws) s.0 ∙ ap (reading name.ZMScore) (words_are ws (key ∷ m ∷ ms) s.1)
zset_read n ws (zset.GetRank key member Ascending) h s = ap (λ x. reading x ws) s.0 ∙ ap (reading name.ZRank) (words_are ws (key ∷ member ∷ []) s.1)
zset_read n ws (zset.GetRank key member Descending) h s = ap (λ x. reading x ws) s.0 ∙ ap (reading name.ZRevRank) (words_are ws (key ∷ member ∷ []) s.1)
zset_read n ws (zset.RangeByRank key first last order r) h (inl s) = ap (λ x. reading x ws) s.0 ∙ ap (of_kind ask.SortedSets) (zrange_ranks key first last order r ws h.0 h.1 s.1)
zset_read n ws (zset.RangeByRank key first last order r) h (inr s) =
    ap (λ x. reading x ws) s.0
    ∙ ap (of_kind ask.SortedSets) (zrevrange_ranks key first last r ws h.0 h.1 s.2)
    ∙ ap (λ o. Ok (ask.SortedSets (zset.RangeByRank key first last o r))) (sym s.1)
zset_read n ws (zset.RangeByScore key min max order l r) h (inl s) = ap (λ x. reading x ws) s.0 ∙ ap (of_kind ask.SortedSets) (zrange_scores key min max order l r ws h s.1)
zset_read n ws (zset.RangeByScore key min max Ascending l r) h (inr s) =
    ap (λ x. reading x ws) s.0 ∙ ap (of_kind ask.SortedSets) (by_score_scores name.ZRangeByScore key min max Ascending l r ws h s.1)
zset_read n ws (zset.RangeByScore key min max Descending l r) h (inr s) =
    ap (λ x. reading x ws) s.0 ∙ ap (of_kind ask.SortedSets) (by_score_scores name.ZRevRangeByScore key min max Descending l r ws h s.1)
zset_read n ws (zset.TakePairs key Ascending None) h s = ap (λ x. reading x ws) s.0 ∙ ap (reading name.ZPopMin) (literals ws (Word key ∷ []) refl s.1)
zset_read n ws (zset.TakePairs key Descending None) h s = ap (λ x. reading x ws) s.0 ∙ ap (reading name.ZPopMax) (literals ws (Word key ∷ []) refl s.1)
zset_read n ws (zset.TakePairs key Ascending (Some m)) h s =
    ap (λ x. reading x ws) s.0 ∙ ap (reading name.ZPopMin) (literals ws (Word key ∷ Number (pos m) ∷ []) refl s.1) ∙ rw (number_of-signed_decimal (pos m) h) refl
zset_read n ws (zset.TakePairs key Descending (Some m)) h s =
    ap (λ x. reading x ws) s.0 ∙ ap (reading name.ZPopMax) (literals ws (Word key ∷ Number (pos m) ∷ []) refl s.1) ∙ rw (number_of-signed_decimal (pos m) h) refl
zset_read n ws (zset.ZRemRangeByRank key first last) h s =
    ap (λ x. reading x ws) s.0
    ∙ ap (reading name.ZRemRangeByRank) (literals ws (Word key ∷ Number first ∷ Number last ∷ []) refl s.1) ∙ rw (number_of-signed_decimal first h.0, number_of-signed_decimal last h.1) refl
zset_read n ws (zset.ZRemRangeByScore key min max) h s =
    ap (λ x. reading x ws) s.0
    ∙ three_parts (λ xs. reading name.ZRemRangeByScore xs ≡ Ok (ask.SortedSets (zset.ZRemRangeByScore key min max))) (Word key) (ScoreBound min) (ScoreBound max)
    (λ a b c ek eb ec. rw (ek, eb, ec) refl) ws s.1

-- ---- to the server
zero_is : (w : List ℕ) → w ≡ signed_decimal (pos 0) → reading name.Select (w ∷ []) ≡ Ok (ask.Server server.Select)
zero_is w e = ap (λ (x : List ℕ). reading name.Select (x ∷ [])) e ∙ rw (number_of-signed_decimal (pos 0) refl) refl

setname_read : (label a b : List ℕ) → IsPart a (Keyword setname) → b ≡ label → reading name.Client (a ∷ b ∷ []) ≡ Ok (ask.Server (server.ClientSetName label))
setname_read label a b ea eb =
    ap (λ (x : Bool). of_kind ask.Server (if x then Ok (server.ClientSetName b) else Err Syntax)) (keyword_is a setname ea)
    ∙ ap (λ (x : List ℕ). Ok (ask.Server (server.ClientSetName x))) eb

setinfo_read : (attribute value a b c : List ℕ) → IsPart a (Keyword setinfo) → b ≡ attribute → c ≡ value → reading name.Client (a ∷ b ∷ c ∷ []) ≡ Ok (ask.Server (server.ClientSetInfo attribute value))
setinfo_read attribute value a b c ea eb ec =
    ap (λ (x : Bool). of_kind ask.Server (if x then Ok (server.ClientSetInfo b c) else Err Syntax)) (keyword_is a setinfo ea)
    ∙ ap (λ (x : List ℕ). Ok (ask.Server (server.ClientSetInfo x c))) eb
    ∙ ap (λ (x : List ℕ). Ok (ask.Server (server.ClientSetInfo attribute x))) ec

-- SHUTDOWN's option, of a word in lower case
abbrev saving_said : List ℕ → Result Saving AskFault
saving_said x = if bytes_eq x (saving_text First) then Ok First else (if bytes_eq x (saving_text Never) then Ok Never else Err Syntax)

saving_itself : (s : Saving) → saving_said (saving_text s) ≡ Ok s
saving_itself First = refl
saving_itself Never = refl

saving_read : (s : Saving) (w : List ℕ) → IsPart w (Keyword (saving_text s)) → reading name.Shutdown (w ∷ []) ≡ Ok (ask.Server (server.Shutdown (Some s)))
saving_read s w is = ap (λ x. of_kind ask.Server (with x (λ found. Ok (server.Shutdown (Some found))))) (ap saving_said is ∙ saving_itself s)

pub server_read : (ws : List (List ℕ)) (a : ServerAsk) → AreParts ws (server_parts a) → reading (server_name a) ws ≡ Ok (ask.Server a)
server_read ws (server.Ping None) s = ap (reading name.Ping) (words_are ws [] s)
server_read ws (server.Ping (Some message)) s = ap (reading name.Ping) (words_are ws (message ∷ []) s)
server_read ws (server.Echo message) s = ap (reading name.Echo) (words_are ws (message ∷ []) s)
server_read ws server.Select s = one_part (λ xs. reading name.Select xs ≡ Ok (ask.Server server.Select)) (Number (pos 0)) zero_is ws s
server_read ws server.Quit s = ap (reading name.Quit) (words_are ws [] s)
server_read ws server.BgRewriteAof s = ap (reading name.BgRewriteAof) (words_are ws [] s)
server_read ws (server.Info None) s = ap (reading name.Info) (words_are ws [] s)
server_read ws (server.Info (Some section)) s = ap (reading name.Info) (words_are ws (section ∷ []) s)
server_read ws server.Role s = ap (reading name.Role) (words_are ws [] s)
server_read ws (server.Shutdown None) s = ap (reading name.Shutdown) (words_are ws [] s)
server_read ws (server.Shutdown (Some saving)) s =
    one_part (λ xs. reading name.Shutdown xs ≡ Ok (ask.Server (server.Shutdown (Some saving)))) (Keyword (saving_text saving)) (saving_read saving) ws s
server_read ws (server.Command arguments) s = ap (reading name.Command) (words_are ws arguments s)
server_read ws (server.ClientSetName label) s =
    two_parts (λ xs. reading name.Client xs ≡ Ok (ask.Server (server.ClientSetName label))) (Keyword setname) (Word label) (setname_read label) ws s
server_read ws (server.ClientSetInfo attribute value) s =
    three_parts (λ xs. reading name.Client xs ≡ Ok (ask.Server (server.ClientSetInfo attribute value))) (Keyword setinfo) (Word attribute) (Word value) (setinfo_read attribute value) ws s
