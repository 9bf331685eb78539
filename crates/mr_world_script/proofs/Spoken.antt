-- What is read of words is what they say.
use Rattle.std.proofs.Common.{◌≡◌, ℕ, ◌<◌, ◌^◌, ℤ, pos, negsuc, ◌≤◌, List, [], ◌∷◌, decimal, Bool, true, false, ◌&&◌, cond, Option, Some, None, IsTrue, refl, sym, ap, ◌∙◌, subst, arith}
use Rattle.std.specs.Prelude.{IfSome, codes, find, int_le}
use Rattle.std.specs.Fmt.{signed_decimal}
use Rattle.std.specs.Str.{bytes_eq}
use Rattle.std.proofs.lemmas.Bool.{lt-ltb}
use Rattle.std.proofs.lemmas.Int.{ints}
use Rattle.mr_data.specs.Given.{IsMoment, last_moment}
use Rattle.mr_bytes.specs.Number.{is_i64, number_of}
use Rattle.mr_bytes.proofs.Numbers.{number_of-signed_decimal, number_text, same_bytes}
use Rattle.mr_bytes.proofs.Both.{first, second}
use Rattle.mr_world_script.specs.Said.{Said, nothing, starts, joins, sends, delivers, steps, ticks, breaks, dials, connects, accepts, restarts, shows, gets, NamesId, Says, SaysSend, request, text}
use Rattle.mr_world_script.specs.Words.{with, count_of, moment_if, moment_of, side_of, side_text, id_of}
use Rattle.mr_world_script.specs.Reading.{text_of, names, is_named, named, given_of, start, client, send, raw, deliver, step, tick, «break», dial, connect, accept, restart, show, got, behind, said_by}
use Rattle.mr_links.specs.declared.side.Side.{Side}
use Rattle.mr_links.specs.declared.side.Side.TheVariants.{Opener, Server}
use Rattle.mr_world_script.specs.declared.event_name.EventName.{EventName}
use Rattle.mr_world_script.specs.declared.event_name.EventName.TheVariants.{Start, Replica, Client, Send, Raw, Deliver, Step, Tick, Break, Dial, Connect, Accept, Restart, Show, Got}
use Rattle.mr_world_script.proofs.Counts.{count_of-decimal, count_text}
use Rattle.mr_world_script.proofs.Ids.{id_is, id_names}

-- moments

by_no : (b : Bool) → (b ≡ false → ⊥) → b ≡ true
by_no true h = refl
by_no false h = absurd (h refl)

moment_passes : (now : ℤ) → IsMoment now → (int_le (pos 0) now ≡ true) × (int_le now (pos last_moment) ≡ true) × IsTrue (is_i64 now)
moment_passes (pos n) h =
    let high : n ≤ last_moment = omega (arith, ints, h.1) in
    (by_no _ (λ e. omega (arith, ints, e)), by_no _ (λ e. omega (arith, ints, e)), lt-ltb n (2 ^ 63) (omega arith))
moment_passes (negsuc n) h = absurd h.0.le

passes_moment : (now : ℤ) → int_le (pos 0) now ≡ true → int_le now (pos last_moment) ≡ true → IsMoment now
passes_moment now low high = (omega (arith, ints), omega (arith, ints))

moment_of-signed_decimal : (now : ℤ) → IsMoment now → moment_of (signed_decimal now) ≡ Some now
moment_of-signed_decimal now h = let p = moment_passes now h in rw (number_of-signed_decimal now p.2, p.0, p.1) refl

-- sides

side_of-side_text : (side : Side) → side_of (side_text side) ≡ Some side
unfolding side_of
side_of-side_text Opener = refl
side_of-side_text Server = refl

-- what words say is read

abbrev Tells : List (List ℕ) → Said → Type 0
Tells words said = said_by words ≡ Some said

starts_read : (is_replica : Bool) (word id : List ℕ) → NamesId word id → start is_replica (word ∷ []) ≡ Some (starts is_replica id)
starts_read is_replica word id h = rw (id_is word id h) refl

sends_read : (words : List (List ℕ)) (link : ℕ) (bytes : List ℕ) → link < 2 ^ 64 → SaysSend words link bytes → Tells words (sends link bytes)
unfolding named
sends_read words link bytes fits (request one later is same) = ap said_by is ∙ rw (count_of-decimal link fits) (ap (λ b. Some (sends link b)) (sym same))
sends_read words link bytes fits (text is) = ap said_by is ∙ rw (count_of-decimal link fits) refl

pub what_is_said : (words : List (List ℕ)) (said : Said) → Says words said → Tells words said
unfolding named
what_is_said words nothing e = ap said_by e
what_is_said words (starts true id) (word, h, e) = ap said_by e ∙ starts_read true word id h
what_is_said words (starts false id) (word, h, e) = ap said_by e ∙ starts_read false word id h
what_is_said words (joins node) (fits, e) = ap said_by e ∙ rw (count_of-decimal node fits) refl
what_is_said words (sends link bytes) (fits, h) = sends_read words link bytes fits h
what_is_said words (delivers link side count) (fits, small, e) = ap said_by e ∙ rw (count_of-decimal link fits, side_of-side_text side, count_of-decimal count small) refl
what_is_said words (steps link side now number fresh) (word, h, fits, moment, small, e) =
    ap said_by e ∙ rw (count_of-decimal link fits, side_of-side_text side, count_of-decimal number small, moment_of-signed_decimal now moment, id_is word fresh h) refl
what_is_said words (ticks node now) (fits, moment, e) = ap said_by e ∙ rw (count_of-decimal node fits, moment_of-signed_decimal now moment) refl
what_is_said words (breaks link side) (fits, e) = ap said_by e ∙ rw (count_of-decimal link fits, side_of-side_text side) refl
what_is_said words (dials node to) (fits, small, e) = ap said_by e ∙ rw (count_of-decimal node fits, count_of-decimal to small) refl
what_is_said words (connects node) (fits, e) = ap said_by e ∙ rw (count_of-decimal node fits) refl
what_is_said words (accepts link node) (fits, small, e) = ap said_by e ∙ rw (count_of-decimal link fits, count_of-decimal node small) refl
what_is_said words (restarts node count id) (word, h, fits, small, e) = ap said_by e ∙ rw (count_of-decimal node fits, count_of-decimal count small, id_is word id h) refl
what_is_said words (shows node) (fits, e) = ap said_by e ∙ rw (count_of-decimal node fits) refl
what_is_said words (gets link) (fits, e) = ap said_by e ∙ rw (count_of-decimal link fits) refl

-- what is read the words say

with_count : (word : List ℕ) (f : ℕ → Option Said) (P : Said → Type 0) → ((n : ℕ) → n < 2 ^ 64 → word ≡ decimal n → IfSome (f n) P) → IfSome (with (count_of word) f) P
with_count word f P h = elim (count_of word) as (λ o. count_of word ≡ o → IfSome (with o f) P) [
  | None ↦ λ e. tt
  | Some n ↦ λ e. let is = count_text word n e in h n is.1 is.0
] refl

with_id : (word : List ℕ) (f : List ℕ → Option Said) (P : Said → Type 0) → ((id : List ℕ) → NamesId word id → IfSome (f id) P) → IfSome (with (id_of word) f) P
with_id word f P h = elim (id_of word) as (λ o. id_of word ≡ o → IfSome (with o f) P) [
  | None ↦ λ e. tt
  | Some id ↦ λ e. h id (id_names word id e)
] refl

side_is : (word : List ℕ) (side : Side) → side_of word ≡ Some side → word ≡ side_text side
unfolding side_of
side_is word side h = elim (bytes_eq word (codes "a")) as (λ b. bytes_eq word (codes "a") ≡ b → cond b (Some Opener) (cond (bytes_eq word (codes "b")) (Some Server) None) ≡ Some side → word ≡ side_text side) [
  | true ↦ λ t e. let same : Opener ≡ side = cc in same_bytes _ _ t ∙ ap side_text same
  | false ↦ λ t e. elim (bytes_eq word (codes "b")) as (λ b. bytes_eq word (codes "b") ≡ b → cond b (Some Server) None ≡ Some side → word ≡ side_text side) [
    | true ↦ λ u f. let same : Server ≡ side = cc in same_bytes _ _ u ∙ ap side_text same
    | false ↦ λ u f. cc
  ] refl e
] refl h

with_side : (word : List ℕ) (f : Side → Option Said) (P : Said → Type 0) → ((side : Side) → word ≡ side_text side → IfSome (f side) P) → IfSome (with (side_of word) f) P
with_side word f P h = elim (side_of word) as (λ o. side_of word ≡ o → IfSome (with o f) P) [
  | None ↦ λ e. tt
  | Some side ↦ λ e. h side (side_is word side e)
] refl

moment_is : (word : List ℕ) (now : ℤ) → moment_of word ≡ Some now → IsMoment now × (word ≡ signed_decimal now)
moment_is word now h = elim (number_of word) as (λ o. number_of word ≡ o → with o moment_if ≡ Some now → IsMoment now × (word ≡ signed_decimal now)) [
  | None ↦ λ e t. cc
  | Some n ↦ λ e t. elim (int_le (pos 0) n && int_le n (pos last_moment)) as (λ b. int_le (pos 0) n && int_le n (pos last_moment) ≡ b → cond b (Some n) None ≡ Some now → IsMoment now × (word ≡ signed_decimal now)) [
    | true ↦ λ p s. let same : n ≡ now = cc in
        (subst IsMoment same (passes_moment n (first _ _ p) (second _ _ p)), (number_text word n e).0 ∙ ap signed_decimal same)
    | false ↦ λ p s. cc
  ] refl t
] refl h

with_given : (word : List ℕ) (number : ℕ) (f : ℤ × ℕ → Option Said) (P : Said → Type 0) → ((now : ℤ) → IsMoment now → word ≡ signed_decimal now → IfSome (f (now, number)) P) → IfSome (with (given_of word number) f) P
with_given word number f P h = elim (moment_of word) as (λ o. moment_of word ≡ o → IfSome (with (with o (λ now. Some (now, number))) f) P) [
  | None ↦ λ e. tt
  | Some now ↦ λ e. let is = moment_is word now e in h now is.0 is.1
] refl

start_says : (is_replica : Bool) (name : List ℕ) (words : List (List ℕ)) → name ≡ cond is_replica (codes "replica") (codes "start") → IfSome (start is_replica words) (Says (name ∷ words))
start_says is_replica name [] e = tt
start_says is_replica name (word ∷ []) e = with_id word _ _ (λ id h. (word, h, ap (λ n. n ∷ word ∷ []) e))
start_says is_replica name (word ∷ next ∷ rest) e = tt

client_says : (words : List (List ℕ)) → IfSome (client words) (Says (codes "client" ∷ words))
client_says [] = tt
client_says (node ∷ []) = with_count node _ _ (λ n fits e. (fits, ap (λ w. codes "client" ∷ w ∷ []) e))
client_says (node ∷ next ∷ rest) = tt

send_says : (words : List (List ℕ)) → IfSome (send words) (Says (codes "send" ∷ words))
send_says [] = tt
send_says (link ∷ []) = tt
send_says (link ∷ one ∷ later) = with_count link _ _ (λ l fits e. (fits, request one later (ap (λ w. codes "send" ∷ w ∷ one ∷ later) e) refl))

raw_says : (words : List (List ℕ)) → IfSome (raw words) (Says (codes "raw" ∷ words))
raw_says (link ∷ bytes ∷ []) = with_count link _ _ (λ l fits e. (fits, text (ap (λ w. codes "raw" ∷ w ∷ bytes ∷ []) e)))
raw_says _ = tt

deliver_says : (words : List (List ℕ)) → IfSome (deliver words) (Says (codes "deliver" ∷ words))
deliver_says (link ∷ side ∷ count ∷ []) =
    with_count link _ _ (λ l fits e. with_side side _ _ (λ s t. with_count count _ _ (λ n small u.
    (fits, small, λ i. codes "deliver" ∷ e i ∷ t i ∷ u i ∷ []))))
deliver_says _ = tt

step_says : (words : List (List ℕ)) → IfSome (step words) (Says (codes "step" ∷ words))
step_says (link ∷ side ∷ now ∷ number ∷ fresh ∷ []) =
    with_count link _ _ (λ l fits e. with_side side _ _ (λ s t. with_count number _ _ (λ n small u. with_given now n _ _ (λ m moment v. with_id fresh _ _ (λ id h.
    (fresh, h, fits, moment, small, λ i. codes "step" ∷ e i ∷ t i ∷ v i ∷ u i ∷ fresh ∷ []))))))
step_says _ = tt

tick_says : (words : List (List ℕ)) → IfSome (tick words) (Says (codes "tick" ∷ words))
tick_says (node ∷ now ∷ []) = with_count node _ _ (λ n fits e. with_given now 0 _ _ (λ m moment v. (fits, moment, λ i. codes "tick" ∷ e i ∷ v i ∷ [])))
tick_says _ = tt

break_says : (words : List (List ℕ)) → IfSome («break» words) (Says (codes "break" ∷ words))
break_says (link ∷ side ∷ []) = with_count link _ _ (λ l fits e. with_side side _ _ (λ s t. (fits, λ i. codes "break" ∷ e i ∷ t i ∷ [])))
break_says _ = tt

dial_says : (words : List (List ℕ)) → IfSome (dial words) (Says (codes "dial" ∷ words))
dial_says (node ∷ to ∷ []) = with_count node _ _ (λ n fits e. with_count to _ _ (λ m small u. (fits, small, λ i. codes "dial" ∷ e i ∷ u i ∷ [])))
dial_says _ = tt

connect_says : (words : List (List ℕ)) → IfSome (connect words) (Says (codes "connect" ∷ words))
connect_says (node ∷ []) = with_count node _ _ (λ n fits e. (fits, ap (λ w. codes "connect" ∷ w ∷ []) e))
connect_says _ = tt

accept_says : (words : List (List ℕ)) → IfSome (accept words) (Says (codes "accept" ∷ words))
accept_says (link ∷ node ∷ []) = with_count link _ _ (λ l fits e. with_count node _ _ (λ n small u. (fits, small, λ i. codes "accept" ∷ e i ∷ u i ∷ [])))
accept_says _ = tt

restart_says : (words : List (List ℕ)) → IfSome (restart words) (Says (codes "restart" ∷ words))
restart_says (node ∷ count ∷ id ∷ []) =
    with_count node _ _ (λ n fits e. with_count count _ _ (λ c small u. with_id id _ _ (λ i h. (id, h, fits, small, λ j. codes "restart" ∷ e j ∷ u j ∷ id ∷ []))))
restart_says _ = tt

show_says : (words : List (List ℕ)) → IfSome (show words) (Says (codes "show" ∷ words))
show_says (node ∷ []) = with_count node _ _ (λ n fits e. (fits, ap (λ w. codes "show" ∷ w ∷ []) e))
show_says _ = tt

got_says : (words : List (List ℕ)) → IfSome (got words) (Says (codes "got" ∷ words))
got_says (link ∷ []) = with_count link _ _ (λ l fits e. (fits, ap (λ w. codes "got" ∷ w ∷ []) e))
got_says _ = tt

behind_says : (name : EventName) (words : List (List ℕ)) → IfSome (behind name words) (Says (text_of name ∷ words))
behind_says Start words = start_says false _ words refl
behind_says Replica words = start_says true _ words refl
behind_says Client words = client_says words
behind_says Send words = send_says words
behind_says Raw words = raw_says words
behind_says Deliver words = deliver_says words
behind_says Step words = step_says words
behind_says Tick words = tick_says words
behind_says Break words = break_says words
behind_says Dial words = dial_says words
behind_says Connect words = connect_says words
behind_says Accept words = accept_says words
behind_says Restart words = restart_says words
behind_says Show words = show_says words
behind_says Got words = got_says words

-- what was found has the name
found : (word : List ℕ) (ns : List EventName) (name : EventName) → find (is_named word) ns ≡ Some name → word ≡ text_of name
found word [] name h = cc
found word (n ∷ ns) name h = elim (is_named word n) as (λ b. is_named word n ≡ b → cond b (Some n) (find (is_named word) ns) ≡ Some name → word ≡ text_of name) [
  | true ↦ λ t s. let same : n ≡ name = cc in sym (same_bytes _ _ t) ∙ ap text_of same
  | false ↦ λ t s. found word ns name s
] refl h

pub named_is : (word : List ℕ) (name : EventName) → named word ≡ Some name → word ≡ text_of name
unfolding named
named_is word name h = found word names name h

pub what_was_read : (words : List (List ℕ)) → IfSome (said_by words) (Says words)
what_was_read [] = refl
what_was_read (word ∷ words) = elim (named word) as (λ o. named word ≡ o → IfSome (with o (λ n. behind n words)) (Says (word ∷ words))) [
  | None ↦ λ e. tt
  | Some name ↦ λ e. subst (λ (w : List ℕ). IfSome (behind name words) (Says (w ∷ words))) (sym (named_is word name e)) (behind_says name words)
] refl
