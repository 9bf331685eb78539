-- What a tick writes.
use Rattle.std.proofs.Common.{ℕ, ◌≤◌, ◌+◌, ◌-◌, ◌≡◌, ◌≢◌, ℤ, ◌<◌, List, [], ◌∷◌, ◌++◌, append_assoc, append-nil, length, length-append, map, take, true, false, Option, Some, None, cond, Vec, Global, refl, sym, ◌∙◌, ap, subst, arith}
use Rattle.std.specs.Prelude.{IsTrue, IsOk, All, Bool, Result, Err, is_ok, slice_get, nat_le, nat_eq, ◌==◌, if◌then◌else◌}
use Rattle.std.specs.List.{AllByRecursion}
use Rattle.std.specs.Option.{option_and_then, option_map}
use Rattle.std.specs.FinMap.{remove}
use Rattle.std.proofs.lemmas.Bool.{leb-true, leb-false, le-leb, lt-leb, eqb-true, eqb-false, true≢false}
use Rattle.std.proofs.lemmas.Cmp.{eq_by_cmp_equiv}
use Rattle.std.proofs.lemmas.List.{length-map}
use Rattle.std.proofs.lemmas.List.Concat.{flat_map-append}
use Rattle.std.proofs.lemmas.List.Elements.{All-head, All-tail, All-nil, All-push}
use Rattle.mr_links.specs.declared.link_id.LinkId.{LinkId}
use Rattle.mr_links.proofs.LinkRows.{ids_total}
use Rattle.mr_map.specs.Bytes.{Bytes}
use Rattle.mr_bytes.specs.Words.{fits}
use Rattle.mr_effect.specs.Spelling.{text, texts, size}
use Rattle.mr_effect.specs.declared.effect.Effect.{Effect}
use Rattle.mr_effect.specs.declared.effect.Effect.TheVariants as effect
use Rattle.mr_keyspace.specs.Dataset.{Dataset}
use Rattle.mr_keyspace.specs.Changes.{change, NeedsNoMemory}
use Rattle.mr_data.specs.Meaning.{apply, apply_all}
use Rattle.mr_data.specs.declared.due.DueKey.{DueKey}
use Rattle.mr_data.specs.Due.{due, deletions, most_deleted, dated, HasWord, within}
use Rattle.mr_repl.specs.Backlog.{offset_limit}
use Rattle.mr_node_links.specs.Replicas.{Lists, is_named}
use Rattle.mr_node_output.specs.Outs.{OutsState, no_outs}
use Rattle.mr_node_spec.specs.State.{NodeState}
use Rattle.mr_node_spec.specs.Growing.{FedTo, grown_by}
use Rattle.mr_node_spec.specs.TimeRows.{Beats, HasDue, HasReplicas, TickRow, room_in}
use Rattle.mr_node_spec.specs.TimeRows as time
use Rattle.mr_node_state.specs.Parts.{Commits}
use Rattle.mr_node.specs.Parts.{FeedsAll}
use Rattle.mr_node.specs.Ticking.{Doomed, Fitting, IsLight, PutsBeats, SinceBeat, marked}
use Rattle.mr_node.specs.declared.node.ticking.Beats.{Beats as Told}
use Rattle.mr_node.specs.declared.node.ticking.Deletions.{Deletions}
use Rattle.mr_node.specs.declared.node.ticking.Since.{Since}
use Rattle.mr_node.specs.declared.node.ticking.Since.TheVariants as since

one_goes : (k : Bytes) (m : Dataset) → IsTrue (fits k) → apply (effect.Del k) m ≡ Some (remove m k)
unfolding apply change
one_goes k m fit = ap (λ b. if b then Some (remove m k) else None) fit

pub beat_goes : (m : Dataset) → apply effect.Ping m ≡ Some m
unfolding apply change
beat_goes m = refl

-- deletions and heartbeats can be done, and take no memory
pub they_lead : (es : List Effect) (m : Dataset) → All IsLight es → (n : Dataset) × (apply_all es m ≡ Some n)
they_lead [] m h = (m, refl)
they_lead (e ∷ es) m h = lead e (All-head IsLight e es h) (λ k. they_lead es k (All-tail IsLight e es h))
  where
    lead : (f : Effect) → IsLight f → ((k : Dataset) → (n : Dataset) × (apply_all es k ≡ Some n)) → (n : Dataset) × (option_and_then (apply_all es) (apply f m) ≡ Some n)
    lead (effect.Del k) fit rest = ((rest (remove m k)).0, ap (option_and_then (apply_all es)) (one_goes k m fit) ∙ (rest (remove m k)).1)
    lead effect.Ping fit rest = ((rest m).0, ap (option_and_then (apply_all es)) (beat_goes m) ∙ (rest m).1)
    lead _ fit rest = absurd fit

pub they_are_light : (es : List Effect) → All IsLight es → AllByRecursion NeedsNoMemory es
they_are_light [] h = tt
they_are_light (e ∷ es) h = (light e (All-head IsLight e es h), they_are_light es (All-tail IsLight e es h))
  where
    light : (f : Effect) → IsLight f → NeedsNoMemory f
    light (effect.Del k) fit = tt
    light effect.Ping fit = tt
    light _ fit = absurd fit

-- the deletions of keys
abbrev pub deletions_of : List DueKey → List Effect
deletions_of ds = map (λ d. effect.Del d.key.now) ds

-- the deletions so far, and those of the keys to come
pub record Growing (room : ℕ) (all : List Effect) (effects : List Effect) (rest : List DueKey) : Type 0 where
  pub enough : length (texts effects) ≤ room
  pub whole_is : all ≡ effects ++ deletions_of rest
  pub within_is : within room all ≡ effects ++ within (room - length (texts effects)) (deletions_of rest)
  pub light : All IsLight effects
  pub words : All HasWord rest

pub all_deletions : (ps : List (Bytes × ℤ)) (ds : List DueKey) → map dated ds ≡ ps → map (λ p. effect.Del p.0) ps ≡ deletions_of ds
all_deletions ps ds h = ap (map (λ p. effect.Del p.0)) (sym h) ∙ one_map ds
  where
    one_map : (ds : List DueKey) → map (λ p. effect.Del p.0) (map dated ds) ≡ deletions_of ds
    one_map [] = refl
    one_map (d ∷ ds) = ap (λ (es : List Effect). effect.Del d.key.now ∷ es) (one_map ds)

pub begin : (room : ℕ) (ds rest : List DueKey) (es : List Effect) → All HasWord ds → rest ≡ ds → es ≡ [] → Growing room (deletions_of ds) es rest
begin room ds rest es words same none =
    subst (λ (fs : List Effect). Growing room (deletions_of ds) fs rest) (sym none)
    (subst (λ (ks : List DueKey). Growing room (deletions_of ds) [] ks) (sym same)
    (record { enough = omega arith; whole_is = refl; within_is = ap (λ (n : ℕ). within n (deletions_of ds)) (let whole : room ≡ room - 0 = omega arith in whole); light = All-nil IsLight; words = words }))

pub texts-push : (es : List Effect) (e : Effect) → texts (es ++ e ∷ []) ≡ texts es ++ text e
texts-push es e = flat_map-append text es (e ∷ []) ∙ ap (λ bs. texts es ++ bs) (append-nil (text e))

module _ {room : ℕ} {all es : List Effect} {d : DueKey} {ds : List DueKey} (growing : Growing room all es (d ∷ ds)) where
  -- one more has room
  pub one_more : nat_le (length (texts es) + size (effect.Del d.key.now)) room ≡ true → Growing room all (es ++ effect.Del d.key.now ∷ []) ds
  one_more fits =
      let e = effect.Del d.key.now in
      let fit : length (texts es) + size e ≤ room = leb-true _ _ fits in
      let long : length (texts (es ++ e ∷ [])) ≡ length (texts es) + size e = ap length (texts-push es e) ∙ length-append (texts es) (text e) in
      let alone : nat_le (size e) (room - length (texts es)) ≡ true = le-leb _ _ (omega arith) in
      record {
        enough = omega arith;
        whole_is = growing.whole_is ∙ sym (append_assoc es (e ∷ []) (deletions_of ds));
        within_is = growing.within_is
            ∙ ap (λ b. es ++ (if b then e ∷ within (room - length (texts es) - size e) (deletions_of ds) else [])) alone
            ∙ sym (append_assoc es (e ∷ []) (within (room - length (texts es) - size e) (deletions_of ds)))
            ∙ ap (λ (n : ℕ). (es ++ e ∷ []) ++ within n (deletions_of ds)) (let same : room - length (texts es) - size e ≡ room - length (texts (es ++ e ∷ [])) = omega arith in same);
        light = All-push IsLight es e growing.light (All-head HasWord d ds growing.words);
        words = All-tail HasWord d ds growing.words;
      }

  -- .. or has not, and all that have room are there
  pub no_more : nat_le (length (texts es) + size (effect.Del d.key.now)) room ≡ false → es ≡ within room all
  no_more full =
      let e = effect.Del d.key.now in
      let over : room < length (texts es) + size e = leb-false _ _ full in
      let here = growing.enough in
      let alone : nat_le (size e) (room - length (texts es)) ≡ false = lt-leb (size e) (room - length (texts es)) (omega arith) in
      sym (growing.within_is ∙ ap (λ b. es ++ (if b then e ∷ within (room - length (texts es) - size e) (deletions_of ds) else [])) alone ∙ append-nil es)

pub all_there : {room : ℕ} {all es : List Effect} {rest : List DueKey} → Growing room all es rest → rest ≡ [] → es ≡ within room all
all_there {room} {all} {es} {rest} growing none = sym (growing.within_is ∙ ap (λ (ds : List DueKey). es ++ within (room - length (texts es)) (deletions_of ds)) none ∙ append-nil es)

-- outs without a text yet
pub unchanged : (o : OutsState) (es : List Effect) → o.grown ≡ [] → o.appended ≡ [] → es ≡ [] → o ≡ record o { grown = texts es; appended = texts es }
unchanged o es none no_file same =
    let nothing : [] ≡ texts es = ap texts (sym same) in
    ap (λ (bs : List ℕ). record o { grown = bs }) (none ∙ nothing) ∙ ap (λ (bs : List ℕ). record o { grown = texts es; appended = bs }) (no_file ∙ nothing)

-- one key more
pub grows : {room : ℕ} {all es : List Effect} {rest : List DueKey} (d : DueKey) (ds : List DueKey) (base o p : OutsState) (fits : Bool) (e : Effect) (fs : List Effect) → Growing room all es rest → rest ≡ d ∷ ds
    → o ≡ record base { grown = texts es; appended = texts es } → fits ≡ nat_le (length o.grown + size (effect.Del d.key.now)) room → fits ≡ true
    → p ≡ (if fits then record o { grown = o.grown ++ text (effect.Del d.key.now); appended = o.appended ++ text (effect.Del d.key.now) } else o) → e ≡ effect.Del d.key.now → fs ≡ es ++ e ∷ []
    → Growing room all fs ds × (p ≡ record base { grown = texts fs; appended = texts fs })
grows {room} {all} {es} {rest} d ds base o p fitting e fs growing next outs_are test so shows is pushed =
    let whole : fs ≡ es ++ effect.Del d.key.now ∷ [] = pushed ∙ ap (λ (x : Effect). es ++ x ∷ []) is in
    let here : o.grown ≡ texts es = ap (λ (x : OutsState). x.grown) outs_are in
    let fit : nat_le (length (texts es) + size (effect.Del d.key.now)) room ≡ true = ap (λ (bs : List ℕ). nat_le (length bs + size (effect.Del d.key.now)) room) (sym here) ∙ sym test ∙ so in (
      subst (λ (xs : List Effect). Growing room all xs ds) (sym whole) (one_more (subst (λ (ks : List DueKey). Growing room all es ks) next growing) fit),
      shows ∙ ap (λ b. if b then record o { grown = o.grown ++ text (effect.Del d.key.now); appended = o.appended ++ text (effect.Del d.key.now) } else o) (so)
          ∙ ap (λ (x : OutsState). record x { grown = x.grown ++ text (effect.Del d.key.now); appended = x.appended ++ text (effect.Del d.key.now) }) outs_are
          ∙ ap (λ (bs : List ℕ). record base { grown = bs; appended = bs }) (sym (texts-push es (effect.Del d.key.now)) ∙ ap texts (sym whole)),
    )

-- no key is left
pub no_key : (ds : List DueKey) (n : ℕ) → length ds ≡ n → n ≡ 0 → ds ≡ []
no_key [] n long none = refl
no_key (d ∷ ds) n long none = absurd (omega (arith, long, none))

-- ---- what has room, and what is behind it
pub within_append : (es fs : List Effect) (room : ℕ) → length (texts es) ≤ room → within room (es ++ fs) ≡ es ++ within (room - length (texts es)) fs
within_append [] fs room few = ap (λ (n : ℕ). within n fs) (let same : room ≡ room - 0 = omega arith in same)
within_append (e ∷ es) fs room few =
    let long : length (texts (e ∷ es)) ≡ size e + length (texts es) = length-append (text e) (texts es) in
    let fit : nat_le (size e) room ≡ true = le-leb (size e) room (omega (arith, few, long)) in
    ap (λ b. if b then e ∷ within (room - size e) (es ++ fs) else []) fit
    ∙ ap (λ (xs : List Effect). e ∷ xs) (within_append es fs (room - size e) (omega (arith, few, long)))
    ∙ ap (λ (n : ℕ). e ∷ (es ++ within n fs)) (let same : room - size e - length (texts es) ≡ room - length (texts (e ∷ es)) = omega (arith, long) in same)

-- a heartbeat behind effects that have room
pub beat_fits : (es : List Effect) (room : ℕ) → length (texts es) ≤ room → nat_le (length (texts es) + size effect.Ping) room ≡ true → es ++ effect.Ping ∷ [] ≡ within room (es ++ effect.Ping ∷ [])
beat_fits es room few fits =
    let fit : length (texts es) + size effect.Ping ≤ room = leb-true _ _ fits in
    let alone : nat_le (size effect.Ping) (room - length (texts es)) ≡ true = le-leb _ _ (omega (arith, fit)) in
    sym (within_append es (effect.Ping ∷ []) room few ∙ ap (λ b. es ++ (if b then effect.Ping ∷ [] else [])) alone)

pub beat_is_over : (es : List Effect) (room : ℕ) → length (texts es) ≤ room → nat_le (length (texts es) + size effect.Ping) room ≡ false → es ≡ within room (es ++ effect.Ping ∷ [])
beat_is_over es room few full =
    let over : room < length (texts es) + size effect.Ping = leb-false _ _ full in
    let alone : nat_le (size effect.Ping) (room - length (texts es)) ≡ false = lt-leb (size effect.Ping) (room - length (texts es)) (omega (arith, over, few)) in
    sym (within_append es (effect.Ping ∷ []) room few ∙ ap (λ b. es ++ (if b then effect.Ping ∷ [] else [])) alone ∙ append-nil es)

within_step : (b : Bool) (e : Effect) (xs es : List Effect) → length xs ≤ length es → length (if b then e ∷ xs else []) ≤ length (e ∷ es)
within_step true e xs es few = omega (arith, few)
within_step false e xs es few = omega arith

pub within_few : (es : List Effect) (room : ℕ) → length (within room es) ≤ length es
within_few [] room = omega arith
within_few (e ∷ es) room = within_step (nat_le (size e) room) e (within (room - size e) es) es (within_few es (room - size e))

whole_step : (b : Bool) (e : Effect) (xs es : List Effect) → (length xs ≡ length es → xs ≡ es) → length (if b then e ∷ xs else []) ≡ length (e ∷ es) → (if b then e ∷ xs else []) ≡ e ∷ es
whole_step true e xs es next same = ap (λ (ys : List Effect). e ∷ ys) (next (omega (arith, same)))
whole_step false e xs es next same = absurd (omega (arith, same))

-- all have room where so many have
pub within_whole : (es : List Effect) (room : ℕ) → length (within room es) ≡ length es → within room es ≡ es
within_whole [] room same = refl
within_whole (e ∷ es) room same = whole_step (nat_le (size e) room) e (within (room - size e) es) es (within_whole es (room - size e)) same

-- ---- the deletions
-- the deletions that have room, with their texts
pub fitting_of : {room : ℕ} {dues rest : List DueKey} {es : List Effect} (p : OutsState) → Growing room (deletions_of dues) es rest → es ≡ within room (deletions_of dues) → p ≡ record no_outs { grown = texts es; appended = texts es }
    → Fitting room dues es p
fitting_of p growing all outs_are = record { effects_are = all; light = growing.light; enough = growing.enough; outs_are = outs_are }

-- .. where the next has none
pub fills : {room : ℕ} {dues rest : List DueKey} {es : List Effect} (d : DueKey) (ds : List DueKey) (o p : OutsState) (fitting : Bool) → Growing room (deletions_of dues) es rest → rest ≡ d ∷ ds
    → o ≡ record no_outs { grown = texts es; appended = texts es } → fitting ≡ nat_le (length o.grown + size (effect.Del d.key.now)) room → fitting ≡ false
    → p ≡ (if fitting then record o { grown = o.grown ++ text (effect.Del d.key.now); appended = o.appended ++ text (effect.Del d.key.now) } else o) → Fitting room dues es p
fills {room} {dues} {rest} {es} d ds o p fitting growing next outs_are test so shows =
    let here : o.grown ≡ texts es = ap (λ (x : OutsState). x.grown) outs_are in
    let full : nat_le (length (texts es) + size (effect.Del d.key.now)) room ≡ false = ap (λ (bs : List ℕ). nat_le (length bs + size (effect.Del d.key.now)) room) (sym here) ∙ sym test ∙ so in
    fitting_of p growing (no_more (subst (λ (ks : List DueKey). Growing room (deletions_of dues) es ks) next growing) full)
    (shows ∙ ap (λ b. if b then record o { grown = o.grown ++ text (effect.Del d.key.now); appended = o.appended ++ text (effect.Del d.key.now) } else o) so ∙ outs_are)

less : (n m : ℕ) → n ≤ m → (n ≡ m → ⊥) → n < m
less n m few apart = omega (arith, few, apart)

-- the keys that are due, told with whether all have room
pub doomed_of : (m : Dataset) (now : ℤ) (room : ℕ) (dues : List DueKey) (d : Deletions) (outs : OutsState) → map dated dues ≡ take most_deleted (due now m) → Fitting room dues d.effects.items outs
    → d.whole ≡ nat_eq (length d.effects.items) (length dues) → Doomed m now room d outs
doomed_of m now room dues d outs keys fit test =
    let all : time.doomed now m ≡ deletions_of dues = all_deletions (take most_deleted (due now m)) dues keys in
    let effects : d.effects.items ≡ deletions now m room = fit.effects_are ∙ ap (within room) (sym all) in
    let long : length (time.doomed now m) ≡ length dues = ap length all ∙ length-map dues (λ (k : DueKey). effect.Del k.key.now) in
    let several : length d.effects.items ≡ length (deletions now m room) = ap length effects in
    record {
      effects = effects;
      light = fit.light;
      whole = λ so. within_whole (time.doomed now m) room (sym several ∙ eqb-true (length d.effects.items) (length dues) (sym test ∙ so) ∙ sym long);
      cut = λ so. less (length (deletions now m room)) (length (time.doomed now m)) (within_few (time.doomed now m) room) (λ same. eqb-false (length d.effects.items) (length dues) (sym test ∙ so) (several ∙ same ∙ long));
      within = fit.enough;
      outs_are = fit.outs_are;
    }

-- .. of a node
pub doomed_at : (a : NodeState) (m : Dataset) (now : ℤ) (room : ℕ) (d : Deletions) (outs : OutsState) → m ≡ a.core.held → room ≡ room_in a.core → Doomed m now room d outs → Doomed a.core.held now (room_in a.core) d outs
doomed_at a m now room d outs held_is room_is doomed =
    subst (λ (n : ℕ). Doomed a.core.held now n d outs) room_is (subst (λ (x : Dataset). Doomed x now room d outs) held_is doomed)

-- ---- a heartbeat
-- somebody is sent the stream
pub some_listed : (a : NodeState) (names : List LinkId) → Lists names a.ends.open_links → ◌==◌ (length names) 0 ≡ false → HasReplicas a
some_listed a [] listed some = absurd (true≢false some)
some_listed a (x ∷ names) listed some = (x, sym (listed.each x) ∙ ap (λ b. cond b true (is_named names x)) ((eq_by_cmp_equiv ids_total).refl x))

-- what is written, before it is sent to the replicas
pub record Writes (a : NodeState) (now : ℤ) (effects : List Effect) (marks : Bool) (o : OutsState) : Type 0 where
  pub beats : Beats a now effects (marked marks now a.core.mark)
  pub light : All IsLight effects
  pub enough : length (texts effects) ≤ room_in a.core
  pub outs_are : o ≡ record no_outs { grown = texts effects; appended = texts (deletions now a.core.held (room_in a.core)) }

-- .. by what stands at the end of several ways
pub writes_as : (a : NodeState) (now : ℤ) {told effects : Vec Effect Global} {marks are : Bool} {o p : OutsState} → told ≡ effects → are ≡ marks → p ≡ o → Writes a now effects.items marks o → Writes a now told.items are p
writes_as a now {told} {effects} {marks} {are} {o} {p} same marks_are outs_are h =
    subst (λ (v : Vec Effect Global). Writes a now v.items are p) (sym same)
    (subst (λ (b : Bool). Writes a now effects.items b p) (sym marks_are) (subst (λ (x : OutsState). Writes a now effects.items marks x) (sym outs_are) h))

-- with the deletions of a tick
module _ (a : NodeState) (now : ℤ) (d : Deletions) (outs : OutsState) (dooms : Doomed a.core.held now (room_in a.core) d outs) where
  file_is : outs ≡ record no_outs { grown = texts d.effects.items; appended = texts (deletions now a.core.held (room_in a.core)) }
  file_is = dooms.outs_are ∙ ap (λ (es : List Effect). record no_outs { grown = texts d.effects.items; appended = texts es }) dooms.effects

  -- what is written, by how the moment stands to the mark
  waiting_beats : {s : Since} → SinceBeat a now d.whole s → s ≡ since.Waiting → Beats a now d.effects.items a.core.mark
  waiting_beats (SinceBeat.cut over is) e = Beats.cut (dooms.cut over) dooms.effects refl
  waiting_beats (SinceBeat.waits so waiting is) e = Beats.waits (dooms.whole so) waiting (dooms.effects ∙ dooms.whole so) refl
  waiting_beats (SinceBeat.alone so none passed is) e = Beats.alone (dooms.whole so) none passed (dooms.effects ∙ dooms.whole so) refl
  waiting_beats (SinceBeat.unmarked so un is) e = let never : since.Unmarked ≡ since.Waiting = sym is ∙ e in cc
  waiting_beats (SinceBeat.passed so some passed is) e = let never : since.Passed ≡ since.Waiting = sym is ∙ e in cc

  unmarked_beats : {s : Since} → SinceBeat a now d.whole s → s ≡ since.Unmarked → Beats a now d.effects.items (Some now)
  unmarked_beats (SinceBeat.unmarked so un is) e = Beats.marks (dooms.whole so) un (dooms.effects ∙ dooms.whole so) refl
  unmarked_beats (SinceBeat.cut over is) e = let never : since.Waiting ≡ since.Unmarked = sym is ∙ e in cc
  unmarked_beats (SinceBeat.waits so waiting is) e = let never : since.Waiting ≡ since.Unmarked = sym is ∙ e in cc
  unmarked_beats (SinceBeat.alone so none passed is) e = let never : since.Waiting ≡ since.Unmarked = sym is ∙ e in cc
  unmarked_beats (SinceBeat.passed so some passed is) e = let never : since.Passed ≡ since.Unmarked = sym is ∙ e in cc

  passed_beats : {s : Since} (es : List Effect) → SinceBeat a now d.whole s → s ≡ since.Passed → es ≡ within (room_in a.core) (d.effects.items ++ effect.Ping ∷ []) → Beats a now es (Some now)
  passed_beats es (SinceBeat.passed so some passed is) e whole = Beats.beats (dooms.whole so) some passed (whole ∙ ap (λ (fs : List Effect). within (room_in a.core) (fs ++ effect.Ping ∷ [])) (dooms.effects ∙ dooms.whole so)) refl
  passed_beats es (SinceBeat.cut over is) e whole = let never : since.Waiting ≡ since.Passed = sym is ∙ e in cc
  passed_beats es (SinceBeat.waits so waiting is) e whole = let never : since.Waiting ≡ since.Passed = sym is ∙ e in cc
  passed_beats es (SinceBeat.alone so none passed is) e whole = let never : since.Waiting ≡ since.Passed = sym is ∙ e in cc
  passed_beats es (SinceBeat.unmarked so un is) e whole = let never : since.Unmarked ≡ since.Passed = sym is ∙ e in cc

  -- the deletions alone
  deletions_alone : (marks : Bool) → Beats a now d.effects.items (marked marks now a.core.mark) → Writes a now d.effects.items marks outs
  deletions_alone marks written = record { beats = written; light = dooms.light; enough = dooms.within; outs_are = file_is }

  pub writes_waiting : {s : Since} → SinceBeat a now d.whole s → s ≡ since.Waiting → Writes a now d.effects.items false outs
  writes_waiting h is = deletions_alone false (waiting_beats h is)

  pub writes_unmarked : {s : Since} → SinceBeat a now d.whole s → s ≡ since.Unmarked → Writes a now d.effects.items true outs
  writes_unmarked h is = deletions_alone true (unmarked_beats h is)

  grown_are : outs.grown ≡ texts d.effects.items
  grown_are = ap (λ (o : OutsState). o.grown) file_is

  -- whether a heartbeat has room
  tests_are : (fitting : Bool) (room : ℕ) → room ≡ room_in a.core → fitting ≡ nat_le (length outs.grown + size effect.Ping) room → fitting ≡ nat_le (length (texts d.effects.items) + size effect.Ping) (room_in a.core)
  tests_are fitting room room_is test = test ∙ ap (λ n. nat_le (length outs.grown + size effect.Ping) n) room_is ∙ ap (λ (bs : List ℕ). nat_le (length bs + size effect.Ping) (room_in a.core)) grown_are

  -- a heartbeat has no room behind them
  pub writes_full : {s : Since} (o : OutsState) (room : ℕ) (fitting : Bool) → SinceBeat a now d.whole s → s ≡ since.Passed → room ≡ room_in a.core → fitting ≡ nat_le (length outs.grown + size effect.Ping) room
      → o ≡ (if fitting then record outs { grown = outs.grown ++ text effect.Ping } else outs) → fitting ≡ false → Writes a now d.effects.items true o
  writes_full o room fitting h is room_is test shows full =
      subst (λ (p : OutsState). Writes a now d.effects.items true p) (sym (shows ∙ ap (λ b. if b then record outs { grown = outs.grown ++ text effect.Ping } else outs) full))
      (deletions_alone true (passed_beats d.effects.items h is (beat_is_over d.effects.items (room_in a.core) dooms.within (sym (tests_are fitting room room_is test) ∙ full))))

  -- .. or is written
  pub writes_beat : {s : Since} (effects : List Effect) (o : OutsState) (room : ℕ) (fitting : Bool) → SinceBeat a now d.whole s → s ≡ since.Passed → room ≡ room_in a.core → fitting ≡ nat_le (length outs.grown + size effect.Ping) room
      → o ≡ (if fitting then record outs { grown = outs.grown ++ text effect.Ping } else outs) → fitting ≡ true → effects ≡ d.effects.items ++ effect.Ping ∷ [] → Writes a now effects true o
  writes_beat effects o room fitting h is room_is test shows so pushed =
      let es = d.effects.items ++ effect.Ping ∷ [] in
      let fits : nat_le (length (texts d.effects.items) + size effect.Ping) (room_in a.core) ≡ true = sym (tests_are fitting room room_is test) ∙ so in
      let fit : length (texts d.effects.items) + size effect.Ping ≤ room_in a.core = leb-true (length (texts d.effects.items) + size effect.Ping) (room_in a.core) fits in
      let long : length (texts es) ≡ length (texts d.effects.items) + size effect.Ping = ap length (texts-push d.effects.items effect.Ping) ∙ length-append (texts d.effects.items) (text effect.Ping) in
      subst (λ (fs : List Effect). Writes a now fs true o) (sym pushed) (record {
        beats = passed_beats es h is (beat_fits d.effects.items (room_in a.core) dooms.within fits);
        light = All-push IsLight d.effects.items effect.Ping dooms.light tt;
        enough = subst (λ n. n ≤ room_in a.core) (sym long) fit;
        outs_are = shows ∙ ap (λ b. if b then record outs { grown = outs.grown ++ text effect.Ping } else outs) so
            ∙ ap (λ (p : OutsState). record p { grown = p.grown ++ text effect.Ping }) file_is
            ∙ ap (λ (bs : List ℕ). record no_outs { grown = bs; appended = texts (deletions now a.core.held (room_in a.core)) }) (sym (texts-push d.effects.items effect.Ping));
      })

-- ---- what a tick gives out
has_room : (offset long : ℕ) → offset ≤ offset_limit → long ≤ offset_limit - offset → offset + long ≤ offset_limit
has_room offset long within enough = omega (arith, within, enough)

-- .. and is sent to the replicas
pub puts : (a : NodeState) (now : ℤ) (told : Told) (o p : OutsState) → a.core.lineage.stream.offset ≤ offset_limit → Writes a now told.effects.items told.marks o → FeedsAll a o p → PutsBeats a now told p
puts a now told o p within writes feeds = record {
  beats = writes.beats;
  light = writes.light;
  within = has_room a.core.lineage.stream.offset (length (texts told.effects.items)) within writes.enough;
  names = feeds.names;
  fed = subst (λ (z : OutsState). FedTo z.grown a feeds.names) writes.outs_are feeds.fed;
  outs_are = feeds.outs_are ∙ ap (λ (z : OutsState). record z { fed = feeds.names }) writes.outs_are;
}

-- what is written is applied, and the mark is set where a heartbeat was due
pub ticks : (a b c : NodeState) (now : ℤ) (told : Told) (outs : OutsState) (mark : Option ℤ) → a.core.up ≡ true → a.core.master ≡ true → PutsBeats a now told outs → Commits a told.effects.items b
    → c ≡ record b { core = record b.core { mark = mark } } → mark ≡ marked told.marks now b.core.mark → TickRow a now c outs
ticks a b c now told outs mark up master put commits is mark_is =
    let marked_is : mark ≡ marked told.marks now a.core.mark = mark_is ∙ ap (λ (z : NodeState). marked told.marks now z.core.mark) commits.node in
    let whole : c ≡ record a { core = record (grown_by told.effects.items commits.held a.core) { mark = mark } } = is ∙ ap (λ (z : NodeState). record z { core = record z.core { mark = mark } }) commits.node in
    let fed_is : outs.fed ≡ put.names = ap (λ (o : OutsState). o.fed) put.outs_are in
    TickRow.deletes up (record {
      master = master;
      effects = told.effects.items;
      mark = mark;
      beats = subst (λ (m : Option ℤ). Beats a now told.effects.items m) (sym marked_is) put.beats;
      held = commits.held;
      applied = commits.applied;
      core = ap (λ (z : NodeState). z.core) whole;
      ends = ap (λ (z : NodeState). z.ends) whole;
      follow = ap (λ (z : NodeState). z.follow) whole;
      fed = subst (λ (names : List LinkId). FedTo (texts told.effects.items) a names) (sym fed_is) put.fed;
      outs_are = put.outs_are ∙ ap (λ (names : List LinkId). record no_outs { grown = texts told.effects.items; appended = texts (deletions now a.core.held (room_in a.core)); fed = names }) (sym fed_is);
    })

-- what went well did not fail
pub never_lacks : {E : Type 0} (r : Result (Unit {0}) E) (x : E) → r ≡ Err x → IsOk r → ⊥
never_lacks r x lacks ok = true≢false (sym ok ∙ ap is_ok lacks)

-- ---- what memory is taken for
-- none is the first where none is due, and only there
pub none_first : (ps : List (Bytes × ℤ)) → option_map (λ (p : Bytes × ℤ). p.0) (slice_get ps 0) ≡ None → ps ≡ []
none_first [] none = refl
none_first (p ∷ ps) none = cc

pub some_first : (ps : List (Bytes × ℤ)) → (option_map (λ (p : Bytes × ℤ). p.0) (slice_get ps 0) ≡ None → ⊥) → ps ≢ []
some_first [] some none = some refl
some_first (p ∷ ps) some none = cc

-- no key is due
pub none_doomed : (m : Dataset) (now : ℤ) (room : ℕ) (d : Deletions) (outs : OutsState) → due now m ≡ [] → d.effects.items ≡ [] → d.whole ≡ true → outs ≡ no_outs → Doomed m now room d outs
none_doomed m now room d outs none empty so outs_are =
    let all : time.doomed now m ≡ [] = ap (λ (ps : List (Bytes × ℤ)). map (λ p. effect.Del p.0) (take most_deleted ps)) none in
    let gone : deletions now m room ≡ [] = ap (within room) all in
    record {
      effects = empty ∙ sym gone;
      light = subst (All IsLight) (sym empty) (All-nil IsLight);
      whole = λ is. gone ∙ sym all;
      cut = λ is. absurd (true≢false (sym so ∙ is));
      within = subst (λ (es : List Effect). length (texts es) ≤ room) (sym empty) (omega arith);
      outs_are = outs_are ∙ ap (λ (es : List Effect). record no_outs { grown = texts es; appended = texts es }) (sym empty);
    }

doomed_due : (m : Dataset) (now : ℤ) → time.doomed now m ≢ [] → due now m ≢ []
doomed_due m now some none = some (ap (λ (ps : List (Bytes × ℤ)). map (λ p. effect.Del p.0) (take most_deleted ps)) none)

deleted_due : (m : Dataset) (now : ℤ) (room : ℕ) → deletions now m room ≢ [] → due now m ≢ []
deleted_due m now room some none = some (ap (λ (ps : List (Bytes × ℤ)). within room (map (λ p. effect.Del p.0) (take most_deleted ps))) none)

-- what is written was due
pub beats_due : (a : NodeState) (now : ℤ) (effects : List Effect) (mark : Option ℤ) → a.core.master ≡ true → Beats a now effects mark → effects ≢ [] → HasDue a now
beats_due a now effects mark master (Beats.cut short is set) some = HasDue.deletes master (deleted_due a.core.held now (room_in a.core) (λ none. some (is ∙ none)))
beats_due a now effects mark master (Beats.marks whole un is set) some = HasDue.deletes master (doomed_due a.core.held now (λ none. some (is ∙ none)))
beats_due a now effects mark master (Beats.beats whole has passed is set) some = HasDue.beats master has passed
beats_due a now effects mark master (Beats.waits whole waiting is set) some = HasDue.deletes master (doomed_due a.core.held now (λ none. some (is ∙ none)))
beats_due a now effects mark master (Beats.alone whole none passed is set) some = HasDue.deletes master (doomed_due a.core.held now (λ no_effect. some (is ∙ no_effect)))

-- .. and so is a heartbeat
pub beat_due : (a : NodeState) (now : ℤ) (whole : Bool) (s : Since) → a.core.master ≡ true → SinceBeat a now whole s → s ≡ since.Passed → HasDue a now
beat_due a now whole s master (SinceBeat.passed so has passed is) e = HasDue.beats master has passed
beat_due a now whole s master (SinceBeat.cut over is) e = let never : since.Waiting ≡ since.Passed = sym is ∙ e in cc
beat_due a now whole s master (SinceBeat.unmarked so un is) e = let never : since.Unmarked ≡ since.Passed = sym is ∙ e in cc
beat_due a now whole s master (SinceBeat.waits so waiting is) e = let never : since.Waiting ≡ since.Passed = sym is ∙ e in cc
beat_due a now whole s master (SinceBeat.alone so none passed is) e = let never : since.Waiting ≡ since.Passed = sym is ∙ e in cc

-- something is written where the stream grows
pub writes_due : (a : NodeState) (now : ℤ) (effects : List Effect) (marks : Bool) (o : OutsState) → a.core.master ≡ true → Writes a now effects marks o → o.grown ≢ [] → HasDue a now
writes_due a now effects marks o master writes grows =
    beats_due a now effects (marked marks now a.core.mark) master writes.beats (λ none. grows (ap (λ (z : OutsState). z.grown) writes.outs_are ∙ ap texts none))
