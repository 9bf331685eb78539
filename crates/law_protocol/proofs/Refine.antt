-- What rows and moves have to do with one another.
use Rattle.std.proofs.Common.{ℕ, zero, suc, List, [], ◌∷◌, ◌++◌, ◌≡◌, ◌≢◌, ◌+◌, ◌⊎◌, Option, None, Some, Bool, true, false, cond, length, take, drop, refl, sym, ◌∙◌, ap, subst, inl, inr, append_assoc, ◌==◌}
use Rattle.std.proofs.lemmas.Bool.Decides.{eqb_tells}
use Rattle.std.proofs.lemmas.List.{take-append-drop}
use Rattle.std.proofs.Math.Seq.{drop-append_seam}
use Rattle.law_protocol.specs.Language.{Language, Laws, Request, Transaction}
use Rattle.law_protocol.specs.Language.Request.{Handshake, Psync, Ack, Command, ReplicaOfNoOne, ReplicaOf, Empty, Quit}
use Rattle.law_protocol.specs.Changes.{SetAt}
use Rattle.law_protocol.specs.Node.{Phase, Node}
use Rattle.law_protocol.specs.World.{Way, Link, World, is_to, hears, shut}
use Rattle.law_protocol.specs.Changing.{Reads, Stops}
use Rattle.law_protocol.specs.ServerRows.{IsQuiet}
use Rattle.law_protocol.specs.Invariant.{Talk, Invariant}
use Rattle.law_protocol.specs.Invariant.Talk.{greeting, greeted, asking, asking_for, refused, answered_full, answered_cont, loading, streaming}
use Rattle.law_protocol.proofs.Moves.{Move, WaitsUntouched, Reaches}
use Rattle.law_protocol.proofs.Moves.Move.{carry, drop_open, stop}
use Rattle.law_protocol.proofs.Moves.Reaches.{by_moves}
use Rattle.law_protocol.proofs.Histories.{append_nil}
use Rattle.law_protocol.proofs.Fronts.{some_is}
use Rattle.law_protocol.proofs.Keeping.{one_or, true_false, none_some}
use Rattle.law_protocol.proofs.Extend.{same_eqb, hears_by}

abbrev pub put : {A : Type 0} → (ℕ → Option A) → ℕ → A → ℕ → Option A
put f n x m = cond (m == n) (Some x) (f m)

pub put_here : {A : Type 0} (f : ℕ → Option A) (n : ℕ) (x : A) → put f n x n ≡ Some x
put_here f n x = ap (λ b. cond b (Some x) (f n)) (same_eqb n)

pub put_there : {A : Type 0} (f : ℕ → Option A) (n : ℕ) (x : A) (m : ℕ) → m ≢ n → put f n x m ≡ f m
put_there f n x m h = let e : m == n ≡ false = elim (eqb_tells m n) [ inl y ↦ absurd (h y.1) | inr y ↦ y.0 ] in ap (λ b. cond b (Some x) (f m)) e

pub put_sets : {A : Type 0} (f : ℕ → Option A) (n : ℕ) (x : A) → SetAt f (put f n x) n x
put_sets f n x = (put_here f n x, put_there f n x)

-- the world before the last change at a place
pub put_before : {A : Type 0} (f g : ℕ → Option A) (n : ℕ) (x y : A) → SetAt f g n y → SetAt f (put g n x) n x
put_before f g n x y s = (put_here g n x, λ m h. put_there g n x m h ∙ s.1 m h)

pub put_after : {A : Type 0} (f g : ℕ → Option A) (n : ℕ) (x y : A) → SetAt f g n y → SetAt (put g n x) g n y
put_after f g n x y s = (s.0, λ m h. sym (put_there g n x m h))

pub put_over : {A : Type 0} (f g : ℕ → Option A) (n : ℕ) (x y : A) → SetAt f g n y → SetAt (put f n x) g n y
put_over f g n x y s = (s.0, λ m h. s.1 m h ∙ sym (put_there f n x m h))

pub reads_left : (old new : Way) (t : List ℕ) → Reads old t new → old.left ≡ t ++ new.left
reads_left old new t r =
    let whole : old.left ≡ t ++ (r.rest ++ drop old.taken old.left) =
    sym (take-append-drop old.taken old.left) ∙ (ap (λ z. z ++ drop old.taken old.left) r.begins ∙ append_assoc t r.rest (drop old.taken old.left)) in
    let rest : new.left ≡ r.rest ++ drop old.taken old.left =
    ap (λ z. z.left) r.new_is ∙ (ap (λ z. drop (length t) z) whole ∙ drop-append_seam t (r.rest ++ drop old.taken old.left)) in
    whole ∙ ap (λ z. t ++ z) (sym rest)

pub take_none : (n : ℕ) → let none : List ℕ = [] in take n none ≡ none
take_none zero = refl
take_none (suc n) = refl

-- A move at a link, and then the counts.
pub then_counts : {L : Language} (w v : World L) (l : ℕ) (mid fin : Link) → SetAt w.link v.link l fin
    → fin ≡ record mid { ask = record mid.ask { taken = fin.ask.taken }; tell = record mid.tell { taken = fin.tell.taken } }
    → WaitsUntouched fin → Move w (record v { link = put v.link l mid }) → Reaches w v
then_counts {L} w v l mid fin sl e wait m =
    by_moves (record v { link = put v.link l mid } ∷ []) (
      m,
      carry l fin.ask.taken fin.tell.taken mid (put_here v.link l mid) (subst (λ z. WaitsUntouched z) e wait) (λ n. refl)
          (subst (λ z. SetAt (put v.link l mid) v.link l z) e (put_after w.link v.link l mid fin sl)) (λ i. refl),
    )

pub one : {L : Language} (w v : World L) → Move w v → Reaches w v
one w v m = by_moves [] m

-- A node's ends drop what is open, and it stops.
pub stops_reach : {L : Language} (w v : World L) (n : ℕ) (a : Node L) → Stops w v n a → Reaches w v
stops_reach {L} w v n a r =
    by_moves (mid ∷ []) (drop_open (λ j k. is_to n k.to) (λ j. refl) r.no_links r.links (λ j. refl), stop n r.wreck r.down r.nodes (λ j. refl) r.book)
  where
    mid : World L
    mid = record { node = w.node; link = v.link; book = w.book }

-- what a follower of a link that doesn't stream yet has asked
abbrev pub Asking : Language → Option Transaction → List ℕ → Type 0
Asking L n xs = (xs ≡ []) ⊎ ((b : Request L.Id) × L.asks n xs b × ((b ≡ Handshake) ⊎ ((q : Option (L.Id × ℕ)) × (b ≡ Psync q))))

pub asked_of : {L : Language} (laws : Laws L) (w : World L) (c : Node L) (p : Phase L.Id) (k : Link) → k.streams ≡ false → Talk w c p k → Asking L k.transaction k.ask.left
asked_of {L} laws w c p k st (greeting n e s y z) = inr (Handshake, y, inl refl)
asked_of {L} laws w c p k st (greeted n t e s y z h) = inl y
asked_of {L} laws w c p k st (asking e s y z) = inr (Psync None, y, inr (None, refl))
asked_of {L} laws w c p k st (asking_for e s y z) =
    let q : Option (L.Id × ℕ) = Some (c.id, c.offset + 1) in inr (Psync q, y, inr (q, refl))
asked_of {L} laws w c p k st (refused t e s y z h) = inl y
asked_of {L} laws w c p k st (answered_full i o m b e y at f) = true_false k.streams f.streams st
asked_of {L} laws w c p k st (answered_cont i b e y g f) = true_false k.streams f.streams st
asked_of {L} laws w c p k st (loading i o m b e y at f) = true_false k.streams f.streams st
asked_of {L} laws w c p k st (streaming b e y f) = true_false k.streams f.streams st

-- nobody follows a link on which something else is asked
pub IsElse : {I : Type 0} → Request I → Type 0
IsElse {I} a = (a ≢ Handshake) × ((q : Option (I × ℕ)) → a ≢ Psync q)

pub not_asking : {L : Language} (laws : Laws L) (n : Option Transaction) (xs t rest : List ℕ) (a : Request L.Id) → L.asks n t a → IsElse a → xs ≡ t ++ rest → Asking L n xs → ⊥
unfolding IsElse
not_asking {L} laws n xs t rest a h ne e (inl x) = empty t (laws.asks_some n t a h) (sym e ∙ x)
  where
    empty : (t : List ℕ) → t ≢ [] → t ++ rest ≡ [] → ⊥
    empty [] f g = f refl
    empty (y ∷ t) f g = cc
not_asking {L} laws n xs t rest a h ne e (inr x) =
    let r = laws.asks_cut n xs t x.0 a [] rest x.1 h (append_nil xs ∙ e) in
    elim x.2 [ inl y ↦ ne.0 (sym r.1 ∙ y) | inr y ↦ ne.1 y.0 (sym r.1 ∙ y.1) ]

abbrev pub Free : {L : Language} → World L → ℕ → Type 0
Free {L} w l = (n : ℕ) (a : Node L) (p : Phase L.Id) → w.node n ≡ Some a → a.up ≡ true → a.follow ≡ Some (record { link = l; phase = p }) → ⊥

pub free_by : {L : Language} (laws : Laws L) (w : World L) (l : ℕ) (k : Link) → Invariant w → w.link l ≡ Some k → k.streams ≡ false → (Asking L k.transaction k.ask.left → ⊥) → Free w l
free_by {L} laws w l k inv e st h n c p ec uc fc =
    let o = inv.links n c (record { link = l; phase = p }) ec uc fc in
    let i = some_is o.link k (sym o.found ∙ e) in
    h (asked_of laws w c p k st (subst (λ z. Talk w c p z) i o.talk))

pub free_ask : {L : Language} (laws : Laws L) (w : World L) (l : ℕ) (k : Link) (t : List ℕ) (a : Request L.Id) (way : Way) → Invariant w → w.link l ≡ Some k → k.streams ≡ false → L.asks k.transaction t a → IsElse a → Reads k.ask t way → Free w l
free_ask {L} laws w l k t a way inv e st h ne r = free_by laws w l k inv e st (not_asking laws k.transaction k.ask.left t way.left a h ne (reads_left k.ask way t r))

pub free_doomed : {L : Language} (laws : Laws L) (w : World L) (l : ℕ) (k : Link) → Invariant w → w.link l ≡ Some k → k.streams ≡ false → L.doomed (take k.ask.taken k.ask.left) → Free w l
free_doomed {L} laws w l k inv e st d = free_by laws w l k inv e st go
  where
    all : take k.ask.taken k.ask.left ++ drop k.ask.taken k.ask.left ≡ k.ask.left
    all = take-append-drop k.ask.taken k.ask.left

    go : Asking L k.transaction k.ask.left → ⊥
    go (inl x) = laws.doomed_some (subst (λ z. L.doomed z) (none k.ask.taken k.ask.left x) d)
      where
        none : (n : ℕ) (xs : List ℕ) → xs ≡ [] → take n xs ≡ []
        none n xs e = ap (λ z. take n z) e ∙ take_none n
    go (inr x) = laws.doomed_cut k.transaction _ k.ask.left x.0 (drop k.ask.taken k.ask.left) [] d x.1 (all ∙ sym (append_nil k.ask.left))

-- the links after something at each
abbrev pub each : (ℕ → Link → Link) → ℕ → Option Link → Option Link
each f j None = None
each f j (Some k) = Some (f j k)

pub each_link : {L : Language} (w v : World L) (f : ℕ → Link → Link) (l : ℕ) (fin : Link) → ((j : ℕ) → j ≢ l → w.link j ≡ None → v.link j ≡ None)
    → ((j : ℕ) (x : Link) → j ≢ l → w.link j ≡ Some x → v.link j ≡ Some (f j x)) → v.link l ≡ Some fin
    → SetAt (λ j. each f j (w.link j)) v.link l fin
each_link w v f l fin none some e = (e, λ j h. go j h (w.link j) refl)
  where
    go : (j : ℕ) → j ≢ l → (o : Option Link) → w.link j ≡ o → v.link j ≡ each f j (w.link j)
    go j h None q = none j h q ∙ sym (ap (λ z. each f j z) q)
    go j h (Some x) q = some j x h q ∙ sym (ap (λ z. each f j z) q)

-- the server's end of one link closes
pub shut_one : {L : Language} (w v : World L) (l : ℕ) (k : Link) → w.link l ≡ Some k → SetAt w.link v.link l (shut true k)
    → (j : ℕ) (x : Link) → w.link j ≡ Some x → v.link j ≡ Some (shut (j == l) x)
shut_one w v l k e s j x q = one_or j l
    (λ h.
    let same : k ≡ x = some_is k x (sym e ∙ (ap (λ z. w.link z) (sym h) ∙ q)) in
    let yes_is : j == l ≡ true = ap (λ z. z == l) h ∙ same_eqb l in
    ap (λ z. v.link z) h ∙ (s.0 ∙ (ap (λ z. Some (shut true z)) same ∙ ap (λ z. Some (shut z x)) (sym yes_is))))
    (λ h.
    let no_is : j == l ≡ false = elim (eqb_tells j l) [ inl y ↦ absurd (h y.1) | inr y ↦ y.0 ] in
    s.1 j h ∙ (q ∙ ap (λ z. Some (shut z x)) (sym no_is)))

-- .. and none comes
pub shut_none : {A : Type 0} (f g : ℕ → Option A) (l : ℕ) (k m : A) → f l ≡ Some k → SetAt f g l m → (j : ℕ) → f j ≡ None → g j ≡ None
shut_none f g l k m e s j q = one_or j l
    (λ h. none_some (f l) k (ap (λ z. f z) (sym h) ∙ q) e)
    (λ h. s.1 j h ∙ q)

pub silent_after : (n : ℕ) (z y : Link) → shut (hears n z) z ≡ y → y.to ≡ Some n → y.serving ≡ true → y.streams ≡ false
silent_after n z y e et eo = go (hears n z) refl z.streams refl
  where
    open_is : (shut (hears n z) z).serving ≡ true
    open_is = ap (λ x. x.serving) e ∙ eo

    go : (b : Bool) → hears n z ≡ b → (c : Bool) → z.streams ≡ c → y.streams ≡ false
    go true h c q = true_false false (ap (λ x. cond x false z.serving) (sym h) ∙ open_is) refl
    go false h false q = sym (ap (λ x. x.streams) e) ∙ q
    go false h true q = true_false (hears n z) (hears_by n z (ap (λ x. x.to) e ∙ et) (ap (λ x. cond x false z.serving) (sym h) ∙ open_is) q) h

pub each_silent : (n j : ℕ) (o : Option Link) (y : Link) → each (λ i z. shut (hears n z) z) j o ≡ Some y → y.to ≡ Some n → y.serving ≡ true → y.streams ≡ false
each_silent n j None y e = none_some None y refl e
each_silent n j (Some z) y e = silent_after n z y (some_is (shut (hears n z) z) y e)

pub other_command : (I : Type 0) → IsElse {I = I} Command
unfolding IsElse
other_command I = ((λ e. cc), λ q e. cc)

pub other_ack : (I : Type 0) → IsElse {I = I} Ack
unfolding IsElse
other_ack I = ((λ e. cc), λ q e. cc)

pub other_promote : (I : Type 0) → IsElse {I = I} ReplicaOfNoOne
unfolding IsElse
other_promote I = ((λ e. cc), λ q e. cc)

pub other_obey : (I : Type 0) (h : List ℕ) → IsElse {I = I} (ReplicaOf h)
unfolding IsElse
other_obey I h = ((λ e. cc), λ q e. cc)

pub other_blank : (I : Type 0) → IsElse {I = I} Empty
unfolding IsElse
other_blank I = ((λ e. cc), λ q e. cc)

pub other_quit : (I : Type 0) → IsElse {I = I} Quit
unfolding IsElse
other_quit I = ((λ e. cc), λ q e. cc)

pub quiet_else : {L : Language} (s : Node L) (a : Request L.Id) → IsQuiet s a → IsElse a
quiet_else {L} s Handshake q = absurd q
quiet_else {L} s (Psync p) q = absurd q
quiet_else {L} s Ack q = other_ack L.Id
quiet_else {L} s Command q = absurd q
quiet_else {L} s ReplicaOfNoOne q = other_promote L.Id
quiet_else {L} s (ReplicaOf h) q = other_obey L.Id h
quiet_else {L} s Empty q = absurd q
quiet_else {L} s Quit q = absurd q
