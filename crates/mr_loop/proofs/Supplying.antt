-- What a source gives in some events and then in others, and what is left of its ids.
use Rattle.std.proofs.Common.{◌≡◌, ◌⊎◌, inl, inr, ◌≤ℤ◌, ℕ, ℤ, zero, suc, List, [], ◌∷◌, ◌++◌, Option, None, Some, append_assoc, append-nil, refl, sym, ap, subst, ◌∙◌}
use Rattle.mr_links.specs.declared.link_id.LinkId.{LinkId}
use Rattle.mr_data.specs.declared.given.Given.{Given}
use Rattle.mr_node_output.specs.Outs.{OutsState}
use Rattle.mr_source.specs.Drawn.{DrawnState, with_id, with_moment, with_more}
use Rattle.mr_loop.specs.declared.followed.News.{News}
use Rattle.mr_loop.specs.Causes.{Act, at_step, at_tick, at_dial, Stop, stops_at_step, stops_at_tick, stops_at_open, was_down}
use Rattle.mr_loop.specs.Rows.{Event, acts, idles, is_refused, spills, stops, tears, wakes}
use Rattle.mr_loop.specs.Giving.{AllGiven, AreAmong, IsGiven, IsGivenAct, IsGivenStep, IsGivenStop, Rises, Supplies, TakesEachOnce, listed, moments_by, moments_in, taken_by, ids_taken_in}
use Rattle.mr_loop.specs.Counting.{MomentState, Renewed, taken}
use Rattle.mr_loop.specs.Outcomes.{TurnsGoForward, TurnsTakeEachOnce, moments_over, taken_over}

-- ---- what a source tells

with_none : {A : Type 0} (d : Option (List A)) → d ≡ with_more [] d
with_none None = refl
with_none (Some before) = ap Some (sym (append-nil before))

with_twice : {A : Type 0} (xs ys : List A) (d : Option (List A)) → with_more ys (with_more xs d) ≡ with_more (xs ++ ys) d
with_twice xs ys None = refl
with_twice xs ys (Some before) = ap Some (append_assoc before xs ys)

-- these are told next, one after another
more_told : {A : Type 0} (xs ys : List A) (d e f : Option (List A)) → e ≡ with_more xs d → f ≡ with_more ys e → f ≡ with_more (xs ++ ys) d
more_told xs ys d e f first second = second ∙ (ap (with_more ys) first ∙ with_twice xs ys d)

moments_append : (xs ys : List Event) → moments_in (xs ++ ys) ≡ moments_in xs ++ moments_in ys
moments_append [] ys = refl
moments_append (x ∷ xs) ys = ap (λ (z : List ℤ). moments_by x ++ z) (moments_append xs ys) ∙ sym (append_assoc (moments_by x) (moments_in xs) (moments_in ys))

rises_on : (from mid until : ℤ) (xs ys : List ℤ) → Rises from xs mid → Rises mid ys until → Rises from (xs ++ ys) until
rises_on from mid until [] ys f g = subst (λ z. Rises z ys until) f g
rises_on from mid until (x ∷ xs) ys f g = (f.0, rises_on x mid until xs ys f.1 g)

-- These moments were told, and no id was given.
pub record Tells (moments : List ℤ) (before after : DrawnState) : Type 0 where
  pub tells : after.moments ≡ with_more moments before.moments
  pub forward : Rises before.clock moments after.clock
  pub ids : after.ids ≡ before.ids

pub tells_none : {before after : DrawnState} → after ≡ before → Tells [] before after
tells_none {before} {after} same = record {
  tells = ap (λ (d : DrawnState). d.moments) same ∙ with_none before.moments;
  forward = ap (λ (d : DrawnState). d.clock) same;
  ids = ap (λ (d : DrawnState). d.ids) same;
}

pub tells_one : {now : ℤ} {before after : DrawnState} → before.clock ≤ℤ now → after ≡ with_moment now before → Tells (now ∷ []) before after
tells_one {now} {before} {after} forward same = record {
  tells = ap (λ (d : DrawnState). d.moments) same;
  forward = (forward, ap (λ (d : DrawnState). d.clock) same);
  ids = ap (λ (d : DrawnState). d.ids) same;
}

-- ---- more ids behind those that there are are left behind those that are left

step_widened : (ids left more : List (List ℕ)) (fresh : List ℕ) (used : Option (List ℕ)) → IsGivenStep ids fresh used left → IsGivenStep (ids ++ more) fresh used (left ++ more)
step_widened ids left more fresh used g = record {
  behind = g.behind ++ more;
  first = ap (λ (z : List (List ℕ)). z ++ more) g.first;
  taken = ap (λ (z : List (List ℕ)). z ++ more) g.taken ∙ append_assoc (listed used) left more;
}

left_widened : (ids left more : List (List ℕ)) → left ≡ ids → left ++ more ≡ ids ++ more
left_widened ids left more e = ap (λ (z : List (List ℕ)). z ++ more) e

act_widened : (ids left more : List (List ℕ)) (act : Act) (used : Option (List ℕ)) → IsGivenAct ids act used left → IsGivenAct (ids ++ more) act used (left ++ more)
act_widened ids left more (at_step socket link given fresh news) used g = step_widened ids left more fresh used g
act_widened ids left more (at_tick given) used g = (g.0, left_widened ids left more g.1)
act_widened ids left more (at_dial socket link) used g = (g.0, left_widened ids left more g.1)

stop_widened : (ids left more : List (List ℕ)) (stop : Stop) → IsGivenStop ids stop left → IsGivenStop (ids ++ more) stop (left ++ more)
stop_widened ids left more (stops_at_step link given fresh) g = step_widened ids left more fresh None g
stop_widened ids left more (stops_at_tick given) g = left_widened ids left more g
stop_widened ids left more stops_at_open g = left_widened ids left more g
stop_widened ids left more was_down g = left_widened ids left more g

widened : (ids left more : List (List ℕ)) (e : Event) → IsGiven ids e left → IsGiven (ids ++ more) e (left ++ more)
widened ids left more (acts act outs) g = act_widened ids left more act outs.used g
widened ids left more (spills act outs) g = act_widened ids left more act outs.used g
widened ids left more (tears act outs) g = act_widened ids left more act outs.used g
widened ids left more (idles socket link given fresh) g = step_widened ids left more fresh None g
widened ids left more (is_refused socket link given fresh) g = step_widened ids left more fresh None g
widened ids left more (stops stop) g = stop_widened ids left more stop g
widened ids left more _ g = left_widened ids left more g

all_widened : (ids left more : List (List ℕ)) (es : List Event) → AllGiven ids es left → AllGiven (ids ++ more) es (left ++ more)
all_widened ids left more [] g = left_widened ids left more g
all_widened ids left more (e ∷ es) g = (g.0 ++ more, widened ids g.0 more e g.1, all_widened g.0 left more es g.2)

-- ---- one after another

given_append : (ids mid left : List (List ℕ)) (xs ys : List Event) → AllGiven ids xs mid → AllGiven mid ys left → AllGiven ids (xs ++ ys) left
given_append ids mid left [] ys f g = subst (λ z. AllGiven z ys left) f g
given_append ids mid left (x ∷ xs) ys f g = (f.0, f.1, given_append f.0 mid left xs ys f.2 g)

pub supplies_on : {u v w : List (List ℕ)} {d e f : DrawnState} (xs ys : List Event) → Supplies u d xs v e → Supplies v e ys w f → Supplies u d (xs ++ ys) w f
supplies_on {u} {v} {w} {d} {e} {f} xs ys x y = record {
  tells = more_told (moments_in xs) (moments_in ys) d.moments e.moments f.moments x.tells y.tells ∙ ap (λ ms. with_more ms d.moments) (sym (moments_append xs ys));
  forward = subst (λ ms. Rises d.clock ms f.clock) (sym (moments_append xs ys)) (rises_on d.clock e.clock f.clock (moments_in xs) (moments_in ys) x.forward y.forward);
  ids = x.ids ++ y.ids;
  gives = more_told x.ids y.ids d.ids e.ids f.ids x.gives y.gives;
  each = given_append (u ++ (x.ids ++ y.ids)) (v ++ y.ids) w xs ys (subst (λ z. AllGiven z xs (v ++ y.ids)) (append_assoc u x.ids y.ids) (all_widened (u ++ x.ids) v y.ids xs x.each)) y.each;
}

-- nothing happens
pub supplies_none : (u : List (List ℕ)) (d : DrawnState) → Supplies u d [] u d
supplies_none u d = record { tells = with_none d.moments; forward = refl; ids = []; gives = with_none d.ids; each = sym (append-nil u) }

-- an event behind which the source gives no id
pub supplies_one : {u left : List (List ℕ)} {d after : DrawnState} (e : Event) → IsGiven u e left → Tells (moments_by e) d after → Supplies u d (e ∷ []) left after
supplies_one {u} {left} {d} {after} e g told =
    let alone : moments_by e ≡ moments_in (e ∷ []) = sym (append-nil (moments_by e)) in record {
      tells = told.tells ∙ ap (λ ms. with_more ms d.moments) alone;
      forward = subst (λ ms. Rises d.clock ms after.clock) alone told.forward;
      ids = [];
      gives = told.ids ∙ with_none d.ids;
      each = (left, subst (λ z. IsGiven z e left) (sym (append-nil u)) g, refl);
    }

-- A turn begins: an id is drawn, and then the time is told.
pub supplies_first : {left : List (List ℕ)} {d after : DrawnState} (id : List ℕ) (now : ℤ) (first : DrawnState) (es : List Event) → first ≡ with_moment now (with_id id d) → d.clock ≤ℤ now → Supplies (id ∷ []) first es left after → Supplies [] d (wakes now ∷ es) left after
supplies_first {left} {d} {after} id now first es is forward x = record {
  tells = more_told (now ∷ []) (moments_in es) d.moments first.moments after.moments (ap (λ (z : DrawnState). z.moments) is) x.tells;
  forward = (forward, subst (λ (z : DrawnState). Rises z.clock (moments_in es) after.clock) is x.forward);
  ids = id ∷ x.ids;
  gives = more_told (id ∷ []) x.ids d.ids first.ids after.ids (ap (λ (z : DrawnState). z.ids) is) x.gives;
  each = (id ∷ x.ids, refl, x.each);
}

-- ---- a step, which takes the id that it is given, or none

pub renewed_turn : (used : Option (List ℕ)) (old new : MomentState) → Renewed used old new → new.turn ≡ taken used old.turn
renewed_turn None old new r = ap (λ (m : MomentState). m.turn) r
renewed_turn (Some id) old new r = ap (λ (m : MomentState). m.turn) r

-- none was taken
pub renewed_none : (used : Option (List ℕ)) (old new : MomentState) → used ≡ None → Renewed used old new → new ≡ old
renewed_none used old new none r = subst (λ u. Renewed u old new) none r

-- the id that it is given is left where it takes none
pub given_none : (fresh id : List ℕ) → fresh ≡ id → IsGivenStep (id ∷ []) fresh None (id ∷ [])
given_none fresh id is = record { behind = []; first = ap (λ (z : List ℕ). z ∷ []) (sym is); taken = refl }

-- what a step takes is what it is given, or nothing
pub gives_step : (fresh id : List ℕ) (used : Option (List ℕ)) (behind : List (List ℕ)) → fresh ≡ id → (used ≡ None) ⊎ (used ≡ Some fresh) → (left : List (List ℕ)) × IsGivenStep (id ∷ behind) fresh used left
gives_step fresh id used behind is (inl none) =
    (id ∷ behind, record { behind = behind; first = ap (λ (z : List ℕ). z ∷ behind) (sym is); taken = sym (ap (λ (u : Option (List ℕ)). listed u ++ (id ∷ behind)) none) })
gives_step fresh id used behind is (inr takes) =
    (behind, record { behind = behind; first = ap (λ (z : List ℕ). z ∷ behind) (sym is); taken = ap (λ (z : List ℕ). z ∷ behind) (sym is) ∙ sym (ap (λ (u : Option (List ℕ)). listed u ++ behind) takes) })

-- .. at the moment that the source tells for it
pub supplies_step : (old mid new : MomentState) (socket link : LinkId) (given : Given) (fresh : List ℕ) (news : Option News) (outs : OutsState) → fresh ≡ old.fresh → mid.fresh ≡ old.fresh → old.drawn.clock ≤ℤ given.now → mid.drawn ≡ with_moment given.now old.drawn
    → (outs.used ≡ None) ⊎ (outs.used ≡ Some fresh) → Renewed outs.used mid new → Supplies (old.fresh ∷ []) old.drawn (acts (at_step socket link given fresh news) outs ∷ []) (new.fresh ∷ []) new.drawn
supplies_step old mid new socket link given fresh news outs is first forward told (inl none) renewed =
    let e = acts (at_step socket link given fresh news) outs in
    let same = renewed_none outs.used mid new none renewed in
    let id : new.fresh ≡ old.fresh = ap (λ (m : MomentState). m.fresh) same ∙ first in
    subst (λ x. Supplies (old.fresh ∷ []) old.drawn (e ∷ []) (x ∷ []) new.drawn) (sym id)
    (supplies_one e (record { behind = []; first = ap (λ (z : List ℕ). z ∷ []) (sym is); taken = sym (ap (λ (u : Option (List ℕ)). listed u ++ (old.fresh ∷ [])) none) })
    (tells_one forward (ap (λ (m : MomentState). m.drawn) same ∙ told)))
supplies_step old mid new socket link given fresh news outs is first forward told (inr takes) renewed =
    let all = subst (λ u. Renewed u mid new) takes renewed in
    let drawn : new.drawn ≡ with_id new.fresh (with_moment given.now old.drawn) = ap (λ (m : MomentState). m.drawn) all ∙ ap (with_id new.fresh) told in record {
      tells = ap (λ (d : DrawnState). d.moments) drawn;
      forward = (forward, ap (λ (d : DrawnState). d.clock) drawn);
      ids = new.fresh ∷ [];
      gives = ap (λ (d : DrawnState). d.ids) drawn;
      each = (
        new.fresh ∷ [],
        record { behind = new.fresh ∷ []; first = ap (λ (z : List ℕ). z ∷ (new.fresh ∷ [])) (sym is); taken = ap (λ (z : List ℕ). z ∷ (new.fresh ∷ [])) (sym is) ∙ sym (ap (λ (u : Option (List ℕ)). listed u ++ (new.fresh ∷ [])) takes) },
        refl,
      );
    }

-- ---- none is taken twice

act_takes : (ids left : List (List ℕ)) (act : Act) (used : Option (List ℕ)) → IsGivenAct ids act used left → listed used ++ left ≡ ids
act_takes ids left (at_step socket link given fresh news) used g = sym g.taken
act_takes ids left (at_tick given) used g = ap (λ (u : Option (List ℕ)). listed u ++ left) g.0 ∙ g.1
act_takes ids left (at_dial socket link) used g = ap (λ (u : Option (List ℕ)). listed u ++ left) g.0 ∙ g.1

stop_takes : (ids left : List (List ℕ)) (stop : Stop) → IsGivenStop ids stop left → left ≡ ids
stop_takes ids left (stops_at_step link given fresh) g = sym g.taken
stop_takes ids left (stops_at_tick given) g = g
stop_takes ids left stops_at_open g = g
stop_takes ids left was_down g = g

event_takes : (ids left : List (List ℕ)) (e : Event) → IsGiven ids e left → taken_by e ++ left ≡ ids
event_takes ids left (acts act outs) g = act_takes ids left act outs.used g
event_takes ids left (spills act outs) g = act_takes ids left act outs.used g
event_takes ids left (tears act outs) g = act_takes ids left act outs.used g
event_takes ids left (idles socket link given fresh) g = sym g.taken
event_takes ids left (is_refused socket link given fresh) g = sym g.taken
event_takes ids left (stops stop) g = stop_takes ids left stop g
event_takes ids left _ g = g

pub takes_each_once : TakesEachOnce
takes_each_once ids left [] g = g
takes_each_once ids left (e ∷ es) g = append_assoc (taken_by e) (ids_taken_in es) left ∙ (ap (λ (z : List (List ℕ)). taken_by e ++ z) (takes_each_once g.0 left es g.2) ∙ event_takes ids g.0 e g.1)

-- ---- .. over turns

among_none : (xs : List (List ℕ)) → AreAmong [] xs
among_none [] = refl
among_none (x ∷ xs) = inl (among_none xs)

among_front : (ids left : List (List ℕ)) → AreAmong ids (ids ++ left)
among_front [] left = among_none left
among_front (id ∷ ids) left = inr (ids, refl, among_front ids left)

among_append : (ids more xs ys : List (List ℕ)) → AreAmong ids xs → AreAmong more ys → AreAmong (ids ++ more) (xs ++ ys)
among_append ids more [] ys none f = subst (λ (z : List (List ℕ)). AreAmong (z ++ more) ys) (sym none) f
among_append ids more (x ∷ xs) ys (inl h) f = inl (among_append ids more xs ys h f)
among_append ids more (x ∷ xs) ys (inr h) f = inr (h.0 ++ more, ap (λ (z : List (List ℕ)). z ++ more) h.1, among_append h.0 more xs ys h.2 f)

among_given : (ids left : List (List ℕ)) (es : List Event) → AllGiven ids es left → AreAmong (ids_taken_in es) ids
among_given ids left es g = subst (λ (z : List (List ℕ)). AreAmong (ids_taken_in es) z) (takes_each_once ids left es g) (among_front (ids_taken_in es) left)

pub turns_take_each_once : TurnsTakeEachOnce
turns_take_each_once tells mode zero drawn after s t turns = record { given = []; is = ap (λ (d : DrawnState). d.ids) turns.1 ∙ with_none drawn.ids; among = refl }
turns_take_each_once tells mode (suc n) drawn after s t turns =
    let before = turns_take_each_once tells mode n drawn turns.1 s turns.0 turns.2 in
    let last = turns.3.tells_of.given in record {
      given = before.given ++ last.ids;
      is = more_told before.given last.ids drawn.ids turns.1.ids after.ids before.is last.gives;
      among = among_append (taken_over tells mode n drawn turns.1 s turns.0 turns.2) (ids_taken_in turns.3.tells_of.went.events) before.given last.ids before.among
          (among_given last.ids turns.3.tells_of.left turns.3.tells_of.went.events last.each);
    }

-- ---- no moment goes back over turns

pub turns_go_forward : TurnsGoForward
turns_go_forward tells mode zero drawn after s t turns = record { told = ap (λ (d : DrawnState). d.moments) turns.1 ∙ with_none drawn.moments; rises = ap (λ (d : DrawnState). d.clock) turns.1 }
turns_go_forward tells mode (suc n) drawn after s t turns =
    let before = turns_go_forward tells mode n drawn turns.1 s turns.0 turns.2 in
    let ms = moments_over tells mode n drawn turns.1 s turns.0 turns.2 in
    let last = turns.3.tells_of in record {
      told = more_told ms (moments_in last.went.events) drawn.moments turns.1.moments after.moments before.told last.given.tells;
      rises = rises_on drawn.clock turns.1.clock after.clock ms (moments_in last.went.events) before.rises last.given.forward;
    }
