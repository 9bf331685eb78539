-- What becomes of a node as the outs of a call on it are carried out: its ends of the links that are closed go.
use Rattle.std.proofs.Common.{◌≡◌, ◌++◌, ◌||◌, ℕ, List, [], ◌∷◌, Bool, true, false, cond, Option, None, Some, refl, sym, ap, ◌∙◌}
use Rattle.std.specs.Ordering.{eq_by_cmp}
use Rattle.std.specs.FinMap.{get-remove}
use Rattle.mr_links.specs.LinkId.{id_cmp}
use Rattle.mr_links.specs.declared.link_id.LinkId.{LinkId}
use Rattle.mr_links.proofs.LinkRows.{ids_total}
use Rattle.mr_follower.specs.State.{FollowState}
use Rattle.mr_node_links.specs.Replicas.{is_named}
use Rattle.mr_node_output.specs.Address.{AddressState}
use Rattle.mr_node_output.specs.Outs.{OutState, OutsState, append, appended_outs, close, closed_outs, closing_outs, fed_outs, follow, followed_outs, grow, grown_outs, halt, halted_outs, outs_of, replace, replaced_outs, send, sent_outs, use_id, used_outs}
use Rattle.mr_node_spec.specs.State.{NodeState, end_of}
use Rattle.mr_node_spec.specs.LinkRows.{closed_at, follow_without}
use Rattle.mr_loop.specs.Stage.{Stage}
use Rattle.mr_loop.proofs.Carried.{carried_core}
use Rattle.mr_loop.specs.Carrying.{Carried, Spilled, Torn}
use Rattle.law_systems.proofs.Pushing.{ends_at, parting}

-- each end that goes is closed, one after another
abbrev pub closed_by : List OutState → NodeState → NodeState
closed_by [] a = a
closed_by (grow bytes ∷ outs) a = closed_by outs a
closed_by (append bytes ∷ outs) a = closed_by outs a
closed_by (replace bytes ∷ outs) a = closed_by outs a
closed_by (send link bytes ∷ outs) a = closed_by outs a
closed_by (close link ∷ outs) a = closed_by outs (closed_at link a)
closed_by (use_id id ∷ outs) a = closed_by outs a
closed_by (follow address ∷ outs) a = closed_by outs a
closed_by (halt ∷ outs) a = closed_by outs a

pub carried_closed : (outs : List OutState) (s t : Stage) → Carried outs s t → t.node ≡ closed_by outs s.node
carried_closed [] s t h = ap (λ (z : Stage). z.node) h
carried_closed (grow bytes ∷ outs) s t h = carried_closed outs h.0 t h.2 ∙ ap (λ (z : Stage). closed_by outs z.node) h.1
carried_closed (append bytes ∷ outs) s t h = carried_closed outs h.0 t h.2 ∙ ap (λ (z : Stage). closed_by outs z.node) h.1
carried_closed (replace bytes ∷ outs) s t h = carried_closed outs h.0 t h.2 ∙ ap (closed_by outs) h.1.node
carried_closed (send link bytes ∷ outs) s t h = carried_closed outs h.0 t h.2 ∙ ap (λ (z : Stage). closed_by outs z.node) h.1
carried_closed (close link ∷ outs) s t h = carried_closed outs h.0 t h.2 ∙ ap (λ (z : Stage). closed_by outs z.node) h.1
carried_closed (use_id id ∷ outs) s t h = carried_closed outs h.0 t h.2 ∙ ap (λ (z : Stage). closed_by outs z.node) h.1
carried_closed (follow address ∷ outs) s t h = carried_closed outs h.0 t h.2 ∙ ap (λ (z : Stage). closed_by outs z.node) h.1
carried_closed (halt ∷ outs) s t h = carried_closed outs h.0 t h.2 ∙ ap (λ (z : Stage). closed_by outs z.node) h.1

-- ---- by a call's outs
abbrev pub closed_all : List LinkId → NodeState → NodeState
closed_all [] a = a
closed_all (link ∷ links) a = closed_all links (closed_at link a)

-- the reply's link is closed, if it is
abbrev pub closed_if : Option LinkId → Bool → NodeState → NodeState
closed_if None closes a = a
closed_if (Some link) true a = closed_at link a
closed_if (Some link) false a = a

abbrev pub closed_behind : OutsState → NodeState → NodeState
closed_behind o a = closed_all o.closed (closed_if o.link o.closes a)

closes_grown : (bytes : List ℕ) (ys : List OutState) (a : NodeState) → closed_by (grown_outs bytes ++ ys) a ≡ closed_by ys a
closes_grown [] ys a = refl
closes_grown (b ∷ bytes) ys a = refl

closes_appended : (bytes : List ℕ) (ys : List OutState) (a : NodeState) → closed_by (appended_outs bytes ++ ys) a ≡ closed_by ys a
closes_appended [] ys a = refl
closes_appended (b ∷ bytes) ys a = refl

closes_replaced : (bytes : Option (List ℕ)) (ys : List OutState) (a : NodeState) → closed_by (replaced_outs bytes ++ ys) a ≡ closed_by ys a
closes_replaced None ys a = refl
closes_replaced (Some bytes) ys a = refl

closes_fed : (bytes : List ℕ) (links : List LinkId) (ys : List OutState) (a : NodeState) → closed_by (fed_outs bytes links ++ ys) a ≡ closed_by ys a
closes_fed bytes [] ys a = refl
closes_fed bytes (x ∷ links) ys a = closes_fed bytes links ys a

closes_sent : (link : Option LinkId) (bytes : List ℕ) (ys : List OutState) (a : NodeState) → closed_by (sent_outs link bytes ++ ys) a ≡ closed_by ys a
closes_sent None bytes ys a = refl
closes_sent (Some x) [] ys a = refl
closes_sent (Some x) (b ∷ bytes) ys a = refl

closes_closing : (link : Option LinkId) (closes : Bool) (ys : List OutState) (a : NodeState)
    → closed_by (closing_outs link closes ++ ys) a ≡ closed_by ys (closed_if link closes a)
closes_closing None closes ys a = refl
closes_closing (Some x) true ys a = refl
closes_closing (Some x) false ys a = refl

closes_closed : (links : List LinkId) (ys : List OutState) (a : NodeState) → closed_by (closed_outs links ++ ys) a ≡ closed_by ys (closed_all links a)
closes_closed [] ys a = refl
closes_closed (x ∷ links) ys a = closes_closed links ys (closed_at x a)

closes_role : (used : Option (List ℕ)) (follows : Option AddressState) (halts : Bool) (a : NodeState)
    → closed_by (used_outs used ++ (followed_outs follows ++ halted_outs halts)) a ≡ a
closes_role None None true a = refl
closes_role None None false a = refl
closes_role None (Some address) true a = refl
closes_role None (Some address) false a = refl
closes_role (Some id) None true a = refl
closes_role (Some id) None false a = refl
closes_role (Some id) (Some address) true a = refl
closes_role (Some id) (Some address) false a = refl

pub closes_of : (o : OutsState) (a : NodeState) → closed_by (outs_of o) a ≡ closed_behind o a
closes_of o a =
    closes_grown o.grown _ a ∙ (closes_appended o.appended _ a ∙ (closes_replaced o.replaced _ a ∙ (closes_fed o.grown o.fed _ a ∙ (closes_sent o.link o.reply _ a
    ∙ (closes_closing o.link o.closes _ a ∙ (closes_closed o.closed _ (closed_if o.link o.closes a) ∙ closes_role o.used o.follows o.halts (closed_behind o a)))))))

-- **What the outs of a call leave of the node.**
pub carried_node : (o : OutsState) (s t : Stage) → Carried (outs_of o) s t → t.node ≡ closed_behind o s.node
carried_node o s t h = carried_closed (outs_of o) s t h ∙ closes_of o s.node

-- ---- its ends
closed_at_end : (l x : LinkId) (a : NodeState) → end_of (closed_at l a) x ≡ cond (eq_by_cmp id_cmp x l) None (end_of a x)
closed_at_end l x a = get-remove ids_total a.ends.open_links l x

twice_none : {A : Type 0} (v n : Bool) (o : Option A) → cond n None (cond v None o) ≡ cond (cond v true n) None o
twice_none true true o = refl
twice_none true false o = refl
twice_none false n o = refl

closed_all_end : (links : List LinkId) (x : LinkId) (a : NodeState) → end_of (closed_all links a) x ≡ cond (is_named links x) None (end_of a x)
closed_all_end [] x a = refl
closed_all_end (l ∷ links) x a = closed_all_end links x (closed_at l a) ∙ (ap (λ o. cond (is_named links x) None o) (closed_at_end l x a)
    ∙ twice_none (eq_by_cmp id_cmp x l) (is_named links x) (end_of a x))

closed_if_end : (link : Option LinkId) (closes : Bool) (x : LinkId) (a : NodeState)
    → end_of (closed_if link closes a) x ≡ cond (ends_at link closes x) None (end_of a x)
closed_if_end None true x a = refl
closed_if_end None false x a = refl
closed_if_end (Some l) true x a = closed_at_end l x a
closed_if_end (Some l) false x a = refl

or_none : {A : Type 0} (v n : Bool) (o : Option A) → cond n None (cond v None o) ≡ cond (v || n) None o
or_none true true o = refl
or_none true false o = refl
or_none false n o = refl

-- **An end is gone where its link was closed, and what it was where it wasn't.**
pub parted_end : (o : OutsState) (x : LinkId) (a : NodeState) → end_of (closed_behind o a) x ≡ cond (parting o x) None (end_of a x)
parted_end o x a = closed_all_end o.closed x (closed_if o.link o.closes a) ∙ (ap (λ e. cond (is_named o.closed x) None e) (closed_if_end o.link o.closes x a)
    ∙ or_none (ends_at o.link o.closes x) (is_named o.closed x) (end_of a x))

pub end_goes : (o : OutsState) (x : LinkId) (a : NodeState) → parting o x ≡ true → end_of (closed_behind o a) x ≡ None
end_goes o x a parted = parted_end o x a ∙ ap (λ b. cond b None (end_of a x)) parted

pub end_stays : (o : OutsState) (x : LinkId) (a : NodeState) → parting o x ≡ false → end_of (closed_behind o a) x ≡ end_of a x
end_stays o x a stays = parted_end o x a ∙ ap (λ b. cond b None (end_of a x)) stays

-- ---- and the rest of it
closed_all_opened : (links : List LinkId) (a : NodeState) → (closed_all links a).ends.opened ≡ a.ends.opened
closed_all_opened [] a = refl
closed_all_opened (l ∷ links) a = closed_all_opened links (closed_at l a)

closed_if_opened : (link : Option LinkId) (closes : Bool) (a : NodeState) → (closed_if link closes a).ends.opened ≡ a.ends.opened
closed_if_opened None closes a = refl
closed_if_opened (Some l) true a = refl
closed_if_opened (Some l) false a = refl

pub parted_opened : (o : OutsState) (a : NodeState) → (closed_behind o a).ends.opened ≡ a.ends.opened
parted_opened o a = closed_all_opened o.closed (closed_if o.link o.closes a) ∙ closed_if_opened o.link o.closes a

closed_all_core : (links : List LinkId) (a : NodeState) → (closed_all links a).core ≡ a.core
closed_all_core [] a = refl
closed_all_core (l ∷ links) a = closed_all_core links (closed_at l a)

closed_if_core : (link : Option LinkId) (closes : Bool) (a : NodeState) → (closed_if link closes a).core ≡ a.core
closed_if_core None closes a = refl
closed_if_core (Some l) true a = refl
closed_if_core (Some l) false a = refl

pub parted_core : (o : OutsState) (a : NodeState) → (closed_behind o a).core ≡ a.core
parted_core o a = closed_all_core o.closed (closed_if o.link o.closes a) ∙ closed_if_core o.link o.closes a

-- where nothing is closed the node is the same
pub none_parted : (o : OutsState) (a : NodeState) → o.closes ≡ false → o.closed ≡ [] → closed_behind o a ≡ a
none_parted o a stays none = ap (λ names. closed_all names (closed_if o.link o.closes a)) none ∙ (ap (λ b. closed_if o.link b a) stays ∙ same o.link) where
  same : (link : Option LinkId) → closed_if link false a ≡ a
  same None = refl
  same (Some l) = refl

-- .. and so is what it follows where that link isn't closed
follow_past : (l : LinkId) (f : LinkId × FollowState) → eq_by_cmp id_cmp f.0 l ≡ false → follow_without l (Some f) ≡ Some f
follow_past l f other = ap (λ b. cond b None (Some f)) other

cond_false : (v n : Bool) → cond v true n ≡ false → (v ≡ false) × (n ≡ false)
cond_false true n e = absurd (cc)
cond_false false n e = (refl, e)

closed_all_follow : (links : List LinkId) (a : NodeState) (f : LinkId × FollowState) → a.follow ≡ Some f → is_named links f.0 ≡ false
    → (closed_all links a).follow ≡ Some f
closed_all_follow [] a f is none = is
closed_all_follow (l ∷ links) a f is none =
    let apart = cond_false (eq_by_cmp id_cmp f.0 l) (is_named links f.0) none in
    closed_all_follow links (closed_at l a) f (ap (follow_without l) is ∙ follow_past l f apart.0) apart.1

closed_if_follow : (link : Option LinkId) (closes : Bool) (a : NodeState) (f : LinkId × FollowState) → a.follow ≡ Some f
    → ends_at link closes f.0 ≡ false → (closed_if link closes a).follow ≡ Some f
closed_if_follow None closes a f is none = is
closed_if_follow (Some l) true a f is none = ap (follow_without l) is ∙ follow_past l f none
closed_if_follow (Some l) false a f is none = is

or_false_both : (v n : Bool) → (v || n) ≡ false → (v ≡ false) × (n ≡ false)
or_false_both true n e = absurd (cc)
or_false_both false n e = (refl, e)

pub follow_stays : (o : OutsState) (a : NodeState) (f : LinkId × FollowState) → a.follow ≡ Some f → parting o f.0 ≡ false
    → (closed_behind o a).follow ≡ Some f
follow_stays o a f is stays =
    let apart = or_false_both (ends_at o.link o.closes f.0) (is_named o.closed f.0) stays in
    closed_all_follow o.closed (closed_if o.link o.closes a) f (closed_if_follow o.link o.closes a f is apart.0) apart.1

-- a node that follows nobody goes on so
closed_all_alone : (links : List LinkId) (a : NodeState) → a.follow ≡ None → (closed_all links a).follow ≡ None
closed_all_alone [] a none = none
closed_all_alone (l ∷ links) a none = closed_all_alone links (closed_at l a) (ap (follow_without l) none)

closed_if_alone : (link : Option LinkId) (closes : Bool) (a : NodeState) → a.follow ≡ None → (closed_if link closes a).follow ≡ None
closed_if_alone None closes a none = none
closed_if_alone (Some l) true a none = ap (follow_without l) none
closed_if_alone (Some l) false a none = none

pub alone_stays : (o : OutsState) (a : NodeState) → a.follow ≡ None → (closed_behind o a).follow ≡ None
alone_stays o a none = closed_all_alone o.closed (closed_if o.link o.closes a) (closed_if_alone o.link o.closes a none)

-- whom it follows behind them it followed before, and that link wasn't closed
past_follow : (l : LinkId) (o : Option (LinkId × FollowState)) (f : LinkId × FollowState) → follow_without l o ≡ Some f
    → (o ≡ Some f) × (eq_by_cmp id_cmp f.0 l ≡ false)
past_follow l None f e = absurd (cc)
past_follow l (Some g) f e = elim (eq_by_cmp id_cmp g.0 l) as (λ v. eq_by_cmp id_cmp g.0 l ≡ v → cond v None (Some g) ≡ Some f → (Some g ≡ Some f) × (eq_by_cmp id_cmp f.0 l ≡ false)) [
  | true ↦ λ q none. absurd (cc)
  | false ↦ λ q same. let one : g ≡ f = cc in (same, sym (ap (λ (z : LinkId × FollowState). eq_by_cmp id_cmp z.0 l) one) ∙ q)
] refl e

closed_all_followed : (links : List LinkId) (a : NodeState) (f : LinkId × FollowState) → (closed_all links a).follow ≡ Some f
    → (a.follow ≡ Some f) × (is_named links f.0 ≡ false)
closed_all_followed [] a f is = (is, refl)
closed_all_followed (l ∷ links) a f is =
    let behind = closed_all_followed links (closed_at l a) f is in
    let before = past_follow l a.follow f behind.0 in
    (before.0, ap (λ b. cond b true (is_named links f.0)) before.1 ∙ behind.1)

closed_if_followed : (link : Option LinkId) (closes : Bool) (a : NodeState) (f : LinkId × FollowState)
    → (closed_if link closes a).follow ≡ Some f → (a.follow ≡ Some f) × (ends_at link closes f.0 ≡ false)
closed_if_followed None true a f is = (is, refl)
closed_if_followed None false a f is = (is, refl)
closed_if_followed (Some l) true a f is = past_follow l a.follow f is
closed_if_followed (Some l) false a f is = (is, refl)

pub follow_was : (o : OutsState) (a : NodeState) (f : LinkId × FollowState) → (closed_behind o a).follow ≡ Some f
    → (a.follow ≡ Some f) × (parting o f.0 ≡ false)
follow_was o a f is =
    let named = closed_all_followed o.closed (closed_if o.link o.closes a) f is in
    let ended = closed_if_followed o.link o.closes a f named.0 in
    (ended.0, ap (λ b. b || is_named o.closed f.0) ended.1 ∙ named.1)

-- ---- where not all outs are carried out
pub spilled_core : (outs : List OutState) (m t : Stage) → Spilled outs m t → t.node.core ≡ m.node.core
spilled_core outs m t h = ap (λ (z : Stage). z.node.core) h.lacks ∙ carried_core h.done m h.before h.carried

pub torn_core : (outs : List OutState) (m t : Stage) → Torn outs m t → t.node.core ≡ m.node.core
torn_core outs m t h = ap (λ (z : NodeState). z.core) h.node ∙ carried_core h.done m h.before h.carried
