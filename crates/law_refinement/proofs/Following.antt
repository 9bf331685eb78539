-- What is true of a World is kept by a step at the link to a node's master.
use Rattle.std.proofs.Common.{◌≡◌, ◌≢◌, ◌-◌, ◌⊎◌, inl, inr, ℕ, List, [], ◌++◌, true, Option, None, Some, Ok, refl, sym, ap, subst, ◌∙◌, arith}
use Rattle.std.specs.Prelude.{slice_get}
use Rattle.mr_links.specs.declared.link_id.LinkId.{LinkId}
use Rattle.mr_keyspace.specs.Dataset.{Dataset}
use Rattle.mr_follower.specs.State.{FollowState, Agrees}
use Rattle.mr_replication.specs.State.{CourseState}
use Rattle.mr_replication.specs.Rows as course
use Rattle.mr_replication.specs.declared.upstream.UpstreamStep.{UpstreamStep}
use Rattle.mr_replication.specs.declared.upstream.UpstreamStep.TheVariants as outcome
use Rattle.mr_node_links.specs.State.EndState.{upstream}
use Rattle.mr_node_output.specs.Outs.{OutsState}
use Rattle.mr_node_spec.specs.State.{NodeState, FollowedAt, course_of, end_of}
use Rattle.mr_node_spec.specs.Sound.{IsSound}
use Rattle.law_refinement.specs.Way.{IsWay, WayState, left_on, no_way, unread}
use Rattle.law_refinement.specs.State.{Link, Slot, WorldState, a_node}
use Rattle.law_refinement.specs.Worlds.{IsUntouched, IsWorld, HasServer, HasMaster, end_for}
use Rattle.law_refinement.specs.Carrying.{behind, followed, heard_as, unread_count}
use Rattle.law_refinement.specs.Events.{IsFollowed, MasterStepsKeepWorlds}
use Rattle.law_refinement.proofs.Places.{set_here, set_there, set_cases, some_is}
use Rattle.law_refinement.proofs.Unread.{sent_way, unread_sent, left_used, rest_of}
use Rattle.law_refinement.proofs.Reading.{number_or}
use Rattle.law_refinement.proofs.Others.{KeepsEnds, served_end}
use Rattle.law_refinement.proofs.Beside.{keeps_behind}
use Rattle.law_refinement.proofs.Hearing as hearing
use Rattle.law_refinement.proofs.Masters.{counted}

-- the link at which the node read
record Heard (x y : Link) : Type 0 where
  waits : y.waits ≡ x.waits
  untouched : IsUntouched x → IsUntouched y
  to : y.to ≡ x.to
  name : y.name ≡ x.name
  caller : y.caller ≡ x.caller
  serving : y.serving ≡ x.serving
  streams : y.streams ≡ x.streams
  ask : IsWay x.ask → IsWay y.ask
  asked : IsWay x.ask → unread y.ask ≡ unread x.ask
  tell : IsWay x.tell → IsWay y.tell

-- nothing is left where nothing was sent
left_none : (way : WayState) (n : ℕ) → way ≡ no_way → left_on n way ≡ no_way
left_none way n e = let none : 0 - n ≡ 0 = omega arith in ap (left_on n) e ∙ ap (λ (z : ℕ). record no_way { used = z }) none

heard_one : (o : Option (LinkId × FollowState)) (reply : List ℕ) (x : Link) → Heard x (heard_as o reply x)
heard_one None reply x = record { waits = refl; untouched = λ h. h; to = refl; name = refl; caller = refl; serving = refl; streams = refl; ask = λ h. h; asked = λ h. refl; tell = λ h. h }
heard_one (Some f) reply x = record {
  waits = refl;
  untouched = λ h. record { serving = h.serving; streams = h.streams; ask = h.ask; tell = left_none x.tell (unread_count f.1) h.tell };
  to = refl;
  name = refl;
  caller = refl;
  serving = refl;
  streams = refl;
  ask = λ h. sent_way x.ask reply h;
  asked = λ h. unread_sent x.ask reply h;
  tell = λ h. record { used_within = omega arith; taken_within = h.taken_within };
}

same_link : (x : Link) → Heard x x
same_link x = record { waits = refl; untouched = λ h. h; to = refl; name = refl; caller = refl; serving = refl; streams = refl; ask = λ h. h; asked = λ h. refl; tell = λ h. h }

-- The bytes end in these, which are left, and which what reads there agrees with.
pub record Reads (u : List ℕ) (g : FollowState) : Type 0 where
  pub text : List ℕ
  pub rest : List ℕ
  pub is : u ≡ text ++ rest
  pub agrees : Agrees g rest

-- What a step does to the node: the ends that it serves stay, and it reads on at this link, or nowhere.
pub record Read (a : NodeState) (name : LinkId) (u : List ℕ) (b : NodeState) : Type 0 where
  pub keeps : KeepsEnds a b
  pub follow : (x : LinkId) (g : FollowState) → b.follow ≡ Some (x, g) → (x ≡ name) × Reads u g
  pub sound : IsSound b

one_node : (m n : ℕ) (x y : LinkId) → a_node m x ≡ a_node n y → m ≡ n
one_node m n x y e = cc

module _ (w : WorldState) (is : IsWorld w) (n : ℕ) (s : Slot) (k : Link) (name : LinkId) (f : FollowState) (b : NodeState) (outs : OutsState) (here : IsFollowed w n s k) (following : s.node.follow ≡ Some (name, f)) (read : Read s.node name (unread k.tell) b) where
  abbrev V : WorldState
  V = followed w n s k b outs

  abbrev m : Link
  m = heard_as b.follow outs.reply k

  caller_is : k.caller ≡ a_node n name
  caller_is = let h = is.followers n s name f here.at here.up following in ap (λ (z : Link). z.caller) (some_is k h.link (sym here.found ∙ h.found)) ∙ h.caller

  origin : (j : ℕ) (y : Link) → slice_get V.links j ≡ Some y → (x : Link) × (slice_get w.links j ≡ Some x) × Heard x y
  origin j y e = go (set_cases w.links s.dialled j m y e)
    where
      go : ((j ≡ s.dialled) × (y ≡ m)) ⊎ ((j ≢ s.dialled) × (slice_get w.links j ≡ Some y)) → (x : Link) × (slice_get w.links j ≡ Some x) × Heard x y
      go (inl p) = (k, ap (slice_get w.links) p.0 ∙ here.found, subst (λ z. Heard k z) (sym p.1) (heard_one b.follow outs.reply k))
      go (inr p) = (y, p.1, same_link y)

  server_of : (j : ℕ) (x y : Link) → slice_get w.links j ≡ Some x → Heard x y → (x.to ≡ n) ⊎ (x.to ≢ n) → HasServer V.slots y
  server_of j x y e h (inl at) = record {
    slot = behind s b outs;
    found = ap (slice_get V.slots) (h.to ∙ at) ∙ set_here w.slots n (behind s b outs) s here.at;
    agrees = λ up q. let its = served_end w is n s here.at here.up j x e at (sym h.serving ∙ q) in (
      its.0,
      ap (end_of b) h.name
          ∙ (read.keeps.all x.name x.streams its.0 (unread x.ask) its.1
          ∙ (ap (λ z. Some (end_for z its.0 (unread x.ask))) (sym h.streams) ∙ ap (λ z. Some (end_for y.streams its.0 z)) (sym (h.asked (is.asks j x e))))),
    );
  }
  server_of j x y e h (inr ne) = let o = is.servers j x e in record {
    slot = o.slot;
    found = ap (slice_get V.slots) h.to ∙ (set_there w.slots n x.to (behind s b outs) ne ∙ o.found);
    agrees = λ up q. let its = o.agrees up (sym h.serving ∙ q) in (
      its.0,
      ap (end_of o.slot.node) h.name
          ∙ (its.1 ∙ (ap (λ z. Some (end_for z its.0 (unread x.ask))) (sym h.streams) ∙ ap (λ z. Some (end_for y.streams its.0 z)) (sym (h.asked (is.asks j x e))))),
    );
  }

  -- its own link carries what it has of it
  mine : (x : LinkId) (g : FollowState) → b.follow ≡ Some (x, g) → HasMaster V.links n (behind s b outs) x g
  mine x g e = let r = read.follow x g e in let reads = r.1 in
      let way = is.tells s.dialled k here.found in
      let left : unread (left_on (unread_count g) k.tell) ≡ reads.rest = ap unread (left_used k.tell reads.text reads.rest (unread_count g) way reads.is (counted g reads.rest reads.agrees)) ∙ rest_of k.tell reads.text reads.rest reads.is in
      record {
        link = m;
        found = set_here w.links s.dialled m k here.found;
        caller = (heard_one b.follow outs.reply k).caller ∙ (caller_is ∙ ap (λ z. a_node n z) (sym r.0));
        agrees = subst (λ o. Agrees g (unread (heard_as o outs.reply k).tell)) (sym e) (subst (λ u. Agrees g u) (sym left) reads.agrees);
      }

  other : (i : ℕ) (t : Slot) (x : LinkId) (g : FollowState) → i ≢ n → HasMaster w.links i t x g → HasMaster V.links i t x g
  other i t x g ne h = record {
    link = h.link;
    found = set_there w.links s.dialled t.dialled m apart ∙ h.found;
    caller = h.caller;
    agrees = h.agrees;
  }
    where
      apart : t.dialled ≢ s.dialled
      apart same = ne (one_node i n x name (sym h.caller ∙ (ap (λ (z : Link). z.caller) (some_is h.link k (sym h.found ∙ (ap (slice_get w.links) same ∙ here.found))) ∙ caller_is)))

  pub kept_followed : IsWorld V
  kept_followed = record {
    asks = λ j y e. let x = origin j y e in x.2.ask (is.asks j x.0 x.1);
    tells = λ j y e. let x = origin j y e in x.2.tell (is.tells j x.0 x.1);
    servers = λ j y e. let x = origin j y e in server_of j x.0 y x.1 x.2 (number_or x.0.to n);
    untouched = λ j y e u. let x = origin j y e in x.2.untouched (is.untouched j x.0 x.1 (sym x.2.waits ∙ u));
    names = λ i j y z e g p q t l.
        let x = origin i y e in
        let v = origin j z g in
        is.names i j x.0 v.0 x.1 v.1 (sym x.2.serving ∙ p) (sym v.2.serving ∙ q) (sym x.2.to ∙ (t ∙ v.2.to)) (sym x.2.name ∙ (l ∙ v.2.name));
    nodes = λ i t e u. node_of i t (set_cases w.slots n i (behind s b outs) t e) u;
    followers = λ i t x g e u q. follower_of i t x g (set_cases w.slots n i (behind s b outs) t e) u q;
  }
    where
      node_of : (i : ℕ) (t : Slot) → ((i ≡ n) × (t ≡ behind s b outs)) ⊎ ((i ≢ n) × (slice_get w.slots i ≡ Some t)) → t.node.core.up ≡ true → IsSound t.node
      node_of i t (inl p) u = subst (λ (z : Slot). IsSound z.node) (sym p.1) read.sound
      node_of i t (inr p) u = is.nodes i t p.1 u

      follower_of : (i : ℕ) (t : Slot) (x : LinkId) (g : FollowState) → ((i ≡ n) × (t ≡ behind s b outs)) ⊎ ((i ≢ n) × (slice_get w.slots i ≡ Some t)) → t.node.core.up ≡ true → t.node.follow ≡ Some (x, g) → HasMaster V.links i t x g
      follower_of i t x g (inl p) u q = subst (λ z. HasMaster V.links z t x g) (sym p.0) (subst (λ z. HasMaster V.links n z x g) (sym p.1) (mine x g (ap (λ (z : Slot). z.node.follow) (sym p.1) ∙ q)))
      follower_of i t x g (inr p) u q = other i t x g p.0 (is.followers i t x g p.1 u q)

-- ---- the rows
pub pair_is : (x y : LinkId) (g h : FollowState) → ◌≡◌ {A = Option (LinkId × FollowState)} (Some (x, g)) (Some (y, h)) → (y ≡ x) × (h ≡ g)
pair_is x y g h e = let p = both_are (x, g) (y, h) e in (sym (ap (λ (z : LinkId × FollowState). z.0) p), sym (ap (λ (z : LinkId × FollowState). z.1) p))
  where
    both_are : (p q : LinkId × FollowState) → ◌≡◌ {A = Option (LinkId × FollowState)} (Some p) (Some q) → p ≡ q
    both_are p q e = cc

module _ (a : NodeState) (name : LinkId) (f : FollowState) (u : List ℕ) (g : FollowState) (c : CourseState) (m : Dataset) (told : List ℕ) where
  abbrev Reading : Type 0
  Reading = (x : LinkId) (h : FollowState) → c.follow ≡ Some (x, h) → (x ≡ name) × Reads u h

  on : c.follow ≡ Some (name, g) → Reads u g → Reading
  on e r x h q = let p = pair_is name x g h (sym e ∙ q) in (p.0, subst (λ z. Reads u z) (sym p.1) r)

  off : c.follow ≡ None → Reading
  off e x h q = absurd (none_there (x, h) (sym e ∙ q))
    where
      none_there : (p : LinkId × FollowState) → ◌≡◌ {A = Option (LinkId × FollowState)} None (Some p) → ⊥
      none_there p e = cc

  pub reads_by : (step : UpstreamStep) → course.UpstreamRow (course_of a) a.core.held name f u g (Ok step) c m told → Reading
  reads_by outcome.Idle r = on (ap (λ (z : CourseState). z.follow) r.is) (record { text = []; rest = u; is = refl; agrees = r.stays.state.agrees })
  reads_by outcome.Said r = on (ap (λ (z : CourseState). z.follow) r.is) (record { text = r.greets.answer.text; rest = r.greets.rest; is = r.greets.answer.is; agrees = r.greets.state.agrees })
  reads_by outcome.Announced r = on (ap (λ (z : CourseState). z.follow) r.is) (record { text = r.answers.answer.text; rest = r.answers.rest; is = r.answers.answer.is; agrees = r.answers.state.agrees })
  reads_by outcome.Continued r = on (ap (λ (z : CourseState). z.follow) r.is) (record { text = r.answers.answer.text; rest = r.answers.rest; is = r.answers.answer.is; agrees = r.answers.state.agrees })
  reads_by outcome.Loaded r = let whole = hearing.loaded f g u told m r.installs in on (ap (λ (z : CourseState). z.follow) r.is) (record { text = whole.text; rest = r.installs.rest; is = whole.begins; agrees = r.installs.state.agrees })
  reads_by outcome.Applied r = on (ap (λ (z : CourseState). z.follow) r.is) (record { text = told; rest = r.follows.rest; is = r.follows.begins; agrees = r.follows.state.agrees })
  reads_by outcome.Left r = off (ap (λ (z : CourseState). z.follow) r.is)
  reads_by outcome.Spoiled r = off (ap (λ (z : CourseState). z.follow) r.is)

pub masters_keep : MasterStepsKeepWorlds
masters_keep w n s k name step b outs is here sound r =
    let h = r.listens in
    let before = is.nodes n s here.at here.up in
    let master = is.followers n s h.name h.follow here.at here.up h.found in
    let agrees : Agrees h.follow (unread k.tell) = subst (λ (z : Link). Agrees h.follow (unread z.tell)) (some_is master.link k (sym master.found ∙ here.found)) master.agrees in
    let up : end_of s.node name ≡ Some upstream = ap (end_of s.node) (sym r.named) ∙ subst (λ o. FollowedAt s.node.ends o) h.found before.node.followed in
    kept_followed w is n s k h.name h.follow b outs here h.found (record {
      keeps = keeps_behind s.node b step name up (ap (λ (z : NodeState). z.core.up) r.node) (ap (λ (z : NodeState). z.ends) r.node);
      follow = λ x g e. reads_by s.node h.name h.follow (unread k.tell) h.next r.course b.core.held r.told step (h.row (unread k.tell) agrees) x g (sym (ap (λ (z : NodeState). z.follow) r.node) ∙ e);
      sound = sound;
    })
