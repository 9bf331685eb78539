-- The files of a World's nodes make their datasets, behind each event.
use Rattle.std.proofs.Common.{zero, suc, ◌≡◌, ◌≢◌, ◌⊎◌, inl, inr, ℕ, List, [], ◌∷◌, ◌++◌, Bool, true, false, Option, None, Some, length, refl, sym, ap, subst, ◌∙◌, append-nil, append_assoc, arith}
use Rattle.std.specs.Prelude.{slice_get, slice_set}
use Rattle.mr_links.specs.declared.link_id.LinkId.{LinkId}
use Rattle.mr_follower.specs.State.{FollowState}
use Rattle.mr_groups.specs.Effects.{Makes}
use Rattle.mr_groups.specs.Folding.{MakesByGroups}
use Rattle.mr_groups.proofs.Runs.{makes_nothing}
use Rattle.mr_groups.proofs.Going.{makes_further}
use Rattle.mr_groups.proofs.Singles.{makes_by_singles}
use Rattle.mr_node_output.specs.Outs.{OutsState, no_outs}
use Rattle.mr_node_spec.specs.State.{NodeState, MasterAgrees}
use Rattle.mr_node_spec.specs.Growing.{rebuilt}
use Rattle.mr_node_spec.specs.LinkRows.{closed_at}
use Rattle.law_refinement.specs.Way.{unread}
use Rattle.law_refinement.specs.State.{Link, Slot, WorldState}
use Rattle.law_refinement.specs.Worlds.{IsWorld, no_world}
use Rattle.law_refinement.specs.Events.{IsFollowed}
use Rattle.law_refinement.specs.Carrying.{behind, filed_by, begun_slot}
use Rattle.law_refinement.proofs.Places.{set_cases, push_cases, some_is}
use Rattle.law_files.specs.Filing.{DoesToFile, Files, KeepsFile, Keeps}
use Rattle.law_files.specs.Worlds.{FilesLoad, NothingHasFiles, HasGrown, FileBegins, FileGoesOn, FilesGoOn, FilesStayFolded, GoOn, GrownSince, FilesAreTrue, ClientStepsGoOn, WithinStepsGoOn, ReplicaStepsGoOn, IdleStepsGoOn, StopsGoOn, MasterStepsGoOn, MasterWaitsGoOn, MasterLacksGoOn, TicksGoOn, OpensGoOn, DialsGoOn, ConnectsGoOn, AcceptsGoOn, FeedsGoOn, BreaksGoOn, OthersGoOn, StartsGoOn, RestartsGoOn, EmptyFilesMakeNothing, WhatLoadsMakes}
use Rattle.law_files.proofs.Filing.{grows_leads, grow_on, read_whole, kept_grows, kept_stay}
use Rattle.law_files.proofs.Clients.{client_files, replica_keeps, idle_keeps, within_files}
use Rattle.law_files.proofs.Masters.{master_files, waits_keep, lacks_keep}
use Rattle.law_files.proofs.Times.{ticks_file}
use Rattle.law_files.proofs.Links.{opens_keep, dials_keep, feeds_keep, breaks_keep}

-- ---- what becomes of one file
pub same_grown : (s : Slot) → HasGrown s s
same_grown s = record { bytes = []; file = sym (append-nil s.file); grows = kept_grows s.node.core s.node.core refl refl }

pub grown_on : (r s t : Slot) → HasGrown r s → HasGrown s t → HasGrown r t
grown_on r s t g h = record {
  bytes = g.bytes ++ h.bytes;
  file = h.file ∙ (ap (λ (z : List ℕ). z ++ h.bytes) g.file ∙ append_assoc r.file g.bytes h.bytes);
  grows = grow_on r.node.core s.node.core t.node.core g.bytes h.bytes g.grows h.grows;
}

-- a call that keeps the file
kept_grown : (s : Slot) (b : NodeState) (dialled : ℕ) (appended : List ℕ) (replaced : Option (List ℕ)) → KeepsFile s.node.core b.core appended replaced → HasGrown s (record s { node = b; dialled = dialled })
kept_grown s b dialled appended replaced k = record { bytes = []; file = sym (append-nil s.file); grows = kept_grows s.node.core b.core k.held k.stream }

-- ---- a list of slots of which one is another
goes_set : (slots : List Slot) (n : ℕ) (t : Slot) → (t.node.core.up ≡ true → FileGoesOn slots n t) → (j : ℕ) (x : Slot) → slice_get (slice_set slots n t) j ≡ Some x → x.node.core.up ≡ true → FileGoesOn slots j x
goes_set slots n t one j x there up = go (set_cases slots n j t x there)
  where
    go : ((j ≡ n) × (x ≡ t)) ⊎ ((j ≢ n) × (slice_get slots j ≡ Some x)) → FileGoesOn slots j x
    go (inl p) = subst (λ (i : ℕ). FileGoesOn slots i x) (sym p.0) (subst (FileGoesOn slots n) (sym p.1) (one (subst (λ (z : Slot). z.node.core.up ≡ true) p.1 up)))
    go (inr p) = FileGoesOn.grows x p.1 up (same_grown x)

-- .. that of a node behind a call, with its file
does_to_slot : (slots : List Slot) (n : ℕ) (s : Slot) (b : NodeState) (outs : OutsState) → slice_get slots n ≡ Some s → s.node.core.up ≡ true → Files s.node b outs → FileGoesOn slots n (behind s b outs)
does_to_slot slots n s b outs at up (DoesToFile.grows g none) =
    FileGoesOn.grows s at up (record { bytes = outs.appended; file = ap (λ (o : Option (List ℕ)). filed_by o (s.file ++ outs.appended)) none; grows = g })
does_to_slot slots n s b outs at up (DoesToFile.replaces none whole again) =
    let is : filed_by outs.replaced (s.file ++ outs.appended) ≡ rebuilt b.core.held = ap (λ (o : Option (List ℕ)). filed_by o (s.file ++ outs.appended)) whole in
    FileGoesOn.begins (FileBegins.rewritten is (subst (λ (z : List ℕ). Makes z b.core.held) (sym is) again))

module _ (w : WorldState) (n : ℕ) (s : Slot) (b : NodeState) (at : slice_get w.slots n ≡ Some s) (up : s.node.core.up ≡ true) where
  goes_behind : (outs : OutsState) → Files s.node b outs → (j : ℕ) (x : Slot) → slice_get (slice_set w.slots n (behind s b outs)) j ≡ Some x → x.node.core.up ≡ true → FileGoesOn w.slots j x
  goes_behind outs f = goes_set w.slots n (behind s b outs) (λ _. does_to_slot w.slots n s b outs at up f)

  pub goes_kept : Keeps s.node b no_outs → (j : ℕ) (x : Slot) → slice_get (slice_set w.slots n (record s { node = b })) j ≡ Some x → x.node.core.up ≡ true → FileGoesOn w.slots j x
  goes_kept k = goes_set w.slots n (record s { node = b }) (λ _. FileGoesOn.grows s at up (kept_grown s b s.dialled [] None k))

-- ---- files that go on make what they are to make
begun_makes : (t : Slot) → FileBegins t → MakesByGroups t.file t.node.core.held
begun_makes t (FileBegins.rewritten is makes) = makes_by_singles t.file t.node.core.held makes
begun_makes t (FileBegins.starts as_replica port backlog id m is makes) = subst (λ z. MakesByGroups t.file z) (ap (λ (z : NodeState). z.core.held) (sym is)) makes

grown_makes : (s t : Slot) → HasGrown s t → MakesByGroups s.file s.node.core.held → MakesByGroups t.file t.node.core.held
grown_makes s t g makes = subst (λ (z : List ℕ). MakesByGroups z t.node.core.held) (sym g.file)
    (makes_further s.file g.bytes s.node.core.held t.node.core.held makes (grows_leads s.node.core t.node.core g.bytes g.grows))

pub stay_folded : FilesStayFolded
stay_folded w v fold goes n t at up = go (goes n t at up)
  where
    go : FileGoesOn w.slots n t → MakesByGroups t.file t.node.core.held
    go (FileGoesOn.grows s there was_up g) = grown_makes s t g (fold n s there was_up)
    go (FileGoesOn.begins b) = begun_makes t b

pub files_load : FilesLoad
files_load w n s fold at up = read_whole s.file s.node.core.held (fold n s at up)

none_there : {A P : Type 0} (n : ℕ) (s : A) → slice_get [] n ≡ Some s → P
none_there n s e = absurd (cc)

pub nothing_has_files : NothingHasFiles
nothing_has_files n s at up = none_there n s at

-- ---- over Worlds one after another
-- two Worlds beside one another
beside : (w : WorldState) (vs : List WorldState) (k : ℕ) (v : WorldState) → GoOn w vs → slice_get vs k ≡ Some v → (u : WorldState) × (slice_get (w ∷ vs) k ≡ Some u) × FilesGoOn u v
beside w [] k v go e = none_there k v e
beside w (x ∷ vs) zero v go e = (w, refl, subst (FilesGoOn w) (some_is x v e) go.0)
beside w (x ∷ vs) (suc k) v go e = beside x vs k v go.1 e

module _ (moments : List WorldState) (go : GoOn no_world moments) where
  -- what is known of the World before tells of the next one
  next : (k : ℕ) (u v : WorldState) → slice_get (no_world ∷ moments) (suc k) ≡ Some v → ((n : ℕ) (s : Slot) → slice_get u.slots n ≡ Some s → s.node.core.up ≡ true → GrownSince moments n k s)
      → (n : ℕ) (t : Slot) → slice_get v.slots n ≡ Some t → FileGoesOn u.slots n t → GrownSince moments n (suc k) t
  next k u v e known n t at (FileGoesOn.grows s there was_up g) =
      let r = known n s there was_up in
      let earlier = r.before in
      record { since = r.since; before = omega (arith, earlier); world = r.world; moment = r.moment; slot = r.slot; there = r.there; begins = r.begins; grown = grown_on r.slot s t r.grown g }
  next k u v e known n t at (FileGoesOn.begins x) = record { since = suc k; before = omega arith; world = v; moment = e; slot = t; there = at; begins = x; grown = same_grown t }

  since : (k : ℕ) (v : WorldState) → slice_get (no_world ∷ moments) k ≡ Some v → (n : ℕ) (t : Slot) → slice_get v.slots n ≡ Some t → t.node.core.up ≡ true → GrownSince moments n k t
  since zero v e n t at up = none_there n t (ap (λ (z : WorldState). slice_get z.slots n) (some_is no_world v e) ∙ at)
  since (suc k) v e n t at up = let b = beside no_world moments k v go e in next k b.0 v e (since k b.0 b.1) n t at (b.2 n t at up)

pub files_are_true : FilesAreTrue
files_are_true moments k v go e n t at up = let r = since moments go k v e n t at up in (grown_makes r.slot t r.grown (begun_makes r.slot r.begins), r)

-- ---- steps
pub client_steps : ClientStepsGoOn
client_steps w n l k s name u given fresh b outs at up r = goes_behind w n s b at up outs (client_files s.node b name u given fresh outs r)

pub within_steps : WithinStepsGoOn
within_steps w n l k s name t u given b outs at up r = goes_behind w n s b at up outs (within_files s.node b name t u given outs r)

pub replica_steps : ReplicaStepsGoOn
replica_steps w n l k s name u b outs at up r = goes_behind w n s b at up outs (kept_stay s.node b outs s.file (replica_keeps s.node b name u outs r)).0

pub idle_steps : IdleStepsGoOn
idle_steps w n s u b at up r = goes_kept w n s b at up (idle_keeps s.node b u r)

down_up : {P : Type 0} (c : Bool) → c ≡ false → c ≡ true → P
down_up c p q = absurd (cc)

pub stops : StopsGoOn
stops w n s b down = goes_set w.slots n (record s { node = b }) (λ up. down_up b.core.up down up)

-- ---- the link to the master: the bytes that are unread on it agree
agrees_there : (w : WorldState) (n : ℕ) (s : Slot) (k : Link) (name l : LinkId) (f : FollowState) → IsWorld w → IsFollowed w n s k → s.node.follow ≡ Some (name, f) → name ≡ l → (u : List ℕ) × MasterAgrees s.node l u
agrees_there w n s k name l f is followed follows named =
    let h = is.followers n s name f followed.at followed.up follows in
    (unread h.link.tell, record { reader = f; found = follows ∙ ap (λ z. Some (z, f)) named; agrees = h.agrees })

pub master_steps : MasterStepsGoOn
master_steps w n s k name step b outs is followed r =
    let u = agrees_there w n s k r.listens.name name r.listens.follow is followed r.listens.found r.named in
    goes_behind w n s b followed.at followed.up outs (master_files s.node b name u.0 step outs u.1 r)

pub master_waits : MasterWaitsGoOn
master_waits w n s k name b is followed r =
    let u = agrees_there w n s k r.listens.name name r.listens.follow is followed r.listens.found r.named in
    goes_behind w n s b followed.at followed.up no_outs (kept_stay s.node b no_outs s.file (waits_keep s.node b name u.0 u.1 r)).0

pub master_lacks : MasterLacksGoOn
master_lacks w n s k name b is followed r =
    let u = agrees_there w n s k r.listens.name name r.listens.follow is followed r.listens.found r.named in
    goes_behind w n s b followed.at followed.up no_outs (kept_stay s.node b no_outs s.file (lacks_keep s.node b name u.0 u.1 r)).0

-- ---- time, and links
pub ticks : TicksGoOn
ticks w n s now b outs at up r = goes_behind w n s b at up outs (ticks_file s.node b now outs r)

pub opens : OpensGoOn
opens w n s name b at up r = goes_kept w n s b at up (opens_keep s.node b name r)

-- the node that dials may be the one that is dialled
pub dials : DialsGoOn
dials w n m s t name at b c outs there runs r here up d = goes
  where
    opened_slot : Slot
    opened_slot = record t { node = c }

    dialled_slot : Slot
    dialled_slot = record s { node = b; dialled = length w.links }

    grown : HasGrown s dialled_slot
    grown = kept_grown s b (length w.links) outs.appended outs.replaced (dials_keep s.node b name outs d)

    first : HasGrown t opened_slot
    first = kept_grown t c t.dialled [] None (opens_keep t.node c at r)

    dialler : ((n ≡ m) × (s ≡ opened_slot)) ⊎ ((n ≢ m) × (slice_get w.slots n ≡ Some s)) → FileGoesOn w.slots n dialled_slot
    dialler (inl p) = FileGoesOn.grows t (ap (slice_get w.slots) p.0 ∙ there) runs (grown_on t s dialled_slot (subst (HasGrown t) (sym p.1) first) grown)
    dialler (inr p) = FileGoesOn.grows s p.1 up grown

    server : (j : ℕ) (x : Slot) → slice_get (slice_set w.slots m opened_slot) j ≡ Some x → x.node.core.up ≡ true → FileGoesOn w.slots j x
    server = goes_set w.slots m opened_slot (λ _. FileGoesOn.grows t there runs first)

    goes : (j : ℕ) (x : Slot) → slice_get (slice_set (slice_set w.slots m opened_slot) n dialled_slot) j ≡ Some x → x.node.core.up ≡ true → FileGoesOn w.slots j x
    goes j x found is_up = one (set_cases (slice_set w.slots m opened_slot) n j dialled_slot x found)
      where
        one : ((j ≡ n) × (x ≡ dialled_slot)) ⊎ ((j ≢ n) × (slice_get (slice_set w.slots m opened_slot) j ≡ Some x)) → FileGoesOn w.slots j x
        one (inl p) = subst (λ (i : ℕ). FileGoesOn w.slots i x) (sym p.0) (subst (FileGoesOn w.slots n) (sym p.1) (dialler (set_cases w.slots m n opened_slot s here)))
        one (inr p) = server j x p.1 is_up

pub connects : ConnectsGoOn
connects w n s name b outs at up d = goes_set w.slots n (record s { node = b; dialled = length w.links })
    (λ _. FileGoesOn.grows s at up (kept_grown s b (length w.links) outs.appended outs.replaced (dials_keep s.node b name outs d)))

pub accepts : AcceptsGoOn
accepts w l m k t at c there up o = goes_kept w m t c there up (opens_keep t.node c at o)

pub feeds : FeedsGoOn
feeds w n l k s name count bytes b at up r = let f = goes_kept w n s b at up (feeds_keep s.node b name bytes r) in (f, f)

pub breaks : BreaksGoOn
breaks w n l k s name at up = let f = goes_kept w n s (closed_at name s.node) at up (breaks_keep s.node name) in (f, f)

pub others : OthersGoOn
others w v same n t at up = FileGoesOn.grows t (ap (λ (z : List Slot). slice_get z n) (sym same) ∙ at) up (same_grown t)

-- ---- nodes that begin
pub starts : StartsGoOn
starts w as_replica port backlog id file m makes j x there up = go (push_cases w.slots (begun_slot as_replica port backlog id m file) j x there)
  where
    begins : FileBegins (begun_slot as_replica port backlog id m file)
    begins = FileBegins.starts as_replica port backlog id m refl makes

    go : ((j ≡ length w.slots) × (x ≡ begun_slot as_replica port backlog id m file)) ⊎ (slice_get w.slots j ≡ Some x) → FileGoesOn w.slots j x
    go (inl p) = FileGoesOn.begins (subst FileBegins (sym p.1) begins)
    go (inr p) = FileGoesOn.grows x p up (same_grown x)

pub restarts : RestartsGoOn
restarts w n as_replica port backlog id kept start m makes = goes_set w.slots n (begun_slot as_replica port backlog id m kept) (λ _. FileGoesOn.begins (FileBegins.starts as_replica port backlog id m refl makes))

pub empty_makes : EmptyFilesMakeNothing
empty_makes = makes_nothing

pub what_loads : WhatLoadsMakes
what_loads found used m loads = loads.made
