-- What the follower heard and what the course does of it are one row.
use Rattle.std.proofs.Common.{◌≡◌, ◌∙◌, ◌≤◌, inl, inr, ℕ, List, Option, Some, Result, Ok, Err, sym, ap, subst}
use Rattle.mr_links.specs.declared.link_id.LinkId.{LinkId}
use Rattle.mr_keyspace.specs.Dataset.{Dataset}
use Rattle.mr_repl.specs.Backlog.{offset_limit}
use Rattle.mr_follower.specs.State.{FollowState}
use Rattle.mr_follower.specs.Rows.{FollowRow, Keeps, Installs, Follows, Stays}
use Rattle.mr_follower.specs.declared.phase.Phase.TheVariants as phase
use Rattle.mr_follower.specs.declared.heard.Heard.{Heard}
use Rattle.mr_follower.specs.declared.heard.Heard.TheVariants as heard
use Rattle.mr_follower.specs.declared.heard.FollowFault.{FollowFault}
use Rattle.mr_follower.specs.declared.heard.FollowFault.TheVariants as refusal
use Rattle.mr_replication.specs.State.{CourseState, reads_on, adopts}
use Rattle.mr_replication.specs.Heard.{place_of, IsCounted, IsReady, HeardAs, GivesUp, adopted}
use Rattle.mr_replication.specs.Rows.{UpstreamRow}
use Rattle.mr_replication.specs.declared.upstream.UpstreamStep.{UpstreamStep}
use Rattle.mr_replication.specs.declared.upstream.UpstreamStep.TheVariants as up
use Rattle.mr_replication.specs.declared.upstream.UpstreamFault.{UpstreamFault}

module _ (c : CourseState) (m : Dataset) (name : LinkId) (f : FollowState) (place : Option (List ℕ × ℕ)) (places : place ≡ place_of f.phase) (u : List ℕ) where
  -- where a snapshot is announced
  placed : (id : List ℕ) (offset : ℕ) → f.phase ≡ phase.Snapshot id offset → place ≡ Some (id, offset)
  placed id offset e = places ∙ ap place_of e

  pub ready : (h : Heard) (g : FollowState) (k : Dataset) (told : List ℕ) → IsCounted place → FollowRow f u m c.lineage.stream.offset (Ok h) g k told → IsReady h place told (reads_on name g c)
  ready heard.Idle g k told counted r = tt
  ready heard.Say g k told counted r = tt
  ready (heard.Full id offset) g k told counted r = tt
  ready (heard.Continue id) g k told counted r = tt
  ready (heard.Snapshot loaded) g k told counted r = let i = r.0 in let there = placed i.id i.offset i.announced in
      let within : i.offset ≤ offset_limit = subst IsCounted there counted in
      subst (λ (p : Option (List ℕ × ℕ)). IsReady (heard.Snapshot loaded) p told (reads_on name g c)) (sym there) within
  ready heard.Applied g k told counted r = r.within

  kept : (k n : Dataset) (told : List ℕ) → Keeps m k told → n ≡ k → Keeps m n told
  kept k n told t e = record { held = e ∙ t.held; silent = t.silent }

  pub heard_row : (h : Heard) (g : FollowState) (k : Dataset) (told : List ℕ) (s : UpstreamStep) (d : CourseState) (n : Dataset) → FollowRow f u m c.lineage.stream.offset (Ok h) g k told
      → HeardAs h place told (reads_on name g c) k s d n → UpstreamRow c m name f u g (Ok s) d n told
  heard_row heard.Idle g k told s d n r h = subst (λ (z : UpstreamStep). UpstreamRow c m name f u g (Ok z) d n told) (sym h.0)
      (record { waits = r.0; stays = subst (λ (z : Dataset). Stays f u m g z told) (sym h.1.1) r.1; is = h.1.0 })
  heard_row heard.Say g k told s d n r h = subst (λ (z : UpstreamStep). UpstreamRow c m name f u g (Ok z) d n told) (sym h.0) (record { greets = r.0; held = h.1.1 ∙ r.1; is = h.1.0 })
  heard_row (heard.Full id offset) g k told s d n r h = subst (λ (z : UpstreamStep). UpstreamRow c m name f u g (Ok z) d n told) (sym h.0)
      (record { id = id; offset = offset; answers = r.0; keeps = kept k n told r.1 h.1.1; is = h.1.0 })
  heard_row (heard.Continue id) g k told s d n r h = subst (λ (z : UpstreamStep). UpstreamRow c m name f u g (Ok z) d n told) (sym h.0)
      (record { id = id; offered = r.0.0; answers = r.0.1; keeps = kept k n told r.1 h.1.1; is = h.1.0 })
  heard_row (heard.Snapshot loaded) g k told s d n r h = let i = r.0 in subst (λ (z : UpstreamStep). UpstreamRow c m name f u g (Ok z) d n told) (sym h.0)
      (loads loaded g told d n i h.1.1 (h.1.0 ∙ ap (λ (p : Option (List ℕ × ℕ)). adopted p (reads_on name g c)) (placed i.id i.offset i.announced)))
    where
      loads : (loaded : Dataset) (g : FollowState) (told : List ℕ) (d : CourseState) (n : Dataset) (i : Installs f u loaded g told) → n ≡ loaded → d ≡ adopts i.id i.offset (reads_on name g c) → UpstreamRow c m name f u g (Ok up.Loaded) d n told
      loads loaded g told d n i e is = subst (λ (z : Dataset). UpstreamRow c m name f u g (Ok up.Loaded) d z told) (sym e) (record { installs = i; is = is })
  heard_row heard.Applied g k told s d n r h = subst (λ (z : UpstreamStep). UpstreamRow c m name f u g (Ok z) d n told) (sym h.0)
      (record { follows = subst (λ (z : Dataset). Follows f u m c.lineage.stream.offset g z told) (sym h.1.1) r; is = h.1.0 })

  still : (g : FollowState) (n : Dataset) (told : List ℕ) → Stays f u m g n told → Keeps m n told
  still g n told t = record { held = t.held; silent = t.silent }

  pub fault_row : (e : FollowFault) (g : FollowState) (n : Dataset) (told : List ℕ) (s : Result UpstreamStep UpstreamFault) (d : CourseState) → FollowRow f u m c.lineage.stream.offset (Err e) g n told
      → GivesUp e (reads_on name g c) s d → UpstreamRow c m name f u g s d n told
  fault_row refusal.BadLine g n told s d r h = subst (λ (z : Result UpstreamStep UpstreamFault). UpstreamRow c m name f u g z d n told) (sym h.0) (record { cause = inl r.0; keeps = still g n told r.1; is = h.1 })
  fault_row refusal.Refused g n told s d r h = subst (λ (z : Result UpstreamStep UpstreamFault). UpstreamRow c m name f u g z d n told) (sym h.0) (record { cause = inr r.0; keeps = still g n told r.1; is = h.1 })
  fault_row refusal.Undecodable g n told s d r h = subst (λ (z : Result UpstreamStep UpstreamFault). UpstreamRow c m name f u g z d n told) (sym h.0) (record { cause = r.0; keeps = still g n told r.1; is = h.1 })
  fault_row refusal.Memory g n told s d r h = subst (λ (z : Result UpstreamStep UpstreamFault). UpstreamRow c m name f u g z d n told) (sym h.0) (record { cause = r.0; stays = r.1; is = h.1 })
  fault_row refusal.Spent g n told s d r h = subst (λ (z : Result UpstreamStep UpstreamFault). UpstreamRow c m name f u g z d n told) (sym h.0) (record { cause = inl r; is = h.1 })
  fault_row refusal.Torn g n told s d r h = subst (λ (z : Result UpstreamStep UpstreamFault). UpstreamRow c m name f u g z d n told) (sym h.0) (record { cause = inr r; is = h.1 })
