-- The watches of links, each in the place of its link.
use Rattle.std.specs.Prelude.{◌≡◌, ℕ, List, Bool, ◌==◌, ◌&&◌, Option, Some, None, if◌then◌else◌, slice_index_or}
use Rattle.mr_links.specs.declared.link_id.LinkId.{LinkId}
use Rattle.mr_silence.specs.declared.peer.Cause.{Cause}
use Rattle.mr_silence.specs.declared.peer.Limits.{Limits}
use Rattle.mr_silence.specs.Watching.{silent}
use Rattle.mr_silence.specs.declared.watch.Watch.{Watch}
use Rattle.mr_silence.specs.declared.silence.Place.{Place}

-- whether two names are the same
abbrev pub is_one : LinkId → LinkId → Bool
is_one a b = (a.index == b.index) && (a.generation == b.generation)

-- what is known in a place under a name
abbrev pub known : LinkId → Option Place → Option Watch
known link None = None
known link (Some p) = if is_one p.link link then Some p.watch else None

-- **What is known of a link**
abbrev pub watch_at : List (Option Place) → LinkId → Option Watch
watch_at places link = known link (slice_index_or places link.index None)

-- the same with another watch, where the name is there
abbrev pub with_watch : LinkId → (Watch → Watch) → Option Place → Option Place
with_watch link f None = None
with_watch link f (Some p) = if is_one p.link link then Some (record { link = p.link; watch = f p.watch }) else Some p

-- what a place holds once the watch of a link has become another
abbrev pub place_with : LinkId → (Watch → Watch) → ℕ → Option Place → Option Place
place_with link f k p = if k == link.index then with_watch link f p else p

-- **The watch of one link becomes another, and no other's does**
abbrev pub ChangesWatch : LinkId → (Watch → Watch) → List (Option Place) → List (Option Place) → Type 0
ChangesWatch link f old new = (k : ℕ) → slice_index_or new k None ≡ place_with link f k (slice_index_or old k None)

-- without a watch, where the name is there
abbrev pub without_watch : LinkId → Option Place → Option Place
without_watch link None = None
without_watch link (Some p) = if is_one p.link link then None else Some p

abbrev pub place_without : LinkId → ℕ → Option Place → Option Place
place_without link k p = if k == link.index then without_watch link p else p

-- one link isn't watched any more
abbrev pub ForgetsWatch : LinkId → List (Option Place) → List (Option Place) → Type 0
ForgetsWatch link old new = (k : ℕ) → slice_index_or new k None ≡ place_without link k (slice_index_or old k None)

-- a link is watched, whoever was in its place
abbrev pub place_begun : LinkId → Watch → ℕ → Option Place → Option Place
place_begun link w k p = if k == link.index then Some (record { link = link; watch = w }) else p

abbrev pub BeginsWatch : LinkId → Watch → List (Option Place) → List (Option Place) → Type 0
BeginsWatch link w old new = (k : ℕ) → slice_index_or new k None ≡ place_begun link w k (slice_index_or old k None)

abbrev pub SamePlaces : List (Option Place) → List (Option Place) → Type 0
SamePlaces old new = (k : ℕ) → slice_index_or new k None ≡ slice_index_or old k None

-- the link that is watched in a place
abbrev pub link_in : Option Place → Option LinkId
link_in None = None
link_in (Some p) = Some p.link

-- who has been silent for too long in a place, and why
abbrev pub named : LinkId → Option Cause → Option (LinkId × Cause)
named link None = None
named link (Some why) = Some (link, why)

abbrev pub silent_in : Limits → ℕ → Option Place → Option (LinkId × Cause)
silent_in limits now None = None
silent_in limits now (Some p) = named p.link (silent limits now p.watch)
