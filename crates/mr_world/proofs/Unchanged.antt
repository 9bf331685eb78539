-- An event that is refused changes nothing, or nothing that histories see.
use Rattle.std.proofs.Common.{◌≡◌, ℕ, Bool, true, false, Err, sym, ap, subst}
use Rattle.std.specs.Prelude.{slice_get}
use Rattle.law_refinement.specs.State.{WorldState}
use Rattle.law_refinement.specs.Books.{IsBook}
use Rattle.law_refinement.specs.Worlds.{IsWorld}
use Rattle.law_refinement.proofs.Waiting.{lacks_keep}
use Rattle.law_refinement.specs.Runs.{Happens, nothing_seen}
use Rattle.mr_links.specs.declared.side.Side.TheVariants as side
use Rattle.mr_world.specs.declared.event.Event.{Event}
use Rattle.mr_world.specs.declared.event.Event.TheVariants as event
use Rattle.mr_world.specs.declared.refusal.Refusal.{Refusal}
use Rattle.mr_world.specs.declared.refusal.Refusal.TheVariants as refusal
use Rattle.mr_world.specs.Calls.{LeaveCall, TakeCall}
use Rattle.mr_world.specs.Linking.{DropCall}
use Rattle.mr_world.specs.Hearing.{ListenCall}
use Rattle.mr_world.specs.Following.{HasLacked}
use Rattle.mr_world.proofs.Happening.{lacks_unseen}
use Rattle.mr_world.proofs.Happened.{nothing}
use Rattle.mr_world.specs.Running.{EventCall, by_opener, is_between_nodes}

-- The World is the same; or a node took what was there of a snapshot, and lacked memory then.
pub data Stays (w v : WorldState) : Type 0 where
  same : v ≡ w → Stays w v
  lacked : (l : ℕ) → HasLacked w l v → Stays w v

-- .. which is no event of histories, and a World
pub no_event : (w v : WorldState) → IsWorld w → Stays w v → Happens w v × IsWorld v
no_event w v is (same e) = (nothing w v e, subst IsWorld (sym e) is)
no_event w v is (lacked l h) =
    let book : v.book ≡ w.book = ap (λ (z : WorldState). z.book) h.is in (
      nothing_seen (λ b holds. (subst (λ z. IsBook z b) (sym book) holds.kept, lacks_unseen w b l v holds h)),
      subst IsWorld (sym h.carried) (lacks_keep w h.number h.who.slot h.who.link h.name h.node is h.who.by.followed h.sound h.row),
    )

module _ (w v : WorldState) where
  by_end : (b : Bool) (of_node of_client : Type 0) → (of_node → v ≡ w) → (of_client → v ≡ w) → by_opener b of_node of_client → v ≡ w
  by_end true of_node of_client f g c = f c
  by_end false of_node of_client f g c = g c

  dropped : (l : ℕ) (r : Refusal) → DropCall w l v (Err r) → v ≡ w
  dropped l refusal.Nobody c = c.1
  dropped l refusal.Drawn c = absurd c
  dropped l refusal.TooMuch c = absurd c
  dropped l refusal.Memory c = absurd c
  dropped l refusal.InputFull c = absurd c

  took : (l count : ℕ) (r : Refusal) → TakeCall w l count v (Err r) → v ≡ w
  took l count refusal.Nobody c = c.1
  took l count refusal.TooMuch c = c.1
  took l count refusal.Memory c = absurd c
  took l count refusal.Drawn c = absurd c
  took l count refusal.InputFull c = absurd c

  listened : (l count : ℕ) (r : Refusal) → ListenCall w l count v (Err r) → v ≡ w
  listened l count refusal.Nobody c = c.1
  listened l count refusal.TooMuch c = c.1
  listened l count refusal.Memory c = c.1
  listened l count refusal.Drawn c = absurd c
  listened l count refusal.InputFull c = absurd c

  left : (l : ℕ) (r : Refusal) → LeaveCall w l v (Err r) → v ≡ w
  left l refusal.Nobody c = c.1
  left l refusal.Drawn c = absurd c
  left l refusal.TooMuch c = absurd c
  left l refusal.Memory c = absurd c
  left l refusal.InputFull c = absurd c

  pub stays : (e : Event) (r : Refusal) → EventCall w e v (Err r) → Stays w v
  stays (event.Start id config) refusal.Drawn c = same c.1
  stays (event.Start id config) refusal.Memory c = same c.1
  stays (event.Start id config) refusal.Nobody c = absurd c
  stays (event.Start id config) refusal.TooMuch c = absurd c
  stays (event.Start id config) refusal.InputFull c = absurd c
  stays (event.Client n) refusal.Nobody c = same c.1
  stays (event.Client n) refusal.Memory c = same c.1
  stays (event.Client n) refusal.Drawn c = absurd c
  stays (event.Client n) refusal.TooMuch c = absurd c
  stays (event.Client n) refusal.InputFull c = absurd c
  stays (event.Command l bytes) refusal.Nobody c = same c.1
  stays (event.Command l bytes) refusal.Memory c = same c.2
  stays (event.Command l bytes) refusal.Drawn c = absurd c
  stays (event.Command l bytes) refusal.TooMuch c = absurd c
  stays (event.Command l bytes) refusal.InputFull c = absurd c
  stays (event.Deliver l side.Server count) refusal.Nobody c = same c.1
  stays (event.Deliver l side.Server count) refusal.TooMuch c = same c.1
  stays (event.Deliver l side.Server count) refusal.InputFull c = same c.1
  stays (event.Deliver l side.Server count) refusal.Memory c = same c.1
  stays (event.Deliver l side.Server count) refusal.Drawn c = absurd c
  stays (event.Deliver l side.Opener count) r c = same (by_end (is_between_nodes (slice_get w.links l)) _ _ (listened l count r) (took l count r) c)
  stays (event.Step l side.Server given fresh) refusal.Drawn c = same c.1
  stays (event.Step l side.Server given fresh) refusal.Nobody c = same c.2
  stays (event.Step l side.Server given fresh) refusal.Memory c = same c.2
  stays (event.Step l side.Server given fresh) refusal.TooMuch c = absurd c
  stays (event.Step l side.Server given fresh) refusal.InputFull c = absurd c
  stays (event.Step l side.Opener given fresh) refusal.Drawn c = same c.1
  stays (event.Step l side.Opener given fresh) refusal.Nobody c = same c.2
  stays (event.Step l side.Opener given fresh) refusal.Memory c = lacked l c.1
  stays (event.Step l side.Opener given fresh) refusal.TooMuch c = absurd c
  stays (event.Step l side.Opener given fresh) refusal.InputFull c = absurd c
  stays (event.Dial n m) refusal.Nobody c = same c.1
  stays (event.Dial n m) refusal.Memory c = same c.1
  stays (event.Dial n m) refusal.Drawn c = absurd c
  stays (event.Dial n m) refusal.TooMuch c = absurd c
  stays (event.Dial n m) refusal.InputFull c = absurd c
  stays (event.Connect n) refusal.Nobody c = same c.1
  stays (event.Connect n) refusal.Memory c = same c.2
  stays (event.Connect n) refusal.Drawn c = absurd c
  stays (event.Connect n) refusal.TooMuch c = absurd c
  stays (event.Connect n) refusal.InputFull c = absurd c
  stays (event.Accept l m) refusal.Nobody c = same c.1
  stays (event.Accept l m) refusal.Memory c = same c.2
  stays (event.Accept l m) refusal.Drawn c = absurd c
  stays (event.Accept l m) refusal.TooMuch c = absurd c
  stays (event.Accept l m) refusal.InputFull c = absurd c
  stays (event.Restart n kept id config) refusal.Drawn c = same c.1
  stays (event.Restart n kept id config) refusal.Nobody c = same c.2
  stays (event.Restart n kept id config) refusal.Memory c = same c.2
  stays (event.Restart n kept id config) refusal.TooMuch c = absurd c
  stays (event.Restart n kept id config) refusal.InputFull c = absurd c
  stays (event.Tick n given) refusal.Nobody c = same c.1
  stays (event.Tick n given) refusal.Memory c = same c.1
  stays (event.Tick n given) refusal.Drawn c = absurd c
  stays (event.Tick n given) refusal.TooMuch c = absurd c
  stays (event.Tick n given) refusal.InputFull c = absurd c
  stays (event.Break l side.Server) refusal.Nobody c = same c.1
  stays (event.Break l side.Server) refusal.Drawn c = absurd c
  stays (event.Break l side.Server) refusal.TooMuch c = absurd c
  stays (event.Break l side.Server) refusal.Memory c = absurd c
  stays (event.Break l side.Server) refusal.InputFull c = absurd c
  stays (event.Break l side.Opener) r c = same (by_end (is_between_nodes (slice_get w.links l)) _ _ (dropped l r) (left l r) c)
