-- Each event of a turn leads to a World that is beside the servers.
use Rattle.std.proofs.Common.{ℕ, Bool}
use Rattle.mr_file.specs.declared.sync_mode.SyncMode.{SyncMode}
use Rattle.mr_loop.specs.Stage.{Stage}
use Rattle.mr_loop.specs.Causes.{at_dial, at_step, at_tick}
use Rattle.mr_loop.specs.Rows.{Event, Happens, acts, appends, breaks, closes, fails, finds_none, hears_end, idles, is_deaf, is_refused, joins, loses, misses, misses_dial, misses_tick, settles, spills, stops, takes, tears, turns_away, waits, wakes, writes}
use Rattle.law_refinement.specs.State.{WorldState}
use Rattle.law_systems.specs.System.{System}
use Rattle.law_systems.proofs.Wired.{IsWired}
use Rattle.law_systems.proofs.Mirrors.{IsTurn, Leads, Mirrors}
use Rattle.law_systems.proofs.Unaccepted.{AreUnread}
use Rattle.law_systems.proofs.Quiet.{appends_leads, closes_leads, fails_leads, finds_none_leads, misses_tick_leads, settles_leads, waits_leads, wakes_leads, writes_leads}
use Rattle.law_systems.proofs.Ending.{breaks_leads, hears_end_leads, is_deaf_leads, loses_leads, misses_leads}
use Rattle.law_systems.proofs.Joining.{joins_leads, misses_dial_leads, turns_away_leads}
use Rattle.law_systems.proofs.Taking.{takes_leads}
use Rattle.law_systems.proofs.Dialling.{dial_acts, dial_spills, dial_tears}
use Rattle.law_systems.proofs.Ticking.{tick_acts, tick_spills, tick_tears}
use Rattle.law_systems.proofs.Stepping.{step_acts, step_idles, step_refused, step_spills, step_tears}
use Rattle.law_systems.proofs.Stops.{stopped}

module _ (x y : System) (w : WorldState) (n life : ℕ) (s t : Stage) (tells : Bool) (mode : SyncMode) (wired : IsWired x) (unread : AreUnread x.connections) (mirrors : Mirrors x w) where
  pub turn_leads : (event : Event) → IsTurn x n life s event t y → Happens tells mode s event t → Leads w y
  turn_leads (wakes now) turn h = wakes_leads x y w n life s t tells mode mirrors now turn h
  turn_leads waits turn h = waits_leads x y w n life s t tells mode mirrors turn h
  turn_leads (joins socket link) turn h = joins_leads x y w n life s t tells mode wired unread mirrors socket link turn h
  turn_leads turns_away turn h = turns_away_leads x y w n life s t tells mode wired mirrors turn h
  turn_leads (takes socket bytes) turn h = takes_leads x y w n life s t tells mode wired mirrors socket bytes turn h
  turn_leads (finds_none socket) turn h = finds_none_leads x y w n life s t tells mode mirrors socket turn h
  turn_leads (hears_end socket link) turn h = hears_end_leads x y w n life s t tells mode wired mirrors socket link turn h
  turn_leads (loses socket) turn h = loses_leads x y w n life s t tells mode wired mirrors socket turn h
  turn_leads (misses socket) turn h = misses_leads x y w n life s t tells mode wired mirrors socket turn h
  turn_leads (is_refused socket link given fresh) turn h = step_refused x y w n life s t tells mode socket link given fresh wired mirrors turn h
  turn_leads (is_deaf socket link) turn h = is_deaf_leads x y w n life s t tells mode wired mirrors socket link turn h
  turn_leads (idles socket link given fresh) turn h = step_idles x y w n life s t tells mode socket link given fresh wired mirrors turn h
  turn_leads (acts (at_step socket link given fresh news) outs) turn h = step_acts x y w n life s t tells mode socket link given fresh wired mirrors news outs turn h
  turn_leads (acts (at_tick given) outs) turn h = tick_acts x y w n life s t tells mode given outs wired mirrors turn h
  turn_leads (acts (at_dial socket link) outs) turn h = dial_acts x y w n life s t tells mode socket link outs wired mirrors turn h
  turn_leads (spills (at_step socket link given fresh news) outs) turn h = step_spills x y w n life s t tells mode socket link given fresh wired mirrors news outs turn h
  turn_leads (spills (at_tick given) outs) turn h = tick_spills x y w n life s t tells mode given outs wired mirrors turn h
  turn_leads (spills (at_dial socket link) outs) turn h = dial_spills x y w n life s t tells mode socket link outs wired mirrors turn h
  turn_leads (tears (at_step socket link given fresh news) outs) turn h = step_tears x y w n life s t tells mode socket link given fresh wired mirrors news outs turn h
  turn_leads (tears (at_tick given) outs) turn h = tick_tears x y w n life s t tells mode given outs wired mirrors turn h
  turn_leads (tears (at_dial socket link) outs) turn h = dial_tears x y w n life s t tells mode socket link outs wired mirrors turn h
  turn_leads (writes socket bytes) turn h = writes_leads x y w n life s t tells mode wired mirrors socket bytes turn h
  turn_leads (breaks socket) turn h = breaks_leads x y w n life s t tells mode wired mirrors socket turn h
  turn_leads (closes socket) turn h = closes_leads x y w n life s t tells mode mirrors socket turn h
  turn_leads (appends texts) turn h = appends_leads x y w n life s t tells mode mirrors texts turn h
  turn_leads fails turn h = fails_leads x y w n life s t tells mode mirrors turn h
  turn_leads (misses_tick given) turn h = misses_tick_leads x y w n life s t tells mode mirrors given turn h
  turn_leads misses_dial turn h = misses_dial_leads x y w n life s t tells mode wired mirrors turn h
  turn_leads (settles hurries) turn h = settles_leads x y w n life s t tells mode mirrors hurries turn h
  turn_leads (stops stop) turn h = stopped x y w n life s t stop wired mirrors turn h
