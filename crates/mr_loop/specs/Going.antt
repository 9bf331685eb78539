-- What the parts of a turn do to a host.
use Rattle.std.specs.Prelude.{◌≡◌, ◌<◌, ◌≤◌, ◌⊎◌, ℕ, List, Bool, true, Option, Result, Ok, Err}
use Rattle.mr_source.specs.Drawn.{DrawnState}
use Rattle.mr_wire.specs.Wire.{WireState}
use Rattle.mr_loop.specs.declared.fault.LoopFault.{LoopFault}
use Rattle.mr_loop.specs.declared.host.Host.{Host}
use Rattle.mr_loop.specs.declared.told.Turn.{Turn}
use Rattle.mr_loop.specs.Hosts.{moment_in, stage_in}
use Rattle.mr_loop.specs.Counting.{CountsStill, IsTickDue, Passes, Reaches, most_pieces}
use Rattle.mr_loop.specs.Rows.{Event}
use Rattle.mr_loop.specs.Outcomes.{HasBroken, Does, DoesTelling, DoesUpTo, DoesUpToAny}

module _ {W F S : Type 0} (tells : Bool) (links : W → WireState) (failures : W → ℕ) (told : F → Option (List ℕ)) (synced : F → Option ℕ) (drawn : S → DrawnState) where
  -- some events, which are counted, and no tick
  abbrev pub Goes : Host W F S → Host W F S → Type 0
  Goes a b = CountsStill tells a.log.now.mode (moment_in drawn a) (moment_in drawn b) (stage_in links failures told synced a) (stage_in links failures told synced b)

  -- .. and what comes of it by what is answered
  abbrev pub GoesAs : {A : Type 0} → Result A LoopFault → Host W F S → Host W F S → Type 0
  GoesAs result a b = Does tells a.log.now.mode result (moment_in drawn a) (moment_in drawn b) (stage_in links failures told synced a) (stage_in links failures told synced b)

  -- .. where the wire had these links before it opened one, and had failed so often
  abbrev pub GoesFrom : {A : Type 0} → WireState → ℕ → Result A LoopFault → Host W F S → Host W F S → Type 0
  GoesFrom before failed result a b = Does tells a.log.now.mode result (moment_in drawn a) (moment_in drawn b) (record (stage_in links failures told synced a) { wire = before; failed = failed }) (stage_in links failures told synced b)

  -- .. and so many at least are told of by this count, where there may be more
  abbrev pub GoesUpTo : (Event → ℕ) → ℕ → Bool → Host W F S → Host W F S → Type 0
  GoesUpTo f most more a b = Reaches tells a.log.now.mode f most more (moment_in drawn a) (moment_in drawn b) (stage_in links failures told synced a) (stage_in links failures told synced b)

  abbrev pub GoesUpToAs : (Event → ℕ) → ℕ → Result Bool LoopFault → Host W F S → Host W F S → Type 0
  GoesUpToAs f most result a b = DoesUpTo tells a.log.now.mode f most result (moment_in drawn a) (moment_in drawn b) (stage_in links failures told synced a) (stage_in links failures told synced b)

  abbrev pub GoesUpToFrom : WireState → ℕ → (Event → ℕ) → ℕ → Result Bool LoopFault → Host W F S → Host W F S → Type 0
  GoesUpToFrom before failed f most result a b = DoesUpTo tells a.log.now.mode f most result (moment_in drawn a) (moment_in drawn b) (record (stage_in links failures told synced a) { wire = before; failed = failed }) (stage_in links failures told synced b)

  -- .. of the pieces of some connection as many as may be read of it
  abbrev pub ReadsAs : Result Bool LoopFault → Host W F S → Host W F S → Type 0
  ReadsAs result a b = DoesUpToAny tells a.log.now.mode most_pieces result (moment_in drawn a) (moment_in drawn b) (stage_in links failures told synced a) (stage_in links failures told synced b)

  -- .. that tells what it counted
  abbrev pub GoesTelling : Result Turn LoopFault → Host W F S → Host W F S → Type 0
  GoesTelling result a b = DoesTelling tells a.log.now.mode result (moment_in drawn a) (moment_in drawn b) (stage_in links failures told synced a) (stage_in links failures told synced b)

  -- nothing that a turn acts on changes
  abbrev pub StaysAs : Host W F S → Host W F S → Type 0
  StaysAs a b = (stage_in links failures told synced b ≡ stage_in links failures told synced a) × (moment_in drawn b ≡ moment_in drawn a)

  -- One tick was made. Where another would still delete, it is answered so, unless memory ran out for it: then never.
  pub record Ticks (more : Bool) (a b : Host W F S) : Type 0 where
    pub missed : ℕ
    pub went : Passes tells a.log.now.mode 1 missed (moment_in drawn a) (moment_in drawn b) (stage_in links failures told synced a) (stage_in links failures told synced b)
    pub keeps_up : IsTickDue (drawn b.source.now).clock b.node.now → (more ≡ true) ⊎ (0 < missed)
    pub goes_on : more ≡ true → missed ≡ 0

  abbrev pub TicksAs : Result Bool LoopFault → Host W F S → Host W F S → Type 0
  TicksAs (Ok more) a b = Ticks more a b
  TicksAs (Err why) a b = HasBroken tells a.log.now.mode why (moment_in drawn a) (moment_in drawn b) (stage_in links failures told synced a) (stage_in links failures told synced b)

  -- Time passed: some ticks were made, so many at most, and so many where another would still delete and memory ran out for none: then, and only then, it is
  -- answered that more may be due.
  pub record PassesOn (more : Bool) (most : ℕ) (a b : Host W F S) : Type 0 where
    pub count : ℕ
    pub missed : ℕ
    pub went : Passes tells a.log.now.mode count missed (moment_in drawn a) (moment_in drawn b) (stage_in links failures told synced a) (stage_in links failures told synced b)
    pub some : 0 < count
    pub few : count ≤ most
    pub keeps_up : IsTickDue (drawn b.source.now).clock b.node.now → ((count ≡ most) × (more ≡ true)) ⊎ (0 < missed)
    pub goes_on : more ≡ true → (count ≡ most) × (missed ≡ 0)

  abbrev pub PassesAs : Result Bool LoopFault → ℕ → Host W F S → Host W F S → Type 0
  PassesAs (Ok more) most a b = PassesOn more most a b
  PassesAs (Err why) most a b = HasBroken tells a.log.now.mode why (moment_in drawn a) (moment_in drawn b) (stage_in links failures told synced a) (stage_in links failures told synced b)
