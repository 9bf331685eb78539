-- What goes on in a host from round to round of a loop, and from part to part of a turn.
use Rattle.std.proofs.Common.{◌≡◌, ℕ, List, Option, Bool, true, false, ◌||◌, Result, Ok, Err}
use Rattle.mr_source.specs.Drawn.{DrawnState}
use Rattle.mr_wire.specs.declared.waited.Waited.{Waited}
use Rattle.mr_wire.specs.Wire.{WireState}
use Rattle.mr_loop.specs.declared.fault.LoopFault.{LoopFault}
use Rattle.mr_loop.specs.declared.host.Host.{Host}
use Rattle.mr_loop.specs.Hosts.{IsSame, moment_in, stage_in}
use Rattle.mr_loop.specs.Counting.{ReachesAny, most_pieces}
use Rattle.mr_loop.specs.Going.{Goes, GoesAs, GoesUpTo, ReadsAs}
use Rattle.mr_loop.specs.Rows.{Event}
use Rattle.mr_loop.specs.Outcomes.{HasBroken}
use Rattle.mr_loop.specs.Quiet.{AllWait}
use Rattle.mr_loop.proofs.Same.{same_here, same_on}
use Rattle.mr_loop.proofs.Runs.{any_broke, any_moded, any_on, any_still, breaks, broke_moded, reaches_none, still_broke, still_here, still_moded, still_on}

module _ {W F S : Type 0} where
  module _ (tells : Bool) (links : W → WireState) (failures : W → ℕ) (waited : W → Waited) (broke : F → ℕ) (told : F → Option (List ℕ)) (synced : F → Option ℕ) (drawn : S → DrawnState) where
    pub goes_on : (a b c : Host W F S) → IsSame waited broke a b → Goes tells links failures told synced drawn a b → Goes tells links failures told synced drawn b c → Goes tells links failures told synced drawn a c
    goes_on a b c same x y = still_on x (still_moded b.log.now.mode a.log.now.mode same.mode y)

    pub goes_broke : (a b c : Host W F S) (why : LoopFault) → IsSame waited broke a b → Goes tells links failures told synced drawn a b → HasBroken tells b.log.now.mode why (moment_in drawn b) (moment_in drawn c) (stage_in links failures told synced b) (stage_in links failures told synced c)
        → HasBroken tells a.log.now.mode why (moment_in drawn a) (moment_in drawn c) (stage_in links failures told synced a) (stage_in links failures told synced c)
    goes_broke a b c why same x y = still_broke x (broke_moded b.log.now.mode a.log.now.mode same.mode y)

    -- what has gone on so far
    pub record InRounds (a b : Host W F S) : Type 0 where
      pub went : Goes tells links failures told synced drawn a b
      pub same : IsSame waited broke a b
      pub quiet : AllWait a.node.now → AllWait b.node.now

    pub rounds_begin : (a : Host W F S) → InRounds a a
    rounds_begin a = record { went = still_here (moment_in drawn a) (stage_in links failures told synced a); same = same_here a; quiet = λ q. q }

    pub rounds_on : (a b c : Host W F S) → InRounds a b → Goes tells links failures told synced drawn b c → IsSame waited broke b c → (AllWait b.node.now → AllWait c.node.now) → InRounds a c
    rounds_on a b c r went same quiet = record { went = goes_on a b c r.same r.went went; same = same_on a b c r.same same; quiet = λ q. quiet (r.quiet q) }

    -- .. and a fault behind it
    pub rounds_broke : {A : Type 0} (a b c : Host W F S) (r : Result A LoopFault) (why : LoopFault) → r ≡ Err why → InRounds a b → HasBroken tells b.log.now.mode why (moment_in drawn b) (moment_in drawn c) (stage_in links failures told synced b) (stage_in links failures told synced c)
        → GoesAs tells links failures told synced drawn r a c
    rounds_broke a b c r why told_so x y = breaks (moment_in drawn a) (moment_in drawn c) r why told_so (goes_broke a b c why x.same x.went y)

    -- .. and so many at least are told of by this count
    pub record InRoundsUpTo (f : Event → ℕ) (count : ℕ) (a b : Host W F S) : Type 0 where
      pub went : GoesUpTo tells links failures told synced drawn f count true a b
      pub same : IsSame waited broke a b
      pub quiet : AllWait a.node.now → AllWait b.node.now

    pub up_to_begins : (f : Event → ℕ) (a : Host W F S) → InRoundsUpTo f 0 a a
    up_to_begins f a = record { went = reaches_none f true (still_here (moment_in drawn a) (stage_in links failures told synced a)); same = same_here a; quiet = λ q. q }

    -- .. by that of the pieces of some connection
    pub record InReads (more : Bool) (a b : Host W F S) : Type 0 where
      pub went : ReachesAny tells a.log.now.mode most_pieces more (moment_in drawn a) (moment_in drawn b) (stage_in links failures told synced a) (stage_in links failures told synced b)
      pub same : IsSame waited broke a b
      pub quiet : AllWait a.node.now → AllWait b.node.now

    pub reads_begin : (a : Host W F S) → InReads false a a
    reads_begin a = record { went = any_still most_pieces (still_here (moment_in drawn a) (stage_in links failures told synced a)); same = same_here a; quiet = λ q. q }

    pub reads_on : (p q : Bool) (a b c : Host W F S) → InReads p a b → ReadsAs tells links failures told synced drawn (Ok q) b c → IsSame waited broke b c → (AllWait b.node.now → AllWait c.node.now) → InReads (p || q) a c
    reads_on p q a b c r went same quiet = record {
      went = any_on most_pieces p q r.went (any_moded b.log.now.mode a.log.now.mode r.same.mode went);
      same = same_on a b c r.same same;
      quiet = λ x. quiet (r.quiet x);
    }

    pub reads_broke : (more : Bool) (a b c : Host W F S) (r : Result Bool LoopFault) (why : LoopFault) → r ≡ Err why → InReads more a b
        → HasBroken tells b.log.now.mode why (moment_in drawn b) (moment_in drawn c) (stage_in links failures told synced b) (stage_in links failures told synced c) → ReadsAs tells links failures told synced drawn r a c
    reads_broke more a b c r why told_so x y = any_broke most_pieces (moment_in drawn a) (moment_in drawn c) r why told_so (goes_broke a b c why x.same x.went.still y)
