-- A script of three nodes that are started for it.
use Rattle.std.specs.Prelude.{◌≡◌, ℕ, List, Option, Result, Err}
use Rattle.mr_trio_script.specs.Faults.{IsInner}
use Rattle.mr_trio_script.specs.Scripts.{PlaysScript}
use Rattle.mr_trio_script.specs.declared.fault.TrioFault.{TrioFault}
use Rattle.mr_trio.specs.Asking.{three_conduct}
use Rattle.mr_trio.specs.declared.three.Three.{Three}

-- The script was played on three nodes; or they could not be started, and nothing was read and nothing written.
pub data PlaysTrio (before after old new : Option (List ℕ)) (result : Result (Unit {0}) TrioFault) : Type 0 where
  plays : (n m : Three) → PlaysScript three_conduct n before after old new m result → PlaysTrio before after old new result
  unstarted : (fault : TrioFault) → IsInner fault → result ≡ Err fault → after ≡ before → new ≡ old → PlaysTrio before after old new result
