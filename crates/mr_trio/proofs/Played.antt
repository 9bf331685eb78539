-- A script that was played, or whose nodes weren't started.
use Rattle.std.proofs.Common.{ℕ, List, Option, refl}
use Rattle.std.specs.Prelude.{Result, Err}
use Rattle.mr_trio_script.specs.Faults.{IsInner}
use Rattle.mr_trio_script.specs.Scripts.{PlaysScript}
use Rattle.mr_trio_script.specs.declared.fault.TrioFault.{TrioFault}
use Rattle.mr_trio.specs.Asking.{three_conduct}
use Rattle.mr_trio.specs.Playing.{PlaysTrio}
use Rattle.mr_trio.specs.declared.three.Three.{Three}

pub played : (before after old new : Option (List ℕ)) (result : Result (Unit {0}) TrioFault) (n m : Three) → PlaysScript three_conduct n before after old new m result → PlaysTrio before after old new result
played before after old new result n m h = PlaysTrio.plays n m h

pub not_started : (before old : Option (List ℕ)) (fault : TrioFault) → IsInner fault → PlaysTrio before before old old (Err fault)
not_started before old fault is = PlaysTrio.unstarted fault is refl refl refl
