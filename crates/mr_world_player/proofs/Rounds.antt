-- One read after another.
use Rattle.std.proofs.Common.{◌≡◌, ℕ, List, [], ◌++◌, Option, Some, refl, sym, subst, append-nil}
use Rattle.std.specs.Prelude.{take}
use Rattle.std.specs.Io.KnownBytes.{Consumes, Keeps}
use Rattle.std.proofs.KnownBytes.{Consumes-kept, Consumes-nil, Consumes-trans}
use Rattle.mr_pipe.specs.Reading.{IsRead}
use Rattle.mr_pipe.specs.declared.fault.PipeFault.{PipeFault}
use Rattle.mr_pipe.specs.declared.fault.PipeFault.TheVariants as fault
use Rattle.law_refinement.specs.State.{WorldState}
use Rattle.law_refinement.specs.Worlds.{no_world}
use Rattle.mr_world_player.specs.Scripts.{Breaks, Broken, Whole}
use Rattle.mr_world_player.specs.Staging.{Going, IsOnStage, Reads, ReadsAll, ReadsPart}
use Rattle.mr_world_player.specs.declared.stage.Stage.{Stage}
use Rattle.mr_world_player.proofs.Moments.{goes_nowhere}

module _ (size : ℕ) (w : WorldState) (before old : Option (List ℕ)) where
  -- nothing was read yet
  pub no_reads : (s : Stage) → IsOnStage size w [] s → Reads size w before before old s old
  no_reads s st = record { read = []; consumed = Consumes-nil before; going = record { world = w; rest = []; stands = st; goes = goes_nowhere size w old } }

  pub reads_more : (mid after : Option (List ℕ)) (s t : Stage) (y z : Option (List ℕ)) (bytes : List ℕ) (q : Reads size w before mid old s y) → Consumes mid after bytes
      → Going size w (q.read ++ bytes) old t z → Reads size w before after old t z
  reads_more mid after s t y z bytes q c g = record { read = q.read ++ bytes; consumed = Consumes-trans before mid after q.read bytes q.consumed c; going = g }

  pub reads_on : (mid after : Option (List ℕ)) (s : Stage) (y : Option (List ℕ)) → Reads size w before mid old s y → Keeps mid after → Reads size w before after old s y
  reads_on mid after s y q k = record { read = q.read; consumed = Consumes-kept before mid after q.read q.consumed k; going = q.going }

  pub reads_end : (mid after : Option (List ℕ)) (s : Stage) (y : Option (List ℕ)) (buffer : List ℕ) (n : ℕ) → n ≡ 0 → IsRead mid after buffer (Some n) → Reads size w before mid old s y
      → ReadsAll size w before after old s y
  reads_end mid after s y buffer n none r q = record {
    all = record {
      read = q.read;
      consumed =
          subst (λ z. Consumes before after z) (append-nil q.read) (Consumes-trans before mid after q.read [] q.consumed (subst (λ k. Consumes mid after (take k buffer)) none r.1));
      going = q.going;
    };
    at_end = r.2 none;
  }

  pub breaks_reading : (mid after : Option (List ℕ)) (s t : Stage) (y z : Option (List ℕ)) (bytes : List ℕ) (why : PipeFault) (q : Reads size w before mid old s y) → Consumes mid after bytes
      → Breaks size w (q.read ++ bytes) old why z → ReadsPart size w before after old why z
  breaks_reading mid after s t y z bytes why q c b = record { read = q.read ++ bytes; consumed = Consumes-trans before mid after q.read bytes q.consumed c; breaks = b }

  -- a read failed, or there were too many
  pub reads_fail : (mid after : Option (List ℕ)) (s : Stage) (y : Option (List ℕ)) (why : PipeFault) → why ≡ fault.Read → Reads size w before mid old s y → Keeps mid after → ReadsPart size w before after old why y
  reads_fail mid after s y why is q k = subst (λ x. ReadsPart size w before after old x y) (sym is) (record {
    read = q.read;
    consumed = Consumes-kept before mid after q.read q.consumed k;
    breaks = record { front = q.read; left = []; are = sym (append-nil q.read); world = q.going.world; rest = q.going.rest; at = y; goes = q.going.goes; leaves = refl };
  })

-- the script is over
pub script_ends : (size : ℕ) (before after old : Option (List ℕ)) (s : Stage) (new : Option (List ℕ)) → ReadsAll size no_world before after old s new → Whole size before after old new
script_ends size before after old s new q = record { read = q.all.read; consumed = q.all.consumed; at_end = q.at_end; world = q.all.going.world; rest = q.all.going.rest; goes = q.all.going.goes }

pub script_breaks : (size : ℕ) (before after old : Option (List ℕ)) (why : PipeFault) (new : Option (List ℕ)) → ReadsPart size no_world before after old why new → Broken size before after old why new
script_breaks size before after old why new q = record { read = q.read; consumed = q.consumed; breaks = q.breaks }

-- .. before it began
pub no_script : (size : ℕ) (before old : Option (List ℕ)) → Broken size before before old fault.Memory old
no_script size before old = record {
  read = [];
  consumed = Consumes-nil before;
  breaks = record { front = []; left = []; are = refl; world = no_world; rest = []; at = old; goes = goes_nowhere size no_world old; leaves = refl };
}
