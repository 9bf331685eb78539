-- What was read of an argument is what its word spells.
use Rattle.std.proofs.Common.{ℕ, ◌≡◌, List, Bool, true, false, refl}
use Rattle.std.specs.Prelude.{IfOk, if◌then◌else◌, Result, Ok, Err}
use Rattle.std.specs.Str.{bytes_eq}
use Rattle.mr_bytes.proofs.Numbers.{same_bytes}
use Rattle.mr_bytes.specs.declared.ends.End.{End}
use Rattle.mr_bytes.specs.declared.ends.End.TheVariants.{Left, Right}
use Rattle.mr_bytes.specs.declared.ends.Side.{Side}
use Rattle.mr_bytes.specs.declared.ends.Side.TheVariants.{Before, After}
use Rattle.mr_arguments.specs.Names.{lowered}
use Rattle.mr_arguments.specs.Parts.{with}
use Rattle.mr_arguments.specs.declared.fault.AskFault.{AskFault}
use Rattle.mr_arguments.specs.declared.fault.AskFault.TheVariants.{Syntax}
use Rattle.mr_cmd_list.specs.Parts.{end_text, side_text, end_of, side_of}

pub with_end : {A : Type 0} (w : List ℕ) (next : End → Result A AskFault) (P : A → Type 0)
    → ((e : End) → lowered w ≡ end_text e → IfOk (next e) P) → IfOk (with (end_of w) next) P
with_end w next P h = by_test (bytes_eq (lowered w) (end_text Left)) (bytes_eq (lowered w) (end_text Right)) refl refl
  where
    by_test : (a b : Bool) → bytes_eq (lowered w) (end_text Left) ≡ a → bytes_eq (lowered w) (end_text Right) ≡ b
        → IfOk (with (if a then Ok Left else (if b then Ok Right else Err Syntax)) next) P
    by_test true b s t = h Left (same_bytes _ _ s)
    by_test false true s t = h Right (same_bytes _ _ t)
    by_test false false s t = tt

pub with_side : {A : Type 0} (w : List ℕ) (next : Side → Result A AskFault) (P : A → Type 0)
    → ((e : Side) → lowered w ≡ side_text e → IfOk (next e) P) → IfOk (with (side_of w) next) P
with_side w next P h = by_test (bytes_eq (lowered w) (side_text Before)) (bytes_eq (lowered w) (side_text After)) refl refl
  where
    by_test : (a b : Bool) → bytes_eq (lowered w) (side_text Before) ≡ a → bytes_eq (lowered w) (side_text After) ≡ b
        → IfOk (with (if a then Ok Before else (if b then Ok After else Err Syntax)) next) P
    by_test true b s t = h Before (same_bytes _ _ s)
    by_test false true s t = h After (same_bytes _ _ t)
    by_test false false s t = tt
