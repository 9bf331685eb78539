-- A script as its bytes come.
use Rattle.std.proofs.Common.{◌≡◌, ◌≢◌, ◌+◌, ◌<◌, ◌≤◌, ℕ, List, [], ◌∷◌, ◌++◌, Option, Result, Ok, Err, refl, sym, ap, subst, ◌∙◌, append_assoc, append-nil, length, take, drop}
use Rattle.std.specs.Io.KnownBytes.{Appends, Keeps}
use Rattle.std.proofs.Math.ListN.{get_or}
use Rattle.std.proofs.lemmas.List.{take-append-drop, take_all, take_more}
use Rattle.std.proofs.KnownBytes.{Appends-kept}
use Rattle.mr_inline.specs.Bytes.{line_feed}
use Rattle.mr_pipe.specs.declared.fault.PipeFault.{PipeFault}
use Rattle.mr_pipe.specs.declared.fault.PipeFault.TheVariants as fault
use Rattle.law_refinement.specs.State.{WorldState}
use Rattle.mr_world_player.specs.Playing.{Adds, Answers}
use Rattle.mr_world_player.specs.Scripts.{Breaks, Goes, IsCutOff, IsLeft}
use Rattle.mr_world_player.specs.Staging.{AnswersAll, AnswersNext, Going, GoesOn, IsOnStage}
use Rattle.mr_world_player.specs.declared.stage.Stage.{Stage}
use Rattle.mr_world_player.proofs.Moments.{goes_further, goes_on}

-- the whole answer of a line was written
pub answered : (size : ℕ) (w v : WorldState) (text : List ℕ) (old new : Option (List ℕ)) (s : Stage) (before after : List ℕ) → before ≡ [] → Adds size w text v before after → IsOnStage size v [] s
    → Appends old new after → AnswersAll size w text old s new
answered size w v text old new s before after none a st wr = record {
  world = v;
  told = a.told;
  answers = a.answers;
  stands = st;
  written = subst (λ z. Appends old new z) (a.is ∙ ap (λ z. z ++ a.told) none) wr;
}

-- what a fault leaves of more bytes
left_more : (why : PipeFault) (size : ℕ) (v : WorldState) (rest left more : List ℕ) (at new : Option (List ℕ)) → IsLeft why size v rest left at new → IsLeft why size v rest (left ++ more) at new
left_more fault.Read size v rest left more at new h = h
left_more fault.Write size v rest left more at new (IsCutOff.in_answer u told behind is a b) = IsCutOff.in_answer u told (behind ++ more) (ap (λ z. z ++ more) is) a b
left_more fault.Write size v rest left more at new (IsCutOff.in_flush k) = IsCutOff.in_flush k
left_more fault.File size v rest left more at new h = h
left_more fault.Stopped size v rest left more at new h = h
left_more fault.Memory size v rest left more at new h = h

pub breaks_more : (size : ℕ) (w : WorldState) (read more : List ℕ) (old : Option (List ℕ)) (why : PipeFault) (new : Option (List ℕ)) → Breaks size w read old why new → Breaks size w (read ++ more) old why new
breaks_more size w read more old why new b = record {
  front = b.front;
  left = b.left ++ more;
  are = ap (λ z. z ++ more) b.are ∙ append_assoc b.front b.left more;
  world = b.world;
  rest = b.rest;
  at = b.at;
  goes = b.goes;
  leaves = left_more why size b.world b.rest b.left more b.at new b.leaves;
}

-- a fault that leaves nothing, before these bytes
pub breaks_before : (size : ℕ) (w : WorldState) (read : List ℕ) (old : Option (List ℕ)) (v : WorldState) (rest : List ℕ) (new : Option (List ℕ)) (left : List ℕ) → Goes size w read old v rest new
    → Breaks size w (read ++ left) old fault.Memory new
breaks_before size w read old v rest new left g = record { front = read; left = left; are = refl; world = v; rest = rest; at = new; goes = g; leaves = refl }

-- a byte within a line
pub next_byte : (size : ℕ) (w : WorldState) (read : List ℕ) (old : Option (List ℕ)) (v : WorldState) (rest : List ℕ) (new : Option (List ℕ)) (byte : ℕ) (s : Stage) → byte ≢ line_feed
    → IsOnStage size v (rest ++ byte ∷ []) s → Goes size w read old v rest new → Going size w (read ++ byte ∷ []) old s new
next_byte size w read old v rest new byte s other st g = record { world = v; rest = rest ++ byte ∷ []; stands = st; goes = goes_further size w read old v rest new byte other g }

-- a line's end
pub next_line : (size : ℕ) (w : WorldState) (read : List ℕ) (old : Option (List ℕ)) (v : WorldState) (rest : List ℕ) (mid : Option (List ℕ)) (byte : ℕ) (s : Stage) (new : Option (List ℕ)) (r : Result (Unit {0}) PipeFault)
    → byte ≡ line_feed → Goes size w read old v rest mid → AnswersNext size v (rest ++ byte ∷ []) mid s new r → GoesOn size w (read ++ byte ∷ []) old s new r
next_line size w read old v rest mid byte s new (Ok u) is g a =
    record { world = a.world; rest = []; stands = a.stands; goes = goes_on size w read old v rest mid byte a.world a.told new is g a.answers a.written }
next_line size w read old v rest mid byte s new (Err fault.Write) is g a = record {
  front = read;
  left = byte ∷ [];
  are = refl;
  world = v;
  rest = rest;
  at = mid;
  goes = g;
  leaves = IsCutOff.in_answer a.world a.told [] (ap (λ (z : ℕ). z ∷ []) is) (subst (λ (z : ℕ). Answers size v (rest ++ z ∷ []) a.world a.told) is a.answers) a.written;
}
next_line size w read old v rest mid byte s new (Err fault.Memory) is g a = record { front = read; left = byte ∷ []; are = refl; world = v; rest = rest; at = mid; goes = g; leaves = a }
next_line size w read old v rest mid byte s new (Err fault.Read) is g a = absurd a
next_line size w read old v rest mid byte s new (Err fault.File) is g a = absurd a
next_line size w read old v rest mid byte s new (Err fault.Stopped) is g a = absurd a

-- what was written goes out
pub goes_out : (size : ℕ) (w : WorldState) (read : List ℕ) (old : Option (List ℕ)) (s : Stage) (mid new : Option (List ℕ)) → Going size w read old s mid → Keeps mid new → Going size w read old s new
goes_out size w read old s mid new g k = record {
  world = g.world;
  rest = g.rest;
  stands = g.stands;
  goes = record {
    moments = g.goes.moments;
    told = g.goes.told;
    played = g.goes.played;
    are = g.goes.are;
    part = g.goes.part;
    written = Appends-kept old mid new g.goes.told g.goes.written k;
  };
}

-- .. or may not have
pub breaks_out : (size : ℕ) (w : WorldState) (read : List ℕ) (old : Option (List ℕ)) (s : Stage) (mid new : Option (List ℕ)) → Going size w read old s mid → Keeps mid new
    → Breaks size w read old fault.Write new
breaks_out size w read old s mid new g k =
    record { front = read; left = []; are = sym (append-nil read); world = g.world; rest = g.rest; at = mid; goes = g.goes; leaves = IsCutOff.in_flush k }

-- ---- the bytes of a piece, one after another

pub none_came : (size : ℕ) (w : WorldState) (read bytes : List ℕ) (old : Option (List ℕ)) (v : WorldState) (rest : List ℕ) (s : Stage) (new : Option (List ℕ)) → IsOnStage size v rest s → Goes size w read old v rest new
    → Going size w (read ++ take 0 bytes) old s new
none_came size w read bytes old v rest s new st g =
    record { world = v; rest = rest; stands = st; goes = subst (λ z. Goes size w z old v rest new) (sym (append-nil read)) g }

one_more : (read bytes : List ℕ) (i byte : ℕ) → i < length bytes → get_or bytes i 0 ≡ byte → (read ++ take i bytes) ++ byte ∷ [] ≡ read ++ take (i + 1) bytes
one_more read bytes i byte lt is =
    append_assoc read (take i bytes) (byte ∷ []) ∙ ap (λ z. read ++ z) (ap (λ (z : ℕ). take i bytes ++ z ∷ []) (sym is) ∙ sym (take_more bytes i 0 lt))

pub one_came : (size : ℕ) (w : WorldState) (read bytes : List ℕ) (old : Option (List ℕ)) (s : Stage) (new : Option (List ℕ)) (i byte : ℕ) → i < length bytes → get_or bytes i 0 ≡ byte
    → Going size w ((read ++ take i bytes) ++ byte ∷ []) old s new → Going size w (read ++ take (i + 1) bytes) old s new
one_came size w read bytes old s new i byte lt is g = subst (λ z. Going size w z old s new) (one_more read bytes i byte lt is) g

pub one_failed : (size : ℕ) (w : WorldState) (read bytes : List ℕ) (old : Option (List ℕ)) (why : PipeFault) (new : Option (List ℕ)) (i byte : ℕ) → i < length bytes → get_or bytes i 0 ≡ byte
    → Breaks size w ((read ++ take i bytes) ++ byte ∷ []) old why new → Breaks size w (read ++ bytes) old why new
one_failed size w read bytes old why new i byte lt is b =
    let more = drop (i + 1) bytes in
    let all : (read ++ take (i + 1) bytes) ++ more ≡ read ++ bytes = append_assoc read (take (i + 1) bytes) more ∙ ap (λ z. read ++ z) (take-append-drop (i + 1) bytes) in
    subst (λ z. Breaks size w z old why new) (ap (λ z. z ++ more) (one_more read bytes i byte lt is) ∙ all) (breaks_more size w ((read ++ take i bytes) ++ byte ∷ []) more old why new b)

pub whole_came : (size : ℕ) (w : WorldState) (read bytes : List ℕ) (old : Option (List ℕ)) (s : Stage) (new : Option (List ℕ)) (i : ℕ) → length bytes ≤ i
    → Going size w (read ++ take i bytes) old s new → Going size w (read ++ bytes) old s new
whole_came size w read bytes old s new i le g = subst (λ z. Going size w z old s new) (ap (λ z. read ++ z) (take_all i bytes le)) g
