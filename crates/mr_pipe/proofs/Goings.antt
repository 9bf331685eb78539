-- A link that is served, step by step.
use Rattle.std.proofs.Common.{◌≡◌, ℕ, List, [], ◌∷◌, ◌++◌, refl, sym, ap, subst}
use Rattle.std.specs.Prelude.{Err}
use Rattle.std.specs.Io.KnownBytes.{Appends}
use Rattle.std.proofs.KnownBytes.{Appends-nil}
use Rattle.mr_data.specs.declared.given.Given.{Given}
use Rattle.mr_node_output.specs.Outs.{Output}
use Rattle.mr_pipe.specs.Outside.{Outside, Change, Filed, IsSettled}
use Rattle.mr_pipe.specs.State.{PipeState, Stands}
use Rattle.mr_pipe.specs.Sessions.{Moment, Gives, all_changes, changes_of}
use Rattle.mr_pipe.specs.Serving.{Settles, Going, Drained, Ended, StepsOn, StepsLast, StepWaits, IsLeft, IsCutOff, IsCarriedOut}
use Rattle.mr_pipe.specs.declared.linked_node.LinkedNode.{LinkedNode}
use Rattle.mr_pipe.specs.declared.fault.PipeFault.{PipeFault}
use Rattle.mr_pipe.specs.declared.fault.PipeFault.TheVariants as fault
use Rattle.mr_pipe.proofs.Serves.{append_nil, serves_then, changes_then}
use Rattle.mr_pipe.proofs.Files.{nothing_settled, settled_join}

-- a step whose outs could not be carried out
pub left_out : (why : PipeFault) (g : Given) (s : PipeState) (u : List ℕ) (x y : Outside) (out : Output) → Gives g s u out → IsCarriedOut out x y (Err why) → IsLeft why g s u x y
left_out fault.Write g s u x y out gave h = IsCutOff.in_reply out gave h.0 h.1
left_out fault.File g s u x y out gave h = record { out = out; gives = gave; torn = h.0; output = h.1 }
left_out fault.Read g s u x y out gave h = absurd h
left_out fault.Stopped g s u x y out gave h = absurd h
left_out fault.Memory g s u x y out gave h = absurd h

-- nothing was served yet
abbrev pub starts : (g : Given) (s : PipeState) (u : List ℕ) (x : Outside) (p : LinkedNode) → Stands p s u → Going g s u x p x
starts g s u x p h = record { at = s; done = record { moments = []; rest = u; said = []; serves = (refl, refl, refl); settled = nothing_settled x }; stands = h }

-- .. and one more
pub goes_on : (g : Given) (s : PipeState) (u : List ℕ) (x : Outside) (p : LinkedNode) (y : Outside) (q : LinkedNode) (z : Outside)
    → (w : Going g s u x p y) → StepsOn g w.at w.done.rest y q z → Going g s u x q z
goes_on g s u x p y q z w t =
    let d = w.done in
    let m : Moment = record { pipe = t.at; left = t.rest; out = t.out } in
    record {
      at = t.at;
      done = record {
        moments = d.moments ++ m ∷ [];
        rest = t.rest;
        said = d.said ++ t.out.said;
        serves = serves_then g s u d.moments w.at d.rest d.said t.at t.rest t.out d.serves t.served;
        settled = subst (λ (c : List Change). IsSettled x z c (d.said ++ t.out.said)) (sym (changes_then d.moments m))
            (settled_join x y z (all_changes d.moments) (changes_of t.out) d.said t.out.said d.settled t.settled);
      };
      stands = t.stands;
    }

pub drained : (g : Given) (s : PipeState) (u : List ℕ) (x : Outside) (p : LinkedNode) (y : Outside) (q : LinkedNode) (z : Outside)
    → (w : Going g s u x p y) → StepWaits w.at w.done.rest y q z → Drained g s u x q z
drained g s u x p y q z w t =
    let d = w.done in
    record {
      going = record {
        at = w.at;
        done = record {
          moments = d.moments;
          rest = d.rest;
          said = d.said;
          serves = d.serves;
          settled = subst (λ (o : Outside). IsSettled x o (all_changes d.moments) d.said) (sym t.same) d.settled;
        };
        stands = t.stands;
      };
      waits = t.waits;
    }

-- the last is said, and the file is left alone
pub ended : (g : Given) (s : PipeState) (u : List ℕ) (x : Outside) (p : LinkedNode) (y z : Outside) → (w : Going g s u x p y) → StepsLast w.at w.done.rest y z → Ended g s u x z
ended g s u x p y z w t = record {
  at = w.at;
  before = record y { kept = z.kept };
  done = record {
    moments = d.moments;
    rest = d.rest;
    said = d.said;
    serves = d.serves;
    settled = subst (λ (c : List Change). IsSettled x (record y { kept = z.kept }) c d.said) (append_nil (all_changes d.moments))
        (subst (λ o. IsSettled x (record y { kept = z.kept }) (all_changes d.moments ++ []) o) (append_nil d.said)
        (settled_join x y (record y { kept = z.kept }) (all_changes d.moments) [] d.said [] d.settled
        (record { filed = untouched (changes_of t.out) (ap changes_of t.out_is) t.settled.filed; told = Appends-nil y.output })));
  };
  last = t.last;
  ends = t.ends;
  told = subst (λ (o : Output). Appends y.output z.output o.said) t.out_is t.settled.told;
  kept = refl;
}
  where
    d : Settles g s u x w.at y
    d = w.done

    untouched : (c : List Change) → c ≡ [] → Filed y.kept z.kept c → Filed y.kept z.kept []
    untouched c e f = subst (λ (k : List Change). Filed y.kept z.kept k) e f
