-- However the bytes are cut, and until a fault.
use Rattle.std.proofs.Common.{◌≡◌, ℕ, List, ◌++◌, Bool, true, false, length, refl, sym, subst, ◌∙◌}
use Rattle.std.specs.Prelude.{Result, Ok, Err}
use Rattle.std.specs.Io.KnownBytes.{Keeps}
use Rattle.std.proofs.KnownBytes.{Appends-kept}
use Rattle.mr_data.specs.declared.given.Given.{Given}
use Rattle.mr_node_output.specs.Outs.{no_output}
use Rattle.mr_node.specs.Calls.{FeedRow}
use Rattle.mr_node.specs.declared.fault.NodeFault.{NodeFault}
use Rattle.mr_node_spec.specs.State.{NodeState}
use Rattle.mr_pipe.specs.Outside.{Outside, Change, IsSettled}
use Rattle.mr_pipe.specs.State.{PipeState}
use Rattle.mr_pipe.specs.Sessions.{Gives, all_changes}
use Rattle.mr_pipe.specs.Serving.{Settles, Going, Breaks, IsLeft, IsCutOff, IsDrained}
use Rattle.mr_pipe.specs.Faults.{fault_of}
use Rattle.mr_pipe.specs.declared.linked_node.LinkedNode.{LinkedNode}
use Rattle.mr_pipe.specs.declared.fault.PipeFault.{PipeFault}
use Rattle.mr_pipe.specs.declared.fault.PipeFault.TheVariants as fault
use Rattle.mr_pipe.proofs.Serves.{serves_more, serves_join, more_moments, changes_join, changes_more}
use Rattle.mr_file.proofs.Written.{all_begun}
use Rattle.mr_pipe.proofs.Files.{settled_join, settled_kept}
use Rattle.mr_pipe.proofs.Refusals.{feed_refused}

-- a fault in the step behind those that were served
pub breaks : (g : Given) (s : PipeState) (u : List ℕ) (x : Outside) (p : LinkedNode) (y : Outside) (why : PipeFault) (z : Outside)
    → (w : Going g s u x p y) → IsLeft why g w.at w.done.rest y z → Breaks g s u x why z
breaks g s u x p y why z w h = record { at = w.at; before = y; done = w.done; left = h }

-- more bytes behind
abbrev pub settles_more : (g : Given) (s : PipeState) (u : List ℕ) (x : Outside) (t : PipeState) (y : Outside) (bytes : List ℕ) → Settles g s u x t y → Settles g s (u ++ bytes) x t y
settles_more g s u x t y bytes d = record {
  moments = more_moments bytes d.moments;
  rest = d.rest ++ bytes;
  said = d.said;
  serves = serves_more g bytes s u d.moments t d.rest d.said d.serves;
  settled = subst (λ (c : List Change). IsSettled x y c d.said) (sym (changes_more bytes d.moments)) d.settled;
}

abbrev pub settles_join : (g : Given) (s : PipeState) (u : List ℕ) (x : Outside) (t : PipeState) (y : Outside) (e : PipeState) (z : Outside)
    → (d : Settles g s u x t y) → Settles g t d.rest y e z → Settles g s u x e z
settles_join g s u x t y e z d n = record {
  moments = d.moments ++ n.moments;
  rest = n.rest;
  said = d.said ++ n.said;
  serves = serves_join g s u d.moments t d.rest d.said n.moments e n.rest n.said d.serves n.serves;
  settled = subst (λ (c : List Change). IsSettled x z c (d.said ++ n.said)) (sym (changes_join d.moments n.moments))
      (settled_join x y z (all_changes d.moments) (all_changes n.moments) d.said n.said d.settled n.settled);
}

-- what was served before, and what is served of the bytes that came
pub drained_join : (g : Given) (s : PipeState) (u : List ℕ) (x : Outside) (bytes : List ℕ) (t : PipeState) (y : Outside) (q : LinkedNode) (z : Outside)
    → (d : Settles g s u x t y) → (r : Result Bool PipeFault) → IsDrained g t (d.rest ++ bytes) y q z r → IsDrained g s (u ++ bytes) x q z r
drained_join g s u x bytes t y q z d (Ok true) n = record {
  going = record {
    at = n.going.at;
    done = settles_join g s (u ++ bytes) x t y n.going.at z (settles_more g s u x t y bytes d) n.going.done;
    stands = n.going.stands;
  };
  waits = n.waits;
}
drained_join g s u x bytes t y q z d (Ok false) n = record {
  at = n.at;
  before = n.before;
  done = settles_join g s (u ++ bytes) x t y n.at n.before (settles_more g s u x t y bytes d) n.done;
  last = n.last;
  ends = n.ends;
  told = n.told;
  kept = n.kept;
}
drained_join g s u x bytes t y q z d (Err why) n = record {
  at = n.at;
  before = n.before;
  done = settles_join g s (u ++ bytes) x t y n.at n.before (settles_more g s u x t y bytes d) n.done;
  left = n.left;
}

-- the bytes were refused
pub not_fed : (g : Given) (s : PipeState) (u : List ℕ) (x : Outside) (bytes : List ℕ) (p : LinkedNode) (y : Outside) (b : NodeState) (e : NodeFault)
    → Going g s u x p y → FeedRow p.node p.link bytes (length bytes) b (Err e) → Breaks g s (u ++ bytes) x (fault_of e) y
not_fed g s u x bytes p y b e w row = record {
  at = w.at;
  before = y;
  done = settles_more g s u x w.at y bytes w.done;
  left = feed_refused g w.at w.done.rest y p bytes b w.stands e row;
}

-- ---- a flush behind all
kept_settles : (g : Given) (s : PipeState) (u : List ℕ) (x : Outside) (t : PipeState) (y z : Outside) → (d : Settles g s u x t y) → Keeps y.output z.output → z.kept ≡ y.kept → IsSettled x z (all_changes d.moments) d.said
kept_settles g s u x t y z d k same = settled_kept x y z (all_changes d.moments) d.said d.settled k same

pub flushed : (g : Given) (s : PipeState) (u : List ℕ) (x : Outside) (p : LinkedNode) (y z : Outside) (goes : Bool) → IsDrained g s u x p y (Ok goes) → Keeps y.output z.output → z.kept ≡ y.kept
    → IsDrained g s u x p z (Ok goes)
flushed g s u x p y z true n k same =
    let d = n.going.done in
    record {
      going = record {
        at = n.going.at;
        done = record { moments = d.moments; rest = d.rest; said = d.said; serves = d.serves; settled = kept_settles g s u x n.going.at y z d k same };
        stands = n.going.stands;
      };
      waits = n.waits;
    }
flushed g s u x p y z false n k same = record {
  at = n.at;
  before = n.before;
  done = n.done;
  last = n.last;
  ends = n.ends;
  told = Appends-kept n.before.output y.output z.output n.last n.told k;
  kept = same ∙ n.kept;
}

pub not_flushed : (g : Given) (s : PipeState) (u : List ℕ) (x : Outside) (p : LinkedNode) (y z : Outside) (goes : Bool) → IsDrained g s u x p y (Ok goes) → Keeps y.output z.output → z.kept ≡ y.kept
    → Breaks g s u x fault.Write z
not_flushed g s u x p y z true n k same = record { at = n.going.at; before = y; done = n.going.done; left = IsCutOff.in_flush k same }
not_flushed g s u x p y z false n k same = record {
  at = n.at;
  before = n.before;
  done = n.done;
  left = IsCutOff.in_reply (record no_output { said = n.last }) (Gives.ends n.last n.ends refl) (same ∙ n.kept)
      (all_begun n.before.output z.output n.last (Appends-kept n.before.output y.output z.output n.last n.told k));
}
