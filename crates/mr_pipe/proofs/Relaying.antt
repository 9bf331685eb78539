-- One read after another.
use Rattle.std.proofs.Common.{◌≡◌, ℕ, List, [], ◌∷◌, ◌++◌, true, false, Option, ◌-◌, ◌<◌, length, min, refl, sym, ap, subst, ◌∙◌, inl, inr, Ok, Err, Result, arith}
use Rattle.std.specs.Prelude.{◌⊎◌, take, Some, IsErrOf, unwrap_or}
use Rattle.mr_file.specs.LogFile.{Rose}
use Rattle.std.specs.Io.KnownBytes.{Consumes, Keeps}
use Rattle.std.proofs.KnownBytes.{Consumes-nil, Consumes-kept, Consumes-trans, Appends-trans, Keeps-refl}
use Rattle.mr_data.specs.declared.given.Given.{Given}
use Rattle.mr_pipe.specs.Outside.{Kept, Outside, Change, Filed}
use Rattle.mr_node_links.specs.State.{full}
use Rattle.mr_node_spec.specs.State.{room_of}
use Rattle.mr_node_spec.proofs.Nothing.{waits_nothing}
use Rattle.mr_pipe.specs.State.{PipeState, Stands}
use Rattle.mr_pipe.specs.Sessions.{all_changes}
use Rattle.mr_pipe.specs.Serving.{Drained, Breaks, IsLeft, Tears, IsDrained}
use Rattle.mr_pipe.specs.Reading.{IsRead}
use Rattle.mr_pipe.specs.Piped.{Relays, RelaysEnd, RelaysClose, RelaysBreak, IsRound, IsPiped, IsPipedAlone, no_file, Session, Broken, Answers}
use Rattle.mr_pipe.specs.declared.linked_node.LinkedNode.{LinkedNode}
use Rattle.mr_pipe.specs.declared.fault.PipeFault.{PipeFault}
use Rattle.mr_pipe.specs.declared.fault.PipeFault.TheVariants as fault
use Rattle.mr_pipe.specs.declared.relay.Round.{Round}
use Rattle.mr_pipe.specs.declared.relay.Round.TheVariants as round
use Rattle.mr_pipe.proofs.Serves.{append_nil}
use Rattle.mr_pipe.proofs.Goings.{starts}
use Rattle.mr_pipe.proofs.Refusals.{has_room}

-- nothing was read yet
pub no_round : (g : Given) (s : PipeState) (x : Outside) (b : Option (List ℕ)) (p : LinkedNode) → Stands p s [] → Relays g s [] x b b p x
no_round g s x b p h = record { read = []; consumed = Consumes-nil b; drained = record { going = starts g s [] x p h; waits = waits_nothing } }

-- the state so far, then one more round
pub after_round : (g : Given) (s : PipeState) (x : Outside) (b m e : Option (List ℕ)) (p : LinkedNode) (y : Outside) (q : LinkedNode) (z : Outside) (t : Result Round PipeFault)
    → (w : Relays g s [] x b m p y) → IsRound g s w.read x m e q z t → IsRound g s [] x b e q z t
after_round g s x b m e p y q z (Ok round.On) w n = record { read = w.read ++ n.read; consumed = Consumes-trans b m e w.read n.read w.consumed n.consumed; drained = n.drained }
after_round g s x b m e p y q z (Ok round.End) w n = record { all = record { read = w.read ++ n.all.read; consumed = Consumes-trans b m e w.read n.all.read w.consumed n.all.consumed; drained = n.all.drained }; at_end = n.at_end }
after_round g s x b m e p y q z (Ok round.Shut) w n = record { read = w.read ++ n.read; consumed = Consumes-trans b m e w.read n.read w.consumed n.consumed; ended = n.ended }
after_round g s x b m e p y q z (Err why) w n = record { read = w.read ++ n.read; consumed = Consumes-trans b m e w.read n.read w.consumed n.consumed; breaks = n.breaks }

-- what was read and written in the end
pub session_end : (g : Given) (s : PipeState) (x : Outside) (b e : Option (List ℕ)) (q : LinkedNode) (z : Outside) → RelaysEnd g s [] x b e q z → Session g s b e x z
session_end g s x b e q z n =
    let going = n.all.drained.going in
    let w = going.done in
    record {
      read = n.all.read;
      consumed = n.all.consumed;
      moments = w.moments;
      pipe = going.at;
      said = w.said;
      answers = Answers.at_end w.rest w.serves n.all.drained.waits n.at_end;
      settled = w.settled;
    }

pub session_close : (g : Given) (s : PipeState) (x : Outside) (b e : Option (List ℕ)) (z : Outside) → RelaysClose g s [] x b e z → Session g s b e x z
session_close g s x b e z n =
    let d = n.ended in
    let w = d.done in
    record {
      read = n.read;
      consumed = n.consumed;
      moments = w.moments;
      pipe = d.at;
      said = w.said ++ d.last;
      answers = Answers.at_close w.rest w.said d.last w.serves d.ends refl;
      settled = record {
        filed = subst (λ (k : Kept). Filed x.kept k (all_changes w.moments)) (sym d.kept) w.settled.filed;
        told = Appends-trans x.output d.before.output z.output w.said d.last w.settled.told d.told;
      };
    }

pub session_break : (g : Given) (s : PipeState) (x : Outside) (b e : Option (List ℕ)) (why : PipeFault) (z : Outside) → RelaysBreak g s [] x b e why z → Broken g s b e x why z
session_break g s x b e why z n = Broken.amid n.read n.consumed n.breaks

-- after all turns
pub session_stop : (g : Given) (s : PipeState) (x : Outside) (b e : Option (List ℕ)) (q : LinkedNode) (z : Outside) → Relays g s [] x b e q z → Broken g s b e x fault.Read z
session_stop g s x b e q z n = Broken.amid n.read n.consumed (record { at = n.drained.going.at; before = z; done = n.drained.going.done; left = refl })

-- no session began
pub no_session : (g : Given) (s : PipeState) (x : Outside) (b : Option (List ℕ)) (why : PipeFault) → why ≡ fault.Memory → Broken g s b b x why x
no_session g s x b why is = Broken.unbegun is (Consumes-nil b) refl

-- ---- one round
-- nothing more was read
pub no_more : (g : Given) (s : PipeState) (u : List ℕ) (x : Outside) (b e : Option (List ℕ)) (p : LinkedNode) (y : Outside) → Drained g s u x p y → Keeps b e → Relays g s u x b e p y
no_more g s u x b e p y d k = record {
  read = [];
  consumed = Consumes-kept b b e [] (Consumes-nil b) k;
  drained = subst (λ z. Drained g s z x p y) (sym (append_nil u)) d;
}

-- .. and a fault came, which leaves nothing
broken_round : (g : Given) (s : PipeState) (u : List ℕ) (x : Outside) (b e : Option (List ℕ)) (p : LinkedNode) (y : Outside) (why : PipeFault) → (d : Drained g s u x p y) → Keeps b e
    → IsLeft why g d.going.at d.going.done.rest y y → RelaysBreak g s u x b e why y
broken_round g s u x b e p y why d k h = record {
  read = [];
  consumed = Consumes-kept b b e [] (Consumes-nil b) k;
  breaks = subst (λ z. Breaks g s z x why y) (sym (append_nil u)) (record { at = d.going.at; before = y; done = d.going.done; left = h });
}

-- .. as the node takes no bytes more, though a piece of some may be read
pub no_room : (g : Given) (s : PipeState) (u : List ℕ) (x : Outside) (b : Option (List ℕ)) (p : LinkedNode) (y : Outside) → (d : Drained g s u x p y) → (piece : ℕ) → 0 < piece
    → min (unwrap_or (room_of p.node p.link) 0) piece ≡ 0 → RelaysBreak g s u x b b fault.Memory y
no_room g s u x b p y d piece some none =
    let v = d.going.done.rest in
    let room : min (full - length v) piece ≡ 0 = ap (λ o. min (unwrap_or o 0) piece) (sym (has_room p d.going.at v d.going.stands)) ∙ none in
    broken_round g s u x b b p y fault.Memory d (Keeps-refl b) ((λ is. omega (arith, room, some, ap length is)), refl)

pub read_failed : (g : Given) (s : PipeState) (u : List ℕ) (x : Outside) (b e : Option (List ℕ)) (p : LinkedNode) (y : Outside) (why : PipeFault) → why ≡ fault.Read → Drained g s u x p y → Keeps b e
    → RelaysBreak g s u x b e why y
read_failed g s u x b e p y why is d k = subst (λ w. RelaysBreak g s u x b e w y) (sym is) (broken_round g s u x b e p y fault.Read d k refl)

-- bytes were read, and served
pub delivered : (g : Given) (s : PipeState) (u : List ℕ) (x : Outside) (b e : Option (List ℕ)) (bytes : List ℕ) (q : LinkedNode) (z : Outside) → Consumes b e bytes → IsDrained g s (u ++ bytes) x q z (Ok true)
    → Relays g s u x b e q z
delivered g s u x b e bytes q z c d = record { read = bytes; consumed = c; drained = d }

pub delivered_all : (g : Given) (s : PipeState) (u : List ℕ) (x : Outside) (b e : Option (List ℕ)) (bytes : List ℕ) (q : LinkedNode) (z : Outside) → Consumes b e bytes → IsDrained g s (u ++ bytes) x q z (Ok false)
    → RelaysClose g s u x b e z
delivered_all g s u x b e bytes q z c d = record { read = bytes; consumed = c; ended = d }

pub not_delivered : (g : Given) (s : PipeState) (u : List ℕ) (x : Outside) (b e : Option (List ℕ)) (bytes : List ℕ) (q : LinkedNode) (z : Outside) (why : PipeFault) → Consumes b e bytes → IsDrained g s (u ++ bytes) x q z (Err why)
    → RelaysBreak g s u x b e why z
not_delivered g s u x b e bytes q z why c d = record { read = bytes; consumed = c; breaks = d }

-- the input is at its end
pub at_end_round : (g : Given) (s : PipeState) (u : List ℕ) (x : Outside) (b e : Option (List ℕ)) (p : LinkedNode) (y : Outside) (buffer : List ℕ) (n : ℕ) → n ≡ 0 → IsRead b e buffer (Some n) → Drained g s u x p y
    → RelaysEnd g s u x b e p y
at_end_round g s u x b e p y buffer n none r d = record {
  all = record {
    read = [];
    consumed = subst (λ k. Consumes b e (take k buffer)) none r.1;
    drained = subst (λ z. Drained g s z x p y) (sym (append_nil u)) d;
  };
  at_end = r.2 none;
}

-- ---- where there is no file
pub is_alone : (k : Kept) → k.told ≡ no_file.told → k.synced ≡ no_file.synced → k.failures ≡ 0 → k.mode ≡ no_file.mode → k.broken ≡ false → k ≡ no_file
is_alone k t s f m b = λ i. record { told = t i; synced = s i; failures = f i; mode = m i; broken = b i }

pub piped_alone : (g : Given) (c d : PipeState) (p q old new : Option (List ℕ)) (k n : Kept) (r : Result (Unit {0}) PipeFault) → c ≡ d → k ≡ no_file
    → IsPiped g c p q (record { output = old; kept = k }) (record { output = new; kept = n }) r → IsPipedAlone g d p q old new r
piped_alone g c d p q old new k n r same none h = (
  n,
  subst (λ z. IsPiped g d p q (record { output = old; kept = z }) (record { output = new; kept = n }) r) none
      (subst (λ z. IsPiped g z p q (record { output = old; kept = k }) (record { output = new; kept = n }) r) same h),
)

-- .. and no fault of one
stays_sound : (cs : List Change) (a b : Kept) → Filed a b cs → a.broken ≡ false → b.broken ≡ false
stays_sound [] a b f h = ap (λ (k : Kept). k.broken) f ∙ h
stays_sound (c ∷ cs) a b f h = stays_sound cs f.0 b f.1.1 f.1.0.sound

no_cause : (a b : Kept) → a.broken ≡ false → b.failures ≡ 0 → (a.broken ≡ true) ⊎ Rose a.failures b.failures → ⊥
no_cause a b sound none (inl broken) = let e : true ≡ false = sym broken ∙ sound in cc
no_cause a b sound none (inr (inl more)) = omega (arith, more, none)
no_cause a b sound none (inr (inr most)) = omega (arith, most, none)

no_tear : (g : Given) (c : PipeState) (u : List ℕ) (x y : Outside) → x.kept.broken ≡ false → y.kept.failures ≡ 0 → Tears g c u x y → ⊥
no_tear g c u x y sound none t = no_cause t.torn.between y.kept (stays_sound t.torn.made x.kept t.torn.between t.torn.filed sound) none t.torn.fails.cause

err_is : (w v : PipeFault) → ◌≡◌ {A = Result (Unit {0}) PipeFault} (Err w) (Err v) → w ≡ v
err_is w v e = cc

pub never_fails : (g : Given) (c : PipeState) (p q : Option (List ℕ)) (x y : Outside) (r : Result (Unit {0}) PipeFault) → x.kept.broken ≡ false → y.kept.failures ≡ 0 → IsPiped g c p q x y r → IsErrOf r fault.File → ⊥
never_fails g c p q x y (Ok u) sound none h e = let wrong : ◌≡◌ {A = Result (Unit {0}) PipeFault} (Ok u) (Err fault.File) = e in cc
never_fails g c p q x y (Err why) sound none (Broken.unbegun is read same) e = let wrong : fault.Memory ≡ fault.File = sym is ∙ err_is why fault.File e in cc
never_fails g c p q x y (Err why) sound none (Broken.amid read consumed k) e =
    no_tear g k.at k.done.rest k.before y (stays_sound (all_changes k.done.moments) x.kept k.before.kept k.done.settled.filed sound) none (subst (λ w. IsLeft w g k.at k.done.rest k.before y) (err_is why fault.File e) k.left)
