-- What is done to a file and written to an output, one part after another.
use Rattle.std.proofs.Common.{◌≡◌, ◌⊎◌, ℕ, List, [], ◌∷◌, ◌++◌, Option, Some, refl, sym, ap, subst, ◌∙◌, append_assoc, arith, length, ◌+◌, ◌-◌, take_all, inl, inr}
use Rattle.std.specs.Io.KnownBytes.{Appends, Keeps}
use Rattle.std.proofs.KnownBytes.{Appends-nil, Appends-trans, Appends-kept}
use Rattle.std.specs.Prelude.{Result, Ok, Err, OnOk, OnErr, IfErr, IsErrOf, true, false, ◌==◌}
use Rattle.mr_aof.specs.declared.fault.LogFault.{LogFault}
use Rattle.mr_aof.specs.declared.fault.LogFault.TheVariants as log_fault
use Rattle.mr_node_output.specs.Outs.{Output}
use Rattle.mr_pipe.specs.Outside.{Kept, Outside, Change, appends, replaces, Made, Filed, Fails, IsTorn, IsSettled}
use Rattle.mr_file.specs.Outputs.{IsBegun}
use Rattle.mr_pipe.specs.Sessions.{changes_of}
use Rattle.mr_pipe.specs.Serving.{IsCarriedOut}
use Rattle.mr_pipe.specs.declared.fault.PipeFault.{PipeFault}
use Rattle.mr_pipe.specs.declared.fault.PipeFault.TheVariants as fault
use Rattle.mr_pipe.proofs.Serves.{append_nil}

-- what was done first, and what was done behind it
pub filed_join : (cs ds : List Change) (a b c : Kept) → Filed a b cs → Filed b c ds → Filed a c (cs ++ ds)
filed_join [] ds a b c f s = subst (λ (z : Kept). Filed z c ds) f s
filed_join (x ∷ cs) ds a b c f s = (f.0, (f.1.0, filed_join cs ds f.0 b c f.1.1 s))

pub nothing_settled : (x : Outside) → IsSettled x x [] []
nothing_settled x = record { filed = refl; told = Appends-nil x.output }

pub settled_join : (x y z : Outside) (p q : List Change) (s t : List ℕ) → IsSettled x y p s → IsSettled y z q t → IsSettled x z (p ++ q) (s ++ t)
settled_join x y z p q s t f n = record {
  filed = filed_join p q x.kept y.kept z.kept f.filed n.filed;
  told = Appends-trans x.output y.output z.output s t f.told n.told;
}

-- a flush changes nothing of this
pub settled_kept : (x y z : Outside) (p : List Change) (s : List ℕ) → IsSettled x y p s → Keeps y.output z.output → z.kept ≡ y.kept → IsSettled x z p s
settled_kept x y z p s f k same = record {
  filed = subst (λ (m : Kept). Filed x.kept m p) (sym same) f.filed;
  told = Appends-kept x.output y.output z.output s f.told k;
}

-- ---- bytes that are written part by part
pub no_more_written : (a b d : Option (List ℕ)) (bytes : List ℕ) → Appends a b bytes → Appends b d [] → Appends a d bytes
no_more_written a b d bytes one two = subst (λ z. Appends a d z) (append_nil bytes) (Appends-trans a b d bytes [] one two)

-- ---- what is done to the file
-- no texts, no change
pub filed_none : (a : Kept) (texts : List ℕ) → texts ≡ [] → Filed a a (appends texts)
filed_none a texts none = subst (λ (z : List ℕ). Filed a a (appends z)) (sym none) refl

pub filed_texts : (a b : Kept) (texts : List ℕ) → (texts ≡ [] → ⊥) → Made a b (Change.append texts) → Filed a b (appends texts)
filed_texts a b [] some made = absurd (some refl)
filed_texts a b (t ∷ texts) some made = (b, (made, refl))

pub torn_texts : (a b : Kept) (texts : List ℕ) → (texts ≡ [] → ⊥) → Fails a b (Change.append texts) → IsTorn a b (appends texts)
torn_texts a b [] some fails = absurd (some refl)
torn_texts a b (t ∷ texts) some fails = record { made = []; change = Change.append (t ∷ texts); others = []; are = refl; between = a; filed = refl; fails = fails }

pub filed_whole : (a b : Kept) (bytes : List ℕ) → Made a b (Change.replace bytes) → Filed a b (replaces (Some bytes))
filed_whole a b bytes made = (b, (made, refl))

pub torn_whole : (a b : Kept) (whole : Option (List ℕ)) (bytes : List ℕ) → whole ≡ Some bytes → Fails a b (Change.replace bytes) → IsTorn a b (replaces whole)
torn_whole a b whole bytes is fails =
    subst (λ (z : Option (List ℕ)). IsTorn a b (replaces z)) (sym is) (record { made = []; change = Change.replace bytes; others = []; are = refl; between = a; filed = refl; fails = fails })

pub not_empty : (texts : List ℕ) → (length texts == 0) ≡ false → texts ≡ [] → ⊥
not_empty [] e none = let wrong : true ≡ false = e in cc
not_empty (t ∷ texts) e none = cc

-- why the file failed
pub cause_of : (why : LogFault) (broken rose : Type 0) → (IsErrOf {T = Unit {0}} (Err why) log_fault.Broken → broken) → (IsErrOf {T = Unit {0}} (Err why) log_fault.Device → rose) → (IsErrOf {T = Unit {0}} (Err why) log_fault.Memory → ⊥) → broken ⊎ rose
cause_of log_fault.Broken broken rose b d m = inl (b refl)
cause_of log_fault.Device broken rose b d m = inr (d refl)
cause_of log_fault.Memory broken rose b d m = absurd (m refl)

-- the file failed at the first changes, or behind them
pub torn_first : (a b : Kept) (cs ds : List Change) → IsTorn a b cs → IsTorn a b (cs ++ ds)
torn_first a b cs ds t = record {
  made = t.made;
  change = t.change;
  others = t.others ++ ds;
  are = ap (λ (z : List Change). z ++ ds) t.are ∙ append_assoc t.made (t.change ∷ t.others) ds;
  between = t.between;
  filed = t.filed;
  fails = t.fails;
}

pub torn_behind : (a b c : Kept) (cs ds : List Change) → Filed a b cs → IsTorn b c ds → IsTorn a c (cs ++ ds)
torn_behind a b c cs ds f t = record {
  made = cs ++ t.made;
  change = t.change;
  others = t.others;
  are = ap (λ (z : List Change). cs ++ z) t.are ∙ sym (append_assoc cs t.made (t.change ∷ t.others));
  between = t.between;
  filed = filed_join cs t.made a b t.between f t.filed;
  fails = t.fails;
}

-- .. of a step, whose texts were appended
pub torn_step : (r : Result (Unit {0}) PipeFault) (a m b : Kept) (p q : List ℕ) (o s : Option (List ℕ)) → p ≡ q → o ≡ s → Filed a m (appends p) → OnErr r (IsTorn m b (replaces o)) → OnErr r (IsTorn a b (appends q ++ replaces s))
torn_step (Ok u) a m b p q o s texts whole f h = tt
torn_step (Err e) a m b p q o s texts whole f h =
    subst (λ (z : List ℕ). IsTorn a b (appends z ++ replaces s)) texts
    (subst (λ (z : Option (List ℕ)). IsTorn a b (appends p ++ replaces z)) whole (torn_behind a m b (appends p) (replaces o) f h))

-- ---- what the outs of a step come to
pub torn_out : (why : PipeFault) (out : Output) (x y : Outside) → why ≡ fault.File → IsTorn x.kept y.kept (changes_of out) → y.output ≡ x.output → IsCarriedOut out x y (Err why)
torn_out why out x y is t same = subst (λ w. IsCarriedOut out x y (Err w)) (sym is) (t, same)

pub written_out : (r : Result (Unit {0}) PipeFault) (out : Output) (x y : Outside) → Filed x.kept y.kept (changes_of out) → OnOk r (Appends x.output y.output out.said) → OnErr r (IsBegun x.output y.output out.said)
    → IfErr r (λ e. e ≡ fault.Write) → IsCarriedOut out x y r
written_out (Ok _) out x y f w b e = record { filed = f; told = w }
written_out (Err why) out x y f w b e = subst (λ z. IsCarriedOut out x y (Err z)) (sym e) (f, b)
