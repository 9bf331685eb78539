-- Requests one after another, and however the bytes are cut.
use Rattle.std.proofs.Common.{◌≡◌, ℕ, List, [], ◌∷◌, ◌++◌, refl, sym, ap, subst, ◌∙◌, append_assoc}
pub use Rattle.std.proofs.lemmas.List.{append-nil as append_nil}
use Rattle.mr_data.specs.declared.given.Given.{Given}
use Rattle.mr_node_output.specs.Outs.{Output}
use Rattle.mr_node_links.specs.State.{Transaction}
use Rattle.mr_node_spec.specs.State.{Core}
use Rattle.mr_node_spec.specs.Requests.{Asks, AsksNothing}
use Rattle.mr_node_spec.specs.Telling.{Around}
use Rattle.mr_node_spec.specs.Served.{Served}
use Rattle.mr_node_spec.specs.ReplicaRows.{IsExpected}
use Rattle.mr_pipe.specs.Outside.{Change}
use Rattle.mr_pipe.specs.State.{PipeState}
use Rattle.mr_pipe.specs.Sessions.{Moment, AreServed, IsServed, IsServedWithin, changes_of, all_changes}

-- one more request
pub serves_then : (g : Given) (s : PipeState) (u : List ℕ) (ms : List Moment) (t : PipeState) (rest said : List ℕ) (e : PipeState) (left : List ℕ) (out : Output)
    → AreServed g s u ms t rest said → IsServed g t rest e left out → AreServed g s u (ms ++ record { pipe = e; left = left; out = out } ∷ []) e left (said ++ out.said)
serves_then g s u [] t rest said e left out h r = (
  subst (λ z. IsServed g z u e left out) h.0 (subst (λ z. IsServed g t z e left out) h.1 r),
  ([], (refl, refl, refl), ap (λ z. z ++ out.said) h.2 ∙ sym (append_nil out.said)),
)
serves_then g s u (m ∷ ms) t rest said e left out h r =
    (h.0, (h.1.0 ++ out.said, serves_then g m.pipe m.left ms t rest h.1.0 e left out h.1.1 r, ap (λ z. z ++ out.said) h.1.2 ∙ append_assoc m.out.said h.1.0 out.said))

-- more bytes behind: the request has the same text
abbrev asks_more : (u m : List ℕ) (words : List (List ℕ)) (rest : List ℕ) → Asks u words rest → Asks (u ++ m) words (rest ++ m)
asks_more u m words rest a = record { text = a.text; begins = ap (λ z. z ++ m) a.begins ∙ append_assoc a.text rest m; request = a.request }

asks_nothing_more : (u m rest : List ℕ) → AsksNothing u rest → AsksNothing (u ++ m) (rest ++ m)
asks_nothing_more u m rest a = record { text = a.text; begins = ap (λ z. z ++ m) a.begins ∙ append_assoc a.text rest m; empty = a.empty }

served_more : (c : Core) (around : Around) (u m : List ℕ) (g : Given) (d : Core) (rest : List ℕ) (out : Output) → Served c around u g d rest out → Served c around (u ++ m) g d (rest ++ m) out
served_more c around u m g d rest out (Served.request words a s) = Served.request words (asks_more u m words rest a) s
served_more c around u m g d rest out (Served.nothing a e o) = Served.nothing (asks_nothing_more u m rest a) e o

expected_more : (u m rest : List ℕ) → IsExpected u rest → IsExpected (u ++ m) (rest ++ m)
expected_more u m rest (IsExpected.acknowledgement words offset a w) = IsExpected.acknowledgement words offset (asks_more u m words rest a) w
expected_more u m rest (IsExpected.nothing a) = IsExpected.nothing (asks_nothing_more u m rest a)

within_more : (g : Given) (s : PipeState) (held : Transaction) (u m : List ℕ) (t : PipeState) (rest : List ℕ) (out : Output) → IsServedWithin g s held u t rest out → IsServedWithin g s held (u ++ m) t (rest ++ m) out
within_more g s held u m t rest out (IsServedWithin.stands words a next reply h is o) = IsServedWithin.stands words (asks_more u m words rest a) next reply h is o
within_more g s held u m t rest out (IsServedWithin.passes a is o) = IsServedWithin.passes (asks_nothing_more u m rest a) is o
within_more g s held u m t rest out (IsServedWithin.drops words a reply h is o) = IsServedWithin.drops words (asks_more u m words rest a) reply h is o
within_more g s held u m t rest out (IsServedWithin.executes words a runs whole replies effects left does is o) =
    IsServedWithin.executes words (asks_more u m words rest a) runs whole replies effects left does is o

one_more : (g : Given) (s : PipeState) (u m : List ℕ) (t : PipeState) (rest : List ℕ) (out : Output) → IsServed g s u t rest out → IsServed g s (u ++ m) t (rest ++ m) out
one_more g s u m t rest out (IsServed.serves k n d h is) = IsServed.serves k n d (served_more s.core _ u m g d rest out h) is
one_more g s u m t rest out (IsServed.takes_role k n words a h) = IsServed.takes_role k n words (asks_more u m words rest a) h
one_more g s u m t rest out (IsServed.begins k n words a wish is o) = IsServed.begins k n words (asks_more u m words rest a) wish is o
one_more g s u m t rest out (IsServed.goes_within k held n h) = IsServed.goes_within k held n (within_more g s held u m t rest out h)
one_more g s u m t rest out (IsServed.notes k e is o) = IsServed.notes k (expected_more u m rest e) is o

pub more_moments : List ℕ → List Moment → List Moment
more_moments m [] = []
more_moments m (t ∷ ts) = record t { left = t.left ++ m } ∷ more_moments m ts

-- Whatever comes later, what was served stays served: so cuts don't matter.
pub serves_more : (g : Given) (m : List ℕ) (s : PipeState) (u : List ℕ) (ms : List Moment) (t : PipeState) (rest said : List ℕ)
    → AreServed g s u ms t rest said → AreServed g s (u ++ m) (more_moments m ms) t (rest ++ m) said
unfolding more_moments
serves_more g m s u [] t rest said h = (h.0, ap (λ z. z ++ m) h.1, h.2)
serves_more g m s u (n ∷ ms) t rest said h =
    (one_more g s u m n.pipe n.left n.out h.0, (h.1.0, serves_more g m n.pipe n.left ms t rest h.1.0 h.1.1, h.1.2))

-- one session after another
pub serves_join : (g : Given) (s : PipeState) (u : List ℕ) (ms : List Moment) (t : PipeState) (rest said : List ℕ) (ns : List Moment) (e : PipeState) (left more : List ℕ)
    → AreServed g s u ms t rest said → AreServed g t rest ns e left more → AreServed g s u (ms ++ ns) e left (said ++ more)
serves_join g s u [] t rest said ns e left more h r =
    subst (λ o. AreServed g s u ns e left (o ++ more)) (sym h.2) (subst (λ z. AreServed g z u ns e left more) h.0 (subst (λ z. AreServed g t z ns e left more) h.1 r))
serves_join g s u (m ∷ ms) t rest said ns e left more h r =
    (h.0, (h.1.0 ++ more, serves_join g m.pipe m.left ms t rest h.1.0 ns e left more h.1.1 r, ap (λ z. z ++ more) h.1.2 ∙ append_assoc m.out.said h.1.0 more))

-- what is done to the file, one session after another
pub changes_join : (ts ss : List Moment) → all_changes (ts ++ ss) ≡ all_changes ts ++ all_changes ss
changes_join [] ss = refl
changes_join (t ∷ ts) ss = ap (λ (z : List Change). changes_of t.out ++ z) (changes_join ts ss) ∙ sym (append_assoc (changes_of t.out) (all_changes ts) (all_changes ss))

pub changes_then : (ts : List Moment) (t : Moment) → all_changes (ts ++ t ∷ []) ≡ all_changes ts ++ changes_of t.out
changes_then ts t = changes_join ts (t ∷ []) ∙ ap (λ (z : List Change). all_changes ts ++ z) (append_nil (changes_of t.out))

pub changes_more : (m : List ℕ) (ts : List Moment) → all_changes (more_moments m ts) ≡ all_changes ts
unfolding more_moments
changes_more m [] = refl
changes_more m (t ∷ ts) = ap (λ (z : List Change). changes_of t.out ++ z) (changes_more m ts)
