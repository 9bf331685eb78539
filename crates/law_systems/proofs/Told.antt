-- What becomes of links as the outs of a call are carried: only what their servers' ends say, and whether those are open.
use Rattle.std.proofs.Common.{◌≡◌, ◌≢◌, ◌++◌, ◌⊎◌, inl, inr, ◌==◌, ◌&&◌, ℕ, List, [], Bool, true, false, Option, None, Some, length, map, append-nil, append_assoc, if◌then◌else◌, refl, sym, ap, ◌∙◌}
use Rattle.std.specs.Prelude.{slice_get, slice_set}
use Rattle.std.specs.Option.{option_map}
use Rattle.std.proofs.lemmas.Option.{slice_get-map}
use Rattle.mr_links.specs.declared.link_id.LinkId.{LinkId}
use Rattle.mr_node_links.specs.State.{EndState}
use Rattle.mr_node_links.specs.State.EndState.{client, waiting, replica, upstream, shut}
use Rattle.mr_node_links.specs.Replicas.{is_named}
use Rattle.mr_node_output.specs.Outs.{OutsState}
use Rattle.law_refinement.specs.State.{Link}
use Rattle.law_refinement.specs.Carrying.{fed_if, is_at, reached, settled, shut_if, told}
use Rattle.law_refinement.proofs.Open.{eqb_no, eqb_yes}
use Rattle.law_refinement.proofs.Places.{set_cases}
use Rattle.mr_links.specs.declared.side.Side.TheVariants as side
use Rattle.law_systems.specs.System.{Connection}
use Rattle.law_systems.proofs.Mirrors.{IsLine}
use Rattle.law_systems.proofs.Rebuilding.{SameHalf}

-- Of the link l nothing is another in m but that this much more was said at the server's end, whether that is open, whether it streams, and what was used there.
pub record IsTold (l m : Link) (more : List ℕ) : Type 0 where
  pub caller : m.caller ≡ l.caller
  pub waits : m.waits ≡ l.waits
  pub to : m.to ≡ l.to
  pub name : m.name ≡ l.name
  pub asked : m.ask.sent ≡ l.ask.sent
  pub taken : m.ask.taken ≡ l.ask.taken
  pub said : m.tell.sent ≡ l.tell.sent ++ more
  pub heard : m.tell.taken ≡ l.tell.taken

pub reaches : (c d : Bool) (bytes : List ℕ) (l : Link) → IsTold l (shut_if c (fed_if d bytes l)) (if d then bytes else [])
reaches true true bytes l = record { caller = refl; waits = refl; to = refl; name = refl; asked = refl; taken = refl; said = refl; heard = refl }
reaches true false bytes l = record { caller = refl; waits = refl; to = refl; name = refl; asked = refl; taken = refl; said = sym (append-nil l.tell.sent); heard = refl }
reaches false true bytes l = record { caller = refl; waits = refl; to = refl; name = refl; asked = refl; taken = refl; said = refl; heard = refl }
reaches false false bytes l = record { caller = refl; waits = refl; to = refl; name = refl; asked = refl; taken = refl; said = sym (append-nil l.tell.sent); heard = refl }

-- the bytes of the stream that a call sends on a link
abbrev pub reached_by : ℕ → OutsState → Link → List ℕ
reached_by n outs l = if is_at n l && is_named outs.fed l.name then outs.grown else []

pub is_reached : (n : ℕ) (outs : OutsState) (l : Link) → IsTold l (reached n outs l) (reached_by n outs l)
is_reached n outs l = reaches (is_at n l && is_named outs.closed l.name) (is_at n l && is_named outs.fed l.name) outs.grown l

pub is_settled : (o : Option EndState) (reply : List ℕ) (l : Link) → IsTold l (settled o (told reply l)) reply
is_settled None reply l = record { caller = refl; waits = refl; to = refl; name = refl; asked = refl; taken = refl; said = refl; heard = refl }
is_settled (Some (client u)) reply l = record { caller = refl; waits = refl; to = refl; name = refl; asked = refl; taken = refl; said = refl; heard = refl }
is_settled (Some (waiting t u)) reply l = record { caller = refl; waits = refl; to = refl; name = refl; asked = refl; taken = refl; said = refl; heard = refl }
is_settled (Some (replica u)) reply l = record { caller = refl; waits = refl; to = refl; name = refl; asked = refl; taken = refl; said = refl; heard = refl }
is_settled (Some upstream) reply l = record { caller = refl; waits = refl; to = refl; name = refl; asked = refl; taken = refl; said = refl; heard = refl }
is_settled (Some shut) reply l = record { caller = refl; waits = refl; to = refl; name = refl; asked = refl; taken = refl; said = refl; heard = refl }

-- ---- which links are reached
and_not : (a b : Bool) → b ≡ false → (a && b) ≡ false
and_not true b e = e
and_not false b e = refl

not_at : (n : ℕ) (outs : OutsState) (l : Link) → is_at n l ≡ false → reached n outs l ≡ l
not_at n outs l e = ap (λ b. shut_if (b && is_named outs.closed l.name) (fed_if (b && is_named outs.fed l.name) outs.grown l)) e

-- none that another node serves, and none whose server's end isn't open
pub reached_elsewhere : (n : ℕ) (outs : OutsState) (l : Link) → l.to ≢ n → reached n outs l ≡ l
reached_elsewhere n outs l ne = not_at n outs l (ap (λ b. b && l.serving) (eqb_no l.to n ne))

pub reached_closed : (n : ℕ) (outs : OutsState) (l : Link) → l.serving ≡ false → reached n outs l ≡ l
reached_closed n outs l closed = not_at n outs l (and_not (l.to == n) l.serving closed)

-- an open one of the node by its name
pub reached_here : (n : ℕ) (outs : OutsState) (l : Link) (name : LinkId) → l.to ≡ n → l.serving ≡ true → l.name ≡ name
    → reached n outs l ≡ shut_if (is_named outs.closed name) (fed_if (is_named outs.fed name) outs.grown l)
reached_here n outs l name to serving named =
    let here : is_at n l ≡ true = ap (λ b. b && l.serving) (eqb_yes l.to n to) ∙ serving in
    ap (λ b. shut_if (b && is_named outs.closed l.name) (fed_if (b && is_named outs.fed l.name) outs.grown l)) here
    ∙ ap (λ x. shut_if (is_named outs.closed x) (fed_if (is_named outs.fed x) outs.grown l)) named

pub shut_open : (d : Bool) (bytes : List ℕ) (l : Link) → (shut_if false (fed_if d bytes l)).serving ≡ l.serving
shut_open true bytes l = refl
shut_open false bytes l = refl

-- ---- where a link stands among those that were reached
pub map_was : {A : Type 0} (f : A → A) (xs : List A) (i : ℕ) (y : A) → slice_get (map f xs) i ≡ Some y → (x : A) × (slice_get xs i ≡ Some x) × (y ≡ f x)
map_was {A} f xs i y e = go (slice_get xs i) refl (sym (slice_get-map f xs i) ∙ e)
  where
    go : (o : Option A) → slice_get xs i ≡ o → option_map f o ≡ Some y → (x : A) × (slice_get xs i ≡ Some x) × (y ≡ f x)
    go None q h = absurd (cc)
    go (Some x) q h = let same : y ≡ f x = cc in (x, q, same)

-- the link b is j, and the others are reached
pub answered_was : (links : List Link) (n : ℕ) (outs : OutsState) (b : ℕ) (j : Link) (c : ℕ) (l : Link) → slice_get (slice_set (map (reached n outs) links) b j) c ≡ Some l
    → ((c ≡ b) × (l ≡ j)) ⊎ ((c ≢ b) × ((m : Link) × (slice_get links c ≡ Some m) × (l ≡ reached n outs m)))
answered_was links n outs b j c l e = elim (set_cases (map (reached n outs) links) b c j l e) [
  | inl here ↦ inl (here.0, here.1)
  | inr there ↦ inr (there.0, map_was (reached n outs) links c l there.1)
]

-- ---- what that is beside the connections
pub told_line : (k : Connection) (l m : Link) (more : List ℕ) → IsTold l m more → IsLine k l → IsLine k m
told_line k l m more t line = record {
  asked = record { rest = line.asked.rest; is = t.asked ∙ line.asked.is };
  answered = record {
    rest = line.answered.rest ++ more;
    is = t.said ∙ (ap (λ z. z ++ more) line.answered.is ∙ append_assoc k.answered.written line.answered.rest more);
  };
  waits = λ e has none. t.waits ∙ line.waits e has none;
  served = λ e h. (t.waits ∙ (line.served e h).0, t.to ∙ (line.served e h).1);
  client = λ e. (t.caller ∙ (line.client e).0, t.taken ∙ ((line.client e).1 ∙ ap (λ z. length z) (sym t.asked)));
  dialled = λ e has. let before = line.dialled e has in (before.0, t.caller ∙ before.1);
}

not_server : side.Opener ≡ side.Server → ⊥
not_server e = cc

-- the end of the node that dialled is none the wiser
pub told_opener : (k : Connection) (l m : Link) (more : List ℕ) → IsTold l m more → SameHalf side.Opener k l k m
told_opener k l m more t = record { sent = t.asked; written = refl; taken = t.heard; read = refl; dialler = refl; serving = λ e. absurd (not_server e) }

-- and neither is that of the server of a link that stays what it was
pub same_server : (k : Connection) (l m : Link) → m ≡ l → SameHalf side.Server k l k m
same_server k l m e = record {
  sent = ap (λ (z : Link). z.tell.sent) e;
  written = refl;
  taken = ap (λ (z : Link). z.ask.taken) e;
  read = refl;
  dialler = refl;
  serving = λ s. (ap (λ (z : Link). z.serving) e, ap (λ (z : Link). z.to) e, ap (λ (z : Link). z.name) e);
}
