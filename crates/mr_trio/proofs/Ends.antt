-- What comes to an end of the client, one turn after another.
use Rattle.std.proofs.Common.{◌≡◌, ◌∙◌, ℕ, Bool, List, [], ◌++◌, Global, Vec, Option, Some, None, refl, sym, ap, subst, append-nil, append_assoc, take, take-append-drop}
use Rattle.std.specs.Prelude.{Result, Ok, Err, IfOk, IfSome, IfNone}
use Rattle.mr_trio_script.specs.State.{ClientState, Sent, Heard}
use Rattle.mr_trio_script.specs.declared.fault.TrioFault.{TrioFault}
use Rattle.mr_wire.specs.Wire.{WireState, count_of}
use Rattle.mr_trio.specs.Asking.{IsTaken, Moves, MovesIf, MovesToReply}

-- ---- an end
pub stays : (a : ClientState) → Moves a a
stays a = record { link = refl; gone = []; sent = refl; more = []; came = sym (append-nil a.came) }

pub moves_on : (a b c : ClientState) → Moves a b → Moves b c → Moves a c
moves_on a b c h k = record {
  link = k.link ∙ h.link;
  gone = h.gone ++ k.gone;
  sent = h.sent ∙ ap (λ z. h.gone ++ z) k.sent ∙ sym (append_assoc h.gone k.gone c.waiting);
  more = h.more ++ k.more;
  came = k.came ∙ ap (λ z. z ++ k.more) h.came ∙ append_assoc a.came h.more k.more;
}

-- a write, and then a read
pub both_ways : (tells : Bool) (a b c : ClientState) (s t x y : WireState) → Sent tells a b s t → Heard tells b c x y → Moves a c
both_ways tells a b c s t x y out in_ =
    let n = count_of out.answer in
    let more = take (count_of in_.answer) in_.buffer in
    record {
      link = ap (λ (e : ClientState). e.link) in_.is ∙ ap (λ (e : ClientState). e.link) out.is;
      gone = take n a.waiting;
      sent = sym (take-append-drop n a.waiting) ∙ ap (λ z. take n a.waiting ++ z) (sym (ap (λ (e : ClientState). e.waiting) in_.is ∙ ap (λ (e : ClientState). e.waiting) out.is));
      more = more;
      came = ap (λ (e : ClientState). e.came) in_.is ∙ ap (λ (e : ClientState). e.came ++ more) out.is;
    }

-- ---- an end, if there is one
pub none_moves : (o : Option ClientState) → MovesIf o o
none_moves None = refl
none_moves (Some a) = (a, refl, stays a)

pub move_on : (o p q : Option ClientState) → MovesIf o p → MovesIf p q → MovesIf o q
move_on None p q h k = subst (λ z. MovesIf z q) h k
move_on (Some a) p q h k =
    let n = subst (λ z. MovesIf z q) h.1 k in
    (n.0, n.1, moves_on a h.0 n.0 h.2 n.2)

pub reply_after : (o p q : Option ClientState) (reply : List ℕ) → MovesIf o p → MovesToReply p q reply → MovesToReply o q reply
reply_after o p q reply h k = record { mid = k.mid; moves = move_on o p k.mid h k.moves; taken = k.taken }

-- ---- what a turn answers
pub if_taken : (r : Result (Option (Vec ℕ Global)) TrioFault) (o p q : Option ClientState) → MovesIf o p → IfOk r (λ reply. IfSome reply (λ text. IsTaken p q text.items)) → IfOk r (λ reply. IfSome reply (λ text. MovesToReply o q text.items))
if_taken (Ok (Some text)) o p q h taken = record { mid = p; moves = h; taken = taken }
if_taken (Ok None) o p q h taken = tt
if_taken (Err f) o p q h taken = tt

pub if_none : (r : Result (Option (Vec ℕ Global)) TrioFault) (o p q : Option ClientState) → MovesIf o p → IfOk r (λ reply. IfNone reply (q ≡ p)) → IfOk r (λ reply. IfNone reply (MovesIf o q))
if_none (Ok (Some text)) o p q h same = tt
if_none (Ok None) o p q h same = subst (λ z. MovesIf o z) (sym same) h
if_none (Err f) o p q h same = tt
