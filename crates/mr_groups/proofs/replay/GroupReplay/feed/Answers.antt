use Rattle.std.proofs.Common.{rules, ◌≡◌, ◌++◌, List, ℕ, drop, subst, sym}
use Rattle.mr_groups.specs.Replaying.{IsReadUpTo, IsRest}
use Rattle.mr_groups.specs.Fronts.{AppliesFront}
use Rattle.mr_groups.specs.Readers.{HasRead}
use Rattle.mr_groups.proofs.Going.{is_rest, reads_on}
use Rattle.mr_groups.proofs.Resuming as resuming
use Rattle.mr_groups.proofs.replay.GroupReplay.feed.Goals as goal

-- what was read of the bytes so far was read of them with the piece
pub apply_front-applied-requires : goal.apply_front-applied-requires
apply_front-applied-requires c =
    let unread = c.args.self.now.unread.items in
    let all : unread ++ c.args.piece.now ≡ c.as_slice.result.now = search rules in
    subst (HasRead c.args.self.now.reader) all (resuming.reads_on c.args.self.now.reader unread c.args.piece.now c.requires)

pub returns-clause-read : goal.returns-clause-read
returns-clause-read c = λ bytes read.
    let unread = c.args.self.now.unread.items in
    let piece = c.args.piece.now in
    let old = c.args.self.now.dataset in
    let applied = c.apply_front-applied.result in
    let new = c.apply_front-applied.new.dataset in
    let done : AppliesFront (unread ++ piece) applied.used old new applied.rest = search rules in
    let left : c.drop_front.new.bytes.items ≡ drop applied.used (unread ++ piece) = search rules in
    subst (λ (xs : List ℕ). IsReadUpTo (bytes ++ piece) new xs c.in_ok-rest.rest) (sym left) (reads_on bytes unread piece applied.used old new applied.rest c.in_ok-rest.rest c.in_ok-rest.was done read)

pub returns-clause-left : goal.returns-clause-left
returns-clause-left c =
    let bytes = c.args.self.now.unread.items ++ c.args.piece.now in
    let applied = c.apply_front-applied.result in
    let new = c.apply_front-applied.new.dataset in
    let done : AppliesFront bytes applied.used c.args.self.now.dataset new applied.rest = search rules in
    let left : c.drop_front.new.bytes.items ≡ drop applied.used bytes = search rules in
    subst (λ (xs : List ℕ). IsRest new xs c.in_ok-rest.rest) (sym left) (is_rest bytes applied.used c.args.self.now.dataset new applied.rest c.in_ok-rest.rest c.in_ok-rest.was done)
