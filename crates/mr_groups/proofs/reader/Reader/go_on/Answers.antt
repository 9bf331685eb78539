use Rattle.std.proofs.Common.{◌+◌, ◌<◌, ◌≤◌, length, sym, ap, subst, arith}
use Rattle.mr_groups.proofs.KnownTexts.{fresh_may, may_from}
use Rattle.mr_groups.proofs.Pieces.{rest_from}
use Rattle.mr_groups.specs.Parts.{IsKnownAfter, ReadsPart}
use Rattle.mr_groups.specs.Reading.{IsFirstGroup}
use Rattle.mr_groups.specs.Readers.{AreRead}
use Rattle.mr_groups.specs.Readers.HasRead.{begun}
use Rattle.mr_groups.specs.declared.part.Part.{Part}
use Rattle.mr_groups.proofs.Readings.{one_more, all_whole, multi_inside, early_end, lone_inside, bad_behind, on_err, open_behind}
use Rattle.mr_groups.proofs.Resuming.{frame_begins, given_group, known_behind}
use Rattle.mr_groups.proofs.reader.Reader.go_on.Goals as goal

pub returns-in-Begin-clause-found : goal.returns-in-Begin-clause-found
returns-in-Begin-clause-found c =
    let bytes = c.args.bytes.now in
    let read = subst (λ (p : Part). ReadsPart (rest_from c.parts.self.used bytes) c.parts.self.effects p c.next_part.new.effects) c.in-Begin.is c.in_ok-part.ensures.found in
    multi_inside bytes c.parts.self.used c.in-Begin.field-0 c.parts.self.effects c.parts.invariant.read read.0

pub returns-then-not-joins-clause-found : goal.returns-then-not-joins-clause-found
returns-then-not-joins-clause-found c =
    let bytes = c.args.bytes.now in
    let read = subst (λ (p : Part). ReadsPart (rest_from c.parts.self.used bytes) c.parts.self.effects p c.next_part.new.effects) c.in-Effect.is c.in_ok-part.ensures.found in
    lone_inside bytes c.parts.self.used c.in-Effect.more c.in-Effect.joins c.parts.self.effects c.next_part.new.effects c.parts.invariant.read read c.if-not-joins.true

pub next_part-requires : goal.next_part-requires
next_part-requires c = may_from c.parts.self.known c.args.bytes.now c.parts.self.used c.parts.invariant.known

pub parts-preserved : goal.parts-preserved
parts-preserved c =
    let bytes = c.args.bytes.now in
    let progress = c.next_part.new.progress in
    let read = subst (λ (p : Part). ReadsPart (rest_from c.parts.self.used bytes) c.parts.self.effects p c.next_part.new.effects) c.in-Effect.is c.in_ok-part.ensures.found in
    record {
      read = one_more bytes c.parts.self.used c.in-Effect.more c.in-Effect.joins c.parts.self.effects c.next_part.new.effects c.parts.invariant.read read c.if-not-joins.false;
      known = fresh_may progress _ (subst (IsKnownAfter progress) c.in-Effect.is c.in_ok-part.ensures.after);
    }

pub returns-then-len-lt2-clause-found : goal.returns-then-len-lt2-clause-found
returns-then-len-lt2-clause-found c =
    let bytes = c.args.bytes.now in
    let read = subst (λ (p : Part). ReadsPart (rest_from c.parts.self.used bytes) c.parts.self.effects p c.next_part.new.effects) c.in-End.is c.in_ok-part.ensures.found in
    let few : length c.parts.self.effects < 2 = omega (arith, ap length read.1) in
    early_end bytes c.parts.self.used c.in-End.more c.parts.self.effects c.parts.invariant.read read.0 few

pub returns-in-End-clause-found : goal.returns-in-End-clause-found
returns-in-End-clause-found c =
    let bytes = c.args.bytes.now in
    let read = subst (λ (p : Part). ReadsPart (rest_from c.parts.self.used bytes) c.parts.self.effects p c.next_part.new.effects) c.in-End.is c.in_ok-part.ensures.found in
    let some : 2 ≤ length c.parts.self.effects = omega (arith, ap length read.1) in
    given_group bytes c.next_part.new.effects _ c.give.result (subst (λ es. IsFirstGroup bytes es (c.parts.self.used + c.in-End.more)) (sym read.1) (all_whole bytes c.parts.self.used c.in-End.more c.parts.self.effects c.parts.invariant.read read.0 some)) c.give.ensures.given

pub returns-in_err-part-clause-refused : goal.returns-in_err-part-clause-refused
returns-in_err-part-clause-refused c = on_err _ _ (frame_begins c.args.bytes.now c.parts.self.used c.parts.self.effects c.parts.invariant.read)

pub returns-in-More-clause-found : goal.returns-in-More-clause-found
returns-in-More-clause-found c =
    let bytes = c.args.bytes.now in
    let read = subst (λ (p : Part). ReadsPart (rest_from c.parts.self.used bytes) c.parts.self.effects p c.next_part.new.effects) c.in-More.is c.in_ok-part.ensures.found in
    open_behind bytes c.parts.self.used c.parts.self.effects c.parts.invariant.read read.0

pub returns-in-More-clause-kept : goal.returns-in-More-clause-kept
returns-in-More-clause-kept c =
    let bytes = c.args.bytes.now in
    let read = subst (λ (p : Part). ReadsPart (rest_from c.parts.self.used bytes) c.parts.self.effects p c.next_part.new.effects) c.in-More.is c.in_ok-part.ensures.found in
    begun (subst (AreRead bytes c.parts.self.used) (sym read.1) c.parts.invariant.read) (known_behind c.next_part.new.progress bytes c.parts.self.used c.in_ok-part.ensures.known)

pub returns-in-Bad-clause-found : goal.returns-in-Bad-clause-found
returns-in-Bad-clause-found c =
    let bytes = c.args.bytes.now in
    bad_behind bytes c.parts.self.used c.parts.self.effects c.parts.invariant.read (subst (λ (p : Part). ReadsPart (rest_from c.parts.self.used bytes) c.parts.self.effects p c.next_part.new.effects) c.in-Bad.is c.in_ok-part.ensures.found)

pub returns-in_err-part-clause-kept : goal.returns-in_err-part-clause-kept
returns-in_err-part-clause-kept c =
    let bytes = c.args.bytes.now in
    begun (subst (AreRead bytes c.parts.self.used) (sym c.in_err-part.ensures.kept) c.parts.invariant.read) (known_behind c.next_part.new.progress bytes c.parts.self.used c.in_err-part.ensures.known)

pub give-requires : goal.give-requires
give-requires c = subst (IsKnownAfter c.next_part.new.progress) c.in-End.is c.in_ok-part.ensures.after
