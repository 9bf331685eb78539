-- What was read of a group stays read as more bytes come.
use Rattle.std.proofs.Common.{◌≡◌, ℕ, ◌<◌, ◌≤◌, List, [], ◌++◌, ◌==◌, true, false, length, take, drop, refl, sym, ap, subst, ◌∙◌, append_assoc, arith, eqb-true, length-append}
use Rattle.std.proofs.lemmas.List.{append-nil, take-append-drop, take-append-le, take-take, take_at, drop-append-le, length-take-le}
use Rattle.mr_resp.specs.Command.{BeginsWithCommand}
use Rattle.mr_resp.specs.Resumed.{AgreesCommand, MayAgree}
use Rattle.mr_resp.specs.declared.progress.CommandProgress.{CommandProgress}
use Rattle.mr_resp.proofs.Resuming.{command_more, fresh_command}
use Rattle.mr_resp.specs.Usual.{commands}
use Rattle.mr_groups.proofs.KnownTexts.{known_from}
use Rattle.mr_groups.proofs.Pieces.{rest_from}
use Rattle.mr_effect.specs.Spelling.{texts}
use Rattle.mr_effect.specs.declared.effect.Effect.{Effect}
use Rattle.mr_groups.specs.Groups.{multi}
use Rattle.mr_groups.specs.Notes.{HasNoNote}
use Rattle.mr_groups.specs.Reading.{IsFirstGroup, ReadsGroup}
use Rattle.mr_groups.specs.Readers.{AreRead, IsAtStart, IsFresh, HasRead, LeavesOf, GivesAll, MayRead, ReadsOn, ReadsAny}
use Rattle.mr_groups.specs.Readers.HasRead.{nothing, partly, begun}
use Rattle.mr_groups.specs.declared.reader.Reader.{Reader}
use Rattle.mr_groups.specs.declared.reading.Next.{Next}
use Rattle.mr_groups.specs.declared.reading.Next.TheVariants.{Whole, More, Bad}
use Rattle.mr_groups.proofs.Lengths.{multi_length}
use Rattle.mr_groups.proofs.Marks.{framed_no_note}
use Rattle.mr_groups.proofs.Readings.{begins_with_multi}

pub reads_any : ReadsAny
reads_any r bytes fresh = nothing fresh

pub reads_on : ReadsOn
reads_on r bytes more (nothing fresh) = nothing fresh
reads_on r bytes more (partly start known) = partly start (command_more r.known bytes more known)
reads_on r bytes more (begun read known) = begun
    (record {
      within = omega (arith, read.within, length-append bytes more);
      is_text = take-append-le r.used bytes more read.within ∙ read.is_text;
      good = read.good;
      join = read.join;
    })
    (subst (AgreesCommand r.known) (sym (drop-append-le r.used bytes more read.within)) (command_more r.known (drop r.used bytes) more known))

-- what was read of a frame was, where it is among the bytes
pub still_read : (r : Reader) (bytes : List ℕ) → MayRead r bytes → (r.used == 0) ≡ false → r.used ≤ length bytes → AreRead bytes r.used r.effects
still_read r bytes (more, nothing fresh) some within = let wrong : true ≡ false = sym (ap (λ k. k == 0) fresh.0.0) ∙ some in cc
still_read r bytes (more, partly start known) some within = let wrong : true ≡ false = sym (ap (λ k. k == 0) start.0) ∙ some in cc
still_read r bytes (more, begun read known) some within = record {
  within = within;
  is_text = sym (take-append-le r.used bytes more within) ∙ read.is_text;
  good = read.good;
  join = read.join;
}

-- .. and so is what is known of the command text behind it
pub still_known : (r : Reader) (bytes : List ℕ) → MayRead r bytes → (r.used == 0) ≡ false → r.used ≤ length bytes → MayAgree r.known (drop r.used bytes)
still_known r bytes (more, nothing fresh) some within = let wrong : true ≡ false = sym (ap (λ k. k == 0) fresh.0.0) ∙ some in cc
still_known r bytes (more, partly start known) some within = let wrong : true ≡ false = sym (ap (λ k. k == 0) start.0) ∙ some in cc
still_known r bytes (more, begun read known) some within = (more, subst (AgreesCommand r.known) (drop-append-le r.used bytes more within) known)

no_frame : (r : Reader) (bytes : List ℕ) → (r.used == 0) ≡ true → AreRead bytes r.used r.effects → ⊥
no_frame r bytes none read =
    let zero : r.used ≡ 0 = eqb-true r.used 0 none in
    omega (arith, zero, length-take-le r.used bytes read.within, ap length read.is_text, length-append multi (texts r.effects), multi_length)

-- what has read no whole command text
pub starts_at : (r : Reader) (bytes : List ℕ) → MayRead r bytes → (r.used == 0) ≡ true → IsAtStart r × MayAgree r.known bytes
starts_at r bytes (more, nothing fresh) none = (fresh.0, (more, fresh_command r.known (bytes ++ more) fresh.1))
starts_at r bytes (more, partly start known) none = (start, (more, known))
starts_at r bytes (more, begun read known) none = absurd (no_frame r (bytes ++ more) none read)

pub may_read : (r : Reader) (bytes : List ℕ) → HasRead r bytes → MayRead r bytes
may_read r bytes read = ([], subst (HasRead r) (sym (append-nil bytes)) read)

-- what is known of bytes, whatever comes behind them, is known of them
pub known_here : (progress : CommandProgress) (bytes : List ℕ) → ((more : List ℕ) → AgreesCommand progress (bytes ++ more)) → AgreesCommand progress bytes
known_here progress bytes known = subst (AgreesCommand progress) (append-nil bytes) (known [])

pub known_behind : (progress : CommandProgress) (bytes : List ℕ) (used : ℕ) → ((more : List ℕ) → AgreesCommand progress (rest_from used bytes ++ more)) → AgreesCommand progress (drop used bytes)
known_behind progress bytes used known = known_here progress (drop used bytes) (known_from progress bytes used known)

pub given_group : (bytes : List ℕ) (es : List Effect) (n : ℕ) (r : Next) → IsFirstGroup bytes es n → GivesAll es n r → ReadsGroup bytes r
given_group bytes es n (Whole effects used) first h = subst (λ k. IsFirstGroup bytes effects.items k) (sym h.1) (subst (λ (xs : List Effect). IsFirstGroup bytes xs n) (sym h.0) first)
given_group bytes es n More first h = absurd h
given_group bytes es n Bad first h = absurd h

pub given_fresh : (es : List Effect) (n : ℕ) (r : Next) (s : Reader) → GivesAll es n r → IsFresh s → LeavesOf r s
given_fresh es n (Whole effects used) s h fresh = fresh
given_fresh es n More s h fresh = absurd h
given_fresh es n Bad s h fresh = absurd h

-- what it has read of a frame begins with no note
pub begun_no_note : (r : Reader) (bytes : List ℕ) → HasRead r bytes → (r.used == 0) ≡ false → HasNoNote bytes
begun_no_note r bytes (nothing fresh) some more note = let wrong : true ≡ false = sym (ap (λ k. k == 0) fresh.0.0) ∙ some in cc
begun_no_note r bytes (partly start known) some more note = let wrong : true ≡ false = sym (ap (λ k. k == 0) start.0) ∙ some in cc
begun_no_note r bytes (begun read known) some more note =
    framed_no_note (texts r.effects ++ (drop r.used bytes ++ more)) (bytes ++ more)
    (ap (λ (t : List ℕ). t ++ more) (sym (take-append-drop r.used bytes) ∙ ap (λ (t : List ℕ). t ++ drop r.used bytes) read.is_text)
    ∙ (append_assoc (multi ++ texts r.effects) (drop r.used bytes) more ∙ append_assoc multi (texts r.effects) (drop r.used bytes ++ more))) note

-- a frame's beginning is a command text
pub frame_begins : (bytes : List ℕ) (used : ℕ) (es : List Effect) → AreRead bytes used es → BeginsWithCommand commands bytes
frame_begins bytes used es a = begins_with_multi bytes (length multi) (record {
  within = omega (arith, a.within, length-take-le used bytes a.within, ap length a.is_text, length-append multi (texts es));
  is_text = sym (take-take (length multi) used bytes few) ∙ (ap (take (length multi)) a.is_text ∙ take_at multi (texts es) (length multi) refl);
})
  where
    few : length multi ≤ used
    few = omega (arith, length-take-le used bytes a.within, ap length a.is_text, length-append multi (texts es))
