-- No request has a heartbeat among its effects, and what waited in a transaction neither.
use Rattle.std.proofs.Common.{◌≡◌, List, [], ◌∷◌, true, false, refl, ap, ◌∙◌}
use Rattle.std.specs.Prelude.{if◌then◌else◌}
use Rattle.std.specs.List.{list_all}
use Rattle.std.proofs.lemmas.Bool.{and_parts}
use Rattle.mr_effect.specs.declared.effect.Effect.{Effect}
use Rattle.mr_effect.specs.declared.effect.Effect.TheVariants as effect
use Rattle.mr_groups.specs.Groups.{as_group, can_join}
use Rattle.mr_node_spec.specs.Transactions.{frame_of}
use Rattle.law_minired.proofs.Joining.{all_join}
use Rattle.law_minired.proofs.Waited.{sound_all}
use Rattle.law_files.specs.Filing.{is_beat, but_beats, is_beat_group, groups_but_beats}
use Rattle.law_files.specs.Steps.{RequestsHaveNoBeats, WaitedHaveNoBeats}

-- what may stand beside others is none
no_beat : (e : Effect) → can_join e ≡ true → is_beat e ≡ false
no_beat effect.Ping h = absurd (cc)
no_beat _ h = refl

no_beats_in : (es : List Effect) → list_all can_join es ≡ true → but_beats es ≡ es
no_beats_in [] h = refl
no_beats_in (e ∷ es) h =
    let p = and_parts (can_join e) (list_all can_join es) h in
    ap (λ b. if b then but_beats es else e ∷ but_beats es) (no_beat e p.0) ∙ ap (λ z. e ∷ z) (no_beats_in es p.1)

pub no_beats : RequestsHaveNoBeats
no_beats replica m words given answer es p = no_beats_in es (all_join replica m words given answer es p)

pub no_beats_waited : WaitedHaveNoBeats
no_beats_waited a replica given queued m held replies effects does = no_beats_in effects (sound_all (frame_of a) replica given queued [] m held replies effects does).join

-- .. nor is the group that they are one
no_beat_group : (e : Effect) (es : List Effect) → list_all can_join (e ∷ es) ≡ true → is_beat_group (e ∷ es) ≡ false
no_beat_group e [] h = no_beat e (and_parts (can_join e) true h).0
no_beat_group e (f ∷ es) h = refl

pub group_kept : (es : List Effect) → list_all can_join es ≡ true → groups_but_beats (as_group es) ≡ as_group es
group_kept [] h = refl
group_kept (e ∷ es) h = ap (λ b. if b then [] else (e ∷ es) ∷ []) (no_beat_group e es h)
