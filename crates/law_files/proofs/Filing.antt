-- What calls make of files that make datasets.
use Rattle.std.proofs.Common.{◌≡◌, inl, inr, ℕ, List, [], ◌++◌, length, Option, None, Some, All, refl, sym, ap, subst, ◌∙◌, append-nil, length-append, arith}
use Rattle.std.specs.FinMap.{empty}
use Rattle.std.proofs.lemmas.List.Elements.{All-nil, All-append}
use Rattle.mr_effect.specs.Spelling.{texts}
use Rattle.mr_effect.specs.declared.effect.Effect.{Effect}
use Rattle.mr_keyspace.specs.Dataset.{Dataset}
use Rattle.mr_data.specs.Meaning.{apply_all}
use Rattle.mr_repl.specs.Backlog.{Window, after_bytes}
use Rattle.mr_repl.proofs.Windows.{after_bytes-after_bytes}
use Rattle.mr_groups.specs.Effects.{IsGoodEffect}
use Rattle.mr_groups.specs.Groups.{IsGoodGroup, group_text, group_texts, singles}
use Rattle.mr_groups.specs.Folding.{LeadsByGroups, MakesByGroups, IsStuckByGroups}
use Rattle.mr_groups.proofs.Notes.{nothing_open}
use Rattle.mr_groups.proofs.Runs.{single_texts, single_applied, stuck_where_open, read_is_longest}
use Rattle.mr_groups.proofs.Going.{both_applied, groups_join, makes_further}
use Rattle.mr_groups.proofs.Singles.{good_singles, makes_by_singles}
use Rattle.mr_node_spec.specs.State.{Core}
use Rattle.mr_node_spec.specs.Growing.{rebuilt}
use Rattle.law_refinement.specs.Carrying.{filed_by}
use Rattle.law_files.specs.Filing.{but_beats, groups_but_beats, HasStreamed, Grows, DoesToFile, KeepsFile}
use Rattle.law_files.specs.Steps.{FilesFollow, FilesAreReadWhole, FilesGrowOn, KeptFilesStay}
use Rattle.law_files.proofs.Beats.{apply_but, good_but, groups_append, singles_but}

pub grows_leads : (c d : Core) (appended : List ℕ) → (g : Grows c d appended) → LeadsByGroups appended c.held d.held
grows_leads c d appended g = record { groups = groups_but_beats g.groups; good = good_but g.groups g.good; are_texts = g.filed; applied = apply_but g.groups c.held d.held g.applied }

-- effects, each applied alone
pub effects_grow : (c d : Core) (appended : List ℕ) (es : List Effect) → All IsGoodEffect es → apply_all es c.held ≡ Some d.held → HasStreamed c.lineage.stream (texts es) d.lineage.stream
    → appended ≡ texts (but_beats es) → Grows c d appended
effects_grow c d appended es good applied stream filed = record {
  groups = singles es;
  good = good_singles es good;
  applied = single_applied es c.held ∙ applied;
  stream = subst (λ z. HasStreamed c.lineage.stream z d.lineage.stream) (sym (single_texts es)) stream;
  filed = filed ∙ (sym (single_texts (but_beats es)) ∙ ap group_texts (sym (singles_but es)));
}

done_to : (c d : Core) (appended : List ℕ) (replaced : Option (List ℕ)) (file : List ℕ) → DoesToFile c d appended replaced → MakesByGroups file c.held → MakesByGroups (filed_by replaced (file ++ appended)) d.held
done_to c d appended replaced file (DoesToFile.grows g none) m =
    subst (λ (o : Option (List ℕ)). MakesByGroups (filed_by o (file ++ appended)) d.held) (sym none) (makes_further file appended c.held d.held m (grows_leads c d appended g))
done_to c d appended replaced file (DoesToFile.replaces none whole again) m =
    subst (λ (o : Option (List ℕ)). MakesByGroups (filed_by o (file ++ appended)) d.held) (sym whole) (makes_by_singles (rebuilt d.held) d.held again)

pub files_follow : FilesFollow
files_follow a b outs file f m = done_to a.core b.core outs.appended outs.replaced file f m

-- nothing is read behind all of it
nothing_begins : (m : Dataset) → IsStuckByGroups m []
nothing_begins m = stuck_where_open m [] (inr nothing_open)

pub read_whole : FilesAreReadWhole
read_whole file m made = read_is_longest file file [] m (sym (append-nil file)) made (nothing_begins m)

-- ---- calls one after another
streamed_on : (u v w : Window) (x y : List ℕ) → HasStreamed u x v → HasStreamed v y w → HasStreamed u (x ++ y) w
streamed_on u v w x y (inl p) (inl q) = inl (q ∙ (ap (λ z. after_bytes z y) p ∙ after_bytes-after_bytes u x y))
streamed_on u v w x y (inl p) (inr q) = inl (q.1 ∙ (p ∙ ap (after_bytes u) (sym (append-nil x) ∙ ap (λ z. x ++ z) (sym q.0))))
streamed_on u v w x y (inr p) (inl q) = inl (q ∙ ((λ i. after_bytes (p.1 i) y) ∙ ap (λ z. after_bytes u (z ++ y)) (sym p.0)))
streamed_on u v w x y (inr p) (inr q) = inr ((λ i. p.0 i ++ q.0 i), q.1 ∙ p.1)

pub grow_on : FilesGrowOn
grow_on c d e earlier later g h = record {
  groups = g.groups ++ h.groups;
  good = All-append IsGoodGroup g.groups h.groups g.good h.good;
  applied = both_applied g.groups h.groups c.held d.held e.held g.applied h.applied;
  stream = subst (λ z. HasStreamed c.lineage.stream z e.lineage.stream) (sym (groups_join g.groups h.groups))
      (streamed_on c.lineage.stream d.lineage.stream e.lineage.stream (group_texts g.groups) (group_texts h.groups) g.stream h.stream);
  filed = (λ i. g.filed i ++ h.filed i) ∙ (sym (groups_join (groups_but_beats g.groups) (groups_but_beats h.groups)) ∙ ap group_texts (sym (groups_append g.groups h.groups)));
}

-- ---- what keeps the file
pub kept_grows : (c d : Core) → d.held ≡ c.held → d.lineage.stream ≡ c.lineage.stream → Grows c d []
kept_grows c d held stream = record { groups = []; good = All-nil IsGoodGroup; applied = ap Some (sym held); stream = inr (refl, stream); filed = refl }

pub kept_does : (c d : Core) (appended : List ℕ) (replaced : Option (List ℕ)) → KeepsFile c d appended replaced → DoesToFile c d appended replaced
kept_does c d appended replaced k = DoesToFile.grows (subst (Grows c d) (sym k.none) (kept_grows c d k.held k.stream)) k.whole

pub kept_file : (appended : List ℕ) (replaced : Option (List ℕ)) (file : List ℕ) → appended ≡ [] → replaced ≡ None → filed_by replaced (file ++ appended) ≡ file
kept_file appended replaced file none whole = ap (λ (o : Option (List ℕ)). filed_by o (file ++ appended)) whole ∙ (ap (λ (z : List ℕ). file ++ z) none ∙ append-nil file)

pub kept_stay : KeptFilesStay
kept_stay a b outs file k = (kept_does a.core b.core outs.appended outs.replaced k, kept_file outs.appended outs.replaced file k.none k.whole)

-- .. the core being the same
pub core_kept : (c d : Core) (appended : List ℕ) (replaced : Option (List ℕ)) → d ≡ c → appended ≡ [] → replaced ≡ None → KeepsFile c d appended replaced
core_kept c d appended replaced is none whole = record { held = ap (λ (z : Core). z.held) is; stream = ap (λ (z : Core). z.lineage.stream) is; none = none; whole = whole }
