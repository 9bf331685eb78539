-- What a history gives, as commands; and that what a book has more stands behind.
use Rattle.std.proofs.Common.{◌≡◌, ◌+◌, ℕ, List, ◌++◌, Option, None, Some, length, take, refl, sym, ap, subst, ◌∙◌, arith, length-append, All}
use Rattle.std.proofs.lemmas.Grind.{flat_map-append}
use Rattle.std.proofs.Math.Seq.{take-append_seam}
use Rattle.mr_inline.proofs.FaultReasons.{all_front}
use Rattle.mr_effect.specs.declared.effect.Effect.{Effect}
use Rattle.mr_keyspace.specs.Dataset.{Dataset}
use Rattle.mr_groups.specs.Groups.{IsGoodGroup, group_text}
use Rattle.mr_groups.specs.Folding.{LeadsByGroups, MakesByGroups}
use Rattle.mr_groups.proofs.Going.{led_once}
use Rattle.law_protocol.specs.History.{Book, History, IsAt, Grows, texts, fold}
use Rattle.law_protocol.proofs.Fronts.{some_is}
use Rattle.law_minired.specs.Minired.{minired}
use Rattle.law_minired.proofs.Texts.{made_by_groups_is_one}
use Rattle.law_refinement.specs.State.{BookEntry, WorldState}
use Rattle.law_refinement.specs.Books.{IsKept, entry_of, IsKeptAs, IsBook}
use Rattle.law_refinement.specs.Events.{Holds}
use Rattle.law_refinement.proofs.Singles.{fold_is}
use Rattle.law_refinement.specs.Showing.{Gives, HistoriesGoOn}
use Rattle.law_refinement.specs.Headline.{HistoriesGiveOne}

-- an id with a history has an entry that it's kept by
pub record HasEntry (entries : List BookEntry) (id : List ℕ) (h : History minired) : Type 0 where
  pub entry : BookEntry
  pub found : entry_of entries id ≡ Some entry
  pub kept : IsKept entry h

pub has_entry : (entries : List BookEntry) (book : Book minired) (id : List ℕ) (h : History minired) → IsBook entries book → book id ≡ Some h → HasEntry entries id h
has_entry entries book id h is e = go (entry_of entries id) refl
  where
    go : (o : Option BookEntry) → entry_of entries id ≡ o → HasEntry entries id h
    go None q = absurd (subst (λ z. IsKeptAs None z) e (subst (λ z. IsKeptAs z (book id)) q (is.each id)))
    go (Some x) q = record { entry = x; found = q; kept = subst (λ z. IsKeptAs (Some x) z) e (subst (λ z. IsKeptAs z (book id)) q (is.each id)) }

-- the texts of good groups
led_by : (gs : List (List Effect)) (m n : Dataset) → All IsGoodGroup gs → fold minired gs m ≡ Some n → LeadsByGroups (texts minired gs) m n
led_by gs m n good folds = record { groups = gs; good = good; are_texts = refl; applied = sym (fold_is gs m) ∙ folds }

pub at_gives : (w : WorldState) (book : Book minired) → Holds w book → (id : List ℕ) (o : ℕ) (m : Dataset) → IsAt minired book id o m → Gives w id o m
at_gives w book holds id o m at =
    let has = has_entry w.book book id _ holds.kept at.front.found in
    let is : has.entry.texts ≡ texts minired at.earlier ++ texts minired at.later = has.kept.texts_are ∙ flat_map-append group_text at.earlier at.later in
    let cut : take o has.entry.texts ≡ texts minired at.earlier =
    ap (take o) is ∙ (ap (λ n. take n (texts minired at.earlier ++ texts minired at.later)) (sym at.front.place) ∙ take-append_seam (texts minired at.earlier) (texts minired at.later)) in
    let good : All IsGoodGroup at.earlier = all_front IsGoodGroup at.earlier at.later (holds.invariant.good id _ at.front.found) in
    record {
      entry = has.entry;
      found = has.found;
      within = let long : length has.entry.texts ≡ length (texts minired at.earlier) + length (texts minired at.later) = ap length is ∙ length-append (texts minired at.earlier) (texts minired at.later) in
          omega (arith, long, at.front.place);
      begun = at.start;
      start = has.kept.start;
      led = subst (λ z. LeadsByGroups z at.start m) (sym cut) (led_by at.earlier at.start m good at.folds);
    }

is_kept : (o : Option BookEntry) (p : Option (History minired)) (x : BookEntry) → IsKeptAs o p → o ≡ Some x → (h : History minired) × (p ≡ Some h) × IsKept x h
is_kept None p x k e = absurd (cc)
is_kept (Some y) None x k e = absurd k
is_kept (Some y) (Some h) x k e = (h, refl, subst (λ z. IsKept z h) (let same : y ≡ x = cc in same) k)

pub grows_on : (w v : WorldState) (b c : Book minired) → IsBook w.book b → IsBook v.book c → Grows minired b c → HistoriesGoOn w v
grows_on w v b c is is' g id old e =
    let k = is_kept (entry_of w.book id) (b id) old (is.each id) e in
    let more = g id k.0.start k.0.effects k.1 in
    let has = has_entry v.book c id _ is' more.1 in (
      has.entry,
      has.found,
      record {
        dataset = k.0.start;
        before = k.2.start;
        after = has.kept.start;
        more = texts minired more.0;
        texts = has.kept.texts_are ∙ (flat_map-append group_text k.0.effects more.0 ∙ ap (λ z. z ++ texts minired more.0) (sym k.2.texts_are));
      },
    )

pub gives_one : HistoriesGiveOne
gives_one w id o m n a b =
    let same : a.entry ≡ b.entry = some_is a.entry b.entry (sym a.found ∙ b.found) in
    let begun : a.begun ≡ b.begun = made_by_groups_is_one b.entry.start a.begun b.begun (subst (λ (e : BookEntry). MakesByGroups e.start a.begun) same a.start) b.start in
    let from : LeadsByGroups (take o b.entry.texts) b.begun m = subst (λ z. LeadsByGroups (take o b.entry.texts) z m) begun (subst (λ (e : BookEntry). LeadsByGroups (take o e.texts) a.begun m) same a.led) in
    led_once (take o b.entry.texts) b.begun m n from b.led
