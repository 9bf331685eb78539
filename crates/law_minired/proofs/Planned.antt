-- A request has one list of effects, of good groups.
use Rattle.std.proofs.Common.{◌≡◌, ◌≤◌, ℕ, inl, inr, List, [], true, false, Some, None, length, refl, sym, ap, ◌∙◌, subst, All}
use Rattle.std.proofs.lemmas.List.Elements.{All-nil}
use Rattle.mr_map.specs.Bytes.{Bytes}
use Rattle.mr_resp.specs.Usual.{usual}
use Rattle.mr_resp.proofs.OneAnswer.{one_words}
use Rattle.mr_effect.specs.declared.effect.Effect.{Effect}
use Rattle.mr_keyspace.specs.Dataset.{Dataset}
use Rattle.mr_data.specs.declared.given.Given.{Given}
use Rattle.mr_groups.specs.Groups.{IsGoodGroup, as_group, grown_text, singles}
use Rattle.mr_groups.proofs.Singles.{good_singles}
use Rattle.mr_commands.specs.Requests.{HasPlan, left}
use Rattle.mr_commands.specs.Transactions.{Coming, Frame, coming}
use Rattle.mr_commands.specs.Transactions.Coming.{ends}
use Rattle.law_protocol.specs.Language.{Transaction}
use Rattle.law_minired.specs.Changes.{HasSingles, HasGroup, HasThen, HasWithin, RequestsHaveOneChange, RequestsHaveGoodGroups}
use Rattle.law_minired.proofs.GoodGroups.{good_effects, good_as_group}
use Rattle.law_minired.proofs.Waited.{one_plan, one_way, Sound, sound_all}

-- room for so many bytes, and any answer to a question
abbrev pub frame_within : ℕ → Frame
frame_within room = record { Fits = λ es. length (grown_text es) ≤ room; Told = λ question reply. Unit {0} }

one_singles : (text : List ℕ) (m : Dataset) (given : Given) (gs hs : List (List Effect)) → HasSingles text m given gs → HasSingles text m given hs → gs ≡ hs
one_singles text m given gs hs p q =
    let same = one_words usual text p.words q.words p.request q.request in
    let plan = subst (λ (ws : List Bytes). HasPlan false m ws given p.reply p.effects) same p.plan in
    p.alone ∙ (ap singles (one_plan false m q.words given p.reply q.reply p.effects q.effects plan q.plan) ∙ sym q.alone)

one_group : (room : ℕ) (queued : List (List ℕ)) (m : Dataset) (given : Given) (gs hs : List (List Effect)) → HasGroup room queued m given gs → HasGroup room queued m given hs → gs ≡ hs
one_group room queued m given gs hs p q =
    p.as_one ∙ (ap as_group (one_way (frame_within room) false given queued [] [] m m p.held q.held p.replies q.replies p.effects q.effects refl refl p.does q.does) ∙ sym q.as_one)

marked_and_not : {P : Type 0} (t : Transaction) → t.marked ≡ true → t.marked ≡ false → P
marked_and_not t p q = absurd (cc)

one_then : (c : Coming) (room : ℕ) (t : Transaction) (m : Dataset) (given : Given) (gs hs : List (List Effect)) → HasThen c room t m given gs → HasThen c room t m given hs → gs ≡ hs
one_then ends room t m given gs hs (inl p) (inl q) = p.1 ∙ sym q.1
one_then ends room t m given gs hs (inl p) (inr q) = marked_and_not t p.0 q.0
one_then ends room t m given gs hs (inr p) (inl q) = marked_and_not t q.0 p.0
one_then ends room t m given gs hs (inr p) (inr q) = one_group room t.queued m given gs hs p.1 q.1
one_then _ room t m given gs hs p q = p ∙ sym q

one_within : (room : ℕ) (t : Transaction) (text : List ℕ) (m : Dataset) (given : Given) (gs hs : List (List Effect)) → HasWithin room t text m given gs → HasWithin room t text m given hs → gs ≡ hs
one_within room t text m given gs hs p q =
    let same = one_words usual text p.words q.words p.request q.request in
    one_then (coming false q.words) room t m given gs hs (subst (λ (ws : List Bytes). HasThen (coming false ws) room t m given gs) same p.then) q.then

pub one_change : RequestsHaveOneChange
one_change room None text m given gs hs p q = one_singles text m given gs hs p q
one_change room (Some t) text m given gs hs p q = one_within room t text m given gs hs p q

-- ---- good groups
no_groups : (gs : List (List Effect)) → gs ≡ [] → All IsGoodGroup gs
no_groups gs none = subst (All IsGoodGroup) (sym none) (All-nil IsGoodGroup)

pub sound_group : (room : ℕ) (queued : List (List ℕ)) (m : Dataset) (given : Given) (gs : List (List Effect)) → (p : HasGroup room queued m given gs) → Sound (frame_within room) false given [] m p.effects p.held
sound_group room queued m given gs p = sound_all (frame_within room) false given queued [] m p.held p.replies p.effects p.does

good_group : (room : ℕ) (queued : List (List ℕ)) (m : Dataset) (given : Given) (gs : List (List Effect)) → HasGroup room queued m given gs → All IsGoodGroup gs
good_group room queued m given gs p =
    let s = sound_group room queued m given gs p in
    subst (All IsGoodGroup) (sym p.as_one) (good_as_group p.effects s.join (good_effects p.effects m p.held s.leads s.short))

good_then : (c : Coming) (room : ℕ) (t : Transaction) (m : Dataset) (given : Given) (gs : List (List Effect)) → HasThen c room t m given gs → All IsGoodGroup gs
good_then ends room t m given gs (inl p) = no_groups gs p.1
good_then ends room t m given gs (inr p) = good_group room t.queued m given gs p.1
good_then _ room t m given gs p = no_groups gs p

pub good_groups : RequestsHaveGoodGroups
good_groups room None text m given gs p =
    subst (All IsGoodGroup) (sym p.alone) (good_singles p.effects (good_effects p.effects m (left false p.words given m) p.plan.leads p.plan.short))
good_groups room (Some t) text m given gs p = good_then (coming false p.words) room t m given gs p.then
