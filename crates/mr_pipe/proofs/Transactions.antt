-- What an open transaction leaves alone, and what a file keeps of one.
use Rattle.std.proofs.Common.{◌≡◌, ◌≢◌, ◌⊎◌, inl, inr, ◌∙◌, ◌≤◌, ℕ, List, [], ◌∷◌, ◌++◌, true, not, None, Some, length, take, drop, take-append-drop, refl, sym, ap, subst, arith}
use Rattle.std.specs.Prelude.{All}
use Rattle.std.specs.List.{list_all}
use Rattle.std.proofs.lemmas.List.{length-take-le, take_all}
use Rattle.std.proofs.lemmas.List.Elements.{All-head}
use Rattle.std.proofs.lemmas.Option.{same_Some}
use Rattle.mr_effect.specs.declared.effect.Effect.{Effect}
use Rattle.mr_keyspace.specs.Dataset.{Dataset}
use Rattle.mr_data.specs.declared.given.Given.{Given}
use Rattle.mr_groups.specs.Effects.{IsGoodEffect}
use Rattle.mr_groups.specs.Groups.{IsGoodGroup, can_join, group_text, grown_text}
use Rattle.mr_groups.specs.Folding.{LeadsByGroups, LoadsGroups, MakesByGroups}
use Rattle.mr_groups.proofs.Runs.{torn_loads_none}
use Rattle.mr_groups.proofs.Going.{makes_further, made_once}
use Rattle.law_minired.proofs.GoodGroups.{good_as_group, good_effects}
use Rattle.law_minired.proofs.Waited.{sound_all}
use Rattle.mr_node_links.specs.State.{Transaction}
use Rattle.mr_node_output.specs.Outs.{Output, no_output}
use Rattle.mr_pipe.specs.Outside.{Kept, Change, IsTorn, appends}
use Rattle.mr_pipe.specs.State.{PipeState}
use Rattle.mr_pipe.specs.Sessions.{IsServed, IsServedWithin, TakesRole, changes_of, frame_alone}
use Rattle.mr_pipe.specs.Transactions.{LeavesAll, OpenTransactionsWait, TransactionsLoadWhole}
use Rattle.mr_pipe.proofs.Serves.{append_nil}
use Rattle.mr_pipe.proofs.Folds.{executed_leads, half_of, none_is, torn_told}

-- ---- what an open one leaves alone

only_said : (s t v : PipeState) (out : Output) (said : List ℕ) → t ≡ v → v.core ≡ s.core → out ≡ record no_output { said = said } → LeavesAll s t out
only_said s t v out said is core gives = record { core = ap (λ (z : PipeState). z.core) is ∙ core; grown = ap (λ (o : Output). o.grown) gives; changes = ap changes_of gives }

-- no change of roles opens one
still_none : (s : PipeState) (words : List (List ℕ)) (t : PipeState) (out : Output) → s.transaction ≡ None → TakesRole s words t out → t.transaction ≡ None
still_none s words t out n (TakesRole.synchronizes id wanted text master wish answer is gives) = ap (λ (z : PipeState). z.transaction) is ∙ n
still_none s words t out n (TakesRole.promotes replica wish is gives) = ap (λ (z : PipeState). z.transaction) is ∙ n
still_none s words t out n (TakesRole.turns address replica wish another is gives) = ap (λ (z : PipeState). z.transaction) is ∙ n
still_none s words t out n (TakesRole.demotes address master wish is gives) = ap (λ (z : PipeState). z.transaction) is ∙ n

within : (g : Given) (s : PipeState) (held : Transaction) (u : List ℕ) (t : PipeState) (rest : List ℕ) (out : Output) → IsServedWithin g s held u t rest out → t.transaction ≢ None → LeavesAll s t out
within g s held u t rest out (IsServedWithin.stands words asks next reply h is gives) goes_on = only_said s t _ out _ is refl gives
within g s held u t rest out (IsServedWithin.passes asks is gives) goes_on = only_said s t s out _ is refl gives
within g s held u t rest out (IsServedWithin.drops words asks reply h is gives) goes_on = absurd (goes_on (ap (λ (z : PipeState). z.transaction) is))
within g s held u t rest out (IsServedWithin.executes words asks runs whole replies effects left does is gives) goes_on = absurd (goes_on (ap (λ (z : PipeState). z.transaction) is))

pub open_wait : OpenTransactionsWait
open_wait g s u t rest out (IsServed.serves k n d h is) goes_on = absurd (goes_on (ap (λ (z : PipeState). z.transaction) is ∙ n))
open_wait g s u t rest out (IsServed.takes_role k n words asks h) goes_on = absurd (goes_on (still_none s words t out n h))
open_wait g s u t rest out (IsServed.begins k n words asks wish is gives) goes_on = only_said s t _ out _ is refl gives
open_wait g s u t rest out (IsServed.goes_within k held n h) goes_on = within g s held u t rest out h goes_on
open_wait g s u t rest out (IsServed.notes k e is gives) goes_on = only_said s t s out _ is refl gives

-- ---- what is loaded of a file that failed at one
-- what is loaded of bytes is one
loads_one : (file : List ℕ) (n k : ℕ) (m o : Dataset) → LoadsGroups file n m → LoadsGroups file k o → m ≡ o
loads_one file n k m o p q =
    let least : n ≤ k = subst (λ (z : ℕ). z ≤ k) (length-take-le n file p.within) (q.longest (take n file) (drop n file) m (sym (take-append-drop n file)) p.made) in
    let most : k ≤ n = subst (λ (z : ℕ). z ≤ n) (length-take-le k file q.within) (p.longest (take k file) (drop k file) o (sym (take-append-drop k file)) q.made) in
    let same : n ≡ k = omega (arith, least, most) in
    made_once (take k file) m o (subst (λ (z : ℕ). MakesByGroups (take z file) m) same p.made) q.made

-- .. and all of them, where all are texts of groups
loads_all : (file : List ℕ) (n : ℕ) (m o : Dataset) → MakesByGroups file o → LoadsGroups file n m → m ≡ o
loads_all file n m o made l =
    let all : length file ≤ n = l.longest file [] o (sym (append_nil file)) made in
    made_once file m o (subst (λ (z : List ℕ). MakesByGroups z m) (take_all n file all) l.made) made

-- behind texts of groups stands a beginning of one more
group_loads : (es : List Effect) (xs : List ℕ) (m n o : Dataset) (k used : ℕ) → IsGoodGroup es → MakesByGroups xs m → MakesByGroups (xs ++ group_text es) n → LoadsGroups (xs ++ take k (group_text es)) used o → (o ≡ m) ⊎ (o ≡ n)
group_loads es xs m n o k used good before behind l = by_rest (drop k (group_text es)) (take-append-drop k (group_text es))
  where
    by_rest : (more : List ℕ) → take k (group_text es) ++ more ≡ group_text es → (o ≡ m) ⊎ (o ≡ n)
    by_rest [] is = inr (loads_all (xs ++ take k (group_text es)) used o n (subst (λ (z : List ℕ). MakesByGroups (xs ++ z) n) (sym is ∙ append_nil (take k (group_text es))) behind) l)
    by_rest (c ∷ more) is = inl (loads_one (xs ++ take k (group_text es)) used (length xs) o m l (torn_loads_none xs m es (take k (group_text es)) (c ∷ more) before good is (omega arith)))

-- what a failed append leaves
torn_at : (p : List ℕ) (a b : Kept) (xs ys : List ℕ) → a.told ≡ Some xs → b.told ≡ Some ys → IsTorn a b (appends p ++ []) → (k : ℕ) × (ys ≡ xs ++ take k p)
torn_at [] a b xs ys h y t = absurd (none_is t.made t.change t.others t.are)
torn_at (q ∷ p) a b xs ys h y t =
    let there = torn_told a.told b.told (q ∷ p) xs (half_of (Change.append (q ∷ p)) a b t) h in
    (there.0, same_Some ys (xs ++ take there.0 (q ∷ p)) (sym y ∙ there.1))

executed_loads : (es : List Effect) (m n o : Dataset) (a b : Kept) (xs ys : List ℕ) (used : ℕ) → list_all can_join es ≡ true → All IsGoodEffect es → LeadsByGroups (grown_text es) m n → a.told ≡ Some xs → MakesByGroups xs m
    → IsTorn a b (appends (grown_text es) ++ []) → b.told ≡ Some ys → LoadsGroups ys used o → (o ≡ m) ⊎ (o ≡ n)
executed_loads [] m n o a b xs ys used join good led h f t y l = absurd (none_is t.made t.change t.others t.are)
executed_loads (e ∷ es) m n o a b xs ys used join good led h f t y l =
    let p = group_text (e ∷ es) in
    let there = torn_at p a b xs ys h y t in
    group_loads (e ∷ es) xs m n o there.0 used (All-head IsGoodGroup (e ∷ es) [] (good_as_group (e ∷ es) join good)) f (makes_further xs p m n f led) (subst (λ (z : List ℕ). LoadsGroups z used o) there.1 l)

nothing_torn : {A : Type 0} (out : Output) (a b : Kept) (said : List ℕ) → out ≡ record no_output { said = said } → IsTorn a b (changes_of out) → A
nothing_torn out a b said gives t = absurd (none_is t.made t.change t.others (sym (ap changes_of gives) ∙ t.are))

pub load_whole : TransactionsLoadWhole
load_whole g s held u t rest out (IsServedWithin.stands words asks next reply h is gives) a b xs ys told f torn y used o l = nothing_torn out a b _ gives torn
load_whole g s held u t rest out (IsServedWithin.passes asks is gives) a b xs ys told f torn y used o l = nothing_torn out a b [] gives torn
load_whole g s held u t rest out (IsServedWithin.drops words asks reply h is gives) a b xs ys told f torn y used o l = nothing_torn out a b _ gives torn
load_whole g s held u t rest out (IsServedWithin.executes words asks runs whole replies effects left does is gives) a b xs ys told f torn y used o l =
    let sound = sound_all (frame_alone s.core) (not s.core.master) g held.queued [] s.core.held left replies effects does in
    executed_loads effects s.core.held t.core.held o a b xs ys used sound.join (good_effects effects s.core.held left sound.leads sound.short)
    (executed_leads g s held t replies effects left does (ap (λ (z : PipeState). z.core.held) is)) told f (subst (λ (z : Output). IsTorn a b (changes_of z)) gives torn) y l
