-- The file of a pipe folds to the dataset of its node.
use Rattle.std.proofs.Common.{◌≡◌, ◌⊎◌, inl, inr, ℕ, List, [], ◌∷◌, ◌++◌, Bool, not, Option, Some, IfSome, refl, sym, ap, subst, ◌∙◌, take, drop, take-append-drop}
use Rattle.std.specs.FinMap.{empty}
use Rattle.mr_file.specs.LogFile.{AppendsSome, IsOldOrNew, IsSynced}
use Rattle.mr_file.specs.declared.sync_mode.SyncMode.{SyncMode}
use Rattle.mr_file.specs.declared.sync_mode.SyncMode.TheVariants.{Always}
use Rattle.mr_resp.specs.Replies.{Tree}
use Rattle.mr_effect.specs.Spelling.{texts}
use Rattle.mr_effect.specs.declared.effect.Effect.{Effect}
use Rattle.mr_keyspace.specs.Dataset.{Dataset}
use Rattle.mr_data.specs.Rebuilding.{rebuilding}
use Rattle.mr_data.specs.declared.given.Given.{Given}
use Rattle.mr_groups.specs.Groups.{as_group, grown_text}
use Rattle.mr_groups.specs.Folding.{LeadsByGroups, MakesByGroups}
use Rattle.mr_groups.proofs.Runs.{leads_nowhere}
use Rattle.mr_groups.proofs.Going.{makes_further}
use Rattle.mr_groups.proofs.Singles.{leads_applied, makes_applied}
use Rattle.mr_commands.specs.Transactions.{Frame, DoesAll}
use Rattle.law_minired.proofs.GoodGroups.{good_effects, good_as_group, as_group_applied, as_group_texts}
use Rattle.law_minired.proofs.Waited.{sound_all}
use Rattle.mr_node_links.specs.State.{Transaction}
use Rattle.mr_node_output.specs.Outs.{Output}
use Rattle.mr_cmd_node.specs.declared.node_ask.NodeAsk.{NodeAsk}
use Rattle.mr_node_spec.specs.State.{Core}
use Rattle.mr_node_spec.specs.Telling.{Around}
use Rattle.mr_node_spec.specs.Served.{Served, Answered, IsQuiet}
use Rattle.mr_pipe.specs.Outside.{Kept, Outside, Change, changed, followed, appends, replaces, Filed, HasHalf, IsTorn, IsCovered}
use Rattle.mr_pipe.specs.State.{PipeState}
use Rattle.mr_pipe.specs.Sessions.{Moment, AreServed, Gives, IsServed, IsServedWithin, TakesRole, alone, changes_of, all_changes, frame_alone}
use Rattle.mr_pipe.specs.Serving.{IsLeft, IsCutOff}
use Rattle.mr_pipe.specs.Piped.{Answers, Broken}
use Rattle.mr_pipe.specs.Folding.{FoldsTorn, FilesFold, FilesFoldTorn, FilesStaySynced}
use Rattle.mr_pipe.specs.declared.fault.PipeFault.{PipeFault}
use Rattle.mr_pipe.specs.declared.fault.PipeFault.TheVariants as fault
use Rattle.mr_pipe.proofs.Serves.{append_nil}

-- ---- what changes make of a file's bytes
followed_join : (cs ds : List Change) (xs : List ℕ) → followed (cs ++ ds) xs ≡ followed ds (followed cs xs)
followed_join [] ds xs = refl
followed_join (c ∷ cs) ds xs = followed_join cs ds (changed c xs)

followed_texts : (p xs : List ℕ) → followed (appends p ++ []) xs ≡ xs ++ p
followed_texts [] xs = sym (append_nil xs)
followed_texts (b ∷ p) xs = refl

filed_told : (cs : List Change) (a b : Kept) (xs : List ℕ) → Filed a b cs → a.told ≡ Some xs → b.told ≡ Some (followed cs xs)
filed_told [] a b xs f h = ap (λ (k : Kept). k.told) f ∙ h
filed_told (c ∷ cs) a b xs f h = filed_told cs f.0 b (changed c xs) f.1.1 (subst (λ o. IfSome o (λ ys. f.0.told ≡ Some (changed c ys))) h f.1.0.told)

-- ---- what stands in the file behind what was served
-- nothing changes
folds_on : (cs : List Change) (c d : Core) (xs : List ℕ) → cs ≡ [] → d ≡ c → MakesByGroups xs c.held → MakesByGroups (followed cs xs) d.held
folds_on cs c d xs none same f = subst (λ (z : List Change). MakesByGroups (followed z xs) d.held) (sym none) (subst (λ (k : Core). MakesByGroups xs k.held) (sym same) f)

quiet_leaves : (c : Core) (wish : NodeAsk) (out : Output) → IsQuiet c wish out → changes_of out ≡ []
quiet_leaves c wish out (IsQuiet.introduces told is gives) = ap changes_of gives
quiet_leaves c wish out (IsQuiet.acknowledges offset is gives) = ap changes_of gives
quiet_leaves c wish out (IsQuiet.refuses id wanted is replica gives) = ap changes_of gives
quiet_leaves c wish out (IsQuiet.execs_nothing is gives) = ap changes_of gives
quiet_leaves c wish out (IsQuiet.discards_nothing is gives) = ap changes_of gives
quiet_leaves c wish out (IsQuiet.stays_master is master gives) = ap changes_of gives
quiet_leaves c wish out (IsQuiet.stays_replica host port is replica followed gives) = ap changes_of gives

served_folds : (c : Core) (around : Around) (u : List ℕ) (g : Given) (d : Core) (rest : List ℕ) (out : Output) → Served c around u g d rest out → (xs : List ℕ) → MakesByGroups xs c.held → MakesByGroups (followed (changes_of out) xs) d.held
served_folds c around u g d rest out (Served.request words asks (Answered.within plain reply effects plan le d_is out_is)) xs f =
    let p = texts effects in
    subst (λ (o : Output). MakesByGroups (followed (changes_of o) xs) d.held) (sym out_is)
    (subst (λ z. MakesByGroups z d.held) (sym (followed_texts p xs))
    (makes_further xs p c.held d.held f (leads_applied effects c.held d.held (plan.leads ∙ ap (λ (k : Core). Some k.held) (sym d_is)) plan.short)))
served_folds c around u g d rest out (Served.request words asks (Answered.beyond plain reply effects plan lt d_is out_is)) xs f = folds_on (changes_of out) c d xs (ap changes_of out_is) d_is f
served_folds c around u g d rest out (Served.request words asks (Answered.rewritten is remakes d_is out_is)) xs f =
    subst (λ (o : Output). MakesByGroups (followed (changes_of o) xs) d.held) (sym out_is)
    (makes_applied (rebuilding c.held) d.held (remakes.again ∙ ap (λ (k : Core). Some k.held) (sym d_is)) remakes.short)
served_folds c around u g d rest out (Served.request words asks (Answered.tells question asked d_is out_is)) xs f = folds_on (changes_of out) c d xs (ap changes_of out_is) d_is f
served_folds c around u g d rest out (Served.request words asks (Answered.keeps_role wish asked quiet d_is)) xs f = folds_on (changes_of out) c d xs (quiet_leaves c wish out quiet) d_is f
served_folds c around u g d rest out (Served.nothing asks d_is out_is) xs f = folds_on (changes_of out) c d xs (ap changes_of out_is) d_is f

-- a change of roles leaves the file and the dataset
role_leaves : (s : PipeState) (words : List (List ℕ)) (t : PipeState) (out : Output) → TakesRole s words t out → (changes_of out ≡ []) × (t.core.held ≡ s.core.held)
role_leaves s words t out (TakesRole.synchronizes id wanted text master wish answer is gives) = (ap changes_of gives, ap (λ (z : PipeState). z.core.held) is)
role_leaves s words t out (TakesRole.promotes replica wish is gives) = (ap changes_of gives, ap (λ (z : PipeState). z.core.held) is)
role_leaves s words t out (TakesRole.turns address replica wish another is gives) = (ap changes_of gives, ap (λ (z : PipeState). z.core.held) is)
role_leaves s words t out (TakesRole.demotes address master wish is gives) = (ap changes_of gives, ap (λ (z : PipeState). z.core.held) is)

same_folds : (cs : List Change) (m n : Dataset) (xs : List ℕ) → cs ≡ [] → n ≡ m → MakesByGroups xs m → MakesByGroups (followed cs xs) n
same_folds cs m n xs none same f = subst (λ (z : List Change). MakesByGroups (followed z xs) n) (sym none) (subst (MakesByGroups xs) (sym same) f)

-- where a transaction is open only EXEC changes either, by one group
group_leads : (frame : Frame) (replica : Bool) (g : Given) (requests : List (List ℕ)) (m n : Dataset) (replies : List Tree) (effects : List Effect) → DoesAll frame replica g requests [] m replies effects n → LeadsByGroups (grown_text effects) m n
group_leads frame replica g requests m n replies effects does =
    let sound = sound_all frame replica g requests [] m n replies effects does in
    record {
      groups = as_group effects;
      good = good_as_group effects sound.join (good_effects effects m n sound.leads sound.short);
      are_texts = sym (as_group_texts effects);
      applied = as_group_applied effects m n sound.leads;
    }

-- .. of the requests that waited
pub executed_leads : (g : Given) (s : PipeState) (held : Transaction) (t : PipeState) (replies : List Tree) (effects : List Effect) (left : Dataset) → DoesAll (frame_alone s.core) (not s.core.master) g held.queued [] s.core.held replies effects left
    → t.core.held ≡ left → LeadsByGroups (grown_text effects) s.core.held t.core.held
executed_leads g s held t replies effects left does is =
    subst (LeadsByGroups (grown_text effects) s.core.held) (sym is) (group_leads (frame_alone s.core) (not s.core.master) g held.queued s.core.held left replies effects does)

within_folds : (g : Given) (s : PipeState) (held : Transaction) (u : List ℕ) (t : PipeState) (rest : List ℕ) (out : Output) → IsServedWithin g s held u t rest out → (xs : List ℕ) → MakesByGroups xs s.core.held
    → MakesByGroups (followed (changes_of out) xs) t.core.held
within_folds g s held u t rest out (IsServedWithin.stands words asks next reply h is gives) xs f = same_folds (changes_of out) s.core.held t.core.held xs (ap changes_of gives) (ap (λ (z : PipeState). z.core.held) is) f
within_folds g s held u t rest out (IsServedWithin.passes asks is gives) xs f = same_folds (changes_of out) s.core.held t.core.held xs (ap changes_of gives) (ap (λ (z : PipeState). z.core.held) is) f
within_folds g s held u t rest out (IsServedWithin.drops words asks reply h is gives) xs f = same_folds (changes_of out) s.core.held t.core.held xs (ap changes_of gives) (ap (λ (z : PipeState). z.core.held) is) f
within_folds g s held u t rest out (IsServedWithin.executes words asks runs whole replies effects left does is gives) xs f =
    let p = grown_text effects in
    subst (λ (o : Output). MakesByGroups (followed (changes_of o) xs) t.core.held) (sym gives)
    (subst (λ z. MakesByGroups z t.core.held) (sym (followed_texts p xs))
    (makes_further xs p s.core.held t.core.held f (executed_leads g s held t replies effects left does (ap (λ (z : PipeState). z.core.held) is))))

one_folds : (g : Given) (s : PipeState) (u : List ℕ) (t : PipeState) (rest : List ℕ) (out : Output) → IsServed g s u t rest out → (xs : List ℕ) → MakesByGroups xs s.core.held → MakesByGroups (followed (changes_of out) xs) t.core.held
one_folds g s u t rest out (IsServed.serves k n d h is) xs f = subst (λ (z : PipeState). MakesByGroups (followed (changes_of out) xs) z.core.held) (sym is) (served_folds s.core alone u g d rest out h xs f)
one_folds g s u t rest out (IsServed.takes_role k n words asks h) xs f =
    let same = role_leaves s words t out h in
    same_folds (changes_of out) s.core.held t.core.held xs same.0 same.1 f
one_folds g s u t rest out (IsServed.begins k n words asks wish is gives) xs f = same_folds (changes_of out) s.core.held t.core.held xs (ap changes_of gives) (ap (λ (z : PipeState). z.core.held) is) f
one_folds g s u t rest out (IsServed.goes_within k held n h) xs f = within_folds g s held u t rest out h xs f
one_folds g s u t rest out (IsServed.notes k e is gives) xs f = same_folds (changes_of out) s.core.held t.core.held xs (ap changes_of gives) (ap (λ (z : PipeState). z.core.held) is) f

all_fold : (g : Given) (s : PipeState) (u : List ℕ) (ms : List Moment) (t : PipeState) (rest said : List ℕ) → AreServed g s u ms t rest said → (xs : List ℕ) → MakesByGroups xs s.core.held → MakesByGroups (followed (all_changes ms) xs) t.core.held
all_fold g s u [] t rest said h xs f = same_folds [] s.core.held t.core.held xs refl (ap (λ (z : PipeState). z.core.held) h.0) f
all_fold g s u (m ∷ ms) t rest said h xs f =
    subst (λ z. MakesByGroups z t.core.held) (sym (followed_join (changes_of m.out) (all_changes ms) xs))
    (all_fold g m.pipe m.left ms t rest h.1.0 h.1.1 (followed (changes_of m.out) xs) (one_folds g s u m.pipe m.left m.out h.0 xs f))

gives_folds : (g : Given) (s : PipeState) (u : List ℕ) (out : Output) → Gives g s u out → (xs : List ℕ) → MakesByGroups xs s.core.held → (d : Dataset) × MakesByGroups (followed (changes_of out) xs) d
gives_folds g s u out (Gives.serves t rest h) xs f = (t.core.held, one_folds g s u t rest out h xs f)
gives_folds g s u out (Gives.ends last e out_is) xs f = (s.core.held, same_folds (changes_of out) s.core.held s.core.held xs (ap changes_of out_is) refl f)

-- ---- .. and where the file failed
-- what stands there then
abbrev HasTorn : Kept → Type 0
HasTorn k = (ys : List ℕ) × ((k.told ≡ Some ys) × FoldsTorn ys empty)

-- all texts are whole
not_torn : (ys : List ℕ) (m : Dataset) → MakesByGroups ys m → FoldsTorn ys empty
not_torn ys m f = record { front = ys; torn = []; is = sym (append_nil ys); mid = m; folds = f; more = []; new = m; whole = leads_nowhere m }

abbrev first_of : Change → List Change → Change
first_of other [] = other
first_of other (c ∷ cs) = c

abbrev behind_first : List Change → List Change
behind_first [] = []
behind_first (c ∷ cs) = cs

pub none_is : (made : List Change) (c : Change) (others : List Change) → [] ≡ made ++ c ∷ others → ⊥
none_is [] c others e = cc
none_is (m ∷ made) c others e = cc

only_one : (x : Change) (made : List Change) (c : Change) (others : List Change) → x ∷ [] ≡ made ++ c ∷ others → (made ≡ []) × (c ≡ x)
only_one x [] c others e = (refl, sym (ap (first_of x) e))
only_one x (m ∷ made) c others e = absurd (none_is made c others (ap behind_first e))

-- the change at which the file failed, where it was to be the only one
pub half_of : (x : Change) (a b : Kept) → IsTorn a b (x ∷ []) → HasHalf x a.told b.told
half_of x a b t =
    let one = only_one x t.made t.change t.others t.are in
    let same : t.between ≡ a = subst (λ (z : List Change). Filed a t.between z) one.0 t.filed in
    subst (λ (k : Kept). HasHalf x k.told b.told) same (subst (λ (z : Change). HasHalf z t.between.told b.told) one.1 t.fails.told)

pub torn_told : (a b : Option (List ℕ)) (bytes xs : List ℕ) → AppendsSome a b bytes → a ≡ Some xs → (n : ℕ) × (b ≡ Some (xs ++ take n bytes))
torn_told a b bytes xs w h = let there = subst (λ o. AppendsSome o b bytes) h w in (there.0, there.1.1)

torn_nothing : (cs : List Change) (a b : Kept) → cs ≡ [] → IsTorn a b cs → HasTorn b
torn_nothing cs a b none t = absurd (none_is t.made t.change t.others (sym none ∙ t.are))

torn_texts : (p : List ℕ) (a b : Kept) (m n : Dataset) (xs : List ℕ) → a.told ≡ Some xs → MakesByGroups xs m → LeadsByGroups p m n → IsTorn a b (appends p ++ []) → HasTorn b
torn_texts [] a b m n xs h f g t = torn_nothing [] a b refl t
torn_texts (q ∷ p) a b m n xs h f g t =
    let there = torn_told a.told b.told (q ∷ p) xs (half_of (Change.append (q ∷ p)) a b t) h in (
      xs ++ take there.0 (q ∷ p),
      (
        there.1,
        record {
          front = xs;
          torn = take there.0 (q ∷ p);
          is = refl;
          mid = m;
          folds = f;
          more = drop there.0 (q ∷ p);
          new = n;
          whole = subst (λ z. LeadsByGroups z m n) (sym (take-append-drop there.0 (q ∷ p))) g;
        },
      ),
    )

-- the old file stands there, or the new one
one_stands : (k : Kept) (m n : Dataset) (xs w : List ℕ) → MakesByGroups xs m → MakesByGroups w n → (k.told ≡ Some xs) ⊎ (k.told ≡ Some w) → HasTorn k
one_stands k m n xs w f g (inl old) = (xs, (old, not_torn xs m f))
one_stands k m n xs w f g (inr new) = (w, (new, not_torn w n g))

torn_whole : (w : List ℕ) (a b : Kept) (m n : Dataset) (xs : List ℕ) → a.told ≡ Some xs → MakesByGroups xs m → MakesByGroups w n → IsTorn a b (replaces (Some w)) → HasTorn b
torn_whole w a b m n xs h f g t = one_stands b m n xs w f g (subst (λ o. IsOldOrNew o b.told w) h (half_of (Change.replace w) a b t))

served_torn : (c : Core) (around : Around) (u : List ℕ) (g : Given) (d : Core) (rest : List ℕ) (out : Output) (a b : Kept) (xs : List ℕ) → Served c around u g d rest out → a.told ≡ Some xs → MakesByGroups xs c.held → IsTorn a b (changes_of out) → HasTorn b
served_torn c around u g d rest out a b xs (Served.request words asks (Answered.within plain reply effects plan le d_is out_is)) h f t =
    torn_texts (texts effects) a b c.held d.held xs h f (leads_applied effects c.held d.held (plan.leads ∙ ap (λ (k : Core). Some k.held) (sym d_is)) plan.short)
    (subst (λ (o : Output). IsTorn a b (changes_of o)) out_is t)
served_torn c around u g d rest out a b xs (Served.request words asks (Answered.beyond plain reply effects plan lt d_is out_is)) h f t = torn_nothing (changes_of out) a b (ap changes_of out_is) t
served_torn c around u g d rest out a b xs (Served.request words asks (Answered.rewritten is remakes d_is out_is)) h f t =
    torn_whole (texts (rebuilding c.held)) a b c.held c.held xs h f (makes_applied (rebuilding c.held) c.held remakes.again remakes.short)
    (subst (λ (o : Output). IsTorn a b (changes_of o)) out_is t)
served_torn c around u g d rest out a b xs (Served.request words asks (Answered.tells question asked d_is out_is)) h f t = torn_nothing (changes_of out) a b (ap changes_of out_is) t
served_torn c around u g d rest out a b xs (Served.request words asks (Answered.keeps_role wish asked quiet d_is)) h f t = torn_nothing (changes_of out) a b (quiet_leaves c wish out quiet) t
served_torn c around u g d rest out a b xs (Served.nothing asks d_is out_is) h f t = torn_nothing (changes_of out) a b (ap changes_of out_is) t

within_torn : (g : Given) (s : PipeState) (held : Transaction) (u : List ℕ) (v : PipeState) (rest : List ℕ) (out : Output) (a b : Kept) (xs : List ℕ) → IsServedWithin g s held u v rest out → a.told ≡ Some xs → MakesByGroups xs s.core.held
    → IsTorn a b (changes_of out) → HasTorn b
within_torn g s held u v rest out a b xs (IsServedWithin.stands words asks next reply r is gives) h f t = torn_nothing (changes_of out) a b (ap changes_of gives) t
within_torn g s held u v rest out a b xs (IsServedWithin.passes asks is gives) h f t = torn_nothing (changes_of out) a b (ap changes_of gives) t
within_torn g s held u v rest out a b xs (IsServedWithin.drops words asks reply r is gives) h f t = torn_nothing (changes_of out) a b (ap changes_of gives) t
within_torn g s held u v rest out a b xs (IsServedWithin.executes words asks runs whole replies effects left does is gives) h f t =
    torn_texts (grown_text effects) a b s.core.held v.core.held xs h f (executed_leads g s held v replies effects left does (ap (λ (z : PipeState). z.core.held) is))
    (subst (λ (o : Output). IsTorn a b (changes_of o)) gives t)

gives_torn : (g : Given) (s : PipeState) (u : List ℕ) (out : Output) (a b : Kept) (xs : List ℕ) → Gives g s u out → a.told ≡ Some xs → MakesByGroups xs s.core.held → IsTorn a b (changes_of out) → HasTorn b
gives_torn g s u out a b xs (Gives.serves v rest (IsServed.serves k n d r is)) h f t = served_torn s.core alone u g d rest out a b xs r h f t
gives_torn g s u out a b xs (Gives.serves v rest (IsServed.takes_role k n words asks r)) h f t = torn_nothing (changes_of out) a b (role_leaves s words v out r).0 t
gives_torn g s u out a b xs (Gives.serves v rest (IsServed.begins k n words asks wish is gives)) h f t = torn_nothing (changes_of out) a b (ap changes_of gives) t
gives_torn g s u out a b xs (Gives.serves v rest (IsServed.goes_within k held n r)) h f t = within_torn g s held u v rest out a b xs r h f t
gives_torn g s u out a b xs (Gives.serves v rest (IsServed.notes k e is gives)) h f t = torn_nothing (changes_of out) a b (ap changes_of gives) t
gives_torn g s u out a b xs (Gives.ends last e out_is) h f t = torn_nothing (changes_of out) a b (ap changes_of out_is) t

left_folds : (why : PipeFault) (g : Given) (s : PipeState) (u : List ℕ) (x y : Outside) (xs : List ℕ) → x.kept.told ≡ Some xs → MakesByGroups xs s.core.held → IsLeft why g s u x y → HasTorn y.kept
left_folds fault.Read g s u x y xs h f l = (xs, (ap (λ (o : Outside). o.kept.told) l ∙ h, not_torn xs s.core.held f))
left_folds fault.Stopped g s u x y xs h f l = (xs, (ap (λ (o : Outside). o.kept.told) l.1 ∙ h, not_torn xs s.core.held f))
left_folds fault.Memory g s u x y xs h f l = (xs, (ap (λ (o : Outside). o.kept.told) l.1 ∙ h, not_torn xs s.core.held f))
left_folds fault.Write g s u x y xs h f (IsCutOff.in_reply out gives filed begun) =
    let more = gives_folds g s u out gives xs f in
    (followed (changes_of out) xs, (filed_told (changes_of out) x.kept y.kept xs filed h, not_torn (followed (changes_of out) xs) more.0 more.1))
left_folds fault.Write g s u x y xs h f (IsCutOff.in_flush k same) = (xs, (ap (λ (k : Kept). k.told) same ∙ h, not_torn xs s.core.held f))
left_folds fault.File g s u x y xs h f l = gives_torn g s u l.out x.kept y.kept xs l.gives h f l.torn

pub files_fold : FilesFold
files_fold g p before after x y s xs h f =
    let cs = all_changes s.moments in
    (followed cs xs, (filed_told cs x.kept y.kept xs s.settled.filed h, answered s.said s.answers))
  where
    answered : (said : List ℕ) → Answers g p s.read s.moments s.pipe said after → MakesByGroups (followed (all_changes s.moments) xs) s.pipe.core.held
    answered said (Answers.at_end rest served waits at) = all_fold g p s.read s.moments s.pipe rest said served xs f
    answered said (Answers.at_close rest replies last served ends is) = all_fold g p s.read s.moments s.pipe rest replies served xs f

pub files_fold_torn : FilesFoldTorn
files_fold_torn g p before after x why y (Broken.unbegun is read same) xs h f = (xs, (ap (λ (o : Outside). o.kept.told) same ∙ h, not_torn xs p.core.held f))
files_fold_torn g p before after x why y (Broken.amid read consumed k) xs h f =
    let s = k.done in
    let cs = all_changes s.moments in
    left_folds why g k.at s.rest k.before y (followed cs xs) (filed_told cs x.kept k.before.kept xs s.settled.filed h) (all_fold g p read s.moments k.at s.rest s.said s.serves xs f) k.left

-- ---- how far the file is synced
covered_always : (c : Change) (a b : Kept) → IsCovered Always c a b → IsSynced b.told b.synced
covered_always (Change.append bytes) a b h = h
covered_always (Change.replace bytes) a b h = h

stay_synced : (cs : List Change) (a b : Kept) → Filed a b cs → a.mode ≡ Always → IsSynced a.told a.synced → IsSynced b.told b.synced
stay_synced [] a b f m h = subst (λ (k : Kept). IsSynced k.told k.synced) (sym f) h
stay_synced (c ∷ cs) a b f m h = stay_synced cs f.0 b f.1.1 (f.1.0.mode ∙ m) (covered_always c a f.0 (subst (λ (z : SyncMode). IsCovered z c a f.0) m f.1.0.covered))

pub files_stay_synced : FilesStaySynced
files_stay_synced g p before after x y s m h = stay_synced (all_changes s.moments) x.kept y.kept s.settled.filed m h
