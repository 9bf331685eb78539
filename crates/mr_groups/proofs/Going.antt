-- Groups that are done at the front of bytes, and what is loaded so.
use Rattle.std.proofs.Common.{◌≡◌, ℕ, ◌+◌, ◌-◌, ◌≤◌, List, [], ◌∷◌, ◌++◌, inl, inr, length, take, drop, Some, None, Result, Ok, Err, refl, sym, ap, subst, ◌∙◌, append_assoc, arith, All, take-add}
use Rattle.std.specs.Option.{option_and_then}
use Rattle.std.specs.FinMap.{empty}
use Rattle.std.specs.declared.alloc.AllocError.{AllocError}
use Rattle.std.proofs.lemmas.List.{append-nil, drop-drop, length-append, length-drop, length-take-le, take-append-drop, take_all}
use Rattle.std.proofs.lemmas.List.Elements.{All-append, All-head, All-tail}
use Rattle.std.proofs.lemmas.Option.{same_Some}
use Rattle.mr_effect.specs.declared.effect.Effect.{Effect}
use Rattle.mr_keyspace.specs.Dataset.{Dataset}
use Rattle.mr_data.specs.Meaning.{apply_all}
use Rattle.mr_data.proofs.Folding.{apply_all-append}
use Rattle.mr_groups.specs.Steps.{Replays, IsHalt as IsRunHalt}
use Rattle.mr_groups.specs.declared.replaying.Halt.{Halt}
use Rattle.mr_groups.specs.declared.replaying.Halt.TheVariants as halt
use Rattle.mr_groups.proofs.Pieces.{rest_from, rest_is}
use Rattle.mr_groups.specs.Groups.{IsGoodGroup, group_text, group_texts}
use Rattle.mr_groups.specs.Reading.{IsFirstGroup, BeginsWithGroup, IsOpen, IsBad}
use Rattle.mr_groups.specs.Notes.{note_text, BeginsWithNote, IsFirstNote, IsOpenNote, HasNoNote}
use Rattle.mr_groups.specs.Items.{Item, IsGoodItem, item_text, item_texts, groups_of}
use Rattle.mr_groups.specs.Folding.{IsRefused, IsTorn, apply_groups, LeadsByGroups, LeadsByItems, MakesByGroups, LoadsGroups, IsStuckByGroups}
use Rattle.mr_groups.specs.Replaying.{BeginsTorn, IsBadAt, IsStuckByGroupsForGood, IsReadByGroups, IsReadUpTo, IsRest}
use Rattle.mr_groups.specs.Fronts.{TriesWhole, IsHalt, IsEnd, IsLeft, TakesTurn, AppliesFront, EndsAt}
use Rattle.mr_groups.specs.declared.front.Rest.{Rest}
use Rattle.mr_groups.specs.declared.front.Rest.TheVariants as rest
use Rattle.mr_groups.specs.declared.front.End.{End}
use Rattle.mr_groups.specs.declared.front.End.TheVariants as end
use Rattle.mr_groups.proofs.Apart.{one_group}
use Rattle.mr_groups.proofs.Cuts.{begins, bad_for_good}
use Rattle.mr_groups.proofs.Openings.{open_start}
use Rattle.mr_groups.proofs.Marks.{note_no_group}
use Rattle.mr_groups.proofs.Runs.{first_done, some_text, items_behind, stuck_where_none, stuck_where_open, leads_nowhere, leads_on, by_items, note_leads, some_item, read_is_longest}
use Rattle.mr_groups.proofs.Singles.{leads_by_singles}

-- ---- a group that isn't done as a whole

pub refused_undefined : (es : List Effect) (m : Dataset) → IsRefused es m → apply_all es m ≡ None
refused_undefined [] m h = absurd h
refused_undefined (e ∷ es) m h = ap (option_and_then (apply_all es)) h

pub torn_undefined : (es : List Effect) (m new : Dataset) → IsTorn es m new → apply_all es m ≡ None
torn_undefined es m new h =
    ap (λ (xs : List Effect). apply_all xs m) (sym h.stops.each)
    ∙ (apply_all-append h.stops.before (h.stops.at ∷ h.stops.behind) m
    ∙ (ap (option_and_then (apply_all (h.stops.at ∷ h.stops.behind))) h.stops.done ∙ ap (option_and_then (apply_all h.stops.behind)) h.stops.undefined))

-- .. ends what can be done, however the bytes go on
stuck_behind : (bytes : List ℕ) (m : Dataset) (here : BeginsWithGroup bytes) → apply_all here.group m ≡ None → IsStuckByGroupsForGood m bytes
stuck_behind bytes m here undefined more = record { no_note = no_note; no_group = λ fs k behind good applied q. no_group fs k behind good applied q }
  where
    goes_on : (rest : List ℕ) → bytes ++ more ≡ rest → group_text here.group ++ (here.behind ++ more) ≡ rest
    goes_on rest q = sym (append_assoc (group_text here.group) here.behind more) ∙ (ap (λ (t : List ℕ). t ++ more) (sym here.is) ∙ q)

    no_note : BeginsWithNote (bytes ++ more) → ⊥
    no_note b = note_no_group b.line here.group b.behind (here.behind ++ more) here.good (sym (goes_on (note_text b.line ++ b.behind) b.is))

    no_group : (fs : List Effect) (k : Dataset) (behind : List ℕ) → IsGoodGroup fs → apply_all fs m ≡ Some k → bytes ++ more ≡ group_text fs ++ behind → ⊥
    no_group fs k behind good applied q =
        let same : here.group ≡ fs = (one_group here.group fs (here.behind ++ more) behind here.good good (goes_on (group_text fs ++ behind) q)).0 in
        let wrong : None ≡ Some k = sym undefined ∙ (ap (λ (xs : List Effect). apply_all xs m) same ∙ applied) in
        cc

-- .. as bad bytes do
pub stuck_where_bad : (bytes : List ℕ) (m : Dataset) → IsBadAt m bytes → IsStuckByGroupsForGood m bytes
stuck_where_bad bytes m (inl bad) more = stuck_where_none m (bytes ++ more) (bad_for_good bytes more bad.0) (bad.1 more)
stuck_where_bad bytes m (inr b) more = stuck_behind bytes m b.front (refused_undefined b.front.group m b.refused) more

pub stuck_where_torn : (bytes : List ℕ) (m new : Dataset) → BeginsTorn m bytes new → IsStuckByGroupsForGood m bytes
stuck_where_torn bytes m new b = stuck_behind bytes m b.front (torn_undefined b.front.group m new b.torn)

stuck_now : (bytes : List ℕ) (m : Dataset) → IsStuckByGroupsForGood m bytes → IsStuckByGroups m bytes
stuck_now bytes m stuck = subst (IsStuckByGroups m) (append-nil bytes) (stuck [])

pub stuck_at_rest : (bytes : List ℕ) (m : Dataset) (r : Rest) (n : Dataset) → IsHalt m bytes r n → IsStuckByGroups m bytes
stuck_at_rest bytes m rest.Open n h = stuck_where_open m bytes h.1
stuck_at_rest bytes m rest.Bad n h = stuck_now bytes m (stuck_where_bad bytes m h.1)
stuck_at_rest bytes m rest.Torn n h = stuck_now bytes m (stuck_where_torn bytes m n h)

-- ---- one turn

-- nothing was done
no_item : (r : Rest) → end.Rest r ≡ end.Item → ⊥
no_item r p = cc

no_memory : end.Memory ≡ end.Item → ⊥
no_memory p = cc

pub rests : (bytes : List ℕ) (old new : Dataset) (r : Rest) → IsHalt old bytes r new → TakesTurn bytes 0 old new (end.Rest r)
rests bytes old new r left = record { within = omega arith; mid = old; led = by_items [] old old (leads_nowhere old); left = left; some = λ p. absurd (no_item r p) }

pub lacks : (bytes : List ℕ) (old new : Dataset) → TakesTurn bytes 0 old new end.Memory
lacks bytes old new = record { within = omega arith; mid = old; led = by_items [] old old (leads_nowhere old); left = tt; some = λ p. absurd (no_memory p) }

pub rests_open : (bytes : List ℕ) (old new : Dataset) → new ≡ old → IsOpen bytes → TakesTurn bytes 0 old new (end.Rest rest.Open)
rests_open bytes old new same open_end = rests bytes old new rest.Open (same, inl open_end)

pub rests_bad : (bytes : List ℕ) (old new : Dataset) → new ≡ old → IsBad bytes → HasNoNote bytes → TakesTurn bytes 0 old new (end.Rest rest.Bad)
rests_bad bytes old new same bad none = rests bytes old new rest.Bad (same, inl (bad, none))

-- a note at the front
pub waits_for_note : (bytes : List ℕ) (m : Dataset) → IsOpenNote bytes → TakesTurn bytes 0 m m (end.Rest rest.Open)
waits_for_note bytes m begun = rests bytes m m rest.Open (refl, inr begun)

pub note_passed : (bytes : List ℕ) (n : ℕ) (m : Dataset) → IsFirstNote bytes n → TakesTurn bytes n m m end.Item
note_passed bytes n m first = record {
  within = first.within;
  mid = m;
  led = subst (λ (t : List ℕ). LeadsByItems t m m) (sym first.is_text) (note_leads first.line m first.good);
  left = refl;
  some = λ _. omega (arith, length-take-le n bytes first.within, ap length first.is_text);
}

-- what was done with the group at the front
one_done : (bytes : List ℕ) (es : List Effect) (n : ℕ) (old new : Dataset) → IsFirstGroup bytes es n → apply_all es old ≡ Some new → TakesTurn bytes n old new end.Item
one_done bytes es n old new first applied = record {
  within = first.within;
  mid = new;
  led = subst (λ (t : List ℕ). LeadsByItems t old new) (sym first.is_text) (by_items (group_text es) old new (leads_on [] es old old new (leads_nowhere old) first.good applied));
  left = refl;
  some = λ _.
      let long : length (take n bytes) ≡ n = length-take-le n bytes first.within in
      omega (arith, long, ap length first.is_text, some_text es first.good);
}

pub group_tried : (bytes : List ℕ) (es : List Effect) (n : ℕ) (old new : Dataset) (used : ℕ) (e : End) → IsFirstGroup bytes es n → TriesWhole es n old new used e → TakesTurn bytes used old new e
group_tried bytes es n old new used end.Item first h = subst (λ k. TakesTurn bytes k old new end.Item) (sym h.0) (one_done bytes es n old new first h.1)
group_tried bytes es n old new used (end.Rest rest.Open) first h = absurd h
group_tried bytes es n old new used (end.Rest rest.Bad) first h =
    subst (λ k. TakesTurn bytes k old new (end.Rest rest.Bad)) (sym h.0) (rests bytes old new rest.Bad (h.1, inr (record { front = begins bytes es n first; refused = h.2 })))
group_tried bytes es n old new used (end.Rest rest.Torn) first h =
    subst (λ k. TakesTurn bytes k old new (end.Rest rest.Torn)) (sym h.0) (rests bytes old new rest.Torn (record { front = begins bytes es n first; torn = h.1 }))
group_tried bytes es n old new used end.Memory first h = subst (λ k. TakesTurn bytes k old new end.Memory) (sym h) (lacks bytes old new)

-- ---- one behind another

pub groups_join : (gs hs : List (List Effect)) → group_texts (gs ++ hs) ≡ group_texts gs ++ group_texts hs
groups_join [] hs = refl
groups_join (g ∷ gs) hs = ap (λ (t : List ℕ). group_text g ++ t) (groups_join gs hs) ∙ sym (append_assoc (group_text g) (group_texts gs) (group_texts hs))

pub both_applied : (gs hs : List (List Effect)) (old mid new : Dataset) → apply_groups gs old ≡ Some mid → apply_groups hs mid ≡ Some new → apply_groups (gs ++ hs) old ≡ Some new
both_applied [] hs old mid new p q = subst (λ m. apply_groups hs m ≡ Some new) (sym (same_Some old mid p)) q
both_applied (g ∷ gs) hs old mid new p q =
    let one = first_done (apply_groups gs) (apply_all g old) mid p in
    ap (option_and_then (apply_groups (gs ++ hs))) one.1 ∙ both_applied gs hs one.0 mid new one.2 q

-- groups behind groups lead on
pub leads_further : (front behind : List ℕ) (old mid new : Dataset) → LeadsByGroups front old mid → LeadsByGroups behind mid new → LeadsByGroups (front ++ behind) old new
leads_further front behind old mid new one two = record {
  groups = one.groups ++ two.groups;
  good = All-append IsGoodGroup one.groups two.groups one.good two.good;
  are_texts = ap (λ (t : List ℕ). t ++ behind) one.are_texts ∙ (ap (λ (t : List ℕ). group_texts one.groups ++ t) two.are_texts ∙ sym (groups_join one.groups two.groups));
  applied = both_applied one.groups two.groups old mid new one.applied two.applied;
}

-- .. and so do items
items_join : (is js : List Item) → item_texts (is ++ js) ≡ item_texts is ++ item_texts js
items_join [] js = refl
items_join (i ∷ is) js = ap (λ (t : List ℕ). item_text i ++ t) (items_join is js) ∙ sym (append_assoc (item_text i) (item_texts is) (item_texts js))

pub groups_joined : (is js : List Item) → groups_of (is ++ js) ≡ groups_of is ++ groups_of js
groups_joined [] js = refl
groups_joined (Item.note line ∷ is) js = groups_joined is js
groups_joined (Item.group es ∷ is) js = ap (λ (gs : List (List Effect)). es ∷ gs) (groups_joined is js)

pub goes_further : (front behind : List ℕ) (old mid new : Dataset) → LeadsByItems front old mid → LeadsByItems behind mid new → LeadsByItems (front ++ behind) old new
goes_further front behind old mid new one two = record {
  items = one.items ++ two.items;
  good = All-append IsGoodItem one.items two.items one.good two.good;
  are_texts = ap (λ (t : List ℕ). t ++ behind) one.are_texts ∙ (ap (λ (t : List ℕ). item_texts one.items ++ t) two.are_texts ∙ sym (items_join one.items two.items));
  applied = ap (λ gs. apply_groups gs old) (groups_joined one.items two.items) ∙ both_applied (groups_of one.items) (groups_of two.items) old mid new one.applied two.applied;
}

-- groups behind what a file made
pub makes_further : (front behind : List ℕ) (mid new : Dataset) → MakesByGroups front mid → LeadsByGroups behind mid new → MakesByGroups (front ++ behind) new
makes_further front behind mid new made led = goes_further front behind empty mid new made (by_items behind mid new led)

pub behind_is : (bytes : List ℕ) (used more : ℕ) → drop more (rest_from used bytes) ≡ drop (used + more) bytes
behind_is bytes used more = ap (drop more) (rest_is used bytes) ∙ drop-drop more used bytes

led_further : (bytes : List ℕ) (used more : ℕ) (old mid new : Dataset) → LeadsByItems (take used bytes) old mid → LeadsByItems (take more (rest_from used bytes)) mid new → LeadsByItems (take (used + more) bytes) old new
led_further bytes used more old mid new one two =
    subst (λ (t : List ℕ). LeadsByItems t old new) (ap (λ (t : List ℕ). take used bytes ++ take more t) (rest_is used bytes) ∙ sym (take-add used more bytes))
    (goes_further (take used bytes) (take more (rest_from used bytes)) old mid new one two)

fits_behind : (bytes : List ℕ) (used more : ℕ) → used ≤ length bytes → more ≤ length (rest_from used bytes) → used + more ≤ length bytes
fits_behind bytes used more within further =
    let long : length (rest_from used bytes) ≡ length bytes - used = ap length (rest_is used bytes) ∙ length-drop used bytes in
    omega (arith, long, within, further)

-- a turn behind what was done is a turn
pub turn_behind : (bytes : List ℕ) (used more : ℕ) (old mid new : Dataset) (e : End) → used ≤ length bytes → LeadsByItems (take used bytes) old mid → TakesTurn (rest_from used bytes) more mid new e → TakesTurn bytes (used + more) old new e
turn_behind bytes used more old mid new e within led t = record {
  within = fits_behind bytes used more within t.within;
  mid = t.mid;
  led = led_further bytes used more old mid t.mid led t.led;
  left = subst (λ (xs : List ℕ). IsEnd t.mid xs e new) (behind_is bytes used more) t.left;
  some = λ p. omega (arith, t.some p);
}

-- ---- effects, each as a group

-- nothing is known where memory was lacking
pub run_lacks : (bytes : List ℕ) (used : ℕ) (old new : Dataset) (h : Halt) → Replays bytes used old new h → TakesTurn bytes used old new end.Memory
run_lacks bytes used old new h r = record { within = r.within; mid = r.mid; led = by_items (take used bytes) old r.mid (leads_by_singles (take used bytes) old r.mid r.led); left = tt; some = λ p. absurd (no_memory p) }

pub run_waits : (bytes : List ℕ) (used : ℕ) (old new : Dataset) (h : Halt) → h ≡ halt.Open → Replays bytes used old new h → TakesTurn bytes used old new (end.Rest rest.Open)
run_waits bytes used old new h is r =
    let left : IsRunHalt r.mid (drop used bytes) halt.Open new = subst (λ x. IsRunHalt r.mid (drop used bytes) x new) is r.left in
    record {
      within = r.within;
      mid = r.mid;
      led = by_items (take used bytes) old r.mid (leads_by_singles (take used bytes) old r.mid r.led);
      left = (left.0, inl (open_start (drop used bytes) left.1.begun));
      some = λ p. absurd (no_item rest.Open p);
    }

-- the group behind effects
pub run_goes_on : (bytes : List ℕ) (used more : ℕ) (old mid new : Dataset) (h : Halt) (e : End) → h ≡ halt.Bad → Replays bytes used old mid h → TakesTurn (rest_from used bytes) more mid new e → TakesTurn bytes (used + more) old new e
run_goes_on bytes used more old mid new h e is r t =
    let left : IsRunHalt r.mid (drop used bytes) halt.Bad mid = subst (λ x. IsRunHalt r.mid (drop used bytes) x mid) is r.left in
    turn_behind bytes used more old mid new e r.within (subst (LeadsByItems (take used bytes) old) (sym left.0) (by_items (take used bytes) old r.mid (leads_by_singles (take used bytes) old r.mid r.led))) t

-- ---- turn after turn

pub went_on : (bytes : List ℕ) (used : ℕ) (old new : Dataset) (e : End) → e ≡ end.Item → TakesTurn bytes used old new e → LeadsByItems (take used bytes) old new
went_on bytes used old new e is t =
    let left : IsEnd t.mid (drop used bytes) end.Item new = subst (λ x. IsEnd t.mid (drop used bytes) x new) is t.left in
    subst (LeadsByItems (take used bytes) old) (sym left) t.led

pub came_to : (bytes : List ℕ) (used : ℕ) (old new : Dataset) (e : End) (r : Rest) → e ≡ end.Rest r → TakesTurn bytes used old new e → AppliesFront bytes used old new (Ok r)
came_to bytes used old new e r is t = record { within = t.within; mid = t.mid; led = t.led; left = subst (λ x. IsEnd t.mid (drop used bytes) x new) is t.left }

pub ran_out : (bytes : List ℕ) (used : ℕ) (old new : Dataset) (e : End) (fault : AllocError) → TakesTurn bytes used old new e → AppliesFront bytes used old new (Err fault)
ran_out bytes used old new e fault t = record { within = t.within; mid = t.mid; led = t.led; left = tt }

-- ---- piece after piece

-- where no memory was lacking
pub left_as : (bytes : List ℕ) (used : ℕ) (old new : Dataset) (o : Result Rest AllocError) (r : Rest) → o ≡ Ok r → (a : AppliesFront bytes used old new o) → IsHalt a.mid (drop used bytes) r new
left_as bytes used old new o r is a = subst (λ x. IsLeft a.mid (drop used bytes) x new) is a.left

pub is_rest : (bytes : List ℕ) (used : ℕ) (old new : Dataset) (o : Result Rest AllocError) (r : Rest) → o ≡ Ok r → AppliesFront bytes used old new o → IsRest new (drop used bytes) r
is_rest bytes used old new o r is a = by_rest r (left_as bytes used old new o r is a)
  where
    by_rest : (x : Rest) → IsHalt a.mid (drop used bytes) x new → IsRest new (drop used bytes) x
    by_rest rest.Open h = h.1
    by_rest rest.Bad h = subst (λ m. IsBadAt m (drop used bytes)) (sym h.0) h.1
    by_rest rest.Torn h = (a.mid, h)

pub reads_on : (bytes unread piece : List ℕ) (used : ℕ) (old new : Dataset) (o : Result Rest AllocError) (r : Rest) → o ≡ Ok r → AppliesFront (unread ++ piece) used old new o → IsReadByGroups bytes old unread
    → IsReadUpTo (bytes ++ piece) new (drop used (unread ++ piece)) r
reads_on bytes unread piece used old new o r is a read = by_rest r (left_as (unread ++ piece) used old new o r is a)
  where
    left : List ℕ
    left = drop used (unread ++ piece)

    up_to : IsReadByGroups (bytes ++ piece) a.mid left
    up_to = record {
      front = read.front ++ take used (unread ++ piece);
      is = ap (λ (t : List ℕ). t ++ piece) read.is ∙ (append_assoc read.front unread piece
          ∙ (ap (λ (t : List ℕ). read.front ++ t) (sym (take-append-drop used (unread ++ piece))) ∙ sym (append_assoc read.front (take used (unread ++ piece)) (drop used (unread ++ piece)))));
      made = goes_further read.front (take used (unread ++ piece)) empty old a.mid read.made a.led;
    }

    by_rest : (x : Rest) → IsHalt a.mid left x new → IsReadUpTo (bytes ++ piece) new left x
    by_rest rest.Open h = subst (λ m. IsReadByGroups (bytes ++ piece) m left) (sym h.0) up_to
    by_rest rest.Bad h = subst (λ m. IsReadByGroups (bytes ++ piece) m left) (sym h.0) up_to
    by_rest rest.Torn h = (a.mid, up_to, h)

-- ---- what is loaded

loads_front : (bytes : List ℕ) (used : ℕ) (m : Dataset) → used ≤ length bytes → MakesByGroups (take used bytes) m → IsStuckByGroups m (drop used bytes) → LoadsGroups bytes used m
loads_front bytes used m within made stuck =
    subst (λ n. LoadsGroups bytes n m) (length-take-le used bytes within)
    (read_is_longest bytes (take used bytes) (drop used bytes) m (sym (take-append-drop used bytes)) made stuck)

-- a group that is torn ends what can be done
pub ends_at : (bytes : List ℕ) (used : ℕ) (new : Dataset) (o : Result Rest AllocError) (r : Rest) → o ≡ Ok r → AppliesFront bytes used empty new o → EndsAt bytes used
ends_at bytes used new o r is a = record { within = a.within; made = a.mid; led = a.led; stuck = stuck_at_rest (drop used bytes) a.mid r new (left_as bytes used empty new o r is a) }

-- any other end leaves the dataset that was made
made_whole : (bytes : List ℕ) (m n : Dataset) (r : Rest) → (r ≡ rest.Torn → ⊥) → IsHalt m bytes r n → n ≡ m
made_whole bytes m n rest.Open none h = h.0
made_whole bytes m n rest.Bad none h = h.0
made_whole bytes m n rest.Torn none h = absurd (none refl)

pub loads_all : (bytes : List ℕ) (used : ℕ) (new : Dataset) (o : Result Rest AllocError) (r : Rest) → o ≡ Ok r → (r ≡ rest.Torn → ⊥) → AppliesFront bytes used empty new o → LoadsGroups bytes used new
loads_all bytes used new o r is whole a =
    let left = left_as bytes used empty new o r is a in
    subst (LoadsGroups bytes used) (sym (made_whole (drop used bytes) a.mid new r whole left)) (loads_front bytes used a.mid a.within a.led (stuck_at_rest (drop used bytes) a.mid r new left))

-- done again, all of it is done
all_again : (bytes : List ℕ) (used n : ℕ) (m : Dataset) → EndsAt bytes used → LoadsGroups (take used bytes) n m → n ≡ used
all_again bytes used n m e l =
    let front = take used bytes in
    let long : length front ≡ used = length-take-le used bytes e.within in
    omega (arith, long, l.within, l.longest front [] e.made (sym (append-nil front)) e.led)

-- what was done first, and the rest of it
pub leads_behind : (front rest : List ℕ) (old mid new : Dataset) → LeadsByItems front old mid → LeadsByItems (front ++ rest) old new → LeadsByItems rest mid new
leads_behind front rest old mid new one all =
    let cut = items_behind one.items all.items rest one.good all.good (ap (λ (t : List ℕ). t ++ rest) (sym one.are_texts) ∙ all.are_texts) in
    record {
      items = cut.0;
      good = All-drop_front one.items cut.0 (subst (All IsGoodItem) cut.1 all.good);
      are_texts = cut.2;
      applied = then_behind (groups_of one.items) (groups_of cut.0) old mid new one.applied (ap (λ gs. apply_groups gs old) (sym (groups_joined one.items cut.0)) ∙ (ap (λ is. apply_groups (groups_of is) old) (sym cut.1) ∙ all.applied));
    }
  where
    All-drop_front : (is js : List Item) → All IsGoodItem (is ++ js) → All IsGoodItem js
    All-drop_front [] js all = all
    All-drop_front (i ∷ is) js all = All-drop_front is js (All-tail IsGoodItem i (is ++ js) all)

    then_behind : (gs hs : List (List Effect)) (from to last : Dataset) → apply_groups gs from ≡ Some to → apply_groups (gs ++ hs) from ≡ Some last → apply_groups hs to ≡ Some last
    then_behind [] hs from to last p q = subst (λ m. apply_groups hs m ≡ Some last) (same_Some from to p) q
    then_behind (g ∷ gs) hs from to last p q =
        let one = first_done (apply_groups gs) (apply_all g from) to p in
        let two = first_done (apply_groups (gs ++ hs)) (apply_all g from) last q in
        let same : two.0 ≡ one.0 = same_Some two.0 one.0 (sym two.1 ∙ one.1) in
        then_behind gs hs one.0 to last one.2 (subst (λ m. apply_groups (gs ++ hs) m ≡ Some last) same two.2)

pub leads_once : (bytes : List ℕ) (old m n : Dataset) → LeadsByItems bytes old m → LeadsByItems bytes old n → m ≡ n
leads_once bytes old m n a b =
    let rest = leads_behind bytes [] old m n a (subst (λ (t : List ℕ). LeadsByItems t old n) (sym (append-nil bytes)) b) in
    nowhere rest.items rest.good rest.are_texts rest.applied
  where
    nowhere : (is : List Item) → All IsGoodItem is → [] ≡ item_texts is → apply_groups (groups_of is) m ≡ Some n → m ≡ n
    nowhere [] good none applied = same_Some m n applied
    nowhere (i ∷ is) good none applied = absurd (omega (arith, some_item i (All-head IsGoodItem i is good), ap length none, length-append (item_text i) (item_texts is)))

pub led_once : (bytes : List ℕ) (old m n : Dataset) → LeadsByGroups bytes old m → LeadsByGroups bytes old n → m ≡ n
led_once bytes old m n a b = leads_once bytes old m n (by_items bytes old m a) (by_items bytes old n b)

pub made_once : (bytes : List ℕ) (m n : Dataset) → MakesByGroups bytes m → MakesByGroups bytes n → m ≡ n
made_once bytes m n a b = leads_once bytes empty m n a b

-- .. and nothing else
pub loads_once : (bytes : List ℕ) (used n : ℕ) (m : Dataset) → EndsAt bytes used → LoadsGroups (take used bytes) n m → LoadsGroups bytes n m
loads_once bytes used n m e l =
    let front = take used bytes in
    let is : n ≡ used = all_again bytes used n m e l in
    let long : length front ≡ used = length-take-le used bytes e.within in
    let all : take n front ≡ front = take_all n front (omega (arith, is, long)) in
    let same : m ≡ e.made = made_once front m e.made (subst (λ (t : List ℕ). MakesByGroups t m) all l.made) e.led in
    subst (λ k. LoadsGroups bytes k m) (sym is) (subst (LoadsGroups bytes used) (sym same) (loads_front bytes used e.made e.within e.led e.stuck))

pub loads_again : (bytes : List ℕ) (used n : ℕ) (new : Dataset) (o : Result Rest AllocError) (r : Rest) → o ≡ Ok r → (r ≡ rest.Torn → ⊥) → EndsAt bytes used → AppliesFront (take used bytes) n empty new o → LoadsGroups bytes n new
loads_again bytes used n new o r is whole e a = loads_once bytes used n new e (loads_all (take used bytes) n new o r is whole a)

pub no_tear : (bytes : List ℕ) (used n : ℕ) (new : Dataset) (o : Result Rest AllocError) (r : Rest) → o ≡ Ok r → r ≡ rest.Torn → EndsAt bytes used → AppliesFront (take used bytes) n empty new o → ⊥
no_tear bytes used n new o r is_end torn e a =
    let front = take used bytes in
    let left : IsHalt a.mid (drop n front) rest.Torn new = subst (λ x. IsHalt a.mid (drop n front) x new) torn (left_as front n empty new o r is_end a) in
    let is : n ≡ used = all_again bytes used n a.mid e (loads_front front n a.mid a.within a.led (stuck_now (drop n front) a.mid (stuck_where_torn (drop n front) a.mid new left))) in
    let long : length front ≡ used = length-take-le used bytes e.within in
    let b = left.front in
    omega (arith, is, long, length-drop n front, ap length b.is, length-append (group_text b.group) b.behind, some_text b.group b.good)
