-- Groups one after another, notes between them, and why no longer beginning can be done than one behind which no group can.
use Rattle.std.proofs.Common.{◌≡◌, ℕ, ◌<◌, ◌≤◌, List, [], ◌∷◌, ◌++◌, inl, inr, length, take, map, Option, Some, None, refl, sym, ap, subst, ◌∙◌, append_assoc, arith, All}
use Rattle.std.specs.Option.{option_and_then}
use Rattle.std.specs.FinMap.{empty}
use Rattle.std.proofs.lemmas.List.{append-nil, length-append, take_at}
use Rattle.std.proofs.lemmas.List.Elements.{All-nil, All-cons, All-head, All-tail, All-append}
use Rattle.std.proofs.lemmas.Option.{same_Some}
use Rattle.mr_effect.specs.Spelling.{text, texts}
use Rattle.mr_effect.specs.declared.effect.Effect.{Effect}
use Rattle.mr_keyspace.specs.Dataset.{Dataset}
use Rattle.mr_data.specs.Meaning.{apply, apply_all}
use Rattle.mr_groups.specs.Groups.{IsGoodGroup, multi, exec, group_text, group_texts, singles}
use Rattle.mr_groups.specs.Reading.{BeginsWithGroup}
use Rattle.mr_groups.specs.Notes.{IsNoteLine, note_text, BeginsWithNote}
use Rattle.mr_groups.specs.Items.{Item, IsGoodItem, item_text, item_texts, groups_of}
use Rattle.mr_groups.specs.Folding.{apply_groups, LeadsByGroups, LeadsByItems, MakesByGroups, LoadsGroups, IsStuckByGroups}
use Rattle.mr_groups.specs.Replaying.{IsOpenItem}
use Rattle.mr_groups.proofs.Apart.{no_empty, one_group}
use Rattle.mr_groups.proofs.Notes.{one_note, open_not_whole}
use Rattle.mr_groups.proofs.Marks.{note_no_group, open_no_note, open_no_group}

-- what was done first, and what was done behind it
pub first_done : (f : Dataset → Option Dataset) (o : Option Dataset) (n : Dataset) → option_and_then f o ≡ Some n → (m : Dataset) × (o ≡ Some m) × (f m ≡ Some n)
first_done f None n h = absurd (cc)
first_done f (Some m) n h = (m, refl, h)

-- a group's text isn't empty
pub some_text : (es : List Effect) → IsGoodGroup es → 0 < length (group_text es)
some_text [] g = no_empty g.group
some_text (e ∷ []) g = omega arith
some_text (e ∷ f ∷ es) g = omega (arith, length-append multi (texts (e ∷ f ∷ es) ++ exec), length-append (text e) (texts (f ∷ es)), length-append (texts (e ∷ f ∷ es)) exec)

both_heads : (g h : List Effect) (gs hs : List (List Effect)) → g ≡ h → gs ≡ hs → g ∷ gs ≡ h ∷ hs
both_heads g h gs hs p q = cc

pub many_groups : (gs hs : List (List Effect)) → All IsGoodGroup gs → All IsGoodGroup hs → group_texts gs ≡ group_texts hs → gs ≡ hs
many_groups [] [] p q e = refl
many_groups [] (h ∷ hs) p q e = absurd (omega (arith, some_text h (All-head IsGoodGroup h hs q), ap length e, length-append (group_text h) (group_texts hs)))
many_groups (g ∷ gs) [] p q e = absurd (omega (arith, some_text g (All-head IsGoodGroup g gs p), ap length e, length-append (group_text g) (group_texts gs)))
many_groups (g ∷ gs) (h ∷ hs) p q e =
    let one = one_group g h (group_texts gs) (group_texts hs) (All-head IsGoodGroup g gs p) (All-head IsGoodGroup h hs q) e in
    both_heads g h gs hs one.0 (many_groups gs hs (All-tail IsGoodGroup g gs p) (All-tail IsGoodGroup h hs q) one.1)

-- ---- groups of one effect

pub single_texts : (es : List Effect) → group_texts (singles es) ≡ texts es
single_texts [] = refl
single_texts (e ∷ es) = ap (λ (t : List ℕ). text e ++ t) (single_texts es)

pub single_applied : (es : List Effect) (m : Dataset) → apply_groups (singles es) m ≡ apply_all es m
single_applied [] m = refl
single_applied (e ∷ es) m =
    elim (apply e m) as (λ o. option_and_then (apply_groups (singles es)) (option_and_then Some o) ≡ option_and_then (apply_all es) o) [
      | None ↦ refl
      | Some n ↦ single_applied es n
    ]

-- ---- a text that isn't whole

pub torn_begins_none : (es : List Effect) (front more : List ℕ) → IsGoodGroup es → front ++ more ≡ group_text es → 0 < length more → BeginsWithGroup front → ⊥
torn_begins_none es front more good is some b =
    let whole : group_text b.group ++ (b.behind ++ more) ≡ group_text es ++ [] =
    sym (append_assoc (group_text b.group) b.behind more) ∙ (ap (λ (t : List ℕ). t ++ more) (sym b.is) ∙ (is ∙ sym (append-nil (group_text es)))) in
    let none : b.behind ++ more ≡ [] = (one_group b.group es (b.behind ++ more) [] b.good good whole).1 in
    omega (arith, ap length none, length-append b.behind more, some)

-- .. nor is it a note's
torn_no_note : (es : List Effect) (front more : List ℕ) → IsGoodGroup es → front ++ more ≡ group_text es → BeginsWithNote front → ⊥
torn_no_note es front more good is b =
    note_no_group b.line es (b.behind ++ more) [] good
    (sym (append_assoc (note_text b.line) b.behind more) ∙ (ap (λ (t : List ℕ). t ++ more) (sym b.is) ∙ (is ∙ sym (append-nil (group_text es)))))

pub stuck_where_none : (m : Dataset) (bytes : List ℕ) → (BeginsWithGroup bytes → ⊥) → (BeginsWithNote bytes → ⊥) → IsStuckByGroups m bytes
stuck_where_none m bytes none no_note = record { no_note = no_note; no_group = λ es n more good applied q. none (record { group = es; good = good; behind = more; is = q }) }

-- a beginning of a text
pub stuck_where_open : (m : Dataset) (bytes : List ℕ) → IsOpenItem bytes → IsStuckByGroups m bytes
stuck_where_open m bytes (inl o) = stuck_where_none m bytes o.none (open_no_note bytes o)
stuck_where_open m bytes (inr o) = stuck_where_none m bytes (open_no_group bytes o) (open_not_whole bytes o)

-- ---- items

pub some_item : (i : Item) → IsGoodItem i → 0 < length (item_text i)
some_item (Item.note line) good = omega arith
some_item (Item.group es) good = some_text es good

pub one_item : (i j : Item) (x y : List ℕ) → IsGoodItem i → IsGoodItem j → item_text i ++ x ≡ item_text j ++ y → (i ≡ j) × (x ≡ y)
one_item (Item.note l) (Item.note k) x y p q e =
    let one = one_note l k x y p q e in
    (ap (λ (z : List ℕ). Item.note z) one.0, one.1)
one_item (Item.note l) (Item.group fs) x y p q e = absurd (note_no_group l fs x y q e)
one_item (Item.group es) (Item.note k) x y p q e = absurd (note_no_group k es y x p (sym e))
one_item (Item.group es) (Item.group fs) x y p q e =
    let one = one_group es fs x y p q e in
    (ap (λ (z : List Effect). Item.group z) one.0, one.1)

both_items : (i j : Item) (is js : List Item) → i ≡ j → is ≡ js → i ∷ is ≡ j ∷ js
both_items i j is js p q = cc

-- items whose texts begin with those of others are these and more
pub items_behind : (is js : List Item) (rest : List ℕ) → All IsGoodItem is → All IsGoodItem js → item_texts is ++ rest ≡ item_texts js → (more : List Item) × (js ≡ is ++ more) × (rest ≡ item_texts more)
items_behind [] js rest p q e = (js, refl, e)
items_behind (i ∷ is) [] rest p q e =
    absurd (omega (arith, some_item i (All-head IsGoodItem i is p), ap length e, length-append (item_text i ++ item_texts is) rest, length-append (item_text i) (item_texts is)))
items_behind (i ∷ is) (j ∷ js) rest p q e =
    let one = one_item i j (item_texts is ++ rest) (item_texts js) (All-head IsGoodItem i is p) (All-head IsGoodItem j js q) (sym (append_assoc (item_text i) (item_texts is) rest) ∙ e) in
    let others = items_behind is js rest (All-tail IsGoodItem i is p) (All-tail IsGoodItem j js q) one.1 in
    (others.0, both_items j i js (is ++ others.0) (sym one.0) others.1, others.2)

-- what an item leads to, and what others behind it, or yet others, lead to from there
behind_item : (i : Item) (is js : List Item) (old new n : Dataset) → apply_groups (groups_of (i ∷ is)) old ≡ Some new → apply_groups (groups_of (i ∷ js)) old ≡ Some n
    → (mid : Dataset) × (apply_groups (groups_of is) mid ≡ Some new) × (apply_groups (groups_of js) mid ≡ Some n)
behind_item (Item.note line) is js old new n p q = (old, p, q)
behind_item (Item.group es) is js old new n p q =
    let one = first_done (apply_groups (groups_of is)) (apply_all es old) new p in
    let two = first_done (apply_groups (groups_of js)) (apply_all es old) n q in
    let same : two.0 ≡ one.0 = same_Some two.0 one.0 (sym two.1 ∙ one.1) in
    (one.0, one.2, subst (λ m. apply_groups (groups_of js) m ≡ Some n) same two.2)

-- ---- the longest beginning

-- no item goes on where nothing can
no_item : (i : Item) (is : List Item) (m n : Dataset) (unread more : List ℕ) → IsGoodItem i → apply_groups (groups_of (i ∷ is)) m ≡ Some n → IsStuckByGroups m unread → unread ≡ item_text i ++ more → ⊥
no_item (Item.note line) is m n unread more good q stuck e = stuck.no_note (record { line = line; good = good; behind = more; is = e })
no_item (Item.group es) is m n unread more good q stuck e =
    let one = first_done (apply_groups (groups_of is)) (apply_all es m) n q in
    stuck.no_group es one.0 more good one.1 e

longest : (is js : List Item) (old new n : Dataset) (unread more : List ℕ) → All IsGoodItem is → All IsGoodItem js → apply_groups (groups_of is) old ≡ Some new → apply_groups (groups_of js) old ≡ Some n
    → IsStuckByGroups new unread → item_texts is ++ unread ≡ item_texts js ++ more → length (item_texts js) ≤ length (item_texts is)
longest is [] old new n unread more g h p q stuck e = omega arith
longest [] (j ∷ js) old new n unread more g h p q stuck e =
    let at_new : apply_groups (groups_of (j ∷ js)) new ≡ Some n = subst (λ m. apply_groups (groups_of (j ∷ js)) m ≡ Some n) (same_Some old new p) q in
    absurd (no_item j js new n unread (item_texts js ++ more) (All-head IsGoodItem j js h) at_new stuck (e ∙ append_assoc (item_text j) (item_texts js) more))
longest (i ∷ is) (j ∷ js) old new n unread more g h p q stuck e =
    let split : item_text i ++ (item_texts is ++ unread) ≡ item_text j ++ (item_texts js ++ more) = sym (append_assoc (item_text i) (item_texts is) unread) ∙ (e ∙ append_assoc (item_text j) (item_texts js) more) in
    let both = one_item i j (item_texts is ++ unread) (item_texts js ++ more) (All-head IsGoodItem i is g) (All-head IsGoodItem j js h) split in
    let on = behind_item i is js old new n p (subst (λ (k : Item). apply_groups (groups_of (k ∷ js)) old ≡ Some n) (sym both.0) q) in
    let rest = longest is js on.0 new n unread more (All-tail IsGoodItem i is g) (All-tail IsGoodItem j js h) on.1 on.2 stuck both.1 in
    omega (arith, rest, length-append (item_text i) (item_texts is), length-append (item_text j) (item_texts js), ap (λ k. length (item_text k)) both.0)

-- no groups lead nowhere
pub leads_nowhere : (m : Dataset) → LeadsByGroups [] m m
leads_nowhere m = record { groups = []; good = All-nil IsGoodGroup; are_texts = refl; applied = refl }

texts_push : (gs : List (List Effect)) (g : List Effect) → group_texts (gs ++ g ∷ []) ≡ group_texts gs ++ group_text g
texts_push [] g = append-nil (group_text g)
texts_push (a ∷ gs) g = ap (λ (t : List ℕ). group_text a ++ t) (texts_push gs g) ∙ sym (append_assoc (group_text a) (group_texts gs) (group_text g))

applied_push : (gs : List (List Effect)) (g : List Effect) (old mid new : Dataset) → apply_groups gs old ≡ Some mid → apply_all g mid ≡ Some new → apply_groups (gs ++ g ∷ []) old ≡ Some new
applied_push [] g old mid new p q =
    let here : apply_all g old ≡ Some new = subst (λ m. apply_all g m ≡ Some new) (sym (same_Some old mid p)) q in
    ap (option_and_then (apply_groups [])) here
applied_push (a ∷ gs) g old mid new p q =
    let one = first_done (apply_groups gs) (apply_all a old) mid p in
    ap (option_and_then (apply_groups (gs ++ g ∷ []))) one.1 ∙ applied_push gs g one.0 mid new one.2 q

-- .. and one group more leads on
pub leads_on : (bytes : List ℕ) (g : List Effect) (old mid new : Dataset) → LeadsByGroups bytes old mid → IsGoodGroup g → apply_all g mid ≡ Some new → LeadsByGroups (bytes ++ group_text g) old new
leads_on bytes g old mid new led good applied = record {
  groups = led.groups ++ g ∷ [];
  good = All-append IsGoodGroup led.groups (g ∷ []) led.good (All-cons IsGoodGroup g [] good (All-nil IsGoodGroup));
  are_texts = ap (λ (t : List ℕ). t ++ group_text g) led.are_texts ∙ sym (texts_push led.groups g);
  applied = applied_push led.groups g old mid new led.applied applied;
}

-- ---- groups are items

-- each group as an item
abbrev pub as_items : List (List Effect) → List Item
as_items gs = map (λ g. Item.group g) gs

item_texts_of : (gs : List (List Effect)) → item_texts (as_items gs) ≡ group_texts gs
item_texts_of [] = refl
item_texts_of (g ∷ gs) = ap (λ (t : List ℕ). group_text g ++ t) (item_texts_of gs)

groups_in : (gs : List (List Effect)) → groups_of (as_items gs) ≡ gs
groups_in [] = refl
groups_in (g ∷ gs) = ap (λ (hs : List (List Effect)). g ∷ hs) (groups_in gs)

good_items : (gs : List (List Effect)) → All IsGoodGroup gs → All IsGoodItem (as_items gs)
good_items [] good = All-nil IsGoodItem
good_items (g ∷ gs) good = All-cons IsGoodItem (Item.group g) (as_items gs) (All-head IsGoodGroup g gs good) (good_items gs (All-tail IsGoodGroup g gs good))

-- what leads by groups alone leads by items
pub by_items : (bytes : List ℕ) (old new : Dataset) → LeadsByGroups bytes old new → LeadsByItems bytes old new
by_items bytes old new led = record {
  items = as_items led.groups;
  good = good_items led.groups led.good;
  are_texts = led.are_texts ∙ sym (item_texts_of led.groups);
  applied = ap (λ gs. apply_groups gs old) (groups_in led.groups) ∙ led.applied;
}

-- nothing leads nowhere
pub makes_nothing : MakesByGroups [] empty
makes_nothing = by_items [] empty empty (leads_nowhere empty)

-- nor does a note
pub note_leads : (line : List ℕ) (m : Dataset) → IsNoteLine line → LeadsByItems (note_text line) m m
note_leads line m good = record { items = Item.note line ∷ []; good = All-cons IsGoodItem (Item.note line) [] good (All-nil IsGoodItem); are_texts = sym (append-nil (note_text line)); applied = refl }

-- ---- what is read

-- what was read, up to where no group can be done, is the longest beginning
pub read_is_longest : (file front unread : List ℕ) (m : Dataset) → file ≡ front ++ unread → MakesByGroups front m → IsStuckByGroups m unread → LoadsGroups file (length front) m
read_is_longest file front unread m is made stuck = record {
  within = omega (arith, ap length is, length-append front unread);
  made = subst (λ (t : List ℕ). MakesByGroups t m) (sym (ap (take (length front)) is ∙ take_at front unread (length front) refl)) made;
  longest = λ other more n begins from. longest_made other more n begins from;
}
  where
    longest_made : (other more : List ℕ) (n : Dataset) → file ≡ other ++ more → MakesByGroups other n → length other ≤ length front
    longest_made other more n begins from =
        let whole : item_texts made.items ++ unread ≡ item_texts from.items ++ more =
        ap (λ (t : List ℕ). t ++ unread) (sym made.are_texts) ∙ (sym is ∙ (begins ∙ ap (λ (t : List ℕ). t ++ more) from.are_texts)) in
        let most = longest made.items from.items empty m n unread more made.good from.good made.applied from.applied stuck whole in
        omega (arith, most, ap length made.are_texts, ap length from.are_texts)

pub torn_loads_none : (bytes : List ℕ) (m : Dataset) (es : List Effect) (front more : List ℕ) → MakesByGroups bytes m → IsGoodGroup es → front ++ more ≡ group_text es → 0 < length more → LoadsGroups (bytes ++ front) (length bytes) m
torn_loads_none bytes m es front more made good is some = read_is_longest (bytes ++ front) bytes front m refl made (stuck_where_none m front (torn_begins_none es front more good is some) (torn_no_note es front more good is))
