-- What stands at the front of bytes is a beginning of a group's text, or none.
use Rattle.std.proofs.Common.{◌≡◌, ℕ, ◌<◌, ◌≤◌, List, [], ◌∷◌, ◌++◌, inl, inr, length, map, Bool, true, false, ◌&&◌, IsTrue, refl, sym, ap, subst, ◌∙◌, append_assoc, arith, All}
use Rattle.std.specs.List.{list_all, concat}
use Rattle.std.proofs.lemmas.List.{append_cancel_left, append-nil}
use Rattle.std.proofs.lemmas.List.Elements.{All-nil, All-cons, All-head, All-tail, All-append}
use Rattle.std.proofs.lemmas.List.Folds.{list_all-append, concat-append}
use Rattle.mr_bytes.proofs.Both.{first, second}
use Rattle.mr_inline.specs.Language.{Continues, IsDoomed}
use Rattle.mr_resp.specs.Command.{IsCommandText}
use Rattle.mr_resp.specs.Usual.{commands, commands-words}
use Rattle.mr_resp.proofs.Commands.{commands_apart, command_wants_no_more}
use Rattle.mr_effect.specs.Spelling.{words, text, texts}
use Rattle.mr_effect.specs.declared.effect.Effect.{Effect}
use Rattle.mr_effect.specs.declared.effect.Effect.TheVariants as effect
use Rattle.mr_groups.specs.Effects.{IsGoodEffect}
use Rattle.mr_groups.proofs.Leading.{one_effect}
use Rattle.mr_groups.specs.Groups.{can_join, is_group, IsGoodGroup, multi, exec, group_text, parts}
use Rattle.mr_groups.specs.Parts.{HasOther, multi_words, exec_words}
use Rattle.mr_groups.specs.Reading.{BeginsWithGroup, IsCut, BeginGroup, IsOpen, IsBad}
use Rattle.mr_groups.proofs.Apart.{heads, tails, no_empty, multi_command, exec_command, effect_command, no_multi, no_exec, multi_no_exec, regroup}

-- a whole command text
abbrev pub IsWhole : List ℕ → Type 0
IsWhole t = IsCommandText commands t

-- ---- what a part of a group's text isn't

-- no effect that can stand beside others begins the bytes
abbrev pub HasNoEffect : List ℕ → Type 0
HasNoEffect rest = (f : Effect) (z : List ℕ) → IsGoodEffect f → IsTrue (can_join f) → rest ≡ text f ++ z → ⊥

-- nothing that goes on behind the frame's beginning and so many effects begins the bytes
pub record IsStuckInside (count : ℕ) (rest : List ℕ) : Type 0 where
  pub no_effect : HasNoEffect rest
  pub no_end : (z : List ℕ) → 2 ≤ count → rest ≡ exec ++ z → ⊥

-- .. nor is it this text
pub record FitsNowhere (count : ℕ) (t : List ℕ) : Type 0 where
  pub no_effect : (f : Effect) → IsGoodEffect f → IsTrue (can_join f) → t ≡ text f → ⊥
  pub no_end : 2 ≤ count → t ≡ exec → ⊥

pub same_text : (a b x y : List ℕ) → IsWhole a → IsWhole b → a ++ x ≡ b ++ y → a ≡ b
same_text a b x y c d q = (commands_apart commands a b x y c.0 d.0 c.1 d.1 q).0

pub exec_text : IsCommandText commands exec
exec_text = (exec_words, exec_command)

pub multi_text : IsCommandText commands multi
multi_text = (multi_words, multi_command)

-- a command text that fits nowhere, at the front
pub stuck_behind : (count : ℕ) (t behind rest : List ℕ) → IsWhole t → rest ≡ t ++ behind → FitsNowhere count t → IsStuckInside count rest
stuck_behind count t behind rest command is fits = record {
  no_effect = λ f z good joins q. fits.no_effect f good joins (same_text t (text f) behind z command (effect_command f good) (sym is ∙ q));
  no_end = λ z some q. fits.no_end some (same_text t exec behind z command exec_text (sym is ∙ q));
}

pub no_command : (t z rest : List ℕ) → IsWhole t → Continues IsWhole rest → rest ≡ t ++ z → ⊥
no_command t z rest command begun q = command_wants_no_more commands t z command (subst (Continues IsWhole) q begun)

pub no_doomed : (t z rest : List ℕ) → IsWhole t → IsDoomed IsWhole rest → rest ≡ t ++ z → ⊥
no_doomed t z rest command doomed q = doomed.never [] t z command (append-nil rest ∙ q)

pub stuck_open : (count : ℕ) (rest : List ℕ) → Continues IsWhole rest → IsStuckInside count rest
stuck_open count rest begun = record {
  no_effect = λ f z good joins q. no_command (text f) z rest (effect_command f good) begun q;
  no_end = λ z some q. no_command exec z rest exec_text begun q;
}

pub stuck_doomed : (count : ℕ) (rest : List ℕ) → IsDoomed IsWhole rest → IsStuckInside count rest
stuck_doomed count rest doomed = record {
  no_effect = λ f z good joins q. no_doomed (text f) z rest (effect_command f good) doomed q;
  no_end = λ z some q. no_doomed exec z rest exec_text doomed q;
}

-- ---- which texts fit nowhere behind a frame's beginning

pub other_fits_nowhere : (count : ℕ) (bytes : List ℕ) (o : HasOther bytes) → FitsNowhere count o.command
other_fits_nowhere count bytes o = record { no_effect = λ f good joins q. o.no_effect f good q; no_end = λ some q. o.no_exec q }

pub multi_fits_nowhere : (count : ℕ) → FitsNowhere count multi
multi_fits_nowhere count = record {
  no_effect = λ f good joins q. no_multi f [] [] good (ap (λ (t : List ℕ). t ++ []) (sym q));
  no_end = λ some q. multi_no_exec [] [] (ap (λ (t : List ℕ). t ++ []) q);
}

pub exec_fits_nowhere : (count : ℕ) → count < 2 → FitsNowhere count exec
exec_fits_nowhere count few = record {
  no_effect = λ f good joins q. no_exec f [] [] good (ap (λ (t : List ℕ). t ++ []) (sym q));
  no_end = λ some q. absurd (omega (arith, few, some));
}

pub lone_fits_nowhere : (count : ℕ) (e : Effect) → IsGoodEffect e → can_join e ≡ false → FitsNowhere count (text e)
lone_fits_nowhere count e kept lone = record {
  no_effect = λ f good joins q.
      let same : e ≡ f = (one_effect e f [] [] kept good (ap (λ (t : List ℕ). t ++ []) q)).0 in
      let wrong : false ≡ true = sym lone ∙ ap can_join same ∙ joins in
      cc;
  no_end = λ some q. no_exec e [] [] kept (ap (λ (t : List ℕ). t ++ []) q);
}

-- ---- inside a frame

-- a frame's beginning, effects that can stand beside one another, and what is behind them
pub record IsInside (bytes : List ℕ) (es : List Effect) (rest : List ℕ) : Type 0 where
  pub is : bytes ≡ multi ++ (texts es ++ rest)
  pub good : All IsGoodEffect es
  pub join : IsTrue (list_all can_join es)

none_inside : (es fs : List Effect) (rest y : List ℕ) → All IsGoodEffect es → All IsGoodEffect fs → IsTrue (list_all can_join fs) → HasNoEffect rest
    → (length fs ≡ length es → rest ≡ exec ++ y → ⊥) → texts es ++ rest ≡ texts fs ++ (exec ++ y) → ⊥
none_inside [] [] rest y g k joins no_effect no_end q = no_end refl q
none_inside [] (f ∷ fs) rest y g k joins no_effect no_end q =
    no_effect f (texts fs ++ (exec ++ y)) (All-head IsGoodEffect f fs k) (first (can_join f) _ joins) (q ∙ append_assoc (text f) (texts fs) (exec ++ y))
none_inside (e ∷ es) [] rest y g k joins no_effect no_end q = no_exec e (texts es ++ rest) y (All-head IsGoodEffect e es g) (sym (append_assoc (text e) (texts es) rest) ∙ q)
none_inside (e ∷ es) (f ∷ fs) rest y g k joins no_effect no_end q =
    let split : text e ++ (texts es ++ rest) ≡ text f ++ (texts fs ++ (exec ++ y)) = sym (append_assoc (text e) (texts es) rest) ∙ (q ∙ append_assoc (text f) (texts fs) (exec ++ y)) in
    let one = one_effect e f (texts es ++ rest) (texts fs ++ (exec ++ y)) (All-head IsGoodEffect e es g) (All-head IsGoodEffect f fs k) split in
    none_inside es fs rest y (All-tail IsGoodEffect e es g) (All-tail IsGoodEffect f fs k) (second (can_join f) _ joins) no_effect (λ long r. no_end (omega (arith, long)) r) one.1

-- no group's text begins what is stuck inside a frame
pub none_begins : (bytes : List ℕ) (es : List Effect) (rest : List ℕ) → IsInside bytes es rest → IsStuckInside (length es) rest → BeginsWithGroup bytes → ⊥
none_begins bytes es rest in_frame stuck b = by_group b.group b.behind b.good (sym in_frame.is ∙ b.is)
  where
    by_group : (fs : List Effect) (y : List ℕ) → IsGoodGroup fs → multi ++ (texts es ++ rest) ≡ group_text fs ++ y → ⊥
    by_group [] y k q = no_empty k.group
    by_group (f ∷ []) y k q = no_multi f y (texts es ++ rest) (All-head IsGoodEffect f [] k.good) (sym q)
    by_group (f ∷ f2 ∷ fs) y k q =
        let cut = append_cancel_left multi (texts es ++ rest) (texts (f ∷ f2 ∷ fs) ++ (exec ++ y)) (q ∙ regroup (f ∷ f2 ∷ fs) y) in
        none_inside es (f ∷ f2 ∷ fs) rest y in_frame.good k.good k.group stuck.no_effect (λ long r. stuck.no_end y (omega (arith, long)) r) cut

-- ---- the command texts at the front

pub concat_texts : (es : List Effect) → concat (map text es) ≡ texts es
concat_texts [] = refl
concat_texts (e ∷ es) = ap (λ (t : List ℕ). text e ++ t) (concat_texts es)

pub all_commands : (es : List Effect) → All IsGoodEffect es → All IsWhole (map text es)
all_commands [] g = All-nil IsWhole
all_commands (e ∷ es) g = All-cons IsWhole (text e) (map text es) (effect_command e (All-head IsGoodEffect e es g)) (all_commands es (All-tail IsGoodEffect e es g))

pub cut_inside : (bytes : List ℕ) (es : List Effect) (rest : List ℕ) → IsInside bytes es rest → IsCut bytes (multi ∷ map text es) rest
cut_inside bytes es rest in_frame = record {
  is = in_frame.is ∙ (ap (λ (t : List ℕ). multi ++ (t ++ rest)) (sym (concat_texts es)) ∙ sym (append_assoc multi (concat (map text es)) rest));
  each = All-cons IsWhole multi (map text es) multi_text (all_commands es in_frame.good);
}

pub cut_further : (bytes : List ℕ) (ts : List (List ℕ)) (t behind rest : List ℕ) → IsCut bytes ts rest → IsWhole t → rest ≡ t ++ behind → IsCut bytes (ts ++ t ∷ []) behind
cut_further bytes ts t behind rest cut command is = record {
  is = cut.is ∙ (ap (λ (x : List ℕ). concat ts ++ x) is ∙ (sym (append_assoc (concat ts) t behind)
      ∙ ap (λ (x : List ℕ). x ++ behind) (ap (λ (x : List ℕ). concat ts ++ x) (sym (append-nil t)) ∙ sym (concat-append ts (t ∷ [])))));
  each = All-append IsWhole ts (t ∷ []) cut.each (All-cons IsWhole t [] command (All-nil IsWhole));
}

-- ---- two effects more, and a frame's end, make a whole group of effects inside a frame

short_clear : length (words effect.Clear) ≤ commands.words
unfolding words
short_clear = omega (arith, commands-words)

clear_good : IsGoodEffect effect.Clear
clear_good = record { spelled = refl; fits = refl; short = short_clear }

abbrev two : List Effect
two = effect.Clear ∷ effect.Clear ∷ []

parts_framed : (es : List Effect) → parts (es ++ two) ≡ multi ∷ (map text (es ++ two) ++ exec ∷ [])
parts_framed [] = refl
parts_framed (d ∷ []) = refl
parts_framed (d ∷ d2 ∷ es) = refl

is_group_framed : (es : List Effect) → is_group (es ++ two) ≡ list_all can_join (es ++ two)
is_group_framed [] = refl
is_group_framed (d ∷ []) = refl
is_group_framed (d ∷ d2 ∷ es) = refl

map_more : (es : List Effect) → map text (es ++ two) ++ exec ∷ [] ≡ map text es ++ (text effect.Clear ∷ text effect.Clear ∷ exec ∷ [])
map_more [] = refl
map_more (e ∷ es) = ap (λ (ts : List (List ℕ)). text e ∷ ts) (map_more es)

begin_inside : (es : List Effect) → All IsGoodEffect es → IsTrue (list_all can_join es) → BeginGroup (multi ∷ map text es)
begin_inside es good join = record {
  group = es ++ two;
  good = record {
    group = is_group_framed es ∙ (list_all-append can_join es two ∙ ap (λ (b : Bool). b && true) join);
    good = All-append IsGoodEffect es two good (All-cons IsGoodEffect effect.Clear (effect.Clear ∷ []) clear_good (All-cons IsGoodEffect effect.Clear [] clear_good (All-nil IsGoodEffect)));
  };
  more = text effect.Clear ∷ text effect.Clear ∷ exec ∷ [];
  is = parts_framed es ∙ ap (λ (ts : List (List ℕ)). multi ∷ ts) (map_more es);
}

-- ---- what fits nowhere begins none

none_listed : (es fs : List Effect) (t : List ℕ) (more : List (List ℕ)) → All IsGoodEffect es → All IsGoodEffect fs → IsTrue (list_all can_join fs)
    → ((f : Effect) → IsGoodEffect f → IsTrue (can_join f) → t ≡ text f → ⊥) → (length fs ≡ length es → t ≡ exec → ⊥) → map text fs ++ exec ∷ [] ≡ (map text es ++ t ∷ []) ++ more → ⊥
none_listed [] [] t more g k joins no_effect no_end q = no_end refl (sym (heads exec t [] more q))
none_listed [] (f ∷ fs) t more g k joins no_effect no_end q =
    no_effect f (All-head IsGoodEffect f fs k) (first (can_join f) _ joins) (sym (heads (text f) t (map text fs ++ exec ∷ []) more q))
none_listed (e ∷ es) [] t more g k joins no_effect no_end q =
    let same : exec ≡ text e = heads exec (text e) [] ((map text es ++ t ∷ []) ++ more) q in
    no_exec e [] [] (All-head IsGoodEffect e es g) (ap (λ (x : List ℕ). x ++ []) (sym same))
none_listed (e ∷ es) (f ∷ fs) t more g k joins no_effect no_end q =
    none_listed es fs t more (All-tail IsGoodEffect e es g) (All-tail IsGoodEffect f fs k) (second (can_join f) _ joins) no_effect (λ long r. no_end (omega (arith, long)) r)
    (tails (text f) (text e) (map text fs ++ exec ∷ []) ((map text es ++ t ∷ []) ++ more) q)

no_begin : (es : List Effect) (t : List ℕ) → All IsGoodEffect es → FitsNowhere (length es) t → BeginGroup ((multi ∷ map text es) ++ t ∷ []) → ⊥
no_begin es t good fits b = by_group b.group b.more b.good b.is
  where
    by_group : (fs : List Effect) (more : List (List ℕ)) → IsGoodGroup fs → parts fs ≡ ((multi ∷ map text es) ++ t ∷ []) ++ more → ⊥
    by_group [] more k q = no_empty k.group
    by_group (f ∷ []) more k q =
        let same : text f ≡ multi = heads (text f) multi [] ((map text es ++ t ∷ []) ++ more) q in
        no_multi f [] [] (All-head IsGoodEffect f [] k.good) (ap (λ (x : List ℕ). x ++ []) same)
    by_group (f ∷ f2 ∷ fs) more k q =
        none_listed es (f ∷ f2 ∷ fs) t more good k.good k.group fits.no_effect (λ long r. fits.no_end (omega (arith, long)) r)
        (tails multi multi (map text (f ∷ f2 ∷ fs) ++ exec ∷ []) ((map text es ++ t ∷ []) ++ more) q)

-- ---- what is answered inside a frame

pub bad_inside : (bytes : List ℕ) (es : List Effect) (rest t behind : List ℕ) → IsInside bytes es rest → IsWhole t → rest ≡ t ++ behind → FitsNowhere (length es) t → IsBad bytes
bad_inside bytes es rest t behind inside command is fits = record {
  none = none_begins bytes es rest inside (stuck_behind (length es) t behind rest command is fits);
  front = (multi ∷ map text es) ++ t ∷ [];
  rest = behind;
  cut = cut_further bytes (multi ∷ map text es) t behind rest (cut_inside bytes es rest inside) command is;
  bad = inl (no_begin es t inside.good fits);
}

pub doomed_inside : (bytes : List ℕ) (es : List Effect) (rest : List ℕ) → IsInside bytes es rest → IsDoomed IsWhole rest → IsBad bytes
doomed_inside bytes es rest inside doomed = record {
  none = none_begins bytes es rest inside (stuck_doomed (length es) rest doomed);
  front = multi ∷ map text es;
  rest = rest;
  cut = cut_inside bytes es rest inside;
  bad = inr doomed;
}

pub open_inside : (bytes : List ℕ) (es : List Effect) (rest : List ℕ) → IsInside bytes es rest → Continues IsWhole rest → IsOpen bytes
open_inside bytes es rest inside begun = record {
  none = none_begins bytes es rest inside (stuck_open (length es) rest begun);
  front = multi ∷ map text es;
  rest = rest;
  cut = cut_inside bytes es rest inside;
  begin = begin_inside es inside.good inside.join;
  open_end = begun;
}

-- ---- what is answered at the start

pub first_command : (bytes : List ℕ) → BeginsWithGroup bytes → (t : List ℕ) × (z : List ℕ) × IsWhole t × (bytes ≡ t ++ z)
first_command bytes b = by_group b.group b.behind b.good b.is
  where
    by_group : (fs : List Effect) (y : List ℕ) → IsGoodGroup fs → bytes ≡ group_text fs ++ y → (t : List ℕ) × (z : List ℕ) × IsWhole t × (bytes ≡ t ++ z)
    by_group [] y k q = no_empty k.group
    by_group (f ∷ []) y k q = (text f, y, effect_command f (All-head IsGoodEffect f [] k.good), q)
    by_group (f ∷ f2 ∷ fs) y k q = (multi, texts (f ∷ f2 ∷ fs) ++ (exec ++ y), multi_text, q ∙ regroup (f ∷ f2 ∷ fs) y)

no_cut : (bytes : List ℕ) → IsCut bytes [] bytes
no_cut bytes = record { is = refl; each = All-nil IsWhole }

pub open_start : (bytes : List ℕ) → Continues IsWhole bytes → IsOpen bytes
open_start bytes begun = record {
  none = λ b. let f = first_command bytes b in no_command f.0 f.1 bytes f.2 begun f.3;
  front = [];
  rest = bytes;
  cut = no_cut bytes;
  begin = record {
    group = effect.Clear ∷ [];
    good = record { group = refl; good = All-cons IsGoodEffect effect.Clear [] clear_good (All-nil IsGoodEffect) };
    more = text effect.Clear ∷ [];
    is = refl;
  };
  open_end = begun;
}

pub doomed_start : (bytes : List ℕ) → IsDoomed IsWhole bytes → IsBad bytes
doomed_start bytes doomed = record {
  none = λ b. let f = first_command bytes b in no_doomed f.0 f.1 bytes f.2 doomed f.3;
  front = [];
  rest = bytes;
  cut = no_cut bytes;
  bad = inr doomed;
}

-- no group's text begins with this text
pub record StartsNone (t : List ℕ) : Type 0 where
  pub no_multi : t ≡ multi → ⊥
  pub no_effect : (f : Effect) → IsGoodEffect f → t ≡ text f → ⊥

pub bad_start : (bytes t behind : List ℕ) → IsWhole t → bytes ≡ t ++ behind → StartsNone t → IsBad bytes
bad_start bytes t behind command is starts = record {
  none = λ b. none b.group b.behind b.good (sym is ∙ b.is);
  front = t ∷ [];
  rest = behind;
  cut = cut_further bytes [] t behind bytes (no_cut bytes) command is;
  bad = inl (λ b. none_begun b.group b.more b.good b.is);
}
  where
    none : (fs : List Effect) (y : List ℕ) → IsGoodGroup fs → t ++ behind ≡ group_text fs ++ y → ⊥
    none [] y k q = no_empty k.group
    none (f ∷ []) y k q =
        let good = All-head IsGoodEffect f [] k.good in
        starts.no_effect f good (same_text t (text f) behind y command (effect_command f good) q)
    none (f ∷ f2 ∷ fs) y k q = starts.no_multi (same_text t multi behind (texts (f ∷ f2 ∷ fs) ++ (exec ++ y)) command multi_text (q ∙ regroup (f ∷ f2 ∷ fs) y))

    none_begun : (fs : List Effect) (more : List (List ℕ)) → IsGoodGroup fs → parts fs ≡ (t ∷ []) ++ more → ⊥
    none_begun [] more k q = no_empty k.group
    none_begun (f ∷ []) more k q = starts.no_effect f (All-head IsGoodEffect f [] k.good) (sym (heads (text f) t [] more q))
    none_begun (f ∷ f2 ∷ fs) more k q = starts.no_multi (sym (heads multi t (map text (f ∷ f2 ∷ fs) ++ exec ∷ []) more q))

pub other_starts_none : (bytes : List ℕ) (o : HasOther bytes) → StartsNone o.command
other_starts_none bytes o = record { no_multi = o.no_multi; no_effect = o.no_effect }

pub exec_starts_none : StartsNone exec
exec_starts_none = record {
  no_multi = λ q. multi_no_exec [] [] (ap (λ (x : List ℕ). x ++ []) (sym q));
  no_effect = λ f good q. no_exec f [] [] good (ap (λ (x : List ℕ). x ++ []) (sym q));
}
