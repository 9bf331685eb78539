-- The command text at the front of bytes, and the group that begins with it.
use Rattle.std.proofs.Common.{◌≡◌, ℕ, ◌+◌, ◌-◌, ◌<◌, ◌≤◌, ◌^◌, List, [], ◌∷◌, ◌++◌, ◌⊎◌, inl, inr, length, take, drop, Bool, true, false, ◌&&◌, IsTrue, refl, sym, ap, subst, ◌∙◌, append_assoc, arith, All, take-add, Result, Ok, Err, IfOk, OnErr}
use Rattle.std.specs.Prelude.{codes}
use Rattle.std.specs.List.{list_all}
use Rattle.std.specs.declared.alloc.AllocError.{AllocError}
use Rattle.std.proofs.lemmas.List.{append-nil, length-take, length-take-le, length-drop, take-append-drop}
use Rattle.std.proofs.lemmas.List.Elements.{All-nil, All-cons, All-append}
use Rattle.std.proofs.lemmas.List.Folds.{list_all-append}
use Rattle.mr_bytes.proofs.Numbers.{same_bytes}
use Rattle.mr_map.specs.Bytes.{Bytes}
use Rattle.mr_inline.specs.Language.{Continues, IsDoomed, Fails}
use Rattle.mr_resp.specs.Command.{IsCommand, IsCommandText, BeginsWithCommand, HasCommandFault}
use Rattle.mr_resp.specs.Spelling.{array}
use Rattle.mr_resp.specs.Usual.{commands}
use Rattle.mr_resp.proofs.Commands.{commands_apart, map_ok}
use Rattle.mr_resp.specs.declared.fault.Fault.{Fault}
use Rattle.mr_effect.specs.Spelling.{words, text, texts}
use Rattle.mr_effect.specs.declared.effect.Effect.{Effect}
use Rattle.mr_groups.specs.Effects.{IsGoodEffect}
use Rattle.mr_groups.proofs.Commands.{words_are}
use Rattle.mr_groups.proofs.Pieces.{rest_from, rest_is}
use Rattle.mr_groups.specs.Groups.{can_join, IsGroup, IsGoodGroup, multi, exec, group_text}
use Rattle.mr_groups.specs.Parts.{StartsWith, TakesEffect, HasOther, TakesWords, AreOther, ReadsEffect, ReadsWords, ReadsPart, is_only, multi_words, exec_words}
use Rattle.mr_groups.specs.Reading.{IsFirstGroup, IsOpen, IsBad}
use Rattle.mr_groups.specs.Readers.{AreRead}
use Rattle.mr_groups.specs.declared.part.Part.{Part}
use Rattle.mr_groups.specs.declared.part.Part.TheVariants as part
use Rattle.mr_groups.proofs.Apart.{multi_command, exec_command, effect_command}
use Rattle.mr_groups.proofs.Sizes.{fits_by_words}
use Rattle.mr_groups.proofs.Openings.{IsInside, multi_text, exec_text, bad_inside, doomed_inside, open_inside, bad_start, doomed_start, other_fits_nowhere, multi_fits_nowhere, exec_fits_nowhere, lone_fits_nowhere, other_starts_none, exec_starts_none}

-- ---- words

only_word : (ws : List Bytes) (name : Bytes) → is_only ws name ≡ true → ws ≡ name ∷ []
only_word [] name h = cc
only_word (w ∷ []) name h = ap (λ (v : Bytes). v ∷ []) (same_bytes w name h)
only_word (w ∷ v ∷ ws) name h = cc

not_only : (ws : List Bytes) (name : Bytes) → is_only (name ∷ []) name ≡ true → is_only ws name ≡ false → ws ≡ name ∷ [] → ⊥
not_only ws name itself h same =
    let wrong : false ≡ true = sym h ∙ (ap (λ (vs : List Bytes). is_only vs name) same ∙ itself) in
    cc

pub begin_read : (ws : List Bytes) (n : ℕ) (es : List Effect) → is_only ws (codes "MULTI") ≡ true → ReadsWords ws n es (part.Begin n) es
begin_read ws n es h = (refl, only_word ws (codes "MULTI") h, refl)

pub end_read : (ws : List Bytes) (n : ℕ) (es : List Effect) → is_only ws (codes "EXEC") ≡ true → ReadsWords ws n es (part.End n) es
end_read ws n es h = (refl, only_word ws (codes "EXEC") h, refl)

pub words_read : (ws : List Bytes) (n : ℕ) (old new : List Effect) (p : Part) → is_only ws (codes "MULTI") ≡ false → is_only ws (codes "EXEC") ≡ false → ReadsEffect ws n old p new → ReadsWords ws n old p new
words_read ws n old new (part.Begin used) a b h = absurd h
words_read ws n old new (part.End used) a b h = absurd h
words_read ws n old new (part.Effect used joins) a b h = h
words_read ws n old new part.More a b h = absurd h
words_read ws n old new part.Bad a b h = record { no_multi = not_only ws (codes "MULTI") refl a; no_exec = not_only ws (codes "EXEC") refl b; no_effect = h }

-- ---- the command text at the front

starts_with : (bytes : List ℕ) (n : ℕ) (ws : List Bytes) (t : List ℕ) → n ≤ length bytes → IsCommand commands (take n bytes) ws → array ws ≡ t → StartsWith t bytes n
starts_with bytes n ws t within command same = record { within = within; is_text = command.spelled ∙ same }

multi_is : (ws : List Bytes) → ws ≡ multi_words → array ws ≡ multi
unfolding multi
multi_is ws e = ap array e

exec_is : (ws : List Bytes) → ws ≡ exec_words → array ws ≡ exec
unfolding exec
exec_is ws e = ap array e

takes_effect : (bytes : List ℕ) (n : ℕ) (ws : List Bytes) (joins : Bool) (old new : List Effect) → n ≤ length bytes → IsCommand commands (take n bytes) ws → TakesWords ws joins old new → TakesEffect bytes n joins old new
takes_effect bytes n ws joins old new within command t =
    let same : ws ≡ words t.effect = sym t.spelled.1 in
    record {
      effect = t.effect;
      good = record {
        spelled = t.spelled.0;
        fits = fits_by_words t.effect (subst (λ (vs : List Bytes). All (λ w. length w ≤ commands.word) vs) same command.each);
        short = subst (λ (vs : List Bytes). length vs ≤ commands.words) same command.count;
      };
      starts = starts_with bytes n ws (text t.effect) within command (ap array same);
      is_joining = t.is_joining;
      put = t.put;
    }

has_other : (bytes : List ℕ) (n : ℕ) (ws : List Bytes) → n < 2 ^ 64 → IsCommand commands (take n bytes) ws → AreOther ws → HasOther bytes
has_other bytes n ws small command o = record {
  command = take n bytes;
  behind = drop n bytes;
  is = sym (take-append-drop n bytes);
  whole = (ws, command);
  no_multi = λ q. o.no_multi (words_of multi multi_words multi_command q);
  no_exec = λ q. o.no_exec (words_of exec exec_words exec_command q);
  no_effect = λ e good q. o.no_effect e (good.spelled, words_are e (take n bytes) ws [] [] good (omega (arith, small, length-take n bytes)) command (ap (λ (t : List ℕ). t ++ []) q));
}
  where
    words_of : (t : List ℕ) (vs : List Bytes) → IsCommand commands t vs → take n bytes ≡ t → ws ≡ vs
    words_of t vs other q = (commands_apart commands (take n bytes) t [] [] ws vs command other (ap (λ (x : List ℕ). x ++ []) q)).1

pub part_read : (bytes : List ℕ) (n : ℕ) (ws : List Bytes) (old new : List Effect) (p : Part) → n ≤ length bytes → n < 2 ^ 64 → IsCommand commands (take n bytes) ws → ReadsWords ws n old p new → ReadsPart bytes old p new
part_read bytes n ws old new (part.Begin used) within small command h =
    (subst (λ k. StartsWith multi bytes k) (sym h.0) (starts_with bytes n ws multi within command (multi_is ws h.1)), h.2)
part_read bytes n ws old new (part.End used) within small command h =
    (subst (λ k. StartsWith exec bytes k) (sym h.0) (starts_with bytes n ws exec within command (exec_is ws h.1)), h.2)
part_read bytes n ws old new (part.Effect used joins) within small command h =
    subst (λ k. TakesEffect bytes k joins old new) (sym h.0) (takes_effect bytes n ws joins old new within command h.1)
part_read bytes n ws old new part.More within small command h = absurd h
part_read bytes n ws old new part.Bad within small command h = inl (has_other bytes n ws small command h)

pub parts_read : (bytes : List ℕ) (n : ℕ) (ws : List Bytes) (old new : List Effect) (r : Result Part AllocError) → n ≤ length bytes → n < 2 ^ 64 → IsCommand commands (take n bytes) ws → IfOk r (λ p. ReadsWords ws n old p new) → IfOk r (λ p. ReadsPart bytes old p new)
parts_read bytes n ws old new r within small command h = map_ok r (λ p. ReadsWords ws n old p new) (λ p. ReadsPart bytes old p new) (λ p q. part_read bytes n ws old new p within small command q) h

pub doomed_read : (bytes : List ℕ) (fault : Fault) (old new : List Effect) → Fails (IsCommandText commands) (HasCommandFault commands fault) bytes → ReadsPart bytes old part.Bad new
doomed_read bytes fault old new fails = inr (doomed_behind bytes fails.front fails.byte fails.rest fails.is fails.doomed)
  where
    doomed_behind : (bs front : List ℕ) (byte : ℕ) (rest : List ℕ) → bs ≡ front ++ byte ∷ rest → IsDoomed (IsCommandText commands) (front ++ byte ∷ []) → IsDoomed (IsCommandText commands) bs
    doomed_behind bs front byte rest is doomed = record {
      never = λ more t after c q. doomed.never (rest ++ more) t after c
          (append_assoc front (byte ∷ []) (rest ++ more) ∙ (sym (append_assoc front (byte ∷ rest) more) ∙ (ap (λ (x : List ℕ). x ++ more) (sym is) ∙ q)));
    }

-- ---- at the start

front_is : (t bytes : List ℕ) (n : ℕ) → StartsWith t bytes n → bytes ≡ t ++ drop n bytes
front_is t bytes n s = sym (take-append-drop n bytes) ∙ ap (λ (x : List ℕ). x ++ drop n bytes) s.is_text

pub one_whole : (bytes : List ℕ) (n : ℕ) (joins : Bool) (es : List Effect) → TakesEffect bytes n joins [] es → IsFirstGroup bytes es n
one_whole bytes n joins es t = record {
  within = t.starts.within;
  good = subst IsGoodGroup (sym t.put) (record { group = refl; good = All-cons IsGoodEffect t.effect [] t.good (All-nil IsGoodEffect) });
  is_text = t.starts.is_text ∙ ap group_text (sym t.put);
}

pub end_start : (bytes : List ℕ) (n : ℕ) → StartsWith exec bytes n → IsBad bytes
end_start bytes n s = bad_start bytes exec (drop n bytes) exec_text (front_is exec bytes n s) exec_starts_none

pub bad_at_start : (bytes : List ℕ) → HasOther bytes ⊎ IsDoomed (IsCommandText commands) bytes → IsBad bytes
bad_at_start bytes (inl o) = bad_start bytes o.command o.behind o.whole o.is (other_starts_none bytes o)
bad_at_start bytes (inr doomed) = doomed_start bytes doomed

pub begins_with_multi : (bytes : List ℕ) (n : ℕ) → StartsWith multi bytes n → BeginsWithCommand commands bytes
begins_with_multi bytes n s = record { words = multi_words; used = n; inside = s.within; command = subst (λ (t : List ℕ). IsCommand commands t multi_words) (sym s.is_text) multi_command }

pub on_err : {T E : Type 0} (r : Result T E) (P : Type 0) → P → OnErr r P
on_err (Ok x) P p = tt
on_err (Err e) P p = p

-- ---- inside a frame

pub none_read : (bytes : List ℕ) (n : ℕ) (es : List Effect) → es ≡ [] → StartsWith multi bytes n → AreRead bytes n es
none_read bytes n es none s = record {
  within = s.within;
  is_text = s.is_text ∙ (sym (append-nil multi) ∙ ap (λ (fs : List Effect). multi ++ texts fs) (sym none));
  good = subst (All IsGoodEffect) (sym none) (All-nil IsGoodEffect);
  join = ap (list_all can_join) none;
}

inside_of : (bytes : List ℕ) (n : ℕ) (es : List Effect) → AreRead bytes n es → IsInside bytes es (rest_from n bytes)
inside_of bytes n es a = record {
  is = sym (take-append-drop n bytes) ∙ (ap (λ (x : List ℕ). x ++ drop n bytes) a.is_text ∙ (append_assoc multi (texts es) (drop n bytes) ∙ ap (λ (x : List ℕ). multi ++ (texts es ++ x)) (sym (rest_is n bytes))));
  good = a.good;
  join = a.join;
}

taken : (bytes : List ℕ) (n more : ℕ) (front t : List ℕ) → take n bytes ≡ front → take more (rest_from n bytes) ≡ t → take (n + more) bytes ≡ front ++ t
taken bytes n more front t h k =
    let behind : take more (drop n bytes) ≡ t = ap (take more) (sym (rest_is n bytes)) ∙ k in
    take-add n more bytes ∙ (ap (λ (x : List ℕ). x ++ take more (drop n bytes)) h ∙ ap (λ (x : List ℕ). front ++ x) behind)

fits_in : (bytes : List ℕ) (n more : ℕ) → n ≤ length bytes → more ≤ length (rest_from n bytes) → n + more ≤ length bytes
fits_in bytes n more within more_within =
    let long : length (rest_from n bytes) ≡ length bytes - n = ap length (rest_is n bytes) ∙ length-drop n bytes in
    omega (arith, long, within, more_within)

texts_push : (es : List Effect) (e : Effect) → texts (es ++ e ∷ []) ≡ texts es ++ text e
texts_push [] e = append-nil (text e)
texts_push (a ∷ es) e = ap (λ (t : List ℕ). text a ++ t) (texts_push es e) ∙ sym (append_assoc (text a) (texts es) (text e))

pub one_more : (bytes : List ℕ) (n more : ℕ) (joins : Bool) (es new : List Effect) → AreRead bytes n es → TakesEffect (rest_from n bytes) more joins es new → joins ≡ true → AreRead bytes (n + more) new
one_more bytes n more joins es new a t joined =
    let lone : can_join t.effect ≡ true = sym t.is_joining ∙ joined in
    record {
      within = fits_in bytes n more a.within t.starts.within;
      is_text = taken bytes n more (multi ++ texts es) (text t.effect) a.is_text t.starts.is_text
          ∙ (append_assoc multi (texts es) (text t.effect) ∙ ap (λ (x : List ℕ). multi ++ x) (sym (texts_push es t.effect) ∙ ap texts (sym t.put)));
      good = subst (All IsGoodEffect) (sym t.put) (All-append IsGoodEffect es (t.effect ∷ []) a.good (All-cons IsGoodEffect t.effect [] t.good (All-nil IsGoodEffect)));
      join = ap (list_all can_join) t.put ∙ (list_all-append can_join es (t.effect ∷ []) ∙ both_true (list_all can_join es) (can_join t.effect) a.join lone);
    }
  where
    both_true : (x y : Bool) → x ≡ true → y ≡ true → (x && (y && true)) ≡ true
    both_true true true p q = refl
    both_true true false p q = cc
    both_true false y p q = cc

-- a text takes some bytes
pub some_more : (bytes : List ℕ) (n more : ℕ) (joins : Bool) (es new : List Effect) → n ≤ length bytes → TakesEffect (rest_from n bytes) more joins es new → (n + more ≤ length bytes) × (0 < more)
some_more bytes n more joins es new within t =
    let long : length (take more (rest_from n bytes)) ≡ more = length-take-le more (rest_from n bytes) t.starts.within in
    (fits_in bytes n more within t.starts.within, omega (arith, long, ap length t.starts.is_text))

framed : (es : List Effect) → 2 ≤ length es → group_text es ≡ multi ++ (texts es ++ exec)
framed [] some = absurd (omega (arith, some))
framed (e ∷ []) some = absurd (omega (arith, some))
framed (e ∷ f ∷ es) some = refl

joined_group : (es : List Effect) → 2 ≤ length es → IsTrue (list_all can_join es) → IsGroup es
joined_group [] some join = absurd (omega (arith, some))
joined_group (e ∷ []) some join = refl
joined_group (e ∷ f ∷ es) some join = join

pub all_whole : (bytes : List ℕ) (n more : ℕ) (es : List Effect) → AreRead bytes n es → StartsWith exec (rest_from n bytes) more → 2 ≤ length es → IsFirstGroup bytes es (n + more)
all_whole bytes n more es a s some = record {
  within = fits_in bytes n more a.within s.within;
  good = record { group = joined_group es some a.join; good = a.good };
  is_text = taken bytes n more (multi ++ texts es) exec a.is_text s.is_text ∙ (append_assoc multi (texts es) exec ∙ sym (framed es some));
}

pub multi_inside : (bytes : List ℕ) (n more : ℕ) (es : List Effect) → AreRead bytes n es → StartsWith multi (rest_from n bytes) more → IsBad bytes
multi_inside bytes n more es a s =
    let rest = rest_from n bytes in
    bad_inside bytes es rest multi (drop more rest) (inside_of bytes n es a) multi_text (front_is multi rest more s) (multi_fits_nowhere (length es))

pub early_end : (bytes : List ℕ) (n more : ℕ) (es : List Effect) → AreRead bytes n es → StartsWith exec (rest_from n bytes) more → length es < 2 → IsBad bytes
early_end bytes n more es a s few =
    let rest = rest_from n bytes in
    bad_inside bytes es rest exec (drop more rest) (inside_of bytes n es a) exec_text (front_is exec rest more s) (exec_fits_nowhere (length es) few)

pub lone_inside : (bytes : List ℕ) (n more : ℕ) (joins : Bool) (es new : List Effect) → AreRead bytes n es → TakesEffect (rest_from n bytes) more joins es new → joins ≡ false → IsBad bytes
lone_inside bytes n more joins es new a t lone =
    let rest = rest_from n bytes in
    bad_inside bytes es rest (text t.effect) (drop more rest) (inside_of bytes n es a) (effect_command t.effect t.good) (front_is (text t.effect) rest more t.starts) (lone_fits_nowhere (length es) t.effect t.good (sym t.is_joining ∙ lone))

pub bad_behind : (bytes : List ℕ) (n : ℕ) (es : List Effect) → AreRead bytes n es → HasOther (rest_from n bytes) ⊎ IsDoomed (IsCommandText commands) (rest_from n bytes) → IsBad bytes
bad_behind bytes n es a (inl o) = bad_inside bytes es (rest_from n bytes) o.command o.behind (inside_of bytes n es a) o.whole o.is (other_fits_nowhere (length es) (rest_from n bytes) o)
bad_behind bytes n es a (inr doomed) = doomed_inside bytes es (rest_from n bytes) (inside_of bytes n es a) doomed

pub open_behind : (bytes : List ℕ) (n : ℕ) (es : List Effect) → AreRead bytes n es → Continues (IsCommandText commands) (rest_from n bytes) → IsOpen bytes
open_behind bytes n es a begun = open_inside bytes es (rest_from n bytes) (inside_of bytes n es a) begun
