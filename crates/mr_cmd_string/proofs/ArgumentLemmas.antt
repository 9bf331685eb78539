-- What is read of a command on strings is spelled by the words.
use Rattle.std.proofs.Common.{ℕ, ◌≡◌, List, [], ◌∷◌, ◌++◌, map, Option, Some, None, refl, sym, ◌∙◌, ap, subst}
use Rattle.std.specs.Prelude.{IfOk, IsPermutation, Ok, if◌then◌else◌}
use Rattle.std.specs.Fmt.{signed_decimal}
use Rattle.std.proofs.lemmas.List.Sorted.{IsPermutation-refl, IsPermutation-middle, IsPermutation-append_left}
use Rattle.std.specs.Option.{is_some, ok_or}
use Rattle.mr_arguments.specs.Parts.{with}
use Rattle.mr_cmd_string.specs.Options.{set_text, unit_text, set_option, unit_of, no_set_options, before_also, lifetime_also, set_also, set_word, until, set_options, number_then}
use Rattle.mr_cmd_string.specs.Parts.{lifetime_if_any, seconds, milliseconds}
use Rattle.mr_cmd_string.specs.Arguments.{get, set, setex, psetex, strlen, getrange, mget, setnx, getset, getdel, mset, msetnx, append, setrange, step, incrby, decrby}
use Rattle.mr_arguments.specs.Spelling.{Part, Word, Keyword, AreParts, in_a_row}
use Rattle.mr_cmd_string.specs.Spelled.{condition_option, reply_option, TextSpells}
use Rattle.mr_arguments.proofs.FitLemmas.{all_words}
use Rattle.mr_arguments.proofs.PartLemmas.{with_ok, if_with, with_integer, with_offset, with_pairs, number_part, is_number_part}
use Rattle.mr_cmd_string.proofs.PartLemmas.{option_text, unit_named, with_opposite, lifetime_words, lifetime_read, seconds_read, milliseconds_read}
use Rattle.mr_arguments.proofs.OptionLemmas.{Adds, one_first, from_none}
use Rattle.mr_arguments.specs.declared.name.Name.TheVariants as name
use Rattle.mr_arguments.specs.declared.fault.AskFault.TheVariants.{Arity, Syntax}
use Rattle.mr_cmd_string.specs.declared.text_ask.Amount.TheVariants as amount
use Rattle.mr_cmd_string.specs.declared.text_ask.SetCondition.{SetCondition}
use Rattle.mr_cmd_string.specs.declared.text_ask.SetReply.{SetReply}
use Rattle.mr_cmd_string.specs.declared.text_ask.SetReply.TheVariants.{Done, Before}
use Rattle.mr_cmd_string.specs.declared.options.SetOption.{SetOption}
use Rattle.mr_cmd_string.specs.declared.options.SetOption.TheVariants as option
use Rattle.mr_cmd_string.specs.declared.options.SetOptions.{SetOptions}
use Rattle.mr_cmd_string.specs.declared.options.LifetimeOption.{LifetimeOption}
use Rattle.mr_cmd_string.specs.declared.options.LifetimeOption.TheVariants as lifetime
use Rattle.mr_arguments.specs.declared.expiry.ExpiryUnit.{ExpiryUnit}

pub get_carries : (ws : List (List ℕ)) → IfOk (get ws) (TextSpells name.Get ws)
get_carries (k ∷ []) = record { name_is = refl; parts = (refl, tt) }
get_carries _ = tt

-- the options that are set
abbrev parts : Option SetCondition → SetReply → Option LifetimeOption → List (List Part)
parts c r l = condition_option c ++ reply_option r ++ lifetime_words l

abbrev set_parts : SetOptions → List (List Part)
set_parts s = parts s.condition s.reply s.lifetime

abbrev option_part : SetOption → List Part
option_part o = Keyword (set_text o) ∷ []

condition_more : (o : SetCondition) (c : Option SetCondition) (r : SetReply) (l : Option LifetimeOption) (t : SetOptions) → set_also (record { condition = c; reply = r; lifetime = l }) (option.Condition o) ≡ Ok t
    → IsPermutation (set_parts t) (option_part (option.Condition o) ∷ parts c r l)
condition_more o None r l t h =
    let same : record { condition = Some o; reply = r; lifetime = l } ≡ t = cc in
    subst (λ (x : SetOptions). IsPermutation (set_parts x) (option_part (option.Condition o) ∷ parts None r l)) same (IsPermutation-refl _)
condition_more o (Some d) r l t h = cc

before_more : (c : Option SetCondition) (r : SetReply) (l : Option LifetimeOption) (t : SetOptions) → before_also c r l ≡ Ok t
    → IsPermutation (set_parts t) (option_part option.Before ∷ parts c r l)
before_more c Done l t h =
    let same : record { condition = c; reply = Before; lifetime = l } ≡ t = cc in
    subst (λ (x : SetOptions). IsPermutation (set_parts x) (option_part option.Before ∷ parts c Done l)) same
    (IsPermutation-append_left (lifetime_words l) _ _ (IsPermutation-middle (condition_option c) (option_part option.Before) []))
before_more c Before l t h = cc

lifetime_part : LifetimeOption → List Part
lifetime_part lifetime.Kept = option_part option.Kept
lifetime_part (lifetime.Until u w) = Keyword (unit_text u) ∷ number_part w ∷ []

one_lifetime : (o : LifetimeOption) → lifetime_words (Some o) ≡ lifetime_part o ∷ []
unfolding lifetime_part
one_lifetime lifetime.Kept = refl
one_lifetime (lifetime.Until u w) = refl

lifetime_more : (o : LifetimeOption) (c : Option SetCondition) (r : SetReply) (l : Option LifetimeOption) (t : SetOptions) → lifetime_also (record { condition = c; reply = r; lifetime = l }) o ≡ Ok t
    → IsPermutation (set_parts t) (lifetime_part o ∷ parts c r l)
lifetime_more o c r None t h =
    let same : record { condition = c; reply = r; lifetime = Some o } ≡ t = cc in
    subst (λ (x : SetOptions). IsPermutation (set_parts x) (lifetime_part o ∷ parts c r None)) same
    (subst (λ (x : List (List Part)). IsPermutation (condition_option c ++ reply_option r ++ x) (lifetime_part o ∷ parts c r None)) (sym (one_lifetime o))
    (IsPermutation-middle (condition_option c ++ reply_option r) (lifetime_part o) []))
lifetime_more o c r (Some d) t h = cc

set_more : (s : SetOptions) (o : SetOption) (t : SetOptions) → set_also s o ≡ Ok t → IsPermutation (set_parts t) (option_part o ∷ set_parts s)
unfolding lifetime_part
set_more s (option.Condition o) t h = condition_more o s.condition s.reply s.lifetime t h
set_more s option.Before t h = before_more s.condition s.reply s.lifetime t h
set_more s option.Kept t h = lifetime_more lifetime.Kept s.condition s.reply s.lifetime t h

until_more : (s : SetOptions) (u : ExpiryUnit) (w : List ℕ) (t : SetOptions) → until s (Some u) w ≡ Ok t → IsPermutation (set_parts t) ((Keyword (unit_text u) ∷ number_part w ∷ []) ∷ set_parts s)
unfolding lifetime_part
until_more s u w t h = lifetime_more (lifetime.Until u w) s.condition s.reply s.lifetime t h

abbrev Reads : List (List ℕ) → Type 0
Reads ws = (s t : SetOptions) → set_options s ws ≡ Ok t → Adds ws (set_parts s) (set_parts t)

abbrev ReadsNumber : List ℕ → List (List ℕ) → Type 0
ReadsNumber w ws = (s t : SetOptions) (u : ExpiryUnit) → unit_of w ≡ Some u → number_then s (Some u) ws ≡ Ok t → Adds (w ∷ ws) (set_parts s) (set_parts t)

first_read : (w : List ℕ) (ws : List (List ℕ)) → Reads ws → ReadsNumber w ws → Reads (w ∷ ws)
first_read w ws rest number s t h = elim (unit_of w) as (λ o. unit_of w ≡ o → (if is_some o then number_then s o ws else with (set_word s w) (λ n. set_options n ws)) ≡ Ok t → Adds (w ∷ ws) (set_parts s) (set_parts t)) [
  | Some u ↦ λ e k. number s t u e k
  | None ↦ λ e k.
      let m = with_ok (set_word s w) (λ n. set_options n ws) t k in
      let o = with_ok (ok_or (set_option w) Syntax) (set_also s) m.0 m.1.0 in
      one_first (option_part o.0) (w ∷ []) ws (set_parts s) (set_parts m.0) (set_parts t) (option_text w o.0 o.1.0, tt) (set_more s o.0 m.0 o.1.1) (rest m.0 t m.1.1)
] refl h

number_first : (w v : List ℕ) (ws : List (List ℕ)) → Reads ws → ReadsNumber w (v ∷ ws)
number_first w v ws rest s t u e h =
    let m = with_ok (until s (Some u) v) (λ n. set_options n ws) t h in
    one_first (Keyword (unit_text u) ∷ number_part v ∷ []) (w ∷ v ∷ []) ws (set_parts s) (set_parts m.0) (set_parts t) (unit_named w u e, (is_number_part v, tt))
    (until_more s u v m.0 m.1.0) (rest m.0 t m.1.1)

none_added : Reads []
none_added s t h = let same : s ≡ t = cc in record { order = []; same = subst (λ (x : SetOptions). IsPermutation (set_parts x) (set_parts s)) same (IsPermutation-refl (set_parts s)); parts = tt }

all_read : (ws : List (List ℕ)) → Reads ws
all_read [] = none_added
all_read (w ∷ []) = first_read w [] none_added (λ s t u e h. cc)
all_read (w ∷ v ∷ ws) = first_read w (v ∷ ws) (all_read (v ∷ ws)) (number_first w v ws (all_read ws))

set_read : (ws : List (List ℕ)) (t : SetOptions) → set_options no_set_options ws ≡ Ok t
    → (order : List (List Part)) × (IsPermutation (set_parts t) order × AreParts ws (in_a_row order))
set_read ws t h = from_none ws (set_parts t) (all_read ws no_set_options t h)

pub set_carries : (ws : List (List ℕ)) → IfOk (set ws) (TextSpells name.Set ws)
set_carries [] = tt
set_carries (k ∷ []) = tt
set_carries (k ∷ v ∷ ws) = if_with (set_options no_set_options ws) _ _ (λ s h. if_with (lifetime_if_any s.lifetime) _ _ (λ l e.
    let read = set_read ws s h in
    record {
      name_is = refl;
      parts = (
        read.0,
        (
          subst (λ (x : List (List Part)). IsPermutation (condition_option s.condition ++ reply_option s.reply ++ x) read.0) (lifetime_read s.lifetime l e) read.1.0,
          (refl, (refl, read.1.1)),
        ),
      );
    }))

pub setex_carries : (ws : List (List ℕ)) → IfOk (setex ws) (TextSpells name.SetEx ws)
setex_carries (k ∷ a ∷ v ∷ []) = with_integer a _ _ (λ n e. if_with (seconds n) _ _ (λ m h. record { name_is = refl; parts = (refl, (e ∙ ap signed_decimal (seconds_read n m h), (refl, tt))) }))
setex_carries _ = tt

pub psetex_carries : (ws : List (List ℕ)) → IfOk (psetex ws) (TextSpells name.PSetEx ws)
psetex_carries (k ∷ a ∷ v ∷ []) = with_integer a _ _ (λ n e. if_with (milliseconds n) _ _ (λ m h. record { name_is = refl; parts = (refl, (e ∙ ap signed_decimal (milliseconds_read n m h), (refl, tt))) }))
psetex_carries _ = tt

pub strlen_carries : (ws : List (List ℕ)) → IfOk (strlen ws) (TextSpells name.StrLen ws)
strlen_carries (k ∷ []) = record { name_is = refl; parts = (refl, tt) }
strlen_carries _ = tt

pub getrange_carries : (ws : List (List ℕ)) → IfOk (getrange ws) (TextSpells name.GetRange ws)
getrange_carries (k ∷ a ∷ b ∷ []) = with_integer a _ _ (λ m e. with_integer b _ _ (λ n d. record { name_is = refl; parts = (refl, (e, (d, tt))) }))
getrange_carries _ = tt

pub mget_carries : (ws : List (List ℕ)) → IfOk (mget ws) (TextSpells name.MGet ws)
mget_carries [] = tt
mget_carries (k ∷ ks) = record { name_is = refl; parts = all_words (k ∷ ks) }

pub setnx_carries : (ws : List (List ℕ)) → IfOk (setnx ws) (TextSpells name.SetNx ws)
setnx_carries (k ∷ v ∷ []) = record { name_is = refl; parts = (refl, (refl, tt)) }
setnx_carries _ = tt

pub getset_carries : (ws : List (List ℕ)) → IfOk (getset ws) (TextSpells name.GetSet ws)
getset_carries (k ∷ v ∷ []) = record { name_is = refl; parts = (refl, (refl, tt)) }
getset_carries _ = tt

pub getdel_carries : (ws : List (List ℕ)) → IfOk (getdel ws) (TextSpells name.GetDel ws)
getdel_carries (k ∷ []) = record { name_is = refl; parts = (refl, tt) }
getdel_carries _ = tt

pub mset_carries : (ws : List (List ℕ)) → IfOk (mset ws) (TextSpells name.MSet ws)
mset_carries [] = tt
mset_carries (w ∷ ws) = with_pairs (w ∷ ws) (Arity name.MSet) _ _ (λ pairs e. record { name_is = refl; parts = subst (λ (xs : List (List ℕ)). AreParts (w ∷ ws) (map Word xs)) e (all_words (w ∷ ws)) })

pub msetnx_carries : (ws : List (List ℕ)) → IfOk (msetnx ws) (TextSpells name.MSetNx ws)
msetnx_carries [] = tt
msetnx_carries (w ∷ ws) = with_pairs (w ∷ ws) (Arity name.MSetNx) _ _ (λ pairs e. record { name_is = refl; parts = subst (λ (xs : List (List ℕ)). AreParts (w ∷ ws) (map Word xs)) e (all_words (w ∷ ws)) })

pub append_carries : (ws : List (List ℕ)) → IfOk (append ws) (TextSpells name.Append ws)
append_carries (k ∷ v ∷ []) = record { name_is = refl; parts = (refl, (refl, tt)) }
append_carries _ = tt

pub setrange_carries : (ws : List (List ℕ)) → IfOk (setrange ws) (TextSpells name.SetRange ws)
setrange_carries (k ∷ o ∷ v ∷ []) = with_offset o _ _ (λ n e. record { name_is = refl; parts = (refl, (e, (refl, tt))) })
setrange_carries _ = tt

pub incr_carries : (ws : List (List ℕ)) → IfOk (step name.Incr amount.One ws) (TextSpells name.Incr ws)
incr_carries (k ∷ []) = record { name_is = refl; parts = (refl, tt) }
incr_carries _ = tt

pub decr_carries : (ws : List (List ℕ)) → IfOk (step name.Decr amount.MinusOne ws) (TextSpells name.Decr ws)
decr_carries (k ∷ []) = record { name_is = refl; parts = (refl, tt) }
decr_carries _ = tt

pub incrby_carries : (ws : List (List ℕ)) → IfOk (incrby ws) (TextSpells name.IncrBy ws)
incrby_carries (k ∷ by ∷ []) = with_integer by _ _ (λ n e. record { name_is = refl; parts = (refl, (e, tt)) })
incrby_carries _ = tt

pub decrby_carries : (ws : List (List ℕ)) → IfOk (decrby ws) (TextSpells name.DecrBy ws)
decrby_carries (k ∷ by ∷ []) = with_integer by _ _ (λ n e. with_opposite n _ _ (λ m o. record { name_is = refl; parts = (refl, (e ∙ ap signed_decimal o, tt)) }))
decrby_carries _ = tt
