-- What is read of a command on keys is spelled by the words.
use Rattle.std.proofs.Common.{ℕ, ℤ, ◌≡◌, List, [], ◌∷◌, ◌++◌, Option, Some, None, refl, sym, ◌∙◌, ap, subst}
use Rattle.std.specs.Prelude.{IfOk, IsPermutation, Ok}
use Rattle.std.proofs.lemmas.List.Sorted.{IsPermutation-refl, IsPermutation-middle, IsPermutation-append_left}
use Rattle.mr_arguments.specs.Pairing.{unpaired}
use Rattle.std.specs.Fmt.{signed_decimal}
use Rattle.mr_cmd_key.specs.Parts.{positive_if_any, key_expiry}
use Rattle.mr_arguments.specs.Expiry.{said, number_said}
use Rattle.mr_arguments.specs.Options.{added}
use Rattle.mr_cmd_key.specs.Options.{scan_text, no_scan_options, scan_also, scan_pair, scan_options, condition_if_any}
use Rattle.mr_cmd_key.specs.Options as options
use Rattle.mr_cmd_key.specs.Arguments.{del, unlink, exists, key_type, keys, scan, dbsize, rename, renamenx, clear, expire, ttl, pttl, expiretime, pexpiretime, persist}
use Rattle.mr_arguments.specs.Spelling.{Part, Word, Keyword, AreParts, in_a_row}
use Rattle.mr_cmd_key.specs.Called.{key_name}
use Rattle.mr_cmd_key.specs.Spelled.{scan_option, KeySpells}
use Rattle.mr_arguments.proofs.FitLemmas.{all_words}
use Rattle.mr_arguments.proofs.PartLemmas.{with_ok, if_with, if_ok, with_pairs}
use Rattle.mr_cmd_key.proofs.PartLemmas.{with_cursor, with_timing, positive_count, scan_option_text, condition_read, key_expiry_read}
use Rattle.mr_arguments.proofs.ExpiryLemmas.{number_is}
use Rattle.mr_arguments.proofs.OptionLemmas.{all_added, from_none, each_pair}
use Rattle.mr_arguments.specs.declared.name.Name.{Name}
use Rattle.mr_arguments.specs.declared.name.Name.TheVariants as name
use Rattle.mr_cmd_key.specs.declared.key_ask.Databases.{Databases}
use Rattle.mr_cmd_key.specs.declared.key_ask.Timing.{Timing}
use Rattle.mr_cmd_key.specs.declared.key_ask.KeyAsk.TheVariants as key
use Rattle.mr_cmd_key.specs.declared.key_ask.ExpireCondition.{ExpireCondition}
use Rattle.mr_arguments.specs.declared.expiry.Expiry.{Expiry}
use Rattle.mr_arguments.specs.declared.expiry.ExpiryUnit.{ExpiryUnit}
use Rattle.mr_arguments.specs.declared.fault.AskFault.TheVariants.{Syntax}
use Rattle.mr_cmd_key.specs.declared.options.ScanOption.{ScanOption}
use Rattle.mr_cmd_key.specs.declared.options.ScanOption.TheVariants as scans
use Rattle.mr_cmd_key.specs.declared.options.ScanOptions.{ScanOptions}

scan_parts : ScanOptions → List (List Part)
scan_parts s = scan_option scans.Pattern s.pattern ++ scan_option scans.Count s.count ++ scan_option scans.Kind s.kind

pub del_carries : (ws : List (List ℕ)) → IfOk (del ws) (KeySpells name.Del ws)
del_carries [] = tt
del_carries (k ∷ ks) = record { name_is = refl; parts = all_words (k ∷ ks) }

pub unlink_carries : (ws : List (List ℕ)) → IfOk (unlink ws) (KeySpells name.Unlink ws)
unlink_carries [] = tt
unlink_carries (k ∷ ks) = record { name_is = refl; parts = all_words (k ∷ ks) }

pub exists_carries : (ws : List (List ℕ)) → IfOk (exists ws) (KeySpells name.Exists ws)
exists_carries [] = tt
exists_carries (k ∷ ks) = record { name_is = refl; parts = all_words (k ∷ ks) }

pub key_type_carries : (ws : List (List ℕ)) → IfOk (key_type ws) (KeySpells name.KeyType ws)
key_type_carries (k ∷ []) = record { name_is = refl; parts = (refl, tt) }
key_type_carries _ = tt

pub keys_carries : (ws : List (List ℕ)) → IfOk (keys ws) (KeySpells name.Keys ws)
keys_carries (p ∷ []) = record { name_is = refl; parts = (refl, tt) }
keys_carries _ = tt

argument_part : ScanOption → List ℕ → List Part
argument_part o w = Keyword (scan_text o) ∷ Word w ∷ []

pattern_more : (p c k : Option (List ℕ)) (w : List ℕ) (t : ScanOptions) → scan_also (record { pattern = p; count = c; kind = k }) w scans.Pattern ≡ Ok t
    → IsPermutation (scan_parts t) (argument_part scans.Pattern w ∷ scan_parts (record { pattern = p; count = c; kind = k }))
unfolding scan_parts argument_part
pattern_more None c k w t h =
    let same : record { pattern = Some w; count = c; kind = k } ≡ t = cc in
    subst (λ (x : ScanOptions). IsPermutation (scan_parts x) (argument_part scans.Pattern w ∷ scan_parts (record { pattern = None; count = c; kind = k }))) same (IsPermutation-refl _)
pattern_more (Some q) c k w t h = cc

count_more : (p c k : Option (List ℕ)) (w : List ℕ) (t : ScanOptions) → scan_also (record { pattern = p; count = c; kind = k }) w scans.Count ≡ Ok t
    → IsPermutation (scan_parts t) (argument_part scans.Count w ∷ scan_parts (record { pattern = p; count = c; kind = k }))
unfolding scan_parts argument_part
count_more p None k w t h =
    let same : record { pattern = p; count = Some w; kind = k } ≡ t = cc in
    subst (λ (x : ScanOptions). IsPermutation (scan_parts x) (argument_part scans.Count w ∷ scan_parts (record { pattern = p; count = None; kind = k }))) same
    (IsPermutation-append_left (scan_option scans.Kind k) _ _ (IsPermutation-middle (scan_option scans.Pattern p) (argument_part scans.Count w) []))
count_more p (Some q) k w t h = cc

kind_more : (p c k : Option (List ℕ)) (w : List ℕ) (t : ScanOptions) → scan_also (record { pattern = p; count = c; kind = k }) w scans.Kind ≡ Ok t
    → IsPermutation (scan_parts t) (argument_part scans.Kind w ∷ scan_parts (record { pattern = p; count = c; kind = k }))
unfolding scan_parts argument_part
kind_more p c None w t h =
    let same : record { pattern = p; count = c; kind = Some w } ≡ t = cc in
    subst (λ (x : ScanOptions). IsPermutation (scan_parts x) (argument_part scans.Kind w ∷ scan_parts (record { pattern = p; count = c; kind = None }))) same
    (IsPermutation-middle (scan_option scans.Pattern p ++ scan_option scans.Count c) (argument_part scans.Kind w) [])
kind_more p c (Some q) w t h = cc

scan_more : (s : ScanOptions) (w : List ℕ) (o : ScanOption) (t : ScanOptions) → scan_also s w o ≡ Ok t → IsPermutation (scan_parts t) (argument_part o w ∷ scan_parts s)
unfolding scan_parts argument_part
scan_more s w scans.Pattern t h = pattern_more s.pattern s.count s.kind w t h
scan_more s w scans.Count t h = count_more s.pattern s.count s.kind w t h
scan_more s w scans.Kind t h = kind_more s.pattern s.count s.kind w t h

scan_one : (s : ScanOptions) (p : List ℕ × List ℕ) (t : ScanOptions) → scan_pair s p ≡ Ok t
    → (o : List Part) × ((AreParts (p.0 ∷ p.1 ∷ []) o) × IsPermutation (scan_parts t) (o ∷ scan_parts s))
unfolding argument_part
scan_one s p t h =
    let read = with_ok (options.scan_option p.0) (scan_also s p.1) t h in
    (argument_part read.0 p.1, ((scan_option_text p.0 read.0 read.1.0, (refl, tt)), scan_more s p.1 read.0 t read.1.1))

ScanRead : List (List ℕ) → ScanOptions → Type 0
ScanRead ws t = (order : List (List Part)) × (IsPermutation (scan_option scans.Pattern t.pattern ++ scan_option scans.Count t.count ++ scan_option scans.Kind t.kind) order × AreParts ws (in_a_row order))

pairs_read : (ws : List (List ℕ)) (pairs : List (List ℕ × List ℕ)) (t : ScanOptions) → ws ≡ unpaired pairs → added scan_pair no_scan_options pairs ≡ Ok t → ScanRead ws t
unfolding ScanRead scan_parts
pairs_read ws pairs t e h =
    let added = all_added scan_pair scan_parts (λ p. p.0 ∷ p.1 ∷ []) scan_one pairs no_scan_options t h in
    let of = from_none _ _ added in
    (of.0, (of.1.0, subst (λ (xs : List (List ℕ)). AreParts xs (in_a_row of.0)) (each_pair pairs ∙ sym e) of.1.1))

scan_read : (ws : List (List ℕ)) (t : ScanOptions) → scan_options ws ≡ Ok t → ScanRead ws t
scan_read ws t h = subst (λ r. IfOk r (ScanRead ws)) h (with_pairs ws Syntax (added scan_pair no_scan_options) (ScanRead ws) (λ pairs e. if_ok (added scan_pair no_scan_options pairs) (ScanRead ws) (λ u k. pairs_read ws pairs u e k)))

pub scan_carries : (ws : List (List ℕ)) → IfOk (scan ws) (KeySpells name.Scan ws)
unfolding ScanRead
scan_carries [] = tt
scan_carries (c ∷ ws) = if_with (scan_options ws) _ _ (λ s h. if_with (positive_if_any s.count) _ _ (λ n e. with_cursor c _ _ (λ place is.
    let read = scan_read ws s h in
    record {
      name_is = refl;
      parts = record {
        count = s.count;
        counts = positive_count s.count n e;
        kind_word = s.kind;
        names = refl;
        are = (read.0, (read.1.0, (is, read.1.1)));
      };
    })))

pub dbsize_carries : (ws : List (List ℕ)) → IfOk (dbsize ws) (KeySpells name.DbSize ws)
dbsize_carries [] = record { name_is = refl; parts = tt }
dbsize_carries _ = tt

pub rename_carries : (ws : List (List ℕ)) → IfOk (rename ws) (KeySpells name.Rename ws)
rename_carries (from ∷ to ∷ []) = record { name_is = refl; parts = (refl, (refl, tt)) }
rename_carries _ = tt

pub renamenx_carries : (ws : List (List ℕ)) → IfOk (renamenx ws) (KeySpells name.RenameNx ws)
renamenx_carries (from ∷ to ∷ []) = record { name_is = refl; parts = (refl, (refl, tt)) }
renamenx_carries _ = tt

pub clear_carries : (n : Name) (d : Databases) → ((t : Option Timing) → key_name (key.Clear d t) ≡ n) → (ws : List (List ℕ)) → IfOk (clear d ws) (KeySpells n ws)
clear_carries n d is [] = record { name_is = is None; parts = tt }
clear_carries n d is (w ∷ []) = with_timing w _ _ (λ t e. record { name_is = is (Some t); parts = (e, tt) })
clear_carries n d is _ = tt

pub expire_carries : (n : Name) (u : ExpiryUnit) → ((k : List ℕ) (m : ℤ) (c : Option ExpireCondition) → key_name (key.Expire k (said u m) c) ≡ n) → (ws : List (List ℕ)) → IfOk (expire n u ws) (KeySpells n ws)
expire_carries n u is [] = tt
expire_carries n u is (k ∷ []) = tt
expire_carries n u is (k ∷ w ∷ ws) = if_with (condition_if_any ws) _ _ (λ c h. if_with (key_expiry u w) _ _ (λ x l.
    let read = key_expiry_read u w x l in
    record {
      name_is = ap (λ (y : Expiry). key_name (key.Expire k y c)) (sym read.1.0) ∙ is k read.0 c;
      parts = (refl, (read.1.1 ∙ ap signed_decimal (sym (number_is u read.0) ∙ ap number_said read.1.0), condition_read ws c h));
    }))

pub ttl_carries : (ws : List (List ℕ)) → IfOk (ttl ws) (KeySpells name.Ttl ws)
ttl_carries (k ∷ []) = record { name_is = refl; parts = (refl, tt) }
ttl_carries _ = tt

pub pttl_carries : (ws : List (List ℕ)) → IfOk (pttl ws) (KeySpells name.PTtl ws)
pttl_carries (k ∷ []) = record { name_is = refl; parts = (refl, tt) }
pttl_carries _ = tt

pub expiretime_carries : (ws : List (List ℕ)) → IfOk (expiretime ws) (KeySpells name.ExpireTime ws)
expiretime_carries (k ∷ []) = record { name_is = refl; parts = (refl, tt) }
expiretime_carries _ = tt

pub pexpiretime_carries : (ws : List (List ℕ)) → IfOk (pexpiretime ws) (KeySpells name.PExpireTime ws)
pexpiretime_carries (k ∷ []) = record { name_is = refl; parts = (refl, tt) }
pexpiretime_carries _ = tt

pub persist_carries : (ws : List (List ℕ)) → IfOk (persist ws) (KeySpells name.Persist ws)
persist_carries (k ∷ []) = record { name_is = refl; parts = (refl, tt) }
persist_carries _ = tt
