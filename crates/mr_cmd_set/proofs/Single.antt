-- One word that changes a set, or not.
use Rattle.std.proofs.Common.{◌≡◌, [], ◌∷◌, true, false, length, refl, sym, ◌∙◌, ap}
use Rattle.std.specs.FinMap.{empty, insert, len, retain_keys, len-empty}
use Rattle.mr_map.specs.Bytes.{Bytes, bytes_cmp}
use Rattle.mr_cmd_set.specs.declared.grouping.Write.{Write}
use Rattle.mr_cmd_set.specs.declared.grouping.Write.TheVariants as write
use Rattle.mr_cmd_set.specs.Members.{Members, as_set}
use Rattle.mr_cmd_set.specs.Grouping.{changed_by, changes}
use Rattle.mr_cmd_set.proofs.Sets.{len_keys, retain_empty, retain_one_more, retain_no_more}
use Rattle.mr_cmd_set.proofs.Pushing.{one_key}

is_kept : (w : Write) (s : Members) (x : Bytes) → changed_by w (x ∷ []) s ≡ retain_keys (insert empty x tt) (changes w s)
is_kept write.Add s x = refl
is_kept write.Remove s x = refl

pub word_changes : (w : Write) (s : Members) (x : Bytes) → changes w s x ≡ true → changed_by w (x ∷ []) s ≡ as_set (x ∷ [])
word_changes w s x h = is_kept w s x ∙ retain_one_more (changes w s) empty x h ∙ ap (λ (m : Members). insert m x tt) (retain_empty (changes w s))

pub word_stays : (w : Write) (s : Members) (x : Bytes) → changes w s x ≡ false → changed_by w (x ∷ []) s ≡ as_set []
word_stays w s x h = is_kept w s x ∙ retain_no_more (changes w s) empty x h ∙ retain_empty (changes w s)

pub one_changed : (w : Write) (s : Members) (x : Bytes) → changes w s x ≡ true → 1 ≡ len (changed_by w (x ∷ []) s)
one_changed w s x h = sym (ap len (word_changes w s x h) ∙ len_keys (as_set (x ∷ [])) ∙ ap length (one_key w x [] x))

pub none_changed : (w : Write) (s : Members) (x : Bytes) → changes w s x ≡ false → 0 ≡ len (changed_by w (x ∷ []) s)
none_changed w s x h = sym (ap len (word_stays w s x h) ∙ len-empty bytes_cmp (Unit {0}))
