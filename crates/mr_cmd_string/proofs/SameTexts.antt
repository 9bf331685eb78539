-- Texts that are one.
use Rattle.std.proofs.Common.{◌≡◌, List, Bool, true, false, ◌&&◌, refl, ◌∙◌, ap, rules}
use Rattle.std.specs.Prelude.{ℤ, Option, Some, None}
use Rattle.std.specs.Ordering.{int_eq}
use Rattle.std.proofs.lemmas.Bool.Decides.{Decides-int_eq}
use Rattle.std.specs.Str.{bytes_eq}
use Rattle.std.proofs.lemmas.Bool.{and_from}
use Rattle.mr_bytes.proofs.Numbers.{same_bytes, equal_bytes}
use Rattle.mr_map.specs.Bytes.{Bytes}
use Rattle.mr_keyspace.specs.declared.value.Value.{Value}
use Rattle.mr_keyspace.specs.declared.value.Value.TheVariants as value
use Rattle.mr_keyspace.specs.declared.value.Entry.{Entry}
use Rattle.mr_cmd_string.specs.Setting.{text_until, is_text, is_same, holds_until, plain, is_plain}

pub is_this_text : (text : Bytes) (v : Value) → is_text text v ≡ true → v ≡ value.Text text
is_this_text text (value.Text t) h = ap value.Text (same_bytes t text h)
is_this_text text (value.Hash t) h = cc
is_this_text text (value.List t) h = cc
is_this_text text (value.Set t) h = cc
is_this_text text (value.SortedSet t) h = cc

-- ---- deadlines that are one
same_number : (x z : ℤ) → int_eq x z ≡ true → x ≡ z
same_number x z h = search (rules, Decides-int_eq)

number_itself : (x : ℤ) → int_eq x x ≡ true
number_itself x = search (rules, Decides-int_eq)

same_deadline : (d e : Option ℤ) → is_same d e ≡ true → d ≡ e
same_deadline None None h = refl
same_deadline None (Some z) h = cc
same_deadline (Some x) None h = cc
same_deadline (Some x) (Some z) h = ap Some (same_number x z h)

deadline_itself : (d : Option ℤ) → is_same d d ≡ true
deadline_itself None = refl
deadline_itself (Some x) = number_itself x

-- ---- a text with its deadline
both_parts : (a b : Bool) → a && b ≡ true → (a ≡ true) × (b ≡ true)
both_parts true true h = (refl, refl)
both_parts true false h = cc
both_parts false b h = cc

pub until_is : (text : Bytes) (d : Option ℤ) (o : Option Entry) → holds_until text d o ≡ true → o ≡ Some (text_until text d)
until_is text d None h = cc
until_is text d (Some e) h =
    let parts = both_parts (is_same e.deadline d) (is_text text e.value) h in
    ap (λ (v : Value). let f : Entry = record { value = v; deadline = e.deadline } in Some f) (is_this_text text e.value parts.1)
    ∙ ap (λ (x : Option ℤ). Some (text_until text x)) (same_deadline e.deadline d parts.0)

pub until_itself : (text : Bytes) (d : Option ℤ) → holds_until text d (Some (text_until text d)) ≡ true
until_itself text d = and_from (is_same d d) (bytes_eq text text) (deadline_itself d) (equal_bytes text)

pub plain_is : (text : Bytes) (o : Option Entry) → is_plain text o ≡ true → o ≡ Some (plain text)
plain_is text o h = until_is text None o h
