-- A dataset with one key: what makes it, and how it is told.
use Rattle.std.proofs.Common.{◌≡◌, ◌≤◌, ◌++◌, ℕ, List, [], ◌∷◌, Bool, map, Option, None, Some, codes, length, length-append, refl, sym, ap, subst, ◌∙◌, arith, lit<, All}
use Rattle.std.specs.Prelude.{if◌then◌else◌}
use Rattle.std.specs.List.{flat_map}
use Rattle.std.specs.Option.{option_and_then}
use Rattle.std.specs.FinMap.{empty, entries, entries-insert, get, get-insert, len-empty, len-entries, put}
use Rattle.std.proofs.lemmas.Cmp.{eq_by_cmp_equiv, nat_list_cmp_total}
use Rattle.std.proofs.lemmas.List.{append-nil}
use Rattle.std.proofs.lemmas.List.Elements.{All-nil, All-cons}
use Rattle.std.proofs.Math.Seq.{take-length}
use Rattle.mr_map.specs.Bytes.{Bytes, bytes_cmp}
use Rattle.mr_resp.specs.Command.{IsCommandText}
use Rattle.mr_resp.specs.Usual.{commands, commands-word, commands-words}
use Rattle.mr_resp.specs.Spelling.{array}
use Rattle.mr_keyspace.specs.Changes.{change}
use Rattle.mr_keyspace.specs.declared.value.Entry.{Entry}
use Rattle.mr_keyspace.specs.declared.value.Value.TheVariants as values
use Rattle.mr_effect.specs.Spelling.{IsShort, text, texts, words}
use Rattle.mr_effect.specs.declared.effect.Effect.{Effect}
use Rattle.mr_effect.specs.declared.effect.Effect.TheVariants as effect
use Rattle.mr_data.specs.Meaning.{apply, apply_all}
use Rattle.mr_data.specs.Rebuilding.{rebuilding, rebuilt}
use Rattle.mr_groups.specs.Effects.{IsGoodEffect, Makes}
use Rattle.mr_groups.specs.Folding.{apply_groups}
use Rattle.mr_groups.specs.Items.{IsGoodItem, Item}
use Rattle.mr_node_spec.specs.Growing.{Remakes}
use Rattle.law_minired.specs.Snapshots.{IsReadAs}
use Rattle.law_systems_example.specs.Systems.{effects, key, value, with_key}
use Rattle.law_systems_example.proofs.Wording.{short_text}

abbrev the_entry : Entry
the_entry = record { value = values.Text value; deadline = None }

abbrev pub the_effect : Effect
the_effect = effect.Set key value

abbrev pub the_words : List (List ℕ)
the_words = codes "SET" ∷ key ∷ value ∷ []

-- ---- the text of the effect
pub text_is : text the_effect ≡ array the_words
unfolding words
text_is = refl

pub texts_are : texts effects ≡ array the_words
texts_are = ap (λ (x : List ℕ). x ++ []) text_is ∙ append-nil (array the_words)

pub texts_short : length (texts effects) ≤ 2000
texts_short = subst (λ (x : List ℕ). length x ≤ 2000) (sym texts_are) (short_text the_words (omega arith) (omega arith) (lit< tt, (lit< tt, (lit< tt, tt))))

command_text : IsCommandText commands (text the_effect)
unfolding words
command_text = (
  the_words,
  record {
    spelled = refl;
    some = omega arith;
    count = omega (arith, commands-words);
    each = All-cons (λ w. length w ≤ commands.word) (codes "SET") (key ∷ value ∷ []) (omega (arith, commands-word))
        (All-cons (λ w. length w ≤ commands.word) key (value ∷ []) (omega (arith, commands-word)) (All-cons (λ w. length w ≤ commands.word) value [] (omega (arith, commands-word)) (All-nil (λ w. length w ≤ commands.word))));
  },
)

short : IsShort the_effect
unfolding words
short = omega (arith, commands-words)

pub command_texts : All (λ e. IsCommandText commands (text e)) effects
command_texts = All-cons (λ e. IsCommandText commands (text e)) the_effect [] command_text (All-nil (λ e. IsCommandText commands (text e)))

pub all_short : All IsShort effects
all_short = All-cons IsShort the_effect [] short (All-nil IsShort)

-- ---- what it makes
pub applied : apply_all effects empty ≡ Some with_key
unfolding apply change
applied = refl

good : IsGoodEffect the_effect
good = record { spelled = refl; fits = refl; short = short }

all_good : All IsGoodEffect effects
all_good = All-cons IsGoodEffect the_effect [] good (All-nil IsGoodEffect)

-- ---- what makes it again
none_there : (es : List (Bytes × Entry)) → length es ≡ 0 → es ≡ []
none_there [] e = refl
none_there (x ∷ es) e = absurd (omega (arith, e))

one_entry : entries with_key ≡ (key, the_entry) ∷ []
one_entry = entries-insert nat_list_cmp_total empty key the_entry
    ∙ ap (put bytes_cmp key the_entry) (none_there (entries empty) (sym (len-entries empty) ∙ len-empty bytes_cmp Entry))

there : get with_key key ≡ Some the_entry
there = get-insert nat_list_cmp_total empty key the_entry key ∙ ap (λ (b : Bool). if b then Some the_entry else get {R = bytes_cmp} empty key) ((eq_by_cmp_equiv nat_list_cmp_total).refl key)

pub rebuilding_is : rebuilding with_key ≡ effects
rebuilding_is = ap (λ (es : List (Bytes × Entry)). flat_map (λ k. rebuilt k (get with_key k)) (map (λ e. e.0) es)) one_entry ∙ ap (λ (o : Option Entry). rebuilt key o ++ []) there

pub remakes : Remakes (rebuilding with_key) with_key
remakes = subst (λ (es : List Effect). Remakes es with_key) (sym rebuilding_is) (record { again = applied; texts = command_texts; short = all_short })

pub made : Makes (texts effects) with_key
made = record { effects = effects; good = all_good; are_texts = refl; applied = applied }

-- a file with the text is read as the dataset
pub read_as : IsReadAs (texts effects) with_key
read_as = (
  length (texts effects),
  record {
    within = omega arith;
    made = record {
      items = Item.group effects ∷ [];
      good = All-cons IsGoodItem (Item.group effects) [] (record { group = refl; good = all_good }) (All-nil IsGoodItem);
      are_texts = take-length (texts effects);
      applied = ap (option_and_then (apply_groups [])) applied;
    };
    longest = λ front more n is makes. let a = ap length is in let b = length-append front more in omega (arith, a, b);
  },
)
