-- Texts that are set together.
use Rattle.std.proofs.Common.{◌≡◌, List, [], ◌∷◌, map, IsTrue, Some, None, refl, sym, ◌∙◌, ap}
use Rattle.std.specs.Prelude.{if◌then◌else◌}
use Rattle.std.specs.List.{list_all}
use Rattle.std.specs.Option.{option_and_then}
use Rattle.std.specs.FinMap.{insert}
use Rattle.mr_bytes.proofs.Both.{first, second}
use Rattle.mr_map.specs.Bytes.{Bytes}
use Rattle.mr_effect.specs.Effects.{has_spelling, words_fit, pair_fits, is_some_of}
use Rattle.mr_effect.specs.declared.effect.Effect.TheVariants as effect
use Rattle.mr_keyspace.specs.Dataset.{Dataset}
use Rattle.mr_keyspace.specs.Steps.{without_deadline}
use Rattle.mr_keyspace.specs.Changes.{change, with_texts}
use Rattle.mr_data.specs.Meaning.{apply, apply_all}
use Rattle.mr_keyspace.specs.declared.value.Value.TheVariants as value

-- one of them
one_set : (k text : Bytes) (m : Dataset) → IsTrue (words_fit (effect.Set k text)) → apply (effect.Set k text) m ≡ Some (insert m k (without_deadline (value.Text text)))
unfolding apply change
one_set k text m fit = ap (λ b. if b then Some (insert m k (without_deadline (value.Text text))) else None) fit

each_set : (ps : List (Bytes × Bytes)) (m : Dataset) → IsTrue (list_all pair_fits ps) → apply_all (map (λ p. effect.Set p.0 p.1) ps) m ≡ Some (with_texts ps m)
each_set [] m fit = refl
each_set (p ∷ ps) m fit =
    ap (option_and_then (apply_all (map (λ q. effect.Set q.0 q.1) ps))) (one_set p.0 p.1 m (first (pair_fits p) (list_all pair_fits ps) fit))
    ∙ each_set ps (insert m p.0 (without_deadline (value.Text p.1))) (second (pair_fits p) (list_all pair_fits ps) fit)

all_set : (ps : List (Bytes × Bytes)) (m : Dataset) → IsTrue (is_some_of ps) → IsTrue (list_all pair_fits ps) → apply (effect.MSet ps) m ≡ Some (with_texts ps m)
unfolding apply change
all_set ps m some fit = rw (some, fit) refl

pub set_in_order : (ps : List (Bytes × Bytes)) (m : Dataset) → IsTrue (has_spelling (effect.MSet ps)) → IsTrue (words_fit (effect.MSet ps)) → apply (effect.MSet ps) m ≡ apply_all (map (λ p. effect.Set p.0 p.1) ps) m
set_in_order ps m some fit = all_set ps m some fit ∙ sym (each_set ps m fit)
