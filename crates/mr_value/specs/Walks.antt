-- What a walk over a hash's fields is still to give.
use Rattle.std.specs.Prelude.{ℕ, List}
use Rattle.mr_value.specs.declared.field_values.FieldWalk.{FieldWalk}
use Rattle.mr_value.specs.declared.field_values.FieldWalk.TheVariants.{Few, Many}

-- the fields with their values that are still to come
abbrev pub fields_left : FieldWalk → List (List ℕ × List ℕ)
fields_left (Few pairs) = pairs
fields_left (Many pairs) = pairs
