-- What a command on a collection answers, makes of it, and has as its effects.
use Rattle.std.specs.Prelude.{List, Option, Some, None}
use Rattle.mr_resp.specs.Replies.{Tree}
use Rattle.mr_keyspace.specs.Steps.{Kind, held, entry_of, deadline_of}
use Rattle.mr_keyspace.specs.declared.value.Entry.{Entry}
use Rattle.mr_effect.specs.declared.effect.Effect.{Effect}
use Rattle.mr_cmd_shared.specs.Answered.{Answered, kept, wrong_kind}

-- the answer, what becomes of the collection, and the effects
pub record Change (X : Type 0) : Type 0 where
  pub reply : Tree
  pub value : X
  pub effects : List Effect

module _ {X : Type 0} (kind : Kind X) where
  -- the collection stays as it is
  abbrev pub replied : (X → Tree) → Option X → Option Entry → Answered
  replied answer None before = kept wrong_kind before
  replied answer (Some x) before = kept (answer x) before

  -- A command that only tells of the collection at a key. An absent key has one without elements.
  abbrev pub telling : (X → Tree) → Option Entry → Answered
  telling answer before = replied answer (held kind before) before

  abbrev pub changed : (X → Change X) → Option X → Option Entry → Answered
  changed change None before = kept wrong_kind before
  changed change (Some x) before = record {
    reply = (change x).reply;
    entry = entry_of kind (deadline_of before) (change x).value;
    effects = (change x).effects;
  }

  -- A command that changes the collection at a key. The deadline stays; a collection without elements goes.
  abbrev pub changing : (X → Change X) → Option Entry → Answered
  changing change before = changed change (held kind before) before
