-- The language of minired's replicas. What is done at once is a group of effects, all of it or nothing: those of all that waited in a
-- transaction, and else each effect by itself.
use Rattle.std.specs.Prelude.{ℕ, List, bytes_eq}
use Rattle.std.specs.FinMap.{empty}
use Rattle.mr_inline.specs.Language.{IsDoomed}
use Rattle.mr_resp.specs.Request.{IsText}
use Rattle.mr_resp.specs.Usual.{usual}
use Rattle.mr_effect.specs.declared.effect.Effect.{Effect}
use Rattle.mr_keyspace.specs.Dataset.{Dataset}
use Rattle.mr_data.specs.Meaning.{apply_all}
use Rattle.mr_data.specs.declared.given.Given.{Given}
use Rattle.mr_repl.specs.Backlog.{offset_limit}
use Rattle.mr_groups.specs.Groups.{IsGoodGroup, group_text}
use Rattle.law_protocol.specs.Language.{Language}
use Rattle.law_minired.specs.Changes.{HasEffects, IsDue, Leads}
use Rattle.law_minired.specs.Lines.{Says}
use Rattle.law_minired.specs.Requests.{IsAsked}
use Rattle.law_minired.specs.Snapshots.{IsSnapshot, IsReadAs}

abbrev pub minired : Language
minired = record {
  Id = List ℕ;
  same = bytes_eq;
  Dataset = Dataset;
  empty = empty;
  Effect = List Effect;
  apply = apply_all;
  text = group_text;
  IsGood = IsGoodGroup;
  limit = offset_limit;
  Given = Given;
  effects = HasEffects;
  due = IsDue;
  leads = Leads;
  says = Says;
  asks = IsAsked;
  loads = IsSnapshot;
  doomed = IsDoomed (IsText usual);
  restores = IsReadAs;
}
