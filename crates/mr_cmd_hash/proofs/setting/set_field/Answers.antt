use Rattle.std.proofs.Common.{rules}
use Rattle.mr_cmd_hash.proofs.Single.{field_set}
use Rattle.mr_cmd_hash.proofs.setting.set_field.Goals as goal

pub returns : goal.returns
returns c = field_set _ _ _ _ _ _ _ c.get-before.result _ _ c.get-before.ensures (search rules) c.fields_reply.ensures (search rules)
