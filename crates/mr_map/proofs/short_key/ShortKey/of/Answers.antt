use Rattle.mr_map.proofs.Padded.{is_padded}
use Rattle.mr_map.proofs.short_key.ShortKey.of.Goals as goal

pub invariant_of-result : goal.invariant_of-result
invariant_of-result c = is_padded c.args.key.now c.copy_from_slice.new.self c.copy_from_slice.ensures.after c.if-key-gt-ROOM.false
