use Rattle.std.proofs.Common.{List, Option, ap}
use Rattle.std.specs.Prelude.{insert}
use Rattle.std.specs.Option.{option_map}
use Rattle.mr_map.specs.Bytes.{Bytes}
use Rattle.mr_keyspace.specs.Collections.{place_beside}
use Rattle.mr_keyspace.proofs.Ends.{no_place}
use Rattle.mr_keyspace.proofs.Looking.{no_list}
use Rattle.mr_keyspace.proofs.entries.Entries.has_item.Goals as goal

pub returns-in-None : goal.returns-in-None
returns-in-None c = λ side item.
    let f : List Bytes → Option (List Bytes) = λ items. option_map (λ place. insert items place item) (place_beside side c.args.pivot.now items) in
    no_list f c.args.self.now c.args.key.now (ap (option_map (λ place. insert _ place item)) (no_place side c.args.pivot.now)) c.in-None.ensures
