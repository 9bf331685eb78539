use Rattle.mr_bytes.proofs.Windows.{between}
use Rattle.mr_bytes.proofs.laws.window_places.Goals as goal

pub returns : goal.returns
returns c = between
