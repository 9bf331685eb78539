use Rattle.law_protocol_example.proofs.TroublesRun.{ends_anew}
use Rattle.law_protocol_example.proofs.laws.trouble_ends_anew.Goals as goal

pub returns : goal.returns
returns c = ends_anew
