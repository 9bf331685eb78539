use Rattle.mr_effect.proofs.Readings.{spells, finds_each}
use Rattle.mr_effect.proofs.decoding.decode.Goals as goal

pub returns-clause-found : goal.returns-clause-found
returns-clause-found c = spells _ _ c.in_ok-found.ensures.found

pub returns-clause-each : goal.returns-clause-each
returns-clause-each c = finds_each _ _ c.in_ok-found.ensures.found
