-- What is seen of the three nodes.
use Rattle.mr_trio.specs.Levels.{Trio}
use Rattle.mr_trio.specs.declared.three.Three.{Three}

abbrev pub trio_of : Three → Trio
trio_of t = record {
  first = record { node = t.first.node; port = t.first.port };
  second = record { node = t.second.node; port = t.second.port };
  third = record { node = t.third.node; port = t.third.port };
}
