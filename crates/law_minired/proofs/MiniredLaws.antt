-- The laws of minired's language.
use Rattle.std.proofs.lemmas.Slice.Eq.{bytes_eq-Decides}
use Rattle.law_protocol.specs.Language.{Laws}
use Rattle.law_minired.specs.Minired.{minired}
use Rattle.law_minired.proofs.Texts.{text_cut, text_some, loads_cut, loads_some}
use Rattle.law_minired.proofs.Said.{says_cut, says_some}
use Rattle.law_minired.proofs.Asked.{asks_cut, asks_some, doomed_cut, doomed_some}

pub minired_laws : Laws minired
minired_laws = record {
  same_decides = bytes_eq-Decides;
  text_cut = text_cut;
  text_some = text_some;
  says_cut = says_cut;
  says_some = says_some;
  asks_cut = asks_cut;
  asks_some = asks_some;
  loads_cut = loads_cut;
  loads_some = loads_some;
  doomed_cut = doomed_cut;
  doomed_some = doomed_some;
}
