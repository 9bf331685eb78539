-- Words that spell a command are read as it.
use Rattle.std.proofs.Common.{ℕ, ◌≡◌, List, [], ◌∷◌, sym, ◌∙◌, ap}
use Rattle.std.specs.Prelude.{Ok}
use Rattle.mr_arguments.proofs.ReadLemmas.{name_is}
use Rattle.mr_arguments.specs.declared.name.Name.{Name}
use Rattle.mr_ask.specs.Askable.{IsAskable}
use Rattle.mr_ask.specs.Asks.{asked, asked_by, reading}
use Rattle.mr_ask.specs.Spelled.{Spells, SpellsNamed}
use Rattle.mr_ask.proofs.CollReadLemmas.{hash_read, list_read, server_read, set_read, zset_read}
use Rattle.mr_ask.proofs.KeyReadLemmas.{key_read}
use Rattle.mr_ask.proofs.NodeReadLemmas.{node_read}
use Rattle.mr_ask.proofs.TextReadLemmas.{text_read}
use Rattle.mr_ask.specs.declared.ask.Ask.{Ask}
use Rattle.mr_ask.specs.declared.ask.Ask.TheVariants as ask

named_read : (n : Name) (ws : List (List ℕ)) (a : Ask) → IsAskable a → SpellsNamed n ws a → reading n ws ≡ Ok a
named_read n ws (ask.Texts a) h s = ap (λ x. reading x ws) (sym s.name_is) ∙ text_read ws a h s.parts
named_read n ws (ask.Keys a) h s = ap (λ x. reading x ws) (sym s.name_is) ∙ key_read ws a h s.parts
named_read n ws (ask.Hashes a) h s = ap (λ x. reading x ws) (sym s.name_is) ∙ hash_read ws a h s.parts
named_read n ws (ask.Lists a) h s = ap (λ x. reading x ws) (sym s.name_is) ∙ list_read ws a h s.parts
named_read n ws (ask.Sets a) h s = ap (λ x. reading x ws) (sym s.name_is) ∙ set_read ws a h s.parts
named_read n ws (ask.SortedSets a) h s = zset_read n ws a h s
named_read n ws (ask.Server a) h s = ap (λ x. reading x ws) (sym s.name_is) ∙ server_read ws a s.parts
named_read n ws (ask.Node a) h s = node_read n ws a h s

pub spelled_read : (ws : List (List ℕ)) (a : Ask) → IsAskable a → Spells ws a → asked ws ≡ Ok a
spelled_read [] a h s = absurd s
spelled_read (w ∷ ws) a h s = ap (λ o. asked_by o ws) (name_is w s.0 s.1.0) ∙ named_read s.0 ws a h s.1.1
