use Rattle.std.proofs.Common.{sym, ◌∙◌, ap}
use Rattle.std.specs.FinMap.{get}
use Rattle.mr_map.proofs.Padded.{is_long, is_short}
use Rattle.mr_map.proofs.Hashed.{long_found, short_found}
use Rattle.mr_map.proofs.tables.Tables.get.Goals as goal

pub returns-in-Some : goal.returns-in-Some
returns-in-Some g c =
    let found = is_short c.args.key.now c.in-Some.short (sym c.of.ensures.few ∙ c.in-Some.is) in
    c.get.ensures.value ∙ short_found c.self.inside.short c.self.inside.long c.self.invariant c.in-Some.short found.1 ∙ (λ i. get (c.self.view_is i) (found.0 i))

pub returns-in-None : goal.returns-in-None
returns-in-None g c =
    let k = c.args.key.now in
    c.get-in-None.ensures.value ∙ long_found c.self.inside.short c.self.inside.long c.self.invariant k (is_long k (sym c.of.ensures.few ∙ c.in-None.is)) ∙ ap (λ m. get m k) c.self.view_is
