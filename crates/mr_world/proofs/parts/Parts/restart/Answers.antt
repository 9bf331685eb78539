use Rattle.std.proofs.Common.{rules, ◌≡◌, ◌<◌, ◌++◌, ◌∷◌, [], ◌∙◌, false, length, not, ap, refl, subst}
use Rattle.std.specs.Prelude.{slice_set}
use Rattle.law_refinement.specs.State.{BookEntry, WorldState}
use Rattle.mr_world_parts.specs.AtNode.{is_spent, IsLoaded}
use Rattle.mr_world.specs.Restarting.{IsThere, Restarts}
use Rattle.mr_world.proofs.Restarts.{restarts_here, there_is}
use Rattle.mr_world.proofs.parts.Parts.restart.Goals as goal

pub returns-in_default : goal.returns-in_default
returns-in_default c =
    let w : WorldState = record { slots = c.self.inside.slots.items; links = c.self.inside.links.items; book = c.self.inside.book.items } in
    let fresh : is_spent c.self.inside.book.items c.args.restart.now.id ≡ false = search rules in
    let within : c.args.n < length c.self.inside.slots.items = search rules in
    subst (λ (z : WorldState). (is_spent z.book c.args.restart.now.id ≡ false) × IsThere z c.args.n × (z ≡ z)) c.self.view_is (fresh, there_is w c.args.n c.index.result.now within c.index.ensures, refl)

pub returns-in_default-begun_with : goal.returns-in_default-begun_with
returns-in_default-begun_with c =
    let w : WorldState = record { slots = c.self.inside.slots.items; links = c.self.inside.links.items; book = c.self.inside.book.items } in
    let fresh : is_spent c.self.inside.book.items c.args.restart.now.id ≡ false = search rules in
    let within : c.args.n < length c.self.inside.slots.items = search rules in
    subst (λ (z : WorldState). (is_spent z.book c.args.restart.now.id ≡ false) × IsThere z c.args.n × (z ≡ z)) c.self.view_is (fresh, there_is w c.args.n c.index.result.now within c.index.ensures, refl)

pub returns-then-is_err : goal.returns-then-is_err
returns-then-is_err c =
    let w : WorldState = record { slots = c.self.inside.slots.items; links = c.self.inside.links.items; book = c.self.inside.book.items } in
    let fresh : is_spent c.self.inside.book.items c.args.restart.now.id ≡ false = search rules in
    let within : c.args.n < length c.self.inside.slots.items = search rules in
    let book : c.push.new.self.items ≡ c.self.inside.book.items = search rules in (
      subst (λ (z : WorldState). is_spent z.book c.args.restart.now.id ≡ false) c.self.view_is fresh,
      subst (λ (z : WorldState). IsThere z c.args.n) c.self.view_is (there_is w c.args.n c.index.result.now within c.index.ensures),
      ap (λ z. record w { book = z }) book ∙ c.self.view_is,
    )

pub returns : goal.returns
returns c =
    let w : WorldState = record { slots = c.self.inside.slots.items; links = c.self.inside.links.items; book = c.self.inside.book.items } in
    let fresh : is_spent c.self.inside.book.items c.args.restart.now.id ≡ false = search rules in
    let within : c.args.n < length c.self.inside.slots.items = search rules in
    let loaded : IsLoaded c.args.restart.now.kept.now (not c.index.result.now.as_master) c.args.restart.now.config.port c.args.restart.now.config.backlog c.args.restart.now.id c.in-Ok.slot =
    subst (λ b. IsLoaded c.args.restart.now.kept.now (not b) c.args.restart.now.config.port c.args.restart.now.config.backlog c.args.restart.now.id c.in-Ok.slot) c.as_master-as_master.ensures c.in-Ok.ensures in
    let pushed : c.push.new.self.items ≡ c.self.inside.book.items ++ c.in-Ok-begun_with.entry ∷ [] = search rules in
    let entry : c.in-Ok-begun_with.entry ≡ record { id = c.args.restart.now.id; start = c.in-Ok.slot.file; texts = [] } = search rules in (
      subst (λ (z : WorldState). is_spent z.book c.args.restart.now.id ≡ false) c.self.view_is fresh,
      subst (λ (z : WorldState). Restarts z c.args.n c.args.restart.now.kept.now c.args.restart.now.id c.args.restart.now.config.port c.args.restart.now.config.backlog
          (record { slots = slice_set c.self.inside.slots.items c.args.n c.in-Ok.slot; links = c.shut_ends_in.new.links.items; book = c.push.new.self.items })) c.self.view_is
          (restarts_here w c.args.n c.index.result.now within c.index.ensures c.args.restart.now.kept.now c.args.restart.now.id c.args.restart.now.config.port c.args.restart.now.config.backlog c.in-Ok.slot c.shut_ends_in.new.links.items c.push.new.self.items
          loaded c.shut_ends_in.ensures (pushed ∙ ap (λ (z : BookEntry). c.self.inside.book.items ++ z ∷ []) entry)),
    )
