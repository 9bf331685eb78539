use Rattle.std.proofs.Common.{sym, ◌∙◌, ap}
use Rattle.std.specs.Prelude.{option_map}
use Rattle.std.specs.FinMap.{get, remove}
use Rattle.mr_map.proofs.Padded.{is_long, is_short}
use Rattle.mr_map.proofs.Hashed.{long_found, long_out, parted_long_out, parted_short_out, short_found, short_out, tied}
use Rattle.mr_map.proofs.tables.Tables.remove_entry.Goals as goal

-- a short key

pub returns-in_err-held-in-Some-clause-before : goal.returns-in_err-held-in-Some-clause-before
returns-in_err-held-in-Some-clause-before g c =
    let found = is_short c.args.key.now c.in-Some.short (sym c.of.ensures.few ∙ c.in-Some.is) in
    ap (option_map (λ e. e.1)) c.from_residual.ensures ∙ ap (option_map (λ e. e.1)) (sym c.in_err-held-in-Some.was) ∙ c.remove_entry.ensures.value ∙ short_found c.self.inside.short c.self.inside.long c.self.invariant c.in-Some.short found.1 ∙ (λ i. get (c.self.view_is i) (found.0 i))

pub returns-in_err-held-in-Some-clause-removed : goal.returns-in_err-held-in-Some-clause-removed
returns-in_err-held-in-Some-clause-removed g c =
    let found = is_short c.args.key.now c.in-Some.short (sym c.of.ensures.few ∙ c.in-Some.is) in
    short_out c.self.inside.short c.self.inside.long c.self.invariant c.in-Some.short found.1 c.remove_entry.new.self c.remove_entry.ensures.updates ∙ (λ i. remove (c.self.view_is i) (found.0 i))

pub invariant_of-self-in-Some : goal.invariant_of-self-in-Some
invariant_of-self-in-Some g c =
    let found = is_short c.args.key.now c.in-Some.short (sym c.of.ensures.few ∙ c.in-Some.is) in
    parted_short_out c.self.inside.short c.self.inside.long c.self.invariant c.in-Some.short found.1 c.remove_entry.new.self c.remove_entry.ensures.updates

pub returns-in_ok-held-in-Some-clause-before : goal.returns-in_ok-held-in-Some-clause-before
returns-in_ok-held-in-Some-clause-before g c =
    let found = is_short c.args.key.now c.in-Some.short (sym c.of.ensures.few ∙ c.in-Some.is) in
    c.in_ok-held-in-Some.ensures.value ∙ short_found c.self.inside.short c.self.inside.long c.self.invariant c.in-Some.short found.1 ∙ (λ i. get (c.self.view_is i) (found.0 i))

pub returns-in_ok-held-in-Some-clause-key : goal.returns-in_ok-held-in-Some-clause-key
returns-in_ok-held-in-Some-clause-key g c =
    let found = is_short c.args.key.now c.in-Some.short (sym c.of.ensures.few ∙ c.in-Some.is) in
    sym (tied c.in-Some.short c.in_ok-held-in-Some.held c.in_ok-held-in-Some.ensures.same_key) ∙ found.0

pub returns-in_ok-held-in-Some-clause-removed : goal.returns-in_ok-held-in-Some-clause-removed
returns-in_ok-held-in-Some-clause-removed g c =
    let found = is_short c.args.key.now c.in-Some.short (sym c.of.ensures.few ∙ c.in-Some.is) in
    short_out c.self.inside.short c.self.inside.long c.self.invariant c.in-Some.short found.1 c.remove_entry.new.self c.remove_entry.ensures.updates ∙ (λ i. remove (c.self.view_is i) (found.0 i))

-- a longer key

pub returns-in_err-held-in-None-clause-before : goal.returns-in_err-held-in-None-clause-before
returns-in_err-held-in-None-clause-before g c =
    let k = c.args.key.now in
    ap (option_map (λ e. e.1)) c.from_residual-in_err-held-in-None.ensures ∙ ap (option_map (λ e. e.1)) (sym c.in_err-held-in-None.was) ∙ c.remove_entry-in-None.ensures.value ∙ long_found c.self.inside.short c.self.inside.long c.self.invariant k (is_long k (sym c.of.ensures.few ∙ c.in-None.is)) ∙ ap (λ m. get m k) c.self.view_is

pub returns-in_err-held-in-None-clause-removed : goal.returns-in_err-held-in-None-clause-removed
returns-in_err-held-in-None-clause-removed g c =
    let k = c.args.key.now in
    long_out c.self.inside.short c.self.inside.long c.self.invariant k (is_long k (sym c.of.ensures.few ∙ c.in-None.is)) c.remove_entry-in-None.new.self c.remove_entry-in-None.ensures.updates ∙ ap (λ m. remove m k) c.self.view_is

pub invariant_of-self-in-None : goal.invariant_of-self-in-None
invariant_of-self-in-None g c =
    let k = c.args.key.now in
    parted_long_out c.self.inside.short c.self.inside.long c.self.invariant k (is_long k (sym c.of.ensures.few ∙ c.in-None.is)) c.remove_entry-in-None.new.self c.remove_entry-in-None.ensures.updates

pub returns-in_ok-held-in-None-clause-before : goal.returns-in_ok-held-in-None-clause-before
returns-in_ok-held-in-None-clause-before g c =
    let k = c.args.key.now in
    c.in_ok-held-in-None.ensures.value ∙ long_found c.self.inside.short c.self.inside.long c.self.invariant k (is_long k (sym c.of.ensures.few ∙ c.in-None.is)) ∙ ap (λ m. get m k) c.self.view_is

pub returns-in_ok-held-in-None-clause-removed : goal.returns-in_ok-held-in-None-clause-removed
returns-in_ok-held-in-None-clause-removed g c =
    let k = c.args.key.now in
    long_out c.self.inside.short c.self.inside.long c.self.invariant k (is_long k (sym c.of.ensures.few ∙ c.in-None.is)) c.remove_entry-in-None.new.self c.remove_entry-in-None.ensures.updates ∙ ap (λ m. remove m k) c.self.view_is
