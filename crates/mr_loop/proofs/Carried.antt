-- What stays as outs are carried out.
use Rattle.std.proofs.Common.{◌≡◌, ◌++◌, ℕ, List, [], ◌∷◌, Bool, true, false, ◌||◌, Option, None, Some, refl, sym, ap, subst, ◌∙◌}
use Rattle.std.proofs.Math.Bool.{or-true}
use Rattle.mr_links.specs.declared.link_id.LinkId.{LinkId}
use Rattle.mr_node_output.specs.Address.{AddressState}
use Rattle.mr_node_output.specs.Outs.{OutState, OutsState, grow, append, replace, send, close, use_id, follow, halt, outs_of, grown_outs, appended_outs, replaced_outs, fed_outs, sent_outs, closing_outs, closed_outs, used_outs, followed_outs, halted_outs}
use Rattle.mr_node_spec.specs.State.{NodeState}
use Rattle.mr_node_spec.specs.LinkRows.{closed_at}
use Rattle.mr_loop.specs.Stage.{Stage, LoopState}
use Rattle.mr_loop.specs.Carrying.{Carries, Carried, Spilled, Torn}

-- what each out keeps, all keep
pub carried_by : (P : Stage → Type 0) → ((out : OutState) (s t : Stage) → Carries out s t → P s → P t) → (outs : List OutState) (s t : Stage) → Carried outs s t → P s → P t
carried_by P each [] s t same p = subst P (sym same) p
carried_by P each (out ∷ outs) s t c p = carried_by P each outs c.0 t c.2 (each out s c.0 c.1 p)

-- ---- the wire, and the node but for its ends
carries_wire : (out : OutState) (s t : Stage) → Carries out s t → t.wire ≡ s.wire
carries_wire (grow bytes) s t c = ap (λ (z : Stage). z.wire) c
carries_wire (append bytes) s t c = ap (λ (z : Stage). z.wire) c
carries_wire (replace bytes) s t c = c.wire
carries_wire (send link bytes) s t c = ap (λ (z : Stage). z.wire) c
carries_wire (close link) s t c = ap (λ (z : Stage). z.wire) c
carries_wire (use_id id) s t c = ap (λ (z : Stage). z.wire) c
carries_wire (follow address) s t c = ap (λ (z : Stage). z.wire) c
carries_wire halt s t c = ap (λ (z : Stage). z.wire) c

pub carried_wire : (outs : List OutState) (s t : Stage) → Carried outs s t → t.wire ≡ s.wire
carried_wire outs s t c = carried_by (λ (z : Stage). z.wire ≡ s.wire) (λ out a b h p. carries_wire out a b h ∙ p) outs s t c refl

carries_core : (out : OutState) (s t : Stage) → Carries out s t → t.node.core ≡ s.node.core
carries_core (grow bytes) s t c = ap (λ (z : Stage). z.node.core) c
carries_core (append bytes) s t c = ap (λ (z : Stage). z.node.core) c
carries_core (replace bytes) s t c = ap (λ (z : NodeState). z.core) c.node
carries_core (send link bytes) s t c = ap (λ (z : Stage). z.node.core) c
carries_core (close link) s t c = ap (λ (z : Stage). z.node.core) c
carries_core (use_id id) s t c = ap (λ (z : Stage). z.node.core) c
carries_core (follow address) s t c = ap (λ (z : Stage). z.node.core) c
carries_core halt s t c = ap (λ (z : Stage). z.node.core) c

pub carried_core : (outs : List OutState) (s t : Stage) → Carried outs s t → t.node.core ≡ s.node.core
carried_core outs s t c = carried_by (λ (z : Stage). z.node.core ≡ s.node.core) (λ out a b h p. carries_core out a b h ∙ p) outs s t c refl

pub spilled_wire : (outs : List OutState) (s t : Stage) → Spilled outs s t → t.wire ≡ s.wire
spilled_wire outs s t c = ap (λ (z : Stage). z.wire) c.lacks ∙ carried_wire c.done s c.before c.carried

pub torn_wire : (outs : List OutState) (s t : Stage) → Torn outs s t → t.wire ≡ s.wire
torn_wire outs s t c = c.wire ∙ carried_wire c.done s c.before c.carried

-- ---- the node's ends: each that goes is closed

-- what closing any link keeps is kept
carries_node : (P : NodeState → Type 0) → ((link : LinkId) (a : NodeState) → P a → P (closed_at link a)) → (out : OutState) (s t : Stage) → Carries out s t → P s.node → P t.node
carries_node P each (grow bytes) s t c p = subst P (sym (ap (λ (z : Stage). z.node) c)) p
carries_node P each (append bytes) s t c p = subst P (sym (ap (λ (z : Stage). z.node) c)) p
carries_node P each (replace bytes) s t c p = subst P (sym c.node) p
carries_node P each (send link bytes) s t c p = subst P (sym (ap (λ (z : Stage). z.node) c)) p
carries_node P each (close link) s t c p = subst P (sym (ap (λ (z : Stage). z.node) c)) (each link s.node p)
carries_node P each (use_id id) s t c p = subst P (sym (ap (λ (z : Stage). z.node) c)) p
carries_node P each (follow address) s t c p = subst P (sym (ap (λ (z : Stage). z.node) c)) p
carries_node P each halt s t c p = subst P (sym (ap (λ (z : Stage). z.node) c)) p

pub carried_node : (P : NodeState → Type 0) → ((link : LinkId) (a : NodeState) → P a → P (closed_at link a)) → (outs : List OutState) (s t : Stage) → Carried outs s t → P s.node → P t.node
carried_node P each outs s t c p = carried_by (λ (z : Stage). P z.node) (carries_node P each) outs s t c p

-- ---- whether the program is to end
abbrev pub halts : List OutState → Bool
halts [] = false
halts (grow bytes ∷ outs) = halts outs
halts (append bytes ∷ outs) = halts outs
halts (replace bytes ∷ outs) = halts outs
halts (send link bytes ∷ outs) = halts outs
halts (close link ∷ outs) = halts outs
halts (use_id id ∷ outs) = halts outs
halts (follow address ∷ outs) = halts outs
halts (halt ∷ outs) = true

pub carried_halts : (outs : List OutState) (s t : Stage) → Carried outs s t → t.own.halted ≡ (halts outs || s.own.halted)
carried_halts [] s t c = ap (λ (z : Stage). z.own.halted) c
carried_halts (grow bytes ∷ outs) s t c = carried_halts outs c.0 t c.2 ∙ ap (λ b. halts outs || b) (ap (λ (z : Stage). z.own.halted) c.1)
carried_halts (append bytes ∷ outs) s t c = carried_halts outs c.0 t c.2 ∙ ap (λ b. halts outs || b) (ap (λ (z : Stage). z.own.halted) c.1)
carried_halts (replace bytes ∷ outs) s t c = carried_halts outs c.0 t c.2 ∙ ap (λ b. halts outs || b) (ap (λ (z : LoopState). z.halted) c.1.own)
carried_halts (send link bytes ∷ outs) s t c = carried_halts outs c.0 t c.2 ∙ ap (λ b. halts outs || b) (ap (λ (z : Stage). z.own.halted) c.1)
carried_halts (close link ∷ outs) s t c = carried_halts outs c.0 t c.2 ∙ ap (λ b. halts outs || b) (ap (λ (z : Stage). z.own.halted) c.1)
carried_halts (use_id id ∷ outs) s t c = carried_halts outs c.0 t c.2 ∙ ap (λ b. halts outs || b) (ap (λ (z : Stage). z.own.halted) c.1)
carried_halts (follow address ∷ outs) s t c = carried_halts outs c.0 t c.2 ∙ ap (λ b. halts outs || b) (ap (λ (z : Stage). z.own.halted) c.1)
carried_halts (halt ∷ outs) s t c = carried_halts outs c.0 t c.2 ∙ (ap (λ b. halts outs || b) (ap (λ (z : Stage). z.own.halted) c.1) ∙ or-true (halts outs))

-- only the last kind of out ends it
halts_append : (xs ys : List OutState) → halts (xs ++ ys) ≡ (halts xs || halts ys)
halts_append [] ys = refl
halts_append (grow bytes ∷ xs) ys = halts_append xs ys
halts_append (append bytes ∷ xs) ys = halts_append xs ys
halts_append (replace bytes ∷ xs) ys = halts_append xs ys
halts_append (send link bytes ∷ xs) ys = halts_append xs ys
halts_append (close link ∷ xs) ys = halts_append xs ys
halts_append (use_id id ∷ xs) ys = halts_append xs ys
halts_append (follow address ∷ xs) ys = halts_append xs ys
halts_append (halt ∷ xs) ys = refl

halts_behind : (xs ys : List OutState) → halts xs ≡ false → halts (xs ++ ys) ≡ halts ys
halts_behind xs ys none = halts_append xs ys ∙ ap (λ b. b || halts ys) none

no_grown : (bytes : List ℕ) → halts (grown_outs bytes) ≡ false
no_grown [] = refl
no_grown (b ∷ bytes) = refl

no_appended : (bytes : List ℕ) → halts (appended_outs bytes) ≡ false
no_appended [] = refl
no_appended (b ∷ bytes) = refl

no_replaced : (bytes : Option (List ℕ)) → halts (replaced_outs bytes) ≡ false
no_replaced None = refl
no_replaced (Some bytes) = refl

no_fed : (bytes : List ℕ) (links : List LinkId) → halts (fed_outs bytes links) ≡ false
no_fed bytes [] = refl
no_fed bytes (l ∷ links) = no_fed bytes links

no_sent : (link : Option LinkId) (bytes : List ℕ) → halts (sent_outs link bytes) ≡ false
no_sent None bytes = refl
no_sent (Some l) [] = refl
no_sent (Some l) (b ∷ bytes) = refl

no_closing : (link : Option LinkId) (closes : Bool) → halts (closing_outs link closes) ≡ false
no_closing None closes = refl
no_closing (Some l) true = refl
no_closing (Some l) false = refl

no_closed : (links : List LinkId) → halts (closed_outs links) ≡ false
no_closed [] = refl
no_closed (l ∷ links) = no_closed links

no_used : (id : Option (List ℕ)) → halts (used_outs id) ≡ false
no_used None = refl
no_used (Some id) = refl

no_followed : (address : Option AddressState) → halts (followed_outs address) ≡ false
no_followed None = refl
no_followed (Some address) = refl

halts_last : (b : Bool) → halts (halted_outs b) ≡ b
halts_last true = refl
halts_last false = refl

pub outs_halt : (o : OutsState) → halts (outs_of o) ≡ o.halts
outs_halt o =
    halts_behind (grown_outs o.grown) _ (no_grown o.grown)
    ∙ (halts_behind (appended_outs o.appended) _ (no_appended o.appended)
    ∙ (halts_behind (replaced_outs o.replaced) _ (no_replaced o.replaced)
    ∙ (halts_behind (fed_outs o.grown o.fed) _ (no_fed o.grown o.fed)
    ∙ (halts_behind (sent_outs o.link o.reply) _ (no_sent o.link o.reply)
    ∙ (halts_behind (closing_outs o.link o.closes) _ (no_closing o.link o.closes)
    ∙ (halts_behind (closed_outs o.closed) _ (no_closed o.closed)
    ∙ (halts_behind (used_outs o.used) _ (no_used o.used)
    ∙ (halts_behind (followed_outs o.follows) _ (no_followed o.follows)
    ∙ halts_last o.halts))))))))
