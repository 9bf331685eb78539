-- What becomes of the file, and of what waits for it, as the outs of a call are carried out.
use Rattle.std.proofs.Common.{◌≡◌, ◌++◌, ◌⊎◌, inl, inr, ℕ, List, [], ◌∷◌, Bool, true, false, Option, None, Some, append-nil, refl, sym, ap, subst, ◌∙◌}
use Rattle.mr_links.specs.declared.link_id.LinkId.{LinkId}
use Rattle.mr_node_output.specs.Address.{AddressState}
use Rattle.mr_node_output.specs.Outs.{OutState, OutsState, grow, append, replace, send, close, use_id, follow, halt, outs_of}
use Rattle.mr_node_output.specs.Outs.{grown_outs, appended_outs, replaced_outs, fed_outs, sent_outs, closing_outs, closed_outs, used_outs, followed_outs, halted_outs, role_outs, reply_outs}
use Rattle.mr_loop.specs.Stage.{Stage, LoopState}
use Rattle.mr_loop.specs.Carrying.{Carried, IsRewritten}
use Rattle.mr_loop.proofs.Sending.{some_at}

-- what the file is behind some outs, and what waits for it
pub record Written : Type 0 where
  pub file : List ℕ
  pub batch : List ℕ

abbrev pub by_outs : List OutState → Written → Written
by_outs [] w = w
by_outs (grow bytes ∷ outs) w = by_outs outs w
by_outs (append bytes ∷ outs) w = by_outs outs (record w { batch = w.batch ++ bytes })
by_outs (replace bytes ∷ outs) w = by_outs outs (record { file = bytes; batch = [] })
by_outs (send x bytes ∷ outs) w = by_outs outs w
by_outs (close x ∷ outs) w = by_outs outs w
by_outs (use_id id ∷ outs) w = by_outs outs w
by_outs (follow address ∷ outs) w = by_outs outs w
by_outs (halt ∷ outs) w = by_outs outs w

-- ---- a stage has it
pub record Has (s : Stage) (w : Written) : Type 0 where
  pub told : s.told ≡ Some w.file
  pub batch : s.own.batch ≡ w.batch

has_same : (s t : Stage) (w : Written) → t.told ≡ s.told → t.own.batch ≡ s.own.batch → Has s w → Has t w
has_same s t w told batch h = record { told = told ∙ h.told; batch = batch ∙ h.batch }

has_rewritten : (s t : Stage) (w : Written) (bytes : List ℕ) → IsRewritten bytes s t → Has s w → Has t (record { file = bytes; batch = [] })
has_rewritten s t w bytes r h = record { told = some_at (λ _. t.told ≡ Some bytes) s.told w.file h.told r.written; batch = ap (λ (z : LoopState). z.batch) r.own }

pub carried_has : (outs : List OutState) (s t : Stage) (w : Written) → Carried outs s t → Has s w → Has t (by_outs outs w)
carried_has [] s t w c h = subst (λ (z : Stage). Has z w) (sym c) h
carried_has (grow bytes ∷ outs) s t w c h = carried_has outs c.0 t w c.2 (subst (λ (z : Stage). Has z w) (sym c.1) h)
carried_has (append bytes ∷ outs) s t w c h =
    carried_has outs c.0 t (record w { batch = w.batch ++ bytes }) c.2 (record { told = ap (λ (z : Stage). z.told) c.1 ∙ h.told; batch = ap (λ (z : Stage). z.own.batch) c.1 ∙ ap (λ (z : List ℕ). z ++ bytes) h.batch })
carried_has (replace bytes ∷ outs) s t w c h = carried_has outs c.0 t (record { file = bytes; batch = [] }) c.2 (has_rewritten s c.0 w bytes c.1 h)
carried_has (send x bytes ∷ outs) s t w c h = carried_has outs c.0 t w c.2 (has_same s c.0 w (ap (λ (z : Stage). z.told) c.1) (ap (λ (z : Stage). z.own.batch) c.1) h)
carried_has (close x ∷ outs) s t w c h = carried_has outs c.0 t w c.2 (has_same s c.0 w (ap (λ (z : Stage). z.told) c.1) (ap (λ (z : Stage). z.own.batch) c.1) h)
carried_has (use_id id ∷ outs) s t w c h = carried_has outs c.0 t w c.2 (subst (λ (z : Stage). Has z w) (sym c.1) h)
carried_has (follow address ∷ outs) s t w c h = carried_has outs c.0 t w c.2 (subst (λ (z : Stage). Has z w) (sym c.1) h)
carried_has (halt ∷ outs) s t w c h = carried_has outs c.0 t w c.2 (has_same s c.0 w (ap (λ (z : Stage). z.told) c.1) (ap (λ (z : Stage). z.own.batch) c.1) h)

-- ---- behind all outs of a call
by_two : (xs ys : List OutState) (w : Written) → by_outs (xs ++ ys) w ≡ by_outs ys (by_outs xs w)
by_two [] ys w = refl
by_two (grow bytes ∷ xs) ys w = by_two xs ys w
by_two (append bytes ∷ xs) ys w = by_two xs ys (record w { batch = w.batch ++ bytes })
by_two (replace bytes ∷ xs) ys w = by_two xs ys (record { file = bytes; batch = [] })
by_two (send x bytes ∷ xs) ys w = by_two xs ys w
by_two (close x ∷ xs) ys w = by_two xs ys w
by_two (use_id id ∷ xs) ys w = by_two xs ys w
by_two (follow address ∷ xs) ys w = by_two xs ys w
by_two (halt ∷ xs) ys w = by_two xs ys w

by_grown : (bytes : List ℕ) (w : Written) → by_outs (grown_outs bytes) w ≡ w
by_grown [] w = refl
by_grown (b ∷ bytes) w = refl

by_appended : (bytes : List ℕ) (w : Written) → by_outs (appended_outs bytes) w ≡ record w { batch = w.batch ++ bytes }
by_appended [] w = ap (λ (z : List ℕ). record w { batch = z }) (sym (append-nil w.batch))
by_appended (b ∷ bytes) w = refl

by_fed : (bytes : List ℕ) (links : List LinkId) (w : Written) → by_outs (fed_outs bytes links) w ≡ w
by_fed bytes [] w = refl
by_fed bytes (link ∷ links) w = by_fed bytes links w

by_sent : (link : Option LinkId) (bytes : List ℕ) (w : Written) → by_outs (sent_outs link bytes) w ≡ w
by_sent None bytes w = refl
by_sent (Some link) [] w = refl
by_sent (Some link) (b ∷ bytes) w = refl

by_closing : (link : Option LinkId) (closes : Bool) (w : Written) → by_outs (closing_outs link closes) w ≡ w
by_closing None closes w = refl
by_closing (Some link) true w = refl
by_closing (Some link) false w = refl

by_closed : (links : List LinkId) (w : Written) → by_outs (closed_outs links) w ≡ w
by_closed [] w = refl
by_closed (link ∷ links) w = by_closed links w

by_used : (used : Option (List ℕ)) (w : Written) → by_outs (used_outs used) w ≡ w
by_used None w = refl
by_used (Some id) w = refl

by_followed : (follows : Option AddressState) (w : Written) → by_outs (followed_outs follows) w ≡ w
by_followed None w = refl
by_followed (Some address) w = refl

by_halted : (halts : Bool) (w : Written) → by_outs (halted_outs halts) w ≡ w
by_halted true w = refl
by_halted false w = refl

by_roles : (o : OutsState) (w : Written) → by_outs (role_outs o) w ≡ w
by_roles o w =
    by_two (used_outs o.used) (followed_outs o.follows ++ halted_outs o.halts) w ∙ (by_two (followed_outs o.follows) (halted_outs o.halts) (by_outs (used_outs o.used) w)
    ∙ (by_halted o.halts (by_outs (followed_outs o.follows) (by_outs (used_outs o.used) w)) ∙ (by_followed o.follows (by_outs (used_outs o.used) w) ∙ by_used o.used w)))

by_reply : (o : OutsState) (w : Written) → by_outs (reply_outs o) w ≡ w
by_reply o w =
    by_two (sent_outs o.link o.reply) (closing_outs o.link o.closes ++ (closed_outs o.closed ++ role_outs o)) w
    ∙ (ap (by_outs (closing_outs o.link o.closes ++ (closed_outs o.closed ++ role_outs o))) (by_sent o.link o.reply w)
    ∙ (by_two (closing_outs o.link o.closes) (closed_outs o.closed ++ role_outs o) w ∙ (ap (by_outs (closed_outs o.closed ++ role_outs o)) (by_closing o.link o.closes w)
    ∙ (by_two (closed_outs o.closed) (role_outs o) w ∙ (ap (by_outs (role_outs o)) (by_closed o.closed w) ∙ by_roles o w)))))

-- what was appended waits, and then the file may be replaced
pub by_all : (o : OutsState) (w : Written) → by_outs (outs_of o) w ≡ by_outs (replaced_outs o.replaced) (record w { batch = w.batch ++ o.appended })
by_all o w =
    let behind : List OutState = fed_outs o.grown o.fed ++ reply_outs o in
    let now : Written = record w { batch = w.batch ++ o.appended } in
    let last : Written = by_outs (replaced_outs o.replaced) now in
    by_two (grown_outs o.grown) (appended_outs o.appended ++ (replaced_outs o.replaced ++ behind)) w
    ∙ (ap (by_outs (appended_outs o.appended ++ (replaced_outs o.replaced ++ behind))) (by_grown o.grown w)
    ∙ (by_two (appended_outs o.appended) (replaced_outs o.replaced ++ behind) w ∙ (ap (by_outs (replaced_outs o.replaced ++ behind)) (by_appended o.appended w)
    ∙ (by_two (replaced_outs o.replaced) behind now ∙ (by_two (fed_outs o.grown o.fed) (reply_outs o) last ∙ (ap (by_outs (reply_outs o)) (by_fed o.grown o.fed last) ∙ by_reply o last))))))

-- ---- behind some of them
-- each out that replaces the file has these bytes for it
abbrev pub ReplaceBy : Option (List ℕ) → List OutState → Type 0
ReplaceBy o [] = Unit {0}
ReplaceBy o (grow bytes ∷ outs) = ReplaceBy o outs
ReplaceBy o (append bytes ∷ outs) = ReplaceBy o outs
ReplaceBy o (replace bytes ∷ outs) = (o ≡ Some bytes) × ReplaceBy o outs
ReplaceBy o (send x bytes ∷ outs) = ReplaceBy o outs
ReplaceBy o (close x ∷ outs) = ReplaceBy o outs
ReplaceBy o (use_id id ∷ outs) = ReplaceBy o outs
ReplaceBy o (follow address ∷ outs) = ReplaceBy o outs
ReplaceBy o (halt ∷ outs) = ReplaceBy o outs

join : (o : Option (List ℕ)) (xs ys : List OutState) → ReplaceBy o xs → ReplaceBy o ys → ReplaceBy o (xs ++ ys)
join o [] ys f g = g
join o (grow bytes ∷ xs) ys f g = join o xs ys f g
join o (append bytes ∷ xs) ys f g = join o xs ys f g
join o (replace bytes ∷ xs) ys f g = (f.0, join o xs ys f.1 g)
join o (send x bytes ∷ xs) ys f g = join o xs ys f g
join o (close x ∷ xs) ys f g = join o xs ys f g
join o (use_id id ∷ xs) ys f g = join o xs ys f g
join o (follow address ∷ xs) ys f g = join o xs ys f g
join o (halt ∷ xs) ys f g = join o xs ys f g

pub cut : (o : Option (List ℕ)) (xs ys : List OutState) → ReplaceBy o (xs ++ ys) → ReplaceBy o xs × ReplaceBy o ys
cut o [] ys f = (tt, f)
cut o (grow bytes ∷ xs) ys f = cut o xs ys f
cut o (append bytes ∷ xs) ys f = cut o xs ys f
cut o (replace bytes ∷ xs) ys f = let both = cut o xs ys f.1 in ((f.0, both.0), both.1)
cut o (send x bytes ∷ xs) ys f = cut o xs ys f
cut o (close x ∷ xs) ys f = cut o xs ys f
cut o (use_id id ∷ xs) ys f = cut o xs ys f
cut o (follow address ∷ xs) ys f = cut o xs ys f
cut o (halt ∷ xs) ys f = cut o xs ys f

of_grown : (o : Option (List ℕ)) (bytes : List ℕ) → ReplaceBy o (grown_outs bytes)
of_grown o [] = tt
of_grown o (b ∷ bytes) = tt

of_appended : (o : Option (List ℕ)) (bytes : List ℕ) → ReplaceBy o (appended_outs bytes)
of_appended o [] = tt
of_appended o (b ∷ bytes) = tt

of_replaced : (o : Option (List ℕ)) → ReplaceBy o (replaced_outs o)
of_replaced None = tt
of_replaced (Some bytes) = (refl, tt)

of_fed : (o : Option (List ℕ)) (bytes : List ℕ) (links : List LinkId) → ReplaceBy o (fed_outs bytes links)
of_fed o bytes [] = tt
of_fed o bytes (link ∷ links) = of_fed o bytes links

of_sent : (o : Option (List ℕ)) (link : Option LinkId) (bytes : List ℕ) → ReplaceBy o (sent_outs link bytes)
of_sent o None bytes = tt
of_sent o (Some link) [] = tt
of_sent o (Some link) (b ∷ bytes) = tt

of_closing : (o : Option (List ℕ)) (link : Option LinkId) (closes : Bool) → ReplaceBy o (closing_outs link closes)
of_closing o None closes = tt
of_closing o (Some link) true = tt
of_closing o (Some link) false = tt

of_closed : (o : Option (List ℕ)) (links : List LinkId) → ReplaceBy o (closed_outs links)
of_closed o [] = tt
of_closed o (link ∷ links) = of_closed o links

of_used : (o used : Option (List ℕ)) → ReplaceBy o (used_outs used)
of_used o None = tt
of_used o (Some id) = tt

of_followed : (o : Option (List ℕ)) (follows : Option AddressState) → ReplaceBy o (followed_outs follows)
of_followed o None = tt
of_followed o (Some address) = tt

of_halted : (o : Option (List ℕ)) (halts : Bool) → ReplaceBy o (halted_outs halts)
of_halted o true = tt
of_halted o false = tt

pub of_all : (o : OutsState) → ReplaceBy o.replaced (outs_of o)
of_all o =
    let r : Option (List ℕ) = o.replaced in
    let roles = join r (used_outs o.used) (followed_outs o.follows ++ halted_outs o.halts) (of_used r o.used) (join r (followed_outs o.follows) (halted_outs o.halts) (of_followed r o.follows) (of_halted r o.halts)) in
    let closed = join r (closed_outs o.closed) (role_outs o) (of_closed r o.closed) roles in
    let closing = join r (closing_outs o.link o.closes) (closed_outs o.closed ++ role_outs o) (of_closing r o.link o.closes) closed in
    let reply = join r (sent_outs o.link o.reply) (closing_outs o.link o.closes ++ (closed_outs o.closed ++ role_outs o)) (of_sent r o.link o.reply) closing in
    join r (grown_outs o.grown) _ (of_grown r o.grown) (join r (appended_outs o.appended) _ (of_appended r o.appended) (join r (replaced_outs r) _ (of_replaced r) (join r (fed_outs o.grown o.fed) (reply_outs o) (of_fed r o.grown o.fed) reply)))

-- the file is the old one, or these bytes
pub old_or_these : (o : Option (List ℕ)) (outs : List OutState) (w : Written) → ReplaceBy o outs → ((by_outs outs w).file ≡ w.file) ⊎ (o ≡ Some (by_outs outs w).file)
old_or_these o [] w f = inl refl
old_or_these o (grow bytes ∷ outs) w f = old_or_these o outs w f
old_or_these o (append bytes ∷ outs) w f = old_or_these o outs (record w { batch = w.batch ++ bytes }) f
old_or_these o (replace bytes ∷ outs) w f = elim (old_or_these o outs (record { file = bytes; batch = [] }) f.1) [
  | inl same ↦ inr (f.0 ∙ ap Some (sym same))
  | inr these ↦ inr these
]
old_or_these o (send x bytes ∷ outs) w f = old_or_these o outs w f
old_or_these o (close x ∷ outs) w f = old_or_these o outs w f
old_or_these o (use_id id ∷ outs) w f = old_or_these o outs w f
old_or_these o (follow address ∷ outs) w f = old_or_these o outs w f
old_or_these o (halt ∷ outs) w f = old_or_these o outs w f
