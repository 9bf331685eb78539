-- What outs that are carried out make of the connections of a loop, and of the node's ends of their links.
use Rattle.std.proofs.Common.{◌≡◌, ◌≢◌, ◌++◌, ◌||◌, ℕ, List, [], ◌∷◌, Bool, true, false, cond, Option, None, Some, append-nil, append_assoc, refl, sym, ap, ◌∙◌, if◌then◌else◌}
use Rattle.std.specs.Ordering.{eq_by_cmp}
use Rattle.std.specs.Option.{option_map}
use Rattle.std.proofs.Math.Bool.{or-true}
use Rattle.mr_links.specs.LinkId.{id_cmp}
use Rattle.mr_links.specs.declared.link_id.LinkId.{LinkId}
use Rattle.mr_node_links.specs.Replicas.{is_named}
use Rattle.mr_node_links.proofs.Naming.{AreOnce}
use Rattle.mr_node_output.specs.Address.{AddressState}
use Rattle.mr_node_output.specs.Outs.{OutState, OutsState, append, appended_outs, close, closed_outs, closing_outs, fed_outs, follow, followed_outs, grow, grown_outs, halt, halted_outs, outs_of, replace, replaced_outs, role_outs, send, sent_outs, use_id, used_outs}
use Rattle.mr_connections.specs.State.{ConnectionState, left, pushed, where_linked}
use Rattle.mr_connections.proofs.Each.{get-with_each}
use Rattle.mr_loop.specs.Stage.{LoopState, Stage, connection_at}
use Rattle.mr_loop.specs.Carrying.{Carried}
use Rattle.mr_loop.specs.Sent.{parts, sends}
use Rattle.mr_loop.proofs.Waiting.{is_one, itself}

-- ---- one connection, as outs are carried out
abbrev pub carried_to : List OutState → ConnectionState → ConnectionState
carried_to [] c = c
carried_to (grow bytes ∷ outs) c = carried_to outs c
carried_to (append bytes ∷ outs) c = carried_to outs c
carried_to (replace bytes ∷ outs) c = carried_to outs c
carried_to (send link bytes ∷ outs) c = carried_to outs (where_linked link (pushed bytes) c)
carried_to (close link ∷ outs) c = carried_to outs (where_linked link left c)
carried_to (use_id id ∷ outs) c = carried_to outs c
carried_to (follow address ∷ outs) c = carried_to outs c
carried_to (halt ∷ outs) c = carried_to outs c

mapped_same : (o : Option ConnectionState) → o ≡ option_map (λ c. c) o
mapped_same None = refl
mapped_same (Some c) = refl

mapped_twice : (f g : ConnectionState → ConnectionState) (o : Option ConnectionState) → option_map f (option_map g o) ≡ option_map (λ c. f (g c)) o
mapped_twice f g None = refl
mapped_twice f g (Some c) = refl

-- where an out makes no connection another
module _ (k : LinkId) (outs : List OutState) (s m t : Stage) (rest : connection_at t.own k ≡ option_map (carried_to outs) (connection_at m.own k)) where
  by_same : connection_at m.own k ≡ connection_at s.own k → connection_at t.own k ≡ option_map (carried_to outs) (connection_at s.own k)
  by_same same = rest ∙ ap (option_map (carried_to outs)) same

  by_each : (f : ConnectionState → ConnectionState) → connection_at m.own k ≡ option_map f (connection_at s.own k)
      → connection_at t.own k ≡ option_map (λ c. carried_to outs (f c)) (connection_at s.own k)
  by_each f each = rest ∙ (ap (option_map (carried_to outs)) each ∙ mapped_twice (carried_to outs) f (connection_at s.own k))

pub carried_at : (outs : List OutState) (s t : Stage) → Carried outs s t → (socket : LinkId)
    → connection_at t.own socket ≡ option_map (carried_to outs) (connection_at s.own socket)
carried_at [] s t h k = ap (λ (z : Stage). connection_at z.own k) h ∙ mapped_same (connection_at s.own k)
carried_at (grow bytes ∷ outs) s t h k = by_same k outs s h.0 t (carried_at outs h.0 t h.2 k) (ap (λ (z : Stage). connection_at z.own k) h.1)
carried_at (append bytes ∷ outs) s t h k = by_same k outs s h.0 t (carried_at outs h.0 t h.2 k) (ap (λ (z : Stage). connection_at z.own k) h.1)
carried_at (replace bytes ∷ outs) s t h k = by_same k outs s h.0 t (carried_at outs h.0 t h.2 k) (ap (λ (z : LoopState). connection_at z k) h.1.own)
carried_at (send x bytes ∷ outs) s t h k = by_each k outs s h.0 t (carried_at outs h.0 t h.2 k) (where_linked x (pushed bytes))
    (ap (λ (z : Stage). connection_at z.own k) h.1 ∙ get-with_each (where_linked x (pushed bytes)) s.own.connections k)
carried_at (close x ∷ outs) s t h k = by_each k outs s h.0 t (carried_at outs h.0 t h.2 k) (where_linked x left)
    (ap (λ (z : Stage). connection_at z.own k) h.1 ∙ get-with_each (where_linked x left) s.own.connections k)
carried_at (use_id id ∷ outs) s t h k = by_same k outs s h.0 t (carried_at outs h.0 t h.2 k) (ap (λ (z : Stage). connection_at z.own k) h.1)
carried_at (follow address ∷ outs) s t h k = by_same k outs s h.0 t (carried_at outs h.0 t h.2 k) (ap (λ (z : Stage). connection_at z.own k) h.1)
carried_at (halt ∷ outs) s t h k = by_same k outs s h.0 t (carried_at outs h.0 t h.2 k) (ap (λ (z : Stage). connection_at z.own k) h.1)

-- what is there behind them was there before
pub carried_was : (outs : List OutState) (s t : Stage) → Carried outs s t → (socket : LinkId) (d : ConnectionState)
    → connection_at t.own socket ≡ Some d
    → (c : ConnectionState) × (connection_at s.own socket ≡ Some c) × (d ≡ carried_to outs c)
carried_was outs s t h k d there = was (connection_at s.own k) refl (sym (carried_at outs s t h k) ∙ there) where
  was : (o : Option ConnectionState) → connection_at s.own k ≡ o → option_map (carried_to outs) o ≡ Some d
      → (c : ConnectionState) × (connection_at s.own k ≡ Some c) × (d ≡ carried_to outs c)
  was None e is = absurd (cc)
  was (Some c) e is = let same : d ≡ carried_to outs c = cc in (c, e, same)

-- ---- by its link
abbrev pub held_as : Option LinkId → List ℕ → ConnectionState
held_as link waiting = record { link = link; waiting = waiting }

-- one whose end the node has closed gets nothing more
pub unlinked_to : (outs : List OutState) (w : List ℕ) → carried_to outs (held_as None w) ≡ held_as None w
unlinked_to [] w = refl
unlinked_to (grow bytes ∷ outs) w = unlinked_to outs w
unlinked_to (append bytes ∷ outs) w = unlinked_to outs w
unlinked_to (replace bytes ∷ outs) w = unlinked_to outs w
unlinked_to (send x bytes ∷ outs) w = unlinked_to outs w
unlinked_to (close x ∷ outs) w = unlinked_to outs w
unlinked_to (use_id id ∷ outs) w = unlinked_to outs w
unlinked_to (follow address ∷ outs) w = unlinked_to outs w
unlinked_to (halt ∷ outs) w = unlinked_to outs w

pub carried_none : (outs : List OutState) (c : ConnectionState) → c.link ≡ None → carried_to outs c ≡ c
carried_none outs c none =
    let whole : c ≡ held_as None c.waiting = ap (λ o. held_as o c.waiting) none in
    ap (carried_to outs) whole ∙ (unlinked_to outs c.waiting ∙ sym whole)

linked_to : (l : LinkId) (outs : List OutState) (w : List ℕ)
    → carried_to outs (held_as (Some l) w) ≡ held_as (if parts l outs then None else Some l) (w ++ sends l outs)
linked_to l [] w = ap (held_as (Some l)) (sym (append-nil w))
linked_to l (grow bytes ∷ outs) w = linked_to l outs w
linked_to l (append bytes ∷ outs) w = linked_to l outs w
linked_to l (replace bytes ∷ outs) w = linked_to l outs w
linked_to l (send x bytes ∷ outs) w = elim (eq_by_cmp id_cmp l x) as (λ v. carried_to outs (cond v (held_as (Some l) (w ++ bytes)) (held_as (Some l) w))
    ≡ held_as (if parts l outs then None else Some l) (w ++ ((if v then bytes else []) ++ sends l outs))) [
      | true ↦ linked_to l outs (w ++ bytes) ∙ ap (held_as (if parts l outs then None else Some l)) (append_assoc w bytes (sends l outs))
      | false ↦ linked_to l outs w
    ]
linked_to l (close x ∷ outs) w = elim (eq_by_cmp id_cmp l x) as (λ v. carried_to outs (cond v (held_as None w) (held_as (Some l) w))
    ≡ held_as (if v || parts l outs then None else Some l) (w ++ (if v then [] else sends l outs))) [
      | true ↦ unlinked_to outs w ∙ ap (held_as None) (sym (append-nil w))
      | false ↦ linked_to l outs w
    ]
linked_to l (use_id id ∷ outs) w = linked_to l outs w
linked_to l (follow address ∷ outs) w = linked_to l outs w
linked_to l (halt ∷ outs) w = linked_to l outs w

-- ---- what a call gives out
-- this is the link, if there is one
abbrev pub is_at : Option LinkId → LinkId → Bool
is_at None l = false
is_at (Some x) l = eq_by_cmp id_cmp l x

-- .. and it is closed
abbrev pub ends_at : Option LinkId → Bool → LinkId → Bool
ends_at link true l = is_at link l
ends_at link false l = false

-- what of the stream is sent on a link
abbrev pub fed_part : OutsState → LinkId → List ℕ
fed_part o l = if is_named o.fed l then o.grown else []

-- .. and of the reply
abbrev pub reply_part : OutsState → LinkId → List ℕ
reply_part o l = if is_at o.link l then o.reply else []

-- whether the link is closed
abbrev pub parting : OutsState → LinkId → Bool
parting o l = ends_at o.link o.closes l || is_named o.closed l

pub none_once : (names : List LinkId) → names ≡ [] → AreOnce names
none_once names none [] behind x e = absurd (cc)
none_once names none (y ∷ front) behind x e = absurd (cc)

-- ---- what is sent
sends_grown : (l : LinkId) (bytes : List ℕ) (ys : List OutState) → sends l (grown_outs bytes ++ ys) ≡ sends l ys
sends_grown l [] ys = refl
sends_grown l (b ∷ bytes) ys = refl

sends_appended : (l : LinkId) (bytes : List ℕ) (ys : List OutState) → sends l (appended_outs bytes ++ ys) ≡ sends l ys
sends_appended l [] ys = refl
sends_appended l (b ∷ bytes) ys = refl

sends_replaced : (l : LinkId) (bytes : Option (List ℕ)) (ys : List OutState) → sends l (replaced_outs bytes ++ ys) ≡ sends l ys
sends_replaced l None ys = refl
sends_replaced l (Some bytes) ys = refl

sends_others : (l : LinkId) (bytes : List ℕ) (links : List LinkId) (ys : List OutState) → is_named links l ≡ false
    → sends l (fed_outs bytes links ++ ys) ≡ sends l ys
sends_others l bytes [] ys none = refl
sends_others l bytes (x ∷ links) ys none = elim (eq_by_cmp id_cmp l x) as (λ v. cond v true (is_named links l) ≡ false → (if v then bytes else []) ++ sends l (fed_outs bytes links ++ ys) ≡ sends l ys) [
  | true ↦ λ e. absurd (cc)
  | false ↦ λ e. sends_others l bytes links ys e
] none

behind_once : (x : LinkId) (links : List LinkId) → AreOnce (x ∷ links) → AreOnce links
behind_once x links once front behind y e = once (x ∷ front) behind y (ap (λ (zs : List LinkId). x ∷ zs) e)

sends_fed : (l : LinkId) (bytes : List ℕ) (links : List LinkId) (ys : List OutState) → AreOnce links
    → sends l (fed_outs bytes links ++ ys) ≡ (if is_named links l then bytes else []) ++ sends l ys
sends_fed l bytes [] ys once = refl
sends_fed l bytes (x ∷ links) ys once = elim (eq_by_cmp id_cmp l x) as (λ v. eq_by_cmp id_cmp l x ≡ v
    → (if v then bytes else []) ++ sends l (fed_outs bytes links ++ ys) ≡ (if cond v true (is_named links l) then bytes else []) ++ sends l ys) [
      | true ↦ λ e. ap (λ zs. bytes ++ zs) (sends_others l bytes links ys (ap (is_named links) (is_one l x e) ∙ once [] links x refl))
      | false ↦ λ e. sends_fed l bytes links ys (behind_once x links once)
    ] refl

sends_sent : (l : LinkId) (link : Option LinkId) (bytes : List ℕ) (ys : List OutState)
    → sends l (sent_outs link bytes ++ ys) ≡ (if is_at link l then bytes else []) ++ sends l ys
sends_sent l None bytes ys = refl
sends_sent l (Some x) [] ys = elim (eq_by_cmp id_cmp l x) as (λ v. sends l ys ≡ (if v then [] else []) ++ sends l ys) [ true ↦ refl | false ↦ refl ]
sends_sent l (Some x) (b ∷ bytes) ys = refl

-- nothing is behind the reply
sends_role : (l : LinkId) (used : Option (List ℕ)) (follows : Option AddressState) (halts : Bool)
    → sends l (used_outs used ++ (followed_outs follows ++ halted_outs halts)) ≡ []
sends_role l None None true = refl
sends_role l None None false = refl
sends_role l None (Some address) true = refl
sends_role l None (Some address) false = refl
sends_role l (Some id) None true = refl
sends_role l (Some id) None false = refl
sends_role l (Some id) (Some address) true = refl
sends_role l (Some id) (Some address) false = refl

sends_closed : (l : LinkId) (links : List LinkId) (ys : List OutState) → sends l ys ≡ [] → sends l (closed_outs links ++ ys) ≡ []
sends_closed l [] ys none = none
sends_closed l (x ∷ links) ys none = elim (eq_by_cmp id_cmp l x) as (λ v. (if v then [] else sends l (closed_outs links ++ ys)) ≡ []) [ true ↦ refl | false ↦ sends_closed l links ys none ]

sends_closing : (l : LinkId) (link : Option LinkId) (closes : Bool) (ys : List OutState) → sends l ys ≡ []
    → sends l (closing_outs link closes ++ ys) ≡ []
sends_closing l None closes ys none = none
sends_closing l (Some x) false ys none = none
sends_closing l (Some x) true ys none = elim (eq_by_cmp id_cmp l x) as (λ v. (if v then [] else sends l ys) ≡ []) [ true ↦ refl | false ↦ none ]

pub sends_of : (l : LinkId) (o : OutsState) → AreOnce o.fed → sends l (outs_of o) ≡ fed_part o l ++ reply_part o l
sends_of l o once =
    let last : sends l (closing_outs o.link o.closes ++ (closed_outs o.closed ++ role_outs o)) ≡ [] =
    sends_closing l o.link o.closes (closed_outs o.closed ++ role_outs o) (sends_closed l o.closed (role_outs o) (sends_role l o.used o.follows o.halts)) in
    sends_grown l o.grown _ ∙ (sends_appended l o.appended _ ∙ (sends_replaced l o.replaced _ ∙ (sends_fed l o.grown o.fed _ once
    ∙ ap (λ zs. fed_part o l ++ zs) (sends_sent l o.link o.reply _ ∙ (ap (λ zs. reply_part o l ++ zs) last ∙ append-nil (reply_part o l))))))

-- ---- what is closed
parts_grown : (l : LinkId) (bytes : List ℕ) (ys : List OutState) → parts l (grown_outs bytes ++ ys) ≡ parts l ys
parts_grown l [] ys = refl
parts_grown l (b ∷ bytes) ys = refl

parts_appended : (l : LinkId) (bytes : List ℕ) (ys : List OutState) → parts l (appended_outs bytes ++ ys) ≡ parts l ys
parts_appended l [] ys = refl
parts_appended l (b ∷ bytes) ys = refl

parts_replaced : (l : LinkId) (bytes : Option (List ℕ)) (ys : List OutState) → parts l (replaced_outs bytes ++ ys) ≡ parts l ys
parts_replaced l None ys = refl
parts_replaced l (Some bytes) ys = refl

parts_fed : (l : LinkId) (bytes : List ℕ) (links : List LinkId) (ys : List OutState) → parts l (fed_outs bytes links ++ ys) ≡ parts l ys
parts_fed l bytes [] ys = refl
parts_fed l bytes (x ∷ links) ys = parts_fed l bytes links ys

parts_sent : (l : LinkId) (link : Option LinkId) (bytes : List ℕ) (ys : List OutState) → parts l (sent_outs link bytes ++ ys) ≡ parts l ys
parts_sent l None bytes ys = refl
parts_sent l (Some x) [] ys = refl
parts_sent l (Some x) (b ∷ bytes) ys = refl

parts_closing : (l : LinkId) (link : Option LinkId) (closes : Bool) (ys : List OutState)
    → parts l (closing_outs link closes ++ ys) ≡ (ends_at link closes l || parts l ys)
parts_closing l None true ys = refl
parts_closing l None false ys = refl
parts_closing l (Some x) true ys = refl
parts_closing l (Some x) false ys = refl

or_behind : (v n p : Bool) → (v || (n || p)) ≡ (cond v true n || p)
or_behind true n p = refl
or_behind false n p = refl

parts_closed : (l : LinkId) (links : List LinkId) (ys : List OutState) → parts l (closed_outs links ++ ys) ≡ (is_named links l || parts l ys)
parts_closed l [] ys = refl
parts_closed l (x ∷ links) ys = ap (λ b. eq_by_cmp id_cmp l x || b) (parts_closed l links ys) ∙ or_behind (eq_by_cmp id_cmp l x) (is_named links l) (parts l ys)

parts_role : (l : LinkId) (used : Option (List ℕ)) (follows : Option AddressState) (halts : Bool)
    → parts l (used_outs used ++ (followed_outs follows ++ halted_outs halts)) ≡ false
parts_role l None None true = refl
parts_role l None None false = refl
parts_role l None (Some address) true = refl
parts_role l None (Some address) false = refl
parts_role l (Some id) None true = refl
parts_role l (Some id) None false = refl
parts_role l (Some id) (Some address) true = refl
parts_role l (Some id) (Some address) false = refl

or_false : (b : Bool) → (b || false) ≡ b
or_false true = refl
or_false false = refl

pub parts_of : (l : LinkId) (o : OutsState) → parts l (outs_of o) ≡ parting o l
parts_of l o =
    parts_grown l o.grown _ ∙ (parts_appended l o.appended _ ∙ (parts_replaced l o.replaced _ ∙ (parts_fed l o.grown o.fed _ ∙ (parts_sent l o.link o.reply _
    ∙ (parts_closing l o.link o.closes _ ∙ ap (λ b. ends_at o.link o.closes l || b) (parts_closed l o.closed _
    ∙ (ap (λ b. is_named o.closed l || b) (parts_role l o.used o.follows o.halts) ∙ or_false (is_named o.closed l))))))))

-- ---- what a call's outs make of a connection
pub carried_held : (o : OutsState) (c : ConnectionState) (link : LinkId) → AreOnce o.fed → c.link ≡ Some link
    → carried_to (outs_of o) c ≡ held_as (if parting o link then None else Some link) (c.waiting ++ (fed_part o link ++ reply_part o link))
carried_held o c link once is =
    let whole : c ≡ held_as (Some link) c.waiting = ap (λ x. held_as x c.waiting) is in
    ap (carried_to (outs_of o)) whole ∙ (linked_to link (outs_of o) c.waiting
    ∙ (ap (λ b. held_as (if b then None else Some link) (c.waiting ++ sends link (outs_of o))) (parts_of link o)
    ∙ ap (λ zs. held_as (if parting o link then None else Some link) (c.waiting ++ zs)) (sends_of link o once)))

pub carried_waiting : (o : OutsState) (c : ConnectionState) (link : LinkId) → AreOnce o.fed → c.link ≡ Some link
    → (carried_to (outs_of o) c).waiting ≡ c.waiting ++ (fed_part o link ++ reply_part o link)
carried_waiting o c link once is = ap (λ (z : ConnectionState). z.waiting) (carried_held o c link once is)

-- .. and its link, whatever is fed
pub carried_link : (o : OutsState) (c : ConnectionState) (link : LinkId) → c.link ≡ Some link
    → (carried_to (outs_of o) c).link ≡ (if parting o link then None else Some link)
carried_link o c link is =
    let whole : c ≡ held_as (Some link) c.waiting = ap (λ x. held_as x c.waiting) is in
    ap (λ z. (carried_to (outs_of o) z).link) whole ∙ (ap (λ (z : ConnectionState). z.link) (linked_to link (outs_of o) c.waiting) ∙ ap (λ b. if b then None else Some link) (parts_of link o))

pub link_goes : (o : OutsState) (c : ConnectionState) (link : LinkId) → c.link ≡ Some link → parting o link ≡ true
    → (carried_to (outs_of o) c).link ≡ None
link_goes o c link is parted = carried_link o c link is ∙ ap (λ b. if b then None else Some link) parted

pub link_stays : (o : OutsState) (c : ConnectionState) (link : LinkId) → c.link ≡ Some link → parting o link ≡ false
    → (carried_to (outs_of o) c).link ≡ Some link
link_stays o c link is stays = carried_link o c link is ∙ ap (λ b. if b then None else Some link) stays

-- a connection that has a link behind a call's outs had it before, and it wasn't closed
pub link_was : (o : OutsState) (c : ConnectionState) (link : LinkId) → (carried_to (outs_of o) c).link ≡ Some link
    → (c.link ≡ Some link) × (parting o link ≡ false)
link_was o c link has = was c.link refl where
  stays : (x : LinkId) (b : Bool) → c.link ≡ Some x → parting o x ≡ b → (if b then None else Some x) ≡ Some link
      → (c.link ≡ Some link) × (parting o link ≡ false)
  stays x true e p is = absurd (cc)
  stays x false e p is = let same : x ≡ link = cc in (e ∙ ap Some same, sym (ap (parting o) same) ∙ p)

  was : (l : Option LinkId) → c.link ≡ l → (c.link ≡ Some link) × (parting o link ≡ false)
  was None e = let none : (carried_to (outs_of o) c).link ≡ None = ap (λ (z : ConnectionState). z.link) (carried_none (outs_of o) c e) ∙ e in absurd (cc)
  was (Some x) e = stays x (parting o x) e refl (sym (carried_link o c x e) ∙ has)

-- ---- case by case
pub fed_here : (o : OutsState) (l : LinkId) → is_named o.fed l ≡ true → fed_part o l ≡ o.grown
fed_here o l named = ap (λ b. if b then o.grown else []) named

pub fed_elsewhere : (o : OutsState) (l : LinkId) → is_named o.fed l ≡ false → fed_part o l ≡ []
fed_elsewhere o l other = ap (λ b. if b then o.grown else []) other

pub fed_nobody : (o : OutsState) (l : LinkId) → o.fed ≡ [] → fed_part o l ≡ []
fed_nobody o l none = ap (λ names. if is_named names l then o.grown else []) none

pub at_its_link : (o : Option LinkId) (l : LinkId) → o ≡ Some l → is_at o l ≡ true
at_its_link o l is = ap (λ x. is_at x l) is ∙ itself l

pub at_other_link : (o : Option LinkId) (x l : LinkId) → o ≡ Some x → l ≢ x → is_at o l ≡ false
at_other_link o x l is ne = ap (λ z. is_at z l) is ∙ other (eq_by_cmp id_cmp l x) refl where
  other : (v : Bool) → eq_by_cmp id_cmp l x ≡ v → v ≡ false
  other true e = absurd (ne (is_one l x e))
  other false e = refl

pub at_no_link : (o : Option LinkId) (l : LinkId) → o ≡ None → is_at o l ≡ false
at_no_link o l none = ap (λ x. is_at x l) none

pub reply_here : (o : OutsState) (l : LinkId) → o.link ≡ Some l → reply_part o l ≡ o.reply
reply_here o l is = ap (λ b. if b then o.reply else []) (at_its_link o.link l is)

pub reply_elsewhere : (o : OutsState) (x l : LinkId) → o.link ≡ Some x → l ≢ x → reply_part o l ≡ []
reply_elsewhere o x l is ne = ap (λ b. if b then o.reply else []) (at_other_link o.link x l is ne)

pub reply_nowhere : (o : OutsState) (l : LinkId) → o.link ≡ None → reply_part o l ≡ []
reply_nowhere o l none = ap (λ b. if b then o.reply else []) (at_no_link o.link l none)

ends_not : (link : Option LinkId) (closes : Bool) (l : LinkId) → closes ≡ false → ends_at link closes l ≡ false
ends_not link closes l stays = ap (λ b. ends_at link b l) stays

ends_there : (link : Option LinkId) (closes : Bool) (l : LinkId) → closes ≡ true → ends_at link closes l ≡ is_at link l
ends_there link closes l ends = ap (λ b. ends_at link b l) ends

-- the reply's link is closed behind it
pub parts_here : (o : OutsState) (l : LinkId) → o.link ≡ Some l → o.closes ≡ true → parting o l ≡ true
parts_here o l is closes = ap (λ b. b || is_named o.closed l) (ends_there o.link o.closes l closes ∙ at_its_link o.link l is)

pub parts_named : (o : OutsState) (l : LinkId) → is_named o.closed l ≡ true → parting o l ≡ true
parts_named o l named = ap (λ b. ends_at o.link o.closes l || b) named ∙ or-true (ends_at o.link o.closes l)

-- where no reply's link is closed, those of these names alone are
pub parts_alone : (o : OutsState) (l : LinkId) → o.closes ≡ false → parting o l ≡ is_named o.closed l
parts_alone o l stays = ap (λ b. b || is_named o.closed l) (ends_not o.link o.closes l stays)

pub parts_none : (o : OutsState) (l : LinkId) → o.closes ≡ false → o.closed ≡ [] → parting o l ≡ false
parts_none o l stays none = parts_alone o l stays ∙ ap (λ names. is_named names l) none

-- .. and at another link than the reply's
pub parts_elsewhere : (o : OutsState) (x l : LinkId) → o.link ≡ Some x → l ≢ x → parting o l ≡ is_named o.closed l
parts_elsewhere o x l is ne = ap (λ b. b || is_named o.closed l) (not_there o.closes) where
  not_there : (b : Bool) → ends_at o.link b l ≡ false
  not_there true = at_other_link o.link x l is ne
  not_there false = refl
