-- What is made of the connections of a loop where all that is sent goes to one link, and of what a server gave up behind a call.
use Rattle.std.proofs.Common.{◌≡◌, ◌≢◌, ◌++◌, ℕ, List, [], true, false, Option, None, Some, append-nil, if◌then◌else◌, refl, sym, ap, ◌∙◌}
use Rattle.mr_links.specs.declared.link_id.LinkId.{LinkId}
use Rattle.mr_node_links.specs.Replicas.{is_named}
use Rattle.mr_node_links.proofs.Naming.{AreOnce}
use Rattle.mr_node_output.specs.Outs.{OutsState, outs_of}
use Rattle.mr_connections.specs.State.{ConnectionState}
use Rattle.mr_loop.specs.Stage.{Stage}
use Rattle.mr_loop.specs.Giving.{listed}
use Rattle.law_systems.specs.System.{gives_up, is_taken, runs}
use Rattle.law_systems.proofs.Pushing.{carried_held, carried_none, carried_to, fed_nobody, fed_part, held_as, none_once, parting, parts_elsewhere, parts_here, parts_none, reply_elsewhere, reply_here, reply_part}

-- ---- all goes to one link
-- Nothing of the stream is sent, and of links that are closed none is a replica's; a reply goes to this link.
pub record SaysAt (o : OutsState) (l : LinkId) : Type 0 where
  pub link : o.link ≡ Some l
  pub fed : o.fed ≡ []
  pub closed : o.closed ≡ []
  pub used : o.used ≡ None

module _ (o : OutsState) (l : LinkId) (says : SaysAt o l) (c : ConnectionState) where
  once : AreOnce o.fed
  once = none_once o.fed says.fed

  -- what is made of one whose link isn't closed, and is sent nothing
  unsaid_at : (x : LinkId) → c.link ≡ Some x → x ≢ l → carried_to (outs_of o) c ≡ c
  unsaid_at x is ne =
      let stays : parting o x ≡ false = parts_elsewhere o l x says.link ne ∙ ap (λ names. is_named names x) says.closed in
      let none : fed_part o x ++ reply_part o x ≡ [] = ap (λ z. z ++ reply_part o x) (fed_nobody o x says.fed) ∙ reply_elsewhere o l x says.link ne in
      carried_held o c x once is
      ∙ (ap (λ b. held_as (if b then None else Some x) (c.waiting ++ (fed_part o x ++ reply_part o x))) stays
      ∙ (ap (λ z. held_as (Some x) (c.waiting ++ z)) none ∙ (ap (held_as (Some x)) (append-nil c.waiting) ∙ ap (λ z. held_as z c.waiting) (sym is))))

  -- .. and nothing is made of any other
  pub unsaid : (c.link ≡ Some l → ⊥) → carried_to (outs_of o) c ≡ c
  unsaid other = go c.link refl
    where
      go : (x : Option LinkId) → c.link ≡ x → carried_to (outs_of o) c ≡ c
      go None e = carried_none (outs_of o) c e
      go (Some x) e = unsaid_at x e (λ same. other (e ∙ ap Some same))

  -- a reply waits there, where the link stays
  pub said : o.closes ≡ false → c.link ≡ Some l → carried_to (outs_of o) c ≡ held_as (Some l) (c.waiting ++ o.reply)
  said stays is =
      carried_held o c l once is
      ∙ (ap (λ b. held_as (if b then None else Some l) (c.waiting ++ (fed_part o l ++ reply_part o l))) (parts_none o l stays says.closed)
      ∙ ap (λ z. held_as (Some l) (c.waiting ++ z)) (ap (λ z. z ++ reply_part o l) (fed_nobody o l says.fed) ∙ reply_here o l says.link))

  -- where it is closed nothing more is sent there
  pub left_off : o.closes ≡ true → o.reply ≡ [] → c.link ≡ Some l → carried_to (outs_of o) c ≡ held_as None c.waiting
  left_off closes quiet is =
      carried_held o c l once is
      ∙ (ap (λ b. held_as (if b then None else Some l) (c.waiting ++ (fed_part o l ++ reply_part o l))) (parts_here o l says.link closes)
      ∙ (ap (λ z. held_as None (c.waiting ++ z)) (ap (λ z. z ++ reply_part o l) (fed_nobody o l says.fed) ∙ (reply_here o l says.link ∙ quiet)) ∙ ap (held_as None) (append-nil c.waiting)))

-- ---- what was given up
pub no_run : (t : Stage) (P : Type 0) → gives_up t ≡ runs t → P
no_run t P e = absurd (cc)

-- where no id was taken
pub none_used : (used : Option (List ℕ)) (ids : List (List ℕ)) (id : List ℕ) → used ≡ None → is_taken ids id ≡ true → is_taken (listed used ++ ids) id ≡ true
none_used used ids id none taken = ap (λ o. is_taken (listed o ++ ids) id) none ∙ taken
