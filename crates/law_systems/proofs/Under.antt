-- What stands under a name of the loop's connections once one of them was changed, or is gone.
use Rattle.std.proofs.Common.{◌≡◌, ◌≢◌, cond, Option, None, Some, refl, sym, ap, ◌∙◌}
use Rattle.std.specs.Option.{option_map}
use Rattle.std.specs.FinMap.{get, get-insert, get-remove, insert, remove}
use Rattle.mr_links.specs.declared.link_id.LinkId.{LinkId}
use Rattle.mr_links.proofs.LinkRows.{ids_total}
use Rattle.mr_node_links.proofs.Naming.{at_or_other}
use Rattle.mr_connections.specs.State.{AreToldApart, ConnectionState, Rows, changed, left, parted, where_linked}
use Rattle.mr_connections.proofs.Changed.{get-changed}
use Rattle.mr_connections.proofs.Each.{get-with_each}
use Rattle.mr_connections.proofs.Sent.{made_has, made_other}

module _ (m : Rows) (socket : LinkId) where
  pub removed : (q : LinkId) (d : ConnectionState) → get (remove m socket) q ≡ Some d → (q ≢ socket) × (get m q ≡ Some d)
  removed q d e = at_or_other q socket (λ b. cond b None (get m q) ≡ Some d → (q ≢ socket) × (get m q ≡ Some d))
      (λ same h. absurd (let wrong : ◌≡◌ {A = Option ConnectionState} None (Some d) = h in cc)) (λ other h. (other, h)) (sym (get-remove ids_total m socket q) ∙ e)

  pub changed_other : (f : ConnectionState → ConnectionState) (q : LinkId) → q ≢ socket → get (changed socket f m) q ≡ get m q
  changed_other f q ne = get-changed socket f m q ∙ at_or_other q socket (λ b. cond b (option_map f (get m socket)) (get m q) ≡ get m q) (λ same. absurd (ne same)) (λ other. refl)

  pub changed_here : (f : ConnectionState → ConnectionState) → get (changed socket f m) socket ≡ option_map f (get m socket)
  changed_here f = get-changed socket f m socket ∙ at_or_other socket socket (λ b. cond b (option_map f (get m socket)) (get m socket) ≡ option_map f (get m socket)) (λ same. refl) (λ other. absurd (other refl))

  pub put_here : (c : ConnectionState) → get (insert m socket c) socket ≡ Some c
  put_here c = get-insert ids_total m socket c socket ∙ at_or_other socket socket (λ b. cond b (Some c) (get m socket) ≡ Some c) (λ same. refl) (λ other. absurd (other refl))

  pub put_other : (c : ConnectionState) (q : LinkId) → q ≢ socket → get (insert m socket c) q ≡ get m q
  put_other c q ne = get-insert ids_total m socket c q ∙ at_or_other q socket (λ b. cond b (Some c) (get m q) ≡ get m q) (λ same. absurd (ne same)) (λ other. refl)

  -- ---- where the node's end of a link was closed, which this connection has
  module _ (link : LinkId) (c : ConnectionState) (has : get m socket ≡ Some c) (linked : c.link ≡ Some link) where
    pub parted_here : get (parted link m) socket ≡ Some (left c)
    parted_here = get-with_each (where_linked link left) m socket ∙ (ap (option_map (where_linked link left)) has ∙ ap (λ z. Some z) (made_has link left c linked))

    pub parted_other : AreToldApart m → (q : LinkId) (d : ConnectionState) → q ≢ socket → get (parted link m) q ≡ Some d → get m q ≡ Some d
    parted_other apart q d ne e = go (get m q) refl (sym (get-with_each (where_linked link left) m q) ∙ e)
      where
        go : (o : Option ConnectionState) → get m q ≡ o → option_map (where_linked link left) o ≡ Some d → get m q ≡ Some d
        go None there h = absurd (let wrong : ◌≡◌ {A = Option ConnectionState} None (Some d) = h in cc)
        go (Some b) there h = there ∙ (ap (λ z. Some z) (sym (made_other link left b (λ same. ne (apart.apart q socket b c link there has same linked)))) ∙ h)
