-- What a node tells of itself.
use Rattle.std.proofs.Common.{Vec, Global, ◌≡◌, ℕ, List, [], Bool, true, false, not, length, Option, refl, sym, ap, subst, ◌∙◌}
use Rattle.std.specs.Prelude.{if◌then◌else◌}
use Rattle.std.proofs.lemmas.List.{length-map}
use Rattle.mr_links.specs.declared.link_id.LinkId.{LinkId}
use Rattle.mr_resp.specs.Replies.{Tree, bytes}
use Rattle.mr_resp.specs.ReplyView.{view, view_step}
use Rattle.mr_resp.specs.declared.reply.Reply.{Bulk, Reply-F, fold-roll-Reply}
use Rattle.mr_resp.specs.declared.reply.Reply.TheVariants.{rolls-Bulk}
use Rattle.mr_info.specs.Info.{info_text}
use Rattle.mr_info.specs.Roles.{master_reply, replica_reply}
use Rattle.mr_info.specs.declared.roles.MasterLink.{MasterLink}
use Rattle.mr_info.specs.declared.roles.Replica.{Replica}
use Rattle.mr_cmd_server.specs.declared.question.Question.{Question}
use Rattle.mr_cmd_server.specs.declared.question.Question.TheVariants as asked
use Rattle.mr_node_links.specs.Replicas.{Lists}
use Rattle.mr_node_output.specs.Address.{AddressState}
use Rattle.mr_node_spec.specs.State.{NodeState}
use Rattle.mr_node_spec.specs.Telling.{answer_about, host_of, link_of, port_of, role_answer}
use Rattle.mr_node.specs.Parts.{ListsReplicas, TellsInfo, TellsOf}
use Rattle.mr_node.proofs.Rows.{around_of, is_around_of, nobody}

bulk_is : (v : Vec ℕ Global) → view (Bulk v) ≡ bytes v.items
bulk_is v = ap view (sym (rolls-Bulk v)) ∙ fold-roll-Reply Tree view_step (Reply-F.Bulk v)

-- ---- INFO
pub info_told : (a : NodeState) (text : List ℕ) (names : List LinkId) → Lists names a.ends.open_links → text ≡ info_text (not a.core.master) (length names) a.core.lineage → TellsInfo a text
info_told a text names listed told = record { count = length names; replicas = record { names = names; listed = listed; counted = refl }; told = told }

pub info_answered : (a : NodeState) (question : Question) (text : Vec ℕ Global) → question ≡ asked.Replication → TellsInfo a text.items → TellsOf question a (view (Bulk text))
unfolding answer_about
info_answered a question text is t = subst (λ q. TellsOf q a (view (Bulk text))) (sym is) (record {
  around = around_of a t.replicas.names;
  is_around = is_around_of a t.replicas.names t.replicas.listed;
  told = bulk_is text ∙ ap bytes (t.told ∙ ap (λ (n : ℕ). info_text (not a.core.master) n a.core.lineage) (t.replicas.counted ∙ sym (length-map t.replicas.names (λ _. nobody))));
})

-- of another section nothing is told
pub nothing_answered : (a : NodeState) (question : Question) (text : Vec ℕ Global) (names : List LinkId) → question ≡ asked.OtherSection → Lists names a.ends.open_links → text.items ≡ [] → TellsOf question a (view (Bulk text))
unfolding answer_about
nothing_answered a question text names is listed none = subst (λ q. TellsOf q a (view (Bulk text))) (sym is) (record { around = around_of a names; is_around = is_around_of a names listed; told = bulk_is text ∙ ap bytes none })

-- ---- ROLE
pub master_answered : (a : NodeState) (reply : Tree) (replicas : List Replica) → a.core.master ≡ true → ListsReplicas a (length replicas) → reply ≡ master_reply a.core.lineage.stream.offset replicas → TellsOf asked.Role a reply
unfolding answer_about role_answer
master_answered a reply replicas is l told = record {
  around = record { replicas = replicas; link = link_of a.follow };
  is_around = record { names = l.names; listed = l.listed; counted = l.counted; link = refl };
  told = told ∙ ap (λ (b : Bool). if b then master_reply a.core.lineage.stream.offset replicas else replica_reply a.core.lineage.stream.offset (host_of a.core.upstream) (port_of a.core.upstream) (link_of a.follow)) (sym is);
}

pub replica_answered : (a : NodeState) (reply : Tree) (names : List LinkId) (offset : ℕ) (address : Option AddressState) (link : MasterLink) → a.core.master ≡ false → Lists names a.ends.open_links
    → offset ≡ a.core.lineage.stream.offset → address ≡ a.core.upstream → link ≡ link_of a.follow → reply ≡ replica_reply offset (host_of address) (port_of address) link → TellsOf asked.Role a reply
unfolding answer_about role_answer
replica_answered a reply names offset address link is listed at from follows told =
    let own : replica_reply offset (host_of address) (port_of address) link ≡ replica_reply a.core.lineage.stream.offset (host_of a.core.upstream) (port_of a.core.upstream) (link_of a.follow) =
    λ i. replica_reply (at i) (host_of (from i)) (port_of (from i)) (follows i) in
    record {
      around = around_of a names;
      is_around = is_around_of a names listed;
      told = told ∙ (own ∙ ap (λ (b : Bool). if b then master_reply a.core.lineage.stream.offset (around_of a names).replicas else replica_reply a.core.lineage.stream.offset (host_of a.core.upstream) (port_of a.core.upstream) (link_of a.follow)) (sym is));
    }
