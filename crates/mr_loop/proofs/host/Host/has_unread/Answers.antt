use Rattle.std.proofs.Common.{◌≡◌, ◌⊎◌, inl, inr, ℕ, ◌∷◌, ◌++◌, List, [], ◌<◌, ◌≤◌, All, Option, None, Some, false, length, if◌then◌else◌, lit<, arith, refl, sym, ap, subst, ◌∙◌}
use Rattle.std.specs.List.{flat_map}
use Rattle.std.proofs.lemmas.Bool.{ltb-false}
use Rattle.std.proofs.lemmas.List.Elements.{All-nil, All-cons}
use Rattle.mr_inline.specs.Language.{Continues}
use Rattle.mr_links.specs.declared.link_id.LinkId.{LinkId}
use Rattle.mr_resp.specs.Command.{IsCommand, IsCommandText}
use Rattle.mr_resp.specs.Spelling.{array, bulk, number_line}
use Rattle.mr_resp.specs.Usual.{commands, commands-words}
use Rattle.mr_resp.proofs.LineEnds.{bytes_cons, bytes_nil}
use Rattle.mr_resp.proofs.Words.{bytes_append, bytes_bulk, bytes_line}
use Rattle.mr_groups.proofs.Openings.{open_start}
use Rattle.mr_follower.specs.State.{FollowState, Agrees as FollowAgrees}
use Rattle.mr_follower.specs.Rows as follow
use Rattle.mr_follower.specs.declared.phase.Phase.{Phase}
use Rattle.mr_follower.specs.declared.phase.Phase.TheVariants.{Ping, Port, Capabilities, Psync, Snapshot, Stream}
use Rattle.mr_node_spec.specs.State.{Core, IsNode, NodeState, end_of, shown}
use Rattle.mr_node_spec.proofs.Nothing.{waits_nothing}
use Rattle.mr_node.specs.Calls.{Agreeing, Unreads}
use Rattle.mr_node.specs.Calls.Agreeing.{client, waiting, replica, master, shut}
use Rattle.mr_loop.specs.Quiet.{AllWait, Awaits, IsStill, OthersWait}
use Rattle.mr_loop.proofs.Nothing.{line_nothing}
use Rattle.mr_loop.proofs.Stepped.{absent_still, client_still, followed_end, master_still, replica_still, shut_still, waiting_still}
use Rattle.mr_loop.proofs.Waiting.{all_of, none_some, some_is}
use Rattle.mr_loop.proofs.host.Host.has_unread.Goals as goal

-- the command of one empty word
one_empty : IsCommand commands (array ([] ∷ [])) ([] ∷ [])
one_empty = record { spelled = refl; some = lit< tt; count = omega (arith, commands-words); each = All-cons (λ w. length w ≤ commands.word) [] [] (omega arith) (All-nil (λ w. length w ≤ commands.word)) }

behind_star : All (λ b. b < 256) (number_line 1 ++ flat_map bulk ([] ∷ []))
behind_star = bytes_append (number_line 1) (flat_map bulk ([] ∷ [])) (bytes_line 1 (lit< tt)) (bytes_append (bulk []) [] (bytes_bulk [] (lit< tt) bytes_nil) bytes_nil)

-- a command may follow nothing
command_nothing : Continues (IsCommandText commands) []
command_nothing = record {
  more = array ([] ∷ []);
  some = omega arith;
  are_bytes = bytes_cons 42 (number_line 1 ++ flat_map bulk ([] ∷ [])) (lit< tt) behind_star;
  whole = ([] ∷ [], one_empty);
}

-- whatever is waited for at the link to the master, nothing is no whole of it
waits_by : (p : Phase) (kept : List ℕ) → follow.Waits p [] kept
waits_by Ping kept = line_nothing
waits_by Port kept = line_nothing
waits_by Capabilities kept = line_nothing
waits_by Psync kept = line_nothing
waits_by (Snapshot id offset) kept = inl line_nothing
waits_by Stream kept = open_start [] command_nothing

awaits_nothing : (f : FollowState) → FollowAgrees f [] → Awaits f
awaits_nothing f agrees = record { unread = []; agrees = agrees; waits = waits_by f.phase f.kept }

reads_nothing : (f g : FollowState) (l : LinkId) (o : Option (LinkId × FollowState)) → o ≡ Some (l, f) → o ≡ Some (l, g) → FollowAgrees f [] → Awaits g
reads_nothing f g l o one other agrees = subst Awaits (ap (λ (z : LinkId × FollowState). z.1) (some_is (l, f) (l, g) (sym one ∙ other))) (awaits_nothing f agrees)

still_nothing : (a : NodeState) (l : LinkId) → IsNode a → Agreeing a l [] → IsStill a l
still_nothing a l node (client agrees) = client_still a l [] node agrees waits_nothing
still_nothing a l node (waiting t agrees) = waiting_still a l t [] node agrees waits_nothing
still_nothing a l node (replica agrees) = replica_still a l [] node agrees waits_nothing
still_nothing a l node (master agrees) = master_still a l (followed_end a l agrees.reader node agrees.found) (λ f found. reads_nothing agrees.reader f l a.follow agrees.found found agrees.agrees)
still_nothing a l node (shut is none) = shut_still a l node is

no_bytes : (u : List ℕ) → 0 ≡ length u → u ≡ []
no_bytes [] e = refl
no_bytes (b ∷ u) e = absurd (omega (arith, e))

-- nothing is unread on the link
nothing_all : (a : NodeState) (l : LinkId) (count : ℕ) → IsNode a → Unreads a l count → count ≤ 0 → OthersWait a l → AllWait a
nothing_all a l count node unread none q =
    let empty : unread.bytes ≡ [] = no_bytes unread.bytes (omega (arith, unread.counted, none)) in
    all_of l q (still_nothing a l node (subst (λ u. Agreeing a l u) empty unread.agree))

shown_up : (c : Core) (x : List ℕ × ℕ) → shown c ≡ Some x → c.up ≡ false → ⊥
shown_up c x is down = none_some x (sym (ap (λ b. if b then Some (c.lineage.id, c.lineage.stream.offset) else None) down) ∙ is)

-- or the node has no end of it
absent_all : (a : NodeState) (l : LinkId) (x : List ℕ × ℕ) → IsNode a → shown a.core ≡ Some x → (a.core.up ≡ false) ⊎ (end_of a l ≡ None) → OthersWait a l → AllWait a
absent_all a l x node is (inl down) q = absurd (shown_up a.core x is down)
absent_all a l x node is (inr none) q = all_of l q (absent_still a l node none)

pub returns-in-Some-clause-none : goal.returns-in-Some-clause-none
returns-in-Some-clause-none g c = λ none. nothing_all c.args.self.now.node.now c.args.link c.in-Some.count c.sound.ensures.node c.in-Some.ensures.there (ltb-false _ _ none)

pub returns-in-Some-shows-clause-none : goal.returns-in-Some-shows-clause-none
returns-in-Some-shows-clause-none g c = λ none. absent_all c.args.self.now.node.now c.args.link c.in-Some-shows._shown c.sound.ensures.node (sym c.shows.ensures ∙ c.in-Some-shows.is) c.in-None.ensures.absent
