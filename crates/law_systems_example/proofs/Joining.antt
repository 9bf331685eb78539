-- Two servers with a connection between them: one line of the handshake and its answer.
use Rattle.std.proofs.Common.{◌≡◌, ◌≢◌, ◌<◌, ◌^◌, ◌++◌, ℕ, List, [], ◌∷◌, true, Option, None, Some, length, refl, sym, ap, subst, ◌∙◌, arith}
use Rattle.law_refinement.proofs.Lines.{AreShort}
use Rattle.mr_links.specs.LinkId.{link_id}
use Rattle.mr_links.specs.declared.link_id.LinkId.{LinkId}
use Rattle.mr_resp.specs.Spelling.{array}
use Rattle.mr_data.specs.declared.given.Given.{Given}
use Rattle.mr_peer_lines.specs.Lines.{IsPeerLine, status}
use Rattle.mr_follower.specs.Handshake.{IsGreeting, line_after, next_of}
use Rattle.mr_follower.specs.declared.phase.Phase.{Phase}
use Rattle.mr_node_links.specs.State.EndState.{client, upstream}
use Rattle.mr_node_output.specs.Outs.{no_output, send, sent_outs}
use Rattle.mr_node_spec.specs.State.{Core}
use Rattle.mr_node_spec.specs.Served.{Answered}
use Rattle.mr_node_spec.specs.Telling.{Around}
use Rattle.mr_links.specs.declared.side.Side.TheVariants as side
use Rattle.mr_loop.specs.Rows.{Event, acts, takes, writes}
use Rattle.mr_loop.specs.Stage.{Stage}
use Rattle.law_systems.specs.System.{Connection, Pipe, System, of_client, of_itself, runs}
use Rattle.law_systems.specs.Network.{Goes, Reads, end_of}
use Rattle.law_systems.specs.Steps.{Course, IsNew, Step}
use Rattle.law_systems_example.specs.Story.{Reaches, last_of}
use Rattle.law_systems_example.proofs.Parts.{spare_id, two}
use Rattle.law_systems_example.proofs.Stages.{Next, On, Stands}
use Rattle.law_systems_example.proofs.Moving.{takes_next, writes_next}
use Rattle.law_systems_example.proofs.Hearing.{greet_act, greet_outs, greets_next, hears_next, reader}
use Rattle.law_systems_example.proofs.Pairs.{all_next, all_read, drained, filled, first_turns, other_turns}
use Rattle.law_systems_example.proofs.Serving.{quiet_act, quiet_next, quiet_outs}
use Rattle.law_systems_example.proofs.Wording.{short_text}

-- ---- steps, one after another
pub one_step : (x y : System) → Step x y → Reaches x y
one_step x y step = record { systems = y ∷ []; course = (step, tt); ends = refl }

course_on : (x y : System) (xs ys : List System) → Course x xs → last_of x xs ≡ y → Course y ys → Course x (xs ++ ys)
course_on x y [] ys c e d = subst (λ z. Course z ys) (sym e) d
course_on x y (z ∷ xs) ys c e d = (c.0, course_on z y xs ys c.1 e d)

last_on : (x y : System) (xs ys : List System) → last_of x xs ≡ y → last_of x (xs ++ ys) ≡ last_of y ys
last_on x y [] ys e = ap (λ z. last_of z ys) e
last_on x y (z ∷ xs) ys e = last_on z y xs ys e

pub then : (x y z : System) → Reaches x y → Reaches y z → Reaches x z
then x y z a b = record {
  systems = a.systems ++ b.systems;
  course = course_on x y a.systems b.systems a.course a.ends b.course;
  ends = last_on x y a.systems b.systems a.ends ∙ b.ends;
}

pub and_step : (x y z : System) → Reaches x y → Step y z → Reaches x z
and_step x y z a b = then x y z a (one_step y z b)

-- ---- the names here
abbrev pub zeroth : LinkId
zeroth = link_id 0 0

abbrev pub next_name : LinkId
next_name = link_id 0 1

-- the connection of the two, behind one of the other server's own and one of a client's
abbrev pub between : Pipe → Pipe → Connection
between asked answered = record { dialler = Some (end_of 1 0 zeroth); acceptor = Some (end_of 0 0 next_name); asked = asked; answered = answered }

abbrev pub lines : Pipe → Pipe → List Connection
lines asked answered = of_itself ∷ of_client (end_of 0 0 zeroth) ∷ between asked answered ∷ []

-- All that the first wrote the second has read, and all that the second wrote the first, but for this line.
pub record Joined (c d : Core) (p : Phase) (offer : Option (List ℕ × ℕ)) (port : ℕ) (line file : List ℕ) (ids : List (List ℕ)) (x : System) : Type 0 where
  pub one : Stage
  pub other : Stage
  pub first : Stands c None [] 2 2 [] file one
  pub peer : On next_name next_name (client []) [] one
  pub second : Stands d (Some (next_name, reader p offer port [])) [] 2 1 [] [] other
  pub master : On zeroth next_name upstream [] other
  pub asked : List ℕ
  pub answered : List ℕ
  pub is : x ≡ two 0 (runs one) (runs other) (lines (filled asked line) (drained answered)) ids

-- bytes go from the second to the first, and back
pub asks_go : (u v bytes : List ℕ) → Goes 1 0 (lines (drained u) (drained v)) (writes zeroth bytes) (lines (filled u bytes) (drained v))
asks_go u v bytes = record { number = 2; at = side.Opener; connection = between (drained u) (drained v); end = record { found = refl; has = refl }; is = refl }

pub asks_come : (u v bytes : List ℕ) → Goes 0 0 (lines (filled u bytes) (drained v)) (takes next_name bytes) (lines (drained (u ++ bytes)) (drained v))
asks_come u v bytes = Reads.of_server 2 side.Server (between (filled u bytes) (drained v)) (record { found = refl; has = refl }) (end_of 1 0 zeroth) refl (all_next u bytes)
    (ap (λ (q : Pipe). lines q (drained v)) (all_read u bytes))

pub answers_go : (u v bytes : List ℕ) → Goes 0 0 (lines (drained u) (drained v)) (writes next_name bytes) (lines (drained u) (filled v bytes))
answers_go u v bytes = record { number = 2; at = side.Server; connection = between (drained u) (drained v); end = record { found = refl; has = refl }; is = refl }

pub answers_come : (u v bytes : List ℕ) → Goes 1 0 (lines (drained u) (filled v bytes)) (takes zeroth bytes) (lines (drained u) (drained (v ++ bytes)))
answers_come u v bytes = Reads.of_server 2 side.Opener (between (drained u) (filled v bytes)) (record { found = refl; has = refl }) (end_of 1 0 zeroth) refl (all_next v bytes)
    (ap (λ (q : Pipe). lines (drained u) q) (all_read v bytes))

-- The line is read and answered, the answer is read, and the next line is written.
module _ (c d : Core) (p : Phase) (offer : Option (List ℕ × ℕ)) (port : ℕ) (words : List (List ℕ)) (file : List ℕ) (ids : List (List ℕ)) (x : System) (j : Joined c d p offer port (array words) file ids x)
    (some : 0 < length words) (few : length words < 10) (short : AreShort words) (up : c.up ≡ true) (other_up : d.up ≡ true) (given : Given) (new : (y : System) → y.ids ≡ ids → IsNew y spare_id)
    (said text : List ℕ) (answered : (a : Core) → a ≡ c → (around : Around) → Answered a around words given a (record no_output { said = said }))
    (line : IsPeerLine said (status text)) (greeting : IsGreeting p) (some_said : length said ≢ 0) (small : length said < 2 ^ 63)
    (is_said : sent_outs (Some next_name) said ≡ send next_name said ∷ []) (is_next : sent_outs (Some next_name) (line_after p port offer) ≡ send next_name (line_after p port offer) ∷ []) where
  -- the first reads it
  line_in : Next (takes next_name (array words)) j.one (λ t. Stands c None [] 2 2 [] file t × On next_name next_name (client (array words)) [] t)
  line_in = takes_next c None [] 2 2 [] file j.one j.first up next_name next_name (array words) j.peer (let a = short_text words some few short in omega (arith, a))

  -- .. and answers
  abbrev one_a : Stage
  one_a = line_in.stage

  answer_at : (around : Around) → Answered one_a.node.core around words given one_a.node.core (record no_output { said = said })
  answer_at around = answered one_a.node.core line_in.holds.0.core around

  abbrev answer_event : Event
  answer_event = acts (quiet_act c None [] 2 2 [] file one_a line_in.holds.0 up next_name next_name words line_in.holds.1 some few short given spare_id said answer_at is_said) (quiet_outs c None [] 2 2 [] file one_a line_in.holds.0 up next_name next_name words line_in.holds.1 some few short given spare_id said answer_at is_said)

  answer_made : Next answer_event one_a (λ t. Stands c None [] 2 2 [] file t × On next_name next_name (client []) said t)
  answer_made = quiet_next c None [] 2 2 [] file one_a line_in.holds.0 up next_name next_name words line_in.holds.1 some few short given spare_id said answer_at is_said

  answer_out : Next (writes next_name said) answer_made.stage (λ t. Stands c None [] 2 2 [] file t × On next_name next_name (client []) [] t)
  answer_out = writes_next c None [] 2 2 file answer_made.stage answer_made.holds.0 next_name next_name (client []) said answer_made.holds.1

  -- the second reads that, and makes its next line
  answer_in : Next (takes zeroth said) j.other (λ t. Stands d (Some (next_name, reader p offer port said)) [] 2 1 [] [] t × On zeroth next_name upstream [] t)
  answer_in = hears_next d p offer port next_name [] [] 2 1 [] [] j.other j.second other_up zeroth j.master said refl small

  abbrev other_b : Stage
  other_b = answer_in.stage

  abbrev next_event : Event
  next_event = acts (greet_act d p offer port next_name said [] 2 1 [] [] other_b answer_in.holds.0 other_up zeroth answer_in.holds.1 given spare_id some_said text line greeting) (greet_outs d p offer port next_name said [] 2 1 [] [] other_b answer_in.holds.0 other_up zeroth answer_in.holds.1 given spare_id some_said text line greeting)

  next_made : Next next_event other_b (λ t. Stands d (Some (next_name, reader (next_of p) offer port [])) [] 2 1 [] [] t × On zeroth next_name upstream (line_after p port offer) t)
  next_made = greets_next d p offer port next_name said [] 2 1 [] [] other_b answer_in.holds.0 other_up zeroth answer_in.holds.1 given spare_id some_said text line greeting is_next

  next_out : Next (writes zeroth (line_after p port offer)) next_made.stage (λ t. Stands d (Some (next_name, reader (next_of p) offer port [])) [] 2 1 [] [] t × On zeroth next_name upstream [] t)
  next_out = writes_next d (Some (next_name, reader (next_of p) offer port [])) [] 2 1 [] next_made.stage next_made.holds.0 zeroth next_name upstream (line_after p port offer) next_made.holds.1

  -- the systems, one after another
  abbrev u : List ℕ
  u = j.asked ++ array words

  abbrev v : List ℕ
  v = j.answered

  abbrev x_0 : System
  x_0 = two 0 (runs j.one) (runs j.other) (lines (filled j.asked (array words)) (drained v)) ids

  abbrev x_1 : System
  x_1 = two 0 (runs one_a) (runs j.other) (lines (drained u) (drained v)) ids

  abbrev x_2 : System
  x_2 = two 0 (runs answer_made.stage) (runs j.other) (lines (drained u) (drained v)) ids

  abbrev x_3 : System
  x_3 = two 0 (runs answer_out.stage) (runs j.other) (lines (drained u) (filled v said)) ids

  abbrev x_4 : System
  x_4 = two 0 (runs answer_out.stage) (runs other_b) (lines (drained u) (drained (v ++ said))) ids

  abbrev x_5 : System
  x_5 = two 0 (runs answer_out.stage) (runs next_made.stage) (lines (drained u) (drained (v ++ said))) ids

  pub exchanged : System
  exchanged = two 0 (runs answer_out.stage) (runs next_out.stage) (lines (filled u (line_after p port offer)) (drained (v ++ said))) ids

  step_1 : Step x_0 x_1
  step_1 = first_turns (runs j.other) j.one one_a (takes next_name (array words)) (lines (filled j.asked (array words)) (drained v)) (lines (drained u) (drained v)) ids tt line_in.happens (asks_come j.asked v (array words))

  step_2 : Step x_1 x_2
  step_2 = first_turns (runs j.other) one_a answer_made.stage answer_event (lines (drained u) (drained v)) (lines (drained u) (drained v)) ids (new x_1 refl, tt) answer_made.happens refl

  step_3 : Step x_2 x_3
  step_3 = first_turns (runs j.other) answer_made.stage answer_out.stage (writes next_name said) (lines (drained u) (drained v)) (lines (drained u) (filled v said)) ids tt answer_out.happens (answers_go u v said)

  step_4 : Step x_3 x_4
  step_4 = other_turns (runs answer_out.stage) j.other other_b (takes zeroth said) (lines (drained u) (filled v said)) (lines (drained u) (drained (v ++ said))) ids tt answer_in.happens (answers_come u v said)

  step_5 : Step x_4 x_5
  step_5 = other_turns (runs answer_out.stage) other_b next_made.stage next_event (lines (drained u) (drained (v ++ said))) (lines (drained u) (drained (v ++ said))) ids (new x_4 refl, tt) next_made.happens refl

  step_6 : Step x_5 exchanged
  unfolding exchanged
  step_6 = other_turns (runs answer_out.stage) next_made.stage next_out.stage (writes zeroth (line_after p port offer)) (lines (drained u) (drained (v ++ said))) (lines (filled u (line_after p port offer)) (drained (v ++ said))) ids tt next_out.happens (asks_go u (v ++ said) (line_after p port offer))

  pub reaches : Reaches x exchanged
  reaches = subst (λ (z : System). Reaches z exchanged) (sym j.is) (record { systems = x_1 ∷ x_2 ∷ x_3 ∷ x_4 ∷ x_5 ∷ exchanged ∷ []; course = (step_1, (step_2, (step_3, (step_4, (step_5, (step_6, tt)))))); ends = refl })

  pub joined_on : Joined c d (next_of p) offer port (line_after p port offer) file ids exchanged
  unfolding exchanged
  joined_on = record {
    one = answer_out.stage;
    other = next_out.stage;
    first = answer_out.holds.0;
    peer = answer_out.holds.1;
    second = next_out.holds.0;
    master = next_out.holds.1;
    asked = u;
    answered = v ++ said;
    is = refl;
  }
