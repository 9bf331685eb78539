-- Requests that waited are done one behind another, and their effects stand in the stream as one group.
use Rattle.std.proofs.Common.{◌≡◌, ◌≢◌, ◌⊎◌, ◌+◌, ◌<◌, ◌≤◌, ◌++◌, ◌∷◌, ℕ, zero, suc, List, [], append-nil, append_assoc, drop, get_or, map, take, Global, Vec, Bool, true, false, Some, length, not, refl, sym, ap, subst, ◌∙◌, inl, inr, arith}
use Rattle.std.specs.Prelude.{Result, Ok, Err}
use Rattle.std.specs.List.{AllByRecursion}
use Rattle.std.proofs.lemmas.List.{drop_at, get_or-map, length-append, take-append-drop, take_at, take_more}
use Rattle.std.proofs.lemmas.List.Concat.{flat_map-append}
use Rattle.std.specs.FinMap.{FinMap}
use Rattle.std.proofs.lemmas.Option.{same_Some}
use Rattle.mr_links.specs.LinkId.{id_cmp}
use Rattle.mr_links.specs.declared.link_id.LinkId.{LinkId}
use Rattle.mr_resp.specs.Replies.{Tree, array, count_of, replies_text, reply_text}
use Rattle.mr_resp.specs.Request.{IsRequest}
use Rattle.mr_resp.specs.Spelling.{number_line}
use Rattle.mr_resp.specs.Usual.{usual}
use Rattle.mr_keyspace.specs.Dataset.{Dataset}
use Rattle.mr_effect.specs.Spelling.{text, texts}
use Rattle.mr_keyspace.specs.Changes.{NeedsNoMemory}
use Rattle.mr_effect.specs.declared.effect.Effect.{Effect}
use Rattle.mr_data.specs.declared.given.Given.{Given}
use Rattle.mr_data.specs.Meaning.{apply_all}
use Rattle.mr_repl.specs.Backlog.{offset_limit}
use Rattle.mr_groups.specs.Groups.{exec, frame_for, grown_text, multi}
use Rattle.mr_groups.proofs.Lengths.{as_many, exec_length, grown_length, multi_length}
use Rattle.mr_repl.specs.Lineage.{grown}
use Rattle.mr_cmd_server.specs.declared.question.Question.{Question}
use Rattle.mr_cmd_server.specs.declared.question.Question.TheVariants as question
use Rattle.mr_node_links.specs.State.{EndState, Transaction, put_end, streams}
use Rattle.mr_node_links.specs.State.EndState.{client, waiting}
use Rattle.mr_node_links.specs.Replicas.{Lists}
use Rattle.mr_node_links.proofs.Naming.{put_lists}
use Rattle.mr_node_links.proofs.Places.{get_put, put_put, put_same}
use Rattle.mr_commands.specs.Requests.{HasPlan, IsPlain, left}
use Rattle.mr_commands.specs.Transactions.{Does, DoesAll, FirstTakesMemory, coming, ends, past_limit}
use Rattle.mr_commands.specs.declared.transactions.Within.TheVariants as within
use Rattle.mr_commands.proofs.Doing.{do_nothing, do_so, does_more, has_so, have_none, one_more, replied}
use Rattle.mr_node_output.specs.Outs.{OutsState, no_outs}
use Rattle.mr_node_spec.specs.State.{Core, NodeState, end_of, spent_as, stopped_as}
use Rattle.mr_node_spec.specs.Growing.{FedTo}
use Rattle.mr_node_spec.specs.Telling.{Around, IsAround, answer_about, link_of, role_answer}
use Rattle.mr_node_spec.specs.Transactions.{WithinRow, as_trees, frame_of}
use Rattle.mr_node_state.specs.Parts.{Holds, Spends, streams_on, with_ends}
use Rattle.mr_node.specs.Executing.{AreDone, AreFramed, behind_frame, ClosesFrame, ClosesGroup, CountsDone, DidAll, DidOne, DoesEach, DoesOne, Executed, Executes, FedBy, GivesUp, IsTold, SaysOnly, SpentBy, StoppedWithin, holding, put_out}
use Rattle.mr_node.specs.Parts.{TellsOf, Uses}
use Rattle.mr_node.specs.Within.{Comes, IsAtOpen, StopsAtOpen, WithinStep}
use Rattle.mr_node.specs.declared.fault.NodeFault.{NodeFault}
use Rattle.mr_node.specs.declared.fault.NodeFault.TheVariants as fault
use Rattle.mr_node.proofs.Transactions.{asks_at, comes_lack, of_run, taken_out}

-- ---- replies
pub said_more : (replies : List Tree) (reply : Tree) → replies_text (as_trees (one_more replies reply)) ≡ replies_text (as_trees replies) ++ reply_text reply
said_more [] reply = append-nil (reply_text reply)
said_more (first ∷ replies) reply =
    ap (λ (z : List ℕ). reply_text first ++ z) (said_more replies reply) ∙ sym (append_assoc (reply_text first) (replies_text (as_trees replies)) (reply_text reply))

counted : (replies : List Tree) → count_of (as_trees replies) ≡ length replies
counted [] = refl
counted (reply ∷ replies) = omega (arith, counted replies)

-- their count and they are one
pub said_all : (replies : List Tree) (count : ℕ) → count ≡ length replies → (42 ∷ number_line count) ++ replies_text (as_trees replies) ≡ reply_text (array (as_trees replies))
said_all replies count is = ap (λ (n : ℕ). 42 ∷ number_line n ++ replies_text (as_trees replies)) (is ∙ sym (counted replies))

-- ---- texts
texts_more : (es fs : List Effect) → texts (es ++ fs) ≡ texts es ++ texts fs
texts_more es fs = flat_map-append text es fs

-- .. behind both parts of a frame
behind_more : (es fs : List Effect) → behind_frame (es ++ fs) ≡ behind_frame es ++ texts fs
behind_more es fs = ap (λ (z : List ℕ). (exec ++ multi) ++ z) (texts_more es fs) ∙ sym (append_assoc (exec ++ multi) (texts es) (texts fs))

pub behind_length : (es : List Effect) → length (behind_frame es) ≡ 29 + length (texts es)
behind_length es = omega (arith, length-append (exec ++ multi) (texts es), length-append exec multi, exec_length, multi_length)

-- in a frame of so many bytes
module _ (a : NodeState) (before over : List Effect) (frame : ℕ) (framed : frame ≡ frame_for (length (before ++ over))) where
  whole : length (grown_text (before ++ over)) ≡ frame + (length (texts before) + length (texts over))
  whole = grown_length (before ++ over) ∙ (ap (λ (n : ℕ). n + length (texts (before ++ over))) (sym framed)
      ∙ ap (λ (n : ℕ). frame + n) (ap length (texts_more before over) ∙ length-append (texts before) (texts over)))

  pub have_room : a.core.lineage.stream.offset + (frame + (length (texts before) + length (texts over))) ≤ offset_limit → (frame_of a).Fits (before ++ over)
  have_room enough = subst (λ (n : ℕ). a.core.lineage.stream.offset + n ≤ offset_limit) (sym whole) enough

  pub have_no_room : offset_limit < a.core.lineage.stream.offset + (frame + (length (texts before) + length (texts over))) → (frame_of a).Fits (before ++ over) → ⊥
  have_no_room beyond fits =
      let there : a.core.lineage.stream.offset + (frame + (length (texts before) + length (texts over))) ≤ offset_limit = subst (λ (n : ℕ). a.core.lineage.stream.offset + n ≤ offset_limit) whole fits in
      omega (arith, beyond, there)

-- they are no more than the offset limit
pub few : (a : NodeState) (es : List Effect) → (frame_of a).Fits es → length es ≤ offset_limit
few a es fits = omega (arith, fits, as_many es, grown_length es)

-- ---- one of them, behind those with these effects
module _ (a : NodeState) (given : Given) (words : List (List ℕ)) (before : List Effect) (m : Dataset) (now : NodeState) (old : OutsState) (d : AreDone a before m now old) where
  fit_so : (frame_of a).Fits (before ++ [])
  fit_so = subst (λ (z : List Effect). (frame_of a).Fits z) (sym (append-nil before)) d.fits

  -- without effects
  pub plain_reply : (reply : Tree) (es : List Effect) → es ≡ [] → IsPlain words → HasPlan (not a.core.master) m words given reply es → Does (frame_of a) (not a.core.master) given words before m reply [] m
  plain_reply reply es no_effect plain plan =
      let p = subst (λ (z : List Effect). HasPlan (not a.core.master) m words given reply z) no_effect plan in
      Does.fits plain p fit_so (same_Some m (left (not a.core.master) words given m) p.leads)

  pub passing : (reply : Tree) (over : List Effect) → IsPlain words → HasPlan (not a.core.master) m words given reply over → ((frame_of a).Fits (before ++ over) → ⊥) → Does (frame_of a) (not a.core.master) given words before m past_limit [] m
  passing reply over plain plan full = Does.passes plain reply over plan full refl refl refl

  said : (old new : OutsState) (reply : List ℕ) (g : List ℕ) → old.grown ≡ g → old.appended ≡ g → new ≡ record old { reply = reply } → new ≡ record old { grown = g; appended = g; reply = reply }
  said old new reply g grown appended is =
      is ∙ (ap (λ (z : List ℕ). record old { grown = z; appended = old.appended; reply = reply }) grown ∙ ap (λ (z : List ℕ). record old { grown = g; appended = z; reply = reply }) appended)

  did_nothing : (reply : Tree) (new : OutsState) → Does (frame_of a) (not a.core.master) given words before m reply [] m → new ≡ record old { reply = old.reply ++ reply_text reply } → DidOne a given words before m old 0 now new
  did_nothing reply new does is =
      let same : behind_frame before ≡ behind_frame (before ++ []) = ap behind_frame (sym (append-nil before)) in
      record {
        reply = reply;
        effects = [];
        held = m;
        does = does;
        are_done = record {
          node = d.node;
          fits = fit_so;
          grown = ap (λ (o : OutsState). o.grown) is ∙ (d.grown ∙ same);
          appended = ap (λ (o : OutsState). o.appended) is ∙ (d.appended ∙ same);
        };
        counted = refl;
        outs_are = said old new (old.reply ++ reply_text reply) (behind_frame (before ++ [])) (d.grown ∙ same) (d.appended ∙ same) is;
      }

  pub says_so : (reply : Tree) (r : Result ℕ NodeFault) (new : OutsState) → Does (frame_of a) (not a.core.master) given words before m reply [] m → SaysOnly reply old r new → DoesOne a given words before m old now r now new
  says_so reply (Ok count) new does s = subst (λ (n : ℕ). DidOne a given words before m old n now new) (sym s.0) (did_nothing reply new does s.1)
  says_so reply (Err fault.Memory) new does s = refl
  says_so reply (Err fault.Stopped) new does s = absurd s
  says_so reply (Err fault.NoLink) new does s = absurd s
  says_so reply (Err fault.InputFull) new does s = absurd s

  -- with effects, which have room
  module _ (reply : Tree) (over : List Effect) (plain : IsPlain words) (plan : HasPlan (not a.core.master) m words given reply over) (fits : (frame_of a).Fits (before ++ over)) where
    pub did_some : (count : ℕ) (b : NodeState) (mid new : OutsState) → count ≡ length over → mid ≡ record old { grown = old.grown ++ texts over; appended = old.appended ++ texts over } → new ≡ record mid { reply = mid.reply ++ reply_text reply }
        → Holds now over b → DidOne a given words before m old count b new
    did_some count b mid new is grows says h =
        let applied : apply_all over m ≡ Some h.held = subst (λ (z : NodeState). apply_all over z.core.held ≡ Some h.held) d.node h.applied in
        let there : new ≡ record old { grown = old.grown ++ texts over; appended = old.appended ++ texts over; reply = old.reply ++ reply_text reply } =
        says ∙ ap (λ (o : OutsState). record o { reply = o.reply ++ reply_text reply }) grows in
        let grown : old.grown ++ texts over ≡ behind_frame (before ++ over) = ap (λ (z : List ℕ). z ++ texts over) d.grown ∙ sym (behind_more before over) in
        let appended : old.appended ++ texts over ≡ behind_frame (before ++ over) = ap (λ (z : List ℕ). z ++ texts over) d.appended ∙ sym (behind_more before over) in
        record {
          reply = reply;
          effects = over;
          held = h.held;
          does = Does.fits plain plan fits (same_Some h.held (left (not a.core.master) words given m) (sym applied ∙ plan.leads));
          are_done = record {
            node = h.node ∙ ap (λ (z : NodeState). record z { core = record z.core { held = h.held } }) d.node;
            fits = fits;
            grown = ap (λ (o : OutsState). o.grown) there ∙ grown;
            appended = ap (λ (o : OutsState). o.appended) there ∙ appended;
          };
          counted = is;
          outs_are = there ∙ (ap (λ (z : List ℕ). record old { grown = z; appended = old.appended ++ texts over; reply = old.reply ++ reply_text reply }) grown
              ∙ ap (λ (z : List ℕ). record old { grown = behind_frame (before ++ over); appended = z; reply = old.reply ++ reply_text reply }) appended);
        }

    pub spent_by : (b : NodeState) → (AllByRecursion NeedsNoMemory over → ⊥) → Spends now over b → SpentBy a given words before m b
    spent_by b heavy s = record {
      plain = plain;
      reply = reply;
      effects = over;
      plan = plan;
      fits = fits;
      heavy = heavy;
      held = s.held;
      spent = s.node ∙ ap (spent_as s.held) d.node;
    }

-- ---- what is told of the node
told_the_same : (q : Question) (held : Dataset) (c : Core) (around : Around) → answer_about q (record c { held = held }) around ≡ answer_about q c around
unfolding answer_about role_answer
told_the_same question.Replication held c around = refl
told_the_same question.OtherSection held c around = refl
told_the_same question.Role held c around = refl

pub told_of : (a : NodeState) (m : Dataset) (question : Question) (reply : Tree) → TellsOf question (holding m a) reply → (frame_of a).Told question reply
told_of a m question reply t =
    let i = t.is_around in
    (t.around, record { names = i.names; listed = i.listed; counted = i.counted; link = i.link }, t.told ∙ told_the_same question m a.core t.around)

-- an answer without a plan
pub told_one : (a now : NodeState) (given : Given) (words : List (List ℕ)) (before : List Effect) (m : Dataset) (reply : Tree) → now ≡ holding m a → IsTold now words reply → Does (frame_of a) (not a.core.master) given words before m reply [] m
told_one a now given words before m reply is (IsTold.tells question asks tells) =
    Does.tells question asks (told_of a m question reply (subst (λ (z : NodeState). TellsOf question z reply) is tells)) refl refl
told_one a now given words before m reply is (IsTold.refuses barred says) = Does.refuses barred.refused barred.asks_data says refl refl

-- ---- where a request stands among the others
pub listed_at : (rs : List (Vec ℕ Global)) (i : ℕ) (item : Vec ℕ Global) (its : List ℕ) → i < length rs → item ≡ get_or rs i item → its ≡ item.items → get_or (map (λ r. r.items) rs) i item.items ≡ its
listed_at rs i item its within is same = get_or-map (λ r. r.items) rs i item item.items within ∙ (ap (λ r. r.items) (sym is) ∙ sym same)

pub split_at : (xs : List (List ℕ)) (i : ℕ) (d its : List ℕ) → i < length xs → get_or xs i d ≡ its → xs ≡ take i xs ++ its ∷ drop (i + 1) xs
split_at xs i d its within is = sym (take-append-drop (i + 1) xs) ∙ (ap (λ z. z ++ drop (i + 1) xs) (take_more xs i d within)
    ∙ (append_assoc (take i xs) (get_or xs i d ∷ []) (drop (i + 1) xs) ∙ ap (λ z. take i xs ++ z ∷ drop (i + 1) xs) is))

-- ---- all of them
module _ (a : NodeState) (given : Given) (old : OutsState) where
  pub did_none : old.grown ≡ behind_frame [] → old.appended ≡ behind_frame [] → a.core.lineage.stream.offset ≤ offset_limit → DidAll a given [] old 0 a old
  did_none grown appended within = record {
    replies = [];
    effects = [];
    held = a.core.held;
    does = DoesAll.none [] a.core.held;
    are_done = record { node = refl; fits = omega (arith, within); grown = grown; appended = appended };
    counted = refl;
    outs_are = nothing_put;
  }
    where
      nothing_put : old ≡ put_out [] (old.reply ++ []) old
      nothing_put = ap (λ (z : List ℕ). record old { grown = z }) grown
          ∙ (ap (λ (z : List ℕ). record old { grown = behind_frame []; appended = z }) appended
          ∙ ap (λ (z : List ℕ). record old { grown = behind_frame []; appended = behind_frame []; reply = z }) (sym (append-nil old.reply)))

  pub did_more : (front : List (List ℕ)) (text : List ℕ) (words : List (List ℕ)) (count more : ℕ) (now b : NodeState) (mid new : OutsState) (d : DidAll a given front old count now mid) → IsRequest usual text words
      → DidOne a given words d.effects d.held mid more b new → DidAll a given (front ++ text ∷ []) old (count + more) b new
  did_more front text words count more now b mid new d asks one = record {
    replies = one_more d.replies one.reply;
    effects = d.effects ++ one.effects;
    held = one.held;
    does = does_more (frame_of a) (not a.core.master) given front [] a.core.held d.held one.held d.replies d.effects one.effects text words one.reply d.does asks one.does;
    are_done = one.are_done;
    counted = ap (λ (n : ℕ). n + more) d.counted ∙ (ap (λ (n : ℕ). length d.effects + n) one.counted ∙ sym (length-append d.effects one.effects));
    outs_are = one.outs_are ∙ (ap (put_out (d.effects ++ one.effects) (mid.reply ++ reply_text one.reply)) d.outs_are
        ∙ ap (λ (z : List ℕ). put_out (d.effects ++ one.effects) z old) (replied ∙ sym (ap (λ (z : List ℕ). old.reply ++ z) (said_more d.replies one.reply))));
  }
    where
      replied : mid.reply ++ reply_text one.reply ≡ old.reply ++ (replies_text (as_trees d.replies) ++ reply_text one.reply)
      replied = ap (λ (o : OutsState). o.reply ++ reply_text one.reply) d.outs_are ∙ append_assoc old.reply (replies_text (as_trees d.replies)) (reply_text one.reply)

  -- a count that fits
  pub count_fits : (front : List (List ℕ)) (words : List (List ℕ)) (count more : ℕ) (now b : NodeState) (mid new : OutsState) (d : DidAll a given front old count now mid)
      → DidOne a given words d.effects d.held mid more b new → count + more ≤ offset_limit
  count_fits front words count more now b mid new d one =
      let all : length (d.effects ++ one.effects) ≤ offset_limit = few a (d.effects ++ one.effects) one.are_done.fits in
      omega (arith, all, length-append d.effects one.effects, d.counted, one.counted)

  -- none of them had an effect
  pub unchanged : (front : List (List ℕ)) (now : NodeState) (mid : OutsState) → DidAll a given front old 0 now mid → now ≡ a
  unchanged front now mid d =
      let no_effect : d.effects ≡ [] = none_counted d.effects d.counted in
      d.are_done.node ∙ ap (λ (z : Dataset). holding z a) (do_nothing (frame_of a) (not a.core.master) given front [] a.core.held d.held d.replies d.effects no_effect d.does)
    where
      none_counted : (es : List Effect) → 0 ≡ length es → es ≡ []
      none_counted [] is = refl
      none_counted (e ∷ es) is = absurd (omega (arith, is))

  some_counted : (es : List Effect) (n : ℕ) → suc n ≡ length es → es ≢ []
  some_counted [] n is none = absurd (omega (arith, is))
  some_counted (e ∷ es) n is none = cc

  -- memory ran out behind these
  stops_behind : (front rest requests : List (List ℕ)) (count : ℕ) (now b : NodeState) (mid : OutsState) → requests ≡ front ++ rest → (rest ≡ [] → ⊥) → DidAll a given front old (suc count) now mid → b ≡ stopped_as now → StoppedWithin a given requests b
  stops_behind front rest requests count now b mid is behind d stopped = record {
    done_first = front;
    left = rest;
    first = is;
    replies = d.replies;
    effects = d.effects;
    before = d.held;
    does = d.does;
    some = inl (some_counted d.effects count d.counted);
    undone = behind;
    held = d.held;
    spent = stopped ∙ ap stopped_as d.are_done.node;
  }

  -- .. or within the next
  stops_in : (front later requests : List (List ℕ)) (text : List ℕ) (words : List (List ℕ)) (count : ℕ) (now mid_node b : NodeState) (mid : OutsState) → requests ≡ front ++ text ∷ later → IsRequest usual text words → (d : DidAll a given front old count now mid)
      → SpentBy a given words d.effects d.held mid_node → b ≡ mid_node → StoppedWithin a given requests b
  stops_in front later requests text words count now mid_node b mid is asks d s same = record {
    done_first = front;
    left = text ∷ later;
    first = is;
    replies = d.replies;
    effects = d.effects;
    before = d.held;
    does = d.does;
    undone = λ none. cc;
    some = inr (record { text = text; later = later; first = refl; words = words; request = asks; plain = s.plain; reply = s.reply; effects = s.effects; plan = s.plan; fits = s.fits; heavy = s.heavy });
    held = s.held;
    spent = same ∙ s.spent;
  }

  -- what gives up within the next
  pub gives_up : (front later requests : List (List ℕ)) (text : List ℕ) (words : List (List ℕ)) (count : ℕ) (f told : NodeFault) (now mid_node b : NodeState) (mid new last : OutsState) → requests ≡ front ++ text ∷ later → IsRequest usual text words
      → (d : DidAll a given front old count now mid) → DoesOne a given words d.effects d.held mid now (Err f) mid_node new → GivesUp f count mid_node b told → DoesEach a given requests old (Err told) b last
  gives_up front later requests text words zero fault.Memory told now mid_node b mid new last is asks d one g =
      subst (λ (z : NodeFault). DoesEach a given requests old (Err z) b last) (sym g.1) (g.0 ∙ (one ∙ unchanged front now mid d))
  gives_up front later requests text words (suc count) fault.Memory told now mid_node b mid new last is asks d one g =
      subst (λ (z : NodeFault). DoesEach a given requests old (Err z) b last) (sym g.1) (stops_behind front (text ∷ later) requests count now b mid is (λ none. cc) d (g.0 ∙ ap stopped_as one))
  gives_up front later requests text words count fault.Stopped told now mid_node b mid new last is asks d one g =
      subst (λ (z : NodeFault). DoesEach a given requests old (Err z) b last) (sym g.1) (stops_in front later requests text words count now mid_node b mid is asks d one g.0)
  gives_up front later requests text words count fault.NoLink told now mid_node b mid new last is asks d one g = absurd one
  gives_up front later requests text words count fault.InputFull told now mid_node b mid new last is asks d one g = absurd one

-- ---- their effects as one group
-- so many bytes of texts, alone or in their frame
lone_text : (es : List Effect) → length es ≤ 1 → texts es ≡ grown_text es
lone_text [] is = refl
lone_text (e ∷ []) is = append-nil (text e)
lone_text (e ∷ f ∷ es) is = absurd (omega (arith, is))

framed_text : (es : List Effect) → 1 < length es → multi ++ (texts es ++ exec) ≡ grown_text es
framed_text [] is = absurd (omega (arith, is))
framed_text (e ∷ []) is = absurd (omega (arith, is))
framed_text (e ∷ f ∷ es) is = refl

-- without the frame in front of them, and with its end behind them
dropped_front : (es : List Effect) → drop 29 (behind_frame es) ≡ texts es
dropped_front es = drop_at (exec ++ multi) (texts es) 29 (omega (arith, length-append exec multi, exec_length, multi_length))

turned_front : (es : List Effect) → drop 14 (behind_frame es) ++ take 14 (behind_frame es) ≡ multi ++ (texts es ++ exec)
turned_front es =
    let whole : behind_frame es ≡ exec ++ (multi ++ texts es) = append_assoc exec multi (texts es) in
    ap (λ (z : List ℕ). drop 14 z ++ take 14 z) whole
    ∙ (ap (λ (z : List ℕ). z ++ take 14 (exec ++ (multi ++ texts es))) (drop_at exec (multi ++ texts es) 14 exec_length)
    ∙ (ap (λ (z : List ℕ). (multi ++ texts es) ++ z) (take_at exec (multi ++ texts es) 14 exec_length) ∙ append_assoc multi (texts es) exec))

module _ (es : List Effect) (count : ℕ) (old new : OutsState) (d : AreFramed count es old) where
  closed : (g : List ℕ) (f : List LinkId) → g ≡ grown_text es → new ≡ record old { grown = g; appended = g; fed = f } → FedBy es old.fed f → ClosesFrame es old new
  closed g f is put fed = record {
    outs_are = put ∙ (ap (λ (z : List ℕ). record old { grown = z; appended = z; fed = f }) is ∙ ap (λ (z : List LinkId). record old { grown = grown_text es; appended = grown_text es; fed = z }) (sym (ap (λ (o : OutsState). o.fed) put)));
    fed = subst (λ (z : List LinkId). FedBy es old.fed z) (sym (ap (λ (o : OutsState). o.fed) put)) fed;
  }

  bare : drop 29 old.grown ≡ texts es
  bare = ap (λ (z : List ℕ). drop 29 z) d.grown ∙ dropped_front es

  -- none
  pub closes_none : count ≡ 0 → new ≡ record old { grown = drop 29 old.grown; appended = drop 29 old.grown; fed = [] } → ClosesFrame es old new
  closes_none none put =
      let few : length es ≤ 1 = omega (arith, none, d.counted) in
      closed (drop 29 old.grown) [] (bare ∙ lone_text es few) put (fed_none es (sym d.counted ∙ none))
    where
      fed_none : (xs : List Effect) → length xs ≡ 0 → FedBy xs old.fed []
      fed_none [] k = refl
      fed_none (x ∷ xs) k = absurd (omega (arith, k))

  -- one
  pub closes_one : count ≡ 1 → new ≡ record old { grown = drop 29 old.grown; appended = drop 29 old.grown } → ClosesFrame es old new
  closes_one one put =
      let few : length es ≤ 1 = omega (arith, one, d.counted) in
      closed (drop 29 old.grown) old.fed (bare ∙ lone_text es few) put (fed_still es (sym d.counted ∙ one))
    where
      fed_still : (xs : List Effect) → length xs ≡ 1 → FedBy xs old.fed old.fed
      fed_still [] k = absurd (omega (arith, k))
      fed_still (x ∷ xs) k = refl

  -- several
  pub closes_several : 1 < count → new ≡ record old { grown = drop 14 old.grown ++ take 14 old.grown; appended = drop 14 old.grown ++ take 14 old.grown } → ClosesFrame es old new
  closes_several some put =
      let many : 1 < length es = omega (arith, some, d.counted) in
      closed (drop 14 old.grown ++ take 14 old.grown) old.fed (ap (λ (z : List ℕ). drop 14 z ++ take 14 z) d.grown ∙ (turned_front es ∙ framed_text es many)) put (fed_still es many)
    where
      fed_still : (xs : List Effect) → 1 < length xs → FedBy xs old.fed old.fed
      fed_still [] k = absurd (omega (arith, k))
      fed_still (x ∷ xs) k = refl

-- all replicas are fed what the stream grows by
fed_to : (es : List Effect) (a : NodeState) (names fed : List LinkId) → Lists names a.ends.open_links → FedBy es names fed → FedTo (grown_text es) a fed
unfolding multi
fed_to [] a names fed listed by = by
fed_to (e ∷ []) a names fed listed by = subst (λ (z : List LinkId). Lists z a.ends.open_links) (sym by) listed
fed_to (e ∷ f ∷ es) a names fed listed by = subst (λ (z : List LinkId). Lists z a.ends.open_links) (sym by) listed

-- ---- what waited, done
module _ (a : NodeState) (given : Given) (requests : List (List ℕ)) (old : OutsState) (names : List LinkId) (listed : Lists names a.ends.open_links) (reply : old.reply ≡ []) where
  -- the replicas are named, a frame has its room, and the count of the replies stands in front
  abbrev pub headed : ℕ → OutsState
  headed count = record old { grown = behind_frame []; appended = behind_frame []; fed = names; reply = old.reply ++ 42 ∷ number_line count }

  pub executed : (count : ℕ) (now b : NodeState) (mid new : OutsState) (d : DidAll a given requests (headed (length requests)) count now mid)
      → ClosesGroup d.effects now mid b new → Executed a given requests old b new
  executed count now b mid new d c =
      let many : length requests ≡ length d.replies = sym (replied (frame_of a) (not a.core.master) given requests [] a.core.held d.held d.replies d.effects d.does) in
      let said : (old.reply ++ 42 ∷ number_line (length requests)) ++ replies_text (as_trees d.replies) ≡ reply_text (array (as_trees d.replies)) =
      ap (λ (z : List ℕ). (z ++ 42 ∷ number_line (length requests)) ++ replies_text (as_trees d.replies)) reply ∙ said_all d.replies (length requests) many in
      let g = grown_text d.effects in
      record {
        replies = d.replies;
        effects = d.effects;
        held = d.held;
        does = d.does;
        node = c.node ∙ ap (streams_on g) d.are_done.node;
        fed = fed_to d.effects a names new.fed listed (subst (λ (z : List LinkId). FedBy d.effects z new.fed) (ap (λ (o : OutsState). o.fed) d.outs_are) c.frame.fed);
        outs_are = c.frame.outs_are ∙ (ap (λ (o : OutsState). record o { grown = g; appended = g; fed = new.fed }) d.outs_are
            ∙ ap (λ (z : List ℕ). record old { grown = g; appended = g; fed = new.fed; reply = z }) said);
      }

-- what was lacking
module _ (a : NodeState) (given : Given) (requests : List (List ℕ)) (old : OutsState) where
  pub gives_each : (first last new : OutsState) (b : NodeState) (f : NodeFault) → DoesEach a given requests first (Err f) b last → Executes a given requests old (Err f) b new
  gives_each first last new b fault.Memory e = e
  gives_each first last new b fault.Stopped e = e
  gives_each first last new b fault.NoLink e = e
  gives_each first last new b fault.InputFull e = e

-- where memory was lacking the ends are what they were
pub ends_stay : (a b : NodeState) (given : Given) (requests : List (List ℕ)) (old new : OutsState) (f : NodeFault) → Executes a given requests old (Err f) b new → b.ends ≡ a.ends
ends_stay a b given requests old new fault.Memory e = ap (λ (z : NodeState). z.ends) e
ends_stay a b given requests old new fault.Stopped e = ap (λ (z : NodeState). z.ends) e.spent
ends_stay a b given requests old new fault.NoLink e = absurd e
ends_stay a b given requests old new fault.InputFull e = absurd e

-- a replica's requests have no effects, and so they are a master's
pub counts_done : (a : NodeState) (given : Given) (requests : List (List ℕ)) (first mid : OutsState) (count : ℕ) (now : NodeState) → DidAll a given requests first count now mid → CountsDone count now mid
counts_done a given requests first mid count now d = record {
  first = a;
  effects = d.effects;
  held = d.held;
  are_done = d.are_done;
  counted = d.counted;
  led = λ some. ap (λ (z : NodeState). z.core.master) d.are_done.node ∙ leads a.core.master (λ is. some (have_none (frame_of a) (not a.core.master) given requests [] a.core.held d.held d.replies d.effects is d.does));
}
  where
    leads : (m : Bool) → (not m ≡ true → ⊥) → m ≡ true
    leads true h = refl
    leads false h = absurd (h refl)

-- the frame of a node without the transaction is its frame
module _ (a b : NodeState) (l : LinkId) (t : Transaction) (u : List ℕ) (found : end_of a l ≡ Some (waiting t u)) (is : b ≡ with_ends a (put_end a.ends l (client u))) where
  pub around_before : (around : Around) → IsAround b around → IsAround a around
  around_before around i = record {
    names = i.names;
    listed =
        (let there = subst (λ (z : NodeState). Lists i.names z.ends.open_links) is i.listed in
        let again = put_lists i.names (put_end a.ends l (client u)).open_links l (waiting t u) there (sym (ap streams (get_put a.ends.open_links l (client u)))) in
        subst (λ z. Lists i.names z) (put_put a.ends.open_links l (client u) (waiting t u) ∙ put_same a.ends.open_links l (waiting t u) found) again);
    counted = i.counted;
    link = i.link ∙ ap (λ (z : NodeState). link_of z.follow) is;
  }

  fed_before : (bytes : List ℕ) (fed : List LinkId) → FedTo bytes b fed → FedTo bytes a fed
  fed_before [] fed f = f
  fed_before (x ∷ bytes) fed f =
      let there = subst (λ (z : NodeState). Lists fed z.ends.open_links) is f in
      let again = put_lists fed (put_end a.ends l (client u)).open_links l (waiting t u) there (sym (ap streams (get_put a.ends.open_links l (client u)))) in
      subst (λ z. Lists fed z) (put_put a.ends.open_links l (client u) (waiting t u) ∙ put_same a.ends.open_links l (waiting t u) found) again

-- ---- EXEC, at a client's end
module _ (a : NodeState) (l : LinkId) (t : Transaction) (u : List ℕ) (given : Given) (used : ℕ) (at : IsAtOpen a l t u) (marked : t.marked ≡ false) (c : Comes (not a.core.master) u used within.Run) where
  -- the node, without the transaction
  abbrev pub without_it : NodeState
  without_it = with_ends a (put_end a.ends l (client u))

  told_before : (question : Question) (reply : Tree) → (frame_of without_it).Told question reply → (frame_of a).Told question reply
  told_before question reply h = (h.0, around_before a without_it l t u at.agrees.is refl h.0 h.1, h.2)

  runs : coming (not a.core.master) c.words ≡ ends
  runs = of_run (coming (not a.core.master) c.words) c.is_within

  module _ (old new : OutsState) (b d : NodeState) (begins : old ≡ record no_outs { link = Some l }) (x : Executed without_it given t.queued old b new) (uses : Uses b l used d) where
    pub executes_row : WithinRow a l t u given d new
    executes_row = WithinRow.executes (record {
      up = at.up;
      words = c.words;
      rest = drop used u;
      asks = asks_at u used c.words c.reads;
      runs = runs;
      whole = marked;
      replies = x.replies;
      effects = x.effects;
      held = x.held;
      does = do_so (frame_of without_it) (frame_of a) (not a.core.master) given (λ es h. h) (λ es h. h) told_before t.queued [] a.core.held x.held x.replies x.effects x.does;
      core = uses.core ∙ ap (λ (z : NodeState). z.core) x.node;
      leaves = taken_out a b d l u used (record a.core { held = x.held; lineage = grown a.core.lineage (grown_text x.effects) }) x.node uses;
      fed = fed_before a without_it l t u at.agrees.is refl (grown_text x.effects) new.fed x.fed;
      outs_are = x.outs_are ∙ ap (λ (o : OutsState). record o { grown = grown_text x.effects; appended = grown_text x.effects; fed = new.fed; reply = reply_text (array (as_trees x.replies)) }) begins;
    })

  -- the transaction put back
  again : put_end (put_end a.ends l (client u)) l (waiting t u) ≡ a.ends
  again = ap (λ (m : FinMap id_cmp EndState). record { open_links = m; opened = a.ends.opened }) (put_put a.ends.open_links l (client u) (waiting t u) ∙ put_same a.ends.open_links l (waiting t u) at.agrees.is)

  pub put_back_is : (b d : NodeState) → b ≡ without_it → d ≡ with_ends b (put_end b.ends l (waiting t u)) → d ≡ a
  put_back_is b d same is = is ∙ (ap (λ (z : NodeState). with_ends z (put_end z.ends l (waiting t u))) same ∙ ap (with_ends a) again)

  pub stops_open : (b d : NodeState) → StoppedWithin without_it given t.queued b → d ≡ with_ends b (put_end b.ends l (waiting t u)) → StopsAtOpen a t u given d
  stops_open b d s is = record {
    cause = record {
      words = c.words;
      rest = drop used u;
      asks = asks_at u used c.words c.reads;
      runs = runs;
      whole = marked;
      done_first = s.done_first;
      left = s.left;
      first = s.first;
      replies = s.replies;
      effects = s.effects;
      held = s.before;
      does = do_so (frame_of without_it) (frame_of a) (not a.core.master) given (λ es h. h) (λ es h. h) told_before s.done_first [] a.core.held s.before s.replies s.effects s.does;
      some = had s.some;
      undone = s.undone;
    };
    held = s.held;
    spent = is ∙ (ap (λ (z : NodeState). with_ends z (put_end z.ends l (waiting t u))) s.spent ∙ ap (λ z. with_ends (spent_as s.held a) z) again);
  }
    where
      had : (s.effects ≢ []) ⊎ FirstTakesMemory (frame_of without_it) (not a.core.master) given s.left s.effects s.before → (s.effects ≢ []) ⊎ FirstTakesMemory (frame_of a) (not a.core.master) given s.left s.effects s.before
      had (inl some) = inl some
      had (inr has) = inr (has_so (frame_of without_it) (frame_of a) (not a.core.master) given (λ es h. h) (λ es h. h) told_before s.left s.effects s.before has)

  -- what it comes to
  pub gives_back : (old new : OutsState) (b d : NodeState) (f : NodeFault) → Executes without_it given t.queued old (Err f) b new → d ≡ with_ends b (put_end b.ends l (waiting t u)) → WithinStep a l t u given d (Err f)
  gives_back old new b d fault.Memory e is = (comes_lack (not a.core.master) u used within.Run c, put_back_is b d e is)
  gives_back old new b d fault.Stopped e is = stops_open b d e is
  gives_back old new b d fault.NoLink e is = absurd e
  gives_back old new b d fault.InputFull e is = absurd e
