-- Effects on members, in groups, do what all members do.
use Rattle.std.proofs.Common.{◌≡◌, ◌≢◌, List, [], ◌∷◌, map, true, Option, Some, refl, sym, ◌∙◌, ap, arith}
use Rattle.std.specs.Prelude.{IsTrue, ◌==◌}
use Rattle.std.specs.List.{AllByRecursion, list_all}
use Rattle.std.specs.FinMap.{empty, keys, len}
use Rattle.std.proofs.lemmas.Bool.{and_from}
use Rattle.mr_map.specs.Bytes.{Bytes}
use Rattle.mr_bytes.specs.Words.{fits}
use Rattle.mr_resp.specs.Replies.{Tree}
use Rattle.mr_keyspace.specs.Collections.{with_members, without_members}
use Rattle.mr_keyspace.specs.Steps.{sets, held, entry_of, deadline_of}
use Rattle.mr_keyspace.specs.Changes.{change}
use Rattle.mr_keyspace.specs.declared.value.Entry.{Entry}
use Rattle.mr_keyspace.proofs.Nonempty.{without_members_none, no_elements}
use Rattle.mr_effect.specs.Effects.{is_some_of}
use Rattle.mr_keyspace.specs.Cuts.{cut}
use Rattle.mr_keyspace.proofs.Cutting.{IsGroup, cut_groups, cut_whole, no_cut}
use Rattle.mr_data.proofs.Folds.{adding_members, add_members_is_step}
use Rattle.mr_data.proofs.Running.{IsStep, steps_of, IsFold, group_step, groups_run}
use Rattle.mr_data.proofs.KindLaws.{sets_are}
use Rattle.mr_cmd_shared.proofs.Changing.{IsFaithfulChange}
use Rattle.mr_cmd_shared.proofs.GroupLemmas.{no_map}
use Rattle.mr_cmd_set.specs.declared.grouping.Write.{Write}
use Rattle.mr_cmd_set.specs.declared.grouping.Write.TheVariants as write
use Rattle.mr_cmd_set.specs.Members.{Members}
use Rattle.mr_cmd_set.specs.Grouping.{group_effect, group_effects}
use Rattle.mr_cmd_set.proofs.Sets.{without_append, no_members}
use Rattle.mr_effect.proofs.Texts.{short_effect}
use Rattle.mr_effect.specs.declared.effect.Effect.TheVariants as effect

-- what is made of a set
abbrev pub written : Write → List Bytes → Members → Members
written write.Add = with_members
written write.Remove = without_members

some_word : (xs : List Bytes) → xs ≢ [] → is_some_of xs ≡ true
some_word [] n = absurd (n refl)
some_word (x ∷ xs) n = refl

fold_of : (w : Write) → IsFold sets (written w)
fold_of write.Add = adding_members
fold_of write.Remove = record { nothing = λ s. refl; more = λ xs ys s. without_append xs ys s; deleted = λ xs s n none ys. ap (λ (t : Members). len t == 0) (without_members_none ys) ∙ no_elements (Unit {0}) }

is_step : (w : Write) (k : Bytes) (g : List Bytes) → IsTrue (fits k) → IsGroup fits g → IsStep k (group_effect w k g) (group_step sets sets_are (written w) (fold_of w) g)
unfolding change
is_step write.Add k g h i = add_members_is_step k h g i
is_step write.Remove k g h i = record { possible = and_from _ _ (some_word g i.some) (and_from _ _ h i.all); short = short_effect (effect.RemoveMembers k g) (omega (arith, i.few)); is = λ m. refl }

are_steps : (w : Write) (k : Bytes) (gs : List (List Bytes)) → IsTrue (fits k) → AllByRecursion (IsGroup fits) gs → AllByRecursion (λ g. IsStep k (group_effect w k g) (group_step sets sets_are (written w) (fold_of w) g)) gs
are_steps w k [] h i = tt
are_steps w k (g ∷ gs) h i = (is_step w k g h i.0, are_steps w k gs h i.1)

are_some : (gs : List (List Bytes)) → AllByRecursion (IsGroup fits) gs → AllByRecursion (λ (g : List Bytes). g ≢ []) gs
are_some [] i = tt
are_some (g ∷ gs) i = (i.0.some, are_some gs i.1)

-- the members t are written
pub group_change : (w : Write) (k : Bytes) (s t value : Members) (reply : Tree) (o : Option Entry) → held sets o ≡ Some s → IsTrue (fits k) → IsTrue (list_all fits (keys t)) → written w (keys t) s ≡ value → (value ≡ s → t ≡ empty) → IsFaithfulChange sets (record { reply = reply; value = value; effects = group_effects w k t }) s k o
group_change w k s t value reply o is h all value_is none =
    let gs = cut (keys t) in
    let groups = cut_groups fits (keys t) all in
    record {
      steps = map (group_step sets sets_are (written w) (fold_of w)) gs;
      are = steps_of k (group_effect w k) (group_step sets sets_are (written w) (fold_of w)) gs (are_steps w k gs h groups);
      runs = λ some. groups_run sets sets_are (written w) (fold_of w) o s gs is (λ e. some (ap (map (group_effect w k)) e)) (are_some gs groups)
          ∙ ap (λ xs. Some (entry_of sets (deadline_of o) (written w xs s))) (cut_whole (keys t))
          ∙ ap (λ v. Some (entry_of sets (deadline_of o) v)) value_is;
      none = λ e. sym value_is ∙ ap (λ xs. written w xs s) (no_cut (keys t) (no_map (group_effect w k) gs e)) ∙ (fold_of w).nothing s;
      some = λ e. ap (λ u. group_effects w k u) (none e) ∙ ap (λ xs. map (group_effect w k) (cut xs)) no_members;
    }
