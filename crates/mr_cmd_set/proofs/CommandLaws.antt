-- The law of faithful effects for each command on sets.
use Rattle.std.proofs.Common.{◌≡◌, ℕ, Bool, true, ◌&&◌, refl}
use Rattle.std.specs.Prelude.{IsTrue, ℤ}
use Rattle.std.specs.List.{list_all}
use Rattle.std.specs.FinMap.{contains_key, keys, len}
use Rattle.std.proofs.lemmas.Bool.{and_from}
use Rattle.mr_bytes.specs.Words.{fits}
use Rattle.mr_bytes.proofs.Both.{first, second}
use Rattle.mr_keyspace.specs.Dataset.{Dataset}
use Rattle.mr_cmd_set.specs.Carried.{set_words}
use Rattle.mr_cmd_set.specs.declared.set_ask.SetAsk.{SetAsk}
use Rattle.mr_cmd_set.specs.declared.set_ask.SetAsk.TheVariants as ask
use Rattle.mr_cmd_shared.specs.Commands.{before}
use Rattle.mr_cmd_shared.proofs.Laws.{faithful, answered_faithful, IsLawful}
use Rattle.mr_cmd_set.specs.declared.grouping.Write.TheVariants as write
use Rattle.mr_cmd_set.specs.Members.{as_set}
use Rattle.mr_cmd_set.specs.Sets.{added, adding, removed, removing, taken, taking, drawn_reply, flag, flags, bulks, number}
use Rattle.mr_cmd_set.specs.SetCommands.{command, RestsOn}
use Rattle.mr_cmd_set.proofs.Groups.{group_change}
use Rattle.mr_cmd_set.proofs.Faithful.{held_fits, taken_there, with_added, added_none, added_fit, without_removed, removed_none, removed_fit, without_set, set_none, set_fits, changing_set}
use Rattle.mr_cmd_set.proofs.AnswerLemmas.{tells_faithful}
use Rattle.mr_cmd_set.proofs.Moves.{move_faithful}

one_key : (a b : Bool) → a && b ≡ true → a && true ≡ true
one_key a b h = and_from a true (first a b h) refl

pub sets_faithful : (command_asked : SetAsk) (word : ℕ) (now : ℤ) (m : Dataset) → RestsOn command_asked m → IsTrue (list_all fits (set_words command_asked)) → IsLawful (command command_asked word) now m
sets_faithful (ask.SAdd k xs) word now m kept h = changing_set k (adding k xs) now m kept (first _ _ h) (λ n s n_kept is.
    group_change write.Add k s (added xs s) _ _ _ is (first _ _ h) (added_fit xs s (second _ _ h)) (with_added xs s) (added_none xs s))
sets_faithful (ask.SRem k xs) word now m kept h = changing_set k (removing k xs) now m kept (first _ _ h) (λ n s n_kept is.
    group_change write.Remove k s (removed xs s) _ _ _ is (first _ _ h) (removed_fit xs s (second _ _ h)) (without_removed xs s) (removed_none xs s))
sets_faithful (ask.SPop k count) word now m kept h = changing_set k (taking k count word) now m kept (first _ _ h) (λ n s n_kept is.
    group_change write.Remove k s (as_set (taken count word s)) _ _ _ is (first _ _ h) (set_fits (taken count word s) s (λ q i. held_fits n k _ s q n_kept refl is (taken_there count word s q i))) (without_set (taken count word s) s) (set_none (taken count word s) s (taken_there count word s)))
sets_faithful (ask.SIsMember k x) word now m kept h = tells_faithful k (λ s. flag (contains_key s x)) now m (one_key _ _ h)
sets_faithful (ask.SMIsMember k xs) word now m kept h = tells_faithful k (flags xs) now m (one_key _ _ h)
sets_faithful (ask.SMembers k) word now m kept h = tells_faithful k (λ s. bulks (keys s)) now m h
sets_faithful (ask.SCard k) word now m kept h = tells_faithful k (λ s. number (len s)) now m h
sets_faithful (ask.SRandMember k count) word now m kept h = tells_faithful k (λ s. drawn_reply count (taken count word s)) now m h
sets_faithful (ask.SMove from to x) word now m kept h = move_faithful from to x now m h
sets_faithful (ask.Combine op ks) word now m rests h =
    let c = command (ask.Combine op ks) word in
    faithful c now m h (answered_faithful _ (before c now m) refl refl)
