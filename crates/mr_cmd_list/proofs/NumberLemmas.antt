-- The numbers in effects.
use Rattle.std.proofs.Common.{ℕ, ◌≡◌, Option, Some, None, sym, subst}
use Rattle.mr_keyspace.specs.declared.value.Entry.{Entry}
use Rattle.mr_cmd_list.specs.declared.list_ask.ListAsk.{ListAsk}
use Rattle.mr_cmd_list.specs.declared.list_ask.ListAsk.TheVariants as ask
use Rattle.mr_cmd_list.specs.Numbers.{IsShort, IsShortFor, HasNumber, HasNumbers}

not_many : (count : Option ℕ) → IsShortFor count None
not_many None = tt
not_many (Some most) = tt

not_there : (a : ListAsk) → HasNumbers a None
not_there (ask.Push k end to items) = tt
not_there (ask.Pop k end count) = not_many count
not_there (ask.LLen k) = tt
not_there (ask.LRange k first last) = tt
not_there (ask.LIndex k index) = tt
not_there (ask.LSet k index item) = tt
not_there (ask.LInsert k side pivot item) = tt
not_there (ask.LRem k count item) = tt
not_there (ask.LTrim k first last) = tt
not_there (ask.LMove from to taken put) = tt
not_there (ask.RPopLPush from to) = tt

-- with nothing at the key there are none
pub no_live_entry : (a : ListAsk) (o : Option Entry) → o ≡ None → HasNumbers a o
no_live_entry a o h = subst (HasNumbers a) (sym h) (not_there a)

-- with a short list at the key, if any
short_for : (count : Option ℕ) (o : Option Entry) → IsShort o → IsShortFor count o
short_for None o short = tt
short_for (Some most) o short = short

there : (a : ListAsk) (o : Option Entry) → IsShort o → HasNumber a → HasNumbers a o
there (ask.Push k end to items) o short number = tt
there (ask.Pop k end count) o short number = short_for count o short
there (ask.LLen k) o short number = tt
there (ask.LRange k first last) o short number = tt
there (ask.LIndex k index) o short number = tt
there (ask.LSet k index item) o short number = short
there (ask.LInsert k side pivot item) o short number = tt
there (ask.LRem k count item) None short number = tt
there (ask.LRem k count item) (Some e) short number = number
there (ask.LTrim k first last) o short number = short
there (ask.LMove from to taken put) o short number = tt
there (ask.RPopLPush from to) o short number = tt

pub short_entry : (a : ListAsk) (o p : Option Entry) → o ≡ p → IsShort o → HasNumber a → HasNumbers a p
short_entry a o p is short number = subst (HasNumbers a) is (there a o short number)
