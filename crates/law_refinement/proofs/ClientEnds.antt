-- What a client does at its own end, as histories see it.
use Rattle.std.proofs.Common.{◌≡◌, inr, ℕ, ◌++◌, false, Some, refl, ap}
use Rattle.std.specs.Prelude.{slice_get, slice_set}
use Rattle.std.specs.Option.{option_map}
use Rattle.law_protocol.specs.World as history
use Rattle.law_protocol.specs.World.Caller.{Client}
use Rattle.law_protocol.specs.Changing.{LinkBecomes}
use Rattle.law_protocol.specs.History.{Book}
use Rattle.law_protocol.specs.Rows as rows
use Rattle.law_minired.specs.Minired.{minired}
use Rattle.law_refinement.specs.Way.{sent_on, taken_on}
use Rattle.law_refinement.specs.State.{a_client, Link, WorldState}
use Rattle.law_refinement.specs.Seeing.{seen, seen_caller, seen_link, seen_way}
use Rattle.law_refinement.specs.OwnEnds.{CommandsAreRows, ClientFeedsAreRows, ClientBreaksAreRows}
use Rattle.law_refinement.proofs.Seen.{put_at, sent_seen, taken_seen}
use Rattle.law_refinement.proofs.Reading.{set_as}
use Rattle.law_refinement.proofs.Linking.{more_left}

-- a link that changes alone
link_becomes : (w : WorldState) (book : Book minired) (l : ℕ) (k m : Link) (x : history.Link) → slice_get w.links l ≡ Some k → seen_link w.slots m ≡ x
    → LinkBecomes (seen w book) (seen (record w { links = slice_set w.links l m }) book) l x
link_becomes w book l k m x found is = record {
  nodes = λ n. refl;
  links = set_as (λ j. option_map (seen_link w.slots) (slice_get w.links j)) (λ j. option_map (seen_link w.slots) (slice_get (slice_set w.links l m) j)) l (seen_link w.slots m) x (put_at (seen_link w.slots) w.links l m k found) is;
  book = λ i. refl;
}

pub commands : CommandsAreRows
commands w book l k bytes holds at = record {
  new_book = book;
  kept = holds.kept;
  row = record {
    link = seen_link w.slots k;
    found = ap (option_map (seen_link w.slots)) at.found;
    client = ap seen_caller at.asking;
    becomes = link_becomes w book l k (record k { ask = sent_on bytes k.ask }) (record (seen_link w.slots k) { ask = record (seen_way k.ask) { left = (seen_way k.ask).left ++ bytes } }) at.found
        (ap (λ z. record (seen_link w.slots k) { ask = z }) (sent_seen k.ask bytes (holds.world.asks l k at.found)));
  };
}

pub client_feeds : ClientFeedsAreRows
client_feeds w book l k count holds at few =
    let way = holds.world.tells l k at.found in
    record {
      new_book = book;
      kept = holds.kept;
      row = inr (record {
        at = record { link = seen_link w.slots k; found = ap (option_map (seen_link w.slots)) at.found; client = ap seen_caller at.asking };
        sent = more_left k.tell count way few;
        becomes = link_becomes w book l k (record k { tell = taken_on count k.tell }) (record (seen_link w.slots k) { tell = rows.more count (seen_way k.tell) }) at.found
            (ap (λ z. record (seen_link w.slots k) { tell = z }) (taken_seen k.tell count way));
      });
    }

pub client_breaks : ClientBreaksAreRows
client_breaks w book l k holds at = record {
  new_book = book;
  kept = holds.kept;
  row = inr (record {
    at = record { link = seen_link w.slots k; found = ap (option_map (seen_link w.slots)) at.found; client = ap seen_caller at.asking };
    becomes = link_becomes w book l k (record k { caller = a_client false }) (record (seen_link w.slots k) { caller = Client false }) at.found refl;
  });
}
