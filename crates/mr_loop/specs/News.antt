-- What a step came to between a replica and its master, as its host sees it.
use Rattle.std.specs.Prelude.{ℕ, List, Bool, true, false, ◌==◌, length, Option, Some, None}
use Rattle.mr_node_links.specs.State.{EndState}
use Rattle.mr_node_links.specs.State.EndState.{client, waiting, replica, upstream, shut}
use Rattle.mr_node_output.specs.Outs.{OutsState}
use Rattle.mr_node.specs.declared.role.Role.{Role}
use Rattle.mr_node.specs.declared.role.Role.TheVariants as role
use Rattle.mr_loop.specs.declared.followed.News.{News}
use Rattle.mr_loop.specs.declared.followed.News.TheVariants as news
use Rattle.mr_loop.specs.declared.followed.Place.{Place}
use Rattle.mr_loop.specs.declared.followed.Place.TheVariants as place

-- whether an end is a client's, a transaction open there or none
abbrev pub is_client_end : Option EndState → Bool
is_client_end None = false
is_client_end (Some (client unread)) = true
is_client_end (Some (waiting t unread)) = true
is_client_end (Some (replica unread)) = false
is_client_end (Some upstream) = false
is_client_end (Some shut) = false

abbrev pub elsewhere_if : Bool → Place → Place
elsewhere_if true p = place.Elsewhere
elsewhere_if false p = p

-- Where a step is made, by the node's role and whether the end is a client's.
abbrev pub place_of : Role → Bool → Place
place_of role.Master at_client = place.Elsewhere
place_of role.Connect at_client = place.Elsewhere
place_of role.Sync at_client = elsewhere_if at_client place.BeforeStream
place_of role.Connected at_client = elsewhere_if at_client place.InStream

-- what the master answered before its stream, by whether no next line is sent: then a copy was announced
abbrev pub answered_by : Bool → News
answered_by true = news.Announced
answered_by false = news.Greeted

-- where a replica comes into the stream: by a copy, of which so many bytes rebuild what it holds, or since it goes on
abbrev pub copied_in : Option (List ℕ) → News
copied_in None = news.Continued
copied_in (Some bytes) = news.Copied (length bytes)

-- .. at the link to the master before its stream, by the role behind the step and what it gave out
abbrev pub news_before : Role → OutsState → Option News
news_before role.Master outs = None
news_before role.Connect outs = Some news.Refused
news_before role.Sync outs = Some (answered_by (length outs.reply == 0))
news_before role.Connected outs = Some (copied_in outs.replaced)

-- .. and in its stream
abbrev pub news_in_stream : Role → Option News
news_in_stream role.Master = None
news_in_stream role.Connect = Some news.Spoiled
news_in_stream role.Sync = None
news_in_stream role.Connected = None

abbrev pub news_of : Place → Role → OutsState → Option News
news_of place.Elsewhere after outs = None
news_of place.BeforeStream after outs = news_before after outs
news_of place.InStream after outs = news_in_stream after
