-- The outs of a step, one after another.
use Rattle.std.specs.Prelude.{List, [], ◌++◌}
use Rattle.mr_links.specs.declared.link_id.LinkId.{LinkId}
use Rattle.mr_node_output.specs.Outs.{OutsState, OutState, grow, append, replace, send, close, use_id, follow, halt, outs_of, appended_outs, replaced_outs, fed_outs, reply_outs, closing_outs, closed_outs, role_outs, followed_outs, halted_outs}
use Rattle.mr_node_output.specs.declared.out.Out.{Out}
use Rattle.mr_node_output.specs.declared.out.Out.TheVariants as out
use Rattle.mr_node_output.specs.declared.out.Place.{Place}
use Rattle.mr_node_output.specs.declared.out.Place.TheVariants as place

-- what an out says, without where its bytes lie
abbrev pub out_view : Out → OutState
out_view (out.Grow bytes) = grow bytes.now
out_view (out.Append bytes) = append bytes.now
out_view (out.Replace bytes) = replace bytes.now
out_view (out.Send link bytes) = send link bytes.now
out_view (out.Close link) = close link
out_view (out.Used id) = use_id id
out_view (out.Follow address) = follow address.now
out_view out.Halt = halt

-- the outs from a place on, where so many links are left of those that are fed or closed there
abbrev pub outs_from : Place → List LinkId → OutsState → List OutState
outs_from place.Grow names o = outs_of o
outs_from place.Append names o = appended_outs o.appended ++ (replaced_outs o.replaced ++ (fed_outs o.grown o.fed ++ reply_outs o))
outs_from place.Replace names o = replaced_outs o.replaced ++ (fed_outs o.grown o.fed ++ reply_outs o)
outs_from place.Feed names o = fed_outs o.grown names ++ reply_outs o
outs_from place.Send names o = reply_outs o
outs_from place.Closing names o = closing_outs o.link o.closes ++ (closed_outs o.closed ++ role_outs o)
outs_from place.Close names o = closed_outs names ++ role_outs o
outs_from place.Used names o = role_outs o
outs_from place.Follow names o = followed_outs o.follows ++ halted_outs o.halts
outs_from place.Halt names o = halted_outs o.halts
outs_from place.End names o = []
