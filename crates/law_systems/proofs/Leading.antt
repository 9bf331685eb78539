-- Each step of servers leads from a World beside them to one beside them; and the laws.
use Rattle.std.proofs.Common.{sym, subst}
use Rattle.law_refinement.specs.State.{WorldState}
use Rattle.law_systems.specs.System.{System, no_system}
use Rattle.law_systems.specs.Steps.{Step}
use Rattle.law_systems.specs.Servers.{ServersHaveWorlds, ServersNeverDiffer}
use Rattle.law_systems.proofs.Wired.{IsWired}
use Rattle.law_systems.proofs.Mirrors.{Leads, Mirrors}
use Rattle.law_systems.proofs.Unaccepted.{AreUnread, none_unread, steps_unread}
use Rattle.law_systems.proofs.Wiring.{steps_wired, wired_begins}
use Rattle.law_systems.proofs.Beginning.{begins_leads}
use Rattle.law_systems.proofs.Again.{begins_again_leads}
use Rattle.law_systems.proofs.Finishing.{ends_leads}
use Rattle.law_systems.proofs.Halting.{stops_leads}
use Rattle.law_systems.proofs.Turning.{turn_leads}
use Rattle.law_systems.proofs.Asking.{asks_leads}
use Rattle.law_systems.proofs.Differing as laws

-- what is known of servers at each moment
record IsKnown (x : System) : Type 0 where
  wired : IsWired x
  unread : AreUnread x.connections

steps_known : (x y : System) → Step x y → IsKnown x → IsKnown y
steps_known x y step known = record { wired = steps_wired x y step known.wired; unread = steps_unread x y step known.unread }

steps_lead : (x y : System) (w : WorldState) → IsKnown x → Mirrors x w → Step x y → Leads w y
steps_lead x y w known m (Step.begins id file s new b is) = subst (λ z. Leads w z) (sym is) (begins_leads x w known.wired m id file s new b)
steps_lead x y w known m (Step.begins_again n old id file held s there new b is) = subst (λ z. Leads w z) (sym is) (begins_again_leads x w known.wired m n old there id file held s new b)
steps_lead x y w known m (Step.asks_itself n life s t taken at a is) = subst (λ z. Leads w z) (sym is) (asks_leads x w known.wired m n life s t taken at a)
steps_lead x y w known m (Step.turns n life s t tells mode event connections at new h goes is) =
    turn_leads x y w n life s t tells mode known.wired known.unread m event (record { at = at; new = new; connections = connections; goes = goes; is = is }) h
steps_lead x y w known m (Step.stops_its_node n life s t there told is) = subst (λ z. Leads w z) (sym is) (stops_leads x w m n life s t there told)
steps_lead x y w known m (Step.ends n old there is) = subst (λ z. Leads w z) (sym is) (ends_leads x w m n old there)

known_begins : IsKnown no_system
known_begins = record { wired = wired_begins; unread = none_unread }

pub servers_have_worlds : ServersHaveWorlds
servers_have_worlds = laws.servers_have_worlds IsKnown steps_lead steps_known known_begins

pub servers_never_differ : ServersNeverDiffer
servers_never_differ = laws.servers_never_differ IsKnown steps_lead steps_known known_begins
