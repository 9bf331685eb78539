use Rattle.std.proofs.Common.{sym, ◌∙◌}
use Rattle.mr_aof.proofs.Opened.{makes_open, makes_bad, is_torn}
use Rattle.mr_aof.proofs.log.opening.read_pass.Goals as goal

pub returns-in-Torn-clause-came : goal.returns-in-Torn-clause-came
returns-in-Torn-clause-came g c = is_torn _ _ _ _ _ _ _ c.in-Torn.is c.in_ok-reading.ensures.through c.unread.ensures

pub returns-in-Open-clause-came : goal.returns-in-Open-clause-came
returns-in-Open-clause-came g c =
    makes_open _ _ _ _ _ _ _ _ _ _ c.in-Open.is c.requires c.in_ok-reading.ensures.through (record { dataset = c.made_of.ensures.dataset; shown_is = c.unread.ensures; used_is = c.made_of.ensures.used })
    (λ e. c.has_more.ensures (sym c.made_of.ensures.has_more ∙ e))

pub returns-in-Bad-clause-came : goal.returns-in-Bad-clause-came
returns-in-Bad-clause-came g c =
    makes_bad _ _ _ _ _ _ _ _ _ _ c.in-Bad.is c.in_ok-reading.ensures.through (record { dataset = c.made_of-in-Bad.ensures.dataset; shown_is = c.unread.ensures; used_is = c.made_of-in-Bad.ensures.used })
    c.made_of-in-Bad.ensures.has_more
