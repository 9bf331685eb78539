-- A course as pairs, by which a proof tells them apart.
use Rattle.std.specs.Prelude.{ℕ, List, Bool, Option, refl}
use Rattle.std.specs.Coded.{Coded, code_by, coded×, coded_ℕ, coded_bool, coded_list, coded_option}
use Rattle.mr_links.specs.LinkId.{coded_id}
use Rattle.mr_links.specs.declared.link_id.LinkId.{LinkId}
use Rattle.mr_repl.specs.Lineage.{LineageState}
use Rattle.mr_repl.specs.Backlog.{Window}
use Rattle.mr_follower.specs.State.{FollowState}
use Rattle.mr_follower.specs.contracts.follower.Follower as follower_of
use Rattle.mr_replication.specs.State.{CourseState}

abbrev pub follow_code : Coded FollowState
follow_code = follower_of.the_row.coded

abbrev pub window_code : Coded Window
window_code = code_by (List ℕ × (ℕ × ℕ)) (coded× (coded_list coded_ℕ) (coded× coded_ℕ coded_ℕ)) (λ w. (w.held, (w.capacity, w.offset)))
    (λ p. record { held = p.0; capacity = p.1.0; offset = p.1.1 }) (λ _. refl)

abbrev pub lineage_code : Coded LineageState
lineage_code = code_by (List ℕ × (Option (List ℕ × ℕ) × Window)) (coded× (coded_list coded_ℕ) (coded× (coded_option (coded× (coded_list coded_ℕ) coded_ℕ)) window_code))
    (λ a. (a.id, (a.second, a.stream))) (λ p. record { id = p.0; second = p.1.0; stream = p.1.1 }) (λ _. refl)

abbrev pub course_code : Coded CourseState
course_code = code_by (Bool × (Bool × (LineageState × Option (LinkId × FollowState)))) (coded× coded_bool (coded× coded_bool (coded× lineage_code (coded_option (coded× coded_id follow_code)))))
    (λ c. (c.master, (c.offers, (c.lineage, c.follow)))) (λ p. record { master = p.0; offers = p.1.0; lineage = p.1.1.0; follow = p.1.1.1 }) (λ _. refl)
