use Rattle.std.proofs.Common.{rules, ◌≡◌, ◌∙◌, ◌++◌, List, ℕ, Some, Ok, Err, sym, ap, subst}
use Rattle.mr_repl.specs.Backlog.{Window}
use Rattle.mr_follower.specs.Rows.{FollowRow}
use Rattle.mr_replication.specs.State.{CourseState, HasUnread, reads_on}
use Rattle.mr_replication.specs.Heard.{IsReady, IsSound, HeardAs}
use Rattle.mr_replication.specs.Rows.{Listens, UpstreamRow}
use Rattle.mr_replication.proofs.Listening.{ready, heard_row, fault_row}
use Rattle.mr_replication.proofs.parts.Parts.listen.Goals as goal

pub hear-requires : goal.hear-requires
hear-requires c =
    let i = c.self.inside in
    let f = c.in-Some.follower in
    let g = c.step.new.self in
    let m = c.step.new.held in
    let place = c.place_of-place.result in
    let a : CourseState = record { master = i.master; offers = i.offers; lineage = i.lineage; follow = i.follow } in
    let following : i.follow ≡ Some (c.in-Some.field-0-0, f) = search rules in
    let has : HasUnread f = subst IsSound following (subst (λ (z : CourseState). IsSound z.follow) (sym c.self.view_is) c.requires.sound) in
    let off : c.end-offset.result ≡ i.lineage.stream.offset = c.end-offset.ensures.end ∙ ap (λ (w : Window). w.offset) c.stream.ensures in
    let s = c.in-Ok.ensures has.unread has.agrees in
    let told : c.as_slice.result.now ≡ s.told = c.as_slice.ensures.value ∙ (s.put ∙ ap (λ (z : List ℕ). z ++ s.told) c.requires.empty) in
    let row : FollowRow f has.unread c.args.held.now i.lineage.stream.offset (Ok c.in-Ok.heard) g m s.told =
    subst (λ (n : ℕ). FollowRow f has.unread c.args.held.now n (Ok c.in-Ok.heard) g m s.told) off s.row in
    subst (λ (z : List ℕ). IsReady c.in-Ok.heard place z (reads_on c.in-Some.field-0-0 g a)) (sym told)
    (ready a c.args.held.now c.in-Some.field-0-0 f place c.place_of-place.ensures.value has.unread c.in-Ok.heard g m s.told c.place_of-place.ensures.counted row)

pub returns-in-Ok : goal.returns-in-Ok
returns-in-Ok c =
    let i = c.self.inside in
    let f = c.in-Some.follower in
    let g = c.step.new.self in
    let m = c.step.new.held in
    let place = c.place_of-place.result in
    let a : CourseState = record { master = i.master; offers = i.offers; lineage = i.lineage; follow = i.follow } in
    let following : i.follow ≡ Some (c.in-Some.field-0-0, f) = search rules in
    let off : c.end-offset.result ≡ i.lineage.stream.offset = c.end-offset.ensures.end ∙ ap (λ (w : Window). w.offset) c.stream.ensures in
    subst (λ (z : CourseState). Listens z c.args.held.now (Ok c.hear.result) c.hear.new.self c.hear.new.held c.step.new.out.items) c.self.view_is (record {
      name = c.in-Some.field-0-0;
      follow = f;
      found = following;
      next = g;
      row = λ u agrees.
          let s = c.in-Ok.ensures u agrees in
          let put : c.step.new.out.items ≡ s.told = s.put ∙ ap (λ (z : List ℕ). z ++ s.told) c.requires.empty in
          let row : FollowRow f u c.args.held.now i.lineage.stream.offset (Ok c.in-Ok.heard) g m s.told = subst (λ (n : ℕ). FollowRow f u c.args.held.now n (Ok c.in-Ok.heard) g m s.told) off s.row in
          let done : HeardAs c.in-Ok.heard place s.told (reads_on c.in-Some.field-0-0 g a) m c.hear.result c.hear.new.self c.hear.new.held =
          subst (λ (z : List ℕ). HeardAs c.in-Ok.heard place z (reads_on c.in-Some.field-0-0 g a) m c.hear.result c.hear.new.self c.hear.new.held) (c.as_slice.ensures.value ∙ put) c.hear.ensures in
          subst (λ (z : List ℕ). UpstreamRow a c.args.held.now c.in-Some.field-0-0 f u g (Ok c.hear.result) c.hear.new.self c.hear.new.held z) (sym put)
          (heard_row a c.args.held.now c.in-Some.field-0-0 f place c.place_of-place.ensures.value u c.in-Ok.heard g m s.told c.hear.result c.hear.new.self c.hear.new.held row done);
    })

pub returns-in-Err : goal.returns-in-Err
returns-in-Err c =
    let i = c.self.inside in
    let f = c.in-Some.follower in
    let g = c.step.new.self in
    let m = c.step.new.held in
    let place = c.place_of-place.result in
    let a : CourseState = record { master = i.master; offers = i.offers; lineage = i.lineage; follow = i.follow } in
    let following : i.follow ≡ Some (c.in-Some.field-0-0, f) = search rules in
    let off : c.end-offset.result ≡ i.lineage.stream.offset = c.end-offset.ensures.end ∙ ap (λ (w : Window). w.offset) c.stream.ensures in
    subst (λ (z : CourseState). Listens z c.args.held.now c.give_up.result c.give_up.new.self m c.step.new.out.items) c.self.view_is (record {
      name = c.in-Some.field-0-0;
      follow = f;
      found = following;
      next = g;
      row = λ u agrees.
          let s = c.in-Err.ensures u agrees in
          let put : c.step.new.out.items ≡ s.told = s.put ∙ ap (λ (z : List ℕ). z ++ s.told) c.requires.empty in
          let row : FollowRow f u c.args.held.now i.lineage.stream.offset (Err c.in-Err.fault) g m s.told = subst (λ (n : ℕ). FollowRow f u c.args.held.now n (Err c.in-Err.fault) g m s.told) off s.row in
          subst (λ (z : List ℕ). UpstreamRow a c.args.held.now c.in-Some.field-0-0 f u g c.give_up.result c.give_up.new.self m z) (sym put)
          (fault_row a c.args.held.now c.in-Some.field-0-0 f place c.place_of-place.ensures.value u c.in-Err.fault g m s.told c.give_up.result c.give_up.new.self row c.give_up.ensures);
    })
