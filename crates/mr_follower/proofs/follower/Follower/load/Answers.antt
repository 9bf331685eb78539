use Rattle.std.proofs.Common.{rules, ◌≡◌, ℕ, List, Option, Some, None, Ok, Err, drop, sym, ap, subst, ◌∙◌}
use Rattle.std.specs.Prelude.{Result}
use Rattle.mr_follower.specs.Loading.{GoesOn, TakesOut}
use Rattle.mr_follower.specs.State.{FollowState}
use Rattle.mr_follower.specs.Rows.{StepsAside}
use Rattle.mr_follower.specs.declared.heard.FollowFault.{FollowFault}
use Rattle.mr_follower.specs.declared.heard.Heard.{Heard}
use Rattle.mr_follower.specs.declared.taking.Taking.{Taking}
use Rattle.mr_follower.specs.declared.taking.Pause.{Pause}
use Rattle.mr_follower.specs.declared.taking.Pause.TheVariants as pause
use Rattle.mr_follower.proofs.Stepping.{load_fault, load_whole, load_more, load_bad, load_lacks, load_spent, put_is, left_is}
use Rattle.mr_follower.proofs.follower.Follower.load.Goals as goal

pub returns-in_err-taking : goal.returns-in_err-taking
returns-in_err-taking c =
    let a : FollowState = c.args.self.now in
    let fault : FollowFault = c.in_err-taking.field-0.0 in
    let told : c.from_residual.result ≡ Err fault = search rules in
    let before = c.args.out.now.items in
    subst (λ (r : Result Heard FollowFault). StepsAside a r c.take_out.new.self before before) (sym told)
    (load_fault a c.take_out.new.self fault c.requires.0 c.requires.1.0 c.requires.1.1 c.in_err-taking.ensures before)

pub returns-in-More : goal.returns-in-More
returns-in-More c =
    let a : FollowState = c.args.self.now in
    let b : FollowState = c.take_out.new.self in
    let t : Taking = c.in-Some.taking in
    let paused = c.go_on-paused.result in
    let out : TakesOut a (Ok (Some t)) b = subst (λ (x : Option Taking). TakesOut a (Ok x) b) c.in-Some.is c.in_ok-taking.ensures in
    let kept : c.self.inside.inbox ≡ b.kept = ap (λ (f : FollowState). f.kept) c.self.view_is in
    let used = c.go_on-paused.ensures.0 in
    let on : GoesOn t b.kept used paused.pause paused.taking = subst (λ (l : List ℕ). GoesOn t l used paused.pause paused.taking) kept c.go_on-paused.ensures.1 in
    let by : GoesOn t b.kept used pause.More paused.taking = subst (λ (p : Pause). GoesOn t b.kept used p paused.taking) c.in-More.is on in
    let v : FollowState = record { phase = c.self.inside.phase; offer = c.self.inside.offer; port = c.self.inside.port; taking = c.self.inside.taking; kept = c.self.inside.inbox } in
    let state = put_is a v b c.put_back.new.self paused.taking used c.go_on-paused.new.inbox c.self.view_is out.1.0 c.go_on-paused.ensures.2 c.put_back.ensures in
    load_more a c.put_back.new.self t paused.taking b.kept c.requires.0 c.requires.1.0 used c.requires.1.1 out.1.1 by state c.args.out.now.items

pub returns-in-Bad : goal.returns-in-Bad
returns-in-Bad c =
    let a : FollowState = c.args.self.now in
    let b : FollowState = c.take_out.new.self in
    let t : Taking = c.in-Some.taking in
    let paused = c.go_on-paused.result in
    let out : TakesOut a (Ok (Some t)) b = subst (λ (x : Option Taking). TakesOut a (Ok x) b) c.in-Some.is c.in_ok-taking.ensures in
    let kept : c.self.inside.inbox ≡ b.kept = ap (λ (f : FollowState). f.kept) c.self.view_is in
    let used = c.go_on-paused.ensures.0 in
    let on : GoesOn t b.kept used paused.pause paused.taking = subst (λ (l : List ℕ). GoesOn t l used paused.pause paused.taking) kept c.go_on-paused.ensures.1 in
    let by : GoesOn t b.kept used pause.Bad paused.taking = subst (λ (p : Pause). GoesOn t b.kept used p paused.taking) c.in-Bad.is on in
    let v : FollowState = record { phase = c.self.inside.phase; offer = c.self.inside.offer; port = c.self.inside.port; taking = c.self.inside.taking; kept = c.self.inside.inbox } in
    let state = put_is a v b c.put_back-in-Bad.new.self paused.taking used c.go_on-paused.new.inbox c.self.view_is out.1.0 c.go_on-paused.ensures.2 c.put_back-in-Bad.ensures in
    load_bad a c.put_back-in-Bad.new.self t paused.taking b.kept c.requires.0 c.requires.1.0 used c.requires.1.1 out.1.1 by state c.args.out.now.items

pub returns-in-Lack : goal.returns-in-Lack
returns-in-Lack c =
    let a : FollowState = c.args.self.now in
    let b : FollowState = c.take_out.new.self in
    let t : Taking = c.in-Some.taking in
    let paused = c.go_on-paused.result in
    let out : TakesOut a (Ok (Some t)) b = subst (λ (x : Option Taking). TakesOut a (Ok x) b) c.in-Some.is c.in_ok-taking.ensures in
    let kept : c.self.inside.inbox ≡ b.kept = ap (λ (f : FollowState). f.kept) c.self.view_is in
    let used = c.go_on-paused.ensures.0 in
    let on : GoesOn t b.kept used paused.pause paused.taking = subst (λ (l : List ℕ). GoesOn t l used paused.pause paused.taking) kept c.go_on-paused.ensures.1 in
    let by : GoesOn t b.kept used pause.Lack paused.taking = subst (λ (p : Pause). GoesOn t b.kept used p paused.taking) c.in-Lack.is on in
    let v : FollowState = record { phase = c.self.inside.phase; offer = c.self.inside.offer; port = c.self.inside.port; taking = c.self.inside.taking; kept = c.self.inside.inbox } in
    let state = put_is a v b c.put_back-in-Lack.new.self paused.taking used c.go_on-paused.new.inbox c.self.view_is out.1.0 c.go_on-paused.ensures.2 c.put_back-in-Lack.ensures in
    load_lacks a c.put_back-in-Lack.new.self t paused.taking b.kept c.requires.0 c.requires.1.0 used c.requires.1.1 out.1.1 by state c.args.out.now.items

pub returns-in-Spent : goal.returns-in-Spent
returns-in-Spent c =
    let a : FollowState = c.args.self.now in
    let b : FollowState = c.take_out.new.self in
    let t : Taking = c.in-Some.taking in
    let paused = c.go_on-paused.result in
    let out : TakesOut a (Ok (Some t)) b = subst (λ (x : Option Taking). TakesOut a (Ok x) b) c.in-Some.is c.in_ok-taking.ensures in
    let kept : c.self.inside.inbox ≡ b.kept = ap (λ (f : FollowState). f.kept) c.self.view_is in
    let used = c.go_on-paused.ensures.0 in
    let on : GoesOn t b.kept used paused.pause paused.taking = subst (λ (l : List ℕ). GoesOn t l used paused.pause paused.taking) kept c.go_on-paused.ensures.1 in
    let by : GoesOn t b.kept used pause.Spent paused.taking = subst (λ (p : Pause). GoesOn t b.kept used p paused.taking) c.in-Spent.is on in
    let v : FollowState = record { phase = c.self.inside.phase; offer = c.self.inside.offer; port = c.self.inside.port; taking = c.self.inside.taking; kept = c.self.inside.inbox } in
    let d : FollowState = record { phase = c.self.inside.phase; offer = c.self.inside.offer; port = c.self.inside.port; taking = c.self.inside.taking; kept = c.go_on-paused.new.inbox } in
    let state : d ≡ record a { taking = None; kept = drop used b.kept } = left_is a v b used c.go_on-paused.new.inbox c.self.view_is out.1.0 c.go_on-paused.ensures.2 in
    load_spent a d t paused.taking b.kept c.requires.0 c.requires.1.0 used c.requires.1.1 out.1.1 by state c.args.out.now.items

pub returns-in-Whole : goal.returns-in-Whole
returns-in-Whole c =
    let a : FollowState = c.args.self.now in
    let b : FollowState = c.take_out.new.self in
    let t : Taking = c.in-Some.taking in
    let paused = c.go_on-paused.result in
    let out : TakesOut a (Ok (Some t)) b = subst (λ (x : Option Taking). TakesOut a (Ok x) b) c.in-Some.is c.in_ok-taking.ensures in
    let kept : c.self.inside.inbox ≡ b.kept = ap (λ (f : FollowState). f.kept) c.self.view_is in
    let used = c.go_on-paused.ensures.0 in
    let on : GoesOn t b.kept used paused.pause paused.taking = subst (λ (l : List ℕ). GoesOn t l used paused.pause paused.taking) kept c.go_on-paused.ensures.1 in
    let by : GoesOn t b.kept used pause.Whole paused.taking = subst (λ (p : Pause). GoesOn t b.kept used p paused.taking) c.in-Whole.is on in
    let v : FollowState = record { phase = c.self.inside.phase; offer = c.self.inside.offer; port = c.self.inside.port; taking = c.self.inside.taking; kept = c.self.inside.inbox } in
    let d : FollowState = record { phase = c.self.inside.phase; offer = c.self.inside.offer; port = c.self.inside.port; taking = c.self.inside.taking; kept = c.go_on-paused.new.inbox } in
    let state : d ≡ record a { taking = None; kept = drop used b.kept } = left_is a v b used c.go_on-paused.new.inbox c.self.view_is out.1.0 c.go_on-paused.ensures.2 in
    load_whole a d c.hand_over.new.self t paused.taking b.kept c.requires.0 c.requires.1.0 used c.hand_over.result c.args.out.now.items c.hand_over.new.out.items c.requires.1.1 out.1.1 by state c.hand_over.ensures
