-- What is true of each course stays so.
use Rattle.std.proofs.Common.{◌≡◌, ◌∙◌, inl, inr, ℕ, List, ◌++◌, Bool, Option, None, Some, IsSome, Result, Ok, Err, false, true, refl, sym, ap, subst, append_assoc}
use Rattle.std.specs.Prelude.{IfSome, OnOk, OnErr}
use Rattle.mr_links.specs.declared.link_id.LinkId.{LinkId}
use Rattle.mr_keyspace.specs.Dataset.{Dataset}
use Rattle.mr_repl.specs.Lineage.{LineageState, begun, grown, continued}
use Rattle.mr_follower.specs.State.{FollowState, AgreesBy, Agrees, Moves, heard}
use Rattle.mr_follower.specs.Rows.{Stays, Spends, Tears}
use Rattle.mr_follower.specs.Handshake.{IsGreeting, next_of}
use Rattle.mr_follower.specs.declared.phase.Phase.{Phase}
use Rattle.mr_follower.specs.declared.phase.Phase.TheVariants as phase
use Rattle.mr_follower.specs.declared.taking.Taking.{Taking}
use Rattle.mr_replication.specs.State.{CourseState, IsCourse, IsReader, HasUnread, FitsIn, offer_of, reads_on, hears_more, fed}
use Rattle.mr_replication.specs.Rows.{UpstreamRow, Listens}
use Rattle.mr_replication.specs.declared.upstream.UpstreamStep.{UpstreamStep}
use Rattle.mr_replication.specs.declared.upstream.UpstreamStep.TheVariants as up
use Rattle.mr_replication.specs.declared.upstream.UpstreamFault.{UpstreamFault}
use Rattle.mr_replication.specs.declared.upstream.UpstreamFault.TheVariants as fault

-- another line of the handshake
next_fits : (p : Phase) (offer : Option (List ℕ × ℕ)) (offers : Bool) (a : LineageState) → IsGreeting p → FitsIn p offer offers a → FitsIn (next_of p) offer offers a
next_fits phase.Ping offer offers a g h = h
next_fits phase.Port offer offers a g h = h
next_fits phase.Capabilities offer offers a g h = h
next_fits phase.Psync offer offers a g h = absurd g
next_fits (phase.Snapshot id offset) offer offers a g h = absurd g
next_fits phase.Stream offer offers a g h = absurd g

-- who goes on with what was offered had something to continue
offered : (offer : Option (List ℕ × ℕ)) (offers : Bool) (a : LineageState) → IsSome offer → offer ≡ offer_of offers a → offers ≡ true
offered offer true a s e = refl
offered offer false a s e = absurd (cc (subst IsSome e s))

same_fits : (f g : FollowState) (p : Phase) (offers : Bool) (a : LineageState) → g.phase ≡ p → g.offer ≡ f.offer → FitsIn p f.offer offers a → FitsIn g.phase g.offer offers a
same_fits f g p offers a waits offer h = subst (λ (z : Phase). FitsIn z g.offer offers a) (sym waits) (subst (λ (z : Option (List ℕ × ℕ)). FitsIn p z offers a) (sym offer) h)

moved : (f g : FollowState) (p : Phase) (rest : List ℕ) (offers : Bool) (a : LineageState) → Moves f p rest g → FitsIn p f.offer offers a → IsReader false offers a g
moved f g p rest offers a m h = record {
  replica = refl;
  fits = same_fits f g p offers a m.waits m.offer h;
  has = record { unread = rest; agrees = m.agrees };
}

module _ (c : CourseState) (m : Dataset) (name : LinkId) (f : FollowState) (following : c.follow ≡ Some (name, f)) (i : IsCourse c) where
  here : IsReader c.master c.offers c.lineage f
  here = subst (λ (z : Option (LinkId × FollowState)). IfSome z (λ g. IsReader c.master c.offers c.lineage g.1)) following i.reader

  in_phase : (p : Phase) → f.phase ≡ p → FitsIn p f.offer c.offers c.lineage
  in_phase p e = subst (λ (z : Phase). FitsIn z f.offer c.offers c.lineage) e here.fits

  with_next : (d : CourseState) (g : FollowState) (offers : Bool) (a : LineageState) → d ≡ record { master = c.master; offers = offers; lineage = a; follow = Some (name, g) } → IsReader false offers a g → IsCourse d
  with_next d g offers a is h = subst IsCourse (sym is) (record { reader = subst (λ (z : Bool). IsReader z offers a g) (sym here.replica) h })

  alone : (d : CourseState) (offers : Bool) → d ≡ record { master = c.master; offers = offers; lineage = c.lineage; follow = None } → IsCourse d
  alone d offers is = subst IsCourse (sym is) (record { reader = tt })

  stayed : (d : CourseState) (g : FollowState) (n : Dataset) (u told : List ℕ) → Stays f u m g n told → d ≡ reads_on name g c → IsCourse d
  stayed d g n u told s is = with_next d g c.offers c.lineage is (moved f g f.phase u c.offers c.lineage s.state here.fits)

  -- what was taken of a snapshot may be gone
  spent_has : (g : FollowState) (n : Dataset) (u told : List ℕ) → Spends f u m c.lineage.stream.offset g n told → HasUnread g
  spent_has g n u told s = elim s.cause [ inl h ↦ record { unread = u; agrees = h.at.unread } | inr h ↦ record { unread = g.kept; agrees = h.unread } ]

  spent : (d : CourseState) (g : FollowState) (n : Dataset) (u told : List ℕ) → Spends f u m c.lineage.stream.offset g n told → d ≡ reads_on name g c → IsCourse d
  spent d g n u told s is = with_next d g c.offers c.lineage is (record { replica = refl; fits = same_fits f g f.phase c.offers c.lineage s.waits s.offer here.fits; has = spent_has g n u told s })

  torn : (d : CourseState) (g : FollowState) (n : Dataset) (u told : List ℕ) → Tears f u m c.lineage.stream.offset g n told → d ≡ reads_on name g c → IsCourse d
  torn d g n u told t is =
      with_next d g c.offers c.lineage is (record { replica = refl; fits = same_fits f g f.phase c.offers c.lineage t.waits t.offer here.fits; has = record { unread = u; agrees = t.at.unread } })

  row_keeps : (u : List ℕ) (g : FollowState) (r : Result UpstreamStep UpstreamFault) (d : CourseState) (n : Dataset) (told : List ℕ) → UpstreamRow c m name f u g r d n told → IsCourse d
  row_keeps u g (Ok up.Idle) d n told r = stayed d g n u told r.stays r.is
  row_keeps u g (Ok up.Said) d n told r = let s = r.greets in
      with_next d g c.offers c.lineage r.is (moved f g (next_of f.phase) s.rest c.offers c.lineage s.state (next_fits f.phase f.offer c.offers c.lineage s.greeting here.fits))
  row_keeps u g (Ok up.Announced) d n told r = let s = r.answers in
      with_next d g c.offers c.lineage r.is (moved f g (phase.Snapshot r.id r.offset) s.rest c.offers c.lineage s.state tt)
  row_keeps u g (Ok up.Continued) d n told r = let s = r.answers in
      with_next d g c.offers (continued r.id c.lineage) r.is
      (moved f g phase.Stream s.rest c.offers (continued r.id c.lineage) s.state (offered f.offer c.offers c.lineage r.offered (in_phase phase.Psync s.asked)))
  row_keeps u g (Ok up.Loaded) d n told r = let s = r.installs in let a = begun s.id c.lineage.stream.capacity s.offset in
      with_next d g true a r.is (moved f g phase.Stream s.rest true a s.state refl)
  row_keeps u g (Ok up.Applied) d n told r = let s = r.follows in let a = grown c.lineage told in
      with_next d g c.offers a r.is (moved f g phase.Stream s.rest c.offers a s.state (in_phase phase.Stream s.streams))
  row_keeps u g (Ok up.Left) d n told r = alone d c.offers r.is
  row_keeps u g (Ok up.Spoiled) d n told r = alone d false r.is
  row_keeps u g (Err fault.Memory) d n told r = stayed d g n u told r.stays r.is
  row_keeps u g (Err fault.Stopped) d n told r = elim r.cause [ inl s ↦ spent d g n u told s r.is | inr t ↦ torn d g n u told t r.is ]

  pub keeps_by : (g : FollowState) (r : Result UpstreamStep UpstreamFault) (d : CourseState) (n : Dataset) (told : List ℕ) → ((u : List ℕ) → Agrees f u → UpstreamRow c m name f u g r d n told) → IsCourse d
  keeps_by g r d n told row = let has = here.has in row_keeps has.unread g r d n told (row has.unread has.agrees)

pub listens_keeps : (c : CourseState) (m : Dataset) (r : Result UpstreamStep UpstreamFault) (d : CourseState) (n : Dataset) (told : List ℕ) → IsCourse c → Listens c m r d n told → IsCourse d
listens_keeps c m r d n told i l = keeps_by c m l.name l.follow l.found i l.next r d n told l.row

-- what is fed comes behind the unread bytes
fed_by : (p : Phase) (t : Option Taking) (kept u bytes : List ℕ) → AgreesBy p t kept u → AgreesBy p t (kept ++ bytes) (u ++ bytes)
fed_by phase.Ping None kept u bytes h = ap (λ (l : List ℕ). l ++ bytes) h
fed_by phase.Port None kept u bytes h = ap (λ (l : List ℕ). l ++ bytes) h
fed_by phase.Capabilities None kept u bytes h = ap (λ (l : List ℕ). l ++ bytes) h
fed_by phase.Psync None kept u bytes h = ap (λ (l : List ℕ). l ++ bytes) h
fed_by (phase.Snapshot id o) None kept u bytes h = ap (λ (l : List ℕ). l ++ bytes) h
fed_by phase.Stream None kept u bytes h = ap (λ (l : List ℕ). l ++ bytes) h
fed_by phase.Ping (Some t) kept u bytes h = absurd h
fed_by phase.Port (Some t) kept u bytes h = absurd h
fed_by phase.Capabilities (Some t) kept u bytes h = absurd h
fed_by phase.Psync (Some t) kept u bytes h = absurd h
fed_by (phase.Snapshot id o) (Some t) kept u bytes h = record {
  line = h.line;
  front = h.front;
  is = ap (λ (l : List ℕ). l ++ bytes) h.is ∙ (append_assoc h.line (h.front ++ kept) bytes ∙ ap (λ (l : List ℕ). h.line ++ l) (append_assoc h.front kept bytes));
  says = h.says;
  makes = h.makes;
  head = h.head;
  done = h.done;
}
fed_by phase.Stream (Some t) kept u bytes h = absurd h

fed_reader : (master offers : Bool) (a : LineageState) (f : FollowState) (bytes : List ℕ) → IsReader master offers a f → IsReader master offers a (heard f bytes)
fed_reader master offers a f bytes r = record {
  replica = r.replica;
  fits = r.fits;
  has = record { unread = r.has.unread ++ bytes; agrees = record { by = fed_by f.phase f.taking f.kept r.has.unread bytes r.has.agrees.by } };
}

fed_in : (master offers : Bool) (a : LineageState) (follow : Option (LinkId × FollowState)) (bytes : List ℕ) → IfSome follow (λ f. IsReader master offers a f.1) → IfSome (hears_more bytes follow) (λ f. IsReader master offers a f.1)
fed_in master offers a None bytes i = tt
fed_in master offers a (Some f) bytes i = fed_reader master offers a f.1 bytes i

pub fed_keeps : (c : CourseState) (bytes : List ℕ) → IsCourse c → IsCourse (fed bytes c)
fed_keeps c bytes i = record { reader = fed_in c.master c.offers c.lineage c.follow bytes i.reader }

pub fed_or_same : {A E : Type 0} (r : Result A E) (c d : CourseState) (bytes : List ℕ) → IsCourse c → OnOk r (d ≡ fed bytes c) → OnErr r (d ≡ c) → IsCourse d
fed_or_same (Ok x) c d bytes i ok err = subst IsCourse (sym ok) (fed_keeps c bytes i)
fed_or_same (Err e) c d bytes i ok err = subst IsCourse (sym err) i
