-- Why a byte has its fault.
use Rattle.std.proofs.Common.{◌≡◌, ◌≢◌, ℕ, ◌+◌, ◌<◌, ◌≤◌, ◌⊎◌, inl, inr, Bool, true, false, ◌==◌, List, [], ◌∷◌, ◌++◌, length, All, refl, sym, ap, ◌∙◌, subst, arith}
use Rattle.std.proofs.lemmas.Bool.{cases_lt, eqb-true, eqb-false}
use Rattle.std.proofs.lemmas.List.{append-nil, length-append}
use Rattle.std.proofs.lemmas.List.Elements.{All-nil, All-cons, All-head, All-tail}
use Rattle.mr_inline.specs.Bytes.{line_feed, double_quote, single_quote, backslash, star, is_separator}
use Rattle.mr_inline.specs.Language.{Continues, IsDoomed, Fails}
use Rattle.mr_inline.specs.Line.{IsNext, IsLineText, IsTooBig, HasLineFault}
use Rattle.mr_inline.specs.Parts.{IsUnmarked}
use Rattle.mr_inline.specs.Places.{kind_of, turn_at, turn_of, need_of}
use Rattle.mr_inline.specs.Reasons.{IsInQuotes, EndsInQuotes, FollowsQuote, ClosesTooLate, IsUnbalanced}
use Rattle.mr_inline.specs.Scans.{HasNoQuote}
use Rattle.mr_inline.specs.declared.fault.LineFault.TheVariants.{UnbalancedQuotes}
use Rattle.mr_inline.specs.declared.place.Kind.{Kind}
use Rattle.mr_inline.specs.declared.place.Kind.TheVariants.{LineFeed, Separator, DoubleQuote, SingleQuote, Backslash, Other}
use Rattle.mr_inline.specs.declared.place.Place.{Place}
use Rattle.mr_inline.specs.declared.place.Place.TheVariants.{Between, Plain, Double, DoubleEscape, Single, SingleEscape, Closed}
use Rattle.mr_inline.specs.declared.place.Turn.{Turn}
use Rattle.mr_inline.specs.declared.place.Turn.TheVariants.{Goes, Ends, Breaks}
use Rattle.mr_inline.proofs.ByteKinds.{IsOfKind, of_kind, kind-line_feed}
use Rattle.mr_inline.proofs.Runs.{run, run-append, rank_run, ended, never_ends, goes_no_more}
use Rattle.mr_inline.proofs.LinesByRuns.{SomeLine, some_line, to_text, from_text, turn_of-line, IsOpen, continues}
use Rattle.mr_inline.proofs.SkipSteps.{IsUnquoted, unquoted_place, unquoted_turn, place_unquoted}

next_on : (b : ℕ) (xs ys : List ℕ) → IsNext b xs → IsNext b (xs ++ ys)
next_on b [] ys h = absurd h
next_on b (x ∷ xs) ys h = h

-- A beginning of a line leads to a place, from which there is room for its end.
open_front : (limit : ℕ) (front : List ℕ) → Continues (IsLineText limit) front → (place : Place) × IsOpen limit place front
open_front limit front h =
    let l = from_text limit (front ++ h.more) h.whole in
    by_turn l (turn_of front) refl (sym (run-append (Goes Between) front h.more) ∙ turn_of-line limit (front ++ h.more) l.words l.line)
  where
    by_turn : (l : SomeLine limit (front ++ h.more)) (turn : Turn) → turn_of front ≡ turn → run turn h.more ≡ Ends → (place : Place) × IsOpen limit place front
    by_turn l (Goes place) e r = (place, record { leads = e; room = omega (arith, rank_run h.more (Goes place) r, l.line.size, length-append front h.more); no_array = λ next. l.line.no_array (next_on star front h.more next) })
    by_turn l Ends e r = absurd (omega (arith, h.some, ap length (ended h.more r)))
    by_turn l Breaks e r = absurd (never_ends h.more r)

-- no line goes on behind its line feed
feed_stops : (place next : Place) → turn_at place LineFeed ≡ Goes next → ⊥
feed_stops Between next e = cc
feed_stops Plain next e = cc
feed_stops Double next e = cc
feed_stops DoubleEscape next e = cc
feed_stops Single next e = cc
feed_stops SingleEscape next e = cc
feed_stops Closed next e = cc

-- one of the other marks behind a closing quote
mark_follows : (front : List ℕ) (b mark : ℕ) → turn_of front ≡ Goes Closed → b ≡ mark → is_separator mark ≡ false → mark ≢ line_feed → FollowsQuote front b
mark_follows front b mark l e s n = record { leads = l; no_separator = subst (λ x. is_separator x ≡ false) (sym e) s; no_line_feed = λ f. n (sym e ∙ f) }

breaks_at : (limit : ℕ) (front : List ℕ) (place : Place) (kind : Kind) (b : ℕ) → turn_of front ≡ Goes place → IsOfKind kind b → turn_at place kind ≡ Breaks → IsUnbalanced limit front b
breaks_at limit front Between LineFeed b l f e = cc
breaks_at limit front Between kind b l f e = cc
breaks_at limit front Plain LineFeed b l f e = cc
breaks_at limit front Plain kind b l f e = cc
breaks_at limit front Double LineFeed b l f e = inl (record { place = Double; leads = l; quoted = tt; ends = f })
breaks_at limit front Double kind b l f e = cc
breaks_at limit front DoubleEscape LineFeed b l f e = inl (record { place = DoubleEscape; leads = l; quoted = tt; ends = f })
breaks_at limit front DoubleEscape kind b l f e = cc
breaks_at limit front Single LineFeed b l f e = inl (record { place = Single; leads = l; quoted = tt; ends = f })
breaks_at limit front Single kind b l f e = cc
breaks_at limit front SingleEscape LineFeed b l f e = inl (record { place = SingleEscape; leads = l; quoted = tt; ends = f })
breaks_at limit front SingleEscape kind b l f e = cc
breaks_at limit front Closed LineFeed b l f e = cc
breaks_at limit front Closed Separator b l f e = cc
breaks_at limit front Closed DoubleQuote b l f e = inr (inl (mark_follows front b double_quote l f refl (λ n. omega (arith, n))))
breaks_at limit front Closed SingleQuote b l f e = inr (inl (mark_follows front b single_quote l f refl (λ n. omega (arith, n))))
breaks_at limit front Closed Backslash b l f e = inr (inl (mark_follows front b backslash l f refl (λ n. omega (arith, n))))
breaks_at limit front Closed Other b l f e = inr (inl (record { leads = l; no_separator = f.0; no_line_feed = f.1.no_line_feed }))

-- the line goes on, but can't be ended within the limit
late_at : (limit : ℕ) (front : List ℕ) (next : Place) (b : ℕ) → turn_of (front ++ b ∷ []) ≡ Goes next → limit < length front + 1 + need_of next → (length front ≢ limit) ⊎ (length front < limit) → length front ≤ limit → IsUnbalanced limit front b
late_at limit front Between b l late room le = absurd (elim room [ inl n ↦ n (omega arith) | inr n ↦ omega arith ])
late_at limit front Plain b l late room le = absurd (elim room [ inl n ↦ n (omega arith) | inr n ↦ omega arith ])
late_at limit front Closed b l late room le = absurd (elim room [ inl n ↦ n (omega arith) | inr n ↦ omega arith ])
late_at limit front Double b l late room le = inr (inr (record { place = Double; leads = l; quoted = tt; late = late }))
late_at limit front DoubleEscape b l late room le = inr (inr (record { place = DoubleEscape; leads = l; quoted = tt; late = late }))
late_at limit front Single b l late room le = inr (inr (record { place = Single; leads = l; quoted = tt; late = late }))
late_at limit front SingleEscape b l late room le = inr (inr (record { place = SingleEscape; leads = l; quoted = tt; late = late }))

module _ (limit : ℕ) (front : List ℕ) (b : ℕ) (place : Place) (o : IsOpen limit place front) (none : IsNext star (front ++ b ∷ []) → ⊥) (d : IsDoomed (IsLineText limit) (front ++ b ∷ [])) (fault : IsTooBig limit front b → ⊥) where
  leads_on : (turn : Turn) → turn_at place (kind_of b) ≡ turn → turn_of (front ++ b ∷ []) ≡ turn
  leads_on turn e = run-append (Goes Between) front (b ∷ []) ∙ ap (λ t. run t (b ∷ [])) o.leads ∙ e

  longer : length (front ++ b ∷ []) ≡ length front + 1
  longer = omega (arith, length-append front (b ∷ []))

  by_turn : (turn : Turn) → turn_at place (kind_of b) ≡ turn → IsUnbalanced limit front b
  by_turn (Goes next) e = elim (cases_lt limit (length front + 1 + need_of next)) [
    | inl late ↦
        let no_feed : b ≢ line_feed = λ f. feed_stops place next (ap (turn_at place) (sym (ap kind_of f ∙ kind-line_feed)) ∙ e) in
        late_at limit front next b (leads_on (Goes next) e) late (inl (λ full. fault (full, no_feed))) (omega (arith, o.room))
    | inr fits ↦
        let more = continues limit next (front ++ b ∷ []) (record { leads = leads_on (Goes next) e; room = omega (arith, longer, fits); no_array = none }) in
        absurd (d.never more.more ((front ++ b ∷ []) ++ more.more) [] more.whole (sym (append-nil ((front ++ b ∷ []) ++ more.more))))
  ]
  by_turn Ends e =
      let l = some_line limit (front ++ b ∷ []) (leads_on Ends e) (omega (arith, longer, o.room)) none in
      absurd (d.never [] (front ++ b ∷ []) [] (to_text limit (front ++ b ∷ []) l.words l.line) refl)
  by_turn Breaks e = breaks_at limit front place (kind_of b) b o.leads (of_kind b) e

  pub unbalanced_at : IsUnbalanced limit front b
  unbalanced_at = by_turn (turn_at place (kind_of b)) refl

front_no_star : (front rest : List ℕ) (b : ℕ) → (IsNext star (front ++ b ∷ rest) → ⊥) → IsNext star (front ++ b ∷ []) → ⊥
front_no_star [] rest b none h = none h
front_no_star (x ∷ front) rest b none h = none h

pub unbalanced_behind : (limit : ℕ) (front : List ℕ) (b : ℕ) → Continues (IsLineText limit) front → (IsNext star (front ++ b ∷ []) → ⊥) → IsDoomed (IsLineText limit) (front ++ b ∷ []) → (IsTooBig limit front b → ⊥) → IsUnbalanced limit front b
unbalanced_behind limit front b h none d fault = (let place = open_front limit front h in unbalanced_at limit front b place.0 place.1 none d fault)

pub unbalanced_quotes : (limit : ℕ) (bytes : List ℕ) → (IsNext star bytes → ⊥) → (p : Fails (IsLineText limit) (HasLineFault limit UnbalancedQuotes) bytes) → IsUnbalanced limit p.front p.byte
unbalanced_quotes limit bytes none p =
    unbalanced_behind limit p.front p.byte p.before (front_no_star p.front p.rest p.byte (subst (λ (x : List ℕ). IsNext star x → ⊥) p.is none)) p.doomed p.fault

-- where no quote stands, none is open or just closed
not_both : (place : Place) → IsUnquoted place → IsInQuotes place → ⊥
not_both Between u q = q
not_both Plain u q = q
not_both Double u q = u
not_both DoubleEscape u q = u
not_both Single u q = u
not_both SingleEscape u q = u
not_both Closed u q = u

feed_unquoted : (place : Place) → IsUnquoted place → turn_at place LineFeed ≡ Ends
feed_unquoted Between u = refl
feed_unquoted Plain u = refl
feed_unquoted Double u = absurd u
feed_unquoted DoubleEscape u = absurd u
feed_unquoted Single u = absurd u
feed_unquoted SingleEscape u = absurd u
feed_unquoted Closed u = absurd u

abbrev IsNoQuote : ℕ → Type 0
IsNoQuote b = (b ≢ double_quote) × (b ≢ single_quote)

stays_unquoted : (xs : List ℕ) (place next : Place) → IsUnquoted place → HasNoQuote xs → run (Goes place) xs ≡ Goes next → IsUnquoted next
stays_unquoted [] place next u h e = let same : place ≡ next = cc in subst IsUnquoted same u
stays_unquoted (b ∷ xs) place next u h e = by_feed (λ p v r. stays_unquoted xs p next v (All-tail IsNoQuote b xs h) r) (b == line_feed) refl
  where
    by_feed : ((p : Place) → IsUnquoted p → run (Goes p) xs ≡ Goes next → IsUnquoted next) → (t : Bool) → (b == line_feed) ≡ t → IsUnquoted next
    by_feed later true is =
        let ends : turn_at place (kind_of b) ≡ Ends = ap (turn_at place) (ap kind_of (eqb-true b line_feed is) ∙ kind-line_feed) ∙ feed_unquoted place u in
        absurd (goes_no_more xs next (ap (λ t. run t xs) (sym ends) ∙ e))
    by_feed later false is =
        let none = All-head IsNoQuote b xs h in
        let goes = unquoted_turn place (kind_of b) b u (of_kind b) (record { no_double = none.0; no_single = none.1; no_line_feed = eqb-false b line_feed is }) in
        later (unquoted_place (kind_of b)) (place_unquoted (kind_of b)) (ap (λ t. run t xs) (sym goes) ∙ e)

pub all_front : {X : Type 0} (P : X → Type 0) (xs ys : List X) → All P (xs ++ ys) → All P xs
all_front P [] ys h = All-nil P
all_front P (x ∷ xs) ys h = All-cons P x xs (All-head P x (xs ++ ys) h) (all_front P xs ys (All-tail P x (xs ++ ys) h))

pub no_quote_balanced : (limit : ℕ) (front : List ℕ) (b : ℕ) → HasNoQuote (front ++ b ∷ []) → IsUnbalanced limit front b → ⊥
no_quote_balanced limit front b h (inl r) = not_both r.place (stays_unquoted front Between r.place tt (all_front IsNoQuote front (b ∷ []) h) r.leads) r.quoted
no_quote_balanced limit front b h (inr (inl r)) = stays_unquoted front Between Closed tt (all_front IsNoQuote front (b ∷ []) h) r.leads
no_quote_balanced limit front b h (inr (inr r)) = not_both r.place (stays_unquoted (front ++ b ∷ []) Between r.place tt h r.leads) r.quoted
