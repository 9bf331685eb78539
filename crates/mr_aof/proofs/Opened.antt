-- A file that is read piece by piece, and what is kept of it.
use Rattle.std.proofs.Common.{◌≡◌, ℕ, ◌<◌, ◌≤◌, ◌+◌, ◌-◌, ◌^◌, ◌⊎◌, List, [], ◌++◌, length, take, drop, Bool, true, false, Option, Some, None, IfSome, refl, sym, ap, subst, ◌∙◌, arith, append_assoc, append-nil, inl, inr, lit<, take-add, take_at, length-append, length-take, length-drop}
use Rattle.std.specs.FinMap.{empty}
use Rattle.std.proofs.lemmas.Bool.{cases_lt}
use Rattle.std.proofs.lemmas.List.{take-append-drop, take-take, drop_all, drop_at, length-take-le}
use Rattle.mr_keyspace.specs.Dataset.{Dataset}
use Rattle.mr_file.specs.LogFile.{Rose, Reads, ReadsSome}
use Rattle.mr_groups.specs.Groups.{group_text}
use Rattle.mr_groups.specs.Reading.{BeginsWithGroup}
use Rattle.mr_groups.specs.Folding.{MakesByGroups, LoadsGroups, IsStuckByGroups}
use Rattle.mr_groups.specs.Fronts.{EndsAt}
use Rattle.mr_groups.specs.Replaying.{BeginsTorn, IsReadByGroups, IsReadUpTo, IsRest}
use Rattle.mr_groups.specs.declared.front.Rest.{Rest}
use Rattle.mr_groups.specs.declared.front.Rest.TheVariants as rest
use Rattle.mr_groups.proofs.Notes.{nothing_open}
use Rattle.mr_groups.proofs.Runs.{makes_nothing, read_is_longest, some_text, stuck_where_open}
use Rattle.mr_groups.proofs.Going.{loads_once, stuck_where_bad, stuck_where_torn}
use Rattle.mr_aof.specs.ReadThrough.{IsWithin, IsBefore, IsKnownEnd, IsStop, IsReadThrough, IsMade}

-- so many bytes were read
pub record IsUnderWay (file : Option (List ℕ)) (at : ℕ) (m : Dataset) (unread : List ℕ) : Type 0 where
  pub read : IfSome file (λ xs. (at ≤ length xs) × IsReadByGroups (take at xs) m unread)
  pub stuck : IsStuckByGroups m unread
  pub counted : length unread ≤ at

-- ---- the beginning

none_stuck : (m : Dataset) → IsStuckByGroups m []
none_stuck m = stuck_where_open m [] (inr nothing_open)

nothing_read : (m : Dataset) (unread : List ℕ) → m ≡ empty → unread ≡ [] → IsReadByGroups [] m unread
nothing_read m unread p q = record { front = []; is = sym q; made = subst (λ n. MakesByGroups [] n) (sym p) makes_nothing }

read_of_none : (file : Option (List ℕ)) (m : Dataset) (unread : List ℕ) → m ≡ empty → unread ≡ [] → IfSome file (λ xs. (0 ≤ length xs) × IsReadByGroups (take 0 xs) m unread)
read_of_none None m unread p q = tt
read_of_none (Some xs) m unread p q = (omega arith, nothing_read m unread p q)

pub begins : (file : Option (List ℕ)) (m : Dataset) (unread : List ℕ) → m ≡ empty → unread ≡ [] → IsUnderWay file 0 m unread
begins file m unread p q = record {
  read = read_of_none file m unread p q;
  stuck = subst (IsStuckByGroups m) (sym q) (none_stuck m);
  counted = omega (arith, ap length q);
}

pub begins_within : (end : Option ℕ) → IsWithin 0 end
begins_within None = lit< tt
begins_within (Some e) = omega arith

-- ---- a piece more

-- the piece that was read is what stands in the file behind what was read before
piece_is : (xs before after : List ℕ) (at n k : ℕ) → after ≡ take n (drop at xs) ++ drop n before → length after ≡ length before → n ≤ length before → k ≤ n
    → (take k after ≡ take k (drop at xs)) × (length (take k (drop at xs)) ≡ k)
piece_is xs before after at n k read same within fewer =
    let d = take n (drop at xs) in
    let lens : length after ≡ length d + length (drop n before) = ap length read ∙ length-append d (drop n before) in
    let enough : length d ≡ n = omega (arith, lens, same, within, length-take n (drop at xs), length-drop n before) in
    let all : take n after ≡ d = ap (take n) read ∙ take_at d (drop n before) n enough in
    (sym (take-take k n after fewer) ∙ (ap (take k) all ∙ take-take k n (drop at xs) fewer), omega (arith, enough, fewer, length-take n (drop at xs), length-take k (drop at xs)))

read_on : (file then : Option (List ℕ)) (at n k : ℕ) (before after fed unread unread' : List ℕ) (m m' : Dataset) (r : Rest) → then ≡ file
    → IfSome file (λ xs. (at ≤ length xs) × IsReadByGroups (take at xs) m unread) → Reads then at before after n → length after ≡ length before → n ≤ length before → k ≤ n → fed ≡ take k after
    → ((bytes : List ℕ) → IsReadByGroups bytes m unread → IsReadUpTo (bytes ++ fed) m' unread' r) → IfSome file (λ xs. (at + k ≤ length xs) × IsReadUpTo (take (at + k) xs) m' unread' r)
read_on None then at n k before after fed unread unread' m m' r e old read same within fewer is feeds = tt
read_on (Some xs) then at n k before after fed unread unread' m m' r e old read same within fewer is feeds =
    let piece = piece_is xs before after at n k (subst (λ o. Reads o at before after n) e read) same within fewer in
    let long : at + k ≤ length xs = omega (arith, old.0, piece.1, length-take k (drop at xs), length-drop at xs) in
    (long, subst (λ (t : List ℕ). IsReadUpTo t m' unread' r) (ap (λ (t : List ℕ). take at xs ++ t) (is ∙ piece.0) ∙ sym (take-add at k xs)) (feeds (take at xs) old.1))

-- what is left once a piece was read
pub record HasRest (file : Option (List ℕ)) (at : ℕ) (m : Dataset) (unread : List ℕ) (r : Rest) : Type 0 where
  pub read : IfSome file (λ xs. (at ≤ length xs) × IsReadUpTo (take at xs) m unread r)
  pub left : IsRest m unread r
  pub counted : length unread ≤ at

pub goes_on : (file then : Option (List ℕ)) (at n k : ℕ) (before after fed unread unread' : List ℕ) (m m' : Dataset) (r : Rest) → IsUnderWay file at m unread → then ≡ file
    → Reads then at before after n → length after ≡ length before → n ≤ length before → k ≤ n
    → ((bytes : List ℕ) → IsReadByGroups bytes m unread → IsReadUpTo (bytes ++ fed) m' unread' r) → IsRest m' unread' r → length unread' ≤ length unread + length fed → fed ≡ take k after
    → HasRest file (at + k) m' unread' r
goes_on file then at n k before after fed unread unread' m m' r old e read same within fewer feeds left shorter is = record {
  read = read_on file then at n k before after fed unread unread' m m' r e old.read read same within fewer is feeds;
  left = left;
  counted = omega (arith, old.counted, shorter, ap length is, length-take k after, same, within, fewer);
}

pub under_way : (file : Option (List ℕ)) (at : ℕ) (m : Dataset) (unread : List ℕ) (r : Rest) → r ≡ rest.Open → HasRest file at m unread r → IsUnderWay file at m unread
under_way file at m unread r is h =
    record {
      read = subst (λ x. IfSome file (λ xs. (at ≤ length xs) × IsReadUpTo (take at xs) m unread x)) is h.read;
      stuck = stuck_where_open m unread (subst (IsRest m unread) is h.left);
      counted = h.counted;
    }

-- ---- the end

at_end : (at n : ℕ) (buffer : List ℕ) → at ≤ n → 0 < length buffer → (at < n → 0 < length buffer → 0 < 0) → at ≡ n
at_end at n buffer within room some = elim (cases_lt at n) [ inl less ↦ absurd (omega (arith, some less room)) | inr least ↦ omega (arith, within, least) ]

-- no byte more is to be read: none is there, or none stands before the end
why_none : (xs : List ℕ) (end : Option ℕ) (at n k : ℕ) (buffer : List ℕ) → at ≤ length xs → (at < length xs → 0 < length buffer → 0 < n) → k ≤ n → (k < n → end ≡ Some (at + k)) → k ≡ 0 → 0 < length buffer
    → (at ≡ length xs) ⊎ (end ≡ Some at)
why_none xs end at n k buffer within some fewer all none room = elim (cases_lt k n) [
  | inl less ↦ inr (all less ∙ ap (λ i. Some (at + i)) none ∙ ap Some (omega arith))
  | inr least ↦
      let nothing : n ≡ 0 = omega (arith, least, fewer, none) in
      inl (at_end at (length xs) buffer within room (λ p q. subst (λ i. 0 < i) nothing (some p q)))
]

end_of : (file : Option (List ℕ)) (end : Option ℕ) (at n k : ℕ) (buffer unread : List ℕ) (m : Dataset) → IsStuckByGroups m unread → IfSome file (λ xs. (at ≤ length xs) × IsReadByGroups (take at xs) m unread)
    → ReadsSome file at buffer n → k ≤ n → (k < n → end ≡ Some (at + k)) → k ≡ 0 → 0 < length buffer → IfSome file (λ xs. IsReadThrough xs end at m unread rest.Open)
end_of None end at n k buffer unread m stuck read some fewer all none room = tt
end_of (Some xs) end at n k buffer unread m stuck read some fewer all none room =
    record { within = read.0; read = read.1; stop = (stuck, why_none xs end at n k buffer read.0 some fewer all none room) }

pub ends : (file then : Option (List ℕ)) (end : Option ℕ) (at n k : ℕ) (buffer unread : List ℕ) (m : Dataset) → IsUnderWay file at m unread → then ≡ file → ReadsSome then at buffer n
    → k ≤ n → (k < n → end ≡ Some (at + k)) → k ≡ 0 → 0 < length buffer → IfSome file (λ xs. IsReadThrough xs end at m unread rest.Open)
ends file then end at n k buffer unread m old e some fewer all none room =
    end_of file end at n k buffer unread m old.stuck old.read (subst (λ o. ReadsSome o at buffer n) e some) fewer all none room

-- .. or where no group can follow
stop_of : (xs : List ℕ) (end : Option ℕ) (at : ℕ) (m : Dataset) (unread : List ℕ) (r : Rest) → (r ≡ rest.Open → ⊥) → IsRest m unread r → IsStop xs end at m unread r
stop_of xs end at m unread rest.Open closed left = absurd (closed refl)
stop_of xs end at m unread rest.Bad closed left = stuck_where_bad unread m left
stop_of xs end at m unread rest.Torn closed left = tt

pub stops : (file : Option (List ℕ)) (end : Option ℕ) (at : ℕ) (m : Dataset) (unread : List ℕ) (r : Rest) → (r ≡ rest.Open → ⊥) → HasRest file at m unread r → IfSome file (λ xs. IsReadThrough xs end at m unread r)
stops None end at m unread r closed h = tt
stops (Some xs) end at m unread r closed h = record { within = h.read.0; read = h.read.1; stop = stop_of xs end at m unread r closed h.left }

pub torn_some : (m : Dataset) (unread : List ℕ) (r : Rest) → IsRest m unread r → r ≡ rest.Torn → 0 < length unread
torn_some m unread r left is =
    let torn : (made : Dataset) × BeginsTorn made unread m = subst (IsRest m unread) is left in
    let b : BeginsWithGroup unread = torn.1.front in
    omega (arith, ap length b.is, length-append (group_text b.group) b.behind, some_text b.group b.good)

-- ---- what is loaded

whole_is : (xs : List ℕ) (at : ℕ) (front unread : List ℕ) → take at xs ≡ front ++ unread → xs ≡ front ++ (unread ++ drop at xs)
whole_is xs at front unread is = sym (take-append-drop at xs) ∙ (ap (λ (t : List ℕ). t ++ drop at xs) is ∙ append_assoc front unread (drop at xs))

used_is : (xs : List ℕ) (at : ℕ) (front unread : List ℕ) → at ≤ length xs → take at xs ≡ front ++ unread → length front ≡ at - length unread
used_is xs at front unread within is =
    let long : at ≡ length front + length unread = sym (length-take-le at xs within) ∙ (ap length is ∙ length-append front unread) in
    omega (arith, long)

-- where no group goes on behind all that was read
loads_at : (xs : List ℕ) (at : ℕ) (m : Dataset) (unread : List ℕ) → at ≤ length xs → IsReadByGroups (take at xs) m unread → IsStuckByGroups m (unread ++ drop at xs) → LoadsGroups xs (at - length unread) m
loads_at xs at m unread within read stuck =
    subst (λ n. LoadsGroups xs n m) (used_is xs at read.front unread within read.is)
    (read_is_longest xs read.front (unread ++ drop at xs) m (whole_is xs at read.front unread read.is) read.made stuck)

-- all of what is known to be the longest beginning was read
loads_known : (xs : List ℕ) (at : ℕ) (m : Dataset) (unread : List ℕ) → EndsAt xs at → IsReadByGroups (take at xs) m unread → IsStuckByGroups m unread → LoadsGroups xs (at - length unread) m
loads_known xs at m unread known read stuck =
    subst (λ n. LoadsGroups xs n m) (used_is xs at read.front unread known.within read.is)
    (loads_once xs at (length read.front) m known (read_is_longest (take at xs) read.front unread m read.is read.made stuck))

loads_open : (xs : List ℕ) (end : Option ℕ) (at : ℕ) (m : Dataset) (unread : List ℕ) → IsKnownEnd xs end → at ≤ length xs → IsReadByGroups (take at xs) m unread → IsStuckByGroups m unread → (at ≡ length xs) ⊎ (end ≡ Some at)
    → LoadsGroups xs (at - length unread) m
loads_open xs end at m unread known within read stuck (inl all) =
    let none : drop at xs ≡ [] = drop_all at xs (omega (arith, all)) in
    loads_at xs at m unread within read (subst (IsStuckByGroups m) (sym (ap (λ (t : List ℕ). unread ++ t) none ∙ append-nil unread)) stuck)
loads_open xs end at m unread known within read stuck (inr is) = loads_known xs at m unread (subst (IsKnownEnd xs) is known) read stuck

-- nothing more stands in the file
no_end : (end : Option ℕ) (at : ℕ) → end ≡ None → end ≡ Some at → ⊥
no_end end at p q = let wrong : None ≡ Some at = sym p ∙ q in cc

all_used : (xs : List ℕ) (end : Option ℕ) (at : ℕ) (m : Dataset) (unread : List ℕ) (r : Rest) → IsReadThrough xs end at m unread r → r ≡ rest.Open → end ≡ None → at ≤ at - length unread → at - length unread ≡ length xs
all_used xs end at m unread r h is none few =
    let stop : IsStop xs end at m unread rest.Open = subst (IsStop xs end at m unread) is h.stop in
    elim (stop.1) [
      | inl all ↦ omega (arith, all, few)
      | inr known ↦ absurd (no_end end at none known)
    ]

-- where the bytes tell no reason
made_open : (xs : List ℕ) (end : Option ℕ) (at : ℕ) (m : Dataset) (unread : List ℕ) (more : Bool) → IsKnownEnd xs end → IsReadThrough xs end at m unread rest.Open
    → (more ≡ false → (end ≡ None) × (at ≤ at - length unread)) → IsMade xs (at - length unread) m more
made_open xs end at m unread more known h none =
    (loads_open xs end at m unread known h.within h.read h.stop.0 h.stop.1, λ e. let n = none e in all_used xs end at m unread rest.Open h refl n.0 n.1)

-- .. or they are bad
made_bad : (xs : List ℕ) (end : Option ℕ) (at : ℕ) (m : Dataset) (unread : List ℕ) (more : Bool) → IsReadThrough xs end at m unread rest.Bad → more ≡ true → IsMade xs (at - length unread) m more
made_bad xs end at m unread more h is = (loads_at xs at m unread h.within h.read (h.stop (drop at xs)), λ e. absurd (not_both more is e))
  where
    not_both : (b : Bool) → b ≡ true → b ≡ false → ⊥
    not_both b p q = let wrong : true ≡ false = sym p ∙ q in cc

-- what is told of a reading: its dataset, and how much was used
pub record IsTold (at : ℕ) (m : Dataset) (unread shown : List ℕ) (used : ℕ) (m' : Dataset) : Type 0 where
  pub dataset : m' ≡ m
  pub shown_is : shown ≡ unread
  pub used_is : used ≡ at - length shown

retold : (xs : List ℕ) (at : ℕ) (m m' : Dataset) (unread shown : List ℕ) (used : ℕ) (more : Bool) → IsTold at m unread shown used m' → IsMade xs (at - length unread) m more → IsMade xs used m' more
retold xs at m m' unread shown used more t made =
    subst (λ n. IsMade xs used n more) (sym t.dataset) (subst (λ n. IsMade xs n m more) (sym (t.used_is ∙ ap (λ (u : List ℕ). at - length u) t.shown_is)) made)

pub makes_open : (file : Option (List ℕ)) (end : Option ℕ) (at : ℕ) (m m' : Dataset) (unread shown : List ℕ) (used : ℕ) (r : Rest) (more : Bool) → r ≡ rest.Open → IfSome file (λ xs. IsKnownEnd xs end)
    → IfSome file (λ xs. IsReadThrough xs end at m unread r) → IsTold at m unread shown used m' → (more ≡ false → (end ≡ None) × (at ≤ at - length shown)) → IfSome file (λ xs. IsMade xs used m' more)
makes_open None end at m m' unread shown used r more is known h t none = tt
makes_open (Some xs) end at m m' unread shown used r more is known h t none =
    retold xs at m m' unread shown used more t
    (made_open xs end at m unread more known (subst (IsReadThrough xs end at m unread) is h) (subst (λ (u : List ℕ). more ≡ false → (end ≡ None) × (at ≤ at - length u)) t.shown_is none))

pub makes_bad : (file : Option (List ℕ)) (end : Option ℕ) (at : ℕ) (m m' : Dataset) (unread shown : List ℕ) (used : ℕ) (r : Rest) (more : Bool) → r ≡ rest.Bad
    → IfSome file (λ xs. IsReadThrough xs end at m unread r) → IsTold at m unread shown used m' → more ≡ true → IfSome file (λ xs. IsMade xs used m' more)
makes_bad None end at m m' unread shown used r more is h t all = tt
makes_bad (Some xs) end at m m' unread shown used r more is h t all =
    retold xs at m m' unread shown used more t (made_bad xs end at m unread more (subst (IsReadThrough xs end at m unread) is h) all)

-- ---- where a group is torn

ends_of : (xs : List ℕ) (end : Option ℕ) (at : ℕ) (m : Dataset) (unread : List ℕ) → IsReadThrough xs end at m unread rest.Torn → EndsAt xs (at - length unread)
ends_of xs end at m unread h =
    let read = h.read.1 in
    let front = read.front in
    let behind = unread ++ drop at xs in
    let whole : xs ≡ front ++ behind = whole_is xs at front unread read.is in
    subst (EndsAt xs) (used_is xs at front unread h.within read.is) (record {
      within = omega (arith, ap length whole, length-append front behind);
      made = h.read.0;
      led = subst (λ (t : List ℕ). MakesByGroups t h.read.0) (sym (ap (take (length front)) whole ∙ take_at front behind (length front) refl)) read.made;
      stuck = subst (IsStuckByGroups h.read.0) (sym (ap (drop (length front)) whole ∙ drop_at front behind (length front) refl)) (stuck_where_torn unread h.read.0 m h.read.2 (drop at xs));
    })

pub is_torn : (file : Option (List ℕ)) (end : Option ℕ) (at : ℕ) (m : Dataset) (unread shown : List ℕ) (r : Rest) → r ≡ rest.Torn → IfSome file (λ xs. IsReadThrough xs end at m unread r) → shown ≡ unread → IfSome file (λ xs. EndsAt xs (at - length shown))
is_torn None end at m unread shown r is h f = tt
is_torn (Some xs) end at m unread shown r is h f = subst (λ (u : List ℕ). EndsAt xs (at - length u)) (sym f) (ends_of xs end at m unread (subst (IsReadThrough xs end at m unread) is h))

pub earlier : (end : Option ℕ) (at : ℕ) (unread shown : List ℕ) → IsWithin at end → shown ≡ unread → length unread ≤ at → 0 < length unread → IsBefore (at - length shown) end
earlier None at unread shown within f counted some = omega (arith, within, ap length f, some, counted)
earlier (Some e) at unread shown within f counted some = omega (arith, within, ap length f, some, counted)

-- how far a reading goes
abbrev pub bound : Option ℕ → ℕ
bound None = 2 ^ 64
bound (Some end) = end

pub goes_less_far : (end : Option ℕ) (used : ℕ) → IsBefore used end → used < bound end
goes_less_far None used h = h
goes_less_far (Some e) used h = h

-- ---- failures

-- a count that was at most as great before rose too
pub rose_since : (a b c : ℕ) → a ≤ b → Rose b c → Rose a c
rose_since a b c h (inl less) = inl (omega (arith, h, less))
rose_since a b c h (inr greatest) = inr greatest
