-- Command texts one after another, and that what stands at the front of bytes is one thing.
use Rattle.std.proofs.Common.{◌≡◌, ℕ, List, [], ◌∷◌, ◌++◌, ◌⊎◌, inl, inr, length, drop, map, refl, sym, ap, subst, ◌∙◌, append_assoc, All}
use Rattle.std.specs.List.{concat}
use Rattle.std.proofs.lemmas.List.{append_cancel_left, append-nil, length-take-le, take-append-drop}
use Rattle.std.proofs.lemmas.List.Elements.{All-nil, All-cons, All-head, All-tail, All-append}
use Rattle.std.proofs.lemmas.List.Folds.{concat-append}
use Rattle.mr_inline.specs.Language.{Continues, IsDoomed}
use Rattle.mr_effect.specs.Spelling.{text, texts}
use Rattle.mr_effect.specs.declared.effect.Effect.{Effect}
use Rattle.mr_groups.specs.Groups.{IsGoodGroup, multi, exec, group_text, parts}
use Rattle.mr_groups.specs.Reading.{IsFirstGroup, BeginsWithGroup, BeginGroup, IsOpen, IsBad}
use Rattle.mr_groups.proofs.Apart.{one_group}
use Rattle.mr_groups.proofs.Openings.{IsWhole, same_text, no_command, no_doomed, multi_text, exec_text, concat_texts, all_commands}

-- the second texts are the first ones and more, and the first rest has these more in front of the second
record GoesOn (ts us : List (List ℕ)) (x y : List ℕ) : Type 0 where
  pub more : List (List ℕ)
  pub is : us ≡ ts ++ more
  pub rest : x ≡ concat more ++ y
  pub each : All IsWhole more

-- .. or the other way round, by one text at least
record EndsBefore (ts us : List (List ℕ)) (x y : List ℕ) : Type 0 where
  pub next : List ℕ
  pub more : List (List ℕ)
  pub is : ts ≡ us ++ (next ∷ more)
  pub rest : next ++ (concat more ++ x) ≡ y
  pub command : IsWhole next

compare : (ts us : List (List ℕ)) (x y : List ℕ) → All IsWhole ts → All IsWhole us → concat ts ++ x ≡ concat us ++ y → GoesOn ts us x y ⊎ EndsBefore ts us x y
compare [] us x y c d q = inl (record { more = us; is = refl; rest = q; each = d })
compare (t ∷ ts) [] x y c d q = inr (record { next = t; more = ts; is = refl; rest = sym (append_assoc t (concat ts) x) ∙ q; command = All-head IsWhole t ts c })
compare (t ∷ ts) (u ∷ us) x y c d q =
    let split : t ++ (concat ts ++ x) ≡ u ++ (concat us ++ y) = sym (append_assoc t (concat ts) x) ∙ (q ∙ append_assoc u (concat us) y) in
    let same = same_text t u (concat ts ++ x) (concat us ++ y) (All-head IsWhole t ts c) (All-head IsWhole u us d) split in
    let behind = append_cancel_left t (concat ts ++ x) (concat us ++ y) (split ∙ ap (λ (z : List ℕ). z ++ (concat us ++ y)) (sym same)) in
    longer t u ts us x y same (compare ts us x y (All-tail IsWhole t ts c) (All-tail IsWhole u us d) behind)
  where
    both_heads : (a b : List ℕ) (xs ys : List (List ℕ)) → a ≡ b → xs ≡ ys → a ∷ xs ≡ b ∷ ys
    both_heads a b xs ys p r = cc

    longer : (a b : List ℕ) (as1 bs : List (List ℕ)) (z w : List ℕ) → a ≡ b → GoesOn as1 bs z w ⊎ EndsBefore as1 bs z w → GoesOn (a ∷ as1) (b ∷ bs) z w ⊎ EndsBefore (a ∷ as1) (b ∷ bs) z w
    longer a b as1 bs z w same (inl g) = inl (record { more = g.more; is = both_heads b a bs (as1 ++ g.more) (sym same) g.is; rest = g.rest; each = g.each })
    longer a b as1 bs z w same (inr e) = inr (record { next = e.next; more = e.more; is = both_heads a b as1 (bs ++ (e.next ∷ e.more)) same e.is; rest = e.rest; command = e.command })

-- ---- a group's text is its parts joined

joined_inside : (es : List Effect) → concat (multi ∷ (map text es ++ exec ∷ [])) ≡ multi ++ (texts es ++ exec)
joined_inside es = ap (λ (t : List ℕ). multi ++ t) (concat-append (map text es) (exec ∷ []) ∙ (ap (λ (t : List ℕ). t ++ (exec ++ [])) (concat_texts es) ∙ ap (λ (t : List ℕ). texts es ++ t) (append-nil exec)))

joined : (es : List Effect) → concat (parts es) ≡ group_text es
joined [] = joined_inside []
joined (e ∷ []) = append-nil (text e)
joined (e ∷ f ∷ es) = joined_inside (e ∷ f ∷ es)

framed_commands : (es : List Effect) → IsGoodGroup es → All IsWhole (multi ∷ (map text es ++ exec ∷ []))
framed_commands es g = All-cons IsWhole multi (map text es ++ exec ∷ []) multi_text (All-append IsWhole (map text es) (exec ∷ []) (all_commands es g.good) (All-cons IsWhole exec [] exec_text (All-nil IsWhole)))

each_command : (es : List Effect) → IsGoodGroup es → All IsWhole (parts es)
each_command [] g = framed_commands [] g
each_command (e ∷ []) g = all_commands (e ∷ []) g.good
each_command (e ∷ f ∷ es) g = framed_commands (e ∷ f ∷ es) g

-- ---- the answers exclude one another

abbrev pub begins : (bytes : List ℕ) (es : List Effect) (n : ℕ) → IsFirstGroup bytes es n → BeginsWithGroup bytes
begins bytes es n w = record { group = es; good = w.good; behind = drop n bytes; is = sym (take-append-drop n bytes) ∙ ap (λ (x : List ℕ). x ++ drop n bytes) w.is_text }

pub one_whole_group : (bytes : List ℕ) (es fs : List Effect) (n k : ℕ) → IsFirstGroup bytes es n → IsFirstGroup bytes fs k → (es ≡ fs) × (n ≡ k)
one_whole_group bytes es fs n k w v =
    let one = begins bytes es n w in
    let two = begins bytes fs k v in
    let same = (one_group es fs one.behind two.behind w.good v.good (sym one.is ∙ two.is)).0 in
    let long : length (group_text es) ≡ n = ap length (sym w.is_text) ∙ length-take-le n bytes w.within in
    let wide : length (group_text fs) ≡ k = ap length (sym v.is_text) ∙ length-take-le k bytes v.within in
    (same, sym long ∙ (ap (λ gs. length (group_text gs)) same ∙ wide))

open_end_is_not_doomed : (rest : List ℕ) → Continues IsWhole rest → IsDoomed IsWhole rest → ⊥
open_end_is_not_doomed rest begun doomed = doomed.never begun.more (rest ++ begun.more) [] begun.whole (sym (append-nil (rest ++ begun.more)))

pub open_is_not_bad : (bytes : List ℕ) → IsOpen bytes → IsBad bytes → ⊥
open_is_not_bad bytes o b = by_order (compare o.front b.front o.rest b.rest o.cut.each b.cut.each (sym o.cut.is ∙ b.cut.is))
  where
    goes_on : (more : List (List ℕ)) → b.front ≡ o.front ++ more → o.rest ≡ concat more ++ b.rest → All IsWhole more → ⊥
    goes_on (v ∷ vs) is rest each = no_command v (concat vs ++ b.rest) o.rest (All-head IsWhole v vs each) o.open_end (rest ∙ append_assoc v (concat vs) b.rest)
    goes_on [] is rest each = elim b.bad [
      | inl none ↦ none (subst BeginGroup (sym (is ∙ append-nil o.front)) o.begin)
      | inr doomed ↦ open_end_is_not_doomed b.rest (subst (Continues IsWhole) rest o.open_end) doomed
    ]

    ends_before : EndsBefore o.front b.front o.rest b.rest → ⊥
    ends_before e = elim b.bad [
      | inl none ↦ none (record {
        group = o.begin.group;
        good = o.begin.good;
        more = (e.next ∷ e.more) ++ o.begin.more;
        is = o.begin.is ∙ (ap (λ (ts : List (List ℕ)). ts ++ o.begin.more) e.is ∙ append_assoc b.front (e.next ∷ e.more) o.begin.more);
      })
      | inr doomed ↦ no_doomed e.next (concat e.more ++ o.rest) b.rest e.command doomed (sym e.rest)
    ]

    by_order : GoesOn o.front b.front o.rest b.rest ⊎ EndsBefore o.front b.front o.rest b.rest → ⊥
    by_order (inl g) = goes_on g.more g.is g.rest g.each
    by_order (inr e) = ends_before e

pub bad_for_good : (bytes more : List ℕ) → IsBad bytes → BeginsWithGroup (bytes ++ more) → ⊥
bad_for_good bytes more b g = by_order (compare b.front (parts g.group) (b.rest ++ more) g.behind b.cut.each (each_command g.group g.good) both)
  where
    both : concat b.front ++ (b.rest ++ more) ≡ concat (parts g.group) ++ g.behind
    both = sym (append_assoc (concat b.front) b.rest more) ∙ (ap (λ (t : List ℕ). t ++ more) (sym b.cut.is) ∙ (g.is ∙ ap (λ (t : List ℕ). t ++ g.behind) (sym (joined g.group))))

    is_there : (behind : List ℕ) → bytes ≡ concat (parts g.group) ++ behind → ⊥
    is_there behind is = b.none (record { group = g.group; good = g.good; behind = behind; is = is ∙ ap (λ (t : List ℕ). t ++ behind) (joined g.group) })

    goes_on : (vs : List (List ℕ)) → parts g.group ≡ b.front ++ vs → b.rest ++ more ≡ concat vs ++ g.behind → All IsWhole vs → ⊥
    goes_on vs is rest each = elim b.bad [
      | inl none ↦ none (record { group = g.group; good = g.good; more = vs; is = is })
      | inr doomed ↦ by_more vs is rest each doomed
    ]
      where
        by_more : (ws : List (List ℕ)) → parts g.group ≡ b.front ++ ws → b.rest ++ more ≡ concat ws ++ g.behind → All IsWhole ws → IsDoomed IsWhole b.rest → ⊥
        by_more [] same left all doomed = is_there b.rest (b.cut.is ∙ ap (λ (ts : List (List ℕ)). concat ts ++ b.rest) (sym (same ∙ append-nil b.front)))
        by_more (v ∷ ws) same left all doomed = doomed.never more v (concat ws ++ g.behind) (All-head IsWhole v ws all) (left ∙ append_assoc v (concat ws) g.behind)

    by_order : GoesOn b.front (parts g.group) (b.rest ++ more) g.behind ⊎ EndsBefore b.front (parts g.group) (b.rest ++ more) g.behind → ⊥
    by_order (inl o) = goes_on o.more o.is o.rest o.each
    by_order (inr e) = is_there (e.next ++ (concat e.more ++ b.rest))
        (b.cut.is ∙ (ap (λ (ts : List (List ℕ)). concat ts ++ b.rest) e.is ∙ (ap (λ (t : List ℕ). t ++ b.rest) (concat-append (parts g.group) (e.next ∷ e.more))
        ∙ (append_assoc (concat (parts g.group)) (concat (e.next ∷ e.more)) b.rest ∙ ap (λ (t : List ℕ). concat (parts g.group) ++ t) (append_assoc e.next (concat e.more) b.rest)))))

-- a beginning of a group's text isn't bad
pub begun_is_not_bad : (es : List Effect) (front more : List ℕ) → IsGoodGroup es → front ++ more ≡ group_text es → IsBad front → ⊥
begun_is_not_bad es front more good is b = bad_for_good front more b (record { group = es; good = good; behind = []; is = is ∙ sym (append-nil (group_text es)) })
