-- Options of SCAN that stand side by side may change places.
use Rattle.std.proofs.Common.{ℕ, ◌≡◌, List, [], ◌∷◌, ◌++◌, Bool, Some, None, refl, sym, ◌∙◌, ap}
use Rattle.std.specs.Prelude.{if◌then◌else◌}
use Rattle.std.specs.Option.{is_some, ok_or}
use Rattle.std.specs.Str.{bytes_eq}
use Rattle.mr_arguments.specs.Names.{lowered}
use Rattle.mr_arguments.specs.Parts.{with}
use Rattle.mr_arguments.proofs.PairLemmas.{are_pairs-unpaired, paired-unpaired}
use Rattle.mr_arguments.proofs.OrderLemmas.{exchanged, OnlySyntax, words_alike, two_alike, twice_refused, one_of_three, unless, only_found, only_with}
use Rattle.mr_arguments.specs.Pairing.{paired, pairs_of, unpaired}
use Rattle.mr_arguments.specs.Options.{added}
use Rattle.mr_cmd_key.specs.Options.{scan_text, scan_option, no_scan_options, scan_also, scan_pair, scan_options}
use Rattle.mr_arguments.specs.declared.fault.AskFault.TheVariants.{Syntax}
use Rattle.mr_cmd_key.specs.declared.options.ScanOption.{ScanOption}
use Rattle.mr_cmd_key.specs.declared.options.ScanOption.TheVariants as scan
use Rattle.mr_cmd_key.specs.declared.options.ScanOptions.{ScanOptions}

scan_option_only : (w : List ℕ) → OnlySyntax (scan_option w)
scan_option_only w = one_of_three (bytes_eq (lowered w) (scan_text scan.Pattern)) (bytes_eq (lowered w) (scan_text scan.Count)) (bytes_eq (lowered w) (scan_text scan.Kind)) scan.Pattern scan.Count scan.Kind

pub scan_also_only : (s : ScanOptions) (w : List ℕ) (o : ScanOption) → OnlySyntax (scan_also s w o)
scan_also_only s w scan.Pattern = unless (is_some s.pattern) (record { pattern = Some w; count = s.count; kind = s.kind })
scan_also_only s w scan.Count = unless (is_some s.count) (record { pattern = s.pattern; count = Some w; kind = s.kind })
scan_also_only s w scan.Kind = unless (is_some s.kind) (record { pattern = s.pattern; count = s.count; kind = Some w })

pub scan_alike : (v w : List ℕ) (s : ScanOptions) (o p : ScanOption) → with (scan_also s v o) (λ t. scan_also t w p) ≡ with (scan_also s w p) (λ t. scan_also t v o)
scan_alike v w s scan.Pattern scan.Pattern = twice_refused (is_some s.pattern) _ _ _ _ refl refl
scan_alike v w s scan.Count scan.Count = twice_refused (is_some s.count) _ _ _ _ refl refl
scan_alike v w s scan.Kind scan.Kind = twice_refused (is_some s.kind) _ _ _ _ refl refl
scan_alike v w s scan.Pattern scan.Count = two_alike (is_some s.pattern) (is_some s.count) _ _ _ _ _ refl refl
scan_alike v w s scan.Pattern scan.Kind = two_alike (is_some s.pattern) (is_some s.kind) _ _ _ _ _ refl refl
scan_alike v w s scan.Count scan.Pattern = two_alike (is_some s.count) (is_some s.pattern) _ _ _ _ _ refl refl
scan_alike v w s scan.Count scan.Kind = two_alike (is_some s.count) (is_some s.kind) _ _ _ _ _ refl refl
scan_alike v w s scan.Kind scan.Pattern = two_alike (is_some s.kind) (is_some s.pattern) _ _ _ _ _ refl refl
scan_alike v w s scan.Kind scan.Count = two_alike (is_some s.kind) (is_some s.count) _ _ _ _ _ refl refl

scan_pairs_alike : (s : ScanOptions) (v w : List ℕ × List ℕ) → with (scan_pair s v) (λ t. scan_pair t w) ≡ with (scan_pair s w) (λ t. scan_pair t v)
scan_pairs_alike s v w =
    words_alike (λ t. scan_also t v.1) (λ t. scan_also t w.1) (scan_option v.0) (scan_option w.0) (λ t o. scan_also_only t v.1 o) (λ t o. scan_also_only t w.1 o)
    (scan_option_only v.0) (scan_option_only w.0) (scan_alike v.1 w.1) s

-- pairs are read as what they are
scan_of_pairs : (ps : List (List ℕ × List ℕ)) → scan_options (unpaired ps) ≡ added scan_pair no_scan_options ps
scan_of_pairs ps =
    ap (λ (b : Bool). with (ok_or (if b then Some (paired (unpaired ps)) else None) Syntax) (added scan_pair no_scan_options)) (are_pairs-unpaired ps)
    ∙ ap (added scan_pair no_scan_options) (paired-unpaired ps)

pub scan_in_any_order : (front back : List (List ℕ × List ℕ)) (v w : List ℕ × List ℕ) → scan_options (unpaired (front ++ v ∷ w ∷ back)) ≡ scan_options (unpaired (front ++ w ∷ v ∷ back))
scan_in_any_order front back v w =
    scan_of_pairs (front ++ v ∷ w ∷ back)
    ∙ exchanged scan_pair scan_pairs_alike front back v w no_scan_options
    ∙ sym (scan_of_pairs (front ++ w ∷ v ∷ back))

-- ---- SCAN has no other fault
pairs_only : (ps : List (List ℕ × List ℕ)) (s : ScanOptions) → OnlySyntax (added scan_pair s ps)
unfolding OnlySyntax
pairs_only [] s = tt
pairs_only (p ∷ ps) s = only_with (scan_pair s p) (λ t. added scan_pair t ps) (only_with (scan_option p.0) (scan_also s p.1) (scan_option_only p.0) (scan_also_only s p.1)) (pairs_only ps)

pub scan_options_only : (ws : List (List ℕ)) → OnlySyntax (scan_options ws)
scan_options_only ws = only_with (ok_or (pairs_of ws) Syntax) (added scan_pair no_scan_options) (only_found (pairs_of ws)) (λ ps. pairs_only ps no_scan_options)
