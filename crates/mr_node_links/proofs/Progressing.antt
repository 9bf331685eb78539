-- The progress over unread bytes, as bytes come behind them.
use Rattle.std.proofs.Common.{◌≡◌, ◌≤◌, ◌+◌, ℕ, List, ◌++◌, length, sym, subst, append_assoc, arith, length-append}
use Rattle.mr_resp.specs.Resumed.{Agrees, IsFresh}
use Rattle.mr_resp.specs.Usual.{usual}
use Rattle.mr_resp.proofs.Resuming.{fresh_agrees}
use Rattle.mr_resp.specs.declared.progress.Progress.{Progress}
use Rattle.mr_node_links.specs.State.{full}
use Rattle.mr_node_links.specs.Progresses.{AgreesAlong, Fits}

pub along_more : (p : Progress) (u m : List ℕ) → AgreesAlong p u → AgreesAlong p (u ++ m)
along_more p u m a = record { along = λ more. subst (λ z. Agrees usual p z) (sym (append_assoc u m more)) (a.along (m ++ more)) }

-- where nothing is known, it holds of all bytes
pub fresh_along : (p : Progress) (u : List ℕ) → IsFresh p → AgreesAlong p u
fresh_along p u f = record { along = λ more. fresh_agrees usual p (u ++ more) f }

-- bytes that come behind
pub fits_more : (u more now : List ℕ) (p : Progress) → now ≡ u ++ more → length u + length more ≤ full → Fits u p → Fits now p
fits_more u more now p e few f = subst (λ z. Fits z p) (sym e) (record {
  few = omega (arith, few, length-append u more);
  agrees = along_more p u more f.agrees;
})
