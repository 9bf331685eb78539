-- Where memory was lacking there was something that took it.
use Rattle.std.proofs.Common.{◌≡◌, ◌≢◌, ◌+◌, ◌<◌, ◌≤◌, ℕ, List, [], true, Result, Ok, Err, OnErr, is_err, length, ap, arith}

pub on_err : {A E : Type 0} (r : Result A E) (P : Type 0) → P → OnErr r P
on_err (Ok x) P p = tt
on_err (Err e) P p = p

pub on_err_map : {A E : Type 0} (r : Result A E) (P Q : Type 0) → OnErr r P → (P → Q) → OnErr r Q
on_err_map (Ok x) P Q h f = tt
on_err_map (Err e) P Q h f = f h

pub where_err : {A E : Type 0} (r : Result A E) (P : Type 0) → is_err r ≡ true → OnErr r P → P
where_err (Ok x) P e h = absurd (cc)
where_err (Err x) P e h = h

-- so many bytes are held, and there is no room for these behind them
pub some_wanted : (room held : ℕ) (bytes : List ℕ) → held ≤ room → room < held + length bytes → bytes ≢ []
some_wanted room held bytes within full none = let empty : length bytes ≡ 0 = ap length none in omega (arith, within, full, empty)
