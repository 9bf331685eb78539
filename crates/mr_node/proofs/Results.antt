-- What a clause says of a result, once it is known which it is.
use Rattle.std.proofs.Common.{◌≡◌, true, false}
use Rattle.std.specs.Prelude.{Result, Ok, Err, IsOk, OnOk, OnErr}
use Rattle.std.specs.Result.{is_err}

pub on_ok_is : {A E : Type 0} (r : Result A E) (P : Type 0) → is_err r ≡ false → OnOk r P → P
on_ok_is (Ok x) P e h = h
on_ok_is (Err x) P e h = absurd (cc)

pub on_err_is : {A E : Type 0} (r : Result A E) (P : Type 0) → is_err r ≡ true → OnErr r P → P
on_err_is (Err x) P e h = h
on_err_is (Ok x) P e h = absurd (cc)

pub is_no_ok : {A E : Type 0} (r : Result A E) → is_err r ≡ true → IsOk r → ⊥
is_no_ok (Err x) e ok = absurd (cc)
is_no_ok (Ok x) e ok = absurd (cc)

pub on_any : {A E : Type 0} (r : Result A E) (P : Type 0) → P → OnOk r P
on_any (Ok x) P p = p
on_any (Err x) P p = tt

pub on_ok_map : {A E : Type 0} (r : Result A E) (P Q : Type 0) → OnOk r P → (P → Q) → OnOk r Q
on_ok_map (Ok x) P Q h f = f h
on_ok_map (Err x) P Q h f = h

pub on_ok_both : {A E : Type 0} (r : Result A E) (P Q : Type 0) → OnOk r P → OnOk r Q → OnOk r (P × Q)
on_ok_both (Ok x) P Q p q = (p, q)
on_ok_both (Err x) P Q p q = p
