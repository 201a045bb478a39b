-- What holds of things that are there.
use Rattle.std.proofs.Common.{◌≡◌, Some}

-- equal things that are there are equal
pub some_same : {A : Type 0} (x y : A) → Some x ≡ Some y → x ≡ y
some_same x y e = cc
