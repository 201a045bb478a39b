-- What is printed, in other words.
use Rattle.std.proofs.Common.{◌≡◌, List, ◌++◌, Result, Ok, Err, ap, ◌∙◌}
use Rattle.std.specs.Prelude.{OnOk}

-- what is printed, in other words
pub also : {A E T : Type 0} (r : Result T E) (old new inside all : List A) → inside ≡ all → OnOk r (new ≡ old ++ inside) → OnOk r (new ≡ old ++ all)
also (Ok u) old new inside all k h = h ∙ ap (λ x. old ++ x) k
also (Err x) old new inside all k h = tt
