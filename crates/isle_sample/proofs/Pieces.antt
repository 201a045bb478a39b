-- A text to which pieces are appended.
use Rattle.std.proofs.Common.{◌≡◌, List, ◌++◌, Result, Ok, Err, ap, ◌∙◌, append_assoc}
use Rattle.std.specs.Prelude.{OnOk, is_ok, if◌then◌else◌}

-- one, if it was
pub one_ok : {T E A : Type 0} (r : Result T E) (new longer other : List A) → new ≡ (if is_ok r then longer else other) → OnOk r (new ≡ longer)
one_ok (Ok t) new longer other e = e
one_ok (Err x) new longer other e = tt

-- three, if the last one was
pub three_ok : {T E A : Type 0} (r : Result T E) (old one two new a b c : List A) → one ≡ old ++ a → two ≡ one ++ b → OnOk r (new ≡ two ++ c) → OnOk r (new ≡ old ++ (a ++ (b ++ c)))
three_ok (Ok t) old one two new a b c e f g =
    g
    ∙ ap (λ xs. xs ++ c) (f ∙ ap (λ xs. xs ++ b) e)
    ∙ append_assoc (old ++ a) b c
    ∙ append_assoc old a (b ++ c)
three_ok (Err x) old one two new a b c e f g = tt
