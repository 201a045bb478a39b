-- Texts that are appended piece by piece. The pieces stay closed, so that no proof goes through the letters of a long one.
use Rattle.std.proofs.Common.{◌≡◌, ℕ, List, ◌++◌, ap, ◌∙◌, append_assoc}

-- what comes behind a piece stands behind it in what is appended
pub more : (old mid a b : List ℕ) → mid ≡ old ++ a → mid ++ b ≡ old ++ (a ++ b)
more old mid a b e = ap (λ z. z ++ b) e ∙ append_assoc old a b
