-- Where the lines of texts begin.
use Rattle.std.specs.Prelude.{ℕ, zero, suc, ◌+◌, slice_index_or, List, [], ◌∷◌, ◌==◌, if◌then◌else◌}

-- the places after the line feeds of a text whose first byte stands at this place
abbrev pub starts_from : ℕ → List ℕ → List ℕ
starts_from n [] = []
starts_from n (b ∷ bs) = if b == 10 then (n + 1) ∷ starts_from (n + 1) bs else starts_from (n + 1) bs

-- where the line begins that has so many lines before it
abbrev pub start_at : List ℕ → ℕ → ℕ
start_at starts zero = 0
start_at starts (suc k) = slice_index_or starts k 0

-- where the lines of a text begin, but the first
abbrev pub starts_of : List ℕ → List ℕ
starts_of text = starts_from 0 text
