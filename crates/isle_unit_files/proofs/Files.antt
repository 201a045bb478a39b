-- Lists of files that are the same, file by file.
use Rattle.std.proofs.Common.{◌≡◌, List, [], ◌∷◌, ◌++◌, ap, ap₂, slice_index_or}
use Rattle.isle_prelude_files.specs.Outputs.{File, files_of}
use Rattle.isle_prelude_files.specs.declared.writing.Output.{Output}

-- one
pub last : {a b : File} → a ≡ b → a ∷ [] ≡ b ∷ []
last e = ap (λ (f : File). f ∷ []) e

-- one more in front
pub more : {a b : File} {made said : List File} → a ≡ b → made ≡ said → a ∷ made ≡ b ∷ said
more e k = ap₂ (λ (f : File) (fs : List File). f ∷ fs) e k

-- six of a list, by their places, and others behind them
pub six_then : (xs : List Output) (o : Output) (rest : List Output) {a b c d e f : File} {others : List File} → files_of xs ≡ a ∷ b ∷ c ∷ d ∷ e ∷ f ∷ [] → files_of rest ≡ others
    → files_of (slice_index_or xs 0 o ∷ slice_index_or xs 1 o ∷ slice_index_or xs 2 o ∷ slice_index_or xs 3 o ∷ slice_index_or xs 4 o ∷ slice_index_or xs 5 o ∷ rest) ≡ a ∷ b ∷ c ∷ d ∷ e ∷ f ∷ others
six_then [] o rest e h = absurd cc
six_then (x0 ∷ []) o rest e h = absurd cc
six_then (x0 ∷ x1 ∷ []) o rest e h = absurd cc
six_then (x0 ∷ x1 ∷ x2 ∷ []) o rest e h = absurd cc
six_then (x0 ∷ x1 ∷ x2 ∷ x3 ∷ []) o rest e h = absurd cc
six_then (x0 ∷ x1 ∷ x2 ∷ x3 ∷ x4 ∷ []) o rest e h = absurd cc
six_then (x0 ∷ x1 ∷ x2 ∷ x3 ∷ x4 ∷ x5 ∷ []) o rest e h = ap₂ (λ (six others : List File). six ++ others) e h
six_then (x0 ∷ x1 ∷ x2 ∷ x3 ∷ x4 ∷ x5 ∷ y ∷ ys) o rest e h = absurd cc
