-- The rows of which nothing is generated.
use Rattle.std.specs.Prelude.{ℕ, List, [], ◌∷◌, Bool, not, ◌||◌, filter, codes}
use Rattle.isle_meta.specs.declared.pulley.PulleyInst.{PulleyInst}
use Rattle.isle_meta.specs.TableNames.{is_among}
use Rattle.isle_pulley_rows.specs.Words.{begins_with}

-- the names of rows that are skipped by their whole name
abbrev pub skipped_names : List (List ℕ)
skipped_names = codes "Jump" ∷ codes "XPush32Many" ∷ codes "XPush64Many" ∷ codes "XPop32Many" ∷ codes "XPop64Many" ∷ []

-- whether a row of this name is skipped: a jump, a call, a branch, or one that moves many registers
abbrev pub is_skipped_name : List ℕ → Bool
is_skipped_name name = is_among name skipped_names || begins_with (codes "Call") name || begins_with (codes "Br") name

-- whether a row is skipped
abbrev pub is_skipped : PulleyInst → Bool
is_skipped row = is_skipped_name row.name

-- the rows that are not
abbrev pub kept : List PulleyInst → List PulleyInst
kept rows = filter (λ (row : PulleyInst). not (is_skipped row)) rows
