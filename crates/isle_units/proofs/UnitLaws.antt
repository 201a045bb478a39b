-- The units of the table are the six.
use Rattle.std.proofs.Common.{◌≡◌, ℕ, List, [], ◌∷◌, ap}
use Rattle.isle_units.specs.Units.{aarch64, isle_units, opt, pulley, riscv64, s390x, x64}
use Rattle.isle_units.specs.declared.compilation.IsleCompilation.{IsleCompilation}
use Rattle.isle_units.specs.declared.compilations.IsleCompilations.{IsleCompilations}

-- units made of these
abbrev pub units_with : List IsleCompilation → IsleCompilations
units_with items = record { items = items }

-- those of the six are the units
pub are_units : (sources gen : List ℕ) (items : List IsleCompilation)
    → items ≡ opt sources gen ∷ x64 sources gen ∷ aarch64 sources gen ∷ s390x sources gen ∷ riscv64 sources gen ∷ pulley sources gen ∷ []
    → units_with items ≡ isle_units sources gen
unfolding isle_units
are_units sources gen items e = ap units_with e
