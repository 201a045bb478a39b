-- The units: which files each is compiled of, and where its text goes.
use Rattle.std.specs.Prelude.{ℕ, List, [], ◌∷◌, ◌++◌, map, codes}
use Rattle.isle_meta.specs.Layout.{joined_name}
use Rattle.isle_units.specs.declared.compilation.IsleCompilation.{IsleCompilation}
use Rattle.isle_units.specs.declared.compilations.IsleCompilations.{IsleCompilations}

-- a unit of this name: its output and what is generated for it lie in one folder, what is written for it in the other
abbrev pub unit : (sources gen name output : List ℕ) → (tracked untracked : List (List ℕ)) → IsleCompilation
unit sources gen name output tracked untracked = record {
  name = name;
  output = joined_name gen output;
  tracked_inputs = map (joined_name sources) tracked;
  untracked_inputs = map (joined_name gen) untracked;
}

-- ---- files

-- the prelude of all units
abbrev pub prelude : List ℕ
prelude = codes "src/prelude.isle"

-- the prelude of lowering
abbrev pub prelude_lower : List ℕ
prelude_lower = codes "src/prelude_lower.isle"

-- the generated prelude of numbers
abbrev pub numerics : List ℕ
numerics = codes "numerics.isle"

-- the generated prelude of instructions in lowering
abbrev pub clif_lower : List ℕ
clif_lower = codes "clif_lower.isle"

-- ---- units

-- the unit of optimizations
abbrev pub opt : (sources gen : List ℕ) → IsleCompilation
opt sources gen = unit sources gen (codes "opt") (codes "isle_opt.rs")
    (prelude ∷ codes "src/prelude_opt.isle" ∷ codes "src/opts/arithmetic.isle" ∷ codes "src/opts/bitops.isle" ∷ codes "src/opts/cprop.isle"
    ∷ codes "src/opts/extends.isle" ∷ codes "src/opts/icmp.isle" ∷ codes "src/opts/remat.isle" ∷ codes "src/opts/selects.isle" ∷ codes "src/opts/shifts.isle"
    ∷ codes "src/opts/skeleton.isle" ∷ codes "src/opts/spaceship.isle" ∷ codes "src/opts/spectre.isle" ∷ codes "src/opts/vector.isle" ∷ [])
    (numerics ∷ codes "clif_opt.isle" ∷ [])

-- the unit of lowering to x64
abbrev pub x64 : (sources gen : List ℕ) → IsleCompilation
x64 sources gen = unit sources gen (codes "x64") (codes "isle_x64.rs")
    (prelude ∷ prelude_lower ∷ codes "src/isa/x64/inst.isle" ∷ codes "src/isa/x64/lower.isle" ∷ [])
    (numerics ∷ clif_lower ∷ codes "assembler.isle" ∷ [])

-- the unit of lowering to aarch64
abbrev pub aarch64 : (sources gen : List ℕ) → IsleCompilation
aarch64 sources gen = unit sources gen (codes "aarch64") (codes "isle_aarch64.rs")
    (prelude ∷ prelude_lower ∷ codes "src/isa/aarch64/inst.isle" ∷ codes "src/isa/aarch64/inst_neon.isle" ∷ codes "src/isa/aarch64/lower.isle"
    ∷ codes "src/isa/aarch64/lower_dynamic_neon.isle" ∷ [])
    (numerics ∷ clif_lower ∷ [])

-- the unit of lowering to s390x
abbrev pub s390x : (sources gen : List ℕ) → IsleCompilation
s390x sources gen = unit sources gen (codes "s390x") (codes "isle_s390x.rs")
    (prelude ∷ prelude_lower ∷ codes "src/isa/s390x/inst.isle" ∷ codes "src/isa/s390x/lower.isle" ∷ [])
    (numerics ∷ clif_lower ∷ [])

-- the unit of lowering to riscv64
abbrev pub riscv64 : (sources gen : List ℕ) → IsleCompilation
riscv64 sources gen = unit sources gen (codes "riscv64") (codes "isle_riscv64.rs")
    (prelude ∷ prelude_lower ∷ codes "src/isa/riscv64/inst.isle" ∷ codes "src/isa/riscv64/inst_vector.isle" ∷ codes "src/isa/riscv64/lower.isle" ∷ [])
    (numerics ∷ clif_lower ∷ [])

-- the unit of lowering to Pulley
abbrev pub pulley : (sources gen : List ℕ) → IsleCompilation
pulley sources gen = unit sources gen (codes "pulley") (codes "isle_pulley_shared.rs")
    (prelude ∷ prelude_lower ∷ codes "src/isa/pulley_shared/inst.isle" ∷ codes "src/isa/pulley_shared/lower.isle" ∷ [])
    (numerics ∷ codes "pulley_gen.isle" ∷ clif_lower ∷ [])

-- the six units, in order
unfoldable pub isle_units : (sources gen : List ℕ) → IsleCompilations
isle_units sources gen = record {
  items = opt sources gen ∷ x64 sources gen ∷ aarch64 sources gen ∷ s390x sources gen ∷ riscv64 sources gen ∷ pulley sources gen ∷ [];
}

-- the files of lowering that all targets share
abbrev pub lower_paths : (sources : List ℕ) → List (List ℕ)
lower_paths sources = map (joined_name sources) (codes "src/inst_specs.isle" ∷ prelude ∷ prelude_lower ∷ [])

-- the inputs of a unit: tracked ones first
abbrev pub inputs_of : IsleCompilation → List (List ℕ)
inputs_of u = u.tracked_inputs ++ u.untracked_inputs
