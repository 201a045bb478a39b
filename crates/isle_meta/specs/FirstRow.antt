-- The shapes in their order, the first that a row breaks, and the first row that breaks one.
use Rattle.std.specs.Prelude.{◌≡◌, ℕ, ◌⊎◌, List, [], ◌∷◌, ◌++◌, Option, Some, None}
use Rattle.isle_meta.specs.declared.errors.Unsupported.{Unsupported}
use Rattle.isle_meta.specs.declared.shapes.Shape.{Shape}
use Rattle.isle_meta.specs.declared.shapes.Shape.TheVariants.{BadName, RepeatedName, ReservedName, TyOperand, FormatIndex, ValueCount, BlockCount, RawBlockCount, ImmCount, ImmType, ImmShape, NoVarargs, NoTypevar, WrittenImm, AlignedMem, WrittenOperands, ImplicitOperand, AlternateWithoutXmm, BinaryOperands, Results, FieldType}

-- the shapes, in the order in which they are looked at
abbrev pub shapes : List Shape
shapes =
    BadName ∷ RepeatedName ∷ ReservedName ∷ TyOperand ∷ FormatIndex ∷ ValueCount ∷ BlockCount ∷ RawBlockCount ∷ ImmCount ∷ ImmType
    ∷ ImmShape ∷ NoVarargs ∷ NoTypevar ∷ WrittenImm ∷ AlignedMem ∷ WrittenOperands ∷ ImplicitOperand ∷ AlternateWithoutXmm
    ∷ BinaryOperands ∷ Results ∷ FieldType ∷ []

-- the first of these shapes that is broken, or that none is
abbrev pub IsFirstShape : (Broken : Shape → Type 0) → List Shape → Option Shape → Type 0
IsFirstShape Broken [] found = found ≡ None
IsFirstShape Broken (shape ∷ more) found = (Broken shape × (found ≡ Some shape)) ⊎ ((Broken shape → ⊥) × IsFirstShape Broken more found)

-- a row of this name with its first shape
abbrev pub unsupported : (name : List ℕ) → Shape → Unsupported
unsupported name shape = record { row = name; shape = shape }

-- the first of these rows that breaks a shape, by its name, with the first that it breaks, or that none breaks one; what a row breaks depends on
-- those before it
abbrev pub IsFirstRow : {R : Type 0} → (name_of : R → List ℕ) → (Breaks : (before : List R) → R → Shape → Type 0) → (before rows : List R) → Option Unsupported → Type 0
IsFirstRow name_of Breaks before [] found = found ≡ None
IsFirstRow name_of Breaks before (row ∷ more) found =
    ((shape : Shape) × IsFirstShape (Breaks before row) shapes (Some shape) × (found ≡ Some (unsupported (name_of row) shape)))
    ⊎ (IsFirstShape (Breaks before row) shapes None × IsFirstRow name_of Breaks (before ++ row ∷ []) more found)

-- the first that is found: by the one search, or if that finds none by the other one
abbrev pub FirstOf : (First Second : Option Unsupported → Type 0) → Option Unsupported → Type 0
FirstOf First Second None = First None × Second None
FirstOf First Second (Some found) = First (Some found) ⊎ (First None × Second (Some found))
