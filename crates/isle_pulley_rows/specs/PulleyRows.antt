-- Which shapes a row breaks after those before it, and the first row that isn't supported.
use Rattle.std.specs.Prelude.{ℕ, List, [], ◌++◌, Option}
use Rattle.isle_meta.specs.declared.errors.Unsupported.{Unsupported}
use Rattle.isle_meta.specs.declared.pulley.PulleyInst.{PulleyInst}
use Rattle.isle_meta.specs.declared.shapes.Shape.{Shape}
use Rattle.isle_meta.specs.declared.shapes.Shape.TheVariants.{BadName, RepeatedName, ReservedName, TyOperand, FormatIndex, ValueCount, BlockCount, RawBlockCount, ImmCount, ImmType, ImmShape, NoVarargs, NoTypevar, WrittenImm, AlignedMem, WrittenOperands, ImplicitOperand, AlternateWithoutXmm, BinaryOperands, Results, FieldType}
use Rattle.isle_meta.specs.FirstRow.{IsFirstRow}
use Rattle.isle_pulley_rows.specs.PulleyRow as row

-- the shapes that a row breaks, after earlier terms and the rows before it; its terms begin with `pulley_`, as none does that is reserved
abbrev pub PulleyBreaks : (earlier : List (List ℕ)) → (before : List PulleyInst) → PulleyInst → Shape → Type 0
PulleyBreaks earlier before r BadName = row.BadName r
PulleyBreaks earlier before r RepeatedName = row.RepeatedName earlier before r
PulleyBreaks earlier before r ReservedName = ⊥
PulleyBreaks earlier before r TyOperand = ⊥
PulleyBreaks earlier before r FormatIndex = ⊥
PulleyBreaks earlier before r ValueCount = ⊥
PulleyBreaks earlier before r BlockCount = ⊥
PulleyBreaks earlier before r RawBlockCount = ⊥
PulleyBreaks earlier before r ImmCount = ⊥
PulleyBreaks earlier before r ImmType = ⊥
PulleyBreaks earlier before r ImmShape = ⊥
PulleyBreaks earlier before r NoVarargs = ⊥
PulleyBreaks earlier before r NoTypevar = ⊥
PulleyBreaks earlier before r WrittenImm = ⊥
PulleyBreaks earlier before r AlignedMem = ⊥
PulleyBreaks earlier before r WrittenOperands = ⊥
PulleyBreaks earlier before r ImplicitOperand = ⊥
PulleyBreaks earlier before r AlternateWithoutXmm = ⊥
PulleyBreaks earlier before r BinaryOperands = row.BinaryOperands r
PulleyBreaks earlier before r Results = row.Results r
PulleyBreaks earlier before r FieldType = row.FieldType r

-- the first of these rows that isn't supported after terms of these names, or that all are
abbrev pub IsFirstAfter : (earlier : List (List ℕ)) → List PulleyInst → Option Unsupported → Type 0
IsFirstAfter earlier rows found = IsFirstRow (λ (row : PulleyInst). row.name) (PulleyBreaks earlier) [] rows found

-- the first operation that isn't supported after terms of these names, or that all are: those of the first list come before those of the second
abbrev pub IsFirstOperation : (earlier : List (List ℕ)) → (ops extended : List PulleyInst) → Option Unsupported → Type 0
IsFirstOperation earlier ops extended found = IsFirstAfter earlier (ops ++ extended) found
