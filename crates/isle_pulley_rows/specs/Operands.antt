-- The operands of a row: those of its fields, and the code of a trap behind them.
use Rattle.std.specs.Prelude.{ℕ, List, [], ◌∷◌, ◌++◌, Bool, ◌||◌, if◌then◌else◌, map, codes}
use Rattle.std.specs.List.{list_any}
use Rattle.std.specs.Option.{unwrap_or}
use Rattle.std.specs.Str.{bytes_eq}
use Rattle.isle_meta.specs.declared.pulley.PulleyInst.{PulleyInst}
use Rattle.isle_pulley_rows.specs.declared.operand.Operand.{Operand}
use Rattle.isle_pulley_rows.specs.declared.operand.Operand.TheVariants.{Normal, Writable, Trap}
use Rattle.isle_pulley_rows.specs.BinaryParts.{binary}
use Rattle.isle_pulley_rows.specs.Words.{begins_with, holds}

-- a field: its name and its type
abbrev pub Field : Type 0
Field = List ℕ × List ℕ

-- the type of a set of upper registers has a name of its own
abbrev pub read_type : List ℕ → List ℕ
read_type ty = if bytes_eq ty (codes "UpperRegSet < XReg >") then codes "UpperXRegSet" else ty

-- a field that isn't binary operands: one whose name begins with `dst` is written, every other one is read
abbrev pub plain_operand : (name ty : List ℕ) → Operand
plain_operand name ty = if begins_with (codes "dst") name then Writable name ty else Normal name (read_type ty)

-- the operand of a field: the one that is named `operands` has binary ones, if its type is that of some
abbrev pub field_operand : Field → Operand
field_operand f = if bytes_eq f.0 (codes "operands") then unwrap_or (binary f.1) (plain_operand f.0 f.1) else plain_operand f.0 f.1

-- one of the fields is an address that may trap
abbrev pub has_trapping_address : List Field → Bool
has_trapping_address fields = list_any (λ (f : Field). bytes_eq f.1 (codes "AddrZ")) fields

-- whether the code of a trap follows
abbrev pub has_trap : PulleyInst → Bool
has_trap row = holds (codes "Trap") row.name || has_trapping_address row.fields

-- the code of a trap, if it follows
abbrev pub trap_operand : Bool → List Operand
trap_operand traps = if traps then Trap ∷ [] else []

-- the operands of a row
abbrev pub operands : PulleyInst → List Operand
operands row = map field_operand row.fields ++ trap_operand (has_trap row)
