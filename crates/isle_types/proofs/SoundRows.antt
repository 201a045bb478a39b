-- What definitions without a fault in their types and constants are.
use Rattle.std.proofs.Common.{◌≡◌, Bool, true, false, cond, List, [], ◌∷◌, ◌++◌, Option, Some, None, refl}
use Rattle.std.specs.Prelude.{option_map}
use Rattle.std.specs.List.{AllByRecursion}
use Rattle.isle_core.specs.declared.position.Pos.{Pos}
use Rattle.isle_ast.specs.Tree.{Def}
use Rattle.isle_ast.specs.Positions.{place_of}
use Rattle.isle_types.specs.declared.row.Row.{Row}
use Rattle.isle_types.specs.declared.row.Row.TheVariants as row
use Rattle.isle_types.specs.TypeRows.{type_repeats, field_repeats, field_type_missing, many_fields, made_term_repeats, constant_misfit}
use Rattle.isle_types.specs.Fault.{or_later, fault_after, type_row, type_fault}

-- a definition breaks no row, after some
pub record IsUnbroken (all : List Def) (d : Def) : Type 0 where
  pub before : List Def
  pub apart : field_repeats d ≡ false
  pub declared : field_type_missing all d ≡ false
  pub few : many_fields d ≡ false
  pub fits : constant_misfit all before d ≡ false

no_fault : (found : Option Row) (pos : Pos) (rest : Option (Row × Pos)) → or_later (option_map (λ (r : Row). (r, pos)) found) rest ≡ None → (found ≡ None) × (rest ≡ None)
no_fault None pos rest e = (refl, e)
no_fault (Some r) pos rest e = absurd cc

-- the rows that are used, of all six
no_rows : (a b c d e f : Bool)
    → cond a (Some row.TypeRepeats) (cond b (Some row.FieldRepeats) (cond c (Some row.FieldTypeMissing) (cond d (Some row.ManyFields) (cond e (Some row.MadeTermRepeats) (cond f (Some row.ConstantMisfit) None))))) ≡ None
    → (b ≡ false) × (c ≡ false) × (d ≡ false) × (f ≡ false)
no_rows true b c d e f h = absurd cc
no_rows false true c d e f h = absurd cc
no_rows false false true d e f h = absurd cc
no_rows false false false true e f h = absurd cc
no_rows false false false false true f h = absurd cc
no_rows false false false false false true h = absurd cc
no_rows false false false false false false h = (refl, refl, refl, refl)

unbroken : (all before : List Def) (d : Def) → type_row all before d ≡ None → IsUnbroken all d
unbroken all before d h =
    let r = no_rows (type_repeats before d) (field_repeats d) (field_type_missing all d) (many_fields d) (made_term_repeats before d) (constant_misfit all before d) h in
    record { before = before; apart = r.0; declared = r.1; few = r.2; fits = r.3 }

unbroken_after : (all before ds : List Def) → fault_after (type_row all) before ds ≡ None → AllByRecursion (IsUnbroken all) ds
unbroken_after all before [] h = tt
unbroken_after all before (d ∷ ds) h =
    let r = no_fault (type_row all before d) (place_of d) (fault_after (type_row all) (before ++ d ∷ []) ds) h in
    (unbroken all before d r.0, unbroken_after all (before ++ d ∷ []) ds r.1)

-- if there is no fault, no definition breaks a row
pub all_unbroken : (defs : List Def) → type_fault defs ≡ None → AllByRecursion (IsUnbroken defs) defs
all_unbroken defs h = unbroken_after defs [] defs h
