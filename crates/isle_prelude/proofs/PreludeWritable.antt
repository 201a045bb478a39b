-- The prelude that is written by hand can be written.
use Rattle.std.proofs.Common.{ℕ, List, [], ◌∷◌, ◌++◌, refl, codes, arith, flat_map}
use Rattle.isle_meta.specs.declared.tables.Tables.{Tables}
use Rattle.isle_prelude.specs.Declaring.{made_by, taken_by}
use Rattle.isle_prelude.specs.NumberedNames.{value_array_ctor}
use Rattle.isle_prelude.specs.WrittenPrelude.{ctor_defs, ctor_sizes, opt_terms, shared_types, written_defs}
use Rattle.isle_writing.specs.Spelt.{AreSpelt}
use Rattle.isle_writing.specs.Text.{def_texts}
use Rattle.isle_writing.specs.Writable.{AreNames, AreWritable, IsWritable, NamesOne}
use Rattle.isle_writing.proofs.Joined.{writable_each, writable_joined}
use Rattle.isle_writing.proofs.Names.{names_one}
use Rattle.isle_writing.proofs.WrittenLaw.{written_spelt}
use Rattle.isle_prelude.proofs.FixedNames.{call_named, ctor_named, data_named, inst_named, list_named, slice_named, type_named, value_named, values_type_named}
use Rattle.isle_prelude.proofs.TypesWritable.{primitive_writable, repeated_named}

types_writable : AreWritable shared_types
types_writable = (
  primitive_writable (codes "Type") type_named,
  (
    primitive_writable (codes "Value") value_named,
    (
      primitive_writable (codes "Inst") inst_named,
      (primitive_writable (codes "ValueList") list_named, (primitive_writable (codes "ValueSlice") slice_named, (primitive_writable (codes "BlockCall") call_named, tt))),
    ),
  ),
)

-- functions of their terms' names
made_writable : (term : List ℕ) → NamesOne term → IsWritable (made_by term term)
made_writable term h = ((h, h), omega arith)

taken_writable : (term : List ℕ) → NamesOne term → IsWritable (taken_by term term)
taken_writable term h = ((h, h), omega arith)

typed_data : AreNames (codes "Type" ∷ codes "InstructionData" ∷ [])
typed_data = (type_named, (data_named, tt))

terms_writable : AreWritable opt_terms
terms_writable =
    let make : NamesOne (codes "make_inst") = names_one (codes "make_inst") (omega arith, refl) refl in
    let skeleton : NamesOne (codes "make_skeleton_inst") = names_one (codes "make_skeleton_inst") (omega arith, refl) refl in
    let valued : NamesOne (codes "inst_data_value") = names_one (codes "inst_data_value") (omega arith, refl) refl in
    let plain : NamesOne (codes "inst_data") = names_one (codes "inst_data") (omega arith, refl) refl in (
      ((make, typed_data, value_named), omega arith),
      (
        made_writable (codes "make_inst") make,
        (
          ((skeleton, (data_named, tt), inst_named), omega arith),
          (
            made_writable (codes "make_skeleton_inst") skeleton,
            (
              ((valued, typed_data, value_named), omega arith),
              (
                taken_writable (codes "inst_data_value") valued,
                (((plain, (data_named, tt), inst_named), omega arith), (taken_writable (codes "inst_data") plain, tt)),
              ),
            ),
          ),
        ),
      ),
    )

ctor_writable : (n : ℕ) → AreWritable (ctor_defs n)
ctor_writable n = (((ctor_named n, repeated_named n (codes "Value") value_named, values_type_named n), omega arith), (made_writable (value_array_ctor n) (ctor_named n), tt))

-- the prelude of any tables
pub prelude_writable : (t : Tables) → AreWritable (written_defs t)
prelude_writable t =
    writable_joined shared_types (opt_terms ++ flat_map ctor_defs (ctor_sizes t)) types_writable
    (writable_joined opt_terms (flat_map ctor_defs (ctor_sizes t)) terms_writable (writable_each ctor_defs ctor_writable (ctor_sizes t)))

-- its text spells it
pub prelude_spelt : (t : Tables) → AreSpelt (def_texts (written_defs t)) (written_defs t)
prelude_spelt t = written_spelt (def_texts (written_defs t)) (written_defs t) (prelude_writable t) refl
