-- The types of operands are names, as those of their format's immediates are.
use Rattle.std.proofs.Common.{◌≡◌, ℕ, List, [], ◌∷◌, length, map, Bool, true, false, refl, sym, ◌∙◌, subst, arith, flat_map}
use Rattle.std.specs.Prelude.{filter_map, not}
use Rattle.std.specs.List.{AllByRecursion, cons_option}
use Rattle.std.specs.Str.{bytes_eq}
use Rattle.std.proofs.lemmas.List.{length-map}
use Rattle.std.proofs.lemmas.Slice.Eq.{bytes_eq-Decides}
use Rattle.isle_meta.specs.declared.clif.ClifOperand.{ClifOperand}
use Rattle.isle_meta.specs.declared.clif.ImmField.{ImmField}
use Rattle.isle_meta.specs.declared.clif.Instruction.{Instruction}
use Rattle.isle_meta.specs.declared.clif.InstructionFormat.{InstructionFormat}
use Rattle.isle_meta.specs.declared.clif.OperandClass.{OperandClass}
use Rattle.isle_meta.specs.declared.clif.OperandClass.TheVariants as class
use Rattle.isle_meta.specs.Immediates.{imm_names, type_of}
use Rattle.isle_meta.specs.InstructionRow.{imm_type, imm_types, type_in, types_differ}
use Rattle.isle_meta.specs.ShortName.{short_name}
use Rattle.isle_spelling.specs.Identifier.{IsIdentifier}
use Rattle.isle_prelude.specs.Operands.{operand_type}
use Rattle.isle_writing.specs.Writable.{AreNames, NamesOne}
use Rattle.isle_writing.proofs.Spells.{no_first}
use Rattle.isle_prelude.proofs.AllLaws.{all_behind, all_front}
use Rattle.isle_prelude.proofs.FixedNames.{block_named, call_named, slice_named, value_named}
use Rattle.isle_meta.proofs.NameWords.{identifier_named}
use Rattle.isle_prelude.proofs.SupportedLaws.{HasTypesOf, IsNamedFormat}

not_false : (b : Bool) → not b ≡ false → b ≡ true
not_false true h = refl
not_false false h = absurd cc

-- types whose short names are those of others
same_named : (ts us : List (List ℕ)) → length ts ≡ length us → types_differ ts us ≡ false → AreNames (map short_name us) → AreNames (map short_name ts)
same_named [] us e d h = tt
same_named (t ∷ ts) [] e d h = absurd cc
same_named (t ∷ ts) (u ∷ us) e d h =
    let parts = no_first (not (bytes_eq (short_name t) (short_name u))) (types_differ ts us) d in
    let same : short_name t ≡ short_name u = (bytes_eq-Decides (short_name t) (short_name u)).0 (not_false _ parts.0) in
    (subst (λ (w : List ℕ). NamesOne w) (sym same) h.0, same_named ts us (omega (arith, e)) parts.1 h.1)

-- the types of a format's immediates
field_types : (is : List ImmField) → AllByRecursion IsIdentifier (flat_map imm_names is) → AreNames (map short_name (map (λ (field : ImmField). field.rust_type) is))
field_types [] h = tt
field_types (i ∷ is) h =
    (identifier_named (type_of i) (all_front IsIdentifier (imm_names i) (flat_map imm_names is) h).1.0, field_types is (all_behind IsIdentifier (imm_names i) (flat_map imm_names is) h))

-- the types of operands, if those of the immediates among them are names
types_of : (os : List ClifOperand) → AreNames (map short_name (filter_map imm_type os)) → AreNames (map (λ (o : ClifOperand). operand_type o.class) os)
types_of [] h = tt
types_of (o ∷ os) h = let parts = one o.class h in (parts.0, types_of os parts.1)
  where
    one : (c : OperandClass) → AreNames (map short_name (cons_option (type_in c) (filter_map imm_type os)))
        → NamesOne (operand_type c) × AreNames (map short_name (filter_map imm_type os))
    one class.Value k = (value_named, k)
    one class.Varargs k = (slice_named, k)
    one class.Block k = (call_named, k)
    one class.RawBlock k = (block_named, k)
    one (class.Imm ty) k = (k.0, k.1)

-- the types of an instruction's operands
pub operand_types_named : (f : InstructionFormat) (i : Instruction) → IsNamedFormat f → HasTypesOf i f
    → AreNames (map (λ (o : ClifOperand). operand_type o.class) i.operands_in)
operand_types_named f i h t =
    let fields : List (List ℕ) = map (λ (field : ImmField). field.rust_type) f.imm_fields in
    types_of i.operands_in (same_named (imm_types i) fields (t.count ∙ sym (length-map f.imm_fields (λ (field : ImmField). field.rust_type))) t.same (field_types f.imm_fields h.1))
