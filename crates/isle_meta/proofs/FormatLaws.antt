-- What is told of formats, and the first that isn't supported.
use Rattle.std.proofs.Common.{◌≡◌, ℕ, ◌+◌, ◌<◌, ◌≤◌, List, [], ◌∷◌, ◌++◌, length, get_or, take, Bool, false, Some, None, refl, sym, ap, ◌∙◌, subst, append_assoc, append-nil}
use Rattle.std.specs.Prelude.{◌↔◌, find, IsTrue}
use Rattle.std.specs.BTreeMap.{BTreeMap}
use Rattle.std.specs.BTreeSet.{BTreeSet}
use denote.Ref.{Bor}
use Rattle.isle_lawful_names.specs.NameSet.{HasNames}
use Rattle.isle_lawful_names.proofs.NameSteps.{none_there}
use Rattle.isle_meta.specs.declared.clif.ImmField.{ImmField}
use Rattle.isle_meta.specs.declared.clif.InstructionFormat.{InstructionFormat}
use Rattle.isle_meta.specs.declared.faults.Faults.{Faults}
use Rattle.isle_meta.specs.declared.shapes.Shape.{Shape}
use Rattle.isle_meta.specs.declared.shapes.Shape.TheVariants.{BadName, RepeatedName, ReservedName, TyOperand, FormatIndex, ValueCount, BlockCount, RawBlockCount, ImmCount, ImmType, ImmShape, NoVarargs, NoTypevar, WrittenImm, AlignedMem, WrittenOperands, ImplicitOperand, AlternateWithoutXmm, BinaryOperands, Results, FieldType}
use Rattle.isle_meta.specs.FormatRow as format
use Rattle.isle_meta.specs.KnownTypes.{KnowsTypes}
use Rattle.isle_meta.specs.ClifRows.{FormatBreaks, IsFirstFormat}
use Rattle.isle_meta.specs.FirstRow.{shapes, unsupported}
use Rattle.isle_meta.specs.Told.{told, Tells}
use Rattle.isle_meta.proofs.FirstLaws.{no_shape, one_told}
use Rattle.isle_meta.proofs.FirstRows.{LeadsFrom, front_more, leads_begin, leads_end, leads_on, leads_out, never}

-- what is told of a format
pub format_told : (before : List InstructionFormat) (f : InstructionFormat) (bad repeated reserved blocks raw shape typevar : Bool) → (IsTrue bad ↔ format.BadName f) → (IsTrue repeated ↔ format.RepeatedName before f) → (IsTrue reserved ↔ format.ReservedName f)
    → (IsTrue blocks ↔ format.BlockCount f) → (IsTrue raw ↔ format.RawBlockCount f) → (IsTrue shape ↔ format.ImmShape before f) → (IsTrue typevar ↔ format.NoTypevar f)
    → Tells (record { bad_name = bad; repeated_name = repeated; reserved_name = reserved; ty_operand = false; format_index = false; value_count = false; block_count = blocks; raw_block_count = raw; imm_count = false; imm_type = false; imm_shape = shape; no_varargs = false; no_typevar = typevar }) (FormatBreaks before f)
format_told before f bad repeated reserved blocks raw shape typevar a b c d e g h = record { each = each }
  where
    faults : Faults
    faults = record { bad_name = bad; repeated_name = repeated; reserved_name = reserved; ty_operand = false; format_index = false; value_count = false; block_count = blocks; raw_block_count = raw; imm_count = false; imm_type = false; imm_shape = shape; no_varargs = false; no_typevar = typevar }

    each : (s : Shape) → IsTrue (told faults s) ↔ FormatBreaks before f s
    each BadName = a
    each RepeatedName = b
    each ReservedName = c
    each TyOperand = never
    each FormatIndex = never
    each ValueCount = never
    each BlockCount = d
    each RawBlockCount = e
    each ImmCount = never
    each ImmType = never
    each ImmShape = g
    each NoVarargs = never
    each NoTypevar = h
    each WrittenImm = never
    each AlignedMem = never
    each WrittenOperands = never
    each ImplicitOperand = never
    each AlternateWithoutXmm = never
    each BinaryOperands = never
    each Results = never
    each FieldType = never

-- the immediates of one format more
fields_push : (fs : List InstructionFormat) (f : InstructionFormat) → format.all_fields (fs ++ f ∷ []) ≡ format.all_fields fs ++ f.imm_fields
fields_push [] f = append-nil f.imm_fields
fields_push (g ∷ fs) f = ap (λ ys. g.imm_fields ++ ys) (fields_push fs f) ∙ sym (append_assoc g.imm_fields (format.all_fields fs) f.imm_fields)

-- the formats before this place are known, and what is found from here on is found among all
pub record FormatsFrom (fs : List InstructionFormat) (i : ℕ) (names : BTreeSet (Bor (List ℕ))) (types : BTreeMap (Bor (List ℕ)) (Bor ImmField)) : Type 0 where
  pub known : HasNames (format.own_names (take i fs)) names
  pub shaped : KnowsTypes (format.all_fields (take i fs)) types
  pub leads : LeadsFrom (λ (f : InstructionFormat). f.name) FormatBreaks [] fs i

pub formats_begin : (fs : List InstructionFormat) (names : BTreeSet (Bor (List ℕ))) (types : BTreeMap (Bor (List ℕ)) (Bor ImmField)) → names.keys ≡ [] → types.entries ≡ [] → FormatsFrom fs 0 names types
formats_begin fs names types e k = record { known = none_there names e; shaped = λ name values. rw k refl; leads = leads_begin (λ (f : InstructionFormat). f.name) FormatBreaks [] fs }

names_push : (fs : List InstructionFormat) (f : InstructionFormat) → format.own_names (fs ++ f ∷ []) ≡ format.own_names fs ++ f.name ∷ []
names_push [] f = refl
names_push (g ∷ fs) f = ap (λ ys. g.name ∷ ys) (names_push fs f)

pub formats_on : (fs : List InstructionFormat) (i : ℕ) (f : InstructionFormat) (faults : Faults) (oldn newn : BTreeSet (Bor (List ℕ))) (oldt newt : BTreeMap (Bor (List ℕ)) (Bor ImmField)) → i < length fs → f ≡ get_or fs i f
    → Tells faults (FormatBreaks (take i fs) f) → None ≡ find (told faults) shapes → HasNames (format.own_names (take i fs) ++ f.name ∷ []) newn → KnowsTypes (format.all_fields (take i fs) ++ f.imm_fields) newt
    → FormatsFrom fs i oldn oldt → FormatsFrom fs (i + 1) newn newt
formats_on fs i f faults oldn newn oldt newt lt is t none has shaped s =
    let more = front_more (λ (f : InstructionFormat). f.name) FormatBreaks [] fs i f lt is in
    record {
      known = subst (λ ns. HasNames ns newn) (sym (names_push (take i fs) f) ∙ ap format.own_names more) has;
      shaped = subst (λ ys. KnowsTypes ys newt) (sym (fields_push (take i fs) f) ∙ ap format.all_fields more) shaped;
      leads = leads_on (λ (f : InstructionFormat). f.name) FormatBreaks [] fs i f lt is (no_shape faults (FormatBreaks (take i fs) f) t none) s.leads;
    }

pub formats_out : (fs : List InstructionFormat) (i : ℕ) (f : InstructionFormat) (faults : Faults) (shape : Shape) (names : BTreeSet (Bor (List ℕ))) (types : BTreeMap (Bor (List ℕ)) (Bor ImmField)) → i < length fs → f ≡ get_or fs i f
    → Tells faults (FormatBreaks (take i fs) f) → Some shape ≡ find (told faults) shapes → FormatsFrom fs i names types → IsFirstFormat fs (Some (unsupported f.name shape))
formats_out fs i f faults shape names types lt is t some s =
    leads_out (λ (f : InstructionFormat). f.name) FormatBreaks [] fs i f shape lt is (one_told faults (FormatBreaks (take i fs) f) shape t some) s.leads

pub formats_end : (fs : List InstructionFormat) (i : ℕ) (names : BTreeSet (Bor (List ℕ))) (types : BTreeMap (Bor (List ℕ)) (Bor ImmField)) → length fs ≤ i → FormatsFrom fs i names types → IsFirstFormat fs None
formats_end fs i names types past s = leads_end (λ (f : InstructionFormat). f.name) FormatBreaks [] fs i past s.leads
