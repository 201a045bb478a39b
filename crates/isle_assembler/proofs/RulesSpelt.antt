-- The rules' text of supported instructions spells their definitions and no others.
use Rattle.std.proofs.Common.{◌≡◌, ℕ, List, [], ◌∷◌, Bool, true, false, Option, Some, None, refl, flat_map, map}
use Rattle.std.specs.Prelude.{if◌then◌else◌}
use Rattle.isle_assembler_rows.specs.declared.constructor.Constructor.{Constructor}
use Rattle.isle_meta.specs.declared.machine.Alternate.{Alternate}
use Rattle.isle_meta.specs.declared.machine.Inst.{Inst}
use Rattle.isle_writing.specs.LaidDefs.{laid_defs, laid_texts, plain}
use Rattle.isle_writing.specs.Spelt.{declare_flag, SpellsOnly}
use Rattle.isle_writing.proofs.Joined.{laid_no_flag_each, laid_no_flag_joined}
use Rattle.isle_writing.proofs.WrittenLaw.{laid_spelt}
use Rattle.isle_assembler.specs.AssemblerDefs.{assembler_defs, assembler_layout, choice_defs, constructor_defs, raw_decl, raw_maker, row_defs}
use Rattle.isle_assembler_rows.specs.AssemblerRows.{IsFirstInst}
use Rattle.isle_assembler_rows.specs.Constructors.{constructors}
use Rattle.isle_assembler.specs.HeadDefs.{head_defs}
use Rattle.isle_assembler_rows.specs.TermNames.{is_left_out}
use Rattle.isle_assembler.proofs.RulesWritable.{assembler_writable}

-- ---- no term has the name of a flag

choice_unflagged : (i : Inst) (c : Constructor) (o : Option Alternate) → declare_flag (laid_defs (choice_defs i c o)) ≡ false
choice_unflagged i c None = refl
choice_unflagged i c (Some a) = refl

row_unflagged : (i : Inst) → declare_flag (laid_defs (row_defs i)) ≡ false
row_unflagged i = one (is_left_out i)
  where
    one : (b : Bool) → declare_flag (laid_defs (if b then [] else plain (raw_decl i) ∷ plain (raw_maker i) ∷ flat_map (constructor_defs i) (constructors i))) ≡ false
    one true = refl
    one false = laid_no_flag_each (constructor_defs i) (λ c. choice_unflagged i c i.alternate) (constructors i)

unflagged : (is : List Inst) → declare_flag (assembler_defs is) ≡ false
unflagged is = laid_no_flag_joined (map plain head_defs) (flat_map row_defs is) refl (laid_no_flag_each row_defs row_unflagged is)

-- ---- the text

pub rules_spelt : (earlier : List (List ℕ)) (is : List Inst) (text : List ℕ) → IsFirstInst earlier is None → text ≡ laid_texts (assembler_layout is)
    → SpellsOnly text (assembler_defs is)
rules_spelt earlier is text h e = (laid_spelt text (assembler_layout is) (assembler_writable earlier is h) e).named (unflagged is)
