-- What the generators of an assembler's texts answer.
use Rattle.std.specs.Prelude.{◌≡◌, ℕ, List, [], Some, None, Result, Ok, Err, String, string_bytes}
use Rattle.isle_meta.specs.declared.errors.TableFail.{TableFail}
use Rattle.isle_meta.specs.declared.errors.TableFail.TheVariants as fail
use Rattle.isle_meta.specs.declared.machine.Inst.{Inst}
use Rattle.isle_meta.specs.Layout.{Layout, followed_by}
use Rattle.isle_writing.specs.Spelt.{SpellsOnly}
use Rattle.isle_writing.specs.LaidDefs.{laid_texts}
use Rattle.isle_assembler.specs.AssemblerDefs.{assembler_defs, assembler_layout}
use Rattle.isle_assembler_rows.specs.AssemblerRows.{IsFirstInst}
use Rattle.isle_assembler.specs.Methods.{assembler_methods}

-- each instruction is supported, and the text is that of their rules, which spells these definitions and no others
pub record IsRuleText (is : List Inst) (text : List ℕ) : Type 0 where
  pub supported : IsFirstInst [] is None
  pub written : text ≡ laid_texts (assembler_layout is)
  pub spelt : SpellsOnly text (assembler_defs is)

-- each instruction is supported, and the text is their macro
pub record IsMacroText (is : List Inst) (text : List ℕ) : Type 0 where
  pub supported : IsFirstInst [] is None
  pub written : text ≡ assembler_methods is

-- a text that is so, or the first instruction that isn't supported; want of memory is left open
abbrev pub Gives : {A : Type 0} → (List ℕ → Type 0) → List Inst → Result (String A) TableFail → Type 0
Gives IsText is (Ok text) = IsText (string_bytes text)
Gives IsText is (Err (fail.Unsupported found)) = IsFirstInst [] is (Some found)
Gives IsText is (Err fail.Memory) = Unit {0}

-- a text that is so stands behind what the formatter had; or the formatter is as before, beside the first instruction that isn't supported;
-- want of memory is left open
abbrev pub Appends : (List ℕ → Type 0) → List Inst → (old new : Layout) → Result (Unit {0}) TableFail → Type 0
Appends IsText is old new (Ok done) = (text : List ℕ) × IsText text × (new ≡ followed_by old text)
Appends IsText is old new (Err (fail.Unsupported found)) = IsFirstInst [] is (Some found) × (new ≡ old)
Appends IsText is old new (Err fail.Memory) = new ≡ old
