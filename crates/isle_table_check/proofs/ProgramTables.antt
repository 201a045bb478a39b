-- Each row of the program's own tables is supported.
use Rattle.std.proofs.Common.{◌≡◌, ℕ, List, [], ◌∷◌, Bool, true, false, Option, Some, None, refl, sym, ap, ◌∙◌, arith, codes, inr, ⊎_elim}
use Rattle.std.specs.Prelude.{IsTrue, ◌||◌}
use Rattle.isle_lawful_names.specs.LawfulNames.{IsTypeName}
use Rattle.isle_meta.specs.declared.clif.Instruction.{Instruction}
use Rattle.isle_meta.specs.declared.clif.InstructionFormat.{InstructionFormat}
use Rattle.isle_meta.specs.declared.shapes.Shape.{Shape}
use Rattle.isle_meta.specs.declared.shapes.Shape.TheVariants.{BadName, RepeatedName, ReservedName, TyOperand, FormatIndex, ValueCount, BlockCount, RawBlockCount, ImmCount, ImmType, ImmShape, NoVarargs, NoTypevar, WrittenImm, AlignedMem, WrittenOperands, ImplicitOperand, AlternateWithoutXmm, BinaryOperands, Results, FieldType}
use Rattle.isle_meta.specs.ClifRows.{FormatBreaks, InstructionBreaks, IsFirstFormat, IsFirstInstruction}
use Rattle.isle_meta.specs.FirstRow.{IsFirstShape, shapes}
use Rattle.isle_meta.specs.ShortName.{short_name}
use Rattle.isle_meta.specs.TableNames.{is_among, is_array_term, is_reserved_term, prelude_terms, IsImmediateType}
use Rattle.isle_meta.proofs.FirstRows.{told_first}
use Rattle.isle_numerics.specs.Definitions.{numeric_defs, numeric_terms}
use Rattle.isle_spelling.specs.Identifier.{IsIdentifier}
use Rattle.isle_table_check.specs.ProgramTables.{binary, iconst, imm64, of_two_values, sample_tables, unary_imm}
use Rattle.isle_table_check.specs.SupportedTables.{AreSupported}

-- a row that breaks no shape
breaks_none : (Broken : Shape → Type 0) → ((s : Shape) → Broken s → ⊥) → IsFirstShape Broken shapes None
breaks_none Broken none = told_first (λ s. false) Broken (λ s. (λ e. cc, λ h. absurd (none s h))) shapes

some_there : (n : ℕ) → Some n ≡ None → ⊥
some_there n h = cc

-- ---- names

imm64_is_type : IsImmediateType (short_name imm64)
imm64_is_type =
    record {
      declared = record { name = record { identifier = record { begins = refl; word = refl; unused = refl; free = refl }; no_local = refl; no_arg = refl }; free = refl; generic = refl };
      own = refl;
      free = refl;
      no_values = refl;
      no_blocks = refl;
    }

-- the numeric prelude has none of these terms
iadd_free : is_among (codes "iadd") numeric_terms ≡ false
unfolding numeric_terms numeric_defs
iadd_free = refl

isub_free : is_among (codes "isub") numeric_terms ≡ false
unfolding numeric_terms numeric_defs
isub_free = refl

iconst_free : is_among (codes "iconst") numeric_terms ≡ false
unfolding numeric_terms numeric_defs
iconst_free = refl

free_of : (name : List ℕ) → is_among name prelude_terms ≡ false → is_among name numeric_terms ≡ false → is_array_term name ≡ false → is_reserved_term name ≡ false
free_of name prelude numbers arrays =
    ap (λ b. (b || is_among name numeric_terms) || is_array_term name) prelude ∙ ap (λ b. b || is_array_term name) numbers ∙ arrays

-- ---- formats

binary_breaks : (s : Shape) → FormatBreaks [] binary s → ⊥
binary_breaks BadName h = h (record { begins = refl; word = refl; unused = refl; free = refl }, tt)
binary_breaks RepeatedName h = absurd cc
binary_breaks ReservedName h = h tt
binary_breaks TyOperand h = absurd h
binary_breaks FormatIndex h = absurd h
binary_breaks ValueCount h = absurd h
binary_breaks BlockCount h = absurd (omega (arith, h))
binary_breaks RawBlockCount h = absurd (omega (arith, h))
binary_breaks ImmCount h = absurd h
binary_breaks ImmType h = absurd h
binary_breaks ImmShape h = absurd cc
binary_breaks NoVarargs h = absurd h
binary_breaks NoTypevar h = absurd (some_there 0 h.2)
binary_breaks WrittenImm h = absurd h
binary_breaks AlignedMem h = absurd h
binary_breaks WrittenOperands h = absurd h
binary_breaks ImplicitOperand h = absurd h
binary_breaks AlternateWithoutXmm h = absurd h
binary_breaks BinaryOperands h = absurd h
binary_breaks Results h = absurd h
binary_breaks FieldType h = absurd h

unary_breaks : (s : Shape) → FormatBreaks (binary ∷ []) unary_imm s → ⊥
unary_breaks BadName h = h (record { begins = refl; word = refl; unused = refl; free = refl }, (record { begins = refl; word = refl; unused = refl; free = refl }, (record { begins = refl; word = refl; unused = refl; free = refl }, tt)))
unary_breaks RepeatedName h = absurd cc
unary_breaks ReservedName h = h (imm64_is_type, tt)
unary_breaks TyOperand h = absurd h
unary_breaks FormatIndex h = absurd h
unary_breaks ValueCount h = absurd h
unary_breaks BlockCount h = absurd (omega (arith, h))
unary_breaks RawBlockCount h = absurd (omega (arith, h))
unary_breaks ImmCount h = absurd h
unary_breaks ImmType h = absurd h
unary_breaks ImmShape h = absurd cc
unary_breaks NoVarargs h = absurd h
unary_breaks NoTypevar h = absurd (omega (arith, h.1))
unary_breaks WrittenImm h = absurd h
unary_breaks AlignedMem h = absurd h
unary_breaks WrittenOperands h = absurd h
unary_breaks ImplicitOperand h = absurd h
unary_breaks AlternateWithoutXmm h = absurd h
unary_breaks BinaryOperands h = absurd h
unary_breaks Results h = absurd h
unary_breaks FieldType h = absurd h

-- ---- instructions

iadd_breaks_free : is_reserved_term (codes "iadd") ≡ false
iadd_breaks_free = free_of (codes "iadd") refl iadd_free refl

isub_breaks_free : is_reserved_term (codes "isub") ≡ false
isub_breaks_free = free_of (codes "isub") refl isub_free refl

iconst_breaks_free : is_reserved_term (codes "iconst") ≡ false
iconst_breaks_free = free_of (codes "iconst") refl iconst_free refl

iadd_breaks : (s : Shape) → InstructionBreaks (binary ∷ unary_imm ∷ []) [] (of_two_values (codes "iadd") (codes "Iadd")) s → ⊥
iadd_breaks BadName h = h (record { begins = refl; word = refl; free = refl }, record { begins = refl; word = refl; unused = refl; free = refl }, (record { begins = refl; word = refl; unused = refl; free = refl }, (record { begins = refl; word = refl; unused = refl; free = refl }, tt)))
iadd_breaks RepeatedName h = absurd cc
iadd_breaks ReservedName h = let bad : true ≡ false = sym h ∙ iadd_breaks_free in cc
iadd_breaks TyOperand h = absurd cc
iadd_breaks FormatIndex h = absurd (omega (arith, h))
iadd_breaks ValueCount h = ⊎_elim (λ no. no refl) (λ more. omega (arith, more)) h.1
iadd_breaks BlockCount h = h refl
iadd_breaks RawBlockCount h = h refl
iadd_breaks ImmCount h = h refl
iadd_breaks ImmType h = absurd cc
iadd_breaks ImmShape h = absurd h
iadd_breaks NoVarargs h = let e : false ≡ true = h.0 in absurd cc
iadd_breaks NoTypevar h = absurd h
iadd_breaks WrittenImm h = absurd h
iadd_breaks AlignedMem h = absurd h
iadd_breaks WrittenOperands h = absurd h
iadd_breaks ImplicitOperand h = absurd h
iadd_breaks AlternateWithoutXmm h = absurd h
iadd_breaks BinaryOperands h = absurd h
iadd_breaks Results h = absurd h
iadd_breaks FieldType h = absurd h

isub_breaks : (s : Shape) → InstructionBreaks (binary ∷ unary_imm ∷ []) ((of_two_values (codes "iadd") (codes "Iadd")) ∷ []) (of_two_values (codes "isub") (codes "Isub")) s → ⊥
isub_breaks BadName h = h (record { begins = refl; word = refl; free = refl }, record { begins = refl; word = refl; unused = refl; free = refl }, (record { begins = refl; word = refl; unused = refl; free = refl }, (record { begins = refl; word = refl; unused = refl; free = refl }, tt)))
isub_breaks RepeatedName h = absurd cc
isub_breaks ReservedName h = let bad : true ≡ false = sym h ∙ isub_breaks_free in cc
isub_breaks TyOperand h = absurd cc
isub_breaks FormatIndex h = absurd (omega (arith, h))
isub_breaks ValueCount h = ⊎_elim (λ no. no refl) (λ more. omega (arith, more)) h.1
isub_breaks BlockCount h = h refl
isub_breaks RawBlockCount h = h refl
isub_breaks ImmCount h = h refl
isub_breaks ImmType h = absurd cc
isub_breaks ImmShape h = absurd h
isub_breaks NoVarargs h = let e : false ≡ true = h.0 in absurd cc
isub_breaks NoTypevar h = absurd h
isub_breaks WrittenImm h = absurd h
isub_breaks AlignedMem h = absurd h
isub_breaks WrittenOperands h = absurd h
isub_breaks ImplicitOperand h = absurd h
isub_breaks AlternateWithoutXmm h = absurd h
isub_breaks BinaryOperands h = absurd h
isub_breaks Results h = absurd h
isub_breaks FieldType h = absurd h

iconst_breaks : (s : Shape) → InstructionBreaks (binary ∷ unary_imm ∷ []) ((of_two_values (codes "iadd") (codes "Iadd")) ∷ (of_two_values (codes "isub") (codes "Isub")) ∷ []) iconst s → ⊥
iconst_breaks BadName h = h (record { begins = refl; word = refl; free = refl }, record { begins = refl; word = refl; unused = refl; free = refl }, (record { begins = refl; word = refl; unused = refl; free = refl }, tt))
iconst_breaks RepeatedName h = absurd cc
iconst_breaks ReservedName h = let bad : true ≡ false = sym h ∙ iconst_breaks_free in cc
iconst_breaks TyOperand h = absurd cc
iconst_breaks FormatIndex h = absurd (omega (arith, h))
iconst_breaks ValueCount h = ⊎_elim (λ no. no refl) (λ more. omega (arith, more)) h.1
iconst_breaks BlockCount h = h refl
iconst_breaks RawBlockCount h = h refl
iconst_breaks ImmCount h = h refl
iconst_breaks ImmType h = absurd cc
iconst_breaks ImmShape h = absurd h
iconst_breaks NoVarargs h = let e : false ≡ true = h.0 in absurd cc
iconst_breaks NoTypevar h = absurd h
iconst_breaks WrittenImm h = absurd h
iconst_breaks AlignedMem h = absurd h
iconst_breaks WrittenOperands h = absurd h
iconst_breaks ImplicitOperand h = absurd h
iconst_breaks AlternateWithoutXmm h = absurd h
iconst_breaks BinaryOperands h = absurd h
iconst_breaks Results h = absurd h
iconst_breaks FieldType h = absurd h

-- ---- all of them

formats_supported : IsFirstFormat (binary ∷ unary_imm ∷ []) None
formats_supported =
    inr (breaks_none (FormatBreaks [] binary) binary_breaks, inr (breaks_none (FormatBreaks (binary ∷ []) unary_imm) unary_breaks, refl))

instructions_supported : IsFirstInstruction (binary ∷ unary_imm ∷ []) ((of_two_values (codes "iadd") (codes "Iadd")) ∷ (of_two_values (codes "isub") (codes "Isub")) ∷ iconst ∷ []) None
instructions_supported =
    let formats : List InstructionFormat = binary ∷ unary_imm ∷ [] in
    let iadd : Instruction = of_two_values (codes "iadd") (codes "Iadd") in
    let isub : Instruction = of_two_values (codes "isub") (codes "Isub") in
    inr (
      breaks_none (InstructionBreaks formats [] iadd) iadd_breaks,
      inr (
        breaks_none (InstructionBreaks formats (iadd ∷ []) isub) isub_breaks,
        inr (breaks_none (InstructionBreaks formats (iadd ∷ isub ∷ []) iconst) iconst_breaks, refl),
      ),
    )

pub sample_supported : AreSupported sample_tables
sample_supported = (formats_supported, (instructions_supported, (refl, refl)))
