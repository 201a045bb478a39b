-- The grammar of written tables, a constructor a form: which tokens some tokens begin with, and which are after these.
use Rattle.std.specs.Prelude.{ℕ, List, [], ◌∷◌, ◌++◌, Bool, Option, Some, None, codes}
use Rattle.isle_lexer.specs.Lexeme.{Lexeme}
use Rattle.isle_reading.specs.Relations.{Many}
use Rattle.isle_meta.specs.declared.clif.ImmField.{ImmField}
use Rattle.isle_meta.specs.declared.clif.InstructionFormat.{InstructionFormat}
use Rattle.isle_meta.specs.declared.clif.OperandClass.{OperandClass}
use Rattle.isle_meta.specs.declared.clif.OperandClass.TheVariants as class
use Rattle.isle_meta.specs.declared.clif.ClifOperand.{ClifOperand}
use Rattle.isle_meta.specs.declared.machine.OperandKind.{OperandKind}
use Rattle.isle_meta.specs.declared.machine.Mutability.{Mutability}
use Rattle.isle_meta.specs.declared.machine.Operand.{Operand}
use Rattle.isle_meta.specs.declared.machine.Alternate.{Alternate}
use Rattle.isle_meta.specs.declared.machine.Inst.{Inst}
use Rattle.isle_meta.specs.declared.pulley.PulleyInst.{PulleyInst}
use Rattle.isle_tables.specs.declared.item.InstRow.{InstRow}
use Rattle.isle_tables.specs.declared.item.Item.{Item}
use Rattle.isle_tables.specs.declared.item.Item.TheVariants as item
use Rattle.isle_tables.specs.Words.{bits_of, kind_of, mutability_of, class_of}
use Rattle.isle_tables.specs.Pieces.{Opens, Closes, Key, Says, Symbol, PlacedS, FlagS, CountS}

-- ---- formats

-- [( one-of V* )]
pub data ValuesS : Option (List (List ℕ)) → List Lexeme → List Lexeme → Type 0 where
  no_values : (ts : List Lexeme) → ValuesS None ts ts
  one_of : (values : List (List ℕ)) (ts t1 t2 rest : List Lexeme) → Opens ts t1 → Key (codes "one-of") t1 t2 → Many Symbol values t2 rest → ValuesS (Some values) ts rest

-- ( imm MEMBER TYPE [( one-of V* )] )
pub data ImmS : ImmField → List Lexeme → List Lexeme → Type 0 where
  imm : (member type : List ℕ) (values : Option (List (List ℕ))) (ts t1 t2 t3 t4 t5 rest : List Lexeme)
      → Opens ts t1 → Key (codes "imm") t1 t2 → Symbol member t2 t3 → Symbol type t3 t4 → ValuesS values t4 t5 → Closes t5 rest
      → ImmS (record { member = member; rust_type = type; values = values }) ts rest

-- [( typevar NUM )]
pub data TypevarS : Option ℕ → List Lexeme → List Lexeme → Type 0 where
  no_typevar : (ts : List Lexeme) → TypevarS None ts ts
  typevar : (n : ℕ) (ts rest : List Lexeme) → CountS (codes "typevar") n ts rest → TypevarS (Some n) ts rest

-- ( format NAME [list] ( values NUM ) ( blocks NUM ) ( raw NUM ) [( typevar NUM )] ( imm MEMBER TYPE [( one-of V* )] )* )
pub data FormatS : InstructionFormat → List Lexeme → List Lexeme → Type 0 where
  format : (name : List ℕ) (list : Bool) (values blocks raw : ℕ) (of_type : Option ℕ) (imms : List ImmField) (ts t1 t2 t3 t4 t5 t6 t7 t8 rest : List Lexeme)
      → Opens ts t1 → Key (codes "format") t1 t2 → Symbol name t2 t3 → FlagS (codes "list") list t3 t4
      → CountS (codes "values") values t4 t5 → CountS (codes "blocks") blocks t5 t6 → CountS (codes "raw") raw t6 t7
      → TypevarS of_type t7 t8 → Many ImmS imms t8 rest
      → FormatS (record { name = name; has_value_list = list; num_value_operands = values; num_block_operands = blocks; num_raw_block_operands = raw; imm_fields = imms; typevar_operand = of_type })
      ts rest

-- ---- instructions

-- ( value X ), ( varargs X ), ( block X ), ( raw X ) or ( imm X TYPE )
pub data OpndS : ClifOperand → List Lexeme → List Lexeme → Type 0 where
  alone : (c : OperandClass) (name : List ℕ) (ts t1 t2 t3 rest : List Lexeme) → Opens ts t1 → Says class_of c t1 t2 → Symbol name t2 t3 → Closes t3 rest
      → OpndS (record { name = name; class = c }) ts rest
  immediate : (name type : List ℕ) (ts t1 t2 t3 t4 rest : List Lexeme) → Opens ts t1 → Key (codes "imm") t1 t2 → Symbol name t2 t3 → Symbol type t3 t4 → Closes t4 rest
      → OpndS (record { name = name; class = class.Imm type }) ts rest

-- ( in opnd* )
pub data OpndsS : List ClifOperand → List Lexeme → List Lexeme → Type 0 where
  opnds : (operands : List ClifOperand) (ts t1 t2 rest : List Lexeme) → Opens ts t1 → Key (codes "in") t1 t2 → Many OpndS operands t2 rest → OpndsS operands ts rest

-- ( inst NAME CAMEL FORMAT ( in opnd* ) ( out NUM ) [trap] [effect] )
pub data InstS : InstRow → List Lexeme → List Lexeme → Type 0 where
  inst : (name camel of_format : List ℕ) (at : ℕ) (operands : List ClifOperand) (results : ℕ) (trap effect : Bool) (ts t1 t2 t3 t4 t5 t6 t7 t8 t9 rest : List Lexeme)
      → Opens ts t1 → Key (codes "inst") t1 t2 → Symbol name t2 t3 → Symbol camel t3 t4 → PlacedS (of_format, at) t4 t5
      → OpndsS operands t5 t6 → CountS (codes "out") results t6 t7 → FlagS (codes "trap") trap t7 t8 → FlagS (codes "effect") effect t8 t9 → Closes t9 rest
      → InstS (record { name = name; camel_name = camel; format = of_format; format_at = at; operands_in = operands; value_results = results; can_trap = trap; other_side_effects = effect }) ts rest

-- ---- the assembler

-- ( LOC BITS kind mut [signed] [align] )
pub data XopS : Operand → List Lexeme → List Lexeme → Type 0 where
  xop : (location : List ℕ) (bits : ℕ) (kind : OperandKind) (mutability : Mutability) (signed align : Bool) (ts t1 t2 t3 t4 t5 t6 t7 rest : List Lexeme)
      → Opens ts t1 → Symbol location t1 t2 → Says bits_of bits t2 t3 → Says kind_of kind t3 t4 → Says mutability_of mutability t4 t5
      → FlagS (codes "signed") signed t5 t6 → FlagS (codes "align") align t6 t7 → Closes t7 rest
      → XopS (record { location = location; bits = bits; kind = kind; mutability = mutability; sign_extended = signed; align = align }) ts rest

-- ( xop* )
pub data XopsS : List Operand → List Lexeme → List Lexeme → Type 0 where
  xops : (operands : List Operand) (ts t1 rest : List Lexeme) → Opens ts t1 → Many XopS operands t1 rest → XopsS operands ts rest

-- [( alt NAME FEATURE )]
pub data AltS : Option Alternate → List Lexeme → List Lexeme → Type 0 where
  no_alt : (ts : List Lexeme) → AltS None ts ts
  alt : (name feature : List ℕ) (ts t1 t2 t3 t4 rest : List Lexeme) → Opens ts t1 → Key (codes "alt") t1 t2 → Symbol name t2 t3 → Symbol feature t3 t4 → Closes t4 rest
      → AltS (Some (record { name = name; feature = feature })) ts rest

-- ( x64 MNEMONIC NAME ( xop* ) [reads] [writes] [trap] [( alt NAME FEATURE )] )
pub data X64S : Inst → List Lexeme → List Lexeme → Type 0 where
  x64 : (mnemonic name : List ℕ) (operands : List Operand) (reads writes trap : Bool) (alternate : Option Alternate) (ts t1 t2 t3 t4 t5 t6 t7 t8 t9 rest : List Lexeme)
      → Opens ts t1 → Key (codes "x64") t1 t2 → Symbol mnemonic t2 t3 → Symbol name t3 t4 → XopsS operands t4 t5
      → FlagS (codes "reads") reads t5 t6 → FlagS (codes "writes") writes t6 t7 → FlagS (codes "trap") trap t7 t8 → AltS alternate t8 t9 → Closes t9 rest
      → X64S (record { mnemonic = mnemonic; name = name; operands = operands; reads_flags = reads; writes_flags = writes; has_trap = trap; alternate = alternate }) ts rest

-- ---- the interpreter

-- TYPE, ( binary A ), ( binary A B ), ( binary A B C ) or ( upper )
pub data FieldTypeS : List ℕ → List Lexeme → List Lexeme → Type 0 where
  plain : (type : List ℕ) (ts rest : List Lexeme) → Symbol type ts rest → FieldTypeS type ts rest
  binary_one : (a : List ℕ) (ts t1 t2 t3 rest : List Lexeme) → Opens ts t1 → Key (codes "binary") t1 t2 → Symbol a t2 t3 → Closes t3 rest
      → FieldTypeS (codes "BinaryOperands < " ++ a ++ codes " >") ts rest
  binary_two : (a b : List ℕ) (ts t1 t2 t3 t4 rest : List Lexeme) → Opens ts t1 → Key (codes "binary") t1 t2 → Symbol a t2 t3 → Symbol b t3 t4 → Closes t4 rest
      → FieldTypeS (codes "BinaryOperands < " ++ a ++ codes ", " ++ b ++ codes " >") ts rest
  binary_three : (a b c : List ℕ) (ts t1 t2 t3 t4 t5 rest : List Lexeme) → Opens ts t1 → Key (codes "binary") t1 t2 → Symbol a t2 t3 → Symbol b t3 t4 → Symbol c t4 t5 → Closes t5 rest
      → FieldTypeS (codes "BinaryOperands < " ++ a ++ codes ", " ++ b ++ codes ", " ++ c ++ codes " >") ts rest
  upper : (ts t1 t2 rest : List Lexeme) → Opens ts t1 → Key (codes "upper") t1 t2 → Closes t2 rest → FieldTypeS (codes "UpperRegSet < XReg >") ts rest

-- ( X TYPE ), ( X ( binary A [B [C]] ) ) or ( X ( upper ) )
pub data FieldS : List ℕ × List ℕ → List Lexeme → List Lexeme → Type 0 where
  field : (name type : List ℕ) (ts t1 t2 t3 rest : List Lexeme) → Opens ts t1 → Symbol name t1 t2 → FieldTypeS type t2 t3 → Closes t3 rest → FieldS (name, type) ts rest

-- ( op SNAKE NAME field* ), or with another first word
pub data OpS (word : List ℕ) : PulleyInst → List Lexeme → List Lexeme → Type 0 where
  op : (snake name : List ℕ) (fields : List (List ℕ × List ℕ)) (ts t1 t2 t3 t4 rest : List Lexeme)
      → Opens ts t1 → Key word t1 t2 → Symbol snake t2 t3 → Symbol name t3 t4 → Many FieldS fields t4 rest
      → OpS word (record { snake_name = snake; name = name; fields = fields }) ts rest

-- ---- items

pub data ItemS : Item → List Lexeme → List Lexeme → Type 0 where
  a_format : (f : InstructionFormat) (ts rest : List Lexeme) → FormatS f ts rest → ItemS (item.Format f) ts rest
  an_inst : (i : InstRow) (ts rest : List Lexeme) → InstS i ts rest → ItemS (item.Inst i) ts rest
  an_x64 : (i : Inst) (ts rest : List Lexeme) → X64S i ts rest → ItemS (item.X64 i) ts rest
  an_op : (i : PulleyInst) (ts rest : List Lexeme) → OpS (codes "op") i ts rest → ItemS (item.Op i) ts rest
  an_ext_op : (i : PulleyInst) (ts rest : List Lexeme) → OpS (codes "ext-op") i ts rest → ItemS (item.ExtOp i) ts rest

-- items up to the end of the text
pub data ItemsS : List Item → List Lexeme → Type 0 where
  no_item : ItemsS [] []
  an_item : (i : Item) (others : List Item) (ts rest : List Lexeme) → ItemS i ts rest → ItemsS others rest → ItemsS (i ∷ others) ts
