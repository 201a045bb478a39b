-- An instruction as an environment has it: its rule, and the pattern of its extractor.
use Rattle.std.specs.Prelude.{◌≡◌, ℕ, ◌<◌, [], ◌∷◌, length, Bool, true, false, Some, Contains, slice_get}
use Rattle.isle_base.specs.declared.ids.TermId.{TermId}
use Rattle.isle_base.specs.declared.ids.TypeId.{TypeId}
use Rattle.isle_base.specs.declared.ids.VariantId.{VariantId}
use Rattle.isle_core.specs.declared.types.Term.{Term}
use Rattle.isle_core.specs.ExprType.{Allowed, IsExprOf}
use Rattle.isle_core.specs.Pattern.{Pattern}
use Rattle.isle_core.specs.Rule.{Environment, Rule, rules_of}
use Rattle.isle_core.specs.TypedVariables.{typed_variables, rule_typed}
use Rattle.isle_meta.specs.InstructionRow.{is_value, is_block}
use Rattle.isle_meta.specs.declared.clif.Instruction.{Instruction}
use Rattle.isle_meta.specs.declared.clif.InstructionFormat.{InstructionFormat}
use Rattle.isle_prelude.specs.ClifFiles.{data_term, opcode_term, parameters}
use Rattle.isle_prelude.specs.InstructionParts.{right_side, template}
use Rattle.isle_prelude.specs.Manners.{Manner, valued, skeleton}
use Rattle.isle_prelude.specs.Operands.{names_of}
use Rattle.isle_prelude_laws.specs.HonestMeaning.{Whole, ValuedInst, SkeletonInst, ValueArray, BlockArray, maker, taker}
use Rattle.isle_prelude_laws.proofs.Apart.{MakesThis}
use Rattle.isle_prelude_laws.proofs.Mirror.{IsPair}
use Rattle.isle_prelude_laws.proofs.Mirrored.{IsVariantTerm}
use Rattle.isle_prelude_laws.proofs.NamedTrees.{Numbers, ExprNamed, PatternNamed}
use Rattle.isle_prelude_laws.proofs.Operands.{IsPlainRule}

-- the manner of an instruction, by whether it is valued
abbrev pub manner_by : Bool → Manner
manner_by true = valued
manner_by false = skeleton

-- what is made of its data
abbrev pub whole_by : Bool → Whole
whole_by true = ValuedInst
whole_by false = SkeletonInst

-- what is made in an instruction's rule: itself, and arrays of several values or blocks
abbrev pub HasWhole : (is_valued : Bool) → Instruction → Whole → Type 0
HasWhole is_valued i ValuedInst = is_valued ≡ true
HasWhole is_valued i SkeletonInst = is_valued ≡ false
HasWhole is_valued i (ValueArray n) = (n ≡ length (names_of is_value i)) × (1 < n)
HasWhole is_valued i (BlockArray n) = (n ≡ length (names_of is_block i)) × (1 < n)

-- the instruction's term with its only rule, and the pattern of its extractor
pub record IsLaid (env : Environment) (number : Numbers) (f : InstructionFormat) (i : Instruction) (is_valued : Bool) (term : TermId) (pattern : Pattern) : Type 0 where
  pub listless : f.has_value_list ≡ false
  pub decl : Term
  pub there : slice_get env.terms term.0 ≡ Some decl
  pub rule : Rule
  pub rules : rules_of env term ≡ rule ∷ []
  pub plain : IsPlainRule rule decl.arg_tys
  pub right : ExprNamed number (parameters (manner_by is_valued) i) (right_side (maker (whole_by is_valued)) (manner_by is_valued) f i) rule.rhs
  pub allowed : Allowed
  pub typed : IsExprOf env allowed (rule_typed rule) decl.ret_ty rule.rhs
  pub taken : PatternNamed number (parameters (manner_by is_valued) i) (template (manner_by is_valued) f i) pattern
  pub occurs : (ty : TypeId) (n : ℕ) → slice_get decl.arg_tys n ≡ Some ty → Contains {X = TypeId × ℕ} (typed_variables pattern) (ty, n)
  pub data_made : (d : TermId) → number (data_term f) ≡ Some d → IsVariantTerm env d
  pub opcodes : TypeId
  pub place : VariantId
  pub opcode_made : (o : TermId) → number (opcode_term i) ≡ Some o → MakesThis env o opcodes place
  pub pair : (w : Whole) → HasWhole is_valued i w → (a b : TermId) → number (maker w) ≡ Some a → number (taker w) ≡ Some b → IsPair env a b w
