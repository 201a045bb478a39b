-- The texts of an instruction: its rule and its extractor are of names and terms, over its parameters.
use Rattle.std.proofs.Common.{◌≡◌, ℕ, ◌+◌, ◌<◌, List, [], ◌∷◌, ◌++◌, length, map, Bool, true, false, cond, Some, refl, sym, ap, ◌∙◌, subst, ⊎_elim, arith}
use Rattle.std.specs.Prelude.{Contains, filter, option_map}
use Rattle.std.specs.List.{AllByRecursion}
use Rattle.std.specs.Str.{bytes_eq}
use Rattle.std.proofs.lemmas.Slice.Eq.{bytes_eq-Decides}
use Rattle.isle_core.proofs.Contained.{head_contained, tail_contained, contained_cases, none_contained}
use Rattle.isle_ast.specs.Tree as tree
use Rattle.isle_ast.specs.Views.{patterns_of, exprs_of}
use Rattle.isle_declarations.specs.Symbols.{index_of}
use Rattle.isle_meta.specs.InstructionRow.{is_value, is_block, is_raw_block}
use Rattle.isle_meta.specs.declared.clif.ClifOperand.{ClifOperand}
use Rattle.isle_meta.specs.declared.clif.Instruction.{Instruction}
use Rattle.isle_meta.specs.declared.clif.InstructionFormat.{InstructionFormat}
use Rattle.isle_meta.specs.declared.clif.OperandClass.{OperandClass}
use Rattle.isle_prelude.specs.ClifFiles.{variables, variable_exprs, term_over, counted_pattern, counted_expr, value_patterns, data_term, opcode_term, data_pattern, data_expr, operand_names, parameters}
use Rattle.isle_prelude.specs.InstructionParts.{right_side, template}
use Rattle.isle_prelude.specs.Manners.{type_variable}
use Rattle.isle_prelude.specs.Operands.{is_imm, names_of}
use Rattle.isle_prelude_laws.specs.HonestMeaning.{Whole, ValueArray, BlockArray, maker, taker}
use Rattle.isle_prelude_laws.proofs.Laid.{manner_by, whole_by, HasWhole}
use Rattle.isle_prelude_laws.proofs.NamedTrees.{EachTerm, EachTerms}
use Rattle.isle_prelude_laws.proofs.PassedTrees.{IsSimple, AreSimple, IsOver, AreOver}

-- ---- right sides are simple

simple_both : (xs ys : List tree.Expr) → AreSimple (exprs_of xs) → AreSimple (exprs_of ys) → AreSimple (exprs_of (xs ++ ys))
simple_both [] ys h k = k
simple_both (x ∷ xs) ys h k = (h.0, simple_both xs ys h.1 k)

simple_variables : (names : List (List ℕ)) → AreSimple (exprs_of (variable_exprs names))
simple_variables [] = tt
simple_variables (name ∷ names) = (tt, simple_variables names)

simple_counted : (array : List ℕ) (names : List (List ℕ)) → AreSimple (exprs_of (counted_expr array names))
simple_counted array [] = tt
simple_counted array (x ∷ []) = (tt, tt)
simple_counted array (x ∷ y ∷ names) = (simple_variables (x ∷ y ∷ names), tt)

simple_data : (f : InstructionFormat) (i : Instruction) → IsSimple (data_expr f i)
simple_data f i =
    let values = counted_expr (maker (ValueArray (length (names_of is_value i)))) (names_of is_value i) in
    let blocks = counted_expr (maker (BlockArray (length (names_of is_block i)))) (names_of is_block i) in
    let raw = variable_exprs (names_of is_raw_block i) in
    let imm = variable_exprs (names_of is_imm i) in (
      tt,
      simple_both values (blocks ++ (raw ++ imm)) (simple_counted (maker (ValueArray (length (names_of is_value i)))) (names_of is_value i))
          (simple_both blocks (raw ++ imm) (simple_counted (maker (BlockArray (length (names_of is_block i)))) (names_of is_block i)) (simple_both raw imm (simple_variables (names_of is_raw_block i)) (simple_variables (names_of is_imm i)))),
    )

pub simple_right : (b : Bool) (f : InstructionFormat) (i : Instruction) → IsSimple (right_side (maker (whole_by b)) (manner_by b) f i)
simple_right true f i = (tt, (simple_data f i, tt))
simple_right false f i = (simple_data f i, tt)

-- ---- extractors are over their parameters

-- a name has a place among these
abbrev HasPlace : List (List ℕ) → List ℕ → Type 0
HasPlace params name = (k : ℕ) × (index_of params name ≡ Some k)

place_there : (params : List (List ℕ)) (name : List ℕ) → Contains params name → HasPlace params name
place_there [] name c = absurd (none_contained name c)
place_there (p ∷ params) name c = by (bytes_eq p name) refl (λ there. place_there params name there)
  where
    more : (k : ℕ) → index_of params name ≡ Some k → HasPlace (p ∷ params) name
    more k is = by (bytes_eq p name)
      where
        by : (b : Bool) → (n : ℕ) × (cond b (Some 0) (option_map (λ (m : ℕ). m + 1) (index_of params name)) ≡ Some n)
        by true = (0, refl)
        by false = (k + 1, ap (option_map (λ (m : ℕ). m + 1)) is)

    by : (b : Bool) → bytes_eq p name ≡ b → (Contains params name → HasPlace params name) → HasPlace (p ∷ params) name
    by true same go = (0, ap (λ b. cond b (Some 0) (option_map (λ (m : ℕ). m + 1) (index_of params name))) same)
    by false other go =
        let r = go (⊎_elim (λ (e : p ≡ name). let bad : true ≡ false = sym ((bytes_eq-Decides p name).1 e) ∙ other in absurd cc) (λ there. there) (contained_cases p params name c)) in
        more r.0 r.1

over_both : (params : List (List ℕ)) (xs ys : List tree.Pattern) → AreOver params (patterns_of xs) → AreOver params (patterns_of ys)
    → AreOver params (patterns_of (xs ++ ys))
over_both params [] ys h k = k
over_both params (x ∷ xs) ys h k = (h.0, over_both params xs ys h.1 k)

over_variables : (params names : List (List ℕ)) → AllByRecursion (HasPlace params) names → AreOver params (patterns_of (variables names))
over_variables params [] h = tt
over_variables params (name ∷ names) h = (h.0, over_variables params names h.1)

over_counted : (params : List (List ℕ)) (array : List ℕ) (names : List (List ℕ)) → AllByRecursion (HasPlace params) names
    → AreOver params (patterns_of (counted_pattern array names))
over_counted params array [] h = tt
over_counted params array (x ∷ []) h = (h.0, tt)
over_counted params array (x ∷ y ∷ names) h = (over_variables params (x ∷ y ∷ names) h, tt)

-- the operands of a class have places
class_places : (params : List (List ℕ)) (is : OperandClass → Bool) (os : List ClifOperand)
    → ((o : ClifOperand) → Contains os o → HasPlace params o.name)
    → AllByRecursion (HasPlace params) (map (λ (o : ClifOperand). o.name) (filter (λ (o : ClifOperand). is o.class) os))
class_places params is [] h = tt
class_places params is (o ∷ os) h = by (is o.class) (class_places params is os (λ p c. h p (tail_contained o os p c)))
  where
    by : (b : Bool) → AllByRecursion (HasPlace params) (map (λ (x : ClifOperand). x.name) (filter (λ (x : ClifOperand). is x.class) os))
        → AllByRecursion (HasPlace params) (map (λ (x : ClifOperand). x.name) (cond b (o ∷ filter (λ (x : ClifOperand). is x.class) os) (filter (λ (x : ClifOperand). is x.class) os)))
    by true rest = (h o (head_contained o os), rest)
    by false rest = rest

pub named_operand : (os : List ClifOperand) (o : ClifOperand) → Contains os o → Contains (map (λ (x : ClifOperand). x.name) os) o.name
named_operand [] o c = absurd (none_contained o c)
named_operand (x ∷ os) o c =
    let names = map (λ (y : ClifOperand). y.name) os in
    ⊎_elim (λ (same : x ≡ o). subst (Contains (x.name ∷ names)) (ap (λ (y : ClifOperand). y.name) same) (head_contained x.name names)) (λ there. tail_contained x.name names o.name (named_operand os o there)) (contained_cases x os o c)

over_data : (params : List (List ℕ)) (f : InstructionFormat) (i : Instruction) → f.has_value_list ≡ false
    → ((o : ClifOperand) → Contains i.operands_in o → HasPlace params o.name) → IsOver params (data_pattern f i)
over_data params f i listless places =
    let places_of = λ (is : OperandClass → Bool). class_places params is i.operands_in places in
    let blocks = counted_pattern (taker (BlockArray (length (names_of is_block i)))) (names_of is_block i) in
    let raw = variables (names_of is_raw_block i) in
    let imm = variables (names_of is_imm i) in
    let rest = blocks ++ (raw ++ imm) in
    let over_rest = over_both params blocks (raw ++ imm) (over_counted params (taker (BlockArray (length (names_of is_block i)))) (names_of is_block i) (places_of is_block))
    (over_both params raw imm (over_variables params (names_of is_raw_block i) (places_of is_raw_block)) (over_variables params (names_of is_imm i) (places_of is_imm))) in
    subst (λ (b : Bool). AreOver params (patterns_of (term_over (opcode_term i) [] ∷ (value_patterns b i ++ rest)))) (sym listless)
    (tt, over_both params (value_patterns false i) rest (over_counted params (taker (ValueArray (length (names_of is_value i)))) (names_of is_value i) (places_of is_value)) over_rest)

pub over_template : (b : Bool) (f : InstructionFormat) (i : Instruction) → f.has_value_list ≡ false
    → IsOver (parameters (manner_by b) i) (template (manner_by b) f i)
over_template true f i listless =
    let params = type_variable ∷ operand_names i in
    (place_there params type_variable (head_contained type_variable (operand_names i)), (over_data params f i listless (λ o c. place_there params o.name (tail_contained type_variable (operand_names i) o.name (named_operand i.operands_in o c))), tt))
over_template false f i listless = (over_data (operand_names i) f i listless (λ o c. place_there (operand_names i) o.name (named_operand i.operands_in o c)), tt)

-- ---- their terms

module _ (G : List ℕ → Type 0) where
  plain_both : (xs ys : List tree.Pattern) → EachTerms G (patterns_of xs) → EachTerms G (patterns_of ys)
      → EachTerms G (patterns_of (xs ++ ys))
  plain_both [] ys h k = k
  plain_both (x ∷ xs) ys h k = (h.0, plain_both xs ys h.1 k)

  plain_variables : (names : List (List ℕ)) → EachTerms G (patterns_of (variables names))
  plain_variables [] = tt
  plain_variables (name ∷ names) = (tt, plain_variables names)

  plain_counted : (array : List ℕ) (names : List (List ℕ)) → (1 < length names → G array)
      → EachTerms G (patterns_of (counted_pattern array names))
  plain_counted array [] h = tt
  plain_counted array (x ∷ []) h = (tt, tt)
  plain_counted array (x ∷ y ∷ names) h = ((h (omega arith), plain_variables (x ∷ y ∷ names)), tt)

  plain_data : (b : Bool) (f : InstructionFormat) (i : Instruction) → f.has_value_list ≡ false → G (data_term f) → G (opcode_term i)
      → ((w : Whole) → HasWhole b i w → G (taker w)) → EachTerm G (data_pattern f i)
  plain_data b f i listless held opcode takes =
      let blocks = counted_pattern (taker (BlockArray (length (names_of is_block i)))) (names_of is_block i) in
      let raw = variables (names_of is_raw_block i) in
      let imm = variables (names_of is_imm i) in
      let rest = blocks ++ (raw ++ imm) in
      let plain_rest = plain_both blocks (raw ++ imm) (plain_counted (taker (BlockArray (length (names_of is_block i)))) (names_of is_block i) (λ many. takes (BlockArray (length (names_of is_block i))) (refl, many)))
      (plain_both raw imm (plain_variables (names_of is_raw_block i)) (plain_variables (names_of is_imm i))) in (
        held,
        subst (λ (c : Bool). EachTerms G (patterns_of (term_over (opcode_term i) [] ∷ (value_patterns c i ++ rest)))) (sym listless)
            ((opcode, tt), plain_both (value_patterns false i) rest (plain_counted (taker (ValueArray (length (names_of is_value i)))) (names_of is_value i) (λ many. takes (ValueArray (length (names_of is_value i))) (refl, many))) plain_rest),
      )

  pub plain_template : (b : Bool) (f : InstructionFormat) (i : Instruction) → f.has_value_list ≡ false → G (data_term f)
      → G (opcode_term i) → ((w : Whole) → HasWhole b i w → G (taker w)) → EachTerm G (template (manner_by b) f i)
  plain_template true f i listless held opcode takes = (takes (whole_by true) refl, (tt, (plain_data true f i listless held opcode takes, tt)))
  plain_template false f i listless held opcode takes = (takes (whole_by false) refl, (plain_data false f i listless held opcode takes, tt))
