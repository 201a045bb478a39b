-- An instruction that is laid out so is read back.
use Rattle.std.proofs.Common.{◌≡◌, ℕ, zero, suc, ◌<◌, List, [], ◌∷◌, ◌++◌, length, Bool, true, false, Option, Some, None, refl, sym, ◌∙◌, subst, ⊎_elim, arith}
use Rattle.std.specs.Prelude.{Contains, slice_get}
use Rattle.isle_base.specs.declared.ids.TermId.{TermId}
use Rattle.isle_base.specs.declared.ids.TypeId.{TypeId}
use Rattle.isle_core.specs.Choice.{first_items}
use Rattle.isle_core.specs.Eval.{Answered}
use Rattle.isle_core.specs.ExprType.{Allowed}
use Rattle.isle_core.specs.Match.{Names, no_names}
use Rattle.isle_core.specs.Meaning.{Meaning}
use Rattle.isle_core.specs.Outcome.{IsHighest, rule_value}
use Rattle.isle_core.specs.Pattern.{Pattern}
use Rattle.isle_core.specs.Rule.{Environment, Rule, rules_of}
use Rattle.isle_core.specs.Tests.{rule_places}
use Rattle.isle_core.specs.TypedVariables.{typed_variables, rule_typed}
use Rattle.isle_core.specs.Value.{Value, Made}
use Rattle.isle_core.proofs.Contained.{contained_cases, none_contained}
use Rattle.isle_ast.specs.Tree as tree
use Rattle.isle_ast.specs.Views.{patterns_of, exprs_of}
use Rattle.isle_meta.specs.InstructionRow.{is_value, is_block, is_raw_block}
use Rattle.isle_meta.specs.declared.clif.Instruction.{Instruction}
use Rattle.isle_meta.specs.declared.clif.InstructionFormat.{InstructionFormat}
use Rattle.isle_prelude.specs.ClifFiles.{variables, variable_exprs, term_over, call_on, counted_pattern, counted_expr, value_patterns, data_term, opcode_term, data_pattern, data_expr, parameters}
use Rattle.isle_prelude.specs.InstructionParts.{right_side, template}
use Rattle.isle_prelude.specs.Manners.{type_variable}
use Rattle.isle_prelude.specs.Operands.{is_imm, names_of}
use Rattle.isle_prelude_laws.specs.HonestMeaning.{Whole, ValuedInst, SkeletonInst, ValueArray, BlockArray, maker, taker, IsHonest}
use Rattle.isle_prelude_laws.specs.RoundTrip.{IsMadeOf, BindsExactly}
use Rattle.isle_prelude_laws.proofs.Laid.{manner_by, whole_by, IsLaid}
use Rattle.isle_prelude_laws.proofs.Mirror.{IsPair, mirror_reads}
use Rattle.isle_prelude_laws.proofs.Mirrored.{CanMirror, CanMirrorAll, can_name, can_make, can_take, can_nothing, can_both}
use Rattle.isle_prelude_laws.proofs.NamedTrees.{Numbers}
use Rattle.isle_prelude_laws.proofs.Operands.{rule_operands, given_by}
use Rattle.isle_prelude_laws.proofs.ReadNames.{IsRead, IsWithin, AreBound, read_bound, read_matches}

-- ---- the parts of an instruction's data

module _ (env : Environment) (number : Numbers) (params : List (List ℕ)) (allowed : Allowed) (vars : List (TypeId × ℕ)) where
  -- variables
  can_variables : (names : List (List ℕ)) (es : List tree.Expr) (ps : List tree.Pattern)
      → CanMirrorAll env number params allowed vars (exprs_of es) (patterns_of ps)
      → CanMirrorAll env number params allowed vars (exprs_of (variable_exprs names ++ es)) (patterns_of (variables names ++ ps))
  can_variables [] es ps more = more
  can_variables (name ∷ names) es ps more = can_both env number params allowed vars (tree.Name name) (tree.Var name) (exprs_of (variable_exprs names ++ es)) (patterns_of (variables names ++ ps)) (can_name env number params allowed vars name) (can_variables names es ps more)

  only_variables : (names : List (List ℕ)) → CanMirrorAll env number params allowed vars (exprs_of (variable_exprs names)) (patterns_of (variables names))
  only_variables [] = can_nothing env number params allowed vars
  only_variables (name ∷ names) = can_both env number params allowed vars (tree.Name name) (tree.Var name) (exprs_of (variable_exprs names)) (patterns_of (variables names)) (can_name env number params allowed vars name) (only_variables names)

  -- values or blocks: nothing, one, or an array of them
  can_counted : (w : Whole) (names : List (List ℕ)) (es : List tree.Expr) (ps : List tree.Pattern)
      → (1 < length names → (a b : TermId) → number (maker w) ≡ Some a → number (taker w) ≡ Some b → IsPair env a b w)
      → CanMirrorAll env number params allowed vars (exprs_of es) (patterns_of ps) → CanMirrorAll env number params allowed vars (exprs_of (counted_expr (maker w) names ++ es)) (patterns_of (counted_pattern (taker w) names ++ ps))
  can_counted w [] es ps pair more = more
  can_counted w (x ∷ []) es ps pair more = can_both env number params allowed vars (tree.Name x) (tree.Var x) (exprs_of es) (patterns_of ps) (can_name env number params allowed vars x) more
  can_counted w (x ∷ y ∷ names) es ps pair more =
      let all = x ∷ y ∷ names in
      can_both env number params allowed vars (call_on (maker w) all) (term_over (taker w) all) (exprs_of es) (patterns_of ps)
      (can_take env number params allowed vars w (exprs_of (variable_exprs all)) (patterns_of (variables all)) (pair (omega arith)) (only_variables all)) more

-- an instruction's data
can_data : (env : Environment) (number : Numbers) (f : InstructionFormat) (i : Instruction) (is_valued : Bool) (term : TermId) (pattern : Pattern)
    (params : List (List ℕ)) (allowed : Allowed) (vars : List (TypeId × ℕ)) → IsLaid env number f i is_valued term pattern
    → CanMirror env number params allowed vars (data_expr f i) (data_pattern f i)
can_data env number f i is_valued term pattern params allowed vars laid =
    let raw = names_of is_raw_block i in
    let imm = names_of is_imm i in
    let values = names_of is_value i in
    let blocks = names_of is_block i in
    let more_es = variable_exprs raw ++ variable_exprs imm in
    let more_ps = variables raw ++ variables imm in
    let tail = can_variables env number params allowed vars raw (variable_exprs imm) (variables imm) (only_variables env number params allowed vars imm) in
    let block_es = counted_expr (maker (BlockArray (length blocks))) blocks ++ more_es in
    let block_ps = counted_pattern (taker (BlockArray (length blocks))) blocks ++ more_ps in
    let with_blocks = can_counted env number params allowed vars (BlockArray (length blocks)) blocks more_es more_ps (λ many. laid.pair (BlockArray (length blocks)) (refl, many)) tail in
    let with_values = can_counted env number params allowed vars (ValueArray (length values)) values block_es block_ps (λ many. laid.pair (ValueArray (length values)) (refl, many)) with_blocks in
    let value_es = counted_expr (maker (ValueArray (length values))) values ++ block_es in
    let opcode = can_make env number params allowed vars (opcode_term i) tree.NoExpr tree.NoPattern (λ o is. record { ty = laid.opcodes; variant = laid.place; made = laid.opcode_made o is }) (can_nothing env number params allowed vars) in
    let listed : Bool → List tree.Pattern = λ b. value_patterns b i ++ block_ps in
    let data_of : Bool → tree.Pattern = λ b. tree.Term (data_term f) (patterns_of (term_over (opcode_term i) [] ∷ listed b)) in
    subst (λ (b : Bool). CanMirror env number params allowed vars (data_expr f i) (data_of b)) (sym laid.listless)
    (can_make env number params allowed vars (data_term f) (exprs_of (call_on (opcode_term i) [] ∷ value_es)) (patterns_of (term_over (opcode_term i) [] ∷ listed false)) laid.data_made
    (can_both env number params allowed vars (call_on (opcode_term i) []) (term_over (opcode_term i) []) (exprs_of value_es) (patterns_of (listed false)) opcode with_values))

-- the instruction's rule and its extractor
can_whole : (env : Environment) (number : Numbers) (f : InstructionFormat) (i : Instruction) (is_valued : Bool) (term : TermId) (pattern : Pattern)
    (params : List (List ℕ)) (allowed : Allowed) (vars : List (TypeId × ℕ)) → IsLaid env number f i is_valued term pattern
    → CanMirror env number params allowed vars (right_side (maker (whole_by is_valued)) (manner_by is_valued) f i) (template (manner_by is_valued) f i)
can_whole env number f i true term pattern params allowed vars laid =
    can_take env number params allowed vars ValuedInst (exprs_of (tree.Name type_variable ∷ data_expr f i ∷ [])) (patterns_of (tree.Var type_variable ∷ data_pattern f i ∷ [])) (laid.pair ValuedInst refl)
    (can_both env number params allowed vars (tree.Name type_variable) (tree.Var type_variable) (exprs_of (data_expr f i ∷ [])) (patterns_of (data_pattern f i ∷ [])) (can_name env number params allowed vars type_variable)
    (can_both env number params allowed vars (data_expr f i) (data_pattern f i) tree.NoExpr tree.NoPattern (can_data env number f i true term pattern params allowed vars laid) (can_nothing env number params allowed vars)))
can_whole env number f i false term pattern params allowed vars laid =
    can_take env number params allowed vars SkeletonInst (exprs_of (data_expr f i ∷ [])) (patterns_of (data_pattern f i ∷ [])) (laid.pair SkeletonInst refl)
    (can_both env number params allowed vars (data_expr f i) (data_pattern f i) tree.NoExpr tree.NoPattern (can_data env number f i false term pattern params allowed vars laid) (can_nothing env number params allowed vars))

-- ---- what is read

-- the value that the constructor made is read by the extractor's pattern, whose variables are the operands
pub record IsReadOf (env : Environment) (m : Meaning) (pattern : Pattern) (v : Value) (operands : List Value) (tys : List TypeId) : Type 0 where
  pub all : Names
  pub read : IsRead env m all pattern v
  pub are : (k : ℕ) → all k ≡ slice_get operands k
  pub many : length operands ≡ length tys

pub laid_read : (env : Environment) (number : Numbers) (f : InstructionFormat) (i : Instruction) (is_valued : Bool) (term : TermId)
    (pattern : Pattern) (laid : IsLaid env number f i is_valued term pattern) (m : Meaning) (operands : List Value) (made : List Made) (v : Value)
    → IsHonest env m term operands made → IsMadeOf env m term operands made v
    → IsReadOf env m pattern v operands laid.decl.arg_tys
laid_read env number f i is_valued term pattern laid m operands made v honest given =
    let g = given_by v given.1 given.2 in
    let one : laid.rule ≡ g.rule = ⊎_elim (λ (e : laid.rule ≡ g.rule). e) (λ none. absurd (none_contained g.rule none)) (contained_cases laid.rule [] g.rule (subst (λ (rs : List Rule). Contains rs g.rule) laid.rules g.highest.among)) in
    let highest : IsHighest env m operands (rules_of env term) laid.rule g.names = subst (λ (r : Rule). IsHighest env m operands (rules_of env term) r g.names) (sym one) g.highest in
    let gives : rule_value env m laid.rule g.names made ≡ Answered v g.calls = subst (λ (r : Rule). rule_value env m r g.names made ≡ Answered v g.calls) (sym one) g.gives in
    let os = rule_operands env m laid.rule laid.decl.arg_tys operands g.names laid.plain highest.matched in
    let mirror = can_whole env number f i is_valued term pattern (parameters (manner_by is_valued) i) laid.allowed (rule_typed laid.rule) laid laid.rule.rhs pattern laid.decl.ret_ty laid.right laid.typed laid.taken in
    record {
      all = g.names;
      read = mirror_reads mirror m first_items g.names (rule_places env laid.rule) 0 made v g.calls gives (honest laid.rule g.names highest);
      are = os.0;
      many = os.1;
    }

also_there : {X Y : Type 0} (xs : List X) (ys : List Y) (k : ℕ) (x : X) → length xs ≡ length ys → slice_get xs k ≡ Some x → (y : Y) × (slice_get ys k ≡ Some y)
also_there [] ys k x long h = absurd cc
also_there (z ∷ xs) [] k x long h = absurd (omega (arith, long))
also_there (z ∷ xs) (y ∷ ys) zero x long h = (y, refl)
also_there (z ∷ xs) (y ∷ ys) (suc k) x long h = also_there xs ys k x (omega (arith, long)) h

-- what is bound, if each value has its variable in the pattern
bound_exactly : (all after : Names) (vars : List (TypeId × ℕ)) (operands : List Value) (tys : List TypeId) → AreBound all no_names after vars
    → ((k : ℕ) → all k ≡ slice_get operands k) → length operands ≡ length tys
    → ((ty : TypeId) (n : ℕ) → slice_get tys n ≡ Some ty → Contains {X = TypeId × ℕ} vars (ty, n)) → (k : ℕ) → after k ≡ slice_get operands k
bound_exactly all after vars operands tys b are many occurs k = by (slice_get operands k) refl
  where
    none : slice_get operands k ≡ None → (o : Option Value) → after k ≡ o → after k ≡ None
    none is None e = e
    none is (Some u) e = let bad : Some u ≡ None = sym (b.within k u e) ∙ are k ∙ is in absurd cc

    by : (o : Option Value) → slice_get operands k ≡ o → after k ≡ slice_get operands k
    by None is = none is (after k) refl ∙ sym is
    by (Some u) is = let t = also_there operands tys k u many is in b.bound t.0 k (occurs t.0 k t.1) ∙ are k

-- what is bound is exactly the operands
pub laid_back : (env : Environment) (number : Numbers) (f : InstructionFormat) (i : Instruction) (is_valued : Bool) (term : TermId)
    (pattern : Pattern) (laid : IsLaid env number f i is_valued term pattern) (m : Meaning) (operands : List Value) (made : List Made) (v : Value)
    → IsHonest env m term operands made → IsMadeOf env m term operands made v
    → BindsExactly env m v operands pattern
laid_back env number f i is_valued term pattern laid m operands made v honest given =
    let r = laid_read env number f i is_valued term pattern laid m operands made v honest given in
    let none : IsWithin no_names r.all = λ k u h. absurd (nothing u h) in
    record {
      matched = λ at. read_matches r.read at no_names none;
      exact = λ choice at names h. bound_exactly r.all names (typed_variables pattern) operands laid.decl.arg_tys (read_bound r.read choice at no_names names none h) r.are r.many laid.occurs;
    }
  where
    nothing : (u : Value) → None ≡ Some u → ⊥
    nothing u h = cc
