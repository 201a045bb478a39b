-- Each instruction of a supported table whose definitions are typed has a plan for all operands of its types.
use Rattle.std.proofs.Common.{◌≡◌, ℕ, suc, ◌+◌, ◌<◌, List, [], ◌∷◌, ◌++◌, length, map, Bool, true, false, Option, Some, refl, sym, ap, ◌∙◌, subst, ⊎_elim, arith}
use Rattle.std.specs.List.{IsDistinct}
use Rattle.std.specs.Str.{bytes_eq}
use Rattle.std.specs.Prelude.{Contains, IsSomeAnd, codes, replicate, option_and_then, slice_get}
use Rattle.isle_base.specs.declared.ids.TermId.{TermId}
use Rattle.isle_base.specs.declared.ids.TypeId.{TypeId}
use Rattle.isle_core.specs.declared.types.Term.{Term}
use Rattle.isle_core.specs.Expr as expr
use Rattle.isle_core.specs.Expr.{Expr}
use Rattle.isle_core.specs.CalledTerms.{Extractor}
use Rattle.isle_core.specs.Calling.{extracting}
use Rattle.isle_core.specs.ExprType.{Allowed, IsTermKind, IsExprOf, AreExprsOf}
use Rattle.isle_core.specs.HasType.{HasType, HaveTypes}
use Rattle.isle_core.specs.Match.{Names}
use Rattle.isle_core.specs.Rule.{Environment}
use Rattle.isle_core.specs.Lawful.{CallingFits, RoleFits}
use Rattle.isle_core.specs.TypedVariables.{all_typed as all_typed_variables, iflets_typed, rule_typed}
use Rattle.isle_core.specs.Value.{Value}
use Rattle.isle_core.proofs.Contained.{contained_cases, none_contained}
use Rattle.isle_core.proofs.OptionLaws.{some_same}
use Rattle.isle_ast.specs.Tree as tree
use Rattle.isle_ast.specs.Tree.{Def}
use Rattle.isle_declarations.specs.Signatures.{term_named}
use Rattle.isle_declarations.specs.Terms.{terms}
use Rattle.isle_meta.specs.declared.clif.OperandClass.{OperandClass}
use Rattle.isle_meta.specs.declared.clif.OperandClass.TheVariants as operand
use Rattle.isle_sema.proofs.TypedParts.{given_in}
use Rattle.isle_terms.specs.TermPass.{types_named}
use Rattle.isle_types.proofs.SoundTypes.{typed_names}
use Rattle.isle_ast.specs.Views.{exprs_of}
use Rattle.isle_declarations.specs.Symbols.{index_of}
use Rattle.isle_declarations.proofs.SymbolLaws.{index_below}
use Rattle.isle_meta.specs.InstructionRow.{is_value, is_block, is_raw_block}
use Rattle.isle_table_check.specs.SupportedTables.{AreSupported}
use Rattle.isle_meta.specs.declared.clif.Instruction.{Instruction}
use Rattle.isle_meta.specs.declared.clif.InstructionFormat.{InstructionFormat}
use Rattle.isle_meta.specs.declared.tables.Tables.{Tables}
use Rattle.isle_prelude.specs.ClifFiles.{variable_exprs, call_on, counted_expr, data_term, opcode_term, data_expr, parameters, parameter_types, typed_first}
use Rattle.isle_prelude.specs.Manners.{type_variable}
use Rattle.isle_prelude.specs.Operands.{operand_type, is_imm, names_of}
use Rattle.isle_sema.specs.Typing.{Typed}
use Rattle.isle_sema.proofs.TypedTerms.{is_there}
use Rattle.isle_terms.specs.Whole.{whole_of}
use Rattle.isle_prelude_laws.specs.HonestMeaning.{Whole, ValuedInst, SkeletonInst, ValueArray, BlockArray, maker, taker}
use Rattle.isle_prelude_laws.specs.RoundTrip.{AreOptSource, IsInstruction}
use Rattle.isle_prelude_laws.proofs.CanGive.{CanGive, CanGiveAll, can_give_name, can_give_nothing, can_give_both, can_variables_give, only_variables_give, can_make_give, can_counted_give}
use Rattle.isle_prelude_laws.proofs.GivenTerms.{IsGivenTerm, given_term, given_name}
use Rattle.isle_prelude_laws.proofs.GivesTyped.{AreTyped, all_typed}
use Rattle.isle_prelude_laws.proofs.Operands.{variables_from}
use Rattle.isle_prelude_laws.proofs.Gives.{Allows, Values, IsMaker, Gives, a_call, all_more}
use Rattle.isle_prelude_laws.proofs.HonestExists.{IsPlanFor}
use Rattle.isle_prelude_laws.proofs.Laid.{manner_by, whole_by, HasWhole, IsLaid}
use Rattle.isle_prelude_laws.proofs.LaidOut.{IsLaidOut}
use Rattle.isle_prelude_laws.proofs.NamedTrees.{Numbers}
use Rattle.isle_prelude_laws.proofs.OperandTypes.{value_or, operand_named, value_at, class_typed, array_typed}
use Rattle.isle_prelude_laws.proofs.PartTerms.{part_types, HasPair, pairs}
use Rattle.isle_prelude_laws.proofs.PartValues.{several, taker_called, whole_value, maker_is}
use Rattle.isle_prelude_laws.proofs.PassedTrees.{numbers}
use Rattle.isle_prelude_laws.proofs.Plan.{Plan, plan_value, Planned, maker_calling, planned, takers_fit}

-- ---- operands by their names

names_held : (params : List (List ℕ)) (operands : List Value) (names : Names) → length operands ≡ length params
    → ((k : ℕ) → names k ≡ slice_get operands k) → (name : List ℕ) (k : ℕ) → index_of params name ≡ Some k
    → names k ≡ Some (operand_named params operands name)
names_held params operands names many are name k is =
    let lt = index_below params name k is in
    let at = is_there operands k (omega (arith, lt, many)) in
    are k ∙ at.1 ∙ ap (λ o. Some (value_or o)) (sym at.1) ∙ ap (λ o. Some (value_or (option_and_then (slice_get operands) o))) (sym is)

typed_many : (env : Environment) (vs : List Value) (tys : List TypeId) → HaveTypes env vs tys → length vs ≡ length tys
typed_many env [] [] h = refl
typed_many env (v ∷ vs) (ty ∷ tys) h = ap suc (typed_many env vs tys h.1)
typed_many env [] (ty ∷ tys) h = absurd h
typed_many env (v ∷ vs) [] h = absurd h

-- ---- arrays

-- the values of an instruction's parts
record PartsPlan : Type 0 where
  own : Value
  values : Value
  blocks : Value

-- a plan with these parts
abbrev plan_of : Bool → Instruction → (List ℕ → Value) → PartsPlan → List Value → Plan
plan_of b i of_name v parts = record {
  is_valued = b;
  own = v.own;
  own_parts = parts;
  value_count = length (names_of is_value i);
  values = v.values;
  value_parts = map of_name (names_of is_value i);
  block_count = length (names_of is_block i);
  blocks = v.blocks;
  block_parts = map of_name (names_of is_block i);
}

-- what arrays are made of, and nothing else
abbrev Packed : Instruction → (List ℕ → Value) → Allows
Packed i of_name ValuedInst vs = ⊥
Packed i of_name SkeletonInst vs = ⊥
Packed i of_name (ValueArray n) vs = (n ≡ length (names_of is_value i)) × (vs ≡ map of_name (names_of is_value i)) × (1 < n)
Packed i of_name (BlockArray n) vs = (n ≡ length (names_of is_block i)) × (vs ≡ map of_name (names_of is_block i)) × (1 < n)

packed_planned : (b : Bool) (i : Instruction) (of_name : List ℕ → Value) (v : PartsPlan) (parts : List Value) (w : Whole) (vs : List Value)
    → Packed i of_name w vs → Planned (plan_of b i of_name v parts) w vs
packed_planned b i of_name v parts ValuedInst vs h = absurd h
packed_planned b i of_name v parts SkeletonInst vs h = absurd h
packed_planned b i of_name v parts (ValueArray n) vs h = h
packed_planned b i of_name v parts (BlockArray n) vs h = h

-- what is planned is made in the instruction's rule
planned_whole : (b : Bool) (i : Instruction) (of_name : List ℕ → Value) (v : PartsPlan) (parts : List Value) (w : Whole) (vs : List Value)
    → Planned (plan_of b i of_name v parts) w vs → HasWhole b i w
planned_whole b i of_name v parts ValuedInst vs h = h.0
planned_whole b i of_name v parts SkeletonInst vs h = h.0
planned_whole b i of_name v parts (ValueArray n) vs h = (h.0, h.2)
planned_whole b i of_name v parts (BlockArray n) vs h = (h.0, h.2)

own_whole : (b : Bool) (i : Instruction) → HasWhole b i (whole_by b)
own_whole true i = refl
own_whole false i = refl

own_planned : (b : Bool) (i : Instruction) (of_name : List ℕ → Value) (v : PartsPlan) (parts : List Value)
    → Planned (plan_of b i of_name v parts) (whole_by b) parts
own_planned true i of_name v parts = (refl, refl)
own_planned false i of_name v parts = (refl, refl)

-- ---- an instruction's data

module _ (env : Environment) (number : Numbers) (f : InstructionFormat) (i : Instruction) (b : Bool) (term : TermId) (pattern : _) (laid : IsLaid env number f i b term pattern) (params : List (List ℕ)) (allowed : Allowed) (vars : List (TypeId × ℕ)) (of_name : List ℕ → Value) (val : Values)
    (makes : (w : Whole) → HasWhole b i w → (a : TermId) → number (maker w) ≡ Some a → IsMaker env val (maker_calling w) a w) where
  data_gives : CanGive env number params allowed vars of_name val maker_calling (Packed i of_name) (data_expr f i)
  data_gives =
      let raw = names_of is_raw_block i in
      let imm = names_of is_imm i in
      let values = names_of is_value i in
      let blocks = names_of is_block i in
      let P = Packed i of_name in
      let more = variable_exprs raw ++ variable_exprs imm in
      let tail = can_variables_give env number params allowed vars of_name val maker_calling P raw (variable_exprs imm) (only_variables_give env number params allowed vars of_name val maker_calling P imm) in
      let block_es = counted_expr (maker (BlockArray (length blocks))) blocks ++ more in
      let with_blocks = can_counted_give env number params allowed vars of_name val maker_calling P (BlockArray (length blocks)) blocks more (λ many. (makes (BlockArray (length blocks)) (refl, many), (refl, refl, many))) tail in
      let with_values = can_counted_give env number params allowed vars of_name val maker_calling P (ValueArray (length values)) values block_es (λ many. (makes (ValueArray (length values)) (refl, many), (refl, refl, many))) with_blocks in
      let value_es = counted_expr (maker (ValueArray (length values))) values ++ block_es in
      let opcode = can_make_give env number params allowed vars of_name val maker_calling P (opcode_term i) tree.NoExpr (λ o is. record { ty = laid.opcodes; variant = laid.place; made = laid.opcode_made o is }) (can_give_nothing env number params allowed vars of_name val maker_calling P) in
      can_make_give env number params allowed vars of_name val maker_calling P (data_term f) (exprs_of (call_on (opcode_term i) [] ∷ value_es)) laid.data_made
      (can_give_both env number params allowed vars of_name val maker_calling P (call_on (opcode_term i) []) (exprs_of value_es) opcode with_values)

  -- what the instruction is made of
  args_give : CanGiveAll env number params allowed vars of_name val maker_calling (Packed i of_name)
      (exprs_of (typed_first (manner_by b).is_typed (tree.Name type_variable) (data_expr f i ∷ [])))
  args_give = by b
    where
      by : (c : Bool)
          → CanGiveAll env number params allowed vars of_name val maker_calling (Packed i of_name)
          (exprs_of (typed_first (manner_by c).is_typed (tree.Name type_variable) (data_expr f i ∷ [])))
      by true =
          can_give_both env number params allowed vars of_name val maker_calling (Packed i of_name) (tree.Name type_variable) (exprs_of (data_expr f i ∷ [])) (can_give_name env number params allowed vars of_name val maker_calling (Packed i of_name) type_variable)
          (can_give_both env number params allowed vars of_name val maker_calling (Packed i of_name) (data_expr f i) tree.NoExpr data_gives (can_give_nothing env number params allowed vars of_name val maker_calling (Packed i of_name)))
      by false = can_give_both env number params allowed vars of_name val maker_calling (Packed i of_name) (data_expr f i) tree.NoExpr data_gives (can_give_nothing env number params allowed vars of_name val maker_calling (Packed i of_name))

-- ---- the plan

-- a value that all makers of a whole may give
abbrev FitsMakers : Environment → Numbers → List ℕ → Value → Type 0
FitsMakers env number name v = (a : TermId) (x : Term) → number name ≡ Some a → slice_get env.terms a.0 ≡ Some x → HasType env v x.ret_ty

-- each value of the parts fits
record PartsFit (env : Environment) (number : Numbers) (i : Instruction) (b : Bool) (v : PartsPlan) : Type 0 where
  own : FitsMakers env number (maker (whole_by b)) v.own
  values : 1 < length (names_of is_value i) → FitsMakers env number (maker (ValueArray (length (names_of is_value i)))) v.values
  blocks : 1 < length (names_of is_block i) → FitsMakers env number (maker (BlockArray (length (names_of is_block i)))) v.blocks

planned_fits : (env : Environment) (number : Numbers) (i : Instruction) (b : Bool) (v : PartsPlan) (of_name : List ℕ → Value) (parts : List Value)
    → PartsFit env number i b v → (w : Whole) → HasWhole b i w → FitsMakers env number (maker w) (plan_value (plan_of b i of_name v parts) w)
planned_fits env number i b v of_name parts h ValuedInst has = subst (λ c. FitsMakers env number (maker (whole_by c)) v.own) has h.own
planned_fits env number i b v of_name parts h SkeletonInst has = subst (λ c. FitsMakers env number (maker (whole_by c)) v.own) has h.own
planned_fits env number i b v of_name parts h (ValueArray n) has =
    subst (λ k. FitsMakers env number (maker (ValueArray k)) v.values) (sym has.0) (h.values (subst (λ k. 1 < k) has.0 has.1))
planned_fits env number i b v of_name parts h (BlockArray n) has =
    subst (λ k. FitsMakers env number (maker (BlockArray k)) v.blocks) (sym has.0) (h.blocks (subst (λ k. 1 < k) has.0 has.1))

-- ---- types of parts

-- a variable in a row is of the type at its place
variable_at : (i : ℕ) (tys : List TypeId) (ty : TypeId) (x : ℕ) → Contains {X = TypeId × ℕ} (all_typed_variables (variables_from i tys)) (ty, x)
    → (k : ℕ) × (x ≡ i + k) × (slice_get tys k ≡ Some ty)
variable_at i [] ty x c = absurd (none_contained {A = TypeId × ℕ} (ty, x) c)
variable_at i (of ∷ tys) ty x c =
    ⊎_elim
    (λ (same : (of, i) ≡ (ty, x)). let at : i ≡ x = ap (λ (p : TypeId × ℕ). p.1) same in (0, omega (arith, at), ap (λ (p : TypeId × ℕ). Some p.0) same))
    (λ there. let r = variable_at (suc i) tys ty x there in let number = r.1 in (suc r.0, omega (arith, number), r.2))
    (contained_cases {A = TypeId × ℕ} (of, i) (all_typed_variables (variables_from (suc i) tys)) (ty, x) c)

value_class : (class : OperandClass) → is_value class ≡ true → operand_type class ≡ codes "Value"
value_class operand.Value h = refl
value_class operand.Varargs h = absurd cc
value_class operand.Block h = absurd cc
value_class operand.RawBlock h = absurd cc
value_class (operand.Imm ty) h = absurd cc

block_class : (class : OperandClass) → is_block class ≡ true → operand_type class ≡ codes "BlockCall"
block_class operand.Block h = refl
block_class operand.Value h = absurd cc
block_class operand.Varargs h = absurd cc
block_class operand.RawBlock h = absurd cc
block_class (operand.Imm ty) h = absurd cc

-- what a whole is made of, with its types
whole_parts : (defs : List Def) (env : Environment) (i : Instruction) (b : Bool) (tys : List TypeId) (operands : List Value)
    → types_named defs (parameter_types (manner_by b) i) ≡ Some tys → IsDistinct bytes_eq (parameters (manner_by b) i)
    → HaveTypes env operands tys → (v : PartsPlan) (parts : List Value) → ((own : List TypeId) → types_named defs (part_types (whole_by b)) ≡ Some own → HaveTypes env parts own) → (w : Whole) → HasWhole b i w
    → (vs : List Value) × Planned (plan_of b i (operand_named (parameters (manner_by b) i) operands) v parts) w vs × ((of : List TypeId) → types_named defs (part_types w) ≡ Some of → HaveTypes env vs of)
whole_parts defs env i b tys operands named apart typed v parts own ValuedInst has = (parts, (has, refl), subst (λ c. (of : List TypeId) → types_named defs (part_types (whole_by c)) ≡ Some of → HaveTypes env parts of) has own)
whole_parts defs env i b tys operands named apart typed v parts own SkeletonInst has = (parts, (has, refl), subst (λ c. (of : List TypeId) → types_named defs (part_types (whole_by c)) ≡ Some of → HaveTypes env parts of) has own)
whole_parts defs env i b tys operands named apart typed v parts own (ValueArray n) has =
    let of_name = operand_named (parameters (manner_by b) i) operands in
    let names = names_of is_value i in (
      map of_name names,
      (has.0, refl, has.1),
      λ of is. array_typed defs env of_name names (codes "Value") of (ap (λ k. types_named defs (replicate k (codes "Value"))) (sym has.0) ∙ is) (λ ty at. class_typed defs env i b tys operands named apart typed is_value (codes "Value") ty value_class at),
    )
whole_parts defs env i b tys operands named apart typed v parts own (BlockArray n) has =
    let of_name = operand_named (parameters (manner_by b) i) operands in
    let names = names_of is_block i in (
      map of_name names,
      (has.0, refl, has.1),
      λ of is. array_typed defs env of_name names (codes "BlockCall") of (ap (λ k. types_named defs (replicate k (codes "BlockCall"))) (sym has.0) ∙ is) (λ ty at. class_typed defs env i b tys operands named apart typed is_block (codes "BlockCall") ty block_class at),
    )

module _ (t : Tables) (defs : List Def) (like : AreOptSource t defs) (env : Environment) (i : Instruction) (term : TermId) (supported : AreSupported t) (typed : Typed defs env) (h : IsInstruction t env i term) (l : IsLaidOut t defs env i term) where
  pair_there : (w : Whole) → HasWhole l.is_valued i w → HasPair defs w
  pair_there w has = pairs t defs like supported i h.format h.among h.is h.listless l.is_valued w has

  parts_planned : (v : PartsPlan) × PartsFit env (numbers (whole_of defs)) i l.is_valued v
  parts_planned =
      let number = numbers (whole_of defs) in
      let value = whole_value defs env i l.format l.is_valued typed pair_there in
      let own = value (whole_by l.is_valued) (own_whole l.is_valued i) in
      let n = length (names_of is_value i) in
      let k = length (names_of is_block i) in
      let values = several (FitsMakers env number (maker (ValueArray n))) n (λ many. value (ValueArray n) (refl, many)) in
      let blocks = several (FitsMakers env number (maker (BlockArray k))) k (λ many. value (BlockArray k) (refl, many)) in
      (record { own = own.0; values = values.0; blocks = blocks.0 }, record { own = own.1; values = values.1; blocks = blocks.1 })

  -- what the term of a whole that is made takes
  own_taken : (a : TermId) → numbers (whole_of defs) (maker (whole_by l.is_valued)) ≡ Some a
      → IsGivenTerm defs env (pair_there (whole_by l.is_valued) (own_whole l.is_valued i)).made.signature a
  own_taken a is =
      let p = pair_there (whole_by l.is_valued) (own_whole l.is_valued i) in
      given_term defs env p.made.signature a (given_in typed) p.made.among (ap (term_named (terms defs)) p.made.named ∙ is)

  -- the rule's variables are typed by the operands
  variables_are : (operands : List Value) → HaveTypes env operands l.laid.decl.arg_tys → AreTyped env (rule_typed l.laid.rule) (slice_get operands)
  variables_are operands has_types ty x v c is =
      let laid = l.laid in
      let over : Contains {X = TypeId × ℕ} (all_typed_variables (variables_from 0 laid.decl.arg_tys)) (ty, x) =
      subst (λ ps. Contains {X = TypeId × ℕ} (all_typed_variables ps) (ty, x)) laid.plain.args (subst (λ cs. Contains {X = TypeId × ℕ} (iflets_typed (all_typed_variables laid.rule.args) cs) (ty, x)) laid.plain.iflets c) in
      let k = variable_at 0 laid.decl.arg_tys ty x over in
      let number = k.1 in
      let at : x ≡ k.0 = omega (arith, number) in
      let w = value_at env operands laid.decl.arg_tys k.0 ty has_types k.2 in
      subst (λ u. HasType env u ty) (some_same w.0 v (sym w.1 ∙ ap (slice_get operands) (sym at) ∙ is)) w.2

  -- the parts of each whole have the types of its taker's arguments
  taken_fits : (p : Plan) (w : Whole) (vs : List Value) → HasWhole l.is_valued i w → Planned p w vs
      → ((tys : List TypeId) → types_named defs (part_types w) ≡ Some tys → HaveTypes env vs tys) → (y : TermId) → numbers (whole_of defs) (taker w) ≡ Some y
      → RoleFits env (planned p) y Extractor
  taken_fits p w vs has plan fits y is =
      let g = given_in typed in
      let q = pair_there w has in
      let s = q.taken.signature in
      let k = given_term defs env s y g q.taken.among (ap (term_named (terms defs)) q.taken.named ∙ is) in
      let called = taker_called defs env i l.format l.is_valued typed pair_there w has y (given_name defs env s y g k ∙ q.taken.named) in
      subst (λ (o : Option Term). IsSomeAnd o (λ (x : Term). CallingFits env (planned p) x.arg_tys (extracting env y))) (sym k.there)
      (subst (CallingFits env (planned p) k.decl.arg_tys) (sym called) (takers_fit p env k.decl.arg_tys w vs plan (fits k.decl.arg_tys (ap (types_named defs) (sym q.taken_into) ∙ k.args))))

  -- a plan for these operands, whose takers answer lawfully
  pub record IsPlanned (operands : List Value) (p : Plan) : Type 0 where
    pub plan : IsPlanFor env term operands p
    pub answers : (w : Whole) → HasWhole l.is_valued i w → (y : TermId) → numbers (whole_of defs) (taker w) ≡ Some y
        → RoleFits env (planned p) y Extractor

  pub plan_out : (operands : List Value) → HaveTypes env operands l.laid.decl.arg_tys → (p : Plan) × IsPlanned operands p
  plan_out operands has_types =
      let laid = l.laid in
      let b = l.is_valued in
      let number = numbers (whole_of defs) in
      let params = parameters (manner_by b) i in
      let of_name = operand_named params operands in
      let v = parts_planned in
      let val = plan_value (plan_of b i of_name v.0 []) in
      let makes = λ (w : Whole) (has : HasWhole b i w). maker_is defs env i l.format b typed pair_there val w has (planned_fits env number i b v.0 of_name [] v.1 w has) in
      let e = laid.right in
      let shown : IsExprOf env laid.allowed (rule_typed laid.rule) laid.decl.ret_ty (expr.Term e.0 e.1 e.2) = subst (IsExprOf env laid.allowed (rule_typed laid.rule) laid.decl.ret_ty) e.3 laid.typed in
      let k = own_taken e.1 e.4 in
      let args : AreExprsOf env laid.allowed (rule_typed laid.rule) k.decl.arg_tys e.2 =
      (subst (λ (o : Option Term). IsSomeAnd o (λ (c : Term). IsTermKind env laid.allowed c c.kind × (c.ret_ty ≡ laid.decl.ret_ty) × AreExprsOf env laid.allowed (rule_typed laid.rule) c.arg_tys e.2)) k.there shown.1).2 in
      let parts = args_give env number l.format i b term l.pattern laid params laid.allowed (rule_typed laid.rule) of_name val makes e.2 k.decl.arg_tys e.5 args in
      let p = plan_of b i of_name v.0 parts.0 in
      let many = typed_many env operands laid.decl.arg_tys has_types in
      let held = λ (names : Names) (are : (j : ℕ) → names j ≡ slice_get operands j). names_held params operands names (many ∙ sym l.many) are in
      let variants = (typed_names defs env (given_in typed).types (given_in typed).types_kept).variants in
      let own_typed : HaveTypes env parts.0 k.decl.arg_tys = all_typed env variants laid.allowed (rule_typed laid.rule) (parts.1 (slice_get operands) (held (slice_get operands) (λ j. refl))) (variables_are operands has_types) k.decl.arg_tys args in
      let own_fits : (tys : List TypeId) → types_named defs (part_types (whole_by b)) ≡ Some tys → HaveTypes env parts.0 tys = λ tys is.
      subst (HaveTypes env parts.0) (some_same k.decl.arg_tys tys (sym k.args ∙ ap (types_named defs) (pair_there (whole_by b) (own_whole b i)).made_of ∙ is)) own_typed in (
        p,
        record {
          plan = record {
            rule = laid.rule;
            rules = laid.rules;
            tys = laid.decl.arg_tys;
            plain = laid.plain;
            many = many;
            value = plan_value p (whole_by b);
            gives = λ names are.
                subst (λ (y : Expr). Gives env names (plan_value p) maker_calling (Planned p) y (plan_value p (whole_by b))) (sym e.3)
                (a_call e.0 e.1 e.2 (whole_by b) parts.0 (makes (whole_by b) (own_whole b i) e.1 e.4) (own_planned b i of_name v.0 parts.0) (all_more (packed_planned b i of_name v.0 parts.0) (parts.1 names (held names are))));
            takes = λ w vs plan y named. taker_called defs env i l.format b typed pair_there w (planned_whole b i of_name v.0 parts.0 w vs plan) y named;
          };
          answers = λ w has y is.
              let own = whole_parts defs env i b laid.decl.arg_tys operands l.args l.apart has_types v.0 parts.0 own_fits w has in
              taken_fits p w own.0 has own.1 own.2 y is;
        },
      )
