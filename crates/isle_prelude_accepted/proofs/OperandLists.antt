-- Lists of operands as patterns and as expressions: each operand has the type of its class.
use Rattle.std.proofs.Common.{◌≡◌, inl, inr, ℕ, suc, ◌+◌, ◌≤◌, List, [], ◌∷◌, ◌++◌, map, length, Bool, true, false, cond, refl, sym, ap, ap₂, ◌∙◌, subst, arith}
use Rattle.std.specs.Prelude.{filter, filter_map, replicate, codes, not}
use Rattle.std.specs.List.{AllByRecursion, cons_option}
use Rattle.std.specs.Str.{bytes_eq}
use Rattle.std.proofs.lemmas.Bool.{or_parts}
use Rattle.std.proofs.lemmas.List.{append_assoc, length-map}
use Rattle.std.proofs.lemmas.List.Sums.{length-filter, count_by-le-length}
use Rattle.isle_ast.specs.Tree.{Def, Pattern, Expr}
use Rattle.isle_ast.specs.Views.{patterns_of, exprs_of}
use Rattle.isle_terms.specs.NewVariables.{variables_in, all_variables_in}
use Rattle.isle_meta.specs.declared.clif.ClifOperand.{ClifOperand}
use Rattle.isle_meta.specs.declared.clif.ImmField.{ImmField}
use Rattle.isle_meta.specs.declared.clif.Instruction.{Instruction}
use Rattle.isle_meta.specs.declared.clif.OperandClass.{OperandClass}
use Rattle.isle_meta.specs.declared.clif.OperandClass.TheVariants as class
use Rattle.isle_meta.specs.Immediates.{type_of}
use Rattle.isle_meta.specs.InstructionRow.{is_value, is_block, is_raw_block, type_in, imm_type, types_differ, count_of}
use Rattle.isle_meta.specs.ShortName.{short_name}
use Rattle.isle_prelude.specs.ClifFiles.{variables, variable_exprs, counted_pattern, counted_expr}
use Rattle.isle_prelude.specs.InstructionData.{counted_values, block_fields, raw_block_fields, imm_field}
use Rattle.isle_prelude.specs.NumberedNames.{value_array, value_array_type, value_array_ctor, block_array, block_array_type}
use Rattle.isle_prelude.specs.Operands.{operand_type, is_imm, names_of}
use Rattle.isle_prelude_accepted.proofs.Has.{Has, has_front, has_back, has_map, has_mapped, all_has, same_bytes}
use Rattle.isle_prelude_accepted.proofs.Simple.{Variables, Opens, Makes, ArePatternsOf, AreExprsOf, with_types, exprs_size}
use Rattle.isle_prelude_accepted.proofs.TableFacts.{filter_from, filter_has}

-- the names of the types of fields
abbrev pub types_in : List (List ℕ × List ℕ) → List (List ℕ)
types_in fields = map (λ (f : List ℕ × List ℕ). f.1) fields

-- ---- operands by kind

-- an operand is a variable of its class's type
pub operand_there : (ops : List ClifOperand) (o : ClifOperand) → Has ops o
    → Has (with_types (map (λ (x : ClifOperand). x.name) ops) (map (λ (x : ClifOperand). operand_type x.class) ops)) (o.name, operand_type o.class)
operand_there [] o i = absurd i
operand_there (x ∷ ops) o (inl e) = inl (ap (λ (y : ClifOperand). (y.name, operand_type y.class)) e)
operand_there (x ∷ ops) o (inr i) = inr (operand_there ops o i)

value_class : (c : OperandClass) → is_value c ≡ true → operand_type c ≡ codes "Value"
value_class class.Value e = refl
value_class class.Varargs e = absurd cc
value_class class.Block e = absurd cc
value_class class.RawBlock e = absurd cc
value_class (class.Imm ty) e = absurd cc

block_class : (c : OperandClass) → is_block c ≡ true → operand_type c ≡ codes "BlockCall"
block_class class.Value e = absurd cc
block_class class.Varargs e = absurd cc
block_class class.Block e = refl
block_class class.RawBlock e = absurd cc
block_class (class.Imm ty) e = absurd cc

raw_class : (c : OperandClass) → is_raw_block c ≡ true → operand_type c ≡ codes "Block"
raw_class class.Value e = absurd cc
raw_class class.Varargs e = absurd cc
raw_class class.Block e = absurd cc
raw_class class.RawBlock e = refl
raw_class (class.Imm ty) e = absurd cc

-- the operand that a name of a kind is of
pub name_from : (is : OperandClass → Bool) (i : Instruction) (name : List ℕ) → Has (names_of is i) name
    → (o : ClifOperand) × Has i.operands_in o × (o.name ≡ name) × (is o.class ≡ true)
name_from is i name h =
    let r = has_mapped (λ (o : ClifOperand). o.name) (filter (λ (o : ClifOperand). is o.class) i.operands_in) name h in
    let f = filter_from (λ (o : ClifOperand). is o.class) i.operands_in r.0 r.1 in
    (r.0, f.0, r.2, f.1)

pub name_there : (is : OperandClass → Bool) (i : Instruction) (o : ClifOperand) → Has i.operands_in o → is o.class ≡ true → Has (names_of is i) o.name
name_there is i o h e =
    has_map (λ (x : ClifOperand). x.name) (filter (λ (x : ClifOperand). is x.class) i.operands_in) o
    (filter_has (λ (x : ClifOperand). is x.class) i.operands_in o h e)

-- as many names as operands are counted
pub many_names : (is : OperandClass → Bool) (i : Instruction) → length (names_of is i) ≡ count_of is i
many_names is i =
    length-map (filter (λ (o : ClifOperand). is o.class) i.operands_in) (λ (o : ClifOperand). o.name) ∙ length-filter (λ (o : ClifOperand). is o.class) i.operands_in

pub few_names : (is : OperandClass → Bool) (i : Instruction) → length (names_of is i) ≤ length i.operands_in
few_names is i = let e = many_names is i in let le = count_by-le-length (λ (o : ClifOperand). is o.class) i.operands_in in omega (arith, e, le)

-- ---- types of immediates

-- short names that nowhere differ are the same
pub same_types : (ts us : List (List ℕ)) → length ts ≡ length us → types_differ ts us ≡ false → map short_name ts ≡ map short_name us
same_types [] [] l h = refl
same_types [] (u ∷ us) l h = absurd (let e : 0 ≡ suc (length us) = l in omega arith)
same_types (t ∷ ts) [] l h = absurd (let e : suc (length ts) ≡ 0 = l in omega arith)
same_types (t ∷ ts) (u ∷ us) l h =
    let parts = or_parts (not (bytes_eq (short_name t) (short_name u))) (types_differ ts us) h in
    ap₂ (λ x xs. x ∷ xs) (same_bytes (short_name t) (short_name u) (turned (bytes_eq (short_name t) (short_name u)) parts.0))
    (same_types ts us (let e : suc (length ts) ≡ suc (length us) = l in omega arith) parts.1)
  where
    turned : (b : Bool) → not b ≡ false → b ≡ true
    turned true e = refl
    turned false e = absurd cc

pub types_of_fields : (fields : List ImmField) → map short_name (map (λ (f : ImmField). f.rust_type) fields) ≡ types_in (map imm_field fields)
types_of_fields [] = refl
types_of_fields (f ∷ fs) = ap (λ xs. type_of f ∷ xs) (types_of_fields fs)

-- ---- lists as patterns

module _ (E : List Def) (vars : Variables) where
  pub patterns_append : (ts us : List (List ℕ)) (ps qs : List Pattern) → ArePatternsOf E vars ts (patterns_of ps)
      → ArePatternsOf E vars us (patterns_of qs) → ArePatternsOf E vars (ts ++ us) (patterns_of (ps ++ qs))
  patterns_append [] us [] qs h k = k
  patterns_append [] us (p ∷ ps) qs h k = absurd h
  patterns_append (t ∷ ts) us [] qs h k = absurd h
  patterns_append (t ∷ ts) us (p ∷ ps) qs h k = (h.0, patterns_append ts us ps qs h.1 k)

  pub exprs_append : (ts us : List (List ℕ)) (ps qs : List Expr) → AreExprsOf E vars ts (exprs_of ps) → AreExprsOf E vars us (exprs_of qs)
      → AreExprsOf E vars (ts ++ us) (exprs_of (ps ++ qs))
  exprs_append [] us [] qs h k = k
  exprs_append [] us (p ∷ ps) qs h k = absurd h
  exprs_append (t ∷ ts) us [] qs h k = absurd h
  exprs_append (t ∷ ts) us (p ∷ ps) qs h k = (h.0, exprs_append ts us ps qs h.1 k)

  -- these are variables of one type
  abbrev pub AreOf : List ℕ → List (List ℕ) → Type 0
  AreOf ty names = AllByRecursion (λ name. Has vars (name, ty)) names

  variables_fit : (ty : List ℕ) (names : List (List ℕ)) → AreOf ty names → ArePatternsOf E vars (replicate (length names) ty) (patterns_of (variables names))
  variables_fit ty [] h = tt
  variables_fit ty (n ∷ ns) h = (h.0, variables_fit ty ns h.1)

  names_fit : (ty : List ℕ) (names : List (List ℕ)) → AreOf ty names → AreExprsOf E vars (replicate (length names) ty) (exprs_of (variable_exprs names))
  names_fit ty [] h = tt
  names_fit ty (n ∷ ns) h = (h.0, names_fit ty ns h.1)

  -- values: none, the one, or an array
  pub values_fit : (names : List (List ℕ)) → AreOf (codes "Value") names
      → ((k : ℕ) → length names ≡ suc (suc k) → Opens E (value_array (length names)) (replicate (length names) (codes "Value")) (value_array_type (length names)))
      → ArePatternsOf E vars (types_in (counted_values (length names))) (patterns_of (counted_pattern (value_array (length names)) names))
  values_fit [] h opens = tt
  values_fit (x ∷ []) h opens = (h.0, tt)
  values_fit (x ∷ y ∷ names) h opens =
      ((replicate (length (x ∷ y ∷ names)) (codes "Value"), opens (length names) refl, variables_fit (codes "Value") (x ∷ y ∷ names) h), tt)

  pub blocks_fit : (names : List (List ℕ)) → AreOf (codes "BlockCall") names
      → ((k : ℕ) → length names ≡ suc (suc k) → Opens E (block_array (length names)) (replicate (length names) (codes "BlockCall")) (block_array_type (length names)))
      → ArePatternsOf E vars (types_in (block_fields (length names))) (patterns_of (counted_pattern (block_array (length names)) names))
  blocks_fit [] h opens = tt
  blocks_fit (x ∷ []) h opens = (h.0, tt)
  blocks_fit (x ∷ y ∷ names) h opens =
      ((replicate (length (x ∷ y ∷ names)) (codes "BlockCall"), opens (length names) refl, variables_fit (codes "BlockCall") (x ∷ y ∷ names) h), tt)

  pub raw_fit : (names : List (List ℕ)) → length names ≤ 1 → AreOf (codes "Block") names
      → ArePatternsOf E vars (types_in (raw_block_fields (length names))) (patterns_of (variables names))
  raw_fit [] le h = tt
  raw_fit (x ∷ []) le h = (h.0, tt)
  raw_fit (x ∷ y ∷ names) le h = absurd (omega (arith, le))

  -- the same as expressions
  pub values_made : (names : List (List ℕ)) → AreOf (codes "Value") names
      → ((k : ℕ) → length names ≡ suc (suc k) → Makes E (value_array_ctor (length names)) (replicate (length names) (codes "Value")) (value_array_type (length names)))
      → AreExprsOf E vars (types_in (counted_values (length names))) (exprs_of (counted_expr (value_array_ctor (length names)) names))
  values_made [] h makes = tt
  values_made (x ∷ []) h makes = (h.0, tt)
  values_made (x ∷ y ∷ names) h makes =
      ((replicate (length (x ∷ y ∷ names)) (codes "Value"), makes (length names) refl, names_fit (codes "Value") (x ∷ y ∷ names) h), tt)

  pub blocks_made : (names : List (List ℕ)) → AreOf (codes "BlockCall") names
      → ((k : ℕ) → length names ≡ suc (suc k) → Makes E (block_array (length names)) (replicate (length names) (codes "BlockCall")) (block_array_type (length names)))
      → AreExprsOf E vars (types_in (block_fields (length names))) (exprs_of (counted_expr (block_array (length names)) names))
  blocks_made [] h makes = tt
  blocks_made (x ∷ []) h makes = (h.0, tt)
  blocks_made (x ∷ y ∷ names) h makes =
      ((replicate (length (x ∷ y ∷ names)) (codes "BlockCall"), makes (length names) refl, names_fit (codes "BlockCall") (x ∷ y ∷ names) h), tt)

  pub raw_made : (names : List (List ℕ)) → length names ≤ 1 → AreOf (codes "Block") names
      → AreExprsOf E vars (types_in (raw_block_fields (length names))) (exprs_of (variable_exprs names))
  raw_made [] le h = tt
  raw_made (x ∷ []) le h = (h.0, tt)
  raw_made (x ∷ y ∷ names) le h = absurd (omega (arith, le))

  -- each operand is a variable of its type
  abbrev pub AreTyped : List ClifOperand → Type 0
  AreTyped ops = AllByRecursion (λ (o : ClifOperand). Has vars (o.name, operand_type o.class)) ops

  -- immediates
  pub imms_fit : (ops : List ClifOperand) → AreTyped ops
      → ArePatternsOf E vars (map short_name (filter_map imm_type ops)) (patterns_of (variables (map (λ (o : ClifOperand). o.name) (filter (λ (o : ClifOperand). is_imm o.class) ops))))
  imms_fit [] h = tt
  imms_fit (o ∷ ops) h = by o.class h.0 (imms_fit ops h.1)
    where
      by : (c : OperandClass) → Has vars (o.name, operand_type c)
          → ArePatternsOf E vars (map short_name (filter_map imm_type ops)) (patterns_of (variables (map (λ (x : ClifOperand). x.name) (filter (λ (x : ClifOperand). is_imm x.class) ops))))
          → ArePatternsOf E vars (map short_name (cons_option (type_in c) (filter_map imm_type ops)))
          (patterns_of (variables (map (λ (x : ClifOperand). x.name) (cond (is_imm c) (o ∷ filter (λ (x : ClifOperand). is_imm x.class) ops) (filter (λ (x : ClifOperand). is_imm x.class) ops)))))
      by class.Value k rest = rest
      by class.Varargs k rest = rest
      by class.Block k rest = rest
      by class.RawBlock k rest = rest
      by (class.Imm ty) k rest = (k, rest)

  pub imms_made : (ops : List ClifOperand) → AreTyped ops
      → AreExprsOf E vars (map short_name (filter_map imm_type ops)) (exprs_of (variable_exprs (map (λ (o : ClifOperand). o.name) (filter (λ (o : ClifOperand). is_imm o.class) ops))))
  imms_made [] h = tt
  imms_made (o ∷ ops) h = by o.class h.0 (imms_made ops h.1)
    where
      by : (c : OperandClass) → Has vars (o.name, operand_type c)
          → AreExprsOf E vars (map short_name (filter_map imm_type ops)) (exprs_of (variable_exprs (map (λ (x : ClifOperand). x.name) (filter (λ (x : ClifOperand). is_imm x.class) ops))))
          → AreExprsOf E vars (map short_name (cons_option (type_in c) (filter_map imm_type ops)))
          (exprs_of (variable_exprs (map (λ (x : ClifOperand). x.name) (cond (is_imm c) (o ∷ filter (λ (x : ClifOperand). is_imm x.class) ops) (filter (λ (x : ClifOperand). is_imm x.class) ops)))))
      by class.Value k rest = rest
      by class.Varargs k rest = rest
      by class.Block k rest = rest
      by class.RawBlock k rest = rest
      by (class.Imm ty) k rest = (k, rest)

  -- the operands of a kind are variables of its type
  of_kind : (is : OperandClass → Bool) (ty : List ℕ) (i : Instruction) → AreTyped i.operands_in
      → ((c : OperandClass) → is c ≡ true → operand_type c ≡ ty) → AreOf ty (names_of is i)
  of_kind is ty i h same = all (names_of is i) (λ n k. k)
    where
      one : (name : List ℕ) → Has (names_of is i) name → Has vars (name, ty)
      one name k =
          let o = name_from is i name k in
          let at = all_has (λ (x : ClifOperand). Has vars (x.name, operand_type x.class)) i.operands_in o.0 h o.1 in
          subst (λ n. Has vars (n, ty)) o.2 (subst (λ c. Has vars (o.0.name, c)) (same o.0.class o.3) at)

      all : (ns : List (List ℕ)) → ((n : List ℕ) → Has ns n → Has (names_of is i) n) → AreOf ty ns
      all [] k = tt
      all (n ∷ ns) k = (one n (k n (inl refl)), all ns (λ m j. k m (inr j)))

  pub values_of_type : (i : Instruction) → AreTyped i.operands_in → AreOf (codes "Value") (names_of is_value i)
  values_of_type i h = of_kind is_value (codes "Value") i h value_class

  pub blocks_of_type : (i : Instruction) → AreTyped i.operands_in → AreOf (codes "BlockCall") (names_of is_block i)
  blocks_of_type i h = of_kind is_block (codes "BlockCall") i h block_class

  pub raws_of_type : (i : Instruction) → AreTyped i.operands_in → AreOf (codes "Block") (names_of is_raw_block i)
  raws_of_type i h = of_kind is_raw_block (codes "Block") i h raw_class

-- ---- variables that stand in patterns

pub variables_append : (ps qs : List Pattern) → all_variables_in (patterns_of (ps ++ qs)) ≡ all_variables_in (patterns_of ps) ++ all_variables_in (patterns_of qs)
variables_append [] qs = refl
variables_append (p ∷ ps) qs =
    ap (λ xs. variables_in p ++ xs) (variables_append ps qs)
    ∙ sym (append_assoc (variables_in p) (all_variables_in (patterns_of ps)) (all_variables_in (patterns_of qs)))

pub in_first : (ps qs : List Pattern) (x : List ℕ) → Has (all_variables_in (patterns_of ps)) x → Has (all_variables_in (patterns_of (ps ++ qs))) x
in_first ps qs x h = subst (λ xs. Has xs x) (sym (variables_append ps qs)) (has_front (all_variables_in (patterns_of ps)) (all_variables_in (patterns_of qs)) x h)

pub in_second : (ps qs : List Pattern) (x : List ℕ) → Has (all_variables_in (patterns_of qs)) x → Has (all_variables_in (patterns_of (ps ++ qs))) x
in_second ps qs x h = subst (λ xs. Has xs x) (sym (variables_append ps qs)) (has_back (all_variables_in (patterns_of ps)) (all_variables_in (patterns_of qs)) x h)

pub in_variables : (names : List (List ℕ)) (x : List ℕ) → Has names x → Has (all_variables_in (patterns_of (variables names))) x
in_variables [] x h = h
in_variables (n ∷ ns) x (inl e) = inl e
in_variables (n ∷ ns) x (inr h) = inr (in_variables ns x h)

pub in_counted : (array : List ℕ) (names : List (List ℕ)) (x : List ℕ) → Has names x → Has (all_variables_in (patterns_of (counted_pattern array names))) x
in_counted array [] x h = h
in_counted array (n ∷ []) x h = h
in_counted array (n ∷ m ∷ ns) x h = has_front (all_variables_in (patterns_of (variables (n ∷ m ∷ ns)))) [] x (in_variables (n ∷ m ∷ ns) x h)

-- ---- sizes of expressions

pub size_append : (es fs : List Expr) → exprs_size (exprs_of (es ++ fs)) ≡ exprs_size (exprs_of es) + exprs_size (exprs_of fs)
size_append [] fs = omega arith
size_append (e ∷ es) fs = let rest = size_append es fs in omega (arith, rest)

pub size_variables : (names : List (List ℕ)) → exprs_size (exprs_of (variable_exprs names)) ≡ length names
size_variables [] = refl
size_variables (n ∷ ns) = let rest = size_variables ns in omega (arith, rest)

pub size_counted : (array : List ℕ) (names : List (List ℕ)) → exprs_size (exprs_of (counted_expr array names)) ≤ 1 + length names
size_counted array [] = omega arith
size_counted array (n ∷ []) = omega arith
size_counted array (n ∷ m ∷ ns) = let rest = size_variables ns in omega (arith, rest)
