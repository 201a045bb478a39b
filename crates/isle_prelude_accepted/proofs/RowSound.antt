-- The definitions of an instruction are sound among those of a prelude.
use Rattle.std.proofs.Common.{◌≡◌, inl, inr, ℕ, zero, suc, ◌≤◌, List, [], ◌∷◌, ◌++◌, map, length, true, false, Some, refl, sym, ap, ◌∙◌, subst, arith}
use Rattle.std.specs.Prelude.{replicate, slice_get, codes, filter_map}
use Rattle.std.specs.List.{AllByRecursion}
use Rattle.std.proofs.lemmas.Option.{same_Some}
use Rattle.std.proofs.lemmas.List.{map-append, length-map}
use Rattle.isle_ast.specs.Tree.{Pattern}
use Rattle.isle_ast.specs.Views.{patterns_of, exprs_of}
use Rattle.isle_terms.specs.NewVariables.{variables_in, all_variables_in}
use Rattle.isle_meta.specs.declared.clif.ClifOperand.{ClifOperand}
use Rattle.isle_meta.specs.declared.clif.ImmField.{ImmField}
use Rattle.isle_meta.specs.declared.clif.Instruction.{Instruction}
use Rattle.isle_meta.specs.declared.clif.InstructionFormat.{InstructionFormat}
use Rattle.isle_meta.specs.declared.clif.OperandClass.{OperandClass}
use Rattle.isle_meta.specs.declared.clif.OperandClass.TheVariants as class
use Rattle.isle_meta.specs.declared.tables.Tables.{Tables}
use Rattle.isle_meta.specs.InstructionRow.{is_value, is_varargs, is_block, is_raw_block, type_in, imm_type, imm_types}
use Rattle.isle_meta.specs.ShortName.{short_name}
use Rattle.isle_prelude.specs.ClifFiles.{variables, variable_exprs, term_over, call_on, counted_expr, value_patterns, block_patterns, opcode_term, data_term}
use Rattle.isle_prelude.specs.ClifFiles.{data_pattern, data_expr}
use Rattle.isle_prelude.specs.Declaring.{bare}
use Rattle.isle_prelude.specs.InstructionData.{counted_values, value_fields, block_fields, raw_block_fields, imm_field, format_fields, format_variant}
use Rattle.isle_prelude.specs.NumberedNames.{value_array, value_array_type, value_array_ctor, block_array, block_array_type, pack, unpack}
use Rattle.isle_prelude.specs.Operands.{operand_type, is_imm, names_of}
use Rattle.isle_prelude_accepted.specs.Plain.{ArePlain, IsShortInstruction}
use Rattle.isle_prelude_accepted.proofs.Has.{Has, has_map, has_flat, has_found, all_has}
use Rattle.isle_prelude_accepted.proofs.OperandLists.{types_in, name_there, many_names, few_names, same_types, types_of_fields, patterns_append, exprs_append}
use Rattle.isle_prelude_accepted.proofs.OperandLists.{values_fit, blocks_fit, raw_fit, imms_fit, values_made, blocks_made, raw_made, imms_made, AreTyped}
use Rattle.isle_prelude_accepted.proofs.OperandLists.{values_of_type, blocks_of_type, raws_of_type, in_first, in_second, in_variables, in_counted, size_append}
use Rattle.isle_prelude_accepted.proofs.OperandLists.{size_variables, size_counted}
use Rattle.isle_prelude_accepted.proofs.PreludeMembers.{E, IsType, in_ctors, in_values, in_blocks, in_data, value_type, slice_type, call_type, block_type}
use Rattle.isle_prelude_accepted.proofs.PreludeMembers.{imm_type as type_of_imm, value_size_there, ctor_size_there, block_size_there}
use Rattle.isle_prelude_accepted.proofs.Simple.{Variables, Opens, Makes, IsVariantTerm, IsPatternOf, ArePatternsOf, IsExprOf, AreExprsOf, expr_size}
use Rattle.isle_prelude_accepted.proofs.Supported.{AreSupported, IsSupportedFormat, IsSupportedInstruction, Fits}
use Rattle.isle_prelude_accepted.proofs.TableFacts.{format_at, instruction_at}

-- ---- lists

pub has_slice : {A : Type 0} (xs : List A) (n : ℕ) (x : A) → slice_get xs n ≡ Some x → Has xs x
has_slice [] zero x e = absurd cc
has_slice [] (suc n) x e = absurd cc
has_slice (y ∷ ys) zero x e = inl (same_Some y x e)
has_slice (y ∷ ys) (suc n) x e = inr (has_slice ys n x e)

-- the types of a format's fields, part by part
pub field_types_are : (f : InstructionFormat)
    → types_in (format_fields f) ≡ codes "Opcode" ∷ (types_in (value_fields f.has_value_list f.num_value_operands) ++ (types_in (block_fields f.num_block_operands) ++ (types_in (raw_block_fields f.num_raw_block_operands) ++ types_in (map imm_field f.imm_fields))))
field_types_are f =
    let second = λ (x : List ℕ × List ℕ). x.1 in
    let vs = value_fields f.has_value_list f.num_value_operands in
    let bs = block_fields f.num_block_operands in
    let rs = raw_block_fields f.num_raw_block_operands in
    let is = map imm_field f.imm_fields in
    ap (λ xs. codes "Opcode" ∷ xs)
    (map-append second vs (bs ++ (rs ++ is)) ∙ ap (λ xs. types_in vs ++ xs) (map-append second bs (rs ++ is) ∙ ap (λ xs. types_in bs ++ xs) (map-append second rs is)))

-- ---- an instruction of a format without a list of values

module _ (t : Tables) (s : AreSupported t) (plain : ArePlain t) (i : Instruction) (among : Has t.instructions i) (f : InstructionFormat) (at : slice_get t.formats i.format ≡ Some f) (list : f.has_value_list ≡ false) where
  -- its format is among the formats
  format_among : Has t.formats f
  format_among = has_slice t.formats i.format f at

  pub own : (b : List Instruction) × IsSupportedInstruction t.formats b i
  own = instruction_at t.formats [] t.instructions i s.instructions among

  own_format : (b : List InstructionFormat) × IsSupportedFormat b f
  own_format = format_at [] t.formats f s.formats format_among

  pub fits : Fits f i
  fits = subst (λ g. Fits g i) (same_Some own.1.format f (sym own.1.found ∙ at)) own.1.fits

  pub few : length i.operands_in ≤ 200
  few = all_has IsShortInstruction t.instructions i plain.instructions among

  many_values : length (names_of is_value i) ≡ f.num_value_operands
  many_values = many_names is_value i ∙ fits.values list

  many_blocks : length (names_of is_block i) ≡ f.num_block_operands
  many_blocks = many_names is_block i ∙ fits.blocks

  many_raws : length (names_of is_raw_block i) ≡ f.num_raw_block_operands
  many_raws = many_names is_raw_block i ∙ fits.raw_blocks

  -- the types of its immediates are those of the format's fields
  imm_types_are : map short_name (imm_types i) ≡ types_in (map imm_field f.imm_fields)
  imm_types_are =
      same_types (imm_types i) (map (λ (x : ImmField). x.rust_type) f.imm_fields)
      (fits.many_imms ∙ sym (length-map f.imm_fields (λ (x : ImmField). x.rust_type))) fits.imms
      ∙ types_of_fields f.imm_fields

  -- ---- types of operands

  imm_known : (ty : List ℕ) → Has (map short_name (imm_types i)) (short_name ty) → IsType t (short_name ty)
  imm_known ty h = by (subst (λ xs. Has xs (short_name ty)) imm_types_are h)
    where
      of_fields : (fs : List ImmField) → ((x : ImmField) → Has fs x → Has f.imm_fields x) → Has (types_in (map imm_field fs)) (short_name ty)
          → IsType t (short_name ty)
      of_fields [] all k = absurd k
      of_fields (x ∷ fs) all (inl e) =
          subst (IsType t) e (type_of_imm t x (has_flat (λ (g : InstructionFormat). g.imm_fields) t.formats f x format_among (all x (inl refl))))
      of_fields (x ∷ fs) all (inr k) = of_fields fs (λ y j. all y (inr j)) k

      by : Has (types_in (map imm_field f.imm_fields)) (short_name ty) → IsType t (short_name ty)
      by k = of_fields f.imm_fields (λ x j. j) k

  class_known : (c : OperandClass) → ((ty : List ℕ) → c ≡ class.Imm ty → Has (map short_name (imm_types i)) (short_name ty)) → IsType t (operand_type c)
  class_known class.Value h = value_type t
  class_known class.Varargs h = slice_type t
  class_known class.Block h = call_type t
  class_known class.RawBlock h = block_type t
  class_known (class.Imm ty) h = imm_known ty (h ty refl)

  imm_there : (ops : List ClifOperand) (o : ClifOperand) (ty : List ℕ) → Has ops o → o.class ≡ class.Imm ty
      → Has (map short_name (filter_map imm_type ops)) (short_name ty)
  imm_there ops o ty h e =
      has_map short_name (filter_map imm_type ops) ty (has_found imm_type ops o ty h (ap type_in e))

  pub operands_known : (ops : List ClifOperand) → ((o : ClifOperand) → Has ops o → Has i.operands_in o)
      → AllByRecursion (IsType t) (map (λ (o : ClifOperand). operand_type o.class) ops)
  operands_known [] all = tt
  operands_known (o ∷ ops) all =
      (class_known o.class (λ ty e. imm_there i.operands_in o ty (all o (inl refl)) e), operands_known ops (λ x k. all x (inr k)))

  -- ---- terms

  -- an array of values
  values_open : (k : ℕ) → length (names_of is_value i) ≡ suc (suc k)
      → Opens (E t) (value_array (length (names_of is_value i))) (replicate (length (names_of is_value i)) (codes "Value")) (value_array_type (length (names_of is_value i)))
  values_open k e =
      let n = suc (suc k) in
      let size =
      value_size_there t f k format_among list (sym many_values ∙ e) (λ none. own_format.1.controlled list (let m = sym many_values ∙ e in omega (arith, m)) none) in
      subst (λ m. Opens (E t) (value_array m) (replicate m (codes "Value")) (value_array_type m)) (sym e) (inr (record {
        pure = false;
        multi = false;
        func = unpack (value_array n);
        infallible = true;
        declared = in_values t n _ size (inr (inl refl));
        taken = in_values t n _ size (inr (inr (inr (inl refl))));
      }))

  values_make : (k : ℕ) → length (names_of is_value i) ≡ suc (suc k)
      → Makes (E t) (value_array_ctor (length (names_of is_value i))) (replicate (length (names_of is_value i)) (codes "Value")) (value_array_type (length (names_of is_value i)))
  values_make k e =
      let n = suc (suc k) in
      let size =
      ctor_size_there t k (value_size_there t f k format_among list (sym many_values ∙ e) (λ none. own_format.1.controlled list (let m = sym many_values ∙ e in omega (arith, m)) none)) in
      subst (λ m. Makes (E t) (value_array_ctor m) (replicate m (codes "Value")) (value_array_type m)) (sym e) (inr (record {
        pure = true;
        func = value_array_ctor n;
        declared = in_ctors t n _ size (inl refl);
        made = in_ctors t n _ size (inr (inl refl));
      }))

  -- an array of blocks
  blocks_open : (k : ℕ) → length (names_of is_block i) ≡ suc (suc k)
      → Opens (E t) (block_array (length (names_of is_block i))) (replicate (length (names_of is_block i)) (codes "BlockCall")) (block_array_type (length (names_of is_block i)))
  blocks_open k e =
      let n = suc (suc k) in
      let size = block_size_there t f k format_among (sym many_blocks ∙ e) in
      subst (λ m. Opens (E t) (block_array m) (replicate m (codes "BlockCall")) (block_array_type m)) (sym e) (inr (record {
        pure = false;
        multi = false;
        func = unpack (block_array n);
        infallible = true;
        declared = in_blocks t n _ size (inr (inl refl));
        taken = in_blocks t n _ size (inr (inr (inr (inl refl))));
      }))

  blocks_make : (k : ℕ) → length (names_of is_block i) ≡ suc (suc k)
      → Makes (E t) (block_array (length (names_of is_block i))) (replicate (length (names_of is_block i)) (codes "BlockCall")) (block_array_type (length (names_of is_block i)))
  blocks_make k e =
      let n = suc (suc k) in
      let size = block_size_there t f k format_among (sym many_blocks ∙ e) in
      subst (λ m. Makes (E t) (block_array m) (replicate m (codes "BlockCall")) (block_array_type m)) (sym e) (inr (record {
        pure = false;
        func = pack (block_array n);
        declared = in_blocks t n _ size (inr (inl refl));
        made = in_blocks t n _ size (inr (inr (inl refl)));
      }))

  -- its opcode, and its data
  opcode_variant : IsVariantTerm (E t) (opcode_term i) [] (codes "Opcode")
  opcode_variant = record {
    is_extern = true;
    is_nodebug = false;
    variants = map (λ (x : Instruction). bare x.camel_name) t.instructions;
    variant = bare i.camel_name;
    declared = in_data t _ (inr (inl refl));
    among = has_map (λ (x : Instruction). bare x.camel_name) t.instructions i among;
    named = refl;
    fields = refl;
  }

  data_variant : IsVariantTerm (E t) (data_term f) (types_in (format_fields f)) (codes "InstructionData")
  data_variant = record {
    is_extern = true;
    is_nodebug = false;
    variants = map format_variant t.formats;
    variant = format_variant f;
    declared = in_data t _ (inr (inr (inl refl)));
    among = has_map format_variant t.formats f format_among;
    named = refl;
    fields = refl;
  }

  -- ---- its data as a pattern and as an expression

  module _ (vars : Variables) (typed : AreTyped (E t) vars i.operands_in) where
    values_pattern : ArePatternsOf (E t) vars (types_in (value_fields f.has_value_list f.num_value_operands)) (patterns_of (value_patterns f.has_value_list i))
    values_pattern =
        subst (λ b. ArePatternsOf (E t) vars (types_in (value_fields b f.num_value_operands)) (patterns_of (value_patterns b i))) (sym list)
        (subst (λ n. ArePatternsOf (E t) vars (types_in (counted_values n)) (patterns_of (value_patterns false i))) many_values
        (values_fit (E t) vars (names_of is_value i) (values_of_type (E t) vars i typed) values_open))

    blocks_pattern : ArePatternsOf (E t) vars (types_in (block_fields f.num_block_operands)) (patterns_of (block_patterns i))
    blocks_pattern =
        subst (λ n. ArePatternsOf (E t) vars (types_in (block_fields n)) (patterns_of (block_patterns i))) many_blocks
        (blocks_fit (E t) vars (names_of is_block i) (blocks_of_type (E t) vars i typed) blocks_open)

    few_raws : length (names_of is_raw_block i) ≤ 1
    few_raws = let e = many_raws in let le = own_format.1.raw_blocks in omega (arith, e, le)

    raws_pattern : ArePatternsOf (E t) vars (types_in (raw_block_fields f.num_raw_block_operands)) (patterns_of (variables (names_of is_raw_block i)))
    raws_pattern =
        subst (λ n. ArePatternsOf (E t) vars (types_in (raw_block_fields n)) (patterns_of (variables (names_of is_raw_block i)))) many_raws
        (raw_fit (E t) vars (names_of is_raw_block i) few_raws (raws_of_type (E t) vars i typed))

    imms_pattern : ArePatternsOf (E t) vars (types_in (map imm_field f.imm_fields)) (patterns_of (variables (names_of is_imm i)))
    imms_pattern = subst (λ ts. ArePatternsOf (E t) vars ts (patterns_of (variables (names_of is_imm i)))) imm_types_are (imms_fit (E t) vars i.operands_in typed)

    -- its data, as a pattern over these variables
    pub data_fit : IsPatternOf (E t) vars (codes "InstructionData") (data_pattern f i)
    data_fit =
        let vs = value_patterns f.has_value_list i in
        let bs = block_patterns i in
        let rs = variables (names_of is_raw_block i) in
        let is = variables (names_of is_imm i) in (
          types_in (format_fields f),
          inl data_variant,
          subst (λ ts. ArePatternsOf (E t) vars ts (patterns_of (term_over (opcode_term i) [] ∷ (vs ++ (bs ++ (rs ++ is)))))) (sym (field_types_are f)) (
            ([], inl opcode_variant, tt),
            patterns_append (E t) vars _ _ vs (bs ++ (rs ++ is)) values_pattern
                (patterns_append (E t) vars _ _ bs (rs ++ is) blocks_pattern (patterns_append (E t) vars _ _ rs is raws_pattern imms_pattern)),
          ),
        )

    values_expr : AreExprsOf (E t) vars (types_in (value_fields f.has_value_list f.num_value_operands)) (exprs_of (counted_expr (value_array_ctor (length (names_of is_value i))) (names_of is_value i)))
    values_expr =
        subst (λ b. AreExprsOf (E t) vars (types_in (value_fields b f.num_value_operands)) (exprs_of (counted_expr (value_array_ctor (length (names_of is_value i))) (names_of is_value i)))) (sym list)
        (subst (λ n. AreExprsOf (E t) vars (types_in (counted_values n)) (exprs_of (counted_expr (value_array_ctor (length (names_of is_value i))) (names_of is_value i)))) many_values
        (values_made (E t) vars (names_of is_value i) (values_of_type (E t) vars i typed) values_make))

    blocks_expr : AreExprsOf (E t) vars (types_in (block_fields f.num_block_operands)) (exprs_of (counted_expr (block_array (length (names_of is_block i))) (names_of is_block i)))
    blocks_expr =
        subst (λ n. AreExprsOf (E t) vars (types_in (block_fields n)) (exprs_of (counted_expr (block_array (length (names_of is_block i))) (names_of is_block i)))) many_blocks
        (blocks_made (E t) vars (names_of is_block i) (blocks_of_type (E t) vars i typed) blocks_make)

    raws_expr : AreExprsOf (E t) vars (types_in (raw_block_fields f.num_raw_block_operands)) (exprs_of (variable_exprs (names_of is_raw_block i)))
    raws_expr =
        subst (λ n. AreExprsOf (E t) vars (types_in (raw_block_fields n)) (exprs_of (variable_exprs (names_of is_raw_block i)))) many_raws
        (raw_made (E t) vars (names_of is_raw_block i) few_raws (raws_of_type (E t) vars i typed))

    imms_expr : AreExprsOf (E t) vars (types_in (map imm_field f.imm_fields)) (exprs_of (variable_exprs (names_of is_imm i)))
    imms_expr = subst (λ ts. AreExprsOf (E t) vars ts (exprs_of (variable_exprs (names_of is_imm i)))) imm_types_are (imms_made (E t) vars i.operands_in typed)

    -- and as an expression
    pub data_made : IsExprOf (E t) vars (codes "InstructionData") (data_expr f i)
    data_made =
        let vs = counted_expr (value_array_ctor (length (names_of is_value i))) (names_of is_value i) in
        let bs = counted_expr (block_array (length (names_of is_block i))) (names_of is_block i) in
        let rs = variable_exprs (names_of is_raw_block i) in
        let is = variable_exprs (names_of is_imm i) in (
          types_in (format_fields f),
          inl data_variant,
          subst (λ ts. AreExprsOf (E t) vars ts (exprs_of (call_on (opcode_term i) [] ∷ (vs ++ (bs ++ (rs ++ is)))))) (sym (field_types_are f)) (
            ([], inl opcode_variant, tt),
            exprs_append (E t) vars _ _ vs (bs ++ (rs ++ is)) values_expr
                (exprs_append (E t) vars _ _ bs (rs ++ is) blocks_expr (exprs_append (E t) vars _ _ rs is raws_expr imms_expr)),
          ),
        )

  -- ---- its size, and its variables

  pub data_size : expr_size (data_expr f i) ≤ 806
  data_size =
      let vs = counted_expr (value_array_ctor (length (names_of is_value i))) (names_of is_value i) in
      let bs = counted_expr (block_array (length (names_of is_block i))) (names_of is_block i) in
      let rs = variable_exprs (names_of is_raw_block i) in
      let is = variable_exprs (names_of is_imm i) in
      let a = size_append vs (bs ++ (rs ++ is)) in
      let b = size_append bs (rs ++ is) in
      let c = size_append rs is in
      let v = size_counted (value_array_ctor (length (names_of is_value i))) (names_of is_value i) in
      let w = size_counted (block_array (length (names_of is_block i))) (names_of is_block i) in
      let x = size_variables (names_of is_raw_block i) in
      let y = size_variables (names_of is_imm i) in
      let nv = few_names is_value i in
      let nb = few_names is_block i in
      let nr = few_names is_raw_block i in
      let ni = few_names is_imm i in
      let all = few in
      omega (arith, a, b, c, v, w, x, y, nv, nb, nr, ni, all)

  -- the variables of its data are its operands
  pub data_used : (o : ClifOperand) → Has i.operands_in o → Has (variables_in (data_pattern f i)) o.name
  data_used o h = by o.class refl
    where
      vs : List Pattern
      vs = value_patterns f.has_value_list i

      bs : List Pattern
      bs = block_patterns i

      rs : List Pattern
      rs = variables (names_of is_raw_block i)

      is : List Pattern
      is = variables (names_of is_imm i)

      values_in : Has (all_variables_in (patterns_of (value_patterns false i))) o.name → Has (variables_in (data_pattern f i)) o.name
      values_in k = in_first vs (bs ++ (rs ++ is)) o.name (subst (λ b. Has (all_variables_in (patterns_of (value_patterns b i))) o.name) (sym list) k)

      no_varargs : is_varargs o.class ≡ true → ⊥
      no_varargs e = none (names_of is_varargs i) (many_names is_varargs i ∙ fits.no_varargs list) (name_there is_varargs i o h e)
        where
          none : (ns : List (List ℕ)) → length ns ≡ 0 → Has ns o.name → ⊥
          none [] l k = k
          none (n ∷ ns) l k = let e : suc (length ns) ≡ 0 = l in omega arith

      by : (c : OperandClass) → o.class ≡ c → Has (variables_in (data_pattern f i)) o.name
      by class.Value e = values_in (in_counted (value_array (length (names_of is_value i))) (names_of is_value i) o.name (name_there is_value i o h (ap is_value e)))
      by class.Varargs e = absurd (no_varargs (ap is_varargs e))
      by class.Block e =
          in_second vs (bs ++ (rs ++ is)) o.name
          (in_first bs (rs ++ is) o.name (in_counted (block_array (length (names_of is_block i))) (names_of is_block i) o.name (name_there is_block i o h (ap is_block e))))
      by class.RawBlock e =
          in_second vs (bs ++ (rs ++ is)) o.name
          (in_second bs (rs ++ is) o.name (in_first rs is o.name (in_variables (names_of is_raw_block i) o.name (name_there is_raw_block i o h (ap is_raw_block e)))))
      by (class.Imm ty) e =
          in_second vs (bs ++ (rs ++ is)) o.name
          (in_second bs (rs ++ is) o.name (in_second rs is o.name (in_variables (names_of is_imm i) o.name (name_there is_imm i o h (ap is_imm e)))))
