-- Constants are values of the type where they stand.
use Rattle.std.proofs.Common.{◌≡◌, ℕ, zero, suc, ◌<◌, ◌^◌, Bool, true, false, List, [], ◌∷◌, Option, Some, None, refl, sym, ap, ◌∙◌, subst, arith}
use Rattle.std.specs.Prelude.{ℤ, pos, negsuc, filter_map, option_map, slice_get, IsSomeAnd}
use Rattle.std.specs.Option.{option_map_or}
use Rattle.std.specs.Int.{Width, w8, w16, w32, w64, w128, int_wrap}
use Rattle.std.proofs.Math.Nat.{mod-lt}
use Rattle.std.proofs.lemmas.Int.{SFits-int_wrap}
use Rattle.std.proofs.lemmas.Option.{same_Some}
use mir.Val.{bits}
use lib.Pow.{pow_pos}
use Rattle.isle_core.specs.declared.TypeId.{TypeId}
use Rattle.isle_core.specs.declared.types.IntType.{IntType}
use Rattle.isle_core.specs.declared.types.IntType.TheVariants.{U8, U16, U32, U64, U128, USize, I8, I16, I32, I64, I128, ISize}
use Rattle.isle_core.specs.declared.types.BuiltinType.TheVariants.{Bool as Truths, Int}
use Rattle.isle_core.specs.declared.types.TypeDef.{TypeDef}
use Rattle.isle_core.specs.declared.types.TypeDef.TheVariants.{Builtin, Primitive, Enum, Struct}
use Rattle.isle_core.specs.declared.types.TypeEnv.{TypeEnv}
use Rattle.isle_core.specs.Int.{residue, wrapped}
use Rattle.isle_core.specs.PatternType.{IsNumericDef, IsNumeric}
use Rattle.isle_core.specs.Rule.{Environment}
use Rattle.isle_core.specs.RightSide.{bool_type}
use Rattle.isle_core.specs.Value.{Truth}
use Rattle.isle_core.specs.HasType.{HasType, IsReduced, IsOfDef}
use Rattle.isle_core.specs.Constants.{int_value, int_of_def}
use Rattle.isle_ast.specs.Tree as tree
use Rattle.isle_ast.specs.Tree.{Def}
use Rattle.isle_ast.specs.declared.tree.AstBody.TheVariants as Body
use Rattle.isle_types.specs.TypeEnvironment.{type_def_in, type_env_of}
use Rattle.isle_types.specs.Builtins.{type_id}
use Rattle.isle_terms.specs.Reduced.{reduced, integer_by, typed_integer}
use Rattle.isle_terms.specs.Expected.{is_bool_def, takes_truths}

-- ---- a reduced number is held by its type

residue_below : (w : Width) (z : ℤ) → residue w z < 2 ^ bits w
residue_below w (pos a) = mod-lt a (pow_pos (bits w))
residue_below w (negsuc a) = let some = pow_pos (bits w) in omega (arith, mod-lt a some)

held : (ty : IntType) (z : ℤ) → IsReduced ty (reduced ty z)
unfolding wrapped int_wrap
held U8 z = residue_below w8 z
held U16 z = residue_below w16 z
held U32 z = residue_below w32 z
held U64 z = residue_below w64 z
held U128 z = SFits-int_wrap w128 z
held USize z = residue_below w64 z
held I8 z = SFits-int_wrap w8 z
held I16 z = SFits-int_wrap w16 z
held I32 z = SFits-int_wrap w32 z
held I64 z = SFits-int_wrap w64 z
held I128 z = SFits-int_wrap w128 z
held ISize z = SFits-int_wrap w64 z

-- ---- constants

-- an integer of a type, a value of it
abbrev IsIntegerOf : Environment → TypeId → Option TypeDef → TypeId × ℤ → Type 0
IsIntegerOf env ty o v = (v.0 ≡ ty) × IsSomeAnd o (λ (d : TypeDef). IsOfDef env d (int_of_def env o v.1)) × IsSomeAnd o IsNumericDef

integer_by_def : (env : Environment) (ty : TypeId) (z : ℤ) (v : TypeId × ℤ) (o : Option TypeDef) → option_map (λ (n : ℤ). (ty, n)) (integer_by o z) ≡ Some v → IsIntegerOf env ty o v
integer_by_def env ty z v None h = absurd cc
integer_by_def env ty z v (Some (Builtin Truths)) h = absurd cc
integer_by_def env ty z v (Some (Builtin (Int of))) h = subst (IsIntegerOf env ty (Some (Builtin (Int of)))) (same_Some (ty, reduced of z) v h) (refl, (refl, held of z), tt)
integer_by_def env ty z v (Some (Primitive name rust at)) h = subst (IsIntegerOf env ty (Some (Primitive name rust at))) (same_Some (ty, reduced I128 z) v h) (refl, (refl, held I128 z), tt)
integer_by_def env ty z v (Some (Enum name is_extern is_nodebug variants at)) h = absurd cc
integer_by_def env ty z v (Some (Struct name is_extern is_nodebug fields at)) h = absurd cc

-- an integer where a type is expected is a value of that type, which is one of integers or primitive
pub integer_typed : (env : Environment) (ty : TypeId) (z : ℤ) (v : TypeId × ℤ) → typed_integer env.types (Some ty) z ≡ Some v → (v.0 ≡ ty) × HasType env (int_value env ty v.1) ty × IsNumeric env ty
integer_typed env ty z v h = integer_by_def env ty z v (slice_get env.types.types ty.0) h

-- a type whose values are truths
truths_by : (env : Environment) (b : Bool) (o : Option TypeDef) → option_map_or is_bool_def o false ≡ true → IsSomeAnd o (λ (d : TypeDef). IsOfDef env d (Truth b))
truths_by env b None h = absurd cc
truths_by env b (Some (Builtin Truths)) h = tt
truths_by env b (Some (Builtin (Int of))) h = absurd cc
truths_by env b (Some (Primitive name rust at)) h = absurd cc
truths_by env b (Some (Enum name is_extern is_nodebug variants at)) h = absurd cc
truths_by env b (Some (Struct name is_extern is_nodebug fields at)) h = absurd cc

no_truth : (all : List Def) (ds : List Def) (n : ℕ) → option_map_or is_bool_def (slice_get (filter_map (type_def_in all) ds) n) false ≡ true → ⊥
no_truth all [] zero h = cc
no_truth all [] (suc n) h = cc
no_truth all (tree.TypeDecl name is_extern is_nodebug (Body.Primitive rust) at ∷ ds) zero h = cc
no_truth all (tree.TypeDecl name is_extern is_nodebug (Body.Enum variants) at ∷ ds) zero h = cc
no_truth all (tree.TypeDecl name is_extern is_nodebug (Body.Struct fields) at ∷ ds) zero h = cc
no_truth all (tree.TypeDecl name is_extern is_nodebug body at ∷ ds) (suc n) h = no_truth all ds n h
no_truth all (tree.Decl term pure multi partial recursive args ret at ∷ ds) n h = no_truth all ds n h
no_truth all (tree.ExternConstructor term func at ∷ ds) n h = no_truth all ds n h
no_truth all (tree.ExternExtractor term func infallible at ∷ ds) n h = no_truth all ds n h
no_truth all (tree.ExternConst name ty at ∷ ds) n h = no_truth all ds n h
no_truth all (tree.Extractor term params template at ∷ ds) n h = no_truth all ds n h
no_truth all (tree.Converter from to term at ∷ ds) n h = no_truth all ds n h
no_truth all (tree.Rule name prio term args iflets rhs at ∷ ds) n h = no_truth all ds n h
no_truth all (tree.Passed head at ∷ ds) n h = no_truth all ds n h

-- of the types of definitions only the first is `bool`
truth_at : (defs : List Def) (n : ℕ) → option_map_or is_bool_def (slice_get (type_env_of defs).types n) false ≡ true → n ≡ 0
truth_at defs zero h = refl
truth_at defs (suc zero) h = absurd cc
truth_at defs (suc (suc zero)) h = absurd cc
truth_at defs (suc (suc (suc zero))) h = absurd cc
truth_at defs (suc (suc (suc (suc zero)))) h = absurd cc
truth_at defs (suc (suc (suc (suc (suc zero))))) h = absurd cc
truth_at defs (suc (suc (suc (suc (suc (suc zero)))))) h = absurd cc
truth_at defs (suc (suc (suc (suc (suc (suc (suc zero))))))) h = absurd cc
truth_at defs (suc (suc (suc (suc (suc (suc (suc (suc zero)))))))) h = absurd cc
truth_at defs (suc (suc (suc (suc (suc (suc (suc (suc (suc zero))))))))) h = absurd cc
truth_at defs (suc (suc (suc (suc (suc (suc (suc (suc (suc (suc zero)))))))))) h = absurd cc
truth_at defs (suc (suc (suc (suc (suc (suc (suc (suc (suc (suc (suc zero))))))))))) h = absurd cc
truth_at defs (suc (suc (suc (suc (suc (suc (suc (suc (suc (suc (suc (suc zero)))))))))))) h = absurd cc
truth_at defs (suc (suc (suc (suc (suc (suc (suc (suc (suc (suc (suc (suc (suc n))))))))))))) h = absurd (no_truth defs defs n h)

-- truths stand at bool alone, and are values of it
pub truth_typed : (defs : List Def) (env : Environment) (b : Bool) (ty : TypeId) → env.types ≡ type_env_of defs → takes_truths env.types (Some ty) ≡ true → (bool_type ≡ ty) × HasType env (Truth b) ty
truth_typed defs env b ty types h =
    let at = ap (λ (ts : TypeEnv). option_map_or is_bool_def (slice_get ts.types ty.0) false) (sym types) ∙ h in
    (ap type_id (sym (truth_at defs ty.0 at)), truths_by env b (slice_get env.types.types ty.0) h)
