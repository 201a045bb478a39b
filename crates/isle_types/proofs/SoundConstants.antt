-- Constants without a fault: they are of builtin or primitive types, and those of one text are one.
use Rattle.std.proofs.Common.{◌≡◌, ℕ, Bool, true, false, cond, List, [], ◌∷◌, map, Option, Some, None, refl, sym, ap, ◌∙◌, subst}
use Rattle.std.specs.Prelude.{◌==◌, IfSome, IsSomeAnd, find, is_some, not, option_map, slice_get}
use Rattle.std.specs.List.{AllByRecursion}
use Rattle.std.proofs.lemmas.Bool.{or_parts}
use Rattle.std.proofs.lemmas.Bool.Decides.{Decides-eqb}
use Rattle.std.proofs.lemmas.Option.{same_Some}
use Rattle.isle_core.specs.declared.Sym.{Sym}
use Rattle.isle_core.specs.declared.TypeId.{TypeId}
use Rattle.isle_core.specs.declared.types.TypeEnv.{TypeEnv}
use Rattle.isle_core.specs.Constants.{const_type}
use Rattle.isle_core.specs.NamesApart.{IsPlainDef, AreConstantsPlain}
use Rattle.isle_core.specs.Rule.{Environment}
use Rattle.isle_ast.specs.Tree.{Def, TypeDecl, Decl, ExternConstructor, ExternExtractor, ExternConst, Extractor, Converter, Rule, Passed}
use Rattle.isle_declarations.specs.DeclaredTypes.{Constant, constant_of, constants}
use Rattle.isle_declarations.specs.Names.{def_names}
use Rattle.isle_declarations.specs.Symbols.{index_of, number_or, symbols}
use Rattle.isle_declarations.proofs.SymbolLaws.{stands}
use Rattle.isle_types.specs.Fault.{type_fault}
use Rattle.isle_types.specs.TypeEnvironment.{type_in, constant_in, type_env_of}
use Rattle.isle_types.specs.TypeNames.{is_scalar}
use Rattle.isle_types.proofs.SymbolsApart.{AllStand, names_stand}
use Rattle.isle_types.proofs.SoundFields.{is_declared}
use Rattle.isle_types.proofs.SoundBodies.{all_some}
use Rattle.isle_types.proofs.SoundRows.{IsUnbroken, all_unbroken}
use Rattle.isle_types.proofs.TypePlaces.{scalar_found}

-- ---- sound constants

-- a constant is of a builtin or primitive type, and its name is a symbol
pub record IsSoundConstant (defs : List Def) (env : Environment) (c : Sym × TypeId) : Type 0 where
  pub plain : IsSomeAnd (slice_get env.types.types c.1.0) IsPlainDef
  pub name : List ℕ
  pub stands : index_of (symbols defs) name ≡ Some c.0.0

constant_sound : (defs : List Def) (env : Environment) (d : Def) → env.types ≡ type_env_of defs → IsUnbroken defs d → AllStand (symbols defs) (def_names d) → IfSome (constant_of d) (λ (c : Constant). IsSoundConstant defs env (constant_in defs c))
constant_sound defs env (ExternConst name ty pos) is u h =
    let known = is_some (index_of (map (λ (c : Constant). c.name) (constants u.before)) name) in
    let scalar : is_scalar defs ty ≡ true = is_declared (is_scalar defs ty) (or_parts known (not (is_scalar defs ty)) u.fits).1 in
    let found = scalar_found defs ty scalar in
    record {
      plain = subst (λ (o : Option _). IsSomeAnd o IsPlainDef) (sym (ap (λ (types : TypeEnv). slice_get types.types (type_in defs ty).0) is ∙ found.stands)) (found.plain scalar);
      name = name;
      stands = h.0.1 ∙ ap (λ (n : ℕ). Some n) (sym (ap number_or h.0.1));
    }
constant_sound defs env (TypeDecl name is_extern is_nodebug body pos) is u h = tt
constant_sound defs env (Decl term pure multi partial recursive args ret pos) is u h = tt
constant_sound defs env (ExternConstructor term func pos) is u h = tt
constant_sound defs env (ExternExtractor term func infallible pos) is u h = tt
constant_sound defs env (Extractor term params template pos) is u h = tt
constant_sound defs env (Converter from to term pos) is u h = tt
constant_sound defs env (Rule name prio term args iflets rhs pos) is u h = tt
constant_sound defs env (Passed head pos) is u h = tt

each_constant : (defs : List Def) (env : Environment) (ds : List Def) → env.types ≡ type_env_of defs → AllByRecursion (IsUnbroken defs) ds → AllByRecursion (λ (d : Def). AllStand (symbols defs) (def_names d)) ds
    → AllByRecursion (λ (d : Def). IfSome (constant_of d) (λ (c : Constant). IsSoundConstant defs env (constant_in defs c))) ds
each_constant defs env [] is u h = tt
each_constant defs env (d ∷ ds) is u h = (constant_sound defs env d is u.0 h.0, each_constant defs env ds is u.1 h.1)

all_mapped : {X Y : Type 0} (P : Y → Type 0) (f : X → Y) (xs : List X) → AllByRecursion (λ (x : X). P (f x)) xs → AllByRecursion P (map f xs)
all_mapped P f [] h = tt
all_mapped P f (x ∷ xs) h = (h.0, all_mapped P f xs h.1)

-- the constants of definitions without a fault are sound
pub constants_sound : (defs : List Def) (env : Environment) → env.types ≡ type_env_of defs → type_fault defs ≡ None → AllByRecursion (IsSoundConstant defs env) env.types.consts
constants_sound defs env is none =
    let each = all_some (λ (c : Constant). IsSoundConstant defs env (constant_in defs c)) constant_of defs (each_constant defs env defs is (all_unbroken defs none) (names_stand defs)) in
    subst (λ (types : TypeEnv). AllByRecursion (IsSoundConstant defs env) types.consts) (sym is) (all_mapped (IsSoundConstant defs env) (constant_in defs) (constants defs) each)

-- ---- the constant that is found

found_if : {X : Type 0} (P : X → Type 0) (b : Bool) (x y : X) (more : Option X) (test : X → Bool) → test x ≡ b → P x → (more ≡ Some y → P y × (test y ≡ true)) → cond b (Some x) more ≡ Some y → P y × (test y ≡ true)
found_if P true x y more test is p rest e = let same : x ≡ y = same_Some x y e in (subst P same p, ap test (sym same) ∙ is)
found_if P false x y more test is p rest e = rest e

find_all : {X : Type 0} (P : X → Type 0) (test : X → Bool) (xs : List X) (y : X) → AllByRecursion P xs → find test xs ≡ Some y → P y × (test y ≡ true)
find_all P test [] y h e = absurd cc
find_all P test (x ∷ xs) y h e = found_if P (test x) x y (find test xs) test refl h.0 (λ k. find_all P test xs y h.1 k) e

entry_of : (o : Option (Sym × TypeId)) (ty : TypeId) → option_map (λ (c : Sym × TypeId). c.1) o ≡ Some ty → (c : Sym × TypeId) × (o ≡ Some c) × (c.1 ≡ ty)
entry_of None ty e = absurd cc
entry_of (Some c) ty e = (c, refl, same_Some c.1 ty e)

-- a constant of this number and type, which is sound
record IsEntry (defs : List Def) (env : Environment) (name : Sym) (ty : TypeId) : Type 0 where
  entry : Sym × TypeId
  sound : IsSoundConstant defs env entry
  numbered : entry.0.0 ≡ name.0
  typed : entry.1 ≡ ty

entry_found : (defs : List Def) (env : Environment) (name : Sym) (ty : TypeId) → env.types ≡ type_env_of defs → type_fault defs ≡ None → const_type env name ≡ Some ty → IsEntry defs env name ty
entry_found defs env name ty is none e =
    let test : Sym × TypeId → Bool = λ c. c.0.0 == name.0 in
    let c = entry_of (find test env.types.consts) ty e in
    let found = find_all (IsSoundConstant defs env) test env.types.consts c.0 (constants_sound defs env is none) c.1 in
    record { entry = c.0; sound = found.0; numbered = (Decides-eqb c.0.0.0 name.0).0 found.1; typed = c.2 }

-- constants are of types that are builtin or primitive
pub constants_plain : (defs : List Def) (env : Environment) → env.types ≡ type_env_of defs → type_fault defs ≡ None → AreConstantsPlain env
constants_plain defs env is none name ty e =
    let c = entry_found defs env name ty is none e in
    subst (λ (t : TypeId). IsSomeAnd (slice_get env.types.types t.0) IsPlainDef) c.typed c.sound.plain
