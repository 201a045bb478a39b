-- Fields of types without a fault: their names are apart, they are few, and their types are there.
use Rattle.std.proofs.Common.{◌≡◌, ℕ, zero, suc, ◌+◌, ◌<◌, ◌≤◌, Bool, true, false, List, [], ◌∷◌, length, map, Some, refl, sym, ap, ◌∙◌, subst, arith}
use Rattle.std.specs.Prelude.{flat_map, is_some, not, nat_le, option_map, slice_get, slice_index_or}
use Rattle.std.specs.Fmt.{decimal}
use Rattle.std.specs.List.{AllByRecursion, IsDistinct, list_any}
use Rattle.std.specs.Str.{bytes_eq}
use Rattle.std.proofs.lemmas.Bool.{or_parts}
use Rattle.std.proofs.lemmas.Bool.Decides.{nat_tests}
use Rattle.std.proofs.lemmas.Fmt.{decimal_injective}
use Rattle.std.proofs.lemmas.List.{length-map}
use Rattle.std.proofs.lemmas.Option.{slice_get-map}
use Rattle.isle_core.specs.declared.TypeId.{TypeId}
use Rattle.isle_core.specs.declared.types.Field.{Field}
use Rattle.isle_core.specs.declared.types.Fields.{Fields}
use Rattle.isle_core.specs.declared.types.TypeEnv.{TypeEnv}
use Rattle.isle_core.specs.HasType.{typed_fields, tuple_fields}
use Rattle.isle_core.specs.Rule.{Environment}
use Rattle.isle_core.specs.Terms.{sym_text}
use Rattle.isle_ast.specs.Tree.{Def}
use Rattle.isle_ast.specs.declared.tree.AstFields.{AstFields}
use Rattle.isle_ast.specs.declared.tree.AstFields.TheVariants.{Unit, Named, Tuple}
use Rattle.isle_declarations.specs.Names.{shape_names}
use Rattle.isle_declarations.specs.Symbols.{symbols}
use Rattle.isle_declarations.proofs.DeclaredNames.{text_of}
use Rattle.isle_declarations.proofs.DistinctNames.{distinct_names}
use Rattle.isle_types.specs.Bodies.{fields_repeat, are_many}
use Rattle.isle_types.specs.Bodies as bodies
use Rattle.isle_core.specs.TypedParts.{IsThere, AreFieldsTyped}
use Rattle.isle_core.specs.TypedParts as typed
use Rattle.isle_types.specs.TypeEnvironment.{sym_in, type_in, field_in, fields_in, type_env_of}
use Rattle.isle_types.specs.TypeNames.{is_type}
use Rattle.isle_types.proofs.SymbolsApart.{Stands, AllStand, one_place}
use Rattle.isle_types.proofs.TypePlaces.{type_found}

-- ---- what is meant by it

-- no two fields have one name
abbrev pub AreApart : List (List ℕ × TypeId) → Type 0
AreApart fs = (i j : ℕ) (a b : List ℕ × TypeId) → slice_get fs i ≡ Some a → slice_get fs j ≡ Some b → a.0 ≡ b.0 → i ≡ j

-- fields as typing leaves them
pub record AreSoundFields (env : Environment) (fs : Fields) : Type 0 where
  pub apart : AreApart (typed_fields env fs)
  pub typed : AreFieldsTyped env.types fs

-- ---- names

-- the text of a symbol of definitions
pub text_in : (defs : List Def) (env : Environment) (name : List ℕ) → env.types ≡ type_env_of defs → Stands (symbols defs) name → sym_text env (sym_in defs name) ≡ name
text_in defs env name is s = ap (λ (types : TypeEnv). slice_index_or types.syms (sym_in defs name).0 []) is ∙ text_of (symbols defs) name s.0 s.1

names_apart : (fs : List (List ℕ × TypeId)) → IsDistinct bytes_eq (map (λ (f : List ℕ × TypeId). f.0) fs) → AreApart fs
names_apart fs d i j a b e f same =
    let name : List ℕ × TypeId → List ℕ = λ f. f.0 in
    one_place (map name fs) i j a.0 d (slice_get-map name fs i ∙ ap (option_map name) e) (slice_get-map name fs j ∙ ap (option_map name) f ∙ ap (λ (n : List ℕ). Some n) (sym same))

named_texts : (defs : List Def) (env : Environment) (named : List (List ℕ × List ℕ)) → env.types ≡ type_env_of defs → AllStand (symbols defs) (flat_map (λ (f : List ℕ × List ℕ). f.0 ∷ f.1 ∷ []) named)
    → map (λ (f : List ℕ × TypeId). f.0) (map (λ (f : Field). (sym_text env f.name, f.ty)) (map (field_in defs) named)) ≡ map (λ (f : List ℕ × List ℕ). f.0) named
named_texts defs env [] is h = refl
named_texts defs env (f ∷ named) is h = rw (text_in defs env f.0 is h.0, named_texts defs env named is h.1.1) refl

tuple_at : (tys : List TypeId) (k i : ℕ) (a : List ℕ × TypeId) → slice_get (tuple_fields k tys) i ≡ Some a → (a.0 ≡ decimal (k + i)) × (i < length tys)
tuple_at [] k zero a e = absurd cc
tuple_at [] k (suc i) a e = absurd cc
tuple_at (ty ∷ tys) k zero a e =
    let same : (decimal k, ty) ≡ a = cc in
    (sym (ap (λ (f : List ℕ × TypeId). f.0) same) ∙ ap decimal {y = k + 0} (omega arith), omega arith)
tuple_at (ty ∷ tys) k (suc i) a e =
    let r = tuple_at tys (suc k) i a e in
    (r.0 ∙ ap decimal {y = k + suc i} (omega arith), omega (arith, r.1))

tuple_apart : (tys : List TypeId) → length tys ≤ 256 → AreApart (tuple_fields 0 tys)
tuple_apart tys few i j a b e f same =
    let p = tuple_at tys 0 i a e in
    let q = tuple_at tys 0 j b f in
    let small : i < 256 = omega (arith, p.1, few) in
    let little : j < 256 = omega (arith, q.1, few) in
    let one : 0 + i ≡ 0 + j = decimal_injective (0 + i) (0 + j) (omega arith) (omega arith) (sym p.0 ∙ same ∙ q.0) in
    omega arith

fields_apart : (defs : List Def) (env : Environment) (fs : AstFields) → env.types ≡ type_env_of defs → fields_repeat fs ≡ false → length (typed.field_types (fields_in defs fs)) ≤ 256 → AllStand (symbols defs) (shape_names fs) → AreApart (typed_fields env (fields_in defs fs))
fields_apart defs env Unit is once few h = λ i j a b e f same. absurd (nothing i a e)
  where
    nothing : (i : ℕ) (a : List ℕ × TypeId) → slice_get [] i ≡ Some a → ⊥
    nothing zero a e = cc
    nothing (suc i) a e = cc
fields_apart defs env (Named named) is once few h =
    names_apart (typed_fields env (fields_in defs (Named named)))
    (subst (IsDistinct bytes_eq) (sym (named_texts defs env named is h)) (distinct_names (map (λ (f : List ℕ × List ℕ). f.0) named) once))
fields_apart defs env (Tuple types) is once few h = tuple_apart (map (type_in defs) types) few

-- ---- types

named_types : (defs : List Def) (named : List (List ℕ × List ℕ)) → map (λ (f : Field). f.ty) (map (field_in defs) named) ≡ map (type_in defs) (map (λ (f : List ℕ × List ℕ). f.1) named)
named_types defs [] = refl
named_types defs (f ∷ named) = ap (λ (tys : List TypeId). type_in defs f.1 ∷ tys) (named_types defs named)

types_of : (defs : List Def) (fs : AstFields) → typed.field_types (fields_in defs fs) ≡ map (type_in defs) (bodies.field_types fs)
types_of defs Unit = refl
types_of defs (Named named) = named_types defs named
types_of defs (Tuple types) = refl

-- a test that does not fail holds
pub is_declared : (b : Bool) → not b ≡ false → b ≡ true
is_declared true e = refl
is_declared false e = absurd cc

-- the type of a type's name is there
pub is_there : (defs : List Def) (types : TypeEnv) (name : List ℕ) → types ≡ type_env_of defs → is_type defs name ≡ true → IsThere types (type_in defs name)
is_there defs types name is e =
    let found = type_found defs name e in
    ap (λ (ts : TypeEnv). is_some (slice_get ts.types (type_in defs name).0)) is ∙ ap is_some found.stands

all_there : (defs : List Def) (types : TypeEnv) (names : List (List ℕ)) → types ≡ type_env_of defs → list_any (λ (name : List ℕ). not (is_type defs name)) names ≡ false → AllByRecursion (IsThere types) (map (type_in defs) names)
all_there defs types [] is h = tt
all_there defs types (name ∷ names) is h =
    let p = or_parts (not (is_type defs name)) (list_any (λ (n : List ℕ). not (is_type defs n)) names) h in
    (is_there defs types name is (is_declared (is_type defs name) p.0), all_there defs types names is p.1)

few_by : (n : ℕ) (b : Bool) → nat_le n 256 ≡ b → not b ≡ false → n ≤ 256
few_by n true e h = grind (arith, nat_tests)
few_by n false e h = absurd cc

-- fields without a fault are sound
pub sound_fields : (defs : List Def) (env : Environment) (fs : AstFields) → env.types ≡ type_env_of defs → fields_repeat fs ≡ false → list_any (λ (name : List ℕ). not (is_type defs name)) (bodies.field_types fs) ≡ false → are_many fs ≡ false
    → AllStand (symbols defs) (shape_names fs) → AreSoundFields env (fields_in defs fs)
sound_fields defs env fs is once there few h =
    let names = bodies.field_types fs in
    let at_most : length (typed.field_types (fields_in defs fs)) ≤ 256 = subst (λ (n : ℕ). n ≤ 256) (sym (ap length (types_of defs fs) ∙ length-map names (type_in defs))) (few_by (length names) (nat_le (length names) 256) refl few) in
    record {
      apart = fields_apart defs env fs is once at_most h;
      typed = record { few = at_most; there = subst (AllByRecursion (IsThere env.types)) (sym (types_of defs fs)) (all_there defs env.types names is there) };
    }
