-- Where the types of names stand.
use Rattle.std.proofs.Common.{◌≡◌, ℕ, zero, suc, ◌+◌, ◌<◌, Bool, true, false, cond, List, [], ◌∷◌, ◌++◌, length, Option, Some, None, refl, sym, ap, ◌∙◌, arith}
use Rattle.std.specs.Prelude.{◌||◌, filter_map, find, is_some, option_map, slice_get}
use Rattle.std.specs.Option.{option_map_or}
use Rattle.std.specs.List.{AllByRecursion}
use Rattle.std.specs.Str.{bytes_eq}
use Rattle.isle_core.specs.declared.position.Pos.{Pos}
use Rattle.isle_core.specs.declared.types.BuiltinType.{BuiltinType}
use Rattle.isle_core.specs.declared.types.TypeDef.{TypeDef}
use Rattle.isle_core.specs.declared.types.TypeDef.TheVariants.{Builtin}
use Rattle.isle_core.specs.NamesApart.{IsPlainDef}
use Rattle.isle_ast.specs.Tree.{Def, TypeDecl, Decl, ExternConstructor, ExternExtractor, ExternConst, Extractor, Converter, Rule, Passed}
use Rattle.isle_ast.specs.declared.tree.AstBody.{AstBody}
use Rattle.isle_ast.specs.declared.tree.AstBody.TheVariants.{Primitive, Enum, Struct}
use Rattle.isle_declarations.specs.DeclaredTypes.{DeclaredType, types}
use Rattle.isle_declarations.specs.Symbols.{index_of, number_or}
use Rattle.isle_declarations.proofs.SymbolLaws.{index_stays, index_below}
use Rattle.isle_types.specs.Builtins.{builtins, builtin_names, type_id}
use Rattle.isle_types.specs.TypeEnvironment.{type_in, def_in, type_def_in}
use Rattle.isle_types.specs.TypeNames.{declared_names, type_names, declared_as, is_primitive, is_type, is_scalar}
use Rattle.isle_types.proofs.SymbolsApart.{nowhere}

-- ---- lists one after the other

index_behind : (xs ys : List (List ℕ)) (name : List ℕ) (m : ℕ) → index_of xs name ≡ None → index_of ys name ≡ Some m → index_of (xs ++ ys) name ≡ Some (length xs + m)
index_behind [] ys name m e f = f ∙ ap Some (omega arith)
index_behind (x ∷ xs) ys name m e f =
    let apart = nowhere (bytes_eq x name) (index_of xs name) e in
    ap (λ (b : Bool). cond b (Some 0) (option_map (λ (n : ℕ). n + 1) (index_of (xs ++ ys) name))) apart.0
    ∙ ap (option_map (λ (n : ℕ). n + 1)) (index_behind xs ys name m apart.1 f) ∙ ap Some (omega arith)

get_behind : {X : Type 0} (xs ys : List X) (m k : ℕ) → k ≡ length xs + m → slice_get (xs ++ ys) k ≡ slice_get ys m
get_behind [] ys m k e = ap (slice_get ys) (omega arith)
get_behind (x ∷ xs) ys m zero e = absurd (omega arith)
get_behind (x ∷ xs) ys m (suc k) e = get_behind xs ys m k (omega arith)

get_ahead : {X : Type 0} (P : X → Type 0) (xs ys : List X) (n : ℕ) → AllByRecursion P xs → n < length xs → (x : X) × (slice_get (xs ++ ys) n ≡ Some x) × P x
get_ahead P [] ys n h lt = absurd (omega arith)
get_ahead P (x ∷ xs) ys zero h lt = (x, refl, h.0)
get_ahead P (x ∷ xs) ys (suc n) h lt = get_ahead P xs ys n h.1 (omega arith)

-- what holds of each builtin type
pub all_builtins : (P : TypeDef → Type 0) → ((b : BuiltinType) → P (Builtin b)) → AllByRecursion P builtins
all_builtins P h = (h _, (h _, (h _, (h _, (h _, (h _, (h _, (h _, (h _, (h _, (h _, (h _, (h _, tt)))))))))))))

-- ---- declared types

-- the type that was declared first by a name has a place
record IsDeclared (all ds : List Def) (name : List ℕ) (body : AstBody) : Type 0 where
  place : ℕ
  what : TypeDef
  at : index_of (declared_names ds) name ≡ Some place
  stands : slice_get (filter_map (type_def_in all) ds) place ≡ Some what
  plain : is_primitive body ≡ true → IsPlainDef what

plainly : (all : List Def) (name : List ℕ) (is_extern is_nodebug : Bool) (body : AstBody) (pos : Pos) → is_primitive body ≡ true → IsPlainDef (def_in all name is_extern is_nodebug body pos)
plainly all name is_extern is_nodebug (Primitive rust) pos e = tt
plainly all name is_extern is_nodebug (Enum variants) pos e = cc
plainly all name is_extern is_nodebug (Struct fields) pos e = cc

first_of_name : (is : Bool) (name : List ℕ) (body found : AstBody) (more : Option DeclaredType) → option_map (λ (t : DeclaredType). t.body) (cond is (Some (record { name = name; body = body })) more) ≡ Some found
    → is ≡ true → body ≡ found
first_of_name true name body found more e f = cc
first_of_name false name body found more e f = absurd cc

first_or_later : (all ds : List Def) (other name : List ℕ) (is_extern is_nodebug : Bool) (body found : AstBody) (pos : Pos) (is : Bool) → bytes_eq other name ≡ is
    → option_map (λ (t : DeclaredType). t.body) (cond is (Some (record { name = other; body = body })) (find (λ (t : DeclaredType). bytes_eq t.name name) (types ds))) ≡ Some found
    → (declared_as ds name ≡ Some found → IsDeclared all ds name found) → IsDeclared all (TypeDecl other is_extern is_nodebug body pos ∷ ds) name found
first_or_later all ds other name is_extern is_nodebug body found pos true is e later =
    let same = first_of_name true other body found (find (λ (t : DeclaredType). bytes_eq t.name name) (types ds)) e refl in
    record {
      place = 0;
      what = def_in all other is_extern is_nodebug body pos;
      at = ap (λ (b : Bool). cond b (Some 0) (option_map (λ (n : ℕ). n + 1) (index_of (declared_names ds) name))) is;
      stands = refl;
      plain = λ p. plainly all other is_extern is_nodebug body pos (ap is_primitive same ∙ p);
    }
first_or_later all ds other name is_extern is_nodebug body found pos false is e later =
    let r = later e in
    record {
      place = suc r.place;
      what = r.what;
      at = ap (λ (b : Bool). cond b (Some 0) (option_map (λ (n : ℕ). n + 1) (index_of (declared_names ds) name))) is ∙ ap (option_map (λ (n : ℕ). n + 1)) r.at ∙ ap Some (omega arith);
      stands = r.stands;
      plain = r.plain;
    }

declared_at : (all ds : List Def) (name : List ℕ) (body : AstBody) → declared_as ds name ≡ Some body → IsDeclared all ds name body
declared_at all [] name body e = absurd cc
declared_at all (TypeDecl other is_extern is_nodebug own pos ∷ ds) name body e =
    first_or_later all ds other name is_extern is_nodebug own body pos (bytes_eq other name) refl e (λ k. declared_at all ds name body k)
declared_at all (Decl term pure multi partial recursive args ret pos ∷ ds) name body e = let r = declared_at all ds name body e in record { place = r.place; what = r.what; at = r.at; stands = r.stands; plain = r.plain }
declared_at all (ExternConstructor term func pos ∷ ds) name body e = let r = declared_at all ds name body e in record { place = r.place; what = r.what; at = r.at; stands = r.stands; plain = r.plain }
declared_at all (ExternExtractor term func infallible pos ∷ ds) name body e = let r = declared_at all ds name body e in record { place = r.place; what = r.what; at = r.at; stands = r.stands; plain = r.plain }
declared_at all (ExternConst other ty pos ∷ ds) name body e = let r = declared_at all ds name body e in record { place = r.place; what = r.what; at = r.at; stands = r.stands; plain = r.plain }
declared_at all (Extractor term params template pos ∷ ds) name body e = let r = declared_at all ds name body e in record { place = r.place; what = r.what; at = r.at; stands = r.stands; plain = r.plain }
declared_at all (Converter from to term pos ∷ ds) name body e = let r = declared_at all ds name body e in record { place = r.place; what = r.what; at = r.at; stands = r.stands; plain = r.plain }
declared_at all (Rule own prio term args iflets rhs pos ∷ ds) name body e = let r = declared_at all ds name body e in record { place = r.place; what = r.what; at = r.at; stands = r.stands; plain = r.plain }
declared_at all (Passed head pos ∷ ds) name body e = let r = declared_at all ds name body e in record { place = r.place; what = r.what; at = r.at; stands = r.stands; plain = r.plain }

-- ---- the type of a name

-- the types of definitions
abbrev pub all_types : List Def → List TypeDef
all_types defs = builtins ++ filter_map (type_def_in defs) defs

-- a type is there by this name, a builtin or primitive one if the name is of such a type
pub record IsFound (defs : List Def) (name : List ℕ) : Type 0 where
  pub what : TypeDef
  pub stands : slice_get (all_types defs) (type_in defs name).0 ≡ Some what
  pub plain : is_scalar defs name ≡ true → IsPlainDef what

found_builtin : (defs : List Def) (name : List ℕ) (n : ℕ) → index_of builtin_names name ≡ Some n → IsFound defs name
found_builtin defs name n e =
    let at : index_of (type_names defs) name ≡ Some n = index_stays builtin_names (declared_names defs) name n e in
    let there = get_ahead IsPlainDef builtins (filter_map (type_def_in defs) defs) n (all_builtins IsPlainDef (λ b. tt)) (index_below builtin_names name n e) in
    record { what = there.0; stands = ap (λ (o : Option ℕ). slice_get (all_types defs) (number_or o)) at ∙ there.1; plain = λ s. there.2 }

other_part : (a b : Bool) → a ≡ false → (a || b) ≡ true → b ≡ true
other_part true b e h = absurd cc
other_part false b e h = h

found_declared : (defs : List Def) (name : List ℕ) (body : AstBody) → index_of builtin_names name ≡ None → declared_as defs name ≡ Some body → IsFound defs name
found_declared defs name body absent is =
    let d = declared_at defs defs name body is in
    let at : index_of (type_names defs) name ≡ Some (13 + d.place) = index_behind builtin_names (declared_names defs) name d.place absent d.at in
    record {
      what = d.what;
      stands = ap (λ (o : Option ℕ). slice_get (all_types defs) (number_or o)) at ∙ get_behind builtins (filter_map (type_def_in defs) defs) d.place (13 + d.place) refl ∙ d.stands;
      plain = λ s. d.plain (sym (ap (λ (o : Option AstBody). option_map_or is_primitive o false) is)
          ∙ other_part (is_some (option_map type_id (index_of builtin_names name))) (option_map_or is_primitive (declared_as defs name) false) (ap (λ (o : Option ℕ). is_some (option_map type_id o)) absent) s);
    }

found_by : (defs : List Def) (name : List ℕ) (o : Option ℕ) (p : Option AstBody) → index_of builtin_names name ≡ o → declared_as defs name ≡ p → (is_some (option_map type_id o) || is_some p) ≡ true → IsFound defs name
found_by defs name (Some n) p at is e = found_builtin defs name n at
found_by defs name None (Some body) at is e = found_declared defs name body at is
found_by defs name None None at is e = absurd cc

-- the name of a type stands for one that is there
pub type_found : (defs : List Def) (name : List ℕ) → is_type defs name ≡ true → IsFound defs name
type_found defs name e = found_by defs name (index_of builtin_names name) (declared_as defs name) refl refl e

scalar_by : (a : Bool) (o : Option AstBody) → (a || option_map_or is_primitive o false) ≡ true → (a || is_some o) ≡ true
scalar_by true o e = refl
scalar_by false (Some body) e = refl
scalar_by false None e = absurd cc

-- so does that of a builtin or a primitive one
pub scalar_found : (defs : List Def) (name : List ℕ) → is_scalar defs name ≡ true → IsFound defs name
scalar_found defs name e = type_found defs name (scalar_by (is_some (option_map type_id (index_of builtin_names name))) (declared_as defs name) e)
