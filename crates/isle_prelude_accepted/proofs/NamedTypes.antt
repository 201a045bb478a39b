-- The names of simple definitions' types, variants and fields may be emitted.
use Rattle.std.proofs.Common.{◌≡◌, inl, inr, ℕ, List, [], ◌∷◌, ◌++◌, map, Bool, true, false, None, refl, sym, ap, ap₂, ◌∙◌, subst}
use Rattle.std.specs.Prelude.{filter_map, flat_map, ◌&&◌}
use Rattle.std.specs.List.{AllByRecursion, IsDistinct, cons_option}
use Rattle.std.specs.Str.{bytes_eq}
use Rattle.std.proofs.lemmas.List.{map-append}
use Rattle.isle_core.proofs.AllLaws.{all_append}
use Rattle.isle_core.specs.declared.position.Pos.{Pos}
use Rattle.isle_core.specs.declared.types.BuiltinType.{BuiltinType}
use Rattle.isle_core.specs.declared.types.BuiltinType.TheVariants as builtin
use Rattle.isle_core.specs.declared.types.IntType.TheVariants.{U8, U16, U32, U64, U128, USize, I8, I16, I32, I64, I128, ISize}
use Rattle.isle_core.specs.declared.types.TypeDef.TheVariants as def
use Rattle.isle_core.specs.declared.types.TypeEnv.{TypeEnv}
use Rattle.isle_core.specs.Terms.{symbol_text}
use Rattle.isle_ast.specs.Tree.{Def, TypeDecl, Decl, ExternConstructor, ExternExtractor, ExternConst, Extractor, Converter, Rule, Passed}
use Rattle.isle_ast.specs.declared.tree.AstBody.{AstBody}
use Rattle.isle_ast.specs.declared.tree.AstBody.TheVariants.{Primitive, Enum, Struct}
use Rattle.isle_ast.specs.declared.tree.AstFields.{AstFields}
use Rattle.isle_ast.specs.declared.tree.AstFields.TheVariants.{Unit as NoFields, Named, Tuple}
use Rattle.isle_ast.specs.declared.tree.AstVariant.{AstVariant}
use Rattle.isle_declarations.specs.DeclaredTypes.{constant_of, constants}
use Rattle.isle_declarations.specs.Names.{shape_names, shaped_names}
use Rattle.isle_declarations.specs.Symbols.{symbols}
use Rattle.isle_lawful_names.specs.LawfulNames.{IsTypeName, IsFieldNamed, AreFieldsNamed, IsVariantNamed, IsLawfulType, IsLawfulConstant, IsNoType, AreLawful}
use Rattle.isle_lawful_names.specs.LawfulNames.{emitted_name, emitted_names}
use Rattle.isle_sample.proofs.NamedTypes.{builtins_lawful}
use Rattle.isle_spelling.specs.Identifier.{IsIdentifier}
use Rattle.isle_types.specs.Bodies.{field_names}
use Rattle.isle_types.specs.Builtins.{builtins, builtin_names}
use Rattle.isle_types.specs.TypeEnvironment.{sym_in, field_in, fields_in, variant_in, def_in, type_def_in, constant_in, type_env_of}
use Rattle.isle_types.specs.TypeNames.{declared_names, type_names}
use Rattle.isle_writing.specs.Erased.{all_erased}
use Rattle.isle_prelude_accepted.proofs.Has.{Has, AreApart, has_front, has_back, apart_distinct}
use Rattle.isle_prelude_accepted.proofs.AtPlaces.{type_names_same}
use Rattle.isle_prelude_accepted.proofs.Callees.{sound_in}
use Rattle.isle_prelude_accepted.proofs.Simple.{AreSimple, IsSound, IsSoundVariant}
use Rattle.isle_prelude_accepted.proofs.Symbols.{is_symbol, text_is}

-- ---- a type's name

generic_or : (b c : Bool) → (true && c) ≡ false → (b && c) ≡ false
generic_or true c e = e
generic_or false c e = refl

-- a name that may be that of a type where terms have rules may be one always
any_name : (b : Bool) (text : List ℕ) → IsTypeName true text → IsTypeName b text
any_name b text h = record { name = h.name; free = h.free; generic = generic_or b _ h.generic }

-- ---- builtin types

-- a type environment of the builtin types alone
abbrev only_builtins : TypeEnv
only_builtins = record { syms = []; types = builtins; consts = [] }

-- what they are, in order
abbrev kinds : List BuiltinType
kinds =
    builtin.Bool ∷ builtin.Int U8 ∷ builtin.Int U16 ∷ builtin.Int U32 ∷ builtin.Int U64 ∷ builtin.Int U128 ∷ builtin.Int USize
    ∷ builtin.Int I8 ∷ builtin.Int I16 ∷ builtin.Int I32 ∷ builtin.Int I64 ∷ builtin.Int I128 ∷ builtin.Int ISize ∷ []

-- ---- declared types

module _ (defs : List Def) (h : AreSimple (all_erased defs)) where
  -- the types of definitions
  abbrev env_types : TypeEnv
  env_types = type_env_of defs

  -- these names are symbols
  abbrev AreSymbols : List (List ℕ) → Type 0
  AreSymbols names = (name : List ℕ) → Has names name → Has (symbols defs) name

  named_fields : (named : List (List ℕ × List ℕ)) → AllByRecursion IsIdentifier (map (λ (f : List ℕ × List ℕ). f.0) named)
      → AreSymbols (flat_map (λ (f : List ℕ × List ℕ). f.0 ∷ f.1 ∷ []) named) → AllByRecursion (IsFieldNamed env_types) (map (field_in defs) named)
  named_fields [] k syms = tt
  named_fields (f ∷ named) k syms =
      (subst IsIdentifier (sym (text_is defs f.0 (syms f.0 (inl refl)))) k.0, named_fields named k.1 (λ name i. syms name (inr (inr i))))

  fields_named : (fields : AstFields) → AllByRecursion IsIdentifier (field_names fields) → AreSymbols (shape_names fields)
      → AreFieldsNamed env_types (fields_in defs fields)
  fields_named NoFields k syms = tt
  fields_named (Named named) k syms = named_fields named k syms
  fields_named (Tuple tys) k syms = tt

  variants_named : (vs : List AstVariant) → AllByRecursion (IsSoundVariant (all_erased defs)) vs → AreSymbols (flat_map shaped_names vs)
      → AllByRecursion (IsVariantNamed env_types) (map (variant_in defs) vs)
  variants_named [] k syms = tt
  variants_named (v ∷ vs) k syms =
      let rest = flat_map shaped_names vs in (
        (
          subst IsIdentifier (sym (text_is defs v.name (syms v.name (inl refl)))) k.0.named,
          fields_named v.fields k.0.fields (λ name i. syms name (has_front (shaped_names v) rest name (inr i))),
        ),
        variants_named vs k.1 (λ name i. syms name (has_back (shaped_names v) rest name i)),
      )

  type_lawful : (b : Bool) (name : List ℕ) (x n : Bool) (body : AstBody) (at : Pos) → Has defs (TypeDecl name x n body at)
      → IsLawfulType b env_types (def_in defs name x n body at) × (emitted_name env_types (def_in defs name x n body at) ≡ name)
  type_lawful b name x n (Primitive rust) at i =
      let s : IsSound (all_erased defs) (TypeDecl name x n (Primitive rust) at) = sound_in defs h (TypeDecl name x n (Primitive rust) at) i in
      let is : symbol_text env_types (sym_in defs rust) ≡ name =
      text_is defs rust (is_symbol defs (TypeDecl name x n (Primitive rust) at) rust i (inr (inl refl))) ∙ s.1 in
      (record { name = subst (IsTypeName b) (sym is) (any_name b name s.0); parts = tt }, is)
  type_lawful b name x n (Enum vs) at i =
      let s : IsSound (all_erased defs) (TypeDecl name x n (Enum vs) at) = sound_in defs h (TypeDecl name x n (Enum vs) at) i in
      let is : symbol_text env_types (sym_in defs name) ≡ name = text_is defs name (is_symbol defs (TypeDecl name x n (Enum vs) at) name i (inl refl)) in (
        record {
          name = subst (IsTypeName b) (sym is) (any_name b name s.0);
          parts = variants_named vs s.1.0 (λ y j. is_symbol defs (TypeDecl name x n (Enum vs) at) y i (inr j));
        },
        is,
      )
  type_lawful b name x n (Struct fields) at i =
      absurd (let s : IsSound (all_erased defs) (TypeDecl name x n (Struct fields) at) = sound_in defs h (TypeDecl name x n (Struct fields) at) i in s.1)

  types_lawful : (b : Bool) (ds : List Def) → ((d : Def) → Has ds d → Has defs d)
      → AllByRecursion (IsLawfulType b env_types) (filter_map (type_def_in defs) ds) × (map (emitted_name env_types) (filter_map (type_def_in defs) ds) ≡ declared_names ds)
  types_lawful b [] all = (tt, refl)
  types_lawful b (TypeDecl name x n body at ∷ ds) all =
      let one = type_lawful b name x n body at (all (TypeDecl name x n body at) (inl refl)) in
      let rest = types_lawful b ds (λ d i. all d (inr i)) in
      ((one.0, rest.0), ap₂ (λ y ys. y ∷ ys) one.1 rest.1)
  types_lawful b (Decl term pure multi partial recursive args ret at ∷ ds) all = types_lawful b ds (λ d i. all d (inr i))
  types_lawful b (ExternConstructor term func at ∷ ds) all = types_lawful b ds (λ d i. all d (inr i))
  types_lawful b (ExternExtractor term func infallible at ∷ ds) all = types_lawful b ds (λ d i. all d (inr i))
  types_lawful b (ExternConst name ty at ∷ ds) all = types_lawful b ds (λ d i. all d (inr i))
  types_lawful b (Extractor term params template at ∷ ds) all = types_lawful b ds (λ d i. all d (inr i))
  types_lawful b (Converter from to term at ∷ ds) all = types_lawful b ds (λ d i. all d (inr i))
  types_lawful b (Rule name prio term args iflets rhs at ∷ ds) all = types_lawful b ds (λ d i. all d (inr i))
  types_lawful b (Passed head at ∷ ds) all = types_lawful b ds (λ d i. all d (inr i))

  no_constants : (ds : List Def) → ((d : Def) → Has ds d → Has defs d) → constants ds ≡ []
  no_constants [] all = refl
  no_constants (d ∷ ds) all = ap₂ cons_option (none d (all d (inl refl))) (no_constants ds (λ x i. all x (inr i)))
    where
      none : (x : Def) → Has defs x → constant_of x ≡ None
      none (ExternConst name ty at) i = absurd (sound_in defs h (ExternConst name ty at) i)
      none (Converter from to term at) i = refl
      none (TypeDecl name x n body at) i = refl
      none (Decl term pure multi partial recursive args ret at) i = refl
      none (ExternConstructor term func at) i = refl
      none (ExternExtractor term func infallible at) i = refl
      none (Extractor term params template at) i = refl
      none (Rule name prio term args iflets rhs at) i = refl
      none (Passed head at) i = refl

  one_builtin : (b : Bool) (k : BuiltinType) → IsLawfulType b only_builtins (def.Builtin k) → IsLawfulType b env_types (def.Builtin k)
  one_builtin b builtin.Bool l = record { name = l.name; parts = tt }
  one_builtin b (builtin.Int ty) l = record { name = l.name; parts = tt }

  builtin_types : (b : Bool) (ks : List BuiltinType) → AllByRecursion (IsLawfulType b only_builtins) (map def.Builtin ks)
      → AllByRecursion (IsLawfulType b env_types) (map def.Builtin ks)
  builtin_types b [] l = tt
  builtin_types b (k ∷ ks) l = (one_builtin b k l.0, builtin_types b ks l.1)

  -- the names of types, variants and fields may be emitted, whether or not a term has rules
  pub types_named : (b : Bool) → AreLawful b env_types
  types_named b =
      let declared = types_lawful b defs (λ d i. i) in
      let none : env_types.consts ≡ [] = ap (map (constant_in defs)) (no_constants defs (λ d i. i)) in
      let texts : emitted_names env_types env_types.types ≡ type_names defs =
      map-append (emitted_name env_types) builtins (filter_map (type_def_in defs) defs) ∙ ap (λ names. builtin_names ++ names) declared.1 in
      record {
        types =
            all_append (IsLawfulType b env_types) builtins (filter_map (type_def_in defs) defs)
            (builtin_types b kinds (builtins_lawful b only_builtins refl refl).types) declared.0;
        constants = subst (AllByRecursion (IsLawfulConstant env_types)) (sym none) tt;
        apart = record {
          types = subst (IsDistinct bytes_eq) (sym texts) (apart_distinct (type_names defs) (subst AreApart (type_names_same defs) h.types));
          constants = subst (AllByRecursion (IsNoType env_types)) (sym none) tt;
        };
      }
