-- Types that are declared without a fault are sound: names of variants are apart, and so are fields, which are few and of types that are there.
use Rattle.std.proofs.Common.{◌≡◌, ℕ, Bool, false, List, [], ◌∷◌, ◌++◌, map, Option, Some, None, refl, sym, subst}
use Rattle.std.specs.Prelude.{◌||◌, IfSome, filter_map, flat_map, not}
use Rattle.std.specs.List.{AllByRecursion, IsDistinct, cons_option, list_any}
use Rattle.std.specs.Str.{bytes_eq}
use Rattle.std.proofs.lemmas.Bool.{or_parts}
use Rattle.isle_core.specs.declared.position.Pos.{Pos}
use Rattle.isle_core.specs.declared.types.TypeDef.{TypeDef}
use Rattle.isle_core.specs.declared.types.TypeDef.TheVariants as def
use Rattle.isle_core.specs.declared.types.TypeEnv.{TypeEnv}
use Rattle.isle_core.specs.declared.types.Variant.{Variant}
use Rattle.isle_core.specs.Rule.{Environment}
use Rattle.isle_core.specs.Terms.{sym_text}
use Rattle.isle_core.proofs.AllLaws.{all_append}
use Rattle.isle_ast.specs.Tree.{Def, TypeDecl, Decl, ExternConstructor, ExternExtractor, ExternConst, Extractor, Converter, Rule, Passed}
use Rattle.isle_ast.specs.declared.tree.AstBody.{AstBody}
use Rattle.isle_ast.specs.declared.tree.AstBody.TheVariants.{Primitive, Enum, Struct}
use Rattle.isle_ast.specs.declared.tree.AstFields.{AstFields}
use Rattle.isle_ast.specs.declared.tree.AstVariant.{AstVariant}
use Rattle.isle_declarations.specs.Names.{body_names, def_names, shaped_names}
use Rattle.isle_declarations.specs.Symbols.{symbols}
use Rattle.isle_declarations.proofs.DistinctNames.{distinct_names}
use Rattle.isle_types.specs.Bodies.{any_fields, variants_repeat, fields_repeat, field_types, are_many, variant_names}
use Rattle.isle_types.specs.Builtins.{builtins}
use Rattle.isle_types.specs.Fault.{type_fault}
use Rattle.isle_types.specs.TypeEnvironment.{def_in, type_def_in, type_env_of, variant_in}
use Rattle.isle_types.specs.TypeNames.{is_type}
use Rattle.isle_types.proofs.SymbolsApart.{Stands, AllStand, all_parts, names_stand}
use Rattle.isle_types.proofs.SoundFields.{AreSoundFields, sound_fields, text_in}
use Rattle.isle_types.proofs.SoundRows.{IsUnbroken, all_unbroken}
use Rattle.isle_types.proofs.TypePlaces.{all_builtins}

-- ---- sound types

-- variants' names are apart, and all fields are sound
abbrev pub IsSoundDef : Environment → TypeDef → Type 0
IsSoundDef env (def.Enum name is_extern is_nodebug variants pos) = IsDistinct bytes_eq (map (λ (v : Variant). sym_text env v.name) variants) × AllByRecursion (λ (v : Variant). AreSoundFields env v.fields) variants
IsSoundDef env (def.Struct name is_extern is_nodebug fields pos) = AreSoundFields env fields
IsSoundDef env (def.Builtin ty) = Unit {0}
IsSoundDef env (def.Primitive name rust pos) = Unit {0}

variant_texts : (defs : List Def) (env : Environment) (variants : List AstVariant) → env.types ≡ type_env_of defs → AllStand (symbols defs) (flat_map shaped_names variants)
    → map (λ (v : Variant). sym_text env v.name) (map (variant_in defs) variants) ≡ variant_names variants
variant_texts defs env variants is h = by variants (all_parts (Stands (symbols defs)) shaped_names variants h)
  where
    by : (vs : List AstVariant) → AllByRecursion (λ (v : AstVariant). AllStand (symbols defs) (shaped_names v)) vs → map (λ (v : Variant). sym_text env v.name) (map (variant_in defs) vs) ≡ variant_names vs
    by [] k = refl
    by (v ∷ vs) k = rw (text_in defs env v.name is k.0.0, by vs k.1) refl

variants_sound : (defs : List Def) (env : Environment) (vs : List AstVariant) → env.types ≡ type_env_of defs → list_any (λ (v : AstVariant). fields_repeat v.fields) vs ≡ false
    → list_any (λ (v : AstVariant). list_any (λ (name : List ℕ). not (is_type defs name)) (field_types v.fields)) vs ≡ false → list_any (λ (v : AstVariant). are_many v.fields) vs ≡ false
    → AllByRecursion (λ (v : AstVariant). AllStand (symbols defs) (shaped_names v)) vs → AllByRecursion (λ (v : Variant). AreSoundFields env v.fields) (map (variant_in defs) vs)
variants_sound defs env [] is a b c h = tt
variants_sound defs env (v ∷ vs) is a b c h =
    let missing : AstFields → Bool = λ fs. list_any (λ (name : List ℕ). not (is_type defs name)) (field_types fs) in
    let p = or_parts (fields_repeat v.fields) (list_any (λ (w : AstVariant). fields_repeat w.fields) vs) a in
    let q = or_parts (missing v.fields) (list_any (λ (w : AstVariant). missing w.fields) vs) b in
    let r = or_parts (are_many v.fields) (list_any (λ (w : AstVariant). are_many w.fields) vs) c in
    (sound_fields defs env v.fields is p.0 q.0 r.0 h.0.1, variants_sound defs env vs is p.1 q.1 r.1 h.1)

body_sound : (defs : List Def) (env : Environment) (name : List ℕ) (is_extern is_nodebug : Bool) (body : AstBody) (pos : Pos) → env.types ≡ type_env_of defs → (variants_repeat body || any_fields fields_repeat body) ≡ false
    → any_fields (λ (fs : AstFields). list_any (λ (n : List ℕ). not (is_type defs n)) (field_types fs)) body ≡ false → any_fields are_many body ≡ false → AllStand (symbols defs) (body_names body)
    → IsSoundDef env (def_in defs name is_extern is_nodebug body pos)
body_sound defs env name is_extern is_nodebug (Primitive rust) pos is a b c h = tt
body_sound defs env name is_extern is_nodebug (Enum variants) pos is a b c h =
    let p = or_parts (variants_repeat (Enum variants)) (any_fields fields_repeat (Enum variants)) a in
    (subst (IsDistinct bytes_eq) (sym (variant_texts defs env variants is h)) (distinct_names (variant_names variants) p.0), variants_sound defs env variants is p.1 b c (all_parts (Stands (symbols defs)) shaped_names variants h))
body_sound defs env name is_extern is_nodebug (Struct fields) pos is a b c h = sound_fields defs env fields is a b c h

def_sound : (defs : List Def) (env : Environment) (d : Def) → env.types ≡ type_env_of defs → IsUnbroken defs d → AllStand (symbols defs) (def_names d) → IfSome (type_def_in defs d) (IsSoundDef env)
def_sound defs env (TypeDecl name is_extern is_nodebug body pos) is u h = body_sound defs env name is_extern is_nodebug body pos is u.apart u.declared u.few h.1
def_sound defs env (Decl term pure multi partial recursive args ret pos) is u h = tt
def_sound defs env (ExternConstructor term func pos) is u h = tt
def_sound defs env (ExternExtractor term func infallible pos) is u h = tt
def_sound defs env (ExternConst name ty pos) is u h = tt
def_sound defs env (Extractor term params template pos) is u h = tt
def_sound defs env (Converter from to term pos) is u h = tt
def_sound defs env (Rule name prio term args iflets rhs pos) is u h = tt
def_sound defs env (Passed head pos) is u h = tt

some_more : {Y : Type 0} (P : Y → Type 0) (o : Option Y) (ys : List Y) → IfSome o P → AllByRecursion P ys → AllByRecursion P (cons_option o ys)
some_more P None ys h k = k
some_more P (Some y) ys h k = (h, k)

-- what holds of what some are
pub all_some : {X Y : Type 0} (P : Y → Type 0) (f : X → Option Y) (xs : List X) → AllByRecursion (λ (x : X). IfSome (f x) P) xs → AllByRecursion P (filter_map f xs)
all_some P f [] h = tt
all_some P f (x ∷ xs) h = some_more P (f x) (filter_map f xs) h.0 (all_some P f xs h.1)

each_sound : (defs : List Def) (env : Environment) (ds : List Def) → env.types ≡ type_env_of defs → AllByRecursion (IsUnbroken defs) ds → AllByRecursion (λ (d : Def). AllStand (symbols defs) (def_names d)) ds
    → AllByRecursion (λ (d : Def). IfSome (type_def_in defs d) (IsSoundDef env)) ds
each_sound defs env [] is u h = tt
each_sound defs env (d ∷ ds) is u h = (def_sound defs env d is u.0 h.0, each_sound defs env ds is u.1 h.1)

-- the types of definitions without a fault are sound
pub all_sound : (defs : List Def) (env : Environment) → env.types ≡ type_env_of defs → type_fault defs ≡ None → AllByRecursion (IsSoundDef env) env.types.types
all_sound defs env is none =
    subst (λ (types : TypeEnv). AllByRecursion (IsSoundDef env) types.types) (sym is)
    (all_append (IsSoundDef env) builtins (filter_map (type_def_in defs) defs) (all_builtins (IsSoundDef env) (λ b. tt)) (all_some (IsSoundDef env) (type_def_in defs) defs (each_sound defs env defs is (all_unbroken defs none) (names_stand defs))))
