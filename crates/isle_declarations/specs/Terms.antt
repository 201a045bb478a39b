-- The terms of definitions: those that are declared, and those that types make.
use Rattle.std.specs.Prelude.{ℕ, ◌+◌, List, [], ◌∷◌, Bool, true, false, flat_map, option_to_list}
use Rattle.isle_core.specs.declared.position.Pos.{Pos}
use Rattle.isle_ast.specs.Tree.{Def, TypeDecl, Decl, ExternConstructor, ExternExtractor, ExternConst, Extractor, Converter, Rule, Passed}
use Rattle.isle_ast.specs.declared.tree.AstBody.{AstBody}
use Rattle.isle_ast.specs.declared.tree.AstBody.TheVariants.{Primitive, Enum, Struct}
use Rattle.isle_ast.specs.declared.tree.AstFields.{AstFields}
use Rattle.isle_ast.specs.declared.tree.AstVariant.{AstVariant}
use Rattle.isle_declarations.specs.declared.terms.Origin.{Origin}
use Rattle.isle_declarations.specs.declared.terms.Origin.TheVariants as origin
use Rattle.isle_declarations.specs.DeclaredTypes.{variant_term, field_types}
use Rattle.isle_declarations.specs.Signatures.{Signature, signature_of}

-- the term of this name that makes the type of these fields: it is pure and answers once
abbrev pub made_signature : (term ty : List ℕ) → AstFields → Origin → Pos → Signature
made_signature term ty fields from pos = record { term = term; pure = true; multi = false; partial = false; recursive = false; args = field_types fields; ret = ty; pos = pos; origin = from }

-- the terms that variants make, which are numbered from there on
abbrev pub variant_signatures : (ty : List ℕ) → Pos → ℕ → List AstVariant → List Signature
variant_signatures ty pos i [] = []
variant_signatures ty pos i (v ∷ vs) = made_signature (variant_term ty v.name) ty v.fields (origin.Variant i) pos ∷ variant_signatures ty pos (i + 1) vs

-- the terms that a type makes
abbrev pub body_signatures : (ty : List ℕ) → AstBody → Pos → List Signature
body_signatures ty (Primitive rust) pos = []
body_signatures ty (Enum variants) pos = variant_signatures ty pos 0 variants
body_signatures ty (Struct fields) pos = made_signature ty ty fields origin.Struct pos ∷ []

-- the terms that a definition gives
abbrev pub terms_by : Def → List Signature
terms_by (TypeDecl name is_extern is_nodebug body pos) = body_signatures name body pos
terms_by (Decl term pure multi partial recursive args ret pos) = option_to_list (signature_of (Decl term pure multi partial recursive args ret pos))
terms_by (ExternConstructor term func pos) = []
terms_by (ExternExtractor term func infallible pos) = []
terms_by (ExternConst name ty pos) = []
terms_by (Extractor term params template pos) = []
terms_by (Converter from to term pos) = []
terms_by (Rule name prio term args iflets rhs pos) = []
terms_by (Passed head pos) = []

-- the terms, by their numbers
abbrev pub terms : List Def → List Signature
terms = flat_map terms_by

-- a term that a type makes
abbrev pub is_made : Origin → Bool
is_made origin.Declared = false
is_made (origin.Variant number) = true
is_made origin.Struct = true
