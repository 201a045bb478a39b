-- What definitions declare doesn't hang on their places.
use Rattle.std.proofs.Common.{◌≡◌, ℕ, List, [], ◌∷◌, ◌++◌, map, Option, Some, None, refl, sym, ap, ap₂, ◌∙◌, subst}
use Rattle.std.specs.Prelude.{filter_map, option_map}
use Rattle.std.specs.List.{cons_option}
use Rattle.isle_core.specs.declared.position.Pos.{Pos}
use Rattle.isle_ast.specs.Positions.{place_of}
use Rattle.isle_ast.specs.Tree.{Def, TypeDecl, Decl, ExternConstructor, ExternExtractor, ExternConst, Extractor, Converter, Rule, Passed}
use Rattle.isle_declarations.specs.DeclaredTypes.{DeclaredType, type_of, types, made_or_none, made_terms}
use Rattle.isle_declarations.specs.Heads.{terms_of, extractor_terms, heads_of}
use Rattle.isle_declarations.specs.Signatures.{Signature, ExtractorDef, RuleDef, signature_of, extern_of, extractor_of, rule_of, signatures, externs}
use Rattle.isle_declarations.specs.Signatures.{extractors, rule_defs}
use Rattle.isle_types.specs.Builtins.{builtin_names}
use Rattle.isle_types.specs.TypeNames.{type_names}
use Rattle.isle_writing.specs.Erased.{placed, erased, all_erased}
use Rattle.isle_prelude_accepted.proofs.Has.{Has, has_mapped}

-- ---- a definition at its place

-- a definition is what is left of it without its place, at its place
pub placed_again : (d : Def) → placed (place_of d) (erased d) ≡ d
placed_again (TypeDecl name is_extern is_nodebug body at) = refl
placed_again (Decl term pure multi partial recursive args ret at) = refl
placed_again (ExternConstructor term func at) = refl
placed_again (ExternExtractor term func infallible at) = refl
placed_again (ExternConst name ty at) = refl
placed_again (Extractor term params template at) = refl
placed_again (Converter from to term at) = refl
placed_again (Rule name prio term args iflets rhs at) = refl
placed_again (Passed head at) = refl

-- what stands among definitions without their places stands among them at some place
pub at_some_place : (defs : List Def) (e : Def) → Has (all_erased defs) e → (pos : Pos) × Has defs (placed pos e)
at_some_place defs e h =
    let r = has_mapped erased defs e h in
    (place_of r.0, subst (Has defs) (sym (placed_again r.0) ∙ ap (placed (place_of r.0)) r.2) r.1)

-- ---- what is declared

-- a part of definitions that doesn't hang on places
same_found : {X Y : Type 0} (f : Def → Option X) (g : X → Y) → ((d : Def) → option_map g (f (erased d)) ≡ option_map g (f d)) → (ds : List Def)
    → map g (filter_map f (all_erased ds)) ≡ map g (filter_map f ds)
same_found f g same [] = refl
same_found {X} {Y} f g same (d ∷ ds) = by (f (erased d)) (f d) (same d) (same_found f g same ds)
  where
    by : (o p : Option X) → option_map g o ≡ option_map g p → map g (filter_map f (all_erased ds)) ≡ map g (filter_map f ds)
        → map g (cons_option o (filter_map f (all_erased ds))) ≡ map g (cons_option p (filter_map f ds))
    by None None e k = k
    by None (Some x) e k = absurd cc
    by (Some x) None e k = absurd cc
    by (Some x) (Some y) e k = ap₂ (λ a b. a ∷ b) (let s : Some (g x) ≡ Some (g y) = e in cc) k

same_all : {X : Type 0} (f : Def → Option X) → ((d : Def) → f (erased d) ≡ f d) → (ds : List Def) → filter_map f (all_erased ds) ≡ filter_map f ds
same_all f same [] = refl
same_all f same (d ∷ ds) = ap₂ cons_option (same d) (same_all f same ds)

type_same : (d : Def) → type_of (erased d) ≡ type_of d
type_same (TypeDecl name is_extern is_nodebug body at) = refl
type_same (Decl term pure multi partial recursive args ret at) = refl
type_same (ExternConstructor term func at) = refl
type_same (ExternExtractor term func infallible at) = refl
type_same (ExternConst name ty at) = refl
type_same (Extractor term params template at) = refl
type_same (Converter from to term at) = refl
type_same (Rule name prio term args iflets rhs at) = refl
type_same (Passed head at) = refl

extern_same : (d : Def) → extern_of (erased d) ≡ extern_of d
extern_same (TypeDecl name is_extern is_nodebug body at) = refl
extern_same (Decl term pure multi partial recursive args ret at) = refl
extern_same (ExternConstructor term func at) = refl
extern_same (ExternExtractor term func infallible at) = refl
extern_same (ExternConst name ty at) = refl
extern_same (Extractor term params template at) = refl
extern_same (Converter from to term at) = refl
extern_same (Rule name prio term args iflets rhs at) = refl
extern_same (Passed head at) = refl

signature_same : (d : Def) → option_map (λ (s : Signature). s.term) (signature_of (erased d)) ≡ option_map (λ (s : Signature). s.term) (signature_of d)
signature_same (TypeDecl name is_extern is_nodebug body at) = refl
signature_same (Decl term pure multi partial recursive args ret at) = refl
signature_same (ExternConstructor term func at) = refl
signature_same (ExternExtractor term func infallible at) = refl
signature_same (ExternConst name ty at) = refl
signature_same (Extractor term params template at) = refl
signature_same (Converter from to term at) = refl
signature_same (Rule name prio term args iflets rhs at) = refl
signature_same (Passed head at) = refl

-- the name of an extractor's term, with how it takes values apart
abbrev pub extractor_key : ExtractorDef → List ℕ
extractor_key x = x.term

extractor_same : (d : Def) → option_map extractor_key (extractor_of (erased d)) ≡ option_map extractor_key (extractor_of d)
extractor_same (TypeDecl name is_extern is_nodebug body at) = refl
extractor_same (Decl term pure multi partial recursive args ret at) = refl
extractor_same (ExternConstructor term func at) = refl
extractor_same (ExternExtractor term func infallible at) = refl
extractor_same (ExternConst name ty at) = refl
extractor_same (Extractor term params template at) = refl
extractor_same (Converter from to term at) = refl
extractor_same (Rule name prio term args iflets rhs at) = refl
extractor_same (Passed head at) = refl

head_same : (d : Def) → option_map (λ (r : RuleDef). r.term) (rule_of (erased d)) ≡ option_map (λ (r : RuleDef). r.term) (rule_of d)
head_same (TypeDecl name is_extern is_nodebug body at) = refl
head_same (Decl term pure multi partial recursive args ret at) = refl
head_same (ExternConstructor term func at) = refl
head_same (ExternExtractor term func infallible at) = refl
head_same (ExternConst name ty at) = refl
head_same (Extractor term params template at) = refl
head_same (Converter from to term at) = refl
head_same (Rule name prio term args iflets rhs at) = refl
head_same (Passed head at) = refl

-- ---- all of it

pub types_same : (ds : List Def) → types (all_erased ds) ≡ types ds
types_same ds = same_all type_of type_same ds

pub type_names_same : (ds : List Def) → type_names (all_erased ds) ≡ type_names ds
type_names_same ds = ap (λ (ts : List DeclaredType). builtin_names ++ map (λ (t : DeclaredType). t.name) ts) (types_same ds)

pub externs_same : (ds : List Def) → externs (all_erased ds) ≡ externs ds
externs_same ds = same_all extern_of extern_same ds

pub made_same : (ds : List Def) → made_terms (all_erased ds) ≡ made_terms ds
made_same [] = refl
made_same (d ∷ ds) = ap₂ (λ o ms. made_or_none o ++ ms) (type_same d) (made_same ds)

pub declared_same : (ds : List Def) → terms_of (signatures (all_erased ds)) ≡ terms_of (signatures ds)
declared_same ds = same_found signature_of (λ (s : Signature). s.term) signature_same ds

pub taken_same : (ds : List Def) → extractor_terms (extractors (all_erased ds)) ≡ extractor_terms (extractors ds)
taken_same ds = same_found extractor_of extractor_key extractor_same ds

pub heads_same : (ds : List Def) → heads_of (rule_defs (all_erased ds)) ≡ heads_of (rule_defs ds)
heads_same ds = same_found rule_of (λ (r : RuleDef). r.term) head_same ds
