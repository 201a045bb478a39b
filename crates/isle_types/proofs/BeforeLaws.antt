-- What definitions declare, with one more.
use Rattle.std.proofs.Common.{◌≡◌, ℕ, Bool, true, false, cond, List, [], ◌∷◌, ◌++◌, map, Option, Some, None, Result, Ok, Err, refl, sym, ap, ◌∙◌, subst}
use Rattle.std.specs.Prelude.{filter_map, is_some, not, ◌||◌, IfOk}
use Rattle.std.specs.List.{cons_option, list_any}
use Rattle.std.proofs.lemmas.List.{append-nil, append_assoc}
use Rattle.isle_core.specs.declared.position.Pos.{Pos}
use Rattle.isle_ast.specs.Tree.{Def, TypeDecl, Decl, ExternConstructor, ExternExtractor, ExternConst, Extractor, Converter, Rule, Passed}
use Rattle.isle_ast.specs.declared.tree.AstBody.{AstBody}
use Rattle.isle_ast.specs.declared.tree.AstFields.{AstFields}
use Rattle.isle_declarations.specs.Symbols.{index_of, added}
use Rattle.isle_declarations.specs.Repeats.{repeats_after}
use Rattle.isle_types.specs.declared.before.Before.{Before}
use Rattle.isle_types.specs.declared.known_types.KnownTypes.{KnownTypes}
use Rattle.isle_types.specs.declared.misfit.Misfit.{Misfit}
use Rattle.isle_types.specs.declared.row.Row.TheVariants as row
use Rattle.isle_types.specs.Builtins.{builtin_names}
use Rattle.isle_declarations.specs.DeclaredTypes.{DeclaredType, Constant, type_of, constant_of, types, constants, made_by, made_or_none, made_of, made_terms}
use Rattle.isle_types.specs.Bodies.{any_fields, variants_repeat, fields_repeat, field_types, are_many}
use Rattle.isle_types.specs.TypeNames.{type_names, is_type, is_scalar}
use Rattle.isle_types.specs.Gathered.{AreKnown, IsBefore, IsJudged, body_row}

-- ---- what a definition is

pub is_type_decl : (d : Def) (t : DeclaredType) → Some t ≡ type_of d → (is_extern is_nodebug : Bool) × (pos : Pos) × (d ≡ TypeDecl t.name is_extern is_nodebug t.body pos)
is_type_decl (TypeDecl name is_extern is_nodebug body pos) t e =
    let same : t ≡ record { name = name; body = body } = cc in
    (is_extern, is_nodebug, pos, ap (λ (u : DeclaredType). TypeDecl u.name is_extern is_nodebug u.body pos) (sym same))
is_type_decl (Decl term pure multi partial recursive args ret pos) t e = absurd cc
is_type_decl (ExternConstructor term func pos) t e = absurd cc
is_type_decl (ExternExtractor term func infallible pos) t e = absurd cc
is_type_decl (ExternConst name ty pos) t e = absurd cc
is_type_decl (Extractor term params template pos) t e = absurd cc
is_type_decl (Converter from to term pos) t e = absurd cc
is_type_decl (Rule name prio term args iflets rhs pos) t e = absurd cc
is_type_decl (Passed head pos) t e = absurd cc

pub is_const : (d : Def) (c : Constant) → Some c ≡ constant_of d → (pos : Pos) × (d ≡ ExternConst c.name c.ty pos)
is_const (ExternConst name ty pos) c e =
    let same : c ≡ record { name = name; ty = ty } = cc in
    (pos, ap (λ (u : Constant). ExternConst u.name u.ty pos) (sym same))
is_const (TypeDecl name is_extern is_nodebug body pos) c e = absurd cc
is_const (Decl term pure multi partial recursive args ret pos) c e = absurd cc
is_const (ExternConstructor term func pos) c e = absurd cc
is_const (ExternExtractor term func infallible pos) c e = absurd cc
is_const (Extractor term params template pos) c e = absurd cc
is_const (Converter from to term pos) c e = absurd cc
is_const (Rule name prio term args iflets rhs pos) c e = absurd cc
is_const (Passed head pos) c e = absurd cc

-- ---- lists with one more

grown_by : {A B : Type 0} (g : A → B) (o : Option A) (xs ys : List A) (zs : List B) → map g ys ≡ map g xs ++ zs → map g (cons_option o ys) ≡ map g (cons_option o xs) ++ zs
grown_by g None xs ys zs h = h
grown_by g (Some a) xs ys zs h = ap (λ more. g a ∷ more) h

-- what definitions are, with one more
pub grown : {A B : Type 0} (f : Def → Option A) (g : A → B) (ds : List Def) (d : Def) → map g (filter_map f (ds ++ d ∷ [])) ≡ map g (filter_map f ds) ++ map g (cons_option (f d) [])
grown f g [] d = refl
grown f g (x ∷ ds) d = grown_by g (f x) (filter_map f ds) (filter_map f (ds ++ d ∷ [])) (map g (cons_option (f d) [])) (grown f g ds d)

-- the terms that types make
pub made_more : (ds : List Def) (d : Def) → made_terms (ds ++ d ∷ []) ≡ made_terms ds ++ made_of d
made_more [] d = append-nil (made_of d)
made_more (x ∷ ds) d = ap (λ ts. made_of x ++ ts) (made_more ds d) ∙ sym (append_assoc (made_of x) (made_terms ds) (made_of d))

-- ---- judgements

use_types : (bs : List Def) (d : Def) → type_names (bs ++ d ∷ []) ≡ type_names bs ++ map (λ (t : DeclaredType). t.name) (cons_option (type_of d) [])
use_types bs d = ap (λ ns. builtin_names ++ ns) (grown type_of (λ (t : DeclaredType). t.name) bs d) ∙ sym (append_assoc builtin_names (map (λ (t : DeclaredType). t.name) (types bs)) (map (λ (t : DeclaredType). t.name) (cons_option (type_of d) [])))

use_constants : (bs : List Def) (d : Def) → map (λ (c : Constant). c.name) (constants (bs ++ d ∷ [])) ≡ map (λ (c : Constant). c.name) (constants bs) ++ map (λ (c : Constant). c.name) (cons_option (constant_of d) [])
use_constants bs d = grown constant_of (λ (c : Constant). c.name) bs d

-- a name that is not there comes at the end
added_new : (names : List (List ℕ)) (name : List ℕ) → is_some (index_of names name) ≡ false → added names name ≡ names ++ name ∷ []
added_new names name absent = ap (λ (b : Bool). cond b names (names ++ name ∷ [])) absent

no_row : (a b c d e : Bool) → a ≡ false → cond b (Some row.FieldRepeats) (cond c (Some row.FieldTypeMissing) (cond d (Some row.ManyFields) None)) ≡ None → e ≡ false
    → None ≡ cond a (Some row.TypeRepeats) (cond b (Some row.FieldRepeats) (cond c (Some row.FieldTypeMissing) (cond d (Some row.ManyFields) (cond e (Some row.MadeTermRepeats) None))))
no_row true b c d e x y z = absurd cc
no_row false true c d e x y z = absurd cc
no_row false false true d e x y z = absurd cc
no_row false false false true e x y z = absurd cc
no_row false false false false true x y z = absurd cc
no_row false false false false false x y z = refl

-- a type with nothing wrong
pub type_judged : (all bs : List Def) (name : List ℕ) (is_extern is_nodebug : Bool) (body : AstBody) (pos : Pos) (old new : Before) → IsBefore bs old → is_some (index_of old.types name) ≡ false → None ≡ body_row all body
    → repeats_after old.made (made_by name body) ≡ false → new.types ≡ added old.types name → new.made ≡ old.made ++ made_by name body → new.constants ≡ old.constants → IsJudged all bs (TypeDecl name is_extern is_nodebug body pos) None new
type_judged all bs name is_extern is_nodebug body pos old new h absent fine apart types_are made_are constants_are =
    let d = TypeDecl name is_extern is_nodebug body pos in
    let there : is_some (index_of (type_names bs) name) ≡ false = ap (λ ns. is_some (index_of ns name)) (sym h.types) ∙ absent in
    record {
      row = no_row (is_some (index_of (type_names bs) name)) (variants_repeat body || any_fields fields_repeat body)
          (any_fields (λ (fields : AstFields). list_any (λ (n : List ℕ). not (is_type all n)) (field_types fields)) body) (any_fields are_many body) (repeats_after (made_terms bs) (made_by name body))
          there (sym fine) (ap (λ ns. repeats_after ns (made_by name body)) (sym h.made) ∙ apart);
      after = λ none. record {
        types = types_are ∙ added_new old.types name absent ∙ ap (λ ns. ns ++ name ∷ []) h.types ∙ sym (use_types bs d);
        made = made_are ∙ ap (λ ns. ns ++ made_by name body) h.made ∙ sym (made_more bs d);
        constants = constants_are ∙ h.constants ∙ sym (append-nil (map (λ (c : Constant). c.name) (constants bs))) ∙ sym (use_constants bs d);
      };
    }

no_constant_row : (a b : Bool) → a ≡ false → b ≡ true → None ≡ cond (a || not b) (Some row.ConstantMisfit) None
no_constant_row true b x y = absurd cc
no_constant_row false true x y = refl
no_constant_row false false x y = absurd cc

-- a constant with nothing wrong
pub constant_judged : (all bs : List Def) (name ty : List ℕ) (pos : Pos) (old new : Before) → IsBefore bs old → is_some (index_of old.constants name) ≡ false → is_scalar all ty ≡ true → new.types ≡ old.types → new.made ≡ old.made → new.constants ≡ added old.constants name
    → IsJudged all bs (ExternConst name ty pos) None new
constant_judged all bs name ty pos old new h absent scalar types_are made_are constants_are =
    let d = ExternConst name ty pos in
    let there : is_some (index_of (map (λ (c : Constant). c.name) (constants bs)) name) ≡ false = ap (λ ns. is_some (index_of ns name)) (sym h.constants) ∙ absent in
    record {
      row = no_constant_row (is_some (index_of (map (λ (c : Constant). c.name) (constants bs)) name)) (is_scalar all ty) there scalar;
      after = λ none. record {
        types = types_are ∙ h.types ∙ sym (append-nil (type_names bs)) ∙ sym (use_types bs d);
        made = made_are ∙ h.made ∙ sym (append-nil (made_terms bs)) ∙ sym (made_more bs d);
        constants = constants_are ∙ added_new old.constants name absent ∙ ap (λ ns. ns ++ name ∷ []) h.constants ∙ sym (use_constants bs d);
      };
    }

-- any other definition
kept : (bs : List Def) (d : Def) (b : Before) → type_of d ≡ None → constant_of d ≡ None → IsBefore bs b → IsBefore (bs ++ d ∷ []) b
kept bs d b no_type no_constant h = record {
  types = h.types ∙ sym (append-nil (type_names bs)) ∙ ap (λ o. type_names bs ++ map (λ (t : DeclaredType). t.name) (cons_option o [])) (sym no_type) ∙ sym (use_types bs d);
  made = h.made ∙ sym (append-nil (made_terms bs)) ∙ ap (λ o. made_terms bs ++ made_or_none o) (sym no_type) ∙ sym (made_more bs d);
  constants = h.constants ∙ sym (append-nil (map (λ (c : Constant). c.name) (constants bs))) ∙ ap (λ o. map (λ (c : Constant). c.name) (constants bs) ++ map (λ (c : Constant). c.name) (cons_option o [])) (sym no_constant)
      ∙ sym (use_constants bs d);
}

pub other_judged : (all bs : List Def) (d : Def) (b : Before) → type_of d ≡ None → constant_of d ≡ None → IsBefore bs b → IsJudged all bs d None b
other_judged all bs (Decl term pure multi partial recursive args ret pos) b t c h = record { row = refl; after = λ none. kept bs (Decl term pure multi partial recursive args ret pos) b t c h }
other_judged all bs (ExternConstructor term func pos) b t c h = record { row = refl; after = λ none. kept bs (ExternConstructor term func pos) b t c h }
other_judged all bs (ExternExtractor term func infallible pos) b t c h = record { row = refl; after = λ none. kept bs (ExternExtractor term func infallible pos) b t c h }
other_judged all bs (Extractor term params template pos) b t c h = record { row = refl; after = λ none. kept bs (Extractor term params template pos) b t c h }
other_judged all bs (Converter from to term pos) b t c h = record { row = refl; after = λ none. kept bs (Converter from to term pos) b t c h }
other_judged all bs (Rule name prio term args iflets rhs pos) b t c h = record { row = refl; after = λ none. kept bs (Rule name prio term args iflets rhs pos) b t c h }
other_judged all bs (Passed head pos) b t c h = record { row = refl; after = λ none. kept bs (Passed head pos) b t c h }
other_judged all bs (TypeDecl name is_extern is_nodebug body pos) b t c h = absurd cc
other_judged all bs (ExternConst name ty pos) b t c h = absurd cc

-- what was found of a type, of the definition that declares it
pub of_type : {E : Type 0} (r : Result (Option Misfit) E) (known : KnownTypes) (old new : Before) (d : Def) (t : DeclaredType) → Some t ≡ type_of d
    → IfOk r (λ found. (all bs : List Def) (is_extern is_nodebug : Bool) (pos : Pos) → AreKnown all known → IsBefore bs old → IsJudged all bs (TypeDecl t.name is_extern is_nodebug t.body pos) found new)
    → IfOk r (λ found. (all bs : List Def) → AreKnown all known → IsBefore bs old → IsJudged all bs d found new)
of_type (Err e) known old new d t is h = tt
of_type (Ok found) known old new d t is h = λ all bs k b.
    let s = is_type_decl d t is in
    subst (λ x. IsJudged all bs x found new) (sym s.3) (h all bs s.0 s.1 s.2 k b)

pub of_constant : {E : Type 0} (r : Result (Option Misfit) E) (known : KnownTypes) (old new : Before) (d : Def) (c : Constant) → Some c ≡ constant_of d
    → IfOk r (λ found. (all bs : List Def) (pos : Pos) → AreKnown all known → IsBefore bs old → IsJudged all bs (ExternConst c.name c.ty pos) found new)
    → IfOk r (λ found. (all bs : List Def) → AreKnown all known → IsBefore bs old → IsJudged all bs d found new)
of_constant (Err e) known old new d c is h = tt
of_constant (Ok found) known old new d c is h = λ all bs k b.
    let s = is_const d c is in
    subst (λ x. IsJudged all bs x found new) (sym s.1) (h all bs s.0 k b)
