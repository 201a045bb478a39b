-- A term that takes values apart in patterns does so with values of its type, into its arguments.
use Rattle.std.proofs.Common.{◌≡◌, ℕ, Bool, true, false, List, map, Option, Some, None, refl, sym, ap, ◌∙◌, subst}
use Rattle.std.specs.Prelude.{◌||◌, is_some, IsSomeAnd, option_map, option_and_then, slice_get}
use Rattle.std.proofs.lemmas.Option.{same_Some}
use Rattle.isle_core.specs.declared.TermId.{TermId}
use Rattle.isle_core.specs.declared.TypeId.{TypeId}
use Rattle.isle_core.specs.declared.types.Term.{Term}
use Rattle.isle_core.specs.declared.types.TermKind.TheVariants as kind
use Rattle.isle_core.specs.declared.types.ConstructorKind.{ConstructorKind}
use Rattle.isle_core.specs.BuiltRule.{IsExtractorKind}
use Rattle.isle_core.specs.Form.{form, form_types}
use Rattle.isle_core.specs.Making.{Making, MakesVariant, MakesStruct, MakesNothing, making, making_kind, making_of}
use Rattle.isle_core.specs.Pattern.{Pattern as CorePattern}
use Rattle.isle_core.specs.PatternType.{IsOfMaking, OpensType, arguments_of, part_types}
use Rattle.isle_core.specs.Rule.{Environment}
use Rattle.isle_ast.specs.Tree.{Def}
use Rattle.isle_declarations.specs.declared.terms.Origin.{Origin}
use Rattle.isle_declarations.specs.declared.terms.Origin.TheVariants as origin
use Rattle.isle_declarations.specs.Signatures.{Signature, Extracting, ByFunction, ByTemplate, ExtractorDef, extractors, term_named, extractor_named}
use Rattle.isle_declarations.specs.Terms.{terms, is_made}
use Rattle.isle_terms.specs.Whole.{whole_of}
use Rattle.isle_terms.specs.TermPass.{extractor_by, extractor_from, kind_from, constructor_named}
use Rattle.isle_terms.specs.TypeNames.{type_named}
use Rattle.isle_terms.specs.Whole.{Whole, termed, has_extractor}
use Rattle.isle_sema.specs.Templates.{template_pass, template_tree, is_treed, has_tree, templates, are_treed}
use Rattle.isle_sema.proofs.MadeForms.{made_form}
use Rattle.isle_sema.proofs.NamedExtractors.{is_named, holds_at, template_there}
use Rattle.isle_templates.specs.Substituted.{template_of}
use Rattle.isle_templates.specs.WrittenType.{Opens, opened_types}
use Rattle.isle_terms.proofs.MadeTerms.{term_made, term_is, types_are}
use Rattle.isle_sema.proofs.RuleRoots.{signature_at}
use Rattle.isle_sema.proofs.TypedParts.{IsGivenIn}

-- what is known of a term that takes values of the type apart, by its template if it has one: the types of its parts
pub record IsOpened (defs : List Def) (env : Environment) (s : Signature) (ty : TypeId) (number : TermId) : Type 0 where
  pub types : List TypeId
  pub opens : Opens env (template_of (templates (whole_of defs)) number) ty number
  pub parts : opened_types env (template_of (templates (whole_of defs)) number) number ≡ Some types
  pub args : map (type_named defs) s.args ≡ map Some types

-- ---- made terms

opens_made : (ty : TypeId) (mk : Making) (t : Option Term) → IsOfMaking ty mk → OpensType ty mk t
opens_made ty (MakesVariant of variant) t h = h
opens_made ty (MakesStruct of) t h = h
opens_made ty MakesNothing t h = absurd h

made_parts : (env : Environment) (ty : TypeId) (mk : Making) (t : Option Term) → IsOfMaking ty mk → part_types env mk t ≡ option_map (form_types env) (form env mk)
made_parts env ty (MakesVariant of variant) t h = refl
made_parts env ty (MakesStruct of) t h = refl
made_parts env ty MakesNothing t h = absurd h

-- ---- terms with extractors

-- an extractor by a function
abbrev IsOuter : Extracting → Type 0
IsOuter (ByFunction func infallible) = Unit {0}
IsOuter (ByTemplate t) = ⊥

-- a term without a template has no other extractor
outer_at : (w : Whole) (name : List ℕ) (x : ExtractorDef) → are_treed w ≡ true → extractor_named (extractors w.defs) name ≡ Some x → template_tree w name x.by ≡ None → IsOuter x.by
outer_at w name x treed found none =
    let k = is_named (extractors w.defs) name x found in
    by x.by (ap (λ (n : List ℕ). is_treed w n x.by) (sym k.named) ∙ holds_at (has_tree w) (extractors w.defs) x treed k.among) none
  where
    no_tree : (o : Option CorePattern) → is_some o ≡ true → o ≡ None → ⊥
    no_tree None h e = cc
    no_tree (Some q) h e = cc

    by : (how : Extracting) → is_treed w name how ≡ true → template_tree w name how ≡ None → IsOuter how
    by (ByFunction func infallible) h e = tt
    by (ByTemplate t) h e = no_tree (template_pass w name t).tree h e

extracts_by : (pure multi partial recursive : Bool) (by : ConstructorKind) (syms : List (List ℕ)) (how : Extracting) → IsOuter how → IsExtractorKind (kind.Decl pure multi partial recursive by (extractor_by syms how))
extracts_by pure multi partial recursive by syms (ByFunction func infallible) outer = tt
extracts_by pure multi partial recursive by syms (ByTemplate t) outer = absurd outer

extracts : (pure multi partial recursive : Bool) (by : ConstructorKind) (syms : List (List ℕ)) (o : Option ExtractorDef) → is_some o ≡ true → ((x : ExtractorDef) → o ≡ Some x → IsOuter x.by) → IsExtractorKind (kind.Decl pure multi partial recursive by (extractor_from syms o))
extracts pure multi partial recursive by syms None some outer = absurd cc
extracts pure multi partial recursive by syms (Some x) some outer = extracts_by pure multi partial recursive by syms x.by (outer x refl)

kind_extracts : (w : Whole) (s : Signature) (ret : TypeId) (from : Origin) → is_made from ≡ false → is_some (extractor_named (extractors w.defs) s.term) ≡ true → ((x : ExtractorDef) → extractor_named (extractors w.defs) s.term ≡ Some x → IsOuter x.by) → IsExtractorKind (kind_from w s ret from)
kind_extracts w s ret origin.Declared other some outer = extracts s.pure s.multi s.partial s.recursive (constructor_named w s.term) w.types.syms (extractor_named (extractors w.defs) s.term) some outer
kind_extracts w s ret (origin.Variant number) other some outer = absurd cc
kind_extracts w s ret origin.Struct other some outer = absurd cc

kind_unmade : (w : Whole) (s : Signature) (ret : TypeId) (from : Origin) → is_made from ≡ false → making_kind (kind_from w s ret from) ≡ MakesNothing
kind_unmade w s ret origin.Declared other = refl
kind_unmade w s ret (origin.Variant number) other = absurd cc
kind_unmade w s ret origin.Struct other = absurd cc

-- ---- the law

or_second : (a b : Bool) → a ≡ false → a || b ≡ true → b ≡ true
or_second true b e h = absurd cc
or_second false b e h = h

-- a term without a template takes values of its result's type apart, into its arguments, if it is made or has an extractor
record IsOpenedOuter (defs : List Def) (env : Environment) (s : Signature) (ty : TypeId) (number : TermId) : Type 0 where
  types : List TypeId
  opens : OpensType ty (making env number) (slice_get env.terms number.0)
  parts : part_types env (making env number) (slice_get env.terms number.0) ≡ Some types
  args : map (type_named defs) s.args ≡ map Some types

outer_term : (defs : List Def) (env : Environment) (name : List ℕ) (s : Signature) (number : TermId) (ty : TypeId) → IsGivenIn defs env → termed (whole_of defs) name ≡ Some s → term_named (terms defs) name ≡ Some number
    → has_extractor (whole_of defs) s ≡ true → type_named defs s.ret ≡ Some ty → template_of (templates (whole_of defs)) number ≡ None → IsOpenedOuter defs env s ty number
outer_term defs env name s number ty g is numbered has ret none = by (is_made s.origin) refl
  where
    by : (made : Bool) → is_made s.origin ≡ made → IsOpenedOuter defs env s ty number
    by true made =
        let found = slice_get env.terms number.0 in
        let m = made_form defs env name s number ty g g.types_kept is numbered made ret in
        record { types = m.1; opens = opens_made ty (making env number) found m.0; parts = made_parts env ty (making env number) found m.0 ∙ m.2; args = m.3 }
    by false other =
        let w = whole_of defs in
        let at = signature_at w name s number is numbered in
        let m = term_made w (terms defs) env.terms number.0 s g.terms at in
        let t = m.term in
        let k = term_is w s t m.made in
        let kind : kind_from w s t.ret_ty s.origin ≡ t.kind = ap (λ (u : Term). u.kind) k.is in
        let makes : making env number ≡ MakesNothing = ap making_of m.there ∙ ap making_kind (sym kind) ∙ kind_unmade w s t.ret_ty s.origin other in
        let outer : (x : ExtractorDef) → extractor_named (extractors defs) s.term ≡ Some x → IsOuter x.by = λ x e. outer_at w s.term x g.treed e (sym (ap (option_and_then (λ (y : ExtractorDef). template_tree w s.term y.by)) e) ∙ sym (template_there w number s at) ∙ none) in
        let how : IsExtractorKind t.kind = subst IsExtractorKind kind (kind_extracts w s t.ret_ty s.origin other (or_second (is_made s.origin) (is_some (extractor_named (extractors defs) s.term)) other has) outer) in
        let opens : OpensType ty MakesNothing (Some t) = (how, same_Some t.ret_ty ty (sym k.ret ∙ ret)) in
        record {
          types = t.arg_tys;
          opens = subst (λ (o : Option Term). OpensType ty (making env number) o) (sym m.there) (subst (λ (mk : Making). OpensType ty mk (Some t)) (sym makes) opens);
          parts = ap (λ (mk : Making). part_types env mk (slice_get env.terms number.0)) makes ∙ ap (λ (o : Option Term). part_types env MakesNothing o) m.there;
          args = types_are defs s.args t.arg_tys k.args;
        }

-- a term that is made or has an extractor takes values of its result's type apart, into its arguments
pub opened_term : (defs : List Def) (env : Environment) (name : List ℕ) (s : Signature) (number : TermId) (ty : TypeId) → IsGivenIn defs env → termed (whole_of defs) name ≡ Some s → term_named (terms defs) name ≡ Some number
    → has_extractor (whole_of defs) s ≡ true → type_named defs s.ret ≡ Some ty → IsOpened defs env s ty number
opened_term defs env name s number ty g is numbered has ret = by (template_of (templates (whole_of defs)) number) refl
  where
    by : (o : Option CorePattern) → template_of (templates (whole_of defs)) number ≡ o → IsOpened defs env s ty number
    by None none =
        let h = outer_term defs env name s number ty g is numbered has ret none in
        record {
          types = h.types;
          opens = subst (λ o. Opens env o ty number) (sym none) h.opens;
          parts = ap (λ o. opened_types env o number) none ∙ h.parts;
          args = h.args;
        }
    by (Some q) some =
        let w = whole_of defs in
        let m = term_made w (terms defs) env.terms number.0 s g.terms (signature_at w name s number is numbered) in
        let k = term_is w s m.term m.made in
        let gives : m.term.ret_ty ≡ ty = same_Some m.term.ret_ty ty (sym k.ret ∙ ret) in
        record {
          types = m.term.arg_tys;
          opens = subst (λ o. Opens env o ty number) (sym some) (subst (λ (o : Option Term). IsSomeAnd o (λ (x : Term). x.ret_ty ≡ ty)) (sym m.there) gives);
          parts = ap (λ o. opened_types env o number) some ∙ ap arguments_of m.there;
          args = types_are defs s.args m.term.arg_tys k.args;
        }
