-- The functions of the terms with rules may be called by their names.
use Rattle.std.proofs.Common.{◌≡◌, List, [], ◌∷◌, map, true, Some, refl, sym, ap, ◌∙◌, subst}
use Rattle.std.specs.Prelude.{IsTrue, Contains, slice_get, option_map}
use Rattle.std.specs.Option.{option_map_or}
use Rattle.std.specs.List.{IsDistinct, cons_option, filter_map}
use Rattle.std.specs.Str.{bytes_eq}
use Rattle.std.proofs.lemmas.List.Elements.{All-contains}
use Rattle.std.proofs.lemmas.List.Sums.{AllPass-from_list_all}
use Rattle.isle_core.specs.declared.TermId.{TermId}
use Rattle.isle_core.specs.declared.types.ConstructorKind.TheVariants as constructor
use Rattle.isle_core.specs.declared.types.Term.{Term}
use Rattle.isle_core.specs.declared.types.TermKind.{TermKind}
use Rattle.isle_core.specs.declared.types.TermKind.TheVariants as kind
use Rattle.isle_core.specs.Terms.{sym_text, term_name, with_rules}
use Rattle.isle_core.specs.Rule.{Environment}
use Rattle.isle_core.proofs.Contained.{head_contained, tail_contained}
use Rattle.isle_ast.specs.Tree.{Def}
use Rattle.isle_sema.specs.Typing.{Typed}
use Rattle.isle_sema.proofs.InternalTerms.{IsRuled as IsTypedRuled, internal_ruled}
use Rattle.isle_sema.proofs.TypedTerms.{typed_names, typed_there}
use Rattle.isle_tree.specs.WellFormed.{Head}
use Rattle.isle_lawful_names.specs.Words.{is_term_name}
use Rattle.isle_codegen.proofs.Compilable.{are_term_names, IsCompilable}
use Rattle.isle_simulation.specs.TermFns.{head, head_at, IsRuled, HasTermFns}
use Rattle.isle_codegen.proofs.EmittedNames.{name_of_term, distinct_names}

-- the heads of terms that are there have their names
heads_named : (env : Environment) (ids : List TermId) → ((id : TermId) → Contains ids id → (t : Term) × (slice_get env.terms id.0 ≡ Some t)) → map (λ (h : Head). h.term) (filter_map (head_at env) ids) ≡ map (term_name env) ids
heads_named env [] there = refl
heads_named env (id ∷ ids) there =
    let t = there id (head_contained id ids) in
    ap (λ o. map (λ (h : Head). h.term) (cons_option (option_map (head env) o) (filter_map (head_at env) ids))) t.1
    ∙ ap (λ xs. sym_text env t.0.name ∷ xs) (heads_named env ids (λ x c. there x (tail_contained id ids x c)))
    ∙ ap (λ n. n ∷ map (term_name env) ids) (sym (ap (λ o. option_map_or (λ (u : Term). sym_text env u.name) o []) t.1))

-- who is made by rules is so for typing
typed_ruled : (k : TermKind) → IsRuled k → IsTypedRuled k
typed_ruled (kind.Decl pure multi partial recursive constructor.Absent extractor) h = absurd h
typed_ruled (kind.Decl pure multi partial recursive constructor.Internal extractor) h = tt
typed_ruled (kind.Decl pure multi partial recursive (constructor.External func) extractor) h = absurd h
typed_ruled (kind.Variant ty variant) h = absurd h
typed_ruled (kind.Struct ty) h = absurd h

-- if the names of the terms with rules may be emitted, their functions may be called by them
pub has_term_fns : (defs : List Def) (env : Environment) → Typed defs env → are_term_names env ≡ true → HasTermFns env
has_term_fns defs env typed names = record {
  named = λ id t c found. subst (λ n. IsTrue (is_term_name n)) (name_of_term env id t found) (All-contains (λ (x : TermId). is_term_name (term_name env x) ≡ true) (with_rules env) id (AllPass-from_list_all (λ (x : TermId). is_term_name (term_name env x)) (with_rules env) names) c);
  distinct = subst (IsDistinct bytes_eq) (sym (heads_named env (with_rules env) (λ id c. typed_there defs env id typed c))) (distinct_names env (typed_names defs env typed));
  ruled = λ id t at ruled. internal_ruled defs env typed id t at (typed_ruled t.kind ruled);
}

-- so of an environment that may be compiled
pub term_fns : {defs : List Def} {env : Environment} → IsCompilable defs env → HasTermFns env
term_fns {defs} {env} h = has_term_fns defs env h.typed h.names
