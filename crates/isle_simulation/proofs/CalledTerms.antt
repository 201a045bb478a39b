-- What calls of terms go to: functions of the trait, and those of terms that are made by rules.
use Rattle.std.proofs.Common.{◌≡◌, ◌⊎◌, inl, inr, ⊎_elim, length, map, true, false, cond, Some, None, refl, sym, ap, ◌∙◌, subst}
use Rattle.std.specs.Prelude.{slice_get, option_map}
use Rattle.std.proofs.lemmas.Bool.{eq-eqb}
use Rattle.std.proofs.lemmas.List.{length-map}
use Rattle.isle_core.specs.declared.TermId.{TermId}
use Rattle.isle_core.specs.declared.types.ConstructorKind.TheVariants as constructor
use Rattle.isle_core.specs.declared.types.ReturnKind.{ReturnKind}
use Rattle.isle_core.specs.declared.types.Term.{Term}
use Rattle.isle_core.specs.declared.types.TermKind.{TermKind}
use Rattle.isle_core.specs.declared.types.TermKind.TheVariants as kind
use Rattle.isle_core.specs.declared.values.Callee.TheVariants.{Internal}
use Rattle.isle_core.specs.Calling.{Calling, calling, calling_of, calling_by, pure_callee, kind_of}
use Rattle.isle_core.specs.ExternalCall.{IsCall}
use Rattle.isle_core.specs.Rule.{Environment}
use Rattle.isle_core.specs.Terms.{sym_text, impure_callee}
use Rattle.isle_tree.specs.declared.holds.Item.TheVariants as item
use Rattle.isle_tree.specs.WellFormed.{IsCallee, kind_holds, call_holds, head_holds, callee_holds}
use Rattle.isle_simulation.specs.TermFns.{callables_of, IsRuled, HasTermFns}
use Rattle.isle_simulation.specs.TraitFns.{constructor_fn, func_of, HasFnNames}
use Rattle.isle_simulation.specs.TypeTexts.{parameter}
use Rattle.isle_simulation.proofs.ExternalTerms.{IsExternalTerm, fn_contained, fn_named, term_fn_found}
use Rattle.isle_simulation.proofs.TermHeads.{head_found}
use Rattle.isle_simulation.proofs.Written.{callee_of}

-- functions of the trait and of terms may be called by their names
pub record HasCallees (env : Environment) : Type 0 where
  pub fns : HasFnNames env
  pub terms : HasTermFns env

-- what the call of a term that is made by rules is
record IsRuledTerm (env : Environment) (t : Term) (of : ReturnKind) (c : Calling) : Type 0 where
  ruled : IsRuled t.kind
  callee : callee_of c ≡ Internal (sym_text env t.name)
  answers : kind_of t.kind ≡ of

-- a term that is called is one or the other
abbrev IsCalledTerm : Environment → Term → ReturnKind → Calling → Type 0
IsCalledTerm env t of c = IsExternalTerm env t of c ⊎ IsRuledTerm env t of c

by_kind : (env : Environment) (t : Term) (k : TermKind) (of : ReturnKind) → t.kind ≡ k → IsCall of (calling_by (kind_of k) (impure_callee env t k) (pure_callee env t k)) → IsCalledTerm env t of (calling_by (kind_of k) (impure_callee env t k) (pure_callee env t k))
by_kind env t (kind.Decl false multi p recursive (constructor.External func) extractor) of e h = inl (record { func = func; fn = ap (λ x. option_map (constructor_fn env t) (func_of x)) e; callee = refl; answers = ap kind_of e ∙ h })
by_kind env t (kind.Decl false multi p recursive constructor.Internal extractor) of e h = inr (record { ruled = subst IsRuled (sym e) tt; callee = refl; answers = ap kind_of e ∙ h })
by_kind env t (kind.Decl false multi p recursive constructor.Absent extractor) of e h = absurd h
by_kind env t (kind.Decl true multi p recursive (constructor.External func) extractor) of e h = inl (record { func = func; fn = ap (λ x. option_map (constructor_fn env t) (func_of x)) e; callee = refl; answers = ap kind_of e ∙ h })
by_kind env t (kind.Decl true multi p recursive constructor.Internal extractor) of e h = inr (record { ruled = subst IsRuled (sym e) tt; callee = refl; answers = ap kind_of e ∙ h })
by_kind env t (kind.Decl true multi p recursive constructor.Absent extractor) of e h = absurd h
by_kind env t (kind.Variant ty variant) of e h = absurd h
by_kind env t (kind.Struct ty) of e h = absurd h

-- a call of a term
called_term : (env : Environment) (term : TermId) (t : Term) (of : ReturnKind) → slice_get env.terms term.0 ≡ Some t → IsCall of (calling env term) → IsCalledTerm env t of (calling env term)
called_term env term t of there h =
    let is : calling env term ≡ calling_of env (Some t) = ap (calling_of env) there in
    subst (IsCalledTerm env t of) (sym is) (by_kind env t t.kind of refl (subst (IsCall of) is h))

-- what a term's call goes to has a name of Rust
pub callee_is : (env : Environment) (term : TermId) (t : Term) (of : ReturnKind) → HasCallees env → slice_get env.terms term.0 ≡ Some t → IsCall of (calling env term) → IsCallee (callee_of (calling env term))
callee_is env term t of names there call =
    ⊎_elim (λ (x : IsExternalTerm env t of (calling env term)). let f = constructor_fn env t x.func in subst IsCallee (sym x.callee) (fn_named env f names.fns (fn_contained env env.terms term.0 t f there x.fn)))
    (λ (x : IsRuledTerm env t of (calling env term)). subst IsCallee (sym x.callee) (names.terms.named term t (names.terms.ruled term t there x.ruled) there)) (called_term env term t of there call)

-- called with a term's arguments it answers one value, as often as the term does
pub callee_answers : (env : Environment) (term : TermId) (t : Term) (of : ReturnKind) → HasCallees env → slice_get env.terms term.0 ≡ Some t → IsCall of (calling env term)
    → callee_holds (callables_of env) (callee_of (calling env term)) (length t.arg_tys) ≡ Some (kind_holds of item.Value)
callee_answers env term t of names there call =
    let n = length t.arg_tys in
    ⊎_elim
    (λ (x : IsExternalTerm env t of (calling env term)). ap (λ y. callee_holds (callables_of env) y n) x.callee ∙ ap (λ y. call_holds y n) (term_fn_found env term t of names.fns there x)
    ∙ ap (λ y. cond y (Some (kind_holds (kind_of t.kind) item.Value)) None) (eq-eqb (length (map (parameter env) t.arg_tys)) n (length-map t.arg_tys (parameter env))) ∙ ap (λ y. Some (kind_holds y item.Value)) x.answers)
    (λ (x : IsRuledTerm env t of (calling env term)). ap (λ y. callee_holds (callables_of env) y n) x.callee ∙ ap (λ y. head_holds y n) (head_found env term t names.terms there x.ruled)
    ∙ ap (λ y. cond y (Some (kind_holds (kind_of t.kind) item.Value)) None) (eq-eqb n n refl) ∙ ap (λ y. Some (kind_holds y item.Value)) x.answers)
    (called_term env term t of there call)
