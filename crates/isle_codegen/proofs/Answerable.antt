-- The terms that the rules of the built language call may be answered, if what they answer has values.
use Rattle.std.proofs.Common.{◌≡◌, ◌⊎◌, inl, inr, ⊎_elim, ℕ, zero, suc, List, [], ◌∷◌, ◌++◌, Bool, true, false, cond, Option, Some, None, map, refl, sym, ap, ◌∙◌, subst}
use Rattle.std.specs.Prelude.{Contains, IsSomeAnd, slice_get, option_map}
use Rattle.std.specs.List.{AllByRecursion, IsDistinct, cons_option}
use Rattle.std.specs.Str.{bytes_eq}
use Rattle.std.proofs.lemmas.List.Elements.{recursion_from_All, Contains-append_cases}
use Rattle.std.proofs.lemmas.Slice.Eq.{bytes_eq-Decides}
use Rattle.isle_core.specs.declared.Sym.{Sym}
use Rattle.isle_core.specs.declared.TermId.{TermId}
use Rattle.isle_core.specs.declared.TypeId.{TypeId}
use Rattle.isle_core.specs.declared.types.ConstructorKind.{ConstructorKind}
use Rattle.isle_core.specs.declared.types.ConstructorKind.TheVariants as constructor
use Rattle.isle_core.specs.declared.types.ExtractorKind.{ExtractorKind}
use Rattle.isle_core.specs.declared.types.ExtractorKind.TheVariants as extractor
use Rattle.isle_core.specs.declared.types.Term.{Term}
use Rattle.isle_core.specs.declared.types.TermKind.{TermKind}
use Rattle.isle_core.specs.declared.types.TermKind.TheVariants as term_kind
use Rattle.isle_core.specs.declared.values.Callee.{Callee}
use Rattle.isle_core.specs.declared.values.Callee.TheVariants.{External, Internal}
use Rattle.isle_core.specs.BuiltRule.{IsExtractorKind, IsOpening, IsBuiltPattern, AreBuiltPatterns, IsBuiltExpr, AreBuiltExprs, AreBuiltBindings, IsBuiltIfLet, IsBuiltRule, IsBuiltKind, IsPureKind, HasTerms, AllHaveTerms, BindingsHaveTerms, HasBuiltTerms, AllHaveBuiltTerms, BindingsHaveBuiltTerms, CallsBuiltTerms}
use Rattle.isle_core.specs.Calling.{calling_of, calling_by, kind_of, kind_by, pure_callee, extractor_kind, extracting_of, extracting_kind}
use Rattle.isle_core.specs.CalledTerms.{Role, Constructor, Extractor, CalledTerm, is_made_kind, is_made_term, is_made, unless_made, called_by, called_by_all, called_by_bindings, extracted_by, extracted_by_all, extracted_in, called_in_iflets, called_in, called}
use Rattle.isle_core.specs.Expr as expr
use Rattle.isle_core.specs.Expr.{Expr, Exprs, NoExpr, AnExpr, LetBindings, NoBinding, ABinding}
use Rattle.isle_core.specs.HasType.{HasType, HaveTypes}
use Rattle.isle_core.specs.History.{Service, service_by, service_of, IsAnswerable, AreAnswerable}
use Rattle.isle_core.specs.Lawful.{Fits, called_as, result_types}
use Rattle.isle_core.specs.Making.{making_kind, making_of}
use Rattle.isle_core.specs.Pattern as pattern
use Rattle.isle_core.specs.Pattern.{Pattern, Patterns, NoPattern, APattern}
use Rattle.isle_core.specs.Rule.{Environment, IfLet, Rule}
use Rattle.isle_core.specs.Terms.{sym_text, callee_by, impure_callee}
use Rattle.isle_core.specs.Value.{Value, Answer, Plain, Nothing, Several}
use Rattle.isle_core.proofs.Contained.{contained_cases, none_contained}
use Rattle.isle_tree.specs.declared.tree.TraitFn.{TraitFn}
use Rattle.isle_tree.specs.WellFormed.{fn_names}
use Rattle.isle_simulation.specs.TraitFns.{constructor_fn, constructor_fn_of, extractor_fn, extracted_of, extractor_fn_of, func_of, fns_before, trait_fns_in, HasFnNames}
use Rattle.isle_simulation.proofs.ExternalTerms.{fn_contained, extractor_contained}
use Rattle.isle_simulation.proofs.FoundByName.{after_option}
use Rattle.isle_simulation.proofs.FunctionsApart.{behind_one, apart_from, extractor_apart}
use Rattle.isle_codegen.specs.Meant.{HasValue, AnswersInhabited}

-- ---- what rules call

-- a term that is called as a constructor
record IsCallable (env : Environment) (o : CalledTerm) : Type 0 where
  term : Term
  found : slice_get env.terms o.term.0 ≡ Some term
  role : o.role ≡ Constructor
  pure : Bool
  multi : Bool
  partial : Bool
  recursive : Bool
  by : ConstructorKind
  extractor : ExtractorKind
  kind : term.kind ≡ term_kind.Decl pure multi partial recursive by extractor
  callee : Callee
  to : callee_by env term by ≡ Some callee

-- a term that is called as an extractor, by an external function
record IsExtractable (env : Environment) (o : CalledTerm) : Type 0 where
  term : Term
  found : slice_get env.terms o.term.0 ≡ Some term
  role : o.role ≡ Extractor
  pure : Bool
  multi : Bool
  partial : Bool
  recursive : Bool
  by : ConstructorKind
  func : Sym
  infallible : Bool
  kind : term.kind ≡ term_kind.Decl pure multi partial recursive by (extractor.External func infallible)

-- what kind a built term has that no type makes
record IsCalledKind (env : Environment) (t : Term) (k : TermKind) : Type 0 where
  pure : Bool
  multi : Bool
  partial : Bool
  recursive : Bool
  by : ConstructorKind
  extractor : ExtractorKind
  is : k ≡ term_kind.Decl pure multi partial recursive by extractor
  callee : Callee
  to : callee_by env t by ≡ Some callee

called_kind : (env : Environment) (t : Term) (k : TermKind) → IsBuiltKind k → is_made_kind k ≡ false → IsCalledKind env t k
called_kind env t (term_kind.Decl pure multi partial recursive constructor.Internal x) h e = record { pure = pure; multi = multi; partial = partial; recursive = recursive; by = constructor.Internal; extractor = x; is = refl; callee = Internal (sym_text env t.name); to = refl }
called_kind env t (term_kind.Decl pure multi partial recursive (constructor.External func) x) h e = record { pure = pure; multi = multi; partial = partial; recursive = recursive; by = constructor.External func; extractor = x; is = refl; callee = External (sym_text env func); to = refl }
called_kind env t (term_kind.Decl pure multi partial recursive constructor.Absent x) h e = absurd h
called_kind env t (term_kind.Variant ty variant) h e = cc
called_kind env t (term_kind.Struct ty) h e = cc

some_of : {X : Type 0} (o : Option X) (P : X → Type 0) → IsSomeAnd o P → (x : X) × (o ≡ Some x) × P x
some_of None P h = absurd h
some_of (Some x) P h = (x, refl, h)

in_unless : (b : Bool) (x o : CalledTerm) → Contains (cond b [] (x ∷ [])) o → (b ≡ false) × (x ≡ o)
in_unless true x o c = absurd (none_contained o c)
in_unless false x o c = (refl, ⊎_elim (λ e. e) (λ d. absurd (none_contained o d)) (contained_cases x [] o c))

term_callable : (env : Environment) (term : TermId) (o : CalledTerm) → IsSomeAnd (slice_get env.terms term.0) (λ (t : Term). IsBuiltKind t.kind) → Contains (unless_made env Constructor term) o → IsCallable env o
term_callable env term o h c =
    let t = some_of (slice_get env.terms term.0) _ h in
    let d = in_unless (is_made env term) (record { term = term; role = Constructor }) o c in
    let k = called_kind env t.0 t.0.kind t.2 (ap is_made_term (sym t.1) ∙ d.0) in
    subst (IsCallable env) d.1 (record { term = t.0; found = t.1; role = refl; pure = k.pure; multi = k.multi; partial = k.partial; recursive = k.recursive; by = k.by; extractor = k.extractor; kind = k.is; callee = k.callee; to = k.to })

-- a pure term is a built one
pure_kind : (k : TermKind) → IsPureKind k → IsBuiltKind k
pure_kind (term_kind.Decl true multi partial recursive constructor.Internal x) h = tt
pure_kind (term_kind.Decl true multi partial recursive (constructor.External func) x) h = tt
pure_kind (term_kind.Decl true multi partial recursive constructor.Absent x) h = absurd h
pure_kind (term_kind.Decl false multi partial recursive by x) h = absurd h
pure_kind (term_kind.Variant ty variant) h = tt
pure_kind (term_kind.Struct ty) h = tt

pure_there : (o : Option Term) → IsSomeAnd o (λ (t : Term). IsPureKind t.kind) → IsSomeAnd o (λ (t : Term). IsBuiltKind t.kind)
pure_there None h = absurd h
pure_there (Some t) h = pure_kind t.kind h

mutual
  pure_terms : (terms : List Term) (e : Expr) → HasTerms IsPureKind terms e → HasBuiltTerms terms e
  pure_terms terms (expr.Var of x) h = tt
  pure_terms terms (expr.ConstBool v) h = tt
  pure_terms terms (expr.ConstInt of n) h = tt
  pure_terms terms (expr.ConstPrim of name) h = tt
  pure_terms terms (expr.Term of term es) h = (pure_there (slice_get terms term.0) h.0, all_pure_terms terms es h.1)
  pure_terms terms (expr.Let of bs inner) h = (bindings_pure_terms terms bs h.0, pure_terms terms inner h.1)

  all_pure_terms : (terms : List Term) (es : Exprs) → AllHaveTerms IsPureKind terms es → AllHaveBuiltTerms terms es
  all_pure_terms terms NoExpr h = tt
  all_pure_terms terms (AnExpr e es) h = (pure_terms terms e h.0, all_pure_terms terms es h.1)

  bindings_pure_terms : (terms : List Term) (bs : LetBindings) → BindingsHaveTerms IsPureKind terms bs → BindingsHaveBuiltTerms terms bs
  bindings_pure_terms terms NoBinding h = tt
  bindings_pure_terms terms (ABinding x ty e more) h = (pure_terms terms e h.0, bindings_pure_terms terms more h.1)

mutual
  expr_callable : (env : Environment) (e : Expr) → IsBuiltExpr e → HasBuiltTerms env.terms e → (o : CalledTerm) → Contains (called_by env e) o → IsCallable env o
  expr_callable env (expr.Var of x) b h o c = absurd (none_contained o c)
  expr_callable env (expr.ConstBool v) b h o c = absurd (none_contained o c)
  expr_callable env (expr.ConstInt of n) b h o c = absurd (none_contained o c)
  expr_callable env (expr.ConstPrim of name) b h o c = absurd (none_contained o c)
  expr_callable env (expr.Term of term es) b h o c = ⊎_elim (λ d. exprs_callable env es b h.1 o d) (λ d. term_callable env term o h.0 d) (Contains-append_cases (called_by_all env es) (unless_made env Constructor term) o c)
  expr_callable env (expr.Let of bs inner) b h o c = ⊎_elim (λ d. bindings_callable env bs b.0 h.0 o d) (λ d. expr_callable env inner b.1 h.1 o d) (Contains-append_cases (called_by_bindings env bs) (called_by env inner) o c)

  exprs_callable : (env : Environment) (es : Exprs) → AreBuiltExprs es → AllHaveBuiltTerms env.terms es → (o : CalledTerm) → Contains (called_by_all env es) o → IsCallable env o
  exprs_callable env NoExpr b h o c = absurd (none_contained o c)
  exprs_callable env (AnExpr e es) b h o c = ⊎_elim (λ d. expr_callable env e b.0 h.0 o d) (λ d. exprs_callable env es b.1 h.1 o d) (Contains-append_cases (called_by env e) (called_by_all env es) o c)

  bindings_callable : (env : Environment) (bs : LetBindings) → AreBuiltBindings bs → BindingsHaveBuiltTerms env.terms bs → (o : CalledTerm) → Contains (called_by_bindings env bs) o → IsCallable env o
  bindings_callable env NoBinding b h o c = absurd (none_contained o c)
  bindings_callable env (ABinding x ty e more) b h o c = ⊎_elim (λ d. expr_callable env e b.0 h.0 o d) (λ d. bindings_callable env more b.1 h.1 o d) (Contains-append_cases (called_by env e) (called_by_bindings env more) o c)

-- a term that takes values apart and that no type makes has an extractor
extractable_kind : (env : Environment) (term : TermId) (t : Term) → slice_get env.terms term.0 ≡ Some t → is_made_kind t.kind ≡ false → IsOpening (making_kind t.kind) (Some t) → IsExtractable env (record { term = term; role = Extractor })
extractable_kind env term t at unmade h = by t.kind refl unmade h
  where
    of : (k : TermKind) → t.kind ≡ k → IsExtractorKind k → IsExtractable env (record { term = term; role = Extractor })
    of (term_kind.Decl pure multi partial recursive by (extractor.External func infallible)) e x =
        record { term = t; found = at; role = refl; pure = pure; multi = multi; partial = partial; recursive = recursive; by = by; func = func; infallible = infallible; kind = e }
    of (term_kind.Decl pure multi partial recursive by extractor.Absent) e x = absurd x
    of (term_kind.Decl pure multi partial recursive by extractor.Internal) e x = absurd x
    of (term_kind.Variant ty variant) e x = absurd x
    of (term_kind.Struct ty) e x = absurd x

    by : (k : TermKind) → t.kind ≡ k → is_made_kind k ≡ false → IsOpening (making_kind k) (Some t) → IsExtractable env (record { term = term; role = Extractor })
    by (term_kind.Decl pure multi partial recursive how x) e u g = of (term_kind.Decl pure multi partial recursive how x) e (subst IsExtractorKind e g)
    by (term_kind.Variant ty variant) e u g = cc
    by (term_kind.Struct ty) e u g = cc

term_extractable : (env : Environment) (term : TermId) (o : CalledTerm) → IsOpening (making_of (slice_get env.terms term.0)) (slice_get env.terms term.0) → Contains (unless_made env Extractor term) o → IsExtractable env o
term_extractable env term o h c =
    let d = in_unless (is_made env term) (record { term = term; role = Extractor }) o c in
    subst (IsExtractable env) d.1 (there (slice_get env.terms term.0) refl d.0 h)
  where
    there : (t : Option Term) → slice_get env.terms term.0 ≡ t → is_made_term t ≡ false → IsOpening (making_of t) t → IsExtractable env (record { term = term; role = Extractor })
    there None e unmade g = absurd g
    there (Some t) e unmade g = extractable_kind env term t e unmade g

-- what built patterns call are extractors
mutual
  pattern_extractable : (env : Environment) (p : Pattern) → IsBuiltPattern env.terms p → (o : CalledTerm) → Contains (extracted_by env p) o → IsExtractable env o
  pattern_extractable env (pattern.Var of x) h o c = absurd (none_contained o c)
  pattern_extractable env (pattern.ConstBool b) h o c = absurd (none_contained o c)
  pattern_extractable env (pattern.ConstInt of n) h o c = absurd (none_contained o c)
  pattern_extractable env (pattern.ConstPrim of name) h o c = absurd (none_contained o c)
  pattern_extractable env (pattern.Wildcard of) h o c = absurd (none_contained o c)
  pattern_extractable env (pattern.Term of term ps) h o c = ⊎_elim (λ d. term_extractable env term o h.0 d) (λ d. patterns_extractable env ps h.2 o d) (Contains-append_cases (unless_made env Extractor term) (extracted_by_all env ps) o c)
  pattern_extractable env (pattern.BindPattern of x p) h o c = pattern_extractable env p h o c
  pattern_extractable env (pattern.And of ps) h o c = patterns_extractable env ps h o c

  patterns_extractable : (env : Environment) (ps : Patterns) → AreBuiltPatterns env.terms ps → (o : CalledTerm) → Contains (extracted_by_all env ps) o → IsExtractable env o
  patterns_extractable env NoPattern h o c = absurd (none_contained o c)
  patterns_extractable env (APattern p ps) h o c = ⊎_elim (λ d. pattern_extractable env p h.0 o d) (λ d. patterns_extractable env ps h.1 o d) (Contains-append_cases (extracted_by env p) (extracted_by_all env ps) o c)

arguments_extractable : (env : Environment) (ps : List Pattern) → AllByRecursion (IsBuiltPattern env.terms) ps → (o : CalledTerm) → Contains (extracted_in env ps) o → IsExtractable env o
arguments_extractable env [] h o c = absurd (none_contained o c)
arguments_extractable env (p ∷ ps) h o c = ⊎_elim (λ d. pattern_extractable env p h.0 o d) (λ d. arguments_extractable env ps h.1 o d) (Contains-append_cases (extracted_by env p) (extracted_in env ps) o c)

-- a term that is called as a constructor or as an extractor
abbrev IsServed : Environment → CalledTerm → Type 0
IsServed env o = IsCallable env o ⊎ IsExtractable env o

-- what conditions call
conditions_served : (env : Environment) (cs : List IfLet) → AllByRecursion (IsBuiltIfLet env.terms) cs → (o : CalledTerm) → Contains (called_in_iflets env cs) o → IsServed env o
conditions_served env [] b o c = absurd (none_contained o c)
conditions_served env (i ∷ cs) b o c =
    ⊎_elim (λ d. ⊎_elim (λ k. inl (expr_callable env i.rhs b.0.rhs (pure_terms env.terms i.rhs b.0.calls) o k)) (λ k. inr (pattern_extractable env i.lhs b.0.lhs o k)) (Contains-append_cases (called_by env i.rhs) (extracted_by env i.lhs) o d))
    (λ d. conditions_served env cs b.1 o d) (Contains-append_cases (called_by env i.rhs ++ extracted_by env i.lhs) (called_in_iflets env cs) o c)

rule_served : (env : Environment) (r : Rule) → IsBuiltRule env.terms r → CallsBuiltTerms env.terms r → (o : CalledTerm) → Contains (called_in env r) o → IsServed env o
rule_served env r b h o c =
    ⊎_elim (λ d. ⊎_elim (λ k. inr (arguments_extractable env r.args (recursion_from_All (IsBuiltPattern env.terms) r.args b.args) o k))
    (λ k. conditions_served env r.iflets (recursion_from_All (IsBuiltIfLet env.terms) r.iflets b.iflets) o k) (Contains-append_cases (extracted_in env r.args) (called_in_iflets env r.iflets) o d))
    (λ d. inl (expr_callable env r.rhs b.rhs h o d)) (Contains-append_cases (extracted_in env r.args ++ called_in_iflets env r.iflets) (called_by env r.rhs) o c)

rules_served : (env : Environment) (rules : List Rule) → AllByRecursion (IsBuiltRule env.terms) rules → AllByRecursion (CallsBuiltTerms env.terms) rules → (o : CalledTerm) → Contains (called env rules) o → IsServed env o
rules_served env [] b h o c = absurd (none_contained o c)
rules_served env (r ∷ rules) b h o c = ⊎_elim (λ d. rule_served env r b.0 h.0 o d) (λ d. rules_served env rules b.1 h.1 o d) (Contains-append_cases (called_in env r) (called env rules) o c)

-- ---- what is asked of it

abbrev asked_of : (env : Environment) (o : CalledTerm) → IsCallable env o → Service
asked_of env o x = record { callee = x.callee; pure = x.pure; kind = kind_by x.multi x.partial; types = x.term.ret_ty ∷ [] }

-- a call goes to the term's callee, by turns or by cases
calls_to : (env : Environment) (t : Term) (pure multi partial recursive : Bool) (by : ConstructorKind) (x : ExtractorKind) (callee : Callee) → callee_by env t by ≡ Some callee → service_by Constructor (Some t) (calling_by (kind_by multi partial) (impure_callee env t (term_kind.Decl pure multi partial recursive by x)) (pure_callee env t (term_kind.Decl pure multi partial recursive by x)))
    ≡ Some (record { callee = callee; pure = pure; kind = kind_by multi partial; types = t.ret_ty ∷ [] })
calls_to env t false multi partial recursive by x callee to = ap (λ (c : Option Callee). service_by Constructor (Some t) (calling_by (kind_by multi partial) c None)) to
calls_to env t true multi partial recursive by x callee to = ap (λ (c : Option Callee). service_by Constructor (Some t) (calling_by (kind_by multi partial) None c)) to

service_is : (env : Environment) (o : CalledTerm) (x : IsCallable env o) → service_of env o ≡ Some (asked_of env o x)
service_is env o x =
    subst (λ (r : Role). service_by r (slice_get env.terms o.term.0) (called_as env o.term r) ≡ Some (asked_of env o x)) (sym x.role)
    (subst (λ (t : Option Term). service_by Constructor t (calling_of env t) ≡ Some (asked_of env o x)) (sym x.found)
    (subst (λ (k : TermKind). service_by Constructor (Some x.term) (calling_by (kind_of k) (impure_callee env x.term k) (pure_callee env x.term k)) ≡ Some (asked_of env o x)) (sym x.kind)
    (calls_to env x.term x.pure x.multi x.partial x.recursive x.by x.extractor x.callee x.to)))

-- the same of an extractor
abbrev extraction_of : (env : Environment) (o : CalledTerm) → IsExtractable env o → Service
extraction_of env o x = record { callee = External (sym_text env x.func); pure = true; kind = extractor_kind x.multi x.infallible; types = x.term.arg_tys }

extraction_is : (env : Environment) (o : CalledTerm) (x : IsExtractable env o) → service_of env o ≡ Some (extraction_of env o x)
extraction_is env o x =
    subst (λ (r : Role). service_by r (slice_get env.terms o.term.0) (called_as env o.term r) ≡ Some (extraction_of env o x)) (sym x.role)
    (subst (λ (t : Option Term). service_by Extractor t (extracting_of env t) ≡ Some (extraction_of env o x)) (sym x.found)
    (subst (λ (k : TermKind). service_by Extractor (Some x.term) (extracting_kind env k) ≡ Some (extraction_of env o x)) (sym x.kind) refl))

-- values of types that have some
pub values_of : (env : Environment) (tys : List TypeId) → AllByRecursion (HasValue env) tys → (vs : List Value) × HaveTypes env vs tys
values_of env [] h = ([], tt)
values_of env (ty ∷ tys) h =
    let vs = values_of env tys h.1 in
    (h.0.0 ∷ vs.0, (h.0.1, vs.1))

extraction_fits : (env : Environment) (multi infallible : Bool) (tys : List TypeId) → AllByRecursion (HasValue env) tys → (a : Answer) × Fits env (extractor_kind multi infallible) tys a
extraction_fits env true infallible tys h = (Several [], tt)
extraction_fits env false false tys h = (Nothing, tt)
extraction_fits env false true tys h = let vs = values_of env tys h in (Plain vs.0, vs.1)

answer_fits : (env : Environment) (multi partial : Bool) (ty : TypeId) (v : Value) → HasType env v ty → (a : Answer) × Fits env (kind_by multi partial) (ty ∷ []) a
answer_fits env true partial ty v h = (Several [], tt)
answer_fits env false true ty v h = (Nothing, tt)
answer_fits env false false ty v h = (Plain (v ∷ []), (h, tt))

-- ---- no two terms have one external function

-- the functions after those of one term
behind_both : (env : Environment) (x : Term) (fs : List TraitFn) → IsDistinct bytes_eq (fn_names (fns_before env x fs)) → IsDistinct bytes_eq (fn_names fs)
behind_both env x fs d = behind_one (constructor_fn_of env x) fs (behind_one (extractor_fn_of env x) (cons_option (constructor_fn_of env x) fs) d)

-- a kind of functions, of which each term has at most one, apart from those of the terms after it
record IsFnKind (env : Environment) (fn_of : Term → Option TraitFn) : Type 0 where
  apart : (x : Term) (fs : List TraitFn) (f g : TraitFn) → fn_of x ≡ Some f → IsDistinct bytes_eq (fn_names (fns_before env x fs)) → Contains fs g → f.name ≡ g.name → ⊥
  among : (ts : List Term) (i : ℕ) (t : Term) (f : TraitFn) → slice_get ts i ≡ Some t → fn_of t ≡ Some f → Contains (trait_fns_in env ts) f

of_constructors : (env : Environment) → IsFnKind env (constructor_fn_of env)
of_constructors env = record {
  apart = λ x fs f g is d c same. apart_from (constructor_fn_of env x) fs f g is (behind_one (extractor_fn_of env x) (cons_option (constructor_fn_of env x) fs) d) c same;
  among = fn_contained env;
}

of_extractors : (env : Environment) → IsFnKind env (extractor_fn_of env)
of_extractors env = record {
  apart = λ x fs f g is d c same. apart_from (extractor_fn_of env x) (cons_option (constructor_fn_of env x) fs) f g is d (after_option (constructor_fn_of env x) fs g c) same;
  among = extractor_contained env;
}

-- terms with one such function are one
one_place : (env : Environment) (fn_of : Term → Option TraitFn) → IsFnKind env fn_of → (ts : List Term) (i j : ℕ) (t u : Term) (f g : TraitFn) → IsDistinct bytes_eq (fn_names (trait_fns_in env ts)) → slice_get ts i ≡ Some t → slice_get ts j ≡ Some u
    → fn_of t ≡ Some f → fn_of u ≡ Some g → f.name ≡ g.name → i ≡ j
one_place env fn_of of [] i j t u f g d a b k l same = cc
one_place env fn_of of (x ∷ ts) zero zero t u f g d a b k l same = refl
one_place env fn_of of (x ∷ ts) zero (suc j) t u f g d a b k l same = absurd (of.apart x (trait_fns_in env ts) f g (ap fn_of (the_term x t a) ∙ k) d (of.among ts j u g b l) same)
  where
    the_term : (p q : Term) → Some p ≡ Some q → p ≡ q
    the_term p q e = cc
one_place env fn_of of (x ∷ ts) (suc i) zero t u f g d a b k l same = absurd (of.apart x (trait_fns_in env ts) g f (ap fn_of (the_term x u b) ∙ l) d (of.among ts i t f a k) (sym same))
  where
    the_term : (p q : Term) → Some p ≡ Some q → p ≡ q
    the_term p q e = cc
one_place env fn_of of (x ∷ ts) (suc i) (suc j) t u f g d a b k l same = ap suc (one_place env fn_of of ts i j t u f g (behind_both env x (trait_fns_in env ts) d) a b k l same)

-- ---- no two terms have one name

all_at : (P : List ℕ → Type 0) (name : Term → List ℕ) (xs : List Term) (j : ℕ) (x : Term) → AllByRecursion P (map name xs) → slice_get xs j ≡ Some x → P (name x)
all_at P name [] j x h e = cc
all_at P name (y ∷ xs) zero x h e = subst (λ z. P (name z)) (the_one y x e) h.0
  where
    the_one : (p q : Term) → Some p ≡ Some q → p ≡ q
    the_one p q k = cc
all_at P name (y ∷ xs) (suc j) x h e = all_at P name xs j x h.1 e

named_apart : (name : Term → List ℕ) (x t u : Term) (ts : List Term) (j : ℕ) → Some x ≡ Some t → AllByRecursion (λ y. bytes_eq (name x) y ≡ false) (map name ts) → slice_get ts j ≡ Some u → name t ≡ name u → ⊥
named_apart name x t u ts j e h k same =
    let apart : bytes_eq (name x) (name u) ≡ false = all_at (λ y. bytes_eq (name x) y ≡ false) name ts j u h k in
    let one : name x ≡ name u = ap name (the_one x t e) ∙ same in
    let equal : bytes_eq (name x) (name u) ≡ true = (bytes_eq-Decides (name x) (name u)).1 one in
    cc
  where
    the_one : (p q : Term) → Some p ≡ Some q → p ≡ q
    the_one p q k = cc

named_once : (name : Term → List ℕ) (ts : List Term) (i j : ℕ) (t u : Term) → IsDistinct bytes_eq (map name ts) → slice_get ts i ≡ Some t → slice_get ts j ≡ Some u → name t ≡ name u → i ≡ j
unfolding IsDistinct
named_once name [] i j t u d a b same = cc
named_once name (x ∷ ts) zero zero t u d a b same = refl
named_once name (x ∷ ts) zero (suc j) t u d a b same = absurd (named_apart name x t u ts j a d.0 b same)
named_once name (x ∷ ts) (suc i) zero t u d a b same = absurd (named_apart name x u t ts i b d.0 a (sym same))
named_once name (x ∷ ts) (suc i) (suc j) t u d a b same = ap suc (named_once name ts i j t u d.1 a b same)

-- ---- of one callee the same is asked

fn_is : (env : Environment) (t : Term) (pure multi partial recursive : Bool) (func : Sym) (x : ExtractorKind) → t.kind ≡ term_kind.Decl pure multi partial recursive (constructor.External func) x → constructor_fn_of env t ≡ Some (constructor_fn env t func)
fn_is env t pure multi partial recursive func x e = ap (λ (k : TermKind). option_map (constructor_fn env t) (func_of k)) e

external_name : (a b : List ℕ) → Some (External a) ≡ Some (External b) → a ≡ b
external_name a b e = cc

internal_name : (a b : List ℕ) → Some (Internal a) ≡ Some (Internal b) → a ≡ b
internal_name a b e = cc

the_service : (s t : Service) → Some s ≡ Some t → s ≡ t
the_service s t e = cc

-- the names of an environment's terms
abbrev names_of : Environment → List (List ℕ)
names_of env = map (λ (t : Term). sym_text env t.name) env.terms

one_term : (env : Environment) → HasFnNames env → IsDistinct bytes_eq (names_of env) → (o p : CalledTerm) (x : IsCallable env o) (y : IsCallable env p) → x.callee ≡ y.callee → o.term.0 ≡ p.term.0
one_term env names apart o p x y same = by x.by y.by x.kind y.kind (x.to ∙ ap Some same ∙ sym y.to) x.to
  where
    by : (a b : ConstructorKind) → x.term.kind ≡ term_kind.Decl x.pure x.multi x.partial x.recursive a x.extractor → y.term.kind ≡ term_kind.Decl y.pure y.multi y.partial y.recursive b y.extractor
        → callee_by env x.term a ≡ callee_by env y.term b → callee_by env x.term a ≡ Some x.callee → o.term.0 ≡ p.term.0
    by (constructor.External f) (constructor.External g) k l e t =
        one_place env (constructor_fn_of env) (of_constructors env) env.terms o.term.0 p.term.0 x.term y.term (constructor_fn env x.term f) (constructor_fn env y.term g) names.distinct x.found y.found (fn_is env x.term x.pure x.multi x.partial x.recursive f x.extractor k) (fn_is env y.term y.pure y.multi y.partial y.recursive g y.extractor l)
        (external_name (sym_text env f) (sym_text env g) e)
    by constructor.Internal constructor.Internal k l e t = named_once (λ (u : Term). sym_text env u.name) env.terms o.term.0 p.term.0 x.term y.term apart x.found y.found (internal_name (sym_text env x.term.name) (sym_text env y.term.name) e)
    by (constructor.External f) constructor.Internal k l e t = cc
    by (constructor.External f) constructor.Absent k l e t = cc
    by constructor.Internal (constructor.External g) k l e t = cc
    by constructor.Internal constructor.Absent k l e t = cc
    by constructor.Absent b k l e t = cc

asked_alike : (env : Environment) → HasFnNames env → IsDistinct bytes_eq (names_of env) → (o p : CalledTerm) (x : IsCallable env o) (y : IsCallable env p) (s t : Service) → service_of env o ≡ Some s → service_of env p ≡ Some t → s.callee ≡ t.callee → s ≡ t
asked_alike env names apart o p x y s t a b same =
    let first : asked_of env o x ≡ s = the_service (asked_of env o x) s (sym (service_is env o x) ∙ a) in
    let second : asked_of env p y ≡ t = the_service (asked_of env p y) t (sym (service_is env p y) ∙ b) in
    let place = one_term env names apart o p x y (ap (λ (z : Service). z.callee) first ∙ same ∙ sym (ap (λ (z : Service). z.callee) second)) in
    let one : o ≡ p = ap (λ (r : Role). record { term = o.term; role = r }) x.role ∙ ap (λ (n : ℕ). record { term = record { 0 = n }; role = Constructor }) place ∙ sym (ap (λ (r : Role). record { term = p.term; role = r }) y.role) in
    the_service s t (sym a ∙ ap (service_of env) one ∙ b)

-- so of extractors
extraction_fn : (env : Environment) (o : CalledTerm) (x : IsExtractable env o) → extractor_fn_of env x.term ≡ Some (extractor_fn env x.term (x.func, extractor_kind x.multi x.infallible))
extraction_fn env o x = ap (λ (k : TermKind). option_map (extractor_fn env x.term) (extracted_of k)) x.kind

extracted_alike : (env : Environment) → HasFnNames env → (o p : CalledTerm) (x : IsExtractable env o) (y : IsExtractable env p) (s t : Service) → service_of env o ≡ Some s → service_of env p ≡ Some t → s.callee ≡ t.callee → s ≡ t
extracted_alike env names o p x y s t a b same =
    let first : extraction_of env o x ≡ s = the_service (extraction_of env o x) s (sym (extraction_is env o x) ∙ a) in
    let second : extraction_of env p y ≡ t = the_service (extraction_of env p y) t (sym (extraction_is env p y) ∙ b) in
    let callees = ap (λ (z : Service). z.callee) first ∙ same ∙ sym (ap (λ (z : Service). z.callee) second) in
    let place = one_place env (extractor_fn_of env) (of_extractors env) env.terms o.term.0 p.term.0 x.term y.term _ _ names.distinct x.found y.found (extraction_fn env o x) (extraction_fn env p y) (external_name (sym_text env x.func) (sym_text env y.func) (ap Some callees)) in
    let one : o ≡ p = ap (λ (r : Role). record { term = o.term; role = r }) x.role ∙ ap (λ (n : ℕ). record { term = record { 0 = n }; role = Extractor }) place ∙ sym (ap (λ (r : Role). record { term = p.term; role = r }) y.role) in
    the_service s t (sym a ∙ ap (service_of env) one ∙ b)

-- no extractor is called as a constructor is
roles_apart : (env : Environment) → HasFnNames env → (o p : CalledTerm) (x : IsCallable env o) (y : IsExtractable env p) → x.callee ≡ External (sym_text env y.func) → ⊥
roles_apart env names o p x y same = by x.by x.kind (x.to ∙ ap Some same)
  where
    by : (c : ConstructorKind) → x.term.kind ≡ term_kind.Decl x.pure x.multi x.partial x.recursive c x.extractor → callee_by env x.term c ≡ Some (External (sym_text env y.func)) → ⊥
    by (constructor.External func) e to =
        extractor_apart env env.terms p.term.0 o.term.0 y.term x.term _ (constructor_fn env x.term func) names.distinct y.found x.found (extraction_fn env p y) (fn_is env x.term x.pure x.multi x.partial x.recursive func x.extractor e)
        (sym (external_name (sym_text env func) (sym_text env y.func) to))
    by constructor.Internal e to = cc
    by constructor.Absent e to = cc

mixed : (env : Environment) → HasFnNames env → (o p : CalledTerm) (x : IsCallable env o) (y : IsExtractable env p) (s t : Service) → service_of env o ≡ Some s → service_of env p ≡ Some t → s.callee ≡ t.callee → ⊥
mixed env names o p x y s t a b same =
    let first : asked_of env o x ≡ s = the_service (asked_of env o x) s (sym (service_is env o x) ∙ a) in
    let second : extraction_of env p y ≡ t = the_service (extraction_of env p y) t (sym (extraction_is env p y) ∙ b) in
    roles_apart env names o p x y (ap (λ (z : Service). z.callee) first ∙ same ∙ sym (ap (λ (z : Service). z.callee) second))

-- ---- the law

-- the types of what a called term answers have values
inhabited : (env : Environment) (o : CalledTerm) (t : Term) (role : Role) → slice_get env.terms o.term.0 ≡ Some t → o.role ≡ role → AnswersInhabited env o → AllByRecursion (HasValue env) (result_types role t)
inhabited env o t role found is h =
    subst (λ (r : Role). AllByRecursion (HasValue env) (result_types r t)) is (subst (λ (u : Option Term). IsSomeAnd u (λ (v : Term). AllByRecursion (HasValue env) (result_types o.role v))) found h)

served_answer : (env : Environment) (o : CalledTerm) → AnswersInhabited env o → IsServed env o → IsAnswerable env o
served_answer env o values (inl x) =
    let v = (inhabited env o x.term Constructor x.found x.role values).0 in
    let a = answer_fits env x.multi x.partial x.term.ret_ty v.0 v.1 in
    record { service = asked_of env o x; is = service_is env o x; answer = a.0; fits = a.1 }
served_answer env o values (inr x) =
    let a = extraction_fits env x.multi x.infallible x.term.arg_tys (inhabited env o x.term Extractor x.found x.role values) in
    record { service = extraction_of env o x; is = extraction_is env o x; answer = a.0; fits = a.1 }

served_alike : (env : Environment) → HasFnNames env → IsDistinct bytes_eq (names_of env) → (o p : CalledTerm) → IsServed env o → IsServed env p → (s t : Service) → service_of env o ≡ Some s → service_of env p ≡ Some t → s.callee ≡ t.callee → s ≡ t
served_alike env names apart o p (inl x) (inl y) s t a b same = asked_alike env names apart o p x y s t a b same
served_alike env names apart o p (inr x) (inr y) s t a b same = extracted_alike env names o p x y s t a b same
served_alike env names apart o p (inl x) (inr y) s t a b same = absurd (mixed env names o p x y s t a b same)
served_alike env names apart o p (inr x) (inl y) s t a b same = absurd (mixed env names p o y x t s b a (sym same))

-- the terms that built rules call may be answered, if the types of their answers have values
pub answerable : (env : Environment) (rules : List Rule) → HasFnNames env → IsDistinct bytes_eq (names_of env) → AllByRecursion (IsBuiltRule env.terms) rules → AllByRecursion (CallsBuiltTerms env.terms) rules
    → ((o : CalledTerm) → Contains (called env rules) o → AnswersInhabited env o) → AreAnswerable env (called env rules)
answerable env rules names apart built terms values = record {
  each = λ o c. served_answer env o (values o c) (rules_served env rules built terms o c);
  alike = λ o p s u c d a b same. served_alike env names apart o p (rules_served env rules built terms o c) (rules_served env rules built terms p d) s u a b same;
}
