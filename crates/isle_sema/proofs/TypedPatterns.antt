-- Patterns whose parts break no row have the types that are expected, and each variable after them stands in one of them.
use Rattle.std.proofs.Common.{◌≡◌, ◌⊎◌, ⊎_elim, inl, inr, ℕ, Bool, true, false, cond, List, [], ◌∷◌, ◌++◌, length, map, Option, Some, None, refl, sym, ap, ◌∙◌, subst, arith}
use Rattle.std.specs.Prelude.{ℤ, ◌==◌, not, Contains, option_map}
use Rattle.std.specs.List.{list_any}
use Rattle.std.specs.Str.{bytes_eq}
use Rattle.std.proofs.lemmas.Bool.{or_parts, eqb-true, not-false}
use Rattle.std.proofs.lemmas.List.{length-map, append-nil}
use Rattle.std.proofs.lemmas.List.Elements.{Contains-append_left, Contains-append_right}
use Rattle.std.proofs.lemmas.Option.{same_Some}
use Rattle.std.proofs.lemmas.Slice.Eq.{bytes_eq-Decides}
use Rattle.isle_core.specs.declared.TermId.{TermId}
use Rattle.isle_core.specs.declared.TypeId.{TypeId}
use Rattle.isle_core.specs.declared.VarId.{VarId}
use Rattle.isle_core.specs.declared.types.TypeEnv.{TypeEnv}
use Rattle.isle_core.specs.Constants.{const_type}
use Rattle.isle_core.specs.Pattern as core_pattern
use Rattle.isle_core.specs.Pattern.{Pattern as CorePattern}
use Rattle.isle_core.specs.Rule.{Environment}
use Rattle.isle_core.specs.RuleViews.{patterns_of as core_patterns}
use Rattle.isle_core.proofs.Contained.{head_contained, tail_contained}
use Rattle.isle_ast.specs.Tree as tree
use Rattle.isle_ast.specs.Tree.{Pattern, Patterns, NoPattern, APattern, Def}
use Rattle.isle_declarations.specs.Signatures.{Signature, term_named}
use Rattle.isle_declarations.specs.Symbols.{sym_of}
use Rattle.isle_declarations.specs.Terms.{terms}
use Rattle.isle_types.specs.Builtins.{type_id}
use Rattle.isle_types.specs.TypeEnvironment.{type_env_of}
use Rattle.isle_terms.specs.Whole.{whole_of}
use Rattle.isle_sema.specs.PatternPass.{PatternPass, term_tree, pattern_within, taken_by, and_tree, bound_tree, count_of, of_each, first_expected, later_expected, pattern_pass, patterns_pass}
use Rattle.isle_terms.specs.Scope.{is_blank}
use Rattle.isle_terms.specs.Reduced.{typed_integer}
use Rattle.isle_sema.specs.RuleRows.{differ, is_taken_misfit, is_untaken, is_mistaken, is_misplaced, is_undeclared, is_other_type, is_met_otherwise}
use Rattle.isle_terms.specs.Scope.{Scope, found_in, bound_at, met, variable}
use Rattle.isle_sema.specs.Site.{Site, TruthAt, PartAt, MetAt, TakenAt}
use Rattle.isle_core.specs.TypedVariables.{typed_variables, typed_within, all_typed}
use Rattle.isle_terms.specs.TypeNames.{type_named}
use Rattle.isle_terms.specs.Expected.{takes_truths}
use Rattle.isle_terms.specs.Whole.{Whole, termed, has_extractor, arg_types, ret_type, number_of, constant_type}
use Rattle.isle_terms.specs.Converters.{conversion, within}
use Rattle.isle_sema.specs.Templates.{templates}
use Rattle.isle_templates.specs.WrittenRule.{AreWrittenPatternsOf}
use Rattle.isle_templates.specs.WrittenType.{IsWrittenOf, AreWrittenPartsOf, AreWrittenEachOf}
use Rattle.isle_sema.proofs.Conversions.{IsConversion}
use Rattle.isle_sema.proofs.Firsts.{any_parts}
use Rattle.isle_terms.proofs.MadeTerms.{first_there}
use Rattle.isle_sema.proofs.OpenedTerms.{IsOpened}
pub use Rattle.isle_sema.proofs.RuleRoots.{IsMapped, mapped}
use Rattle.isle_terms.proofs.ScopeLaws.{local_bound, met_again, bound_new, variable_other}
use Rattle.isle_sema.proofs.TypedConstants.{integer_typed, truth_typed}

-- two types that don't differ are one
pub same_type : (of ty : TypeId) → differ (Some of) (Some ty) ≡ false → of ≡ ty
same_type of ty h = ap type_id (eqb-true of.0 ty.0 (not-false (of.0 == ty.0) h))

-- what the tree of a made term is made of
pub record IsTermTree (ty : Option TypeId) (term : Option TermId) (ps : Option (List CorePattern)) (q : CorePattern) : Type 0 where
  pub of : TypeId
  pub number : TermId
  pub parts : List CorePattern
  pub of_is : ty ≡ Some of
  pub number_is : term ≡ Some number
  pub parts_are : ps ≡ Some parts
  pub is : core_pattern.Term of number (core_patterns parts) ≡ q

pub term_tree_is : (ty : Option TypeId) (term : Option TermId) (ps : Option (List CorePattern)) (q : CorePattern) → term_tree ty term ps ≡ Some q → IsTermTree ty term ps q
term_tree_is None term ps q h = absurd cc
term_tree_is (Some ty) None ps q h = absurd cc
term_tree_is (Some ty) (Some n) None q h = absurd cc
term_tree_is (Some ty) (Some n) (Some parts) q h = record {
  of = ty;
  number = n;
  parts = parts;
  of_is = refl;
  number_is = refl;
  parts_are = refl;
  is = same_Some (core_pattern.Term ty n (core_patterns parts)) q h;
}

-- what the tree of `and` is made of
pub record IsAndTree (ty : TypeId) (ps : Option (List CorePattern)) (q : CorePattern) : Type 0 where
  pub parts : List CorePattern
  pub parts_are : ps ≡ Some parts
  pub is : core_pattern.And ty (core_patterns parts) ≡ q

and_tree_is : (ty : TypeId) (ps : Option (List CorePattern)) (q : CorePattern) → and_tree (Some ty) ps ≡ Some q → IsAndTree ty ps q
and_tree_is ty None q h = absurd cc
and_tree_is ty (Some parts) q h = record { parts = parts; parts_are = refl; is = same_Some (core_pattern.And ty (core_patterns parts)) q h }

-- what the tree of a variable at a pattern is made of
pub record IsBoundTree (v : Option (TypeId × VarId)) (p : Option CorePattern) (q : CorePattern) : Type 0 where
  pub var : TypeId × VarId
  pub inner : CorePattern
  pub var_is : v ≡ Some var
  pub inner_is : p ≡ Some inner
  pub is : core_pattern.BindPattern var.0 var.1 inner ≡ q

pub bound_tree_is : (v : Option (TypeId × VarId)) (p : Option CorePattern) (q : CorePattern) → bound_tree v p ≡ Some q → IsBoundTree v p q
bound_tree_is None p q h = absurd cc
bound_tree_is (Some v) None q h = absurd cc
bound_tree_is (Some v) (Some x) q h = record { var = v; inner = x; var_is = refl; inner_is = refl; is = same_Some (core_pattern.BindPattern v.0 v.1 x) q h }

-- the pass over `@`, by whether its name is blank
abbrev pub bind_pass : Whole → Option TypeId → Scope → List ℕ → Pattern → Bool → PatternPass
bind_pass w expected scope name p blank =
    let mid : Scope = cond blank scope (met scope name expected) in
    let inner = pattern_pass w expected mid p in
    record { tree = cond blank inner.tree (bound_tree (variable mid name) inner.tree); scope = inner.scope; sites = cond blank [] (MetAt expected (bound_at scope name) ∷ []) ++ inner.sites }

-- ---- what is known of parts and of terms

-- parts of patterns that break no row
pub record AreTakenWell (w : Whole) (sites : List Site) : Type 0 where
  pub taken : list_any (is_untaken w) sites ≡ false
  pub types : list_any (is_mistaken w) sites ≡ false
  pub placed : list_any (is_misplaced w) sites ≡ false
  pub declared : list_any is_undeclared sites ≡ false
  pub again : list_any is_met_otherwise sites ≡ false

-- so of the first ones and of the others
pub taken_parts : (w : Whole) (xs ys : List Site) → AreTakenWell w (xs ++ ys) → AreTakenWell w xs × AreTakenWell w ys
taken_parts w xs ys h =
    let a = any_parts (is_untaken w) xs ys h.taken in
    let b = any_parts (is_mistaken w) xs ys h.types in
    let c = any_parts (is_misplaced w) xs ys h.placed in
    let d = any_parts is_undeclared xs ys h.declared in
    let e = any_parts is_met_otherwise xs ys h.again in
    (record { taken = a.0; types = b.0; placed = c.0; declared = d.0; again = e.0 }, record { taken = a.1; types = b.1; placed = c.1; declared = d.1; again = e.1 })

-- the environment knows how the terms of definitions take values apart, what converters take and give, and the types of constants
pub record KnowsTerms (defs : List Def) (env : Environment) : Type 0 where
  pub opened : (name : List ℕ) (s : Signature) (number : TermId) (ty : TypeId) → termed (whole_of defs) name ≡ Some s → term_named (terms defs) name ≡ Some number → has_extractor (whole_of defs) s ≡ true → type_named defs s.ret ≡ Some ty
      → IsOpened defs env s ty number
  pub converts : (of ty : TypeId) (s : Signature) → conversion (whole_of defs) (Some of) (Some ty) ≡ Some s → IsConversion defs of ty s
  pub constant : (name : List ℕ) (ty : TypeId) → constant_type (whole_of defs) name ≡ Some ty → const_type env (sym_of (type_env_of defs).syms name) ≡ Some ty

-- ---- types

bound_type : (ty of : TypeId) (o : Option (Option TypeId)) → o ≡ Some (Some of) → is_other_type o (Some ty) ≡ false → of ≡ ty
bound_type ty of None e h = absurd cc
bound_type ty of (Some None) e h = absurd cc
bound_type ty of (Some (Some t)) e h = let is : t ≡ of = cc in sym is ∙ same_type t ty h

-- a variable that is met has the type that is expected
met_type : (scope : Scope) (name : List ℕ) (ty : TypeId) (v : TypeId × VarId) (o : Option (Option TypeId)) → bound_at scope name ≡ o → variable (met scope name (Some ty)) name ≡ Some v → is_other_type o (Some ty) ≡ false → v.0 ≡ ty
met_type scope name ty v None is h k =
    let v_is = local_bound (found_in (met scope name (Some ty)).variables name) v h in
    let same : Some (Some v.0) ≡ Some (Some ty) = sym v_is ∙ bound_new scope name (Some ty) is in
    cc
met_type scope name ty v (Some of) is h k =
    let v_is = local_bound (found_in (met scope name (Some ty)).variables name) v h in
    let stays : bound_at (met scope name (Some ty)) name ≡ Some of = ap (λ (s : Scope). bound_at s name) (met_again scope name (Some ty) of is) ∙ is in
    bound_type ty v.0 (Some of) (sym stays ∙ v_is) k

-- patterns of a list are the parts of a pattern
parts_of : (env : Environment) (given : List (Option CorePattern)) (tys : List TypeId) (qs : List CorePattern) → AreWrittenPatternsOf env given tys qs → AreWrittenPartsOf env given (Some tys) (core_patterns qs)
parts_of env given [] [] h = tt
parts_of env given [] (q ∷ qs) h = absurd h
parts_of env given (ty ∷ tys) [] h = absurd h
parts_of env given (ty ∷ tys) (q ∷ qs) h = (h.0, parts_of env given tys qs h.1)

-- patterns are of the types that are expected, if they are as many
abbrev AreTyped : List Def → Environment → Scope → Patterns → Type 0
AreTyped defs env scope ps = (tys : List TypeId) (qs : List CorePattern) → count_of ps ≡ length tys → (patterns_pass (whole_of defs) (map Some tys) scope ps).trees ≡ Some qs → AreTakenWell (whole_of defs) (patterns_pass (whole_of defs) (map Some tys) scope ps).sites
    → AreWrittenPatternsOf env (templates (whole_of defs)) tys qs

-- a term's pattern is of the type that the term gives if its parts are of its arguments' types
opened_typed : (defs : List Def) (env : Environment) (ty of : TypeId) (name : List ℕ) (s : Signature) (number : TermId) (qs : List CorePattern) → KnowsTerms defs env → termed (whole_of defs) name ≡ Some s → term_named (terms defs) name ≡ Some number
    → has_extractor (whole_of defs) s ≡ true → type_named defs s.ret ≡ Some of → of ≡ ty → ((tys : List TypeId) → map (type_named defs) s.args ≡ map Some tys → AreWrittenPatternsOf env (templates (whole_of defs)) tys qs) → IsWrittenOf env (templates (whole_of defs)) ty (core_pattern.Term of number (core_patterns qs))
opened_typed defs env ty of name s number qs knows is numbered has ret same typed =
    let m = knows.opened name s number ty is numbered has (ret ∙ ap Some same) in
    (same, m.opens, subst (λ o. AreWrittenPartsOf env (templates (whole_of defs)) o (core_patterns qs)) (sym m.parts) (parts_of env (templates (whole_of defs)) m.types qs (typed m.types m.args)))

-- so if nothing stands around it
term_typed : (defs : List Def) (env : Environment) (ty : TypeId) (scope : Scope) (ps : Patterns) (name : List ℕ) (o : Option Signature) (q : CorePattern) → KnowsTerms defs env → termed (whole_of defs) name ≡ o → AreTyped defs env scope ps
    → term_tree (ret_type (whole_of defs) o) (term_named (terms defs) name) (patterns_pass (whole_of defs) (arg_types (whole_of defs) o) scope ps).trees ≡ Some q
    → AreTakenWell (whole_of defs) (TakenAt (Some ty) o (count_of ps) ∷ (patterns_pass (whole_of defs) (arg_types (whole_of defs) o) scope ps).sites) → IsWrittenOf env (templates (whole_of defs)) ty q
term_typed defs env ty scope ps name None q knows is typed h well = absurd cc
term_typed defs env ty scope ps name (Some s) q knows is typed h well =
    let w = whole_of defs in
    let args = map (type_named defs) s.args in
    let t = term_tree_is (type_named defs s.ret) (term_named (terms defs) name) (patterns_pass w args scope ps).trees q h in
    let k = taken_parts w (TakenAt (Some ty) (Some s) (count_of ps) ∷ []) (patterns_pass w args scope ps).sites well in
    let fits = or_parts (not (count_of ps == length s.args)) (not (has_extractor w s)) (or_parts (is_taken_misfit w (Some s) (count_of ps)) false k.0.taken).0 in
    let many : count_of ps ≡ length s.args = eqb-true (count_of ps) (length s.args) (not-false (count_of ps == length s.args) fits.0) in
    let same : t.of ≡ ty = same_type t.of ty (subst (λ o. differ o (Some ty) ≡ false) t.of_is (or_parts (differ (type_named defs s.ret) (Some ty)) false k.0.types).0) in
    subst (IsWrittenOf env (templates (whole_of defs)) ty) t.is (opened_typed defs env ty t.of name s t.number t.parts knows is t.number_is (not-false (has_extractor w s) fits.1) t.of_is same
    (λ tys are.
    let long : length s.args ≡ length tys = sym (length-map s.args (type_named defs)) ∙ ap length are ∙ length-map tys Some in
    let trees = subst (λ (os : List (Option TypeId)). (patterns_pass w os scope ps).trees ≡ Some t.parts) are t.parts_are in
    let sites = subst (λ (os : List (Option TypeId)). AreTakenWell w (patterns_pass w os scope ps).sites) are k.1 in
    typed tys t.parts (many ∙ long) trees sites))

-- what a pattern within a converter is made of
pub record IsWithin (w : Whole) (by : Option Signature) (p : Option CorePattern) (q : CorePattern) : Type 0 where
  pub inner : CorePattern
  pub inner_is : p ≡ Some inner
  pub variables : typed_variables q ≡ typed_variables inner

pub within_is : (w : Whole) (by : Option Signature) (p : Option CorePattern) (q : CorePattern) → pattern_within w by p ≡ Some q → IsWithin w by p q
within_is w None p q h = record { inner = q; inner_is = h; variables = refl }
within_is w (Some s) None q h = let t = term_tree_is (ret_type w (Some s)) (number_of w (Some s)) None q h in let bad : None ≡ Some t.parts = t.parts_are in absurd cc
within_is w (Some s) (Some inner) q h =
    let t = term_tree_is (ret_type w (Some s)) (number_of w (Some s)) (Some (inner ∷ [])) q h in
    let parts : inner ∷ [] ≡ t.parts = same_Some (inner ∷ []) t.parts t.parts_are in
    record {
      inner = inner;
      inner_is = refl;
      variables = ap typed_variables (sym t.is) ∙ ap (λ (qs : List CorePattern). typed_within (core_patterns qs)) (sym parts) ∙ append-nil (typed_variables inner);
    }

-- the converter takes a value of the type apart, into one of the other type
converter_typed : (defs : List Def) (env : Environment) (ty of : TypeId) (s : Signature) (p : Option CorePattern) (q : CorePattern) → KnowsTerms defs env → conversion (whole_of defs) (Some of) (Some ty) ≡ Some s → AreTakenWell (whole_of defs) (TakenAt (Some ty) (Some s) 1 ∷ [])
    → ((x : CorePattern) → p ≡ Some x → IsWrittenOf env (templates (whole_of defs)) of x) → pattern_within (whole_of defs) (Some s) p ≡ Some q → IsWrittenOf env (templates (whole_of defs)) ty q
converter_typed defs env ty of s None q knows is well typed h = let t = term_tree_is (ret_type (whole_of defs) (Some s)) (number_of (whole_of defs) (Some s)) None q h in let bad : None ≡ Some t.parts = t.parts_are in absurd cc
converter_typed defs env ty of s (Some x) q knows is well typed h =
    let w = whole_of defs in
    let c = knows.converts of ty s is in
    let t = term_tree_is (type_named defs s.ret) (term_named (terms defs) s.term) (Some (x ∷ [])) q h in
    let parts : x ∷ [] ≡ t.parts = same_Some (x ∷ []) t.parts t.parts_are in
    let fits = or_parts (not (1 == length s.args)) (not (has_extractor w s)) (or_parts (is_taken_misfit w (Some s) 1) false well.taken).0 in
    let same : t.of ≡ ty = same_Some t.of ty (sym t.of_is ∙ c.ret) in
    subst (IsWrittenOf env (templates (whole_of defs)) ty) t.is (opened_typed defs env ty t.of s.term s t.number t.parts knows c.there t.number_is (not-false (has_extractor w s) fits.1) t.of_is same
    (λ tys are. subst (λ (qs : List CorePattern). AreWrittenPatternsOf env (templates (whole_of defs)) tys qs) parts (one_typed tys (sym c.args ∙ are) (typed x refl))))
  where
    one_typed : (tys : List TypeId) → Some of ∷ [] ≡ map Some tys → IsWrittenOf env (templates (whole_of defs)) of x → AreWrittenPatternsOf env (templates (whole_of defs)) tys (x ∷ [])
    one_typed [] e k = absurd cc
    one_typed (t ∷ []) e k = let same : of ≡ t = cc in (subst (λ (y : TypeId). IsWrittenOf env (templates (whole_of defs)) y x) same k, tt)
    one_typed (t ∷ u ∷ tys) e k = absurd cc

-- a term's pattern is of the type, within a converter if it is of another one
within_typed : (defs : List Def) (env : Environment) (ty : TypeId) (scope : Scope) (ps : Patterns) (name : List ℕ) (q : CorePattern) (of : Option TypeId) (by : Option Signature) → KnowsTerms defs env → AreTyped defs env scope ps → ret_type (whole_of defs) (termed (whole_of defs) name) ≡ of
    → conversion (whole_of defs) of (Some ty) ≡ by → pattern_within (whole_of defs) by (term_tree (ret_type (whole_of defs) (termed (whole_of defs) name)) (term_named (terms defs) name) (patterns_pass (whole_of defs) (arg_types (whole_of defs) (termed (whole_of defs) name)) scope ps).trees) ≡ Some q
    → AreTakenWell (whole_of defs) (taken_by by (Some ty) ++ TakenAt (within by of (Some ty)) (termed (whole_of defs) name) (count_of ps) ∷ (patterns_pass (whole_of defs) (arg_types (whole_of defs) (termed (whole_of defs) name)) scope ps).sites) → IsWrittenOf env (templates (whole_of defs)) ty q
within_typed defs env ty scope ps name q of None knows typed ret is h well = term_typed defs env ty scope ps name (termed (whole_of defs) name) q knows refl typed h well
within_typed defs env ty scope ps name q None (Some s) knows typed ret is h well = absurd cc
within_typed defs env ty scope ps name q (Some of) (Some s) knows typed ret is h well =
    let w = whole_of defs in
    let o = termed w name in
    let k = taken_parts w (TakenAt (Some ty) (Some s) 1 ∷ []) (TakenAt (Some of) o (count_of ps) ∷ (patterns_pass w (arg_types w o) scope ps).sites) well in
    let inner = term_tree (ret_type w o) (term_named (terms defs) name) (patterns_pass w (arg_types w o) scope ps).trees in
    converter_typed defs env ty of s inner q knows is k.0 (λ x e. term_typed defs env of scope ps name o x knows refl typed e k.1) h

-- `@` is of the type if its pattern is
bind_typed : (defs : List Def) (env : Environment) (ty : TypeId) (scope : Scope) (name : List ℕ) (p : Pattern) (q : CorePattern) (blank : Bool)
    → ((mid : Scope) (x : CorePattern) → (pattern_pass (whole_of defs) (Some ty) mid p).tree ≡ Some x → AreTakenWell (whole_of defs) (pattern_pass (whole_of defs) (Some ty) mid p).sites → IsWrittenOf env (templates (whole_of defs)) ty x)
    → (bind_pass (whole_of defs) (Some ty) scope name p blank).tree ≡ Some q → AreTakenWell (whole_of defs) (bind_pass (whole_of defs) (Some ty) scope name p blank).sites → IsWrittenOf env (templates (whole_of defs)) ty q
bind_typed defs env ty scope name p q true go h well = go scope q h well
bind_typed defs env ty scope name p q false go h well =
    let w = whole_of defs in
    let mid = met scope name (Some ty) in
    let inner = pattern_pass w (Some ty) mid p in
    let b = bound_tree_is (variable mid name) inner.tree q h in
    let k = taken_parts w (MetAt (Some ty) (bound_at scope name) ∷ []) inner.sites well in
    subst (IsWrittenOf env (templates (whole_of defs)) ty) b.is (
      met_type scope name ty b.var (bound_at scope name) refl b.var_is (or_parts (is_other_type (bound_at scope name) (Some ty)) false k.0.again).0,
      go mid b.inner b.inner_is k.1,
    )

mutual
  -- a pattern at this type is of it
  pub pattern_typed : (defs : List Def) (env : Environment) (ty : TypeId) (scope : Scope) (p : Pattern) (q : CorePattern) → KnowsTerms defs env → env.types ≡ type_env_of defs → (pattern_pass (whole_of defs) (Some ty) scope p).tree ≡ Some q
      → AreTakenWell (whole_of defs) (pattern_pass (whole_of defs) (Some ty) scope p).sites → IsWrittenOf env (templates (whole_of defs)) ty q
  pattern_typed defs env ty scope (tree.Int n) q knows types h well =
      let m = mapped (λ (v : TypeId × ℤ). core_pattern.ConstInt v.0 v.1) (typed_integer (type_env_of defs) (Some ty) n) q h in
      subst (IsWrittenOf env (templates (whole_of defs)) ty) m.is (integer_typed env ty n m.from (ap (λ (ts : TypeEnv). typed_integer ts (Some ty) n) types ∙ m.there))
  pattern_typed defs env ty scope (tree.Truth b) q knows types h well =
      let takes = not-false (takes_truths (type_env_of defs) (Some ty)) (or_parts (is_misplaced (whole_of defs) (TruthAt (Some ty))) false well.placed).0 in
      subst (IsWrittenOf env (templates (whole_of defs)) ty) (same_Some (core_pattern.ConstBool b) q h) (truth_typed defs env b ty types (ap (λ (ts : TypeEnv). takes_truths ts (Some ty)) types ∙ takes))
  pattern_typed defs env ty scope tree.Wildcard q knows types h well = subst (IsWrittenOf env (templates (whole_of defs)) ty) (same_Some (core_pattern.Wildcard ty) q h) refl
  pattern_typed defs env ty scope (tree.Var name) q knows types h well =
      let m = mapped (λ (v : TypeId × VarId). core_pattern.Var v.0 v.1) (variable (met scope name (Some ty)) name) q h in
      subst (IsWrittenOf env (templates (whole_of defs)) ty) m.is (met_type scope name ty m.from (bound_at scope name) refl m.there (or_parts (is_other_type (bound_at scope name) (Some ty)) false well.again).0)
  pattern_typed defs env ty scope (tree.Const name) q knows types h well =
      let found = constant_type (whole_of defs) name in
      let m = mapped (λ (t : TypeId). core_pattern.ConstPrim t (sym_of (type_env_of defs).syms name)) found q h in
      let same : m.from ≡ ty = same_type m.from ty (subst (λ o. differ o (Some ty) ≡ false) m.there (or_parts (differ found (Some ty)) false well.types).0) in
      subst (IsWrittenOf env (templates (whole_of defs)) ty) m.is (same, knows.constant name ty (m.there ∙ ap Some same))
  pattern_typed defs env ty scope (tree.Term name ps) q knows types h well =
      let of = ret_type (whole_of defs) (termed (whole_of defs) name) in
      within_typed defs env ty scope ps name q of (conversion (whole_of defs) of (Some ty)) knows (λ tys qs same trees sites. patterns_typed defs env tys scope ps qs knows types same trees sites) refl refl h well
  pattern_typed defs env ty scope (tree.Bind name p) q knows types h well = bind_typed defs env ty scope name p q (is_blank name) (λ mid x t k. pattern_typed defs env ty mid p x knows types t k) h well
  pattern_typed defs env ty scope (tree.And ps) q knows types h well =
      let w = whole_of defs in
      let parts = patterns_pass w (of_each (Some ty) ps) scope ps in
      let a = and_tree_is ty parts.trees q h in
      subst (IsWrittenOf env (templates (whole_of defs)) ty) a.is (refl, each_typed defs env ty scope ps a.parts knows types a.parts_are (taken_parts w (PartAt ∷ []) parts.sites well).1)

  -- so of each of several on one value
  each_typed : (defs : List Def) (env : Environment) (ty : TypeId) (scope : Scope) (ps : Patterns) (qs : List CorePattern) → KnowsTerms defs env → env.types ≡ type_env_of defs
      → (patterns_pass (whole_of defs) (of_each (Some ty) ps) scope ps).trees ≡ Some qs → AreTakenWell (whole_of defs) (patterns_pass (whole_of defs) (of_each (Some ty) ps) scope ps).sites → AreWrittenEachOf env (templates (whole_of defs)) ty (core_patterns qs)
  each_typed defs env ty scope NoPattern qs knows types h well = subst (λ (xs : List CorePattern). AreWrittenEachOf env (templates (whole_of defs)) ty (core_patterns xs)) (same_Some [] qs h) tt
  each_typed defs env ty scope (APattern p ps) qs knows types h well =
      let w = whole_of defs in
      let one = pattern_pass w (Some ty) scope p in
      let rest = patterns_pass w (of_each (Some ty) ps) one.scope ps in
      let f = first_there one.tree rest.trees qs h in
      let k = taken_parts w one.sites rest.sites well in
      subst (λ (xs : List CorePattern). AreWrittenEachOf env (templates (whole_of defs)) ty (core_patterns xs)) (sym f.all) (pattern_typed defs env ty scope p f.first knows types f.here k.0, each_typed defs env ty one.scope ps f.others knows types f.found k.1)

  -- patterns at these types are of them
  pub patterns_typed : (defs : List Def) (env : Environment) (tys : List TypeId) (scope : Scope) (ps : Patterns) (qs : List CorePattern) → KnowsTerms defs env → env.types ≡ type_env_of defs → count_of ps ≡ length tys
      → (patterns_pass (whole_of defs) (map Some tys) scope ps).trees ≡ Some qs → AreTakenWell (whole_of defs) (patterns_pass (whole_of defs) (map Some tys) scope ps).sites → AreWrittenPatternsOf env (templates (whole_of defs)) tys qs
  patterns_typed defs env [] scope NoPattern qs knows types same h well = subst (AreWrittenPatternsOf env (templates (whole_of defs)) []) (same_Some [] qs h) tt
  patterns_typed defs env [] scope (APattern p ps) qs knows types same h well = absurd (omega arith)
  patterns_typed defs env (ty ∷ tys) scope NoPattern qs knows types same h well = absurd (omega arith)
  patterns_typed defs env (ty ∷ tys) scope (APattern p ps) qs knows types same h well =
      let w = whole_of defs in
      let one = pattern_pass w (Some ty) scope p in
      let rest = patterns_pass w (map Some tys) one.scope ps in
      let f = first_there one.tree rest.trees qs h in
      let k = taken_parts w one.sites rest.sites well in
      subst (AreWrittenPatternsOf env (templates (whole_of defs)) (ty ∷ tys)) (sym f.all) (pattern_typed defs env ty scope p f.first knows types f.here k.0, patterns_typed defs env tys one.scope ps f.others knows types (omega arith) f.found k.1)

-- ---- where variables stand

-- the variables of a list's patterns with their types, as parts of a pattern
pub typed_list : (qs : List CorePattern) → all_typed qs ≡ typed_within (core_patterns qs)
typed_list [] = refl
typed_list (q ∷ qs) = ap (λ vars. typed_variables q ++ vars) (typed_list qs)

-- so of any type
pub any_and_tree : (expected : Option TypeId) (ps : Option (List CorePattern)) (q : CorePattern) → and_tree expected ps ≡ Some q → (ty : TypeId) × IsAndTree ty ps q
any_and_tree None ps q h = absurd cc
any_and_tree (Some ty) ps q h = (ty, and_tree_is ty ps q h)

-- a variable after `@` is the one that it binds, stands in its pattern, or was there before
bind_stands : (w : Whole) (expected : Option TypeId) (scope : Scope) (x : List ℕ) (p : Pattern) (q : CorePattern) (name : List ℕ) (v : TypeId × VarId) (blank : Bool)
    → ((mid : Scope) (y : CorePattern) → (pattern_pass w expected mid p).tree ≡ Some y → variable (pattern_pass w expected mid p).scope name ≡ Some v → (variable mid name ≡ Some v) ⊎ Contains (typed_variables y) (v.0, v.1.0))
    → (bind_pass w expected scope x p blank).tree ≡ Some q → variable (bind_pass w expected scope x p blank).scope name ≡ Some v → (variable scope name ≡ Some v) ⊎ Contains (typed_variables q) (v.0, v.1.0)
bind_stands w expected scope x p q name v true go h at = go scope q h at
bind_stands w expected scope x p q name v false go h at =
    let mid = met scope x expected in
    let b = bound_tree_is (variable mid x) (pattern_pass w expected mid p).tree q h in
    subst (λ (y : CorePattern). (variable scope name ≡ Some v) ⊎ Contains (typed_variables y) (v.0, v.1.0)) b.is
    (⊎_elim (λ was. by (bytes_eq x name) refl b.var b.inner b.var_is was) (λ c. inr (tail_contained (b.var.0, b.var.1.0) (typed_variables b.inner) (v.0, v.1.0) c)) (go mid b.inner b.inner_is at))
  where
    by : (same : Bool) → bytes_eq x name ≡ same → (var : TypeId × VarId) (inner : CorePattern) → variable (met scope x expected) x ≡ Some var → variable (met scope x expected) name ≡ Some v → (variable scope name ≡ Some v) ⊎ Contains (typed_variables (core_pattern.BindPattern var.0 var.1 inner)) (v.0, v.1.0)
    by true e var inner is was =
        let same : x ≡ name = (bytes_eq-Decides x name).0 e in
        let one : var ≡ v = same_Some {A = TypeId × VarId} var v (sym is ∙ ap (variable (met scope x expected)) same ∙ was) in
        inr (subst (λ (y : TypeId × VarId). Contains (typed_variables (core_pattern.BindPattern var.0 var.1 inner)) (y.0, y.1.0)) one (head_contained (var.0, var.1.0) (typed_variables inner)))
    by false e var inner is was = inl (sym (variable_other scope x name expected e) ∙ was)

mutual
  -- a variable after a pattern stands in it, or was there before
  pub stands_in : (w : Whole) (expected : Option TypeId) (scope : Scope) (p : Pattern) (q : CorePattern) (name : List ℕ) (v : TypeId × VarId) → (pattern_pass w expected scope p).tree ≡ Some q
      → variable (pattern_pass w expected scope p).scope name ≡ Some v → (variable scope name ≡ Some v) ⊎ Contains (typed_variables q) (v.0, v.1.0)
  stands_in w expected scope (tree.Int n) q name v h at = inl at
  stands_in w expected scope (tree.Truth b) q name v h at = inl at
  stands_in w expected scope tree.Wildcard q name v h at = inl at
  stands_in w expected scope (tree.Var x) q name v h at = by (bytes_eq x name) refl
    where
      by : (b : Bool) → bytes_eq x name ≡ b → (variable scope name ≡ Some v) ⊎ Contains (typed_variables q) (v.0, v.1.0)
      by true e =
          let same : x ≡ name = (bytes_eq-Decides x name).0 e in
          let is : q ≡ core_pattern.Var v.0 v.1 = same_Some q (core_pattern.Var v.0 v.1) (sym h ∙ ap (option_map (λ (y : TypeId × VarId). core_pattern.Var y.0 y.1)) (ap (variable (met scope x expected)) same ∙ at)) in
          inr (subst (λ (y : CorePattern). Contains (typed_variables y) (v.0, v.1.0)) (sym is) (head_contained (v.0, v.1.0) []))
      by false e = inl (sym (variable_other scope x name expected e) ∙ at)
  stands_in w expected scope (tree.Const x) q name v h at = inl at
  stands_in w expected scope (tree.Term x ps) q name v h at =
      let args = arg_types w (termed w x) in
      let of = ret_type w (termed w x) in
      let k = within_is w (conversion w of expected) (term_tree of (term_named (terms w.defs) x) (patterns_pass w args scope ps).trees) q h in
      let t = term_tree_is of (term_named (terms w.defs) x) (patterns_pass w args scope ps).trees k.inner k.inner_is in
      let parts = variable_stands w args scope ps t.parts name v t.parts_are at in
      let vars : all_typed t.parts ≡ typed_variables q = typed_list t.parts ∙ ap typed_variables t.is ∙ sym k.variables in
      subst (λ xs. (variable scope name ≡ Some v) ⊎ Contains xs (v.0, v.1.0)) vars parts
  stands_in w expected scope (tree.Bind x p) q name v h at = bind_stands w expected scope x p q name v (is_blank x) (λ mid y t k. stands_in w expected mid p y name v t k) h at
  stands_in w expected scope (tree.And ps) q name v h at =
      let parts = patterns_pass w (of_each expected ps) scope ps in
      let a = any_and_tree expected parts.trees q h in
      let here = variable_stands w (of_each expected ps) scope ps a.1.parts name v a.1.parts_are at in
      subst (λ (y : CorePattern). (variable scope name ≡ Some v) ⊎ Contains (typed_variables y) (v.0, v.1.0)) a.1.is (subst (λ vars. (variable scope name ≡ Some v) ⊎ Contains vars (v.0, v.1.0)) (typed_list a.1.parts) here)

  -- a variable after patterns stands in one of them, or was there before
  pub variable_stands : (w : Whole) (expected : List (Option TypeId)) (scope : Scope) (ps : Patterns) (qs : List CorePattern) (name : List ℕ) (v : TypeId × VarId) → (patterns_pass w expected scope ps).trees ≡ Some qs
      → variable (patterns_pass w expected scope ps).scope name ≡ Some v → (variable scope name ≡ Some v) ⊎ Contains (all_typed qs) (v.0, v.1.0)
  variable_stands w expected scope NoPattern qs name v h at = inl at
  variable_stands w expected scope (APattern p ps) qs name v h at =
      let one = pattern_pass w (first_expected expected) scope p in
      let f = first_there one.tree (patterns_pass w (later_expected expected) one.scope ps).trees qs h in
      subst (λ (xs : List CorePattern). (variable scope name ≡ Some v) ⊎ Contains (all_typed xs) (v.0, v.1.0)) (sym f.all)
      (⊎_elim
      (λ before. ⊎_elim (λ was. inl was) (λ here. inr (Contains-append_left (typed_variables f.first) (all_typed f.others) (v.0, v.1.0) here)) (stands_in w (first_expected expected) scope p f.first name v f.here before))
      (λ later. inr (Contains-append_right (typed_variables f.first) (all_typed f.others) (v.0, v.1.0) later)) (variable_stands w (later_expected expected) one.scope ps f.others name v f.found at))
