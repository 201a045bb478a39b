-- A pattern of the right types has a tree, binds nothing more, and breaks no row.
use Rattle.std.proofs.Common.{◌≡◌, ℕ, suc, true, false, cond, List, [], ◌∷◌, ◌++◌, map, length, Option, Some, None, refl, sym, ap, ap₂, ◌∙◌, subst}
use Rattle.std.specs.Prelude.{is_some, not, ◌==◌, option_map, option_and_then}
use Rattle.std.specs.List.{AllByRecursion}
use Rattle.std.proofs.lemmas.Bool.{or_from, eq-eqb}
use Rattle.isle_core.proofs.AllLaws.{all_append}
use Rattle.isle_core.specs.declared.TermId.{TermId}
use Rattle.isle_core.specs.declared.TypeId.{TypeId}
use Rattle.isle_core.specs.declared.VarId.{VarId}
use Rattle.isle_core.specs.Pattern as core_pattern
use Rattle.isle_core.specs.Pattern.{Pattern as CorePattern}
use Rattle.isle_ast.specs.Tree as tree
use Rattle.isle_ast.specs.Tree.{Def, Pattern, Patterns, NoPattern, APattern}
use Rattle.isle_declarations.specs.Signatures.{Signature, ByFunction, ByTemplate, ExtractorDef, extractors, extractor_named}
use Rattle.isle_terms.specs.Converters.{Conversion, conversion, within, converter_between, converters}
use Rattle.isle_terms.specs.Scope.{Local, Scope, found_in, local_type, met, met_by, variable, typed_local}
use Rattle.isle_terms.specs.TermPass.{tree_before}
use Rattle.isle_terms.specs.TypeNames.{type_named}
use Rattle.isle_terms.specs.Whole.{Whole, termed, arg_types, ret_type, has_extractor}
use Rattle.isle_sema.specs.PatternPass.{PatternPass, PatternsPass, pattern_pass, patterns_pass, term_tree, pattern_within, taken_by, variable_tree, count_of}
use Rattle.isle_sema.specs.RuleRows.{is_untaken, is_mistaken, is_misplaced, is_undeclared, is_met_otherwise, differ}
use Rattle.isle_sema.specs.Site.{Site, MetAt, TakenAt}
use Rattle.isle_sema.specs.TemplateRows.{is_unbound}
use Rattle.isle_sema.specs.TemplateUses.{templated, templated_with, uses_in, all_uses_in}
use Rattle.isle_prelude_accepted.proofs.Has.{Has}
use Rattle.isle_prelude_accepted.proofs.Simple.{Opens, Variables, IsPatternOf, ArePatternsOf}
use Rattle.isle_prelude_accepted.proofs.TypeFaults.{some_mapped}
use Rattle.isle_prelude_accepted.proofs.Callees.{IsKnown, HasNoTemplate, IsOpened}

-- a part of a pattern that breaks no row
pub record IsGoodPart (w : Whole) (site : Site) : Type 0 where
  pub bound : is_unbound site ≡ false
  pub met : is_met_otherwise site ≡ false
  pub taken : is_untaken w site ≡ false
  pub typed : is_mistaken w site ≡ false
  pub placed : is_misplaced w site ≡ false
  pub declared : is_undeclared site ≡ false

-- what comes of a pattern: a tree, no variable more, and parts that break no row
pub record IsFit (w : Whole) (scope : Scope) (p : PatternPass) : Type 0 where
  pub treed : is_some p.tree ≡ true
  pub same : p.scope ≡ scope
  pub parts : AllByRecursion (IsGoodPart w) p.sites

-- so of patterns
pub record AreFit (w : Whole) (scope : Scope) (ps : PatternsPass) : Type 0 where
  pub treed : is_some ps.trees ≡ true
  pub same : ps.scope ≡ scope
  pub parts : AllByRecursion (IsGoodPart w) ps.sites

-- ---- types

pub same_differ : (k : TypeId) → differ (Some k) (Some k) ≡ false
same_differ k = ap not (eq-eqb k.0 k.0 refl)

pub no_conversion : (w : Whole) (k : TypeId) → conversion w (Some k) (Some k) ≡ None
no_conversion w k =
    ap (λ b. cond b None (option_and_then (λ (c : Conversion). termed w c.term) (converter_between w.defs (converters w.defs) k k))) (eq-eqb k.0 k.0 refl)

-- two types that are one known type
pub known_differ : (a b : Option TypeId) (k : TypeId) → a ≡ Some k → b ≡ Some k → differ a b ≡ false
known_differ a b k e f = ap₂ differ e f ∙ same_differ k

-- ---- variables

-- each variable is bound at its type
abbrev pub AreBound : Whole → Variables → Scope → Type 0
AreBound w vars scope = (name ty : List ℕ) → Has vars (name, ty) → (l : Local) × (found_in scope.variables name ≡ Some l) × (l.ty ≡ type_named w.defs ty)

variable_good : (w : Whole) (l : Local) (expected : Option TypeId) (k : TypeId) → expected ≡ Some k → l.ty ≡ Some k → IsGoodPart w (MetAt expected (Some l.ty))
variable_good w l expected k e f = record { bound = refl; met = known_differ l.ty expected k f e; taken = refl; typed = refl; placed = refl; declared = refl }

local_typed : (l : Local) (k : TypeId) → l.ty ≡ Some k → is_some (typed_local (Some l)) ≡ true
local_typed l k e = ap (λ (o : Option TypeId). is_some (option_map {U = TypeId × VarId} (λ (ty : TypeId). (ty, record { 0 = l.number })) o)) e

variable_fit : (w : Whole) (scope : Scope) (name : List ℕ) (expected : Option TypeId) (l : Local) (k : TypeId)
    → found_in scope.variables name ≡ Some l → expected ≡ Some k → l.ty ≡ Some k
    → IsFit w scope (pattern_pass w expected scope (tree.Var name))
variable_fit w scope name expected l k found e f =
    let same : met scope name expected ≡ scope = ap (λ o. met_by o scope name expected) found in
    record {
      treed = ap (λ s. is_some (variable_tree s name)) same
          ∙ some_mapped (λ (v : TypeId × VarId). core_pattern.Var v.0 v.1) (variable scope name)
          ∙ ap (λ (o : Option Local). is_some (typed_local o)) found
          ∙ local_typed l k f;
      same = same;
      parts = (subst (λ b. IsGoodPart w (MetAt expected b)) (sym (ap local_type found)) (variable_good w l expected k e f), tt);
    }

-- ---- terms

-- what comes of a term's pattern, by what is known of its term, the type that it gives, and the converter around it
abbrev term_pass_by : Whole → (expected of : Option TypeId) → (by callee : Option Signature) → Option TermId → ℕ → PatternsPass → PatternPass
term_pass_by w expected of by callee number count parts = record {
  tree = pattern_within w by (term_tree of number parts.trees);
  scope = parts.scope;
  sites = taken_by by expected ++ TakenAt (within by of expected) callee count ∷ parts.sites;
}

is_true_and : (k : TypeId) (n : TermId) (o : Option (List CorePattern)) → is_some o ≡ true → is_some (term_tree (Some k) (Some n) o) ≡ true
is_true_and k n None e = absurd cc
is_true_and k n (Some ps) e = refl

taken_good : (w : Whole) (s : Signature) (expected : Option TypeId) (count : ℕ) (k : TypeId) → type_named w.defs s.ret ≡ Some k → expected ≡ Some k
    → count ≡ length s.args → has_extractor w s ≡ true
    → IsGoodPart w (TakenAt expected (Some s) count)
taken_good w s expected count k gives e many taken = record {
  bound = refl;
  met = refl;
  taken = or_from (not (count == length s.args)) (not (has_extractor w s)) (ap not (eq-eqb count (length s.args) many)) (ap not taken);
  typed = known_differ (type_named w.defs s.ret) expected k gives e;
  placed = refl;
  declared = refl;
}

pub many_patterns : (E : List Def) (vars : Variables) (args : List (List ℕ)) (ps : Patterns) → ArePatternsOf E vars args ps → count_of ps ≡ length args
many_patterns E vars [] NoPattern h = refl
many_patterns E vars (ty ∷ tys) (APattern p ps) h = ap suc (many_patterns E vars tys ps h.1)
many_patterns E vars [] (APattern p ps) h = absurd h
many_patterns E vars (ty ∷ tys) NoPattern h = absurd h

pub none_templated : (w : Whole) (term : List ℕ) (o : Option ExtractorDef) → HasNoTemplate o → templated_with w term o ≡ []
none_templated w term None h = refl
none_templated w term (Some x) h = by x.by h
  where
    by : (e : _) → HasNoTemplate (Some (record { term = x.term; by = e; pos = x.pos }))
        → templated_with w term (Some (record { term = x.term; by = e; pos = x.pos })) ≡ []
    by (ByFunction func infallible) k = refl
    by (ByTemplate t) k = absurd k

before_some : (o : Option CorePattern) (os : Option (List CorePattern)) → is_some o ≡ true → is_some os ≡ true → is_some (tree_before o os) ≡ true
before_some None os e f = absurd cc
before_some (Some p) None e f = absurd cc
before_some (Some p) (Some ps) e f = refl

module _ (w : Whole) (E : List Def) (opens : (name : List ℕ) (args : List (List ℕ)) (ret : List ℕ) → Opens E name args ret → IsOpened w name args ret)
    (vars : Variables) (scope : Scope) (bound : AreBound w vars scope) where
  term_fit : (name ty : List ℕ) (args : List (List ℕ)) (ps : Patterns) → IsOpened w name args ty → count_of ps ≡ length args
      → AreFit w scope (patterns_pass w (map (type_named w.defs) args) scope ps)
      → IsFit w scope (pattern_pass w (type_named w.defs ty) scope (tree.Term name ps))
  term_fit name ty args ps o many parts =
      let c = o.callee in
      let s = c.signature in
      let expected = type_named w.defs ty in
      let k = c.ret_known.0 in
      let known : expected ≡ Some k = c.ret_known.1 in
      let given : type_named w.defs s.ret ≡ Some k = ap (type_named w.defs) c.gives ∙ known in
      let after = patterns_pass w (map (type_named w.defs) s.args) scope ps in
      let fit : AreFit w scope after = subst (λ ts. AreFit w scope (patterns_pass w (map (type_named w.defs) ts) scope ps)) (sym c.takes) parts in
      let form : pattern_pass w expected scope (tree.Term name ps) ≡ term_pass_by w expected (Some k) None (Some s) (Some c.number) (count_of ps) after =
      ap₂ (λ (x : Option Signature) (n : Option TermId). term_pass_by w expected (ret_type w x) (conversion w (ret_type w x) expected) x n (count_of ps) (patterns_pass w (arg_types w x) scope ps)) c.there c.numbered
      ∙ ap₂ (λ (of e : Option TypeId). term_pass_by w expected of (conversion w of e) (Some s) (Some c.number) (count_of ps) after) given known
      ∙ ap (λ by. term_pass_by w expected (Some k) by (Some s) (Some c.number) (count_of ps) after) (no_conversion w k) in
      subst (IsFit w scope) (sym form) (record {
        treed = is_true_and k c.number after.trees fit.treed;
        same = fit.same;
        parts = (taken_good w s expected (count_of ps) k given known (many ∙ sym (ap length c.takes)) o.taken, fit.parts);
      })

  unused : (name ty : List ℕ) (args : List (List ℕ)) (ps : Patterns) → IsOpened w name args ty → all_uses_in w (map (type_named w.defs) args) ps ≡ []
      → uses_in w (type_named w.defs ty) (tree.Term name ps) ≡ []
  unused name ty args ps o inner =
      let c = o.callee in
      let s = c.signature in
      let expected = type_named w.defs ty in
      let k = c.ret_known.0 in
      let given : type_named w.defs s.ret ≡ Some k = ap (type_named w.defs) c.gives ∙ c.ret_known.1 in
      ap (λ (x : Option Signature). templated w (conversion w (ret_type w x) expected) ++ (templated w x ++ all_uses_in w (arg_types w x) ps)) c.there
      ∙ ap₂ (λ (of e : Option TypeId). templated w (conversion w of e) ++ (templated w (Some s) ++ all_uses_in w (map (type_named w.defs) s.args) ps)) given c.ret_known.1
      ∙ ap (λ (by : Option Signature). templated w by ++ (templated w (Some s) ++ all_uses_in w (map (type_named w.defs) s.args) ps)) (no_conversion w k)
      ∙ ap (λ us. us ++ all_uses_in w (map (type_named w.defs) s.args) ps) (none_templated w s.term (extractor_named (extractors w.defs) s.term) o.plain)
      ∙ ap (λ ts. all_uses_in w (map (type_named w.defs) ts) ps) c.takes
      ∙ inner

  mutual
    pub pattern_fit : (ty : List ℕ) (p : Pattern) → IsKnown w.defs ty → IsPatternOf E vars ty p → IsFit w scope (pattern_pass w (type_named w.defs ty) scope p)
    pattern_fit ty (tree.Var name) known h =
        let b = bound name ty h in
        variable_fit w scope name (type_named w.defs ty) b.0 known.0 b.1 known.1 (b.2 ∙ known.1)
    pattern_fit ty tree.Wildcard known h = record {
      treed = some_mapped core_pattern.Wildcard (type_named w.defs ty) ∙ ap is_some known.1;
      same = refl;
      parts = (record { bound = refl; met = refl; taken = refl; typed = refl; placed = refl; declared = refl }, tt);
    }
    pattern_fit ty (tree.Term name ps) known h =
        let o = opens name h.0 ty h.1 in
        term_fit name ty h.0 ps o (many_patterns E vars h.0 ps h.2) (patterns_fit h.0 ps o.callee.args_known h.2)
    pattern_fit ty (tree.Int n) known h = absurd h
    pattern_fit ty (tree.Truth b) known h = absurd h
    pattern_fit ty (tree.Const name) known h = absurd h
    pattern_fit ty (tree.Bind name p) known h = absurd h
    pattern_fit ty (tree.And ps) known h = absurd h

    pub patterns_fit : (tys : List (List ℕ)) (ps : Patterns) → AllByRecursion (IsKnown w.defs) tys → ArePatternsOf E vars tys ps
        → AreFit w scope (patterns_pass w (map (type_named w.defs) tys) scope ps)
    patterns_fit [] NoPattern known h = record { treed = refl; same = refl; parts = tt }
    patterns_fit (ty ∷ tys) (APattern p ps) known h =
        let first = pattern_fit ty p known.0 h.0 in
        let rest = patterns_fit tys ps known.1 h.1 in
        let one = pattern_pass w (type_named w.defs ty) scope p in
        let later = λ (s : Scope). patterns_pass w (map (type_named w.defs) tys) s ps in
        let fit : AreFit w scope (later one.scope) = subst (λ s. AreFit w scope (later s)) (sym first.same) rest in
        record {
          treed = before_some one.tree (later one.scope).trees first.treed fit.treed;
          same = fit.same;
          parts = all_append (IsGoodPart w) one.sites (later one.scope).sites first.parts fit.parts;
        }
    patterns_fit [] (APattern p ps) known h = absurd h
    patterns_fit (ty ∷ tys) NoPattern known h = absurd h

  mutual
    -- it uses no template
    pub none_used : (ty : List ℕ) (p : Pattern) → IsPatternOf E vars ty p → uses_in w (type_named w.defs ty) p ≡ []
    none_used ty (tree.Var name) h = refl
    none_used ty tree.Wildcard h = refl
    none_used ty (tree.Term name ps) h = unused name ty h.0 ps (opens name h.0 ty h.1) (all_none_used h.0 ps h.2)
    none_used ty (tree.Int n) h = absurd h
    none_used ty (tree.Truth b) h = absurd h
    none_used ty (tree.Const name) h = absurd h
    none_used ty (tree.Bind name p) h = absurd h
    none_used ty (tree.And ps) h = absurd h

    pub all_none_used : (tys : List (List ℕ)) (ps : Patterns) → ArePatternsOf E vars tys ps → all_uses_in w (map (type_named w.defs) tys) ps ≡ []
    all_none_used [] NoPattern h = refl
    all_none_used (ty ∷ tys) (APattern p ps) h = ap₂ (λ us vs. us ++ vs) (none_used ty p h.0) (all_none_used tys ps h.1)
    all_none_used [] (APattern p ps) h = absurd h
    all_none_used (ty ∷ tys) NoPattern h = absurd h
