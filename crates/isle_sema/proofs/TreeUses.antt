-- The terms that the tree of a pattern uses are those that stand in its parts.
use Rattle.std.proofs.Common.{◌≡◌, ℕ, ℤ, Bool, true, false, List, [], ◌∷◌, Option, Some, None, refl, sym, ap, ◌∙◌}
use Rattle.std.specs.Prelude.{◌||◌}
use Rattle.std.specs.List.{list_any}
use Rattle.std.proofs.lemmas.Option.{same_Some}
use Rattle.std.proofs.lemmas.List.Folds.{list_any-append}
use Rattle.isle_core.specs.declared.TermId.{TermId}
use Rattle.isle_core.specs.declared.TypeId.{TypeId}
use Rattle.isle_core.specs.declared.VarId.{VarId}
use Rattle.isle_core.specs.Pattern as core_pattern
use Rattle.isle_core.specs.Pattern.{Pattern as CorePattern}
use Rattle.isle_core.specs.RuleViews.{patterns_of as core_patterns}
use Rattle.isle_ast.specs.Tree as tree
use Rattle.isle_ast.specs.Tree.{Pattern, Patterns, NoPattern, APattern}
use Rattle.isle_declarations.specs.Signatures.{Signature, term_named}
use Rattle.isle_declarations.specs.Symbols.{sym_of}
use Rattle.isle_declarations.specs.Terms.{terms}
use Rattle.isle_declarations.proofs.LookUps.{named_is}
use Rattle.isle_templates.specs.Multi.{uses_one, uses_any}
use Rattle.isle_terms.proofs.MadeTerms.{first_there}
use Rattle.isle_terms.specs.Converters.{conversion}
use Rattle.isle_terms.specs.Reduced.{typed_integer}
use Rattle.isle_terms.specs.Whole.{Whole, termed, arg_types, ret_type, number_of, constant_type}
use Rattle.isle_types.specs.TypeRows.{on}
use Rattle.isle_terms.specs.Scope.{Scope, is_blank, met, variable}
use Rattle.isle_sema.specs.PatternPass.{first_expected, later_expected, of_each, term_tree, pattern_within, taken_by, pattern_pass, patterns_pass}
use Rattle.isle_sema.specs.RuleRows.{is_use_of}
use Rattle.isle_sema.specs.Site.{Site}
use Rattle.isle_sema.proofs.RuleRoots.{mapped}
use Rattle.isle_sema.proofs.TypedPatterns.{within_is, bind_pass, bound_tree_is, term_tree_is, any_and_tree}

-- this holds of the number of a term
abbrev pub by_number : Whole → (ℕ → Bool) → Signature → Bool
by_number w test s = on (term_named (terms w.defs) s.term) (λ (n : TermId). test n.0)

-- a term in a pattern of whose number it holds
abbrev pub is_use : Whole → (ℕ → Bool) → Site → Bool
is_use w test site = is_use_of (by_number w test) site

or_none : (a : Bool) → a || false ≡ a
or_none true = refl
or_none false = refl

-- the term of a name
own_use : (w : Whole) (test : ℕ → Bool) (name : List ℕ) (o : Option Signature) (number : TermId) → termed w name ≡ o → (ty : TypeId) → ret_type w o ≡ Some ty → term_named (terms w.defs) name ≡ Some number → on o (by_number w test) ≡ test number.0
own_use w test name None number is ty ret at = absurd cc
own_use w test name (Some s) number is ty ret at = ap (λ o. on o (λ (n : TermId). test n.0)) (ap (term_named (terms w.defs)) (named_is (terms w.defs) name s is) ∙ at)

-- what stands within a converter, and the converter
within_use : (w : Whole) (test : ℕ → Bool) (by : Option Signature) (expected : Option TypeId) (p : Option CorePattern) (q inner : CorePattern) → p ≡ Some inner → pattern_within w by p ≡ Some q
    → uses_one test q ≡ list_any (is_use w test) (taken_by by expected) || uses_one test inner
within_use w test None expected p q inner is h = ap (uses_one test) (same_Some q inner (sym h ∙ is))
within_use w test (Some s) expected p q inner is h =
    let x : CorePattern = inner in
    let t = term_tree_is (ret_type w (Some s)) (number_of w (Some s)) (Some (x ∷ [])) q (ap (λ o. pattern_within w (Some s) o) (sym is) ∙ h) in
    let parts : x ∷ [] ≡ t.parts = same_Some (x ∷ []) t.parts t.parts_are in
    ap (uses_one test) (sym t.is)
    ∙ ap (λ (ps : List CorePattern). test t.number.0 || uses_any test (core_patterns ps)) (sym parts)
    ∙ ap (λ b. test t.number.0 || b) (or_none (uses_one test x))
    ∙ ap (λ b. b || uses_one test x) (sym (ap (λ o. on o (λ (n : TermId). test n.0)) t.number_is) ∙ sym (or_none (by_number w test s)))

bind_use : (w : Whole) (test : ℕ → Bool) (expected : Option TypeId) (scope : Scope) (x : List ℕ) (p : Pattern) (q : CorePattern) (blank : Bool)
    → ((mid : Scope) (y : CorePattern) → (pattern_pass w expected mid p).tree ≡ Some y → uses_one test y ≡ list_any (is_use w test) (pattern_pass w expected mid p).sites)
    → (bind_pass w expected scope x p blank).tree ≡ Some q → uses_one test q ≡ list_any (is_use w test) (bind_pass w expected scope x p blank).sites
bind_use w test expected scope x p q true go h = go scope q h
bind_use w test expected scope x p q false go h =
    let mid = met scope x expected in
    let b = bound_tree_is (variable mid x) (pattern_pass w expected mid p).tree q h in
    ap (uses_one test) (sym b.is) ∙ go mid b.inner b.inner_is

mutual
  pub tree_uses : (w : Whole) (test : ℕ → Bool) (expected : Option TypeId) (scope : Scope) (p : Pattern) (q : CorePattern) → (pattern_pass w expected scope p).tree ≡ Some q → uses_one test q ≡ list_any (is_use w test) (pattern_pass w expected scope p).sites
  tree_uses w test expected scope (tree.Int n) q h =
      let m = mapped (λ (v : TypeId × ℤ). core_pattern.ConstInt v.0 v.1) (typed_integer w.types expected n) q h in
      ap (uses_one test) (sym m.is)
  tree_uses w test expected scope (tree.Truth b) q h = ap (uses_one test) (sym (same_Some (core_pattern.ConstBool b) q h))
  tree_uses w test expected scope tree.Wildcard q h = let m = mapped core_pattern.Wildcard expected q h in ap (uses_one test) (sym m.is)
  tree_uses w test expected scope (tree.Var name) q h =
      let m = mapped (λ (v : TypeId × VarId). core_pattern.Var v.0 v.1) (variable (met scope name expected) name) q h in
      ap (uses_one test) (sym m.is)
  tree_uses w test expected scope (tree.Const name) q h =
      let m = mapped (λ (t : TypeId). core_pattern.ConstPrim t (sym_of w.types.syms name)) (constant_type w name) q h in
      ap (uses_one test) (sym m.is)
  tree_uses w test expected scope (tree.Term name ps) q h =
      let of = ret_type w (termed w name) in
      let by = conversion w of expected in
      let args = arg_types w (termed w name) in
      let parts = patterns_pass w args scope ps in
      let made = term_tree of (term_named (terms w.defs) name) parts.trees in
      let k = within_is w by made q h in
      let t = term_tree_is of (term_named (terms w.defs) name) parts.trees k.inner k.inner_is in
      let own : on (termed w name) (by_number w test) ≡ test t.number.0 = own_use w test name (termed w name) t.number refl t.of t.of_is t.number_is in
      let inner : uses_one test k.inner ≡ on (termed w name) (by_number w test) || list_any (is_use w test) parts.sites =
      ap (uses_one test) (sym t.is) ∙ ap (λ b. b || uses_any test (core_patterns t.parts)) (sym own) ∙ ap (λ b. on (termed w name) (by_number w test) || b) (trees_use w test args scope ps t.parts t.parts_are) in
      within_use w test by expected made q k.inner k.inner_is h
      ∙ ap (λ b. list_any (is_use w test) (taken_by by expected) || b) inner
      ∙ sym (list_any-append (is_use w test) (taken_by by expected) _)
  tree_uses w test expected scope (tree.Bind x p) q h = bind_use w test expected scope x p q (is_blank x) (λ mid y t. tree_uses w test expected mid p y t) h
  tree_uses w test expected scope (tree.And ps) q h =
      let a = any_and_tree expected (patterns_pass w (of_each expected ps) scope ps).trees q h in
      ap (uses_one test) (sym a.1.is) ∙ trees_use w test (of_each expected ps) scope ps a.1.parts a.1.parts_are

  pub trees_use : (w : Whole) (test : ℕ → Bool) (expected : List (Option TypeId)) (scope : Scope) (ps : Patterns) (qs : List CorePattern) → (patterns_pass w expected scope ps).trees ≡ Some qs → uses_any test (core_patterns qs) ≡ list_any (is_use w test) (patterns_pass w expected scope ps).sites
  trees_use w test expected scope NoPattern qs h = ap (λ (xs : List CorePattern). uses_any test (core_patterns xs)) (sym (same_Some [] qs h))
  trees_use w test expected scope (APattern p ps) qs h =
      let one = pattern_pass w (first_expected expected) scope p in
      let rest = patterns_pass w (later_expected expected) one.scope ps in
      let f = first_there one.tree rest.trees qs h in
      ap (λ (xs : List CorePattern). uses_any test (core_patterns xs)) f.all
      ∙ ap (λ b. b || uses_any test (core_patterns f.others)) (tree_uses w test (first_expected expected) scope p f.first f.here)
      ∙ ap (λ b. list_any (is_use w test) one.sites || b) (trees_use w test (later_expected expected) one.scope ps f.others f.found)
      ∙ sym (list_any-append (is_use w test) one.sites rest.sites)
