-- The templates that a template uses as it is written are those that its tree uses.
use Rattle.std.proofs.Common.{◌≡◌, ℕ, ℤ, Bool, true, false, cond, List, [], ◌∷◌, ◌++◌, map, Option, Some, None, refl, sym, ap, ◌∙◌}
use Rattle.std.specs.Prelude.{◌==◌, is_some, option_map, option_and_then, option_to_list}
use Rattle.std.proofs.lemmas.List.{append-nil}
use Rattle.std.proofs.lemmas.Option.{same_Some}
use Rattle.isle_core.specs.declared.TermId.{TermId}
use Rattle.isle_core.specs.declared.TypeId.{TypeId}
use Rattle.isle_core.specs.declared.VarId.{VarId}
use Rattle.isle_core.specs.Pattern as core_pattern
use Rattle.isle_core.specs.Pattern.{Pattern as CorePattern}
use Rattle.isle_core.specs.RuleViews.{patterns_of as core_patterns}
use Rattle.isle_ast.specs.Tree as tree
use Rattle.isle_ast.specs.Tree.{Pattern, Patterns, NoPattern, APattern}
use Rattle.isle_declarations.specs.Signatures.{Signature, Template, Extracting, ByFunction, ByTemplate, ExtractorDef, extractors, extractor_named, term_named}
use Rattle.isle_declarations.specs.Symbols.{sym_of}
use Rattle.isle_declarations.specs.Terms.{terms}
use Rattle.isle_declarations.proofs.LookUps.{named_is}
use Rattle.isle_sema.specs.PatternPass.{first_expected, later_expected, of_each, term_tree, pattern_within, pattern_pass, patterns_pass}
use Rattle.isle_terms.specs.Scope.{is_blank}
use Rattle.isle_terms.specs.Scope.{Scope, met, variable}
use Rattle.isle_sema.specs.TemplateUses.{templated_by, templated_with, templated, uses_in, all_uses_in, used_through, used_of, template_uses}
use Rattle.isle_sema.specs.Templates.{template_pass, template_tree, is_treed, has_tree, template_for, templates, are_treed}
use Rattle.isle_sema.proofs.NamedExtractors.{is_named, holds_at, template_there}
use Rattle.isle_sema.proofs.RuleRoots.{mapped, signature_at}
use Rattle.isle_sema.proofs.TypedPatterns.{within_is, bind_pass, bound_tree_is, term_tree_is, any_and_tree}
use Rattle.isle_templates.specs.Substituted.{template_of}
use Rattle.isle_templates.specs.Uses.{used_one, used_in, all_used_in, used_by, uses}
use Rattle.isle_terms.proofs.MadeTerms.{first_there}
use Rattle.isle_terms.specs.Converters.{Conversion, converter_between, converters, conversion}
use Rattle.isle_terms.specs.Reduced.{typed_integer}
use Rattle.isle_terms.specs.Whole.{Whole, termed, arg_types, ret_type, number_of, constant_type}

-- ---- one term

-- a term that takes values apart by a template is one whose template is there
templated_is : (w : Whole) (s : Signature) (n : TermId) → are_treed w ≡ true → term_named (terms w.defs) s.term ≡ Some n → (o : Option ExtractorDef) → extractor_named (extractors w.defs) s.term ≡ o
    → templated_with w s.term o ≡ used_one (option_and_then (λ (x : ExtractorDef). template_tree w s.term x.by) o) n
templated_is w s n treed number None e = refl
templated_is w s n treed number (Some x) e =
    let k = is_named (extractors w.defs) s.term x e in
    by x.by (ap (λ (name : List ℕ). is_treed w name x.by) (sym k.named) ∙ holds_at (has_tree w) (extractors w.defs) x treed k.among)
  where
    some_tree : (t : Template) (o : Option CorePattern) → is_some o ≡ true → option_to_list (option_map (λ (m : TermId). m.0) (term_named (terms w.defs) s.term)) ≡ used_one o n
    some_tree t None h = absurd cc
    some_tree t (Some q) h = ap (λ (m : Option TermId). option_to_list (option_map (λ (i : TermId). i.0) m)) number

    by : (how : Extracting) → is_treed w s.term how ≡ true → templated_by w s.term how ≡ used_one (template_tree w s.term how) n
    by (ByFunction func infallible) h = refl
    by (ByTemplate t) h = some_tree t (template_pass w s.term t).tree h

-- so of the term of a name
one_used : (w : Whole) (name : List ℕ) (s : Signature) (n : TermId) → are_treed w ≡ true → termed w name ≡ Some s → term_named (terms w.defs) name ≡ Some n → templated w (Some s) ≡ used_one (template_of (templates w) n) n
one_used w name s n treed is number =
    let named : s.term ≡ name = named_is (terms w.defs) name s is in
    templated_is w s n treed (ap (term_named (terms w.defs)) named ∙ number) (extractor_named (extractors w.defs) s.term) refl
    ∙ ap (λ o. used_one o n) (sym (template_there w n s (signature_at w name s n is number)))

-- ---- within a converter

-- the term of a converter is the one of its name
converter_named : (w : Whole) (of expected : Option TypeId) (s : Signature) → conversion w of expected ≡ Some s → termed w s.term ≡ Some s
converter_named w None expected s h = absurd cc
converter_named w (Some of) None s h = absurd cc
converter_named w (Some of) (Some ty) s h = by (of.0 == ty.0) h
  where
    found : (o : Option Conversion) → option_and_then (λ (c : Conversion). termed w c.term) o ≡ Some s → termed w s.term ≡ Some s
    found None k = absurd cc
    found (Some c) k = ap (termed w) (named_is (terms w.defs) c.term s k) ∙ k

    by : (b : Bool) → cond b None (option_and_then (λ (c : Conversion). termed w c.term) (converter_between w.defs (converters w.defs) of ty)) ≡ Some s → termed w s.term ≡ Some s
    by true k = absurd cc
    by false k = found (converter_between w.defs (converters w.defs) of ty) k

within_used : (w : Whole) (by : Option Signature) (p : Option CorePattern) (q inner : CorePattern) → are_treed w ≡ true → ((s : Signature) → by ≡ Some s → termed w s.term ≡ Some s) → p ≡ Some inner → pattern_within w by p ≡ Some q
    → templated w by ++ used_in (templates w) inner ≡ used_in (templates w) q
within_used w None p q inner treed named is h = ap (used_in (templates w)) (same_Some inner q (sym is ∙ h))
within_used w (Some s) p q inner treed named is h =
    let x : CorePattern = inner in
    let t = term_tree_is (ret_type w (Some s)) (number_of w (Some s)) (Some (x ∷ [])) q (ap (λ o. pattern_within w (Some s) o) (sym is) ∙ h) in
    let parts : x ∷ [] ≡ t.parts = same_Some (x ∷ []) t.parts t.parts_are in
    ap (λ (ns : List ℕ). ns ++ used_in (templates w) x) (one_used w s.term s t.number treed (named s refl) t.number_is)
    ∙ ap (λ (ns : List ℕ). used_one (template_of (templates w) t.number) t.number ++ ns) (sym (append-nil (used_in (templates w) x)))
    ∙ ap (λ (ps : List CorePattern). used_one (template_of (templates w) t.number) t.number ++ all_used_in (templates w) (core_patterns ps)) parts
    ∙ ap (used_in (templates w)) t.is

-- ---- patterns

named_term : (w : Whole) (name : List ℕ) (of : TypeId) → ret_type w (termed w name) ≡ Some of → (s : Signature) × (termed w name ≡ Some s)
named_term w name of h = by (termed w name) refl h
  where
    by : (o : Option Signature) → termed w name ≡ o → ret_type w o ≡ Some of → (s : Signature) × (termed w name ≡ Some s)
    by None e k = absurd cc
    by (Some s) e k = (s, e)

bind_used : (w : Whole) (expected : Option TypeId) (scope : Scope) (x : List ℕ) (p : Pattern) (q : CorePattern) (blank : Bool) → ((mid : Scope) (y : CorePattern) → (pattern_pass w expected mid p).tree ≡ Some y → uses_in w expected p ≡ used_in (templates w) y)
    → (bind_pass w expected scope x p blank).tree ≡ Some q → uses_in w expected p ≡ used_in (templates w) q
bind_used w expected scope x p q true go h = go scope q h
bind_used w expected scope x p q false go h =
    let mid = met scope x expected in
    let b = bound_tree_is (variable mid x) (pattern_pass w expected mid p).tree q h in
    go mid b.inner b.inner_is ∙ ap (used_in (templates w)) b.is

mutual
  pub pattern_used : (w : Whole) (expected : Option TypeId) (scope : Scope) (p : Pattern) (q : CorePattern) → are_treed w ≡ true → (pattern_pass w expected scope p).tree ≡ Some q → uses_in w expected p ≡ used_in (templates w) q
  pattern_used w expected scope (tree.Int n) q treed h =
      let m = mapped (λ (v : TypeId × ℤ). core_pattern.ConstInt v.0 v.1) (typed_integer w.types expected n) q h in
      ap (used_in (templates w)) m.is
  pattern_used w expected scope (tree.Truth b) q treed h = ap (used_in (templates w)) (same_Some (core_pattern.ConstBool b) q h)
  pattern_used w expected scope tree.Wildcard q treed h = let m = mapped core_pattern.Wildcard expected q h in ap (used_in (templates w)) m.is
  pattern_used w expected scope (tree.Var name) q treed h =
      let m = mapped (λ (v : TypeId × VarId). core_pattern.Var v.0 v.1) (variable (met scope name expected) name) q h in
      ap (used_in (templates w)) m.is
  pattern_used w expected scope (tree.Const name) q treed h =
      let m = mapped (λ (t : TypeId). core_pattern.ConstPrim t (sym_of w.types.syms name)) (constant_type w name) q h in
      ap (used_in (templates w)) m.is
  pattern_used w expected scope (tree.Term name ps) q treed h =
      let of = ret_type w (termed w name) in
      let by = conversion w of expected in
      let args = arg_types w (termed w name) in
      let parts = patterns_pass w args scope ps in
      let k = within_is w by (term_tree of (term_named (terms w.defs) name) parts.trees) q h in
      let t = term_tree_is of (term_named (terms w.defs) name) parts.trees k.inner k.inner_is in
      let s = named_term w name t.of t.of_is in
      let own : templated w (termed w name) ≡ used_one (template_of (templates w) t.number) t.number = ap (templated w) s.1 ∙ one_used w name s.0 t.number treed s.1 t.number_is in
      let inner : templated w (termed w name) ++ all_uses_in w args ps ≡ used_in (templates w) k.inner =
      ap (λ (ns : List ℕ). ns ++ all_uses_in w args ps) own
      ∙ ap (λ (ns : List ℕ). used_one (template_of (templates w) t.number) t.number ++ ns) (patterns_used w args scope ps t.parts treed t.parts_are)
      ∙ ap (used_in (templates w)) t.is in
      ap (λ (ns : List ℕ). templated w by ++ ns) inner
      ∙ within_used w by (term_tree of (term_named (terms w.defs) name) parts.trees) q k.inner treed (λ c e. converter_named w of expected c e) k.inner_is h
  pattern_used w expected scope (tree.Bind x p) q treed h = bind_used w expected scope x p q (is_blank x) (λ mid y t. pattern_used w expected mid p y treed t) h
  pattern_used w expected scope (tree.And ps) q treed h =
      let a = any_and_tree expected (patterns_pass w (of_each expected ps) scope ps).trees q h in
      patterns_used w (of_each expected ps) scope ps a.1.parts treed a.1.parts_are ∙ ap (used_in (templates w)) a.1.is

  pub patterns_used : (w : Whole) (expected : List (Option TypeId)) (scope : Scope) (ps : Patterns) (qs : List CorePattern) → are_treed w ≡ true → (patterns_pass w expected scope ps).trees ≡ Some qs → all_uses_in w expected ps ≡ all_used_in (templates w) (core_patterns qs)
  patterns_used w expected scope NoPattern qs treed h = ap (λ (xs : List CorePattern). all_used_in (templates w) (core_patterns xs)) (same_Some [] qs h)
  patterns_used w expected scope (APattern p ps) qs treed h =
      let one = pattern_pass w (first_expected expected) scope p in
      let rest = patterns_pass w (later_expected expected) one.scope ps in
      let f = first_there one.tree rest.trees qs h in
      ap (λ (ns : List ℕ). ns ++ all_uses_in w (later_expected expected) ps) (pattern_used w (first_expected expected) scope p f.first treed f.here)
      ∙ ap (λ (ns : List ℕ). used_in (templates w) f.first ++ ns) (patterns_used w (later_expected expected) one.scope ps f.others treed f.found)
      ∙ ap (λ (xs : List CorePattern). all_used_in (templates w) (core_patterns xs)) (sym f.all)

-- ---- all templates

template_used : (w : Whole) (s : Signature) (o : Option ExtractorDef) → are_treed w ≡ true → extractor_named (extractors w.defs) s.term ≡ o → used_of w s o ≡ used_by (templates w) (option_and_then (λ (x : ExtractorDef). template_tree w s.term x.by) o)
template_used w s None treed e = refl
template_used w s (Some x) treed e =
    let k = is_named (extractors w.defs) s.term x e in
    by x.by (ap (λ (name : List ℕ). is_treed w name x.by) (sym k.named) ∙ holds_at (has_tree w) (extractors w.defs) x treed k.among)
  where
    some_tree : (t : Template) (o : Option CorePattern) → (template_pass w s.term t).tree ≡ o → is_some o ≡ true → uses_in w (ret_type w (termed w s.term)) t.pattern ≡ used_by (templates w) o
    some_tree t None is h = absurd cc
    some_tree t (Some q) is h = pattern_used w _ _ t.pattern q treed is

    by : (how : Extracting) → is_treed w s.term how ≡ true → used_through w s.term how ≡ used_by (templates w) (template_tree w s.term how)
    by (ByFunction func infallible) h = refl
    by (ByTemplate t) h = some_tree t (template_pass w s.term t).tree refl h

all_used : (w : Whole) (sigs : List Signature) → are_treed w ≡ true → map (λ (s : Signature). used_of w s (extractor_named (extractors w.defs) s.term)) sigs ≡ map (used_by (templates w)) (map (template_for w) sigs)
all_used w [] treed = refl
all_used w (s ∷ sigs) treed =
    ap (λ (ns : List ℕ). ns ∷ map (λ (s : Signature). used_of w s (extractor_named (extractors w.defs) s.term)) sigs) (template_used w s (extractor_named (extractors w.defs) s.term) treed refl)
    ∙ ap (λ (ns : List (List ℕ)). used_by (templates w) (template_for w s) ∷ ns) (all_used w sigs treed)

-- the two graphs of uses are one
pub uses_same : (w : Whole) → are_treed w ≡ true → template_uses w ≡ uses (templates w)
uses_same w treed = all_used w (terms w.defs) treed
