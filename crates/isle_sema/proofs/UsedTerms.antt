-- What a template uses are numbers of terms that have templates, and what is known of them.
use Rattle.std.proofs.Common.{◌≡◌, ⊎_elim, ℕ, zero, suc, ◌<◌, ◌++◌, List, [], length, Bool, true, false, Option, Some, None, refl, sym, ap, ◌∙◌, subst, true≢false, eqb-true}
use Rattle.std.specs.Prelude.{◌==◌, ◌||◌, Contains, slice_get, option_map, option_and_then, option_to_list}
use Rattle.std.proofs.lemmas.List.{length-map}
use Rattle.std.proofs.lemmas.List.Elements.{Contains-append_cases}
use Rattle.std.proofs.lemmas.List.Folds.{Any-from_list_any}
use Rattle.std.proofs.lemmas.Option.{same_Some, slice_get-map}
use Rattle.isle_core.specs.declared.TermId.{TermId}
use Rattle.isle_core.specs.declared.TypeId.{TypeId}
use Rattle.isle_core.proofs.Contained.{contained_cases, none_contained}
use Rattle.isle_ast.specs.Tree as tree
use Rattle.isle_ast.specs.Tree.{Pattern, Patterns, NoPattern, APattern}
use Rattle.isle_declarations.specs.Heads.{terms_of}
use Rattle.isle_declarations.specs.Signatures.{Signature, Template, Extracting, ByFunction, ByTemplate, ExtractorDef, extractors, extractor_named, term_named}
use Rattle.isle_declarations.specs.Symbols.{index_of}
use Rattle.isle_declarations.specs.Terms.{terms}
use Rattle.isle_declarations.proofs.LookUps.{named_is}
use Rattle.isle_declarations.proofs.SymbolLaws.{index_below}
use Rattle.isle_types.specs.TypeRows.{on}
use Rattle.isle_terms.specs.Converters.{conversion}
use Rattle.isle_terms.specs.Whole.{Whole, termed, arg_types, ret_type}
use Rattle.isle_walks.specs.Walks.{nodes_or_none, next_of, reaches, on_closed_walk, AreNodes, AreClosedTold}
use Rattle.isle_sema.specs.declared.known.Called.{Called}
use Rattle.isle_sema.specs.Known.{MayBeCalled}
use Rattle.isle_sema.specs.PatternPass.{first_expected, later_expected, of_each}
use Rattle.isle_sema.specs.TemplateRows.{is_on_walk}
use Rattle.isle_sema.specs.TemplateUses.{templated_by, templated_with, templated, uses_in, all_uses_in, used_through, used_of, template_uses}
use Rattle.isle_sema.proofs.NamedExtractors.{IsNamed, is_named}
use Rattle.isle_sema.proofs.RuleLaws.{number_is, none_called}

-- the term of this number has a template
pub record IsUsed (w : Whole) (n : ℕ) : Type 0 where
  pub by : ExtractorDef
  pub template : Template
  pub among : Contains (extractors w.defs) by
  pub how : by.by ≡ ByTemplate template
  pub number : term_named (terms w.defs) by.term ≡ Some (record { 0 = n })

-- ---- one term

number_used : (w : Whole) (term : List ℕ) (x : ExtractorDef) (t : Template) (n : ℕ) → IsNamed (extractors w.defs) term x → x.by ≡ ByTemplate t → (o : Option TermId) → term_named (terms w.defs) term ≡ o → Contains (option_to_list (option_map (λ (m : TermId). m.0) o)) n → IsUsed w n
number_used w term x t n k how None e c = absurd (none_contained n c)
number_used w term x t n k how (Some m) e c =
    let same : m.0 ≡ n = ⊎_elim (λ (s : m.0 ≡ n). s) (λ d. absurd (none_contained n d)) (contained_cases m.0 [] n c) in
    record { by = x; template = t; among = k.among; how = how; number = ap (term_named (terms w.defs)) k.named ∙ e ∙ ap (λ (i : ℕ). Some (record { 0 = i })) same }

extractor_used : (w : Whole) (term : List ℕ) (n : ℕ) (o : Option ExtractorDef) → extractor_named (extractors w.defs) term ≡ o → Contains (templated_with w term o) n → IsUsed w n
extractor_used w term n None e c = absurd (none_contained n c)
extractor_used w term n (Some x) e c = by x.by refl c
  where
    by : (how : Extracting) → x.by ≡ how → Contains (templated_by w term how) n → IsUsed w n
    by (ByFunction func infallible) is d = absurd (none_contained n d)
    by (ByTemplate t) is d = number_used w term x t n (is_named (extractors w.defs) term x e) is (term_named (terms w.defs) term) refl d

term_used : (w : Whole) (s : Option Signature) (n : ℕ) → Contains (templated w s) n → IsUsed w n
term_used w None n c = absurd (none_contained n c)
term_used w (Some s) n c = extractor_used w s.term n (extractor_named (extractors w.defs) s.term) refl c

-- ---- patterns

mutual
  pattern_used : (w : Whole) (expected : Option TypeId) (p : Pattern) (n : ℕ) → Contains (uses_in w expected p) n → IsUsed w n
  pattern_used w expected (tree.Int i) n c = absurd (none_contained n c)
  pattern_used w expected (tree.Truth b) n c = absurd (none_contained n c)
  pattern_used w expected tree.Wildcard n c = absurd (none_contained n c)
  pattern_used w expected (tree.Var name) n c = absurd (none_contained n c)
  pattern_used w expected (tree.Const name) n c = absurd (none_contained n c)
  pattern_used w expected (tree.Term name ps) n c =
      let by = conversion w (ret_type w (termed w name)) expected in
      let own = termed w name in
      let parts = all_uses_in w (arg_types w own) ps in
      ⊎_elim (λ d. term_used w by n d) (λ d. ⊎_elim (λ e. term_used w own n e) (λ e. patterns_used w (arg_types w own) ps n e) (Contains-append_cases (templated w own) parts n d))
      (Contains-append_cases (templated w by) (templated w own ++ parts) n c)
  pattern_used w expected (tree.Bind name p) n c = pattern_used w expected p n c
  pattern_used w expected (tree.And ps) n c = patterns_used w (of_each expected ps) ps n c

  patterns_used : (w : Whole) (expected : List (Option TypeId)) (ps : Patterns) (n : ℕ) → Contains (all_uses_in w expected ps) n → IsUsed w n
  patterns_used w expected NoPattern n c = absurd (none_contained n c)
  patterns_used w expected (APattern p ps) n c =
      ⊎_elim (λ d. pattern_used w (first_expected expected) p n d) (λ d. patterns_used w (later_expected expected) ps n d)
      (Contains-append_cases (uses_in w (first_expected expected) p) (all_uses_in w (later_expected expected) ps) n c)

-- ---- the graph

-- what a term leads to has a template
pub next_used : (w : Whole) (node next : ℕ) → Contains (next_of (template_uses w) node) next → IsUsed w next
next_used w node next c = at (slice_get (terms w.defs) node) (subst (λ ns. Contains ns next) (ap nodes_or_none (slice_get-map uses (terms w.defs) node)) c)
  where
    uses : Signature → List ℕ
    uses s = used_of w s (extractor_named (extractors w.defs) s.term)

    through : (term : List ℕ) (how : Extracting) → Contains (used_through w term how) next → IsUsed w next
    through term (ByFunction func infallible) d = absurd (none_contained next d)
    through term (ByTemplate t) d = pattern_used w (ret_type w (termed w term)) t.pattern next d

    of : (s : Signature) (o : Option ExtractorDef) → Contains (used_of w s o) next → IsUsed w next
    of s None d = absurd (none_contained next d)
    of s (Some x) d = through s.term x.by d

    at : (o : Option Signature) → Contains (nodes_or_none (option_map uses o)) next → IsUsed w next
    at None d = absurd (none_contained next d)
    at (Some s) d = of s (extractor_named (extractors w.defs) s.term) d

-- a term that has a number is there
pub number_below : (w : Whole) (name : List ℕ) (n : ℕ) → term_named (terms w.defs) name ≡ Some (record { 0 = n }) → n < length (template_uses w)
number_below w name n h = by (index_of (terms_of (terms w.defs)) name) refl h
  where
    uses : Signature → List ℕ
    uses s = used_of w s (extractor_named (extractors w.defs) s.term)

    long : length (terms_of (terms w.defs)) ≡ length (template_uses w)
    long = length-map (terms w.defs) (λ (s : Signature). s.term) ∙ sym (length-map (terms w.defs) uses)

    by : (o : Option ℕ) → index_of (terms_of (terms w.defs)) name ≡ o → option_map {U = TermId} (λ (m : ℕ). record { 0 = m }) o ≡ Some (record { 0 = n }) → n < length (template_uses w)
    by None e k = absurd cc
    by (Some m) e k =
        let same : m ≡ n = ap (λ (t : TermId). t.0) (same_Some (record { 0 = m }) (record { 0 = n }) k) in
        subst (λ l. n < l) long (subst (λ i. i < length (terms_of (terms w.defs))) same (index_below (terms_of (terms w.defs)) name m e))

-- so each leads to terms that are there
pub uses_there : (w : Whole) → AreNodes (template_uses w)
uses_there w node next c = let u = next_used w node next c in number_below w u.by.term next u.number

-- what is reached is led to
reached : (graph : List (List ℕ)) (steps from to : ℕ) → reaches graph steps from to ≡ true → (node : ℕ) × Contains (next_of graph node) to
reached graph zero from to e = absurd (true≢false (sym e))
reached graph (suc steps) from to e =
    let found = Any-from_list_any (λ n. (n == to) || reaches graph steps n to) (next_of graph from) e in
    by found.1 (found.0, found.2, found.3) (found.1 == to) refl (λ on. reached graph steps found.1 to on) found.4
  where
    by : (next : ℕ) → Contains (next_of graph from) next → (b : Bool) → (next == to) ≡ b → (reaches graph steps next to ≡ true → (node : ℕ) × Contains (next_of graph node) to) → b || reaches graph steps next to ≡ true → (node : ℕ) × Contains (next_of graph node) to
    by next c true is later h = (from, subst (Contains (next_of graph from)) (eqb-true next to is) c)
    by next c false is later h = later h

-- a term on a closed walk has a template
pub closed_used : (w : Whole) (n : ℕ) → on_closed_walk (template_uses w) n ≡ true → IsUsed w n
closed_used w n h = let r = reached (template_uses w) (length (template_uses w)) n n h in next_used w r.0 n r.1

-- ---- what is known of a term

-- a term that is not there is on no walk
pub no_walk : (w : Whole) (x : ExtractorDef) → MayBeCalled w (termed w x.term) None → false ≡ is_on_walk w x
no_walk w x h =
    let none : term_named (terms w.defs) x.term ≡ None = sym (number_is (terms w.defs) x.term) ∙ ap (option_and_then (λ (d : Signature). term_named (terms w.defs) d.term)) (none_called w (termed w x.term) h) in
    sym (ap (λ (o : Option TermId). on o (λ (n : TermId). on_closed_walk (template_uses w) n.0)) none)

called_number : (w : Whole) (name : List ℕ) (o : Option Signature) (c : Called) → termed w name ≡ o → MayBeCalled w o (Some c) → term_named (terms w.defs) name ≡ Some c.term
called_number w name None c e k = absurd k
called_number w name (Some s) c e k = ap (term_named (terms w.defs)) (sym (named_is (terms w.defs) name s e)) ∙ k.term

-- what is told at a term's number is whether it reaches itself
pub walk_told : (w : Whole) (x : ExtractorDef) (c : Called) (closed : List Bool) → MayBeCalled w (termed w x.term) (Some c) → AreClosedTold (template_uses w) closed → slice_get closed c.term.0 ≡ Some (is_on_walk w x)
walk_told w x c closed h told =
    let number = called_number w x.term (termed w x.term) c refl h in
    told.told c.term.0 (number_below w x.term c.term.0 number) ∙ ap Some (sym (ap (λ (o : Option TermId). on o (λ (n : TermId). on_closed_walk (template_uses w) n.0)) number))
