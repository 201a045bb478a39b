-- The terms with templates that patterns use, and for each term those that its template uses, one after the other: what is left.
use Rattle.std.proofs.Common.{◌≡◌, ℕ, ◌+◌, ◌<◌, ◌≤◌, List, [], ◌∷◌, ◌++◌, length, map, get_or, Option, Some, sym, ap, ◌∙◌}
use Rattle.std.specs.Prelude.{drop, slice_get}
use Rattle.std.proofs.lemmas.List.{drop_all, drop_more, append_assoc, append-nil}
use Rattle.isle_core.specs.declared.TypeId.{TypeId}
use Rattle.isle_ast.specs.declared.tree.AstPattern.{AstPattern}
use Rattle.isle_ast.specs.Tree as tree
use Rattle.isle_ast.specs.Tree.{Patterns}
use Rattle.isle_ast.specs.Views.{pattern, patterns_of}
use Rattle.isle_declarations.specs.declared.terms.TermDef.{TermDef}
use Rattle.isle_declarations.specs.Signatures.{Signature, extractors, extractor_named}
use Rattle.isle_declarations.specs.TermViews.{term_def}
use Rattle.isle_terms.specs.Converters.{conversion}
use Rattle.isle_terms.specs.Whole.{Whole, termed, arg_types, ret_type}
use Rattle.isle_sema.specs.PatternPass.{of_each, later_expected}
use Rattle.isle_sema.specs.TemplateUses.{templated, uses_in, all_uses_in, used_of}
use Rattle.isle_sema.proofs.Steps.{first_got, later_got}

-- those of patterns on one value of this type
abbrev pub uses_of_each : Whole → Option TypeId → List AstPattern → List ℕ
uses_of_each w expected ps = all_uses_in w (of_each expected (patterns_of (map pattern ps))) (patterns_of (map pattern ps))

-- one more of them
pub one_more : (w : Whole) (expected : Option TypeId) (ps : List AstPattern) (i : ℕ) (now new all : List ℕ) (p d : AstPattern) → i < length ps → p ≡ get_or ps i d → new ≡ now ++ uses_in w expected (pattern p)
    → all ≡ now ++ uses_of_each w expected (drop i ps) → all ≡ new ++ uses_of_each w expected (drop (i + 1) ps)
one_more w expected ps i now new all p d lt is added h =
    let rest = uses_of_each w expected (drop (i + 1) ps) in
    h ∙ ap (λ xs. now ++ uses_of_each w expected xs) (drop_more ps i d lt ∙ ap (λ y. y ∷ drop (i + 1) ps) (sym is)) ∙ sym (append_assoc now (uses_in w expected (pattern p)) rest) ∙ ap (λ ns. ns ++ rest) (sym added)

-- after the last
pub all_noted : (w : Whole) (expected : Option TypeId) (ps : List AstPattern) (i : ℕ) (now all : List ℕ) → length ps ≤ i → all ≡ now ++ uses_of_each w expected (drop i ps) → now ≡ all
all_noted w expected ps i now all le h = sym (h ∙ ap (λ xs. now ++ uses_of_each w expected xs) (drop_all i ps le) ∙ append-nil now)

-- those of the patterns from the i-th on, where these types are expected
abbrev pub uses_left : Whole → List TypeId → List AstPattern → ℕ → List ℕ
uses_left w tys ps i = all_uses_in w (map Some (drop i tys)) (patterns_of (map pattern (drop i ps)))

-- one pattern more
pub uses_more : (w : Whole) (tys : List TypeId) (ps : List AstPattern) (i : ℕ) (now new all : List ℕ) (p d : AstPattern) (expected : Option TypeId) → i < length ps → p ≡ get_or ps i d → expected ≡ slice_get tys i → new ≡ now ++ uses_in w expected (pattern p)
    → all ≡ now ++ uses_left w tys ps i → all ≡ new ++ uses_left w tys ps (i + 1)
uses_more w tys ps i now new all p d expected lt is at added h =
    let others = patterns_of (map pattern (drop (i + 1) ps)) in
    let types = map Some (drop i tys) in
    h ∙ ap (λ xs. now ++ all_uses_in w types (patterns_of (map pattern xs))) (drop_more ps i d lt ∙ ap (λ y. y ∷ drop (i + 1) ps) (sym is))
    ∙ ap (λ ty. now ++ (uses_in w ty (pattern p) ++ all_uses_in w (later_expected types) others)) (first_got tys i ∙ sym at)
    ∙ ap (λ os. now ++ (uses_in w expected (pattern p) ++ all_uses_in w os others)) (later_got tys i)
    ∙ sym (append_assoc now (uses_in w expected (pattern p)) (uses_left w tys ps (i + 1))) ∙ ap (λ ns. ns ++ uses_left w tys ps (i + 1)) (sym added)

-- ---- a term on patterns

-- what it uses is noted in three steps
pub term_noted : (w : Whole) (expected : Option TypeId) (name : List ℕ) (ps : Patterns) (start mid now rest : List ℕ) → mid ≡ start ++ templated w (conversion w (ret_type w (termed w name)) expected) → now ≡ mid ++ templated w (termed w name) → rest ≡ all_uses_in w (arg_types w (termed w name)) ps
    → now ++ rest ≡ start ++ uses_in w expected (tree.Term name ps)
term_noted w expected name ps start mid now rest first second third =
    let by = templated w (conversion w (ret_type w (termed w name)) expected) in
    let own = templated w (termed w name) in
    let parts = all_uses_in w (arg_types w (termed w name)) ps in
    ap (λ ns. now ++ ns) third ∙ ap (λ ns. ns ++ parts) (second ∙ ap (λ ns. ns ++ own) first) ∙ append_assoc (start ++ by) own parts ∙ append_assoc start by (own ++ parts)

-- ---- terms

-- for each term those that its template uses
abbrev pub uses_of : Whole → List TermDef → List (List ℕ)
uses_of w ts = map (λ (s : Signature). used_of w s (extractor_named (extractors w.defs) s.term)) (map term_def ts)

-- one term more
pub term_more : (w : Whole) (ts : List TermDef) (i : ℕ) (now new : List (List ℕ)) (found : List ℕ) (all : List (List ℕ)) (t d : TermDef) → i < length ts → t ≡ get_or ts i d → new ≡ now ++ found ∷ [] → found ≡ used_of w (term_def t) (extractor_named (extractors w.defs) t.term.now)
    → all ≡ now ++ uses_of w (drop i ts) → all ≡ new ++ uses_of w (drop (i + 1) ts)
term_more w ts i now new found all t d lt is added one h =
    let rest = uses_of w (drop (i + 1) ts) in
    h ∙ ap (λ xs. now ++ uses_of w xs) (drop_more ts i d lt ∙ ap (λ y. y ∷ drop (i + 1) ts) (sym is)) ∙ ap (λ ns. now ++ ns ∷ rest) (sym one) ∙ sym (append_assoc now (found ∷ []) rest) ∙ ap (λ ns. ns ++ rest) (sym added)

-- after the last
pub terms_all : (w : Whole) (ts : List TermDef) (i : ℕ) (now all : List (List ℕ)) → length ts ≤ i → all ≡ now ++ uses_of w (drop i ts) → all ≡ now
terms_all w ts i now all le h = h ∙ ap (λ xs. now ++ uses_of w xs) (drop_all i ts le) ∙ append-nil now
