-- Parameters, extractors and terms, one after the other: what is left.
use Rattle.std.proofs.Common.{◌≡◌, ℕ, ◌+◌, ◌<◌, ◌≤◌, List, [], ◌∷◌, ◌++◌, length, map, get_or, Option, Some, None, refl, sym, ap, ◌∙◌}
use Rattle.std.specs.Prelude.{drop, option_map, option_and_then, slice_get}
use Rattle.std.proofs.lemmas.List.{drop_more, drop_all, map-append, append_assoc, append-nil}
use Rattle.std.proofs.lemmas.Option.{slice_get-map}
use Rattle.isle_core.specs.declared.TypeId.{TypeId}
use Rattle.isle_core.specs.declared.rules.Pattern.{Pattern as CodePattern}
use Rattle.isle_core.specs.Pattern.{Pattern as CorePattern}
use Rattle.isle_core.specs.RuleViews.{pattern as elaborated}
use Rattle.isle_declarations.specs.Collected.{extractor as seen}
use Rattle.isle_declarations.specs.declared.collected.ExtractorDef.{ExtractorDef as CodeExtractor}
use Rattle.isle_declarations.specs.Heads.{extractor_terms}
use Rattle.isle_declarations.specs.TermViews.{term_def}
use Rattle.isle_declarations.specs.declared.terms.TermDef.{TermDef}
use Rattle.isle_declarations.specs.Signatures.{ExtractorDef, extractor_named}
use Rattle.isle_declarations.specs.Symbols.{index_of, added}
use Rattle.isle_declarations.proofs.LookUps.{at_place, found_at}
use Rattle.isle_sema.specs.PatternPass.{later_expected}
use Rattle.isle_terms.specs.Scope.{Scope, met}
use Rattle.isle_sema.specs.Fault.{or_later}
use Rattle.isle_sema.specs.Templates.{params_met, template_tree, template_for}
use Rattle.isle_sema.specs.TemplatesChecked.{extractor_row, extractors_fault, tree_of, IsTreeAt, AreTreesAt}
use Rattle.isle_sema.proofs.NamedExtractors.{is_named, extractor_absent}
use Rattle.isle_sema.proofs.Steps.{first_got, later_got}
use Rattle.isle_types.specs.declared.row.Row.{Row}
use Rattle.isle_terms.specs.Whole.{Whole}

-- ---- parameters

-- the parameters from the i-th on, after these variables
abbrev pub params_left : List (List ℕ) → List TypeId → ℕ → Scope → Scope
params_left params tys i vars = params_met vars (drop i params) (map Some (drop i tys))

-- one parameter more
pub params_more : (params : List (List ℕ)) (tys : List TypeId) (vars new : Scope) (i : ℕ) (param d : List ℕ) (expected : Option TypeId) (all : Scope) → i < length params → param ≡ get_or params i d → expected ≡ slice_get tys i → new ≡ met vars param expected
    → all ≡ params_left params tys i vars → all ≡ params_left params tys (i + 1) new
params_more params tys vars new i param d expected all lt is at step h =
    let others = drop (i + 1) params in
    h ∙ ap (λ xs. params_met vars xs (map Some (drop i tys))) (drop_more params i d lt ∙ ap (λ y. y ∷ others) (sym is))
    ∙ ap (λ ty. params_met (met vars param ty) others (later_expected (map Some (drop i tys)))) (first_got tys i ∙ sym at)
    ∙ ap (λ os. params_met (met vars param expected) others os) (later_got tys i)
    ∙ ap (λ (s : Scope). params_met s others (map Some (drop (i + 1) tys))) (sym step)

-- after the last
pub params_all : (params : List (List ℕ)) (tys : List TypeId) (vars : Scope) (i : ℕ) → length params ≤ i → params_left params tys i vars ≡ vars
params_all params tys vars i le = ap (λ xs. params_met vars xs (map Some (drop i tys))) (drop_all i params le)

-- ---- extractors

-- the trees of templates
abbrev pub trees : List (Option CodePattern) → List (Option CorePattern)
trees ts = map (option_map elaborated) ts

-- what all extractors come to is what was found, and what is left
pub record AreLeft (w : Whole) (all left : List ExtractorDef) (found : List (Option CodePattern)) : Type 0 where
  pub fault : extractors_fault w all ≡ extractors_fault w left
  pub trees_are : map (tree_of w) all ≡ trees found ++ map (tree_of w) left

-- the extractors from the i-th on are that one and the rest
extractors_are : (xs : List CodeExtractor) (i : ℕ) (x d : CodeExtractor) → i < length xs → x ≡ get_or xs i d → map seen (drop i xs) ≡ seen x ∷ map seen (drop (i + 1) xs)
extractors_are xs i x d lt is = ap (map seen) (drop_more xs i d lt ∙ ap (λ y. y ∷ drop (i + 1) xs) (sym is))

-- one that breaks no row
pub extractor_more : (w : Whole) (all : List ExtractorDef) (xs : List CodeExtractor) (i : ℕ) (found more : List (Option CodePattern)) (x d : CodeExtractor) (t : Option CodePattern) → i < length xs → x ≡ get_or xs i d → more ≡ found ++ t ∷ []
    → IsTreeAt w (seen x) t → AreLeft w all (map seen (drop i xs)) found → AreLeft w all (map seen (drop (i + 1) xs)) more
extractor_more w all xs i found more x d t lt is added k h =
    let rest = map seen (drop (i + 1) xs) in
    let split = extractors_are xs i x d lt is in
    record {
      fault = h.fault ∙ ap (extractors_fault w) split ∙ ap (λ o. or_later (option_map (λ (r : Row). (r, x.pos)) o) (extractors_fault w rest)) k.sound;
      trees_are =
          h.trees_are ∙ ap (λ ys. trees found ++ map (tree_of w) ys) split ∙ ap (λ o. trees found ++ o ∷ map (tree_of w) rest) (sym k.tree_is) ∙ sym (append_assoc (trees found) (option_map elaborated t ∷ []) (map (tree_of w) rest))
          ∙ ap (λ ys. ys ++ map (tree_of w) rest) (sym (map-append (option_map elaborated) found (t ∷ [])) ∙ ap trees (sym added));
    }

-- one that breaks a row
pub extractor_broken : (w : Whole) (all : List ExtractorDef) (xs : List CodeExtractor) (i : ℕ) (found : List (Option CodePattern)) (x d : CodeExtractor) (r : Row) → i < length xs → x ≡ get_or xs i d → extractor_row w (seen x) ≡ Some r
    → AreLeft w all (map seen (drop i xs)) found → extractors_fault w all ≡ Some (r, x.pos)
extractor_broken w all xs i found x d r lt is broken h =
    h.fault ∙ ap (extractors_fault w) (extractors_are xs i x d lt is) ∙ ap (λ o. or_later (option_map (λ (y : Row). (y, x.pos)) o) (extractors_fault w (map seen (drop (i + 1) xs)))) broken

-- after the last
pub extractors_end : (w : Whole) (all : List ExtractorDef) (xs : List CodeExtractor) (i : ℕ) (found : List (Option CodePattern)) → length xs ≤ i → AreLeft w all (map seen (drop i xs)) found → AreTreesAt w all found
extractors_end w all xs i found le h =
    let none : map seen (drop i xs) ≡ [] = ap (map seen) (drop_all i xs le) in
    record {
      sound = h.fault ∙ ap (extractors_fault w) none;
      trees_are = sym (h.trees_are ∙ ap (λ ys. trees found ++ map (tree_of w) ys) none ∙ append-nil (trees found));
    }

-- ---- the template at a place

same_tree : (w : Whole) (name : List ℕ) (o : Option ExtractorDef) → ((x : ExtractorDef) → o ≡ Some x → x.term ≡ name) → option_and_then (λ (x : ExtractorDef). template_tree w name x.by) o ≡ option_and_then (λ (t : Option CorePattern). t) (option_map (tree_of w) o)
same_tree w name None named = refl
same_tree w name (Some x) named = ap (λ n. template_tree w n x.by) (sym (named x refl))

-- the template of a name is the tree at the place of its extractor
pub template_found : (w : Whole) (xs : List ExtractorDef) (ts : List (Option CorePattern)) (name : List ℕ) (p : ℕ) → ts ≡ map (tree_of w) xs → index_of (extractor_terms xs) name ≡ Some p
    → option_and_then (λ (x : ExtractorDef). template_tree w name x.by) (extractor_named xs name) ≡ option_and_then (λ (t : Option CorePattern). t) (slice_get ts p)
template_found w xs ts name p all at =
    let here : extractor_named xs name ≡ slice_get xs p = found_at (λ (x : ExtractorDef). x.term) xs name ∙ ap (at_place xs) at in
    same_tree w name (extractor_named xs name) (λ x e. (is_named xs name x e).named) ∙ ap (λ o. option_and_then (λ (t : Option CorePattern). t) (option_map (tree_of w) o)) here
    ∙ ap (option_and_then (λ (t : Option CorePattern). t)) (sym (slice_get-map (tree_of w) xs p) ∙ ap (λ (ys : List (Option CorePattern)). slice_get ys p) (sym all))

-- a name without an extractor has none
pub template_missing : (w : Whole) (xs : List ExtractorDef) (name : List ℕ) → index_of (extractor_terms xs) name ≡ None → option_and_then (λ (x : ExtractorDef). template_tree w name x.by) (extractor_named xs name) ≡ None
template_missing w xs name none = ap (option_and_then (λ (x : ExtractorDef). template_tree w name x.by)) (extractor_absent xs name none)

-- ---- terms

-- one term more
pub term_more : (w : Whole) (terms : List TermDef) (i : ℕ) (done more : List (Option CodePattern)) (x d : TermDef) (t : Option CodePattern) (all : List (Option CorePattern)) → i < length terms → x ≡ get_or terms i d → more ≡ done ++ t ∷ [] → option_map elaborated t ≡ template_for w (term_def x)
    → all ≡ trees done ++ map (template_for w) (map term_def (drop i terms)) → all ≡ trees more ++ map (template_for w) (map term_def (drop (i + 1) terms))
term_more w terms i done more x d t all lt is added one h =
    let rest = map (template_for w) (map term_def (drop (i + 1) terms)) in
    h ∙ ap (λ xs. trees done ++ map (template_for w) (map term_def xs)) (drop_more terms i d lt ∙ ap (λ y. y ∷ drop (i + 1) terms) (sym is))
    ∙ ap (λ o. trees done ++ o ∷ rest) (sym one) ∙ sym (append_assoc (trees done) (option_map elaborated t ∷ []) rest)
    ∙ ap (λ ys. ys ++ rest) (sym (map-append (option_map elaborated) done (t ∷ [])) ∙ ap trees (sym added))
