-- The fault of the stage of extractors is the first extractor that breaks a row, by the lowest one.
use denote.Ref.{Bor}
use Rattle.std.proofs.Common.{◌≡◌, ℕ, Bool, true, false, cond, List, [], ◌∷◌, ◌++◌, Option, Some, None, refl, sym, ap, ◌∙◌}
use Rattle.std.specs.Prelude.{◌||◌, option_map}
use Rattle.std.specs.List.{list_any}
use Rattle.isle_core.specs.declared.TypeId.{TypeId}
use Rattle.isle_core.specs.declared.position.Pos.{Pos}
use Rattle.isle_core.specs.declared.rules.Pattern.{Pattern as CodePattern}
use Rattle.isle_core.specs.RuleViews.{pattern as elaborated}
use Rattle.isle_ast.specs.Tree as tree
use Rattle.isle_ast.specs.Tree.{Def}
use Rattle.isle_declarations.specs.Signatures.{Template, Extracting, ByTemplate, ExtractorDef, extractors}
use Rattle.isle_types.specs.declared.row.Row.{Row}
use Rattle.isle_types.specs.declared.row.Row.TheVariants as row
use Rattle.isle_terms.specs.Whole.{Whole, termed, ret_type}
use Rattle.isle_terms.specs.Scope.{Scope}
use Rattle.isle_terms.specs.declared.judged.Judged.{Judged}
use Rattle.isle_sema.specs.ElaboratedAt.{IsPatternAt}
use Rattle.isle_sema.specs.Fault.{OfExtractors, or_later, fault_after}
use Rattle.isle_sema.specs.Judging.{unjudged, judge, judge_all, lowest_of_template}
use Rattle.isle_sema.specs.PatternPass.{PatternPass, pattern_pass}
use Rattle.isle_sema.specs.RuleRows.{template_sites, extractor_sites, is_untaken, is_mistaken, is_misplaced, is_undeclared, is_met_otherwise}
use Rattle.isle_sema.specs.Site.{Site}
use Rattle.isle_sema.specs.TemplateRows.{is_on_walk, is_unbound, misses_parameter}
use Rattle.isle_sema.specs.TemplatesChecked.{extractor_row, extractors_fault, tree_of}
use Rattle.isle_sema.specs.Templates.{parameters, template_pass, template_tree}
use Rattle.isle_sema.proofs.Judgements.{any_new}

-- ---- the first

pub extractors_fault_is : (w : Whole) (before ds : List Def) → fault_after OfExtractors w before ds ≡ extractors_fault w (extractors ds)
extractors_fault_is w before [] = refl
extractors_fault_is w before (tree.Extractor term params template pos ∷ ds) =
    let x : ExtractorDef = record { term = term; by = ByTemplate (record { params = params; pattern = template }); pos = pos } in
    ap (or_later (option_map (λ (r : Row). (r, pos)) (extractor_row w x))) (extractors_fault_is w (before ++ tree.Extractor term params template pos ∷ []) ds)
extractors_fault_is w before (tree.ExternExtractor term func infallible pos ∷ ds) = extractors_fault_is w (before ++ tree.ExternExtractor term func infallible pos ∷ []) ds
extractors_fault_is w before (tree.Decl term pure multi partial recursive args ret pos ∷ ds) = extractors_fault_is w (before ++ tree.Decl term pure multi partial recursive args ret pos ∷ []) ds
extractors_fault_is w before (tree.ExternConstructor term func pos ∷ ds) = extractors_fault_is w (before ++ tree.ExternConstructor term func pos ∷ []) ds
extractors_fault_is w before (tree.Rule name prio term args iflets rhs pos ∷ ds) = extractors_fault_is w (before ++ tree.Rule name prio term args iflets rhs pos ∷ []) ds
extractors_fault_is w before (tree.TypeDecl name is_extern is_nodebug body pos ∷ ds) = extractors_fault_is w (before ++ tree.TypeDecl name is_extern is_nodebug body pos ∷ []) ds
extractors_fault_is w before (tree.ExternConst name ty pos ∷ ds) = extractors_fault_is w (before ++ tree.ExternConst name ty pos ∷ []) ds
extractors_fault_is w before (tree.Converter from to term pos ∷ ds) = extractors_fault_is w (before ++ tree.Converter from to term pos ∷ []) ds
extractors_fault_is w before (tree.Passed head pos ∷ ds) = extractors_fault_is w (before ++ tree.Passed head pos ∷ []) ds

-- ---- its row

-- rows in order, and what comes after them
abbrev rows_then : (a b c d e f : Bool) → Option Row → Option Row
rows_then a b c d e f later =
    cond a (Some row.ExtractorReachesItself) (cond b (Some row.TemplateMisfit) (cond c (Some row.PatternTermMisfit) (cond d (Some row.PatternTypeMisfit) (cond e (Some row.LiteralMisfit) (cond f (Some row.ConstantUndeclared) later)))))

-- the last row is never the lowest, since a variable that is met again at another type breaks an earlier one
last_never : (a u m o c d e f : Bool) → rows_then a (u || (m || o)) c d e f None ≡ rows_then a (u || (m || o)) c d e f (cond o (Some row.VariableTypeMisfit) None)
last_never true u m o c d e f = refl
last_never false true m o c d e f = refl
last_never false false true o c d e f = refl
last_never false false false true c d e f = refl
last_never false false false false c d e f = refl

abbrev by_template : List ℕ → Template → Pos → ExtractorDef
by_template term t pos = record { term = term; by = ByTemplate t; pos = pos }

lowest_is : (w : Whole) (term : List ℕ) (t : Template) (pos : Pos) (walks misses : Bool) (multis : Bor (List Bool)) (j : Judged) → walks ≡ is_on_walk w (by_template term t pos) → misses ≡ misses_parameter (ByTemplate t) → j ≡ judge_all w (unjudged multis) (template_pass w term t).sites
    → lowest_of_template walks misses j ≡ extractor_row w (by_template term t pos)
lowest_is w term t pos walks misses multis j walk missed judged =
    let ss = (template_pass w term t).sites in
    let of : (f : Judged → Bool) (test : Site → Bool) → ((i : Judged) (s : Site) → f (judge w i s) ≡ test s || f i) → f (unjudged multis) ≡ false → f j ≡ list_any test ss = λ f test step new. ap f judged ∙ any_new w f test step multis new ss in
    last_never walks j.unbound misses j.met_otherwise j.untaken j.mistaken j.misplaced j.undeclared
    ∙ rw (walk, missed, of (λ i. i.unbound) is_unbound (λ i s. refl) refl, of (λ i. i.met_otherwise) is_met_otherwise (λ i s. refl) refl, of (λ i. i.untaken) (is_untaken w) (λ i s. refl) refl, of (λ i. i.mistaken) (is_mistaken w) (λ i s. refl) refl, of (λ i. i.misplaced) (is_misplaced w) (λ i s. refl) refl, of (λ i. i.undeclared) is_undeclared (λ i s. refl) refl) refl

-- the row of an extractor with a template is told by what its parts are judged
pub row_judged : (w : Whole) (x : ExtractorDef) (t : Template) (walks misses : Bool) (multis : Bor (List Bool)) (j : Judged) → x.by ≡ ByTemplate t → walks ≡ is_on_walk w x → misses ≡ misses_parameter x.by → j ≡ judge_all w (unjudged multis) (extractor_sites w x)
    → lowest_of_template walks misses j ≡ extractor_row w x
row_judged w x t walks misses multis j by walk missed judged =
    lowest_is w x.term t x.pos walks misses multis j walk (missed ∙ ap misses_parameter by) (judged ∙ ap (λ (how : Extracting). judge_all w (unjudged multis) (template_sites w x.term how)) by)
    ∙ ap (λ (how : Extracting). extractor_row w (record { term = x.term; by = how; pos = x.pos })) (sym by)

-- ---- what the code finds of a template

-- what is elaborated over its parameters, where its term's type is expected, are its tree and what is judged of its parts
pub template_found : (w : Whole) (x : ExtractorDef) (t : Template) (expected : Option TypeId) (old new : Scope) (multis : Bor (List Bool)) (before after : Judged) (found : Option CodePattern) → x.by ≡ ByTemplate t → expected ≡ ret_type w (termed w x.term) → old ≡ parameters w x.term t.params → before ≡ unjudged multis
    → IsPatternAt w expected t.pattern old new before after found → (option_map elaborated found ≡ tree_of w x) × (after ≡ judge_all w (unjudged multis) (extractor_sites w x))
template_found w x t expected old new multis before after found by ty vars begun h =
    let pass : pattern_pass w expected old t.pattern ≡ template_pass w x.term t = ap (λ (o : Option TypeId). pattern_pass w o old t.pattern) ty ∙ ap (λ (s : Scope). pattern_pass w (ret_type w (termed w x.term)) s t.pattern) vars in (
      h.tree ∙ ap (λ (p : PatternPass). p.tree) pass ∙ ap (template_tree w x.term) (sym by),
      h.sites ∙ ap (λ (p : PatternPass). judge_all w before p.sites) pass ∙ ap (λ (j : Judged). judge_all w j (template_pass w x.term t).sites) begun ∙ ap (λ (how : Extracting). judge_all w (unjudged multis) (template_sites w x.term how)) (sym by),
    )
