-- The parts and the parameters of a template that breaks no row, and the templates of extractors that break none.
use Rattle.std.proofs.Common.{◌≡◌, ⊎_elim, ℕ, Bool, true, false, cond, List, [], ◌∷◌, ◌++◌, Option, Some, None, refl, ap, ◌∙◌, subst}
use Rattle.std.specs.Prelude.{◌||◌, Contains}
use Rattle.std.specs.List.{list_any}
use Rattle.std.proofs.lemmas.Bool.{or_parts, or_from}
use Rattle.isle_core.specs.declared.position.Pos.{Pos}
use Rattle.isle_core.proofs.Contained.{contained_cases, none_contained}
use Rattle.isle_ast.specs.Tree as tree
use Rattle.isle_ast.specs.Tree.{Def}
use Rattle.isle_declarations.specs.Signatures.{Template, Extracting, ByFunction, ByTemplate, ExtractorDef, extractors}
use Rattle.isle_sema.specs.Fault.{OfExtractors, broken_in, fault_after}
use Rattle.isle_sema.specs.RuleRows.{template_sites, extractor_sites, is_untaken, is_mistaken, is_misplaced, is_undeclared, is_met_otherwise}
use Rattle.isle_sema.specs.Taken.{is_misbuilt}
use Rattle.isle_sema.specs.TemplateRows.{is_on_walk, is_unbound, misses_parameter, is_misnaming}
use Rattle.isle_sema.proofs.Firsts.{later_none}
use Rattle.isle_sema.proofs.TypedPatterns.{AreTakenWell}
use Rattle.isle_terms.specs.Whole.{Whole}
use Rattle.isle_types.specs.declared.row.Row.{Row}
use Rattle.isle_types.specs.declared.row.Row.TheVariants as row

-- ---- what a template breaks

-- its parts and its parameters break no row
pub record IsWellBuilt (w : Whole) (term : List ℕ) (by : Extracting) : Type 0 where
  pub bound : list_any is_unbound (template_sites w term by) ≡ false
  pub whole : misses_parameter by ≡ false
  pub well : AreTakenWell w (template_sites w term by)

pub well_built : (w : Whole) (x : ExtractorDef) → is_misbuilt w x ≡ false → IsWellBuilt w x.term x.by
well_built w x h =
    let ss = extractor_sites w x in
    let a = or_parts (is_misnaming w x) (list_any (is_untaken w) ss || (list_any (is_mistaken w) ss || (list_any (is_misplaced w) ss || list_any is_undeclared ss))) h in
    let b = or_parts (list_any (is_untaken w) ss) (list_any (is_mistaken w) ss || (list_any (is_misplaced w) ss || list_any is_undeclared ss)) a.1 in
    let c = or_parts (list_any (is_mistaken w) ss) (list_any (is_misplaced w) ss || list_any is_undeclared ss) b.1 in
    let d = or_parts (list_any (is_misplaced w) ss) (list_any is_undeclared ss) c.1 in
    let n = or_parts (list_any is_unbound ss) (misses_parameter x.by || list_any is_met_otherwise ss) a.0 in
    let m = or_parts (misses_parameter x.by) (list_any is_met_otherwise ss) n.1 in
    record { bound = n.0; whole = m.0; well = record { taken = b.0; types = c.0; placed = d.0; declared = d.1; again = m.1 } }

-- the rows of a template in order
abbrev template_tests : (a b c d e f g : Bool) → Option Row
template_tests a b c d e f g =
    cond a (Some row.ExtractorReachesItself) (cond b (Some row.TemplateMisfit) (cond c (Some row.PatternTermMisfit) (cond d (Some row.PatternTypeMisfit) (cond e (Some row.LiteralMisfit) (cond f (Some row.ConstantUndeclared) (cond g (Some row.VariableTypeMisfit) None))))))

tests_none : (a b c d e f g : Bool) → template_tests a b c d e f g ≡ None → (a ≡ false) × (b || (c || (d || (e || f))) ≡ false)
tests_none true b c d e f g h = absurd cc
tests_none false true c d e f g h = absurd cc
tests_none false false true d e f g h = absurd cc
tests_none false false false true e f g h = absurd cc
tests_none false false false false true f g h = absurd cc
tests_none false false false false false true g h = absurd cc
tests_none false false false false false false g h = (refl, refl)

-- ---- no template breaks a row

-- each extractor's template is kept
pub record AreKeptIn (w : Whole) (xs : List ExtractorDef) : Type 0 where
  pub walks : (x : ExtractorDef) → Contains xs x → (t : Template) → x.by ≡ ByTemplate t → is_on_walk w x ≡ false
  pub built : list_any (is_misbuilt w) xs ≡ false

none_kept : (w : Whole) → AreKeptIn w []
none_kept w = record { walks = λ x c t e. absurd (none_contained x c); built = refl }

-- with one by a function
function_kept : (w : Whole) (term func : List ℕ) (infallible : Bool) (pos : Pos) (xs : List ExtractorDef) → AreKeptIn w xs → AreKeptIn w (record { term = term; by = ByFunction func infallible; pos = pos } ∷ xs)
function_kept w term func infallible pos xs k =
    let first : ExtractorDef = record { term = term; by = ByFunction func infallible; pos = pos } in
    record {
      walks = λ x c t e. ⊎_elim (λ (s : first ≡ x). let bad : ByFunction func infallible ≡ ByTemplate t = ap (λ (y : ExtractorDef). y.by) s ∙ e in absurd cc) (λ d. k.walks x d t e) (contained_cases first xs x c);
      built = k.built;
    }

pub kept_in : (w : Whole) (before ds : List Def) → fault_after OfExtractors w before ds ≡ None → AreKeptIn w (extractors ds)
kept_in w before [] h = none_kept w
kept_in w before (tree.Extractor term params template pos ∷ ds) h =
    let d = tree.Extractor term params template pos in
    let first : ExtractorDef = record { term = term; by = ByTemplate (record { params = params; pattern = template }); pos = pos } in
    let l = later_none (λ (r : Row). (r, pos)) (broken_in OfExtractors (record { whole = w; before = before }) d) (fault_after OfExtractors w (before ++ d ∷ []) ds) h in
    let k = kept_in w (before ++ d ∷ []) ds l.1 in
    let own = tests_none _ _ _ _ _ _ _ l.0 in
    record {
      walks = λ x c t e. ⊎_elim (λ (s : first ≡ x). subst (λ (y : ExtractorDef). is_on_walk w y ≡ false) s own.0) (λ c. k.walks x c t e) (contained_cases first (extractors ds) x c);
      built = or_from (is_misbuilt w first) (list_any (is_misbuilt w) (extractors ds)) own.1 k.built;
    }
kept_in w before (tree.ExternExtractor term func infallible pos ∷ ds) h = function_kept w term func infallible pos (extractors ds) (kept_in w (before ++ tree.ExternExtractor term func infallible pos ∷ []) ds h)
kept_in w before (tree.Decl term pure multi partial recursive args ret pos ∷ ds) h = kept_in w (before ++ tree.Decl term pure multi partial recursive args ret pos ∷ []) ds h
kept_in w before (tree.ExternConstructor term func pos ∷ ds) h = kept_in w (before ++ tree.ExternConstructor term func pos ∷ []) ds h
kept_in w before (tree.Rule name prio term args iflets rhs pos ∷ ds) h = kept_in w (before ++ tree.Rule name prio term args iflets rhs pos ∷ []) ds h
kept_in w before (tree.TypeDecl name is_extern is_nodebug body pos ∷ ds) h = kept_in w (before ++ tree.TypeDecl name is_extern is_nodebug body pos ∷ []) ds h
kept_in w before (tree.ExternConst name ty pos ∷ ds) h = kept_in w (before ++ tree.ExternConst name ty pos ∷ []) ds h
kept_in w before (tree.Converter from to term pos ∷ ds) h = kept_in w (before ++ tree.Converter from to term pos ∷ []) ds h
kept_in w before (tree.Passed head pos ∷ ds) h = kept_in w (before ++ tree.Passed head pos ∷ []) ds h
