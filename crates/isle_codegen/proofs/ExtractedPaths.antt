-- The extractors among the paths of rules are ones that the rules call.
use Rattle.std.proofs.Common.{◌≡◌, ⊎_elim, ℕ, zero, suc, List, [], ◌∷◌, Bool, true, false, cond, Option, Some, None, refl, subst}
use Rattle.std.specs.Prelude.{Contains, slice_get}
use Rattle.std.specs.List.{AllByRecursion}
use Rattle.isle_core.specs.declared.TermId.{TermId}
use Rattle.isle_core.specs.declared.types.Term.{Term as CodeTerm}
use Rattle.isle_core.specs.declared.types.TermKind.{TermKind}
use Rattle.isle_core.specs.declared.types.TermKind.TheVariants as term_kind
use Rattle.isle_core.specs.Calling.{calling, extracting, answers_often, is_fallible}
use Rattle.isle_core.specs.CalledTerms.{CalledTerm, is_made_kind, is_made_term, is_made, called}
use Rattle.isle_core.specs.Making.{Making, MakesVariant, MakesStruct, MakesNothing, making_kind, making_of, making}
use Rattle.isle_core.specs.OccurringConstants.{TypedConstant, rules_constants}
use Rattle.isle_core.specs.Opening.{Opening, AsVariant, AsStruct, ByExtractor, opening_by, opening, answer_path, result_path, part_path}
use Rattle.isle_core.specs.Path.{Path, Extracted, Called, Chosen, Inner, MadeVariant, MadeStruct, Paths}
use Rattle.isle_core.specs.RightSide.{term_path}
use Rattle.isle_core.specs.Rule.{Environment, Rule}
use Rattle.isle_core.specs.RulePaths.{opening_paths, with_inner, rules_paths}
use Rattle.isle_core.proofs.Contained.{contained_cases, none_contained}
use Rattle.isle_codegen.proofs.EachPath.{extracted, HoldsOfEach, rules_each}

-- a term that makes nothing is no made one
pub not_made : (o : Option CodeTerm) → making_of o ≡ MakesNothing → is_made_term o ≡ false
not_made None e = refl
not_made (Some t) e = of_kind t.kind e
  where
    of_kind : (k : TermKind) → making_kind k ≡ MakesNothing → is_made_kind k ≡ false
    of_kind (term_kind.Decl pure multi partial recursive constructor extractor) h = refl
    of_kind (term_kind.Variant ty variant) h = cc
    of_kind (term_kind.Struct ty) h = cc

-- an answer of an extractor is of one of these
abbrev IsFrom : List CalledTerm → Path → Type 0
IsFrom terms (Extracted term p) = Contains terms (extracted term)
IsFrom terms p = Unit {0}

-- so of what a term's pattern takes a path apart by
abbrev IsFromOpening : List CalledTerm → Opening → Type 0
IsFromOpening terms (AsVariant ty variant) = Unit {0}
IsFromOpening terms (AsStruct ty) = Unit {0}
IsFromOpening terms (ByExtractor term c count) = Contains terms (extracted term)

module _ (terms : List CalledTerm) (env : Environment) where
  opening_from : (term : TermId) → (is_made env term ≡ false → Contains terms (extracted term)) → IsFromOpening terms (opening env term)
  opening_from term among = by (making env term) refl
    where
      by : (mk : Making) → making env term ≡ mk → IsFromOpening terms (opening_by term mk (extracting env term) (slice_get env.terms term.0))
      by (MakesVariant ty variant) e = tt
      by (MakesStruct ty) e = tt
      by MakesNothing e = among (not_made (slice_get env.terms term.0) e)

  answer_from : (often fallible : Bool) (term : TermId) (p : Path) → Contains terms (extracted term) → IsFrom terms (cond often (Chosen (Extracted term p)) (cond fallible (Inner (Extracted term p)) (Extracted term p)))
  answer_from true fallible term p h = tt
  answer_from false true term p h = tt
  answer_from false false term p h = h

  result_from : (count i : ℕ) (p : Path) → IsFrom terms p → IsFrom terms (result_path count i p)
  result_from zero i p h = tt
  result_from (suc zero) i p h = h
  result_from (suc (suc count)) i p h = tt

  part_from : (opened : Opening) (i : ℕ) (p : Path) → IsFromOpening terms opened → IsFrom terms (part_path opened i p)
  part_from (AsVariant ty variant) i p h = tt
  part_from (AsStruct ty) i p h = tt
  part_from (ByExtractor term c count) i p h = result_from count i (answer_path c (Extracted term p)) (answer_from (answers_often c) (is_fallible c) term p h)

  inner_from : (often fallible : Bool) (p : Path) → IsFrom terms p → AllByRecursion (IsFrom terms) (cond often (p ∷ Chosen p ∷ []) (cond fallible (p ∷ Inner p ∷ []) (p ∷ [])))
  inner_from true fallible p h = (h, (tt, tt))
  inner_from false true p h = (h, (tt, tt))
  inner_from false false p h = (h, tt)

  opening_paths_from : (opened : Opening) (p : Path) → IsFromOpening terms opened → AllByRecursion (IsFrom terms) (opening_paths opened p)
  opening_paths_from (AsVariant ty variant) p h = tt
  opening_paths_from (AsStruct ty) p h = tt
  opening_paths_from (ByExtractor term c count) p h = inner_from (answers_often c) (is_fallible c) (Extracted term p) h

  term_from : (mk : Making) (term : TermId) (ps : Paths) (k : ℕ) → AllByRecursion (IsFrom terms) (with_inner (calling env term) (term_path mk term ps k))
  term_from MakesNothing term ps k = inner_from (answers_often (calling env term)) (is_fallible (calling env term)) (Called term ps k) tt
  term_from (MakesVariant ty variant) term ps k = inner_from (answers_often (calling env term)) (is_fallible (calling env term)) (MadeVariant ty variant ps) tt
  term_from (MakesStruct ty) term ps k = inner_from (answers_often (calling env term)) (is_fallible (calling env term)) (MadeStruct ty ps) tt

  -- what rules' parts make is an answer of one of these, if of any extractor
  each_from : (constants : List TypedConstant) → HoldsOfEach (IsFrom terms) env terms constants
  each_from constants = record {
    arg = λ i. tt;
    exprs = record {
      nowhere = tt;
      truth = λ b. tt;
      number = λ ty v. tt;
      named = λ ty name c. tt;
      term = λ term ps k h. term_from (making env term) term ps k;
    };
    opened = λ term p h. opening_paths_from (opening env term) p (opening_from term h);
    part = λ term i p h. part_from (opening env term) i p (opening_from term h);
  }

  -- one of several paths
  from_one : (ps : List Path) (term : TermId) (q : Path) → AllByRecursion (IsFrom terms) ps → Contains ps (Extracted term q) → Contains terms (extracted term)
  from_one [] term q h c = absurd (none_contained (Extracted term q) c)
  from_one (p ∷ ps) term q h c = ⊎_elim (λ e. subst (IsFrom terms) e h.0) (from_one ps term q h.1) (contained_cases p ps (Extracted term q) c)

-- an extractor among the paths of rules is one that they call
pub extractors_called : (env : Environment) (rules : List Rule) (n : ℕ) (term : TermId) (q : Path) → Contains (rules_paths env rules n) (Extracted term q) → Contains (called env rules) (extracted term)
extractors_called env rules n term q c =
    let terms = called env rules in
    from_one terms env (rules_paths env rules n) term q (rules_each (IsFrom terms) env terms (rules_constants rules) (each_from terms env (rules_constants rules)) rules n (λ o d. d) (λ o d. d)) c
