-- The errors of rules that stand in files have their places there.
use Rattle.std.proofs.Common.{◌≡◌, ℕ, zero, suc, List, [], ◌∷◌, ◌++◌, length, map, Bool, true, false, Option, Some, None, sym, subst}
use Rattle.std.specs.Prelude.{All, IfSome, IsSomeAnd, slice_get}
use Rattle.std.specs.List.{AllByRecursion}
use Rattle.std.proofs.lemmas.List.Elements.{All-from_recursion}
use Rattle.isle_core.specs.declared.TermId.{TermId}
use Rattle.isle_core.specs.declared.errors.Error.{Error}
use Rattle.isle_core.specs.declared.errors.Error.TheVariants as error
use Rattle.isle_core.specs.declared.files.Files.{Files}
use Rattle.isle_core.specs.declared.position.Span.{Span}
use Rattle.isle_core.specs.ErrorLines.{IsPlaced}
use Rattle.isle_core.specs.Places.{LiesIn}
use Rattle.isle_core.specs.Terms.{with_rules}
use Rattle.isle_core.specs.Rule.{Environment, Rule, rules_of}
use Rattle.isle_checks.specs.CheckList.{RuleError, Unreached, Overlap, Shadowed, span_at, unreachable_of, overlap_of, shadow_of, positions, told, told_spans, is_multi, AreErrorsBelow, AreErrorsOfTerms, IsCheckList}
use Rattle.isle_checks.proofs.TermErrors.{all_filter}

module _ (files : Files) where
  -- rules stand in the files
  abbrev pub LieIn : List Rule → Type 0
  LieIn rules = AllByRecursion (λ (r : Rule). LiesIn files r.pos) rules

  -- a span begins in the files, if it is there
  abbrev BeginsIn : Option Span → Type 0
  BeginsIn o = IfSome o (λ (s : Span). LiesIn files s.from)

  -- the span that is told does
  abbrev IsToldIn : RuleError → Type 0
  IsToldIn (Unreached rule) = BeginsIn rule
  IsToldIn (Overlap earlier later) = BeginsIn later
  IsToldIn (Shadowed shadowed mask) = BeginsIn shadowed

  abbrev AreToldIn : List RuleError → Type 0
  AreToldIn es = AllByRecursion IsToldIn es

  both_told : (es fs : List RuleError) → AreToldIn es → AreToldIn fs → AreToldIn (es ++ fs)
  both_told [] fs h k = k
  both_told (e ∷ es) fs h k = (h.0, both_told es fs h.1 k)

  at_begins : (rules : List Rule) (i : ℕ) → LieIn rules → BeginsIn (span_at (positions rules) i)
  at_begins [] zero h = tt
  at_begins [] (suc i) h = tt
  at_begins (r ∷ rules) zero h = h.0
  at_begins (r ∷ rules) (suc i) h = at_begins rules i h.1

  module _ (env : Environment) where
    unreachable_told : (rules : List Rule) (j : ℕ) (u : Bool) → LieIn rules → AreToldIn (unreachable_of (positions rules) j u)
    unreachable_told rules j false h = tt
    unreachable_told rules j true h = (at_begins rules j h, tt)

    overlap_told : (rules : List Rule) (j : ℕ) (o : Option ℕ) → LieIn rules → AreToldIn (overlap_of (positions rules) j o)
    overlap_told rules j None h = tt
    overlap_told rules j (Some i) h = (at_begins rules j h, tt)

    shadow_told : (rules : List Rule) (j : ℕ) (o : Option ℕ) → LieIn rules → AreToldIn (shadow_of (positions rules) j o)
    shadow_told rules j None h = tt
    shadow_told rules j (Some i) h = (at_begins rules j h, tt)

    below_told : (multi : Bool) (rules : List Rule) (n : ℕ) (es : List RuleError) → LieIn rules → AreErrorsBelow env multi rules n es → AreToldIn es
    below_told multi rules zero es h k = subst AreToldIn (sym k) tt
    below_told multi rules (suc n) es h k =
        subst AreToldIn (sym k.4)
        (both_told k.0 k.1 (below_told multi rules n k.0 h k.2)
        (subst AreToldIn (sym k.3.are) (both_told (unreachable_of (positions rules) n k.3.unreachable ++ overlap_of (positions rules) n k.3.overlap) (shadow_of (positions rules) n k.3.shadow)
        (both_told (unreachable_of (positions rules) n k.3.unreachable) (overlap_of (positions rules) n k.3.overlap) (unreachable_told rules n k.3.unreachable h) (overlap_told rules n k.3.overlap h)) (shadow_told rules n k.3.shadow h))))

    terms_told : (ids : List TermId) (es : List RuleError) → LieIn env.rules → AreErrorsOfTerms env ids es → AreToldIn es
    terms_told [] es h k = subst AreToldIn (sym k) tt
    terms_told (id ∷ ids) es h k =
        subst AreToldIn (sym k.4)
        (both_told k.0 k.1 (below_told (is_multi env id) (rules_of env id) (length (rules_of env id)) k.0 (all_filter (λ (r : Rule). LiesIn files r.pos) _ env.rules h) k.2) (terms_told ids k.1 h k.3))

  error_same : (a b : RuleError) → Some a ≡ Some b → a ≡ b
  error_same a b e = cc

  overlap_placed : (spans : List Span) (x : RuleError) → told_spans spans ≡ Some x → IsToldIn x → IsSomeAnd (slice_get spans 1) (λ (s : Span). LiesIn files s.from)
  overlap_placed [] x h k = cc
  overlap_placed (a ∷ []) x h k = cc
  overlap_placed (a ∷ b ∷ []) x h k = subst IsToldIn (sym (error_same (Overlap (Some a) (Some b)) x h)) k
  overlap_placed (a ∷ b ∷ c ∷ more) x h k = cc

  error_placed : (e : Error) (x : RuleError) → told e ≡ Some x → IsToldIn x → IsPlaced files e
  error_placed (error.OverlapError msg rules) x h k = overlap_placed rules x h k
  error_placed (error.ShadowedError shadowed mask) x h k = subst IsToldIn (sym (error_same (Shadowed (Some shadowed) (Some mask)) x h)) k
  error_placed (error.ParseError msg span) x h k = cc
  error_placed (error.TypeError row msg span) x h k = cc
  error_placed (error.UnreachableError msg span) x h k = subst IsToldIn (sym (error_same (Unreached (Some span)) x h)) k
  error_placed (error.RecursionError msg span) x h k = cc

  head_same : (a : Option RuleError) (os ps : List (Option RuleError)) (b : Option RuleError) → a ∷ os ≡ b ∷ ps → (a ≡ b) × (os ≡ ps)
  head_same a os ps b e = (cc, cc)

  all_placed : (errors : List Error) (es : List RuleError) → map told errors ≡ map Some es → AreToldIn es → AllByRecursion (IsPlaced files) errors
  all_placed [] es h k = tt
  all_placed (e ∷ errors) [] h k = cc
  all_placed (e ∷ errors) (x ∷ es) h k =
      let both = head_same (told e) (map told errors) (map Some es) (Some x) h in
      (error_placed e x both.0 k.0, all_placed errors es both.1 k.1)

  -- the errors of rules that stand in files have their places there
  pub errors_placed : (env : Environment) (errors : List Error) → LieIn env.rules → IsCheckList env errors → All (IsPlaced files) errors
  errors_placed env errors h k = All-from_recursion (IsPlaced files) errors (all_placed errors k.0 k.2 (terms_told env (with_rules env) k.0 h k.1))
