-- A fault stands where a definition does.
use Rattle.std.proofs.Common.{◌≡◌, ◌⊎◌, inl, inr, ⊎_elim, List, [], Option, Some, None, refl, ap, ◌∙◌, subst}
use Rattle.std.specs.List.{AllByRecursion}
use Rattle.isle_core.specs.declared.errors.Error.{Error}
use Rattle.isle_core.specs.declared.position.Pos.{Pos}
use Rattle.isle_ast.specs.Positions.{place_of}
use Rattle.isle_ast.specs.Tree.{Def}
use Rattle.isle_types.specs.declared.row.Row.{Row}
use Rattle.isle_types.specs.Fault.{or_later, type_fault}
use Rattle.isle_types.specs.Gathered.{TellsFault, TellsTyping}
use Rattle.isle_types.proofs.FaultLaws.{after_lies, fault_lies, told_by}
use Rattle.isle_terms.specs.TermFault.{term_fault}
use Rattle.isle_terms.specs.Whole.{Whole, whole_of}
use Rattle.isle_sema.specs.Fault.{Stage, OfExtractors, OfRules, broken_in, fault_after, fault_in, later_fault}
use Rattle.isle_sema.specs.Typing.{fault}

-- what comes of two is of one of them
of_either : {X : Type 0} (first later : Option X) (x : X) → or_later first later ≡ Some x → (first ≡ Some x) ⊎ (later ≡ Some x)
of_either None later x h = inr h
of_either (Some y) later x h = inl h

-- the fault of a stage stands where a definition does
stage_lies : (P : Pos → Type 0) (stage : Stage) (w : Whole) (ds : List Def) → ds ≡ w.defs → AllByRecursion (λ (d : Def). P (place_of d)) ds → (f : Row × Pos) → fault_in stage w ≡ Some f → P f.1
stage_lies P stage w ds is h f k = after_lies P (λ bs d. broken_in stage (record { whole = w; before = bs }) d) [] ds f h (ap (fault_after stage w []) is ∙ k)

-- so does that of extractors and rules
later_lies : (P : Pos → Type 0) (ds : List Def) → AllByRecursion (λ (d : Def). P (place_of d)) ds → (f : Row × Pos) → later_fault (whole_of ds) ≡ Some f → P f.1
later_lies P ds h f k =
    let w = whole_of ds in
    ⊎_elim (λ x. stage_lies P OfExtractors w ds refl h f x) (λ x. stage_lies P OfRules w ds refl h f x) (of_either (fault_in OfExtractors w) (fault_in OfRules w) f k)

pub told_lies : (P : Pos → Type 0) (ds : List Def) (error : Error) → AllByRecursion (λ (d : Def). P (place_of d)) ds → TellsTyping (fault ds) (Some error) → (f : Row × Pos) × P f.1 × TellsFault f error
told_lies P ds error h t = told_by P (fault ds) error lies t
  where
    behind : Option (Row × Pos)
    behind = later_fault (whole_of ds)

    after : (f : Row × Pos) → or_later (term_fault (whole_of ds)) behind ≡ Some f → P f.1
    after f k = ⊎_elim (λ x. after_lies P _ [] ds f h x) (λ x. later_lies P ds h f x) (of_either (term_fault (whole_of ds)) behind f k)

    lies : (f : Row × Pos) → fault ds ≡ Some f → P f.1
    lies f k = ⊎_elim (λ x. fault_lies P ds f h x) (after f) (of_either (type_fault ds) (or_later (term_fault (whole_of ds)) behind) f k)

-- if there is none, no error reports one
pub untold : (ds : List Def) (error : Error) → fault ds ≡ None → TellsTyping (fault ds) (Some error) → ⊥
untold ds error none h = subst (λ o. TellsTyping o (Some error)) none h
