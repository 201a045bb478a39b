-- Where no extractor breaks a row, each template has a tree, and none reaches itself.
use Rattle.std.proofs.Common.{◌≡◌, ℕ, Bool, true, false, List, [], Option, None, refl, sym, ap, ◌∙◌}
use Rattle.isle_core.specs.declared.TermId.{TermId}
use Rattle.isle_ast.specs.Tree.{Def}
use Rattle.isle_declarations.specs.Signatures.{extractors}
use Rattle.isle_templates.specs.Uses.{uses}
use Rattle.isle_templates.specs.Whole.{AreWholeFound}
use Rattle.isle_terms.specs.Whole.{Whole, whole_of}
use Rattle.isle_types.specs.TypeRows.{on}
use Rattle.isle_walks.specs.Walks.{on_closed_walk}
use Rattle.isle_sema.specs.Fault.{OfExtractors, fault_in}
use Rattle.isle_sema.specs.TemplatesChecked.{extractors_fault}
use Rattle.isle_sema.specs.TemplateUses.{template_uses}
use Rattle.isle_sema.specs.Templates.{templates, are_treed}
use Rattle.isle_sema.proofs.BuiltForms.{no_both}
use Rattle.isle_sema.proofs.DeclaredWell.{AreDeclaredWell}
use Rattle.isle_sema.proofs.ExtractorFaults.{extractors_fault_is}
use Rattle.isle_sema.proofs.ExtractorLaws.{AreKeptIn, kept_in}
use Rattle.isle_sema.proofs.TreedTemplates.{all_treed}
use Rattle.isle_sema.proofs.UsedTerms.{closed_used}
use Rattle.isle_sema.proofs.UsesSeen.{uses_same}

-- what holds of extractors that break no row
pub record AreSound (defs : List Def) : Type 0 where
  pub sound : fault_in OfExtractors (whole_of defs) ≡ None
  pub treed : are_treed (whole_of defs) ≡ true
  pub free : (term : ℕ) → on_closed_walk (uses (templates (whole_of defs))) term ≡ false

pub are_sound : (defs : List Def) → AreDeclaredWell defs → extractors_fault (whole_of defs) (extractors defs) ≡ None → AreSound defs
are_sound defs d h = record { sound = none; treed = treed; free = λ term. ap (λ graph. on_closed_walk graph term) (sym (uses_same w treed)) ∙ open_walk term (on_closed_walk (template_uses w) term) refl }
  where
    w : Whole
    w = whole_of defs

    none : fault_in OfExtractors w ≡ None
    none = extractors_fault_is w [] defs ∙ h

    kept : AreKeptIn w (extractors defs)
    kept = kept_in w [] defs none

    treed : are_treed w ≡ true
    treed = all_treed defs d kept.built

    open_walk : (term : ℕ) (b : Bool) → on_closed_walk (template_uses w) term ≡ b → on_closed_walk (template_uses w) term ≡ false
    open_walk term false e = e
    open_walk term true e =
        let u = closed_used w term e in
        ap (λ (o : Option TermId). on o (λ (n : TermId). on_closed_walk (template_uses w) n.0)) (sym u.number) ∙ kept.walks u.by u.among u.template u.how

-- so templates are found with those that they use replaced
pub none_missing : (defs : List Def) → AreSound defs → AreWholeFound (templates (whole_of defs)) None → ⊥
none_missing defs s walk = no_both walk.1 (s.free walk.0)
