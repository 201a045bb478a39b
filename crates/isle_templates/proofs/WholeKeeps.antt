-- Where no template reaches itself, no variable is lost as templates are replaced.
use Rattle.std.proofs.Common.{◌≡◌, ◌<◌, ℕ, zero, suc, List, length, false, Option, Some, None, refl, sym, ap, ◌∙◌, subst}
use Rattle.std.specs.Prelude.{Contains, slice_get, option_map}
use Rattle.std.proofs.lemmas.List.{length-map}
use Rattle.std.proofs.lemmas.Option.{none-some, same_Some, slice_get_within, option_and_then_some}
use Rattle.isle_base.specs.declared.ids.TypeId.{TypeId}
use Rattle.isle_base.specs.declared.ids.TermId.{TermId}
use Rattle.isle_core.proofs.ListLaws.{not_both}
use Rattle.isle_core.specs.Pattern.{Pattern}
use Rattle.isle_core.specs.Rule.{Environment}
use Rattle.isle_core.specs.TypedVariables.{typed_variables}
use Rattle.isle_walks.specs.Walks.{walks, next_of}
use Rattle.isle_templates.specs.Substituted.{blank, template_of, expanded, templates_at, whole_templates}
use Rattle.isle_templates.specs.Uses.{used_in, used_by, uses}
use Rattle.isle_templates.specs.WrittenType.{IsWrittenOf, AreWrittenTemplates}
use Rattle.isle_templates.proofs.ExpandedKeeps.{HasParameters, IsComplete, AreComplete, expanded_keeps}
use Rattle.isle_templates.proofs.UsesKept.{used_at, uses_at, fails_at}
use Rattle.isle_templates.proofs.WholeTemplates.{template_at, written_at, templates_sound}

-- no walk of this many steps starts at a template
abbrev pub AreWithin : List (Option Pattern) → (depth : ℕ) → Type 0
AreWithin written depth = (term : ℕ) → term < length written → walks (uses written) depth term ≡ false

-- as many templates at any depth
length_at : (written : List (Option Pattern)) (depth : ℕ) → length (templates_at written depth) ≡ length written
length_at written zero = length-map written (option_map blank)
length_at written (suc depth) = length-map written (option_map (expanded (templates_at written depth)))

-- a template stands for one of the terms
term_within : (templates : List (Option Pattern)) (term : TermId) (template : Pattern) → template_of templates term ≡ Some template → term.0 < length templates
term_within templates term template e = option_and_then_some (λ (t : Option Pattern). t) (slice_get templates term.0) template e (λ o there same. slice_get_within templates term.0 o there)

module _ (env : Environment) (written : List (Option Pattern)) (sound : AreWrittenTemplates env written) where
  -- a template is complete if those that it uses are
  one_deeper : (depth : ℕ) (term : TermId) → ((other : TermId) → walks (uses written) depth other.0 ≡ false → IsComplete env (templates_at written depth) other) → walks (uses written) (suc depth) term.0 ≡ false
      → IsComplete env (templates_at written (suc depth)) term
  one_deeper depth term below ends t template there e = pick (template_of written term) refl
    where
      at : List (Option Pattern)
      at = templates_at written depth

      made : (o : Option Pattern) → template_of written term ≡ o → option_map (expanded at) o ≡ Some template
      made o is = ap (option_map (expanded at)) (sym is) ∙ sym (template_at (expanded at) written term) ∙ e

      used_complete : (old : Pattern) → template_of written term ≡ Some old → AreComplete env at (used_in written old)
      used_complete old is other c = below other (fails_at (walks (uses written) depth) (next_of (uses written) term.0) other.0 ends (subst (λ ns. Contains ns other.0) (sym (uses_at written term ∙ ap (used_by written) is)) c))

      pick : (o : Option Pattern) → template_of written term ≡ o → HasParameters t template
      pick None is ty i k = absurd (none-some template (made None is))
      pick (Some old) is ty i k =
          let one = sound term t old there is in
          let complete = subst (AreComplete env at) (sym (used_at written depth old)) (used_complete old is) in
          subst (λ p. Contains (typed_variables p) (ty, i)) (same_Some (expanded at old) template (made (Some old) is))
          (expanded_keeps env at (templates_sound env written sound depth) (ty, i) t.ret_ty old (written_at env written sound depth t.ret_ty old one.whole) complete (one.occurs ty i k))

  -- a template from which no walk of so many steps starts has all its parameters at that depth
  complete_at : (depth : ℕ) (term : TermId) → walks (uses written) depth term.0 ≡ false → IsComplete env (templates_at written depth) term
  complete_at zero term ends t template there e ty i k = absurd (not_both refl ends)
  complete_at (suc depth) term ends t template there e ty i k = one_deeper depth term (complete_at depth) ends t template there e ty i k

  module _ (within : AreWithin written (length written)) where
    whole_complete : (term : TermId) → IsComplete env (whole_templates written) term
    whole_complete term t template there e =
        let inside = term_within (whole_templates written) term template e in
        complete_at (length written) term (within term.0 (subst (λ n. term.0 < n) (length_at written (length written)) inside)) t template there e

    -- a rule's pattern with all templates replaced has all variables that it had
    pub whole_keeps : (v : TypeId × ℕ) (ty : TypeId) (p : Pattern) → IsWrittenOf env written ty p → Contains (typed_variables p) v → Contains (typed_variables (expanded (whole_templates written) p)) v
    whole_keeps v ty p h c = expanded_keeps env (whole_templates written) (templates_sound env written sound (length written)) v ty p (written_at env written sound (length written) ty p h) (λ term d. whole_complete term) c
