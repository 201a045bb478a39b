use Rattle.std.proofs.Common.{◌≡◌, ◌++◌}
use Rattle.std.specs.Prelude.{drop}
use Rattle.isle_terms.specs.Whole.{whole}
use Rattle.isle_sema.specs.TemplateUses.{template_uses}
use Rattle.isle_sema.proofs.UseSteps.{uses_of}
use Rattle.isle_sema.proofs.template_uses.used_templates.Given as goal

abbrev pub invariant-loop-term : goal.invariant-loop-term
invariant-loop-term l = template_uses (whole l.known) ≡ l.graph.items ++ uses_of (whole l.known) (drop l.term-index l.term-items)
