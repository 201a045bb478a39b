-- A written rule is a rule of its term once its templates are replaced and its variables numbered anew.
use Rattle.std.proofs.Common.{◌≡◌, ◌<◌, ℕ, List, length, false, Option}
use Rattle.isle_core.specs.declared.types.Term.{Term}
use Rattle.isle_core.specs.Pattern.{Pattern}
use Rattle.isle_core.specs.Rule.{Rule, Environment}
use Rattle.isle_walks.specs.Walks.{walks}
use Rattle.isle_templates.specs.Elaborated.{rule_expanded, elaborated}
use Rattle.isle_templates.specs.Substituted.{whole_templates}
use Rattle.isle_templates.specs.TypedRule.{IsRuleOf}
use Rattle.isle_templates.specs.Uses.{uses}
use Rattle.isle_templates.specs.WrittenRule.{IsWrittenRuleOf}
use Rattle.isle_templates.specs.WrittenType.{AreWrittenTemplates}
use Rattle.isle_templates.proofs.ExpandedRule.{rule_expanded_typed}
use Rattle.isle_templates.proofs.RenumberedRule.{renumbered_typed}

pub rule_elaborated : (env : Environment) (written : List (Option Pattern)) → AreWrittenTemplates env written → ((term : ℕ) → term < length written → walks (uses written) (length written) term ≡ false) → (t : Term) (r : Rule) → IsWrittenRuleOf env written t r
    → IsRuleOf env t (elaborated written r)
rule_elaborated env written sound within t r h = renumbered_typed env t (rule_expanded (whole_templates written) r) (rule_expanded_typed env written sound within t r h)
