use Rattle.std.proofs.Common.{◌≡◌, inr, refl, sym, ◌∙◌}
use Rattle.isle_core.specs.RuleViews.{pattern as elaborated}
use Rattle.isle_templates.specs.Substituted.{expanded}
use Rattle.isle_templates.proofs.KeptSteps.{not_replaced}
use Rattle.isle_templates.proofs.keeping.kept_with.Goals as goal

pub returns-in-Some : goal.returns-in-Some
returns-in-Some c = λ inner stands.
    let whole : elaborated c.in-Some.found.pattern ≡ expanded inner (elaborated c.args.written.now) = c.in_ok-whole.ensures c.in-Some.found c.in-Some.is inner stands in (
      refl,
      inr (
        refl,
        λ none all. record {
          whole = sym whole ∙ sym (not_replaced none all (elaborated c.in-Some.found.pattern));
          nodes = c.whole_nodes-nodes.ensures inner stands;
          times = c.in_ok-times.ensures inner stands;
        },
      ),
    )
