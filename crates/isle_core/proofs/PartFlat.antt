-- A flat rule adds what its rule does.
use Rattle.std.proofs.Common.{◌≡◌, ℕ, List, [], map, refl, sym, ap, ◌∙◌}
use Rattle.isle_base.specs.declared.ids.TypeId.{TypeId}
use Rattle.isle_core.specs.declared.rule_sets.FlatRule.{FlatRule}
use Rattle.isle_core.specs.Choice.{Choice}
use Rattle.isle_core.specs.Match.{Names}
use Rattle.isle_core.specs.Meaning.{Meaning}
use Rattle.isle_core.specs.Parts.{Given, give, none_taken, part}
use Rattle.isle_core.specs.Path.{Path, at}
use Rattle.isle_core.specs.Rule.{Environment, Rule}
use Rattle.isle_core.specs.SeveralRun.{give_held}
use Rattle.isle_core.specs.SeveralSet.{behind_ordered, flat_part}
use Rattle.isle_core.specs.StandsFor.{IsFlat}
use Rattle.isle_core.specs.Tests.{rule_places, rule_result}
use Rattle.isle_core.specs.Value.{Value}
use Rattle.isle_core.specs.ValueAt.{none_made, value_at}
use Rattle.isle_core.specs.Served.{IsTested}
use Rattle.isle_core.proofs.AnsweredTerms.{HasAnsweredCalls}
use Rattle.isle_core.proofs.Contained.{none_contained}
use Rattle.isle_core.proofs.EachFollows.{AnyOften, HasItems, each_follows}
use Rattle.isle_core.proofs.EarlyPlaces.{rule_takes}
use Rattle.isle_core.proofs.FirstParts.{firsts_add_all}
use Rattle.isle_core.proofs.KnownAnswers.{nothing_fresh}
use Rattle.isle_core.proofs.PatternTests.{Agree}
use Rattle.isle_core.proofs.RuleMatches.{rule_up_to}
use Rattle.isle_core.proofs.TakenItems.{GoesSo}

-- before all calls no list is gone through
pub none_gone : (env : Environment) (m : Meaning) (args : List Value) (choice : Choice) (n : ℕ) → GoesSo env m args choice n none_taken [] (none_made choice)
none_gone env m args choice n = record {
  fresh = nothing_fresh n choice;
  up_to = λ q e. absurd cc;
  reads = λ q e. absurd cc;
  some = λ q e list. absurd cc;
  none = λ q e. refl;
  early = λ q e. refl;
  there = λ q e list. absurd cc;
  found = λ q e fallible. absurd cc;
}

-- a rule that matches with its items chosen adds what its flat rule does with them
pub part_flat : (env : Environment) (m : Meaning) (args : List Value) (choice : Choice) (tys : List TypeId) (ps : List Path) (r : Rule) (n : ℕ) (f : FlatRule) (names : Names) (g : Given) → IsTested env tys r → HasAnsweredCalls AnyOften env m (rule_places env r) n r.rhs
    → HasItems env m args choice (rule_places env r) n r.rhs → IsFlat env ps r n f → Agree (value_at env m args (none_made choice)) names (rule_places env r) → part env m choice r names n g ≡ flat_part env m args ps f (none_made choice) g
part_flat env m args choice tys ps r n f names g tested answered items flat agree =
    let known = none_made choice in
    each_follows env m args choice r.rhs n names (rule_places env r) none_taken [] known g (λ v taken. give v) (λ done now. give_held (value_at env m args now (rule_result env r n))) answered items agree (rule_up_to env tys r n tested) (rule_takes env tys r [] tested) (none_gone env m args choice n)
    (λ v taken later now given h. sym (ap (λ x. give_held x given) h.held))
    ∙ firsts_add_all env m args flat.ordered [] known g (λ done now. give_held (value_at env m args now (rule_result env r n))) (λ q c. absurd (none_contained q c))
    ∙ ap (λ p. behind_ordered env m args (map (at ps) f.ordered) [] known g (λ done now. give_held (value_at env m args now p))) (sym flat.result)
