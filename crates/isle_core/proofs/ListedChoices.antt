-- The lists of a flat rule that hold no impure call are those over whose items its rule's choices go.
use Rattle.std.proofs.Common.{◌≡◌, ⊎_elim, Bool, false, List, map, ap}
use Rattle.std.specs.Prelude.{Contains, ◌↔◌, not}
use Rattle.std.proofs.lemmas.Bool.{not-true}
use Rattle.isle_core.specs.declared.rule_sets.FlatRule.{FlatRule}
use Rattle.isle_core.specs.HoldsImpure.{holds_impure}
use Rattle.isle_core.specs.Iterators.{rule_iterators}
use Rattle.isle_core.specs.Pairs.{Placed, choice_paths}
use Rattle.isle_core.specs.Path.{Path, at}
use Rattle.isle_core.specs.Rule.{Environment}
use Rattle.isle_core.specs.StandsFor.{IsFlat}
use Rattle.isle_core.proofs.Contained.{none_contained}
use Rattle.isle_core.proofs.FirstItems.{firsts_hold, among_firsts}
use Rattle.isle_core.proofs.ListLaws.{filter_from, filter_keeps}

-- its lists that hold no impure call are the paths at which an item of the rule is chosen
pub choice_listed : (env : Environment) (ps : List Path) (p : Placed) (f : FlatRule) → IsFlat env ps p.rule p.before f → (q : Path) → (Contains (map (at ps) f.iterators) q × (holds_impure env q ≡ false)) ↔ Contains (choice_paths env p) q
choice_listed env ps p f flat q =
    let lists = rule_iterators env p.rule p.before in
    let test : Path → Bool = λ x. not (holds_impure env x) in (
      (λ h. filter_keeps test lists q (among_firsts q flat.iterators h.0) (ap not h.1)),
      (λ c. let k = filter_from test lists q c in (⊎_elim (λ d. absurd (none_contained q d)) (λ d. d) (firsts_hold q flat.iterators k.0), not-true (holds_impure env q) k.1)),
    )
