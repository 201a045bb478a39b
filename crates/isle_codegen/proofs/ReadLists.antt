-- The rules of a term read the items of their own lists alone.
use Rattle.std.proofs.Common.{◌≡◌, ℕ, ◌+◌, List, [], ◌∷◌, map, Some}
use Rattle.std.specs.Prelude.{slice_get}
use Rattle.std.specs.List.{AllByRecursion}
use Rattle.std.proofs.lemmas.List.Elements.{recursion_from_All}
use Rattle.isle_core.specs.declared.TermId.{TermId}
use Rattle.isle_core.specs.declared.rule_sets.FlatRule.{FlatRule}
use Rattle.isle_core.specs.declared.rule_sets.RuleSet.{RuleSet}
use Rattle.isle_core.specs.declared.types.Term.{Term}
use Rattle.isle_core.specs.Calling.{impure}
use Rattle.isle_core.specs.ListOrder.{ListsWithin}
use Rattle.isle_core.specs.Path.{Path, at, paths_of}
use Rattle.isle_core.specs.Rule.{Environment, Rule, rules_of}
use Rattle.isle_core.specs.RuleSet.{is_test, equal_test}
use Rattle.isle_core.specs.StandsFor.{AreFlat, StandsFor}
use Rattle.isle_core.proofs.AllLaws.{all_front, all_back}
use Rattle.isle_ast.specs.Tree.{Def}
use Rattle.isle_blocks.specs.CallsOnce.{HasCallsOnce}
use Rattle.isle_blocks.specs.Several.{HasItsLists}
use Rattle.isle_blocks.proofs.OnceCalls.{set_once}
use Rattle.isle_sema.specs.Typing.{Typed}
use Rattle.isle_sema.proofs.ListsRead.{ReadsLists, ReadsItsLists, flat_reads}
use Rattle.isle_sema.proofs.TypedRules.{typed_of}
use Rattle.isle_templates.specs.TypedRule.{IsRuleOf}

mapped_all : {A B : Type 0} (P : B → Type 0) (g : A → B) (xs : List A) → AllByRecursion P (map g xs) → AllByRecursion (λ x. P (g x)) xs
mapped_all P g [] h = tt
mapped_all P g (x ∷ xs) h = (h.0, mapped_all P g xs h.1)

-- a flat rule that reads the items of its own lists alone, and has each ordered call once
has_lists : (env : Environment) (ps : List Path) (f : FlatRule) → ReadsItsLists ps f → HasCallsOnce env ps f → HasItsLists env ps f
has_lists env ps f h once =
    let own = map (at ps) f.iterators in
    let tests = map (is_test ps) f.constraints in
    let equals = map (equal_test ps) f.equals in
    record {
      tests = mapped_all (ReadsLists own) (is_test ps) f.constraints (all_front (ReadsLists own) tests equals h.tests);
      equals = mapped_all (ReadsLists own) (equal_test ps) f.equals (all_back (ReadsLists own) tests equals h.tests);
      lists = mapped_all (ListsWithin own) (at ps) f.iterators h.lists;
      calls = mapped_all (ListsWithin own) (at ps) f.ordered h.ordered;
      result = h.result;
      ordered = once;
    }

rules_lists : (env : Environment) (t : Term) (ps : List Path) (rs : List Rule) (n : ℕ) (fs : List FlatRule) → AreFlat env ps rs n fs → AllByRecursion (IsRuleOf env t) rs → AllByRecursion (HasCallsOnce env ps) fs → AllByRecursion (HasItsLists env ps) fs
rules_lists env t ps [] n [] flat typed once = tt
rules_lists env t ps [] n (f ∷ fs) flat typed once = absurd flat
rules_lists env t ps (r ∷ rs) n [] flat typed once = absurd flat
rules_lists env t ps (r ∷ rs) n (f ∷ fs) flat typed once = (has_lists env ps f (flat_reads env t ps r n f flat.0 typed.0) once.0, rules_lists env t ps rs (n + impure env r.rhs) fs flat.1 typed.1 once.1)

-- so of each rule of a set that stands for a term's rules
pub set_lists : (defs : List Def) (env : Environment) (id : TermId) (t : Term) (s : RuleSet) → Typed defs env → slice_get env.terms id.0 ≡ Some t → StandsFor env s (rules_of env id) → AllByRecursion (HasItsLists env (paths_of s.bindings)) s.rules
set_lists defs env id t s typed there stands =
    rules_lists env t (paths_of s.bindings) (rules_of env id) 0 s.rules stands.flat (recursion_from_All (IsRuleOf env t) (rules_of env id) (typed_of defs env id t typed there)) (set_once env s (rules_of env id) stands)
