-- What a source is read with for which no item is chosen opens no list.
use Rattle.std.proofs.Common.{◌≡◌, ℕ, List, [], ◌∷◌, true, Option, refl, subst}
use Rattle.std.specs.Prelude.{Contains}
use Rattle.std.specs.List.{AllByRecursion}
use Rattle.isle_core.specs.declared.BindingId.{BindingId}
use Rattle.isle_core.specs.declared.rule_sets.Binding.{Binding}
use Rattle.isle_core.specs.declared.rule_sets.Constraint.{Constraint}
use Rattle.isle_core.specs.declared.rule_sets.RuleSet.{RuleSet}
use Rattle.isle_core.specs.declared.types.Term.{Term}
use Rattle.isle_core.specs.Bindable.{bound_by}
use Rattle.isle_core.specs.Calling.{kind_of, is_several}
use Rattle.isle_core.specs.Path.{Path, Chosen, at, paths_of}
use Rattle.isle_core.specs.Rule.{Environment}
use Rattle.isle_core.specs.Serializable.{IsTestable}
use Rattle.isle_core.specs.StandsFor.{EachOnce}
use Rattle.isle_core.specs.Tests.{Test}
use Rattle.isle_core.proofs.Contained.{none_contained}
use Rattle.isle_blocks.specs.declared.fields.Shown.{Shown}
use Rattle.isle_blocks.specs.Fields.{FieldKey, FindsFields, shows}
use Rattle.isle_blocks.specs.Followers.{FindsInners, FindsItems}
use Rattle.isle_blocks.specs.Free.{is_free}
use Rattle.isle_blocks.specs.Tree.{Ground, source_needs}
use Rattle.isle_blocks.proofs.FieldPlaces.{AreFieldsTyped}
use Rattle.isle_blocks.proofs.LawBound.{came_behind}
use Rattle.isle_blocks.proofs.LawSerializable.{test_ready}
use Rattle.isle_blocks.proofs.ListsRead.{HasOpened, loops, order_opens}
use Rattle.isle_blocks.proofs.MadeBefore.{IsWithin}
use Rattle.isle_blocks.proofs.NeededRuns.{AreStill}
use Rattle.isle_blocks.proofs.NextLaws.{FindsNext}
use Rattle.isle_blocks.proofs.TreeLawful.{free_lists}

-- a list of what isn't there
none_of : {A : Type 0} (xs : List A) → AllByRecursion (Contains []) xs → xs ≡ []
none_of [] h = refl
none_of (x ∷ xs) h = absurd (none_contained x h.0)

module _ (env : Environment) (t : Term) (s : RuleSet) (found : FieldKey → Option BindingId) (counts : Shown → Option ℕ) (inners next items : ℕ → Option BindingId) (is : is_several (kind_of t.kind) ≡ true) (finds : FindsFields s.bindings found counts)
    (found_inners : FindsInners s.bindings inners) (found_items : FindsItems s.bindings items) (found_next : FindsNext s.bindings next) (once : EachOnce (paths_of s.bindings)) (typed : AreFieldsTyped env t s.bindings)
    (fits : (p : Path) → Contains (paths_of s.bindings) (Chosen p) → is_several (kind_of t.kind) ≡ true) where
  abbrev bs : List Binding
  bs = s.bindings

  abbrev ps : List Path
  ps = paths_of s.bindings

  abbrev g : Ground
  g = record { several = true; bindings = s.bindings; shows = shows found counts inners; next = next; items = items }

  -- what it is read with makes no impure call and opens no list
  pub record IsFreeSource (bound : List ℕ) (source : BindingId) : Type 0 where
    pub still : AreStill env (paths_of s.bindings) (source_needs g bound source)
    pub opens : HasOpened s.bindings (bound_by bound (source_needs g bound source)) []

  pub free_source : (before : List Test) (bound : List ℕ) (source : BindingId) (c : Constraint) → IsWithin env (paths_of s.bindings) before bound
      → HasOpened s.bindings bound [] → IsTestable env t (paths_of s.bindings) before (source, c) → is_free (at (paths_of s.bindings) source) ≡ true
      → IsFreeSource bound source
  free_source before bound source c k opens one free =
      let ns = source_needs g bound source in
      let ready = test_ready true env t bs found counts inners next items is finds found_inners found_items found_next once typed fits before bound source c k.behind one.test one.stands in
      let o = order_opens env t bs ns [] bound [] once opens ready.binds (ready.items [] (free_lists (at ps source) env [] free)) in
      record { still = ready.still; opens = subst (λ qs. HasOpened bs (bound_by bound ns) (came_behind [] qs)) (none_of (loops bs ns) o.each) o.opens }
