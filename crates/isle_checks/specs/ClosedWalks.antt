-- Which terms the rule sets of terms use, and closed walks of them.
use Rattle.std.specs.Prelude.{List, [], ◌∷◌, ◌++◌, Bool, false, not, Option, Some, None, if◌then◌else◌, slice_get, Contains}
use Rattle.isle_core.specs.declared.TermId.{TermId}
use Rattle.isle_core.specs.declared.rule_sets.Binding.{Binding}
use Rattle.isle_core.specs.declared.rule_sets.Binding.TheVariants as binding
use Rattle.isle_core.specs.declared.rule_sets.RuleSet.{RuleSet}
use Rattle.isle_core.specs.declared.types.Term.{Term}
use Rattle.isle_core.specs.CalledTerms.{is_made_kind}

-- a term that is there and that no variant and no struct makes
abbrev pub is_declared : Option Term → Bool
is_declared None = false
is_declared (Some t) = not (is_made_kind t.kind)

-- a term that is used, if it is declared; made terms don't count
abbrev pub used : List Term → TermId → List TermId
used terms id = if is_declared (slice_get terms id.0) then id ∷ [] else []

-- the term that a binding uses, as a constructor or as an extractor
abbrev pub used_by : List Term → Binding → List TermId
used_by terms (binding.Constructor term parameters instance) = used terms term
used_by terms (binding.Extractor term parameter) = used terms term
used_by terms (binding.ConstBool val ty) = []
used_by terms (binding.ConstInt val ty) = []
used_by terms (binding.ConstPrim val) = []
used_by terms (binding.Argument index) = []
used_by terms (binding.Iterator source) = []
used_by terms (binding.MakeVariant ty variant fields) = []
used_by terms (binding.MakeStruct ty fields) = []
used_by terms (binding.MatchVariant source variant field) = []
used_by terms (binding.ExtractStruct source field) = []
used_by terms (binding.MakeSome inner) = []
used_by terms (binding.MatchSome source) = []
used_by terms (binding.MatchTuple source field) = []

-- the terms that bindings use, in order
abbrev pub uses_of : List Term → List Binding → List TermId
uses_of terms [] = []
uses_of terms (b ∷ bs) = used_by terms b ++ uses_of terms bs

-- a term has a rule set among these
abbrev pub IsListed : List (TermId × RuleSet) → TermId → Type 0
IsListed sets id = (set : RuleSet) × Contains sets (id, set)

-- a term with rules uses another one with rules
abbrev pub Uses : List Term → List (TermId × RuleSet) → (one other : TermId) → Type 0
Uses terms sets one other = (set : RuleSet) × Contains sets (one, set) × Contains (uses_of terms set.bindings) other × IsListed sets other

-- a walk leads from the one term through these to the other, each using the next
abbrev pub IsWalk : List Term → List (TermId × RuleSet) → (from : TermId) → List TermId → (to : TermId) → Type 0
IsWalk terms sets from [] to = Uses terms sets from to
IsWalk terms sets from (next ∷ rest) to = Uses terms sets from next × IsWalk terms sets next rest to

-- a term is on a closed walk: one leads from it back to it
abbrev pub IsOnClosedWalk : List Term → List (TermId × RuleSet) → TermId → Type 0
IsOnClosedWalk terms sets id = (between : List TermId) × IsWalk terms sets id between id
