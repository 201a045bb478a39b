-- Functions that are emitted one after another.
use Rattle.std.proofs.Common.{◌≡◌, ℕ, ◌+◌, ◌<◌, List, [], ◌∷◌, ◌++◌, length, take, get_or, Some, sym, ap, ◌∙◌, subst}
use Rattle.std.specs.Prelude.{slice_get}
use Rattle.std.specs.List.{AllByRecursion}
use Rattle.std.proofs.lemmas.List.{take_more}
use Rattle.std.proofs.lemmas.Option.{slice_get_within, slice_get-get_or}
use Rattle.isle_core.specs.declared.options.CodegenOptions.{CodegenOptions}
use Rattle.isle_core.specs.declared.TermId.{TermId}
use Rattle.isle_core.specs.declared.files.Files.{Files}
use Rattle.isle_core.specs.declared.rule_sets.RuleSet.{RuleSet}
use Rattle.isle_core.specs.declared.types.Term.{Term}
use Rattle.isle_core.specs.Block.{Block}
use Rattle.isle_core.specs.BlockLawful.{IsLawfulBlock}
use Rattle.isle_core.specs.declared.rule_sets.FlatRule.{FlatRule}
use Rattle.isle_core.specs.Path.{paths_of}
use Rattle.isle_core.specs.Calling.{is_several, kind_of}
use Rattle.isle_blocks.specs.AllReturns.{MakesReturns}
use Rattle.isle_blocks.specs.AllTests.{MakesTests}
use Rattle.isle_blocks.specs.AskedBound.{AsksAtMost}
use Rattle.isle_blocks.specs.LoopFree.{HasNoLoop}
use Rattle.isle_blocks.specs.LoopsApart.{HasLoopsApart}
use Rattle.isle_blocks.specs.Merged.{IsMerged}
use Rattle.isle_blocks.specs.RuleReads.{OrdersCallsOnce}
use Rattle.isle_blocks.specs.RuleTests.{TestsRules}
use Rattle.isle_core.specs.Rule.{Environment}
use Rattle.isle_core.specs.Setting.{setting}
use Rattle.isle_blocks.specs.CallsOnce.{HasCallsOnce}
use Rattle.isle_blocks.specs.Several.{HasItsLists}
use Rattle.isle_tree.specs.Program.{Function}
use Rattle.isle_simulation.specs.TermFunction.{term_function}
use Rattle.isle_codegen.specs.Emits.{MeansSet, CanEmit, IsEmitted, AreEmitted}

some_one : (a b : Term) → Some a ≡ Some b → a ≡ b
some_one a b e = cc

-- an item that is read at a place where one stands
pub at_place : (ts : List Term) (i : ℕ) (x t : Term) → x ≡ get_or ts i x → slice_get ts i ≡ Some t → slice_get ts i ≡ Some x
at_place ts i x t is e = slice_get-get_or ts i x (slice_get_within ts i t e) ∙ ap Some (sym is)

-- the term that is read if one may be emitted is that one
pub term_is : (files : Files) (env : Environment) (id : TermId) (s : RuleSet) (t : Term) → (h : CanEmit files env (id, s)) → slice_get env.terms id.0 ≡ Some t → t ≡ h.term
term_is files env id s t h there = some_one t h.term (sym there ∙ h.found)

-- the ordered calls of its rules stand once
pub calls_once : (files : Files) (env : Environment) (id : TermId) (s : RuleSet) → CanEmit files env (id, s) → AllByRecursion (HasCallsOnce env (paths_of s.bindings)) s.rules
calls_once files env id s h = each s.rules h.lists
  where
    each : (fs : List FlatRule) → AllByRecursion (HasItsLists env (paths_of s.bindings)) fs → AllByRecursion (HasCallsOnce env (paths_of s.bindings)) fs
    each [] k = tt
    each (f ∷ fs) k = (k.0.ordered, each fs k.1)

-- the function of a block of the rule set is emitted for it
pub is_emitted : (options : CodegenOptions) (files : Files) (env : Environment) (id : TermId) (s : RuleSet) (t : Term) (b : Block) (f : Function) → (h : CanEmit files env (id, s)) → slice_get env.terms id.0 ≡ Some t
    → IsLawfulBlock (setting env h.term s.bindings) b → IsMerged b → HasLoopsApart s b → MeansSet env h.term s b → TestsRules s b → MakesTests (is_several (kind_of h.term.kind)) s b → MakesReturns (is_several (kind_of h.term.kind)) s b → (AllByRecursion (OrdersCallsOnce env (paths_of s.bindings)) s.rules → HasNoLoop b → AsksAtMost env s b)
    → term_function options files (setting env t s.bindings) b ≡ Some f → IsEmitted options files env id s f
is_emitted options files env id s t b f h there lawful merged loops means tests makes gives asks given = record {
  term = h.term;
  found = h.found;
  block = b;
  lawful = lawful;
  merged = merged;
  loops = loops;
  means = means;
  tests = tests;
  makes = makes;
  gives = gives;
  asks = asks;
  given = ap (λ (u : Term). term_function options files (setting env u s.bindings) b) (sym (term_is files env id s t h there)) ∙ given;
}

both_emitted : (options : CodegenOptions) (files : Files) (env : Environment) (ss ts : List (TermId × RuleSet)) (fs gs : List Function) → AreEmitted options files env ss fs → AreEmitted options files env ts gs → AreEmitted options files env (ss ++ ts) (fs ++ gs)
both_emitted options files env [] ts [] gs h k = k
both_emitted options files env (s ∷ ss) ts (f ∷ fs) gs h k = (h.0, both_emitted options files env ss ts fs gs h.1 k)
both_emitted options files env [] ts (f ∷ fs) gs h k = absurd h
both_emitted options files env (s ∷ ss) ts [] gs h k = absurd h

-- one function more
pub emitted_more : (options : CodegenOptions) (files : Files) (env : Environment) (sets : List (TermId × RuleSet)) (i : ℕ) (s : TermId × RuleSet) (fs : List Function) (f : Function) → i < length sets → s ≡ get_or sets i s
    → AreEmitted options files env (take i sets) fs → IsEmitted options files env s.0 s.1 f → AreEmitted options files env (take (i + 1) sets) (fs ++ f ∷ [])
emitted_more options files env sets i s fs f lt is h k =
    let all : take (i + 1) sets ≡ take i sets ++ s ∷ [] = take_more sets i s lt ∙ ap (λ y. take i sets ++ y ∷ []) (sym is) in
    subst (λ xs. AreEmitted options files env xs (fs ++ f ∷ [])) (sym all) (both_emitted options files env (take i sets) (s ∷ []) fs (f ∷ []) h (k, tt))
