-- What the rules of a term call.
use Rattle.std.specs.Prelude.{◌≡◌, Contains}
use Rattle.isle_core.specs.declared.TermId.{TermId}
use Rattle.isle_core.specs.declared.values.Callee.{Callee}
use Rattle.isle_core.specs.CalledTerms.{CalledTerm, called}
use Rattle.isle_core.specs.Calling.{Calling, ByTurns, ByCases, NoCall}
use Rattle.isle_core.specs.Lawful.{called_as}
use Rattle.isle_core.specs.Rule.{Environment, rules_of}

-- a call goes to the callee
abbrev pub GoesTo : Calling → Callee → Type 0
GoesTo (ByTurns callee kind) to = callee ≡ to
GoesTo (ByCases callee kind) to = callee ≡ to
GoesTo NoCall to = ⊥

-- a rule of the term calls a term whose calls go to the callee
pub record IsCalledBy (env : Environment) (id : TermId) (callee : Callee) : Type 0 where
  pub call : CalledTerm
  pub among : Contains (called env (rules_of env id)) call
  pub goes : GoesTo (called_as env call.term call.role) callee
