-- How often terms answer where they are called.
use Rattle.std.specs.Prelude.{List, Contains}
use Rattle.isle_core.specs.declared.types.ReturnKind.{ReturnKind}
use Rattle.isle_core.specs.Calling.{AnswersOnce, HasKind}
use Rattle.isle_core.specs.CalledTerms.{CalledTerm}
use Rattle.isle_core.specs.Lawful.{called_as}
use Rattle.isle_core.specs.Rule.{Environment}

-- each of the terms, in its role, answers so often
abbrev pub AreOften : (ReturnKind → Type 0) → Environment → List CalledTerm → Type 0
AreOften K env terms = (o : CalledTerm) → Contains terms o → HasKind K (called_as env o.term o.role)

-- each answers at most once
abbrev pub AreSingle : Environment → List CalledTerm → Type 0
AreSingle env terms = AreOften AnswersOnce env terms
