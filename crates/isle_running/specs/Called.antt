-- What contracts see of the calls of a run.
use Rattle.std.specs.Prelude.{List, ◌++◌, ◌∷◌, [], map}
use Rattle.isle_core.specs.declared.values.Answers.{Answers}
use Rattle.isle_core.specs.declared.values.CallMade.{CallMade}
use Rattle.isle_core.specs.declared.values.Callee.{Callee}
use Rattle.isle_core.specs.declared.values.Value.{Value}
use Rattle.isle_core.specs.ValueViews.{made, pure_answers, turn_answers}
use Rattle.isle_running.specs.declared.sources.Sources.{Sources}
use Rattle.isle_running.specs.Sources.{FindsSources}

-- what calls are answered, and the calls made in order
pub record Called : Type 0 where
  pub answers : Answers
  pub made : List CallMade

-- a call more
abbrev pub called_more : Called → Callee → List Value → Called
called_more c callee args = record { answers = c.answers; made = c.made ++ record { callee = callee; args = args } ∷ [] }

-- the maps have what the next calls are answered
abbrev pub FindsAnswers : Answers → List CallMade → Sources → Type 0
FindsAnswers answers calls = FindsSources (map turn_answers answers.turns) (map pure_answers answers.pure) (map made calls)
