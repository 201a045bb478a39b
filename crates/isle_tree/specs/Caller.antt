-- Who answers the calls of a run.
use Rattle.std.specs.Prelude.{List, [], ◌∷◌, ◌++◌}
use Rattle.isle_core.specs.declared.values.Callee.{Callee}
use Rattle.isle_core.specs.Answered.{answer}
use Rattle.isle_core.specs.Meaning.{Meaning}
use Rattle.isle_core.specs.Value.{Value, Answer, Made, End}

-- a call is answered, with all calls made by then; or the whole run ends there; or there is no answer
pub data Called : Type 0 where
  Answered : Answer → List Made → Called
  Ended : End → List Made → Called
  Unanswered : Called

-- what comes of a call with these arguments after the calls made before
abbrev pub Caller : Type 0
Caller = Callee → List Value → List Made → Called

-- a call more
abbrev pub with_call : List Made → Callee → List Value → List Made
with_call made callee vs = made ++ record { callee = callee; args = vs } ∷ []

-- a meaning answers each call, which is made
abbrev pub by_meaning : Meaning → Caller
by_meaning m callee vs made = Answered (answer m callee vs made) (with_call made callee vs)
