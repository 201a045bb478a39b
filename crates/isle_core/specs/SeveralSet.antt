-- What a flat rule of a `multi` term adds: its calls in order, what follows a list being done for each of its items.
use Rattle.std.specs.Prelude.{List, [], ◌∷◌, Bool, if◌then◌else◌, map}
use Rattle.std.specs.List.{list_any}
use Rattle.isle_core.specs.declared.rule_sets.FlatRule.{FlatRule}
use Rattle.isle_core.specs.Answered.{Held}
use Rattle.isle_core.specs.Calling.{Calling, calling, answers_often, is_fallible}
use Rattle.isle_core.specs.CallRun.{make}
use Rattle.isle_core.specs.Meaning.{Meaning}
use Rattle.isle_core.specs.Parts.{Given}
use Rattle.isle_core.specs.Path.{Path, Nowhere, Arg, ConstBool, ConstInt, ConstPrim, Extracted, Called, Chosen, MadeVariant, MadeStruct, VariantField, StructField, Wrapped, Inner, Part, at}
use Rattle.isle_core.specs.Rule.{Environment}
use Rattle.isle_core.specs.SamePath.{same_path}
use Rattle.isle_core.specs.SeveralRun.{behind_calls, give_held, on_items}
use Rattle.isle_core.specs.Value.{Value}
use Rattle.isle_core.specs.ValueAt.{Known, value_at, is_found}

-- whether a path is one of these
abbrev pub is_among : Path → List Path → Bool
is_among p done = list_any (same_path p) done

-- what follows if these calls are made, and the items of those that are lists are gone through
abbrev pub Rest : Type 0
Rest = List Path → Known → Given → Given

-- what follows an answer at a path: each item of a list; after nothing nothing does
abbrev pub behind_answer : Calling → Path → Held → List Path → Known → Given → Rest → Given
behind_answer c p h done known g rest = if answers_often c then on_items p h known g (rest done) else (if is_fallible c then (if is_found h then rest done known g else g) else rest done known g)

-- what follows the call at a path, which is made once
abbrev pub behind_call : Environment → Meaning → List Value → Path → List Path → Known → Given → Rest → Given
behind_call env m args (Called term ps instance) done known g rest =
    if is_among (Called term ps instance) done then rest done known g
    else behind_calls (make env m args (Called term ps instance) known g.calls) g (λ now so. behind_answer (calling env term) (Called term ps instance) (value_at env m args now (Called term ps instance)) (Called term ps instance ∷ done) now so rest)
behind_call env m args Nowhere done known g rest = rest done known g
behind_call env m args (Arg i) done known g rest = rest done known g
behind_call env m args (ConstBool ty b) done known g rest = rest done known g
behind_call env m args (ConstInt ty n) done known g rest = rest done known g
behind_call env m args (ConstPrim name) done known g rest = rest done known g
behind_call env m args (Extracted term q) done known g rest = rest done known g
behind_call env m args (Chosen q) done known g rest = rest done known g
behind_call env m args (MadeVariant ty variant ps) done known g rest = rest done known g
behind_call env m args (MadeStruct ty ps) done known g rest = rest done known g
behind_call env m args (VariantField variant field q) done known g rest = rest done known g
behind_call env m args (StructField field q) done known g rest = rest done known g
behind_call env m args (Wrapped q) done known g rest = rest done known g
behind_call env m args (Inner q) done known g rest = rest done known g
behind_call env m args (Part part q) done known g rest = rest done known g

-- what follows calls in order
abbrev pub behind_ordered : Environment → Meaning → List Value → List Path → List Path → Known → Given → Rest → Given
behind_ordered env m args [] done known g rest = rest done known g
behind_ordered env m args (p ∷ ps) done known g rest = behind_call env m args p done known g (λ now here so. behind_ordered env m args ps now here so rest)

-- what a flat rule adds whose bindings have these paths, with its items chosen
abbrev pub flat_part : Environment → Meaning → List Value → List Path → FlatRule → Known → Given → Given
flat_part env m args ps f known g = behind_ordered env m args (map (at ps) f.ordered) [] known g (λ done now so. give_held (value_at env m args now (at ps f.result)) so)
