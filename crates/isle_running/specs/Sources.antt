-- How the code finds what callees answer.
use Rattle.std.specs.Prelude.{◌≡◌, ℕ, List, map, drop, find, cond, Option, Some, None, option_map, slice_index_or}
use Rattle.std.specs.BTreeMap.{BTreeMap, get_by}
use Rattle.std.specs.Cmp.Lexicographic.{slice_cmp}
use Rattle.std.specs.Ordering.{nat_cmp}
use Rattle.std.specs.Str.{bytes_eq}
use denote.Ref.{Bor}
use Rattle.isle_core.specs.declared.values.Callee.{Callee}
use Rattle.isle_core.specs.declared.values.Callee.TheVariants as callee
use Rattle.isle_core.specs.Value.{Value, Answer, Nothing, Made}
use Rattle.isle_core.specs.Meaning.{PureAnswers, TurnAnswers, times, case_at}
use Rattle.isle_core.specs.Terms.{goes_to}
use Rattle.isle_core.specs.ValueViews.{answer, pure_answers}
use Rattle.isle_running.specs.declared.source.Source.{Source as CodeSource}
use Rattle.isle_running.specs.declared.source.Source.TheVariants as code
use Rattle.isle_running.specs.declared.sources.Sources.{Sources}

-- the answers of a callee: its cases, or the turns that are left and the rest
pub data Source : Type 0 where
  Cases : PureAnswers → Source
  Turns : (left : List Answer) → (rest : Answer) → Source

-- those that the code has
abbrev pub source : CodeSource → Source
source (code.Cases a) = Cases (pure_answers a.now)
source (code.Turns left rest) = Turns (map answer left.now) (answer rest.now)

-- what a call is answered
abbrev pub answered_by : Option Source → List Value → Answer
answered_by None vs = Nothing
answered_by (Some (Cases a)) vs = case_at (Some a) vs
answered_by (Some (Turns left rest)) vs = slice_index_or left 0 rest

-- the answers after a call
abbrev pub after_call : Source → Source
after_call (Cases a) = Cases a
after_call (Turns left rest) = Turns (drop 1 left) rest

-- the answers after as many calls, of a callee that has turns or cases
abbrev pub after_calls : Option TurnAnswers → Option PureAnswers → ℕ → Option Source
after_calls (Some a) cases n = Some (Turns (drop n a.turns) a.rest)
after_calls None cases n = option_map Cases cases

-- what a map has at a name
abbrev pub at_name : BTreeMap (Bor (List ℕ)) CodeSource → List ℕ → Option Source
at_name found name = option_map source (get_by (λ (k : Bor (List ℕ)). slice_cmp nat_cmp name k.now) found)

-- what the maps have for a callee
abbrev pub at_callee : Sources → Callee → Option Source
at_callee s (callee.External name) = at_name s.external name
at_callee s (callee.Internal term) = at_name s.internal term

-- this name has this one now, and others what they had
abbrev pub PutsAt : (old new : BTreeMap (Bor (List ℕ)) CodeSource) → List ℕ → CodeSource → Type 0
PutsAt old new put s = (name : List ℕ) → at_name new name ≡ cond (bytes_eq name put) (Some (source s)) (at_name old name)

-- this callee has this one now, and others what they had
abbrev pub Puts : (old new : Sources) → Callee → CodeSource → Type 0
Puts old new put s = (c : Callee) → at_callee new c ≡ cond (goes_to c (Some put)) (Some (source s)) (at_callee old c)

-- at this name a call was made
abbrev pub TakesAt : (old new : BTreeMap (Bor (List ℕ)) CodeSource) → List ℕ → Type 0
TakesAt old new called = (name : List ℕ) → at_name new name ≡ cond (bytes_eq name called) (option_map after_call (at_name old name)) (at_name old name)

-- this callee was called
abbrev pub Takes : (old new : Sources) → Callee → Type 0
Takes old new called = (c : Callee) → at_callee new c ≡ cond (goes_to c (Some called)) (option_map after_call (at_callee old c)) (at_callee old c)

-- the first turns of a callee
abbrev pub first_turns : List TurnAnswers → Callee → Option TurnAnswers
first_turns turns c = find (λ (a : TurnAnswers). goes_to c (Some a.callee)) turns

-- its first cases
abbrev pub first_cases : List PureAnswers → Callee → Option PureAnswers
first_cases pure c = find (λ (a : PureAnswers). goes_to c (Some a.callee)) pure

-- the maps have the answers of each callee after the calls made: those of its first turns, or else of its first cases
pub record FindsSources (turns : List TurnAnswers) (pure : List PureAnswers) (made : List Made) (s : Sources) : Type 0 where
  pub finds : (c : Callee) → at_callee s c ≡ after_calls (first_turns turns c) (first_cases pure c) (times c made)
