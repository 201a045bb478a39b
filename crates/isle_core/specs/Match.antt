-- Matching patterns against values, with the names bound so far.
use Rattle.std.specs.Prelude.{ℕ, suc, List, [], ◌∷◌, Bool, ◌==◌, if◌then◌else◌, Option, Some, None, option_and_then, slice_get}
use Rattle.isle_core.specs.Value.{Value, Truth, Answer, Plain, Found, Nothing, Several}
use Rattle.isle_core.specs.SameValue.{same_value}
use Rattle.isle_core.specs.Choice.{Choice}
use Rattle.isle_core.specs.Constants.{int_value}
use Rattle.isle_core.specs.Meaning.{Meaning, case}
use Rattle.isle_core.specs.Calling.{Calling, ByTurns, ByCases, NoCall, extracting}
use Rattle.isle_core.specs.Having.{const_of}
use Rattle.isle_core.specs.Terms.{sym_text}
use Rattle.isle_core.specs.Making.{Making, MakesVariant, MakesStruct, MakesNothing, making}
use Rattle.isle_core.specs.Form.{is_made_by, parts}
use Rattle.isle_core.specs.Opening.{Opening, opening, part_path}
use Rattle.isle_core.specs.Path.{Path, Arg, Extracted}
use Rattle.isle_core.specs.Pattern.{Pattern, Patterns, NoPattern, APattern, BindPattern, Var, ConstBool, ConstInt, ConstPrim, Term, Wildcard, And}
use Rattle.isle_core.specs.Rule.{Environment}

-- the value of each variable, by its number
abbrev pub Names : Type 0
Names = ℕ → Option Value

-- no variable has a value
abbrev pub no_names : Names
no_names var = None

-- one variable more
abbrev pub with : {A : Type 0} → (ℕ → Option A) → ℕ → A → ℕ → Option A
with names x v y = if x == y then Some v else names y

-- the names as they are, if the test holds
abbrev pub if_holds : Bool → Names → Option Names
if_holds holds names = if holds then Some names else None

-- a variable: its first occurrence binds, a later one tests equality
abbrev pub met : Option Value → ℕ → Value → Names → Option Names
met None x v names = Some (with names x v)
met (Some w) x v names = if_holds (same_value w v) names

-- the value of a named constant, if it has one
abbrev pub equals_const : Option Value → Value → Names → Option Names
equals_const None v names = None
equals_const (Some w) v names = if_holds (same_value v w) names

-- the results of an answer: nothing has none, and a list has those of its item at this place
abbrev pub results : ℕ → Answer → Option (List Value)
results place (Plain vs) = Some vs
results place (Found vs) = Some vs
results place Nothing = None
results place (Several items) = slice_get items place

-- the results of an extractor on a value
abbrev pub extracted : Meaning → ℕ → Calling → Value → Option (List Value)
extracted m place (ByCases callee kind) v = results place (case m callee (v ∷ []))
extracted m place (ByTurns callee kind) v = None
extracted m place NoCall v = None

-- the values that the parts of a term's pattern match: the fields of what it makes, or the results of its extractor
abbrev pub taken_apart : Environment → Meaning → ℕ → Making → Calling → Value → Option (List Value)
taken_apart env m place (MakesVariant ty variant) c v = if is_made_by env (MakesVariant ty variant) v then Some (parts v) else None
taken_apart env m place (MakesStruct ty) c v = if is_made_by env (MakesStruct ty) v then Some (parts v) else None
taken_apart env m place MakesNothing c v = extracted m place c v

-- the names with those that the pattern binds, where it matches the value that stands at a path, with these items chosen; a term's parts match
-- the fields or the results that it takes the value apart into, `x @ P` binds x before it matches P, and each part of `and` matches the value
abbrev mutual
  pub matches : Environment → Meaning → Choice → Pattern → Path → Value → Names → Option Names
  matches env m choice (Var ty x) at v names = met (names x.0) x.0 v names
  matches env m choice (ConstBool b) at v names = if_holds (same_value v (Truth b)) names
  matches env m choice (ConstInt ty n) at v names = if_holds (same_value v (int_value env ty n)) names
  matches env m choice (ConstPrim ty name) at v names = equals_const (const_of m (sym_text env name)) v names
  matches env m choice (Wildcard ty) at v names = Some names
  matches env m choice (Term ty term ps) at v names =
      option_and_then (λ vs. matches_parts env m choice (opening env term) ps 0 at vs names) (taken_apart env m (choice (Extracted term at)) (making env term) (extracting env term) v)
  matches env m choice (BindPattern ty x p) at v names = option_and_then (matches env m choice p at v) (met (names x.0) x.0 v names)
  matches env m choice (And ty ps) at v names = matches_each env m choice ps at v names

  -- parts from the i-th on against as many values, in order
  pub matches_parts : Environment → Meaning → Choice → Opening → Patterns → ℕ → Path → List Value → Names → Option Names
  matches_parts env m choice o NoPattern i at [] names = Some names
  matches_parts env m choice o (APattern p ps) i at (v ∷ vs) names = option_and_then (matches_parts env m choice o ps (suc i) at vs) (matches env m choice p (part_path o i at) v names)
  matches_parts env m choice o NoPattern i at (v ∷ vs) names = None
  matches_parts env m choice o (APattern p ps) i at [] names = None

  -- each of several patterns against one value, in order
  pub matches_each : Environment → Meaning → Choice → Patterns → Path → Value → Names → Option Names
  matches_each env m choice NoPattern at v names = Some names
  matches_each env m choice (APattern p ps) at v names = option_and_then (matches_each env m choice ps at v) (matches env m choice p at v names)

-- patterns against as many arguments from the i-th on, in order
abbrev pub matches_all : Environment → Meaning → Choice → List Pattern → ℕ → List Value → Names → Option Names
matches_all env m choice [] i [] names = Some names
matches_all env m choice (p ∷ ps) i (v ∷ vs) names = option_and_then (matches_all env m choice ps (suc i) vs) (matches env m choice p (Arg i) v names)
matches_all env m choice [] i (v ∷ vs) names = None
matches_all env m choice (p ∷ ps) i [] names = None
