-- Evaluating expressions: a value or a failure, and the impure calls made.
use Rattle.std.specs.Prelude.{ℕ, ◌+◌, List, [], ◌∷◌, ◌++◌, Option, Some, None, option_and_then, slice_get}
use Rattle.isle_core.specs.Value.{Value, Truth, Made}
use Rattle.isle_core.specs.Constants.{int_value}
use Rattle.isle_core.specs.Meaning.{Meaning, turn, case}
use Rattle.isle_core.specs.Answered.{Item, AValue, ATuple, Held, Absent, One, Optional, Listed, answer_held}
use Rattle.isle_core.specs.Calling.{Calling, ByTurns, ByCases, NoCall, calling, impure, impure_all, impure_bindings}
use Rattle.isle_core.specs.Choice.{Choice}
use Rattle.isle_core.specs.Expr.{Expr, Exprs, NoExpr, AnExpr, LetBindings, NoBinding, ABinding, Term, Var, ConstBool, ConstInt, ConstPrim, Let}
use Rattle.isle_core.specs.Having.{const_of}
use Rattle.isle_core.specs.Terms.{sym_text}
use Rattle.isle_core.specs.Making.{Making, MakesVariant, MakesStruct, MakesNothing, making}
use Rattle.isle_core.specs.Form.{made_value}
use Rattle.isle_core.specs.Match.{Names, with, matches}
use Rattle.isle_core.specs.RightSide.{Places, call_path, path, paths, let_places}
use Rattle.isle_core.specs.Rule.{Environment, IfLet}
use Rattle.isle_core.specs.Tests.{after}

-- a value or a failure, and all impure calls so far
pub data Evaluated : Type 0 where
  Answered : Value → List Made → Evaluated
  Failed : List Made → Evaluated

-- the values of expressions in order, or a failure of one, and all impure calls so far
pub data EvaluatedAll : Type 0 where
  AllAnswered : List Value → List Made → EvaluatedAll
  OneFailed : List Made → EvaluatedAll

-- the value of a variable or of a named constant
abbrev pub named : Option Value → List Made → Evaluated
named (Some v) made = Answered v made
named None made = Failed made

-- what follows a value; after a failure nothing does
abbrev pub then_all : Evaluated → (Value → List Made → EvaluatedAll) → EvaluatedAll
then_all (Answered v made) go = go v made
then_all (Failed made) go = OneFailed made

-- a value before others
abbrev pub before : Value → EvaluatedAll → EvaluatedAll
before v (AllAnswered vs made) = AllAnswered (v ∷ vs) made
before v (OneFailed made) = OneFailed made

-- what follows values; after a failure nothing does
abbrev pub then_one : EvaluatedAll → (List Value → List Made → Evaluated) → Evaluated
then_one (AllAnswered vs made) go = go vs made
then_one (OneFailed made) go = Failed made

-- what an item gives; no constructor answers a tuple
abbrev pub answered_item : Option Item → List Made → Evaluated
answered_item (Some (AValue v)) made = Answered v made
answered_item (Some (ATuple vs)) made = Failed made
answered_item None made = Failed made

-- what a call's answer gives: a value, that of an option, or that of the item at this place in a list; nothing is a failure
abbrev pub answered : ℕ → Held → List Made → Evaluated
answered place (One i) made = answered_item (Some i) made
answered place (Optional o) made = answered_item o made
answered place Absent made = Failed made
answered place (Listed is) made = answered_item (slice_get is place) made

-- a call with these arguments: an impure one takes its turn and is made
abbrev pub called_with : Meaning → ℕ → Calling → List Value → List Made → Evaluated
called_with m place (ByTurns callee kind) vs made = answered place (answer_held (turn m callee made)) (made ++ record { callee = callee; args = vs } ∷ [])
called_with m place (ByCases callee kind) vs made = answered place (answer_held (case m callee vs)) made
called_with m place NoCall vs made = Failed made

-- a term with these arguments: a made one makes its value, any other one is called
abbrev pub made_or_called : Environment → Meaning → ℕ → Making → Calling → List Value → List Made → Evaluated
made_or_called env m place (MakesVariant ty variant) c vs made = Answered (made_value env (MakesVariant ty variant) vs) made
made_or_called env m place (MakesStruct ty) c vs made = Answered (made_value env (MakesStruct ty) vs) made
made_or_called env m place MakesNothing c vs made = called_with m place c vs made

-- the names with those of a `let`, or a failure of one of its values, and all impure calls so far
pub data Bound : Type 0 where
  AllBound : Names → List Made → Bound
  NotBound : List Made → Bound

-- what follows a value of a `let`; after a failure nothing does
abbrev pub then_bind : Evaluated → (Value → List Made → Bound) → Bound
then_bind (Answered v made) go = go v made
then_bind (Failed made) go = NotBound made

-- what follows all values of a `let`; after a failure nothing does
abbrev pub then_within : Bound → (Names → List Made → Evaluated) → Evaluated
then_within (AllBound names made) go = go names made
then_within (NotBound made) go = Failed made

-- the evaluation of an expression, after the calls made before: arguments first, and each value of a `let` in order. Its variables stand at these
-- places, and so many impure calls stand before it, which tells the paths of its calls and so the items that are chosen
abbrev mutual
  pub evaluated : Environment → Meaning → Choice → Expr → Names → Places → ℕ → List Made → Evaluated
  evaluated env m choice (ConstBool b) names places n made = Answered (Truth b) made
  evaluated env m choice (ConstInt ty k) names places n made = Answered (int_value env ty k) made
  evaluated env m choice (Var ty x) names places n made = named (names x.0) made
  evaluated env m choice (Term ty term es) names places n made =
      then_one (evaluated_all env m choice es names places n made) (made_or_called env m (choice (call_path env term (paths env es places n) (n + impure_all env es))) (making env term) (calling env term))
  evaluated env m choice (ConstPrim ty name) names places n made = named (const_of m (sym_text env name)) made
  evaluated env m choice (Let ty bindings inner) names places n made =
      then_within (bound env m choice bindings names places n made) (λ all calls. evaluated env m choice inner all (let_places env bindings places n) (n + impure_bindings env bindings) calls)

  -- from left to right
  pub evaluated_all : Environment → Meaning → Choice → Exprs → Names → Places → ℕ → List Made → EvaluatedAll
  evaluated_all env m choice NoExpr names places n made = AllAnswered [] made
  evaluated_all env m choice (AnExpr e es) names places n made = then_all (evaluated env m choice e names places n made) (λ v calls. before v (evaluated_all env m choice es names places (n + impure env e) calls))

  -- each variable has the value of its expression, used or not
  pub bound : Environment → Meaning → Choice → LetBindings → Names → Places → ℕ → List Made → Bound
  bound env m choice NoBinding names places n made = AllBound names made
  bound env m choice (ABinding x ty e more) names places n made =
      then_bind (evaluated env m choice e names places n made) (λ v calls. bound env m choice more (with names x.0 v) (with places x.0 (path env e places n)) (n + impure env e) calls)

-- the value, if there is one
abbrev pub value_of : Evaluated → Option Value
value_of (Answered v made) = Some v
value_of (Failed made) = None

-- the names after a condition that holds; a failure is no match
abbrev pub iflet_names : Environment → Meaning → Choice → IfLet → Places → Names → Option Names
iflet_names env m choice c places names = option_and_then (λ v. matches env m choice c.lhs (path env c.rhs places 0) v names) (value_of (evaluated env m choice c.rhs names places 0 []))

-- the names after conditions that hold, in order
abbrev pub iflets_names : Environment → Meaning → Choice → List IfLet → Places → Names → Option Names
iflets_names env m choice [] places names = Some names
iflets_names env m choice (c ∷ cs) places names = option_and_then (iflets_names env m choice cs (after env c.lhs (path env c.rhs places 0) places)) (iflet_names env m choice c places names)
