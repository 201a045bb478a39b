-- The calls that the evaluation of an expression makes, each with what it gives. Made terms call nothing.
use Rattle.std.specs.Prelude.{ℕ, ◌+◌, List, [], ◌∷◌, ◌++◌}
use Rattle.isle_base.specs.declared.ids.TermId.{TermId}
use Rattle.isle_core.specs.Calling.{impure, impure_bindings}
use Rattle.isle_core.specs.Choice.{Choice}
use Rattle.isle_core.specs.Eval.{Evaluated, Answered, Failed, EvaluatedAll, AllAnswered, OneFailed, Bound, AllBound, NotBound, evaluated, evaluated_all, bound}
use Rattle.isle_core.specs.Expr.{Expr, Exprs, NoExpr, AnExpr, LetBindings, NoBinding, ABinding, Term, Var, ConstBool, ConstInt, ConstPrim, Let}
use Rattle.isle_core.specs.Making.{Making, MakesVariant, MakesStruct, MakesNothing, making}
use Rattle.isle_core.specs.Match.{Names, with}
use Rattle.isle_core.specs.Meaning.{Meaning}
use Rattle.isle_core.specs.RightSide.{Places, path, let_places}
use Rattle.isle_core.specs.Rule.{Environment}
use Rattle.isle_core.specs.Value.{Value, Made}

-- a call of a term on arguments, and what it gave
pub record GivenCall : Type 0 where
  pub term : TermId
  pub args : List Value
  pub gave : Value

-- a call with what its evaluation is
abbrev pub call_with : TermId → List Value → Evaluated → List GivenCall
call_with term vs (Answered v made) = record { term = term; args = vs; gave = v } ∷ []
call_with term vs (Failed made) = []

-- so if its arguments have values
abbrev pub call_on : TermId → EvaluatedAll → Evaluated → List GivenCall
call_on term (AllAnswered vs made) result = call_with term vs result
call_on term (OneFailed made) result = []

-- so if the term is called
abbrev pub own_call : Making → TermId → EvaluatedAll → Evaluated → List GivenCall
own_call (MakesVariant ty variant) term args result = []
own_call (MakesStruct ty) term args result = []
own_call MakesNothing term args result = call_on term args result

-- what is called after a value; after a failure nothing is
abbrev pub after_value : Evaluated → (Value → List Made → List GivenCall) → List GivenCall
after_value (Answered v made) go = go v made
after_value (Failed made) go = []

-- what is called within a `let`; after a failure nothing is
abbrev pub after_names : Bound → (Names → List Made → List GivenCall) → List GivenCall
after_names (AllBound names made) go = go names made
after_names (NotBound made) go = []

-- the calls of an expression, those of arguments first
abbrev mutual
  pub given_calls : Environment → Meaning → Choice → Expr → Names → Places → ℕ → List Made → List GivenCall
  given_calls env m choice (ConstBool b) names places n made = []
  given_calls env m choice (ConstInt ty k) names places n made = []
  given_calls env m choice (Var ty x) names places n made = []
  given_calls env m choice (ConstPrim ty name) names places n made = []
  given_calls env m choice (Term ty term es) names places n made =
      all_given env m choice es names places n made
      ++ own_call (making env term) term (evaluated_all env m choice es names places n made) (evaluated env m choice (Term ty term es) names places n made)
  given_calls env m choice (Let ty bindings inner) names places n made =
      bindings_given env m choice bindings names places n made
      ++ after_names (bound env m choice bindings names places n made)
      (λ all calls. given_calls env m choice inner all (let_places env bindings places n) (n + impure_bindings env bindings) calls)

  -- from left to right
  pub all_given : Environment → Meaning → Choice → Exprs → Names → Places → ℕ → List Made → List GivenCall
  all_given env m choice NoExpr names places n made = []
  all_given env m choice (AnExpr e es) names places n made =
      given_calls env m choice e names places n made
      ++ after_value (evaluated env m choice e names places n made) (λ v calls. all_given env m choice es names places (n + impure env e) calls)

  -- those of the values of a `let`
  pub bindings_given : Environment → Meaning → Choice → LetBindings → Names → Places → ℕ → List Made → List GivenCall
  bindings_given env m choice NoBinding names places n made = []
  bindings_given env m choice (ABinding x ty e more) names places n made =
      given_calls env m choice e names places n made
      ++ after_value (evaluated env m choice e names places n made)
      (λ v calls. bindings_given env m choice more (with names x.0 v) (with places x.0 (path env e places n)) (n + impure env e) calls)
