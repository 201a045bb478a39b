-- What a rule of a `multi` term adds with its items chosen: what follows a list is run once for each of its items.
use Rattle.std.specs.Prelude.{ℕ, ◌+◌, List, [], ◌∷◌, ◌++◌, Bool, Option, Some, None, if◌then◌else◌, slice_get}
use Rattle.isle_core.specs.Answered.{Item, AValue, ATuple, Held, Absent, One, Optional, Listed, answer_held}
use Rattle.isle_core.specs.Calling.{Calling, ByTurns, ByCases, NoCall, calling, impure, impure_all, impure_bindings}
use Rattle.isle_core.specs.Choice.{Choice}
use Rattle.isle_core.specs.Constants.{int_value}
use Rattle.isle_core.specs.Expr.{Expr, Exprs, NoExpr, AnExpr, LetBindings, NoBinding, ABinding, Term, Var, ConstBool, ConstInt, ConstPrim, Let}
use Rattle.isle_core.specs.Form.{made_value}
use Rattle.isle_core.specs.Having.{const_of}
use Rattle.isle_core.specs.HoldsImpure.{holds_impure}
use Rattle.isle_core.specs.Making.{Making, MakesVariant, MakesStruct, MakesNothing, making}
use Rattle.isle_core.specs.Match.{Names, with}
use Rattle.isle_core.specs.Meaning.{Meaning, turn, case}
use Rattle.isle_core.specs.Path.{Path}
use Rattle.isle_core.specs.RightSide.{Places, call_path, path, paths, let_places}
use Rattle.isle_core.specs.Rule.{Environment, Rule}
use Rattle.isle_core.specs.SamePath.{same_path}
use Rattle.isle_core.specs.Terms.{sym_text}
use Rattle.isle_core.specs.Tests.{rule_places}
use Rattle.isle_core.specs.Value.{Value, Truth, Made}

-- the results given so far, each with the impure calls made up to it, and all impure calls so far
pub record Given : Type 0 where
  pub results : List (Value × List Made)
  pub calls : List Made

-- before all
abbrev pub nothing_given : Given
nothing_given = record { results = []; calls = [] }

-- one result more
abbrev pub give : Value → Given → Given
give v g = record { results = g.results ++ (v, g.calls) ∷ []; calls = g.calls }

-- one call more
abbrev pub call_made : Given → Made → Given
call_made g c = record { results = g.results; calls = g.calls ++ c ∷ [] }

-- which items are taken of lists whose calls hold an impure call, and have been made
abbrev pub Taken : Type 0
Taken = Path → Option ℕ

-- none
abbrev pub none_taken : Taken
none_taken p = None

-- the item at this place of the list at a path
abbrev pub take_item : Taken → Path → ℕ → Taken
take_item taken p place q = if same_path p q then Some place else taken q

-- what is done with a value, and what it comes to
abbrev pub Next : Type 0
Next = Value → Taken → Given → Given

-- what follows an item; no constructor answers a tuple
abbrev pub on_item : Option Item → Taken → Given → Next → Given
on_item (Some (AValue v)) taken g next = next v taken g
on_item (Some (ATuple vs)) taken g next = g
on_item None taken g next = g

-- what follows each item of a list at a path from a place on, one after the other
abbrev pub on_each : Path → List Item → ℕ → Taken → Given → Next → Given
on_each p [] place taken g next = g
on_each p (i ∷ is) place taken g next = on_each p is (place + 1) taken (on_item (Some i) (take_item taken p place) g next) next

-- what follows a list at a path that holds an impure call: the item that is taken, or each of them
abbrev pub on_taken : Option ℕ → Path → List Item → Taken → Given → Next → Given
on_taken (Some place) p is taken g next = on_item (slice_get is place) taken g next
on_taken None p is taken g next = on_each p is 0 taken g next

-- what follows a list: of one that holds no impure call an item is chosen
abbrev pub on_list : (late : Bool) → Choice → Path → List Item → Taken → Given → Next → Given
on_list late choice p is taken g next = if late then on_taken (taken p) p is taken g next else on_item (slice_get is (choice p)) taken g next

-- what follows an answer; after nothing nothing does
abbrev pub on_answer : (late : Bool) → Choice → Path → Held → Taken → Given → Next → Given
on_answer late choice p (One i) taken g next = on_item (Some i) taken g next
on_answer late choice p (Optional o) taken g next = on_item o taken g next
on_answer late choice p (Listed is) taken g next = on_list late choice p is taken g next
on_answer late choice p Absent taken g next = g

-- what follows a call with these arguments: an impure one takes its turn and is made
abbrev pub on_call : Environment → Meaning → Choice → Calling → Path → List Value → Taken → Given → Next → Given
on_call env m choice (ByTurns callee kind) p vs taken g next = on_answer (holds_impure env p) choice p (answer_held (turn m callee g.calls)) taken (call_made g (record { callee = callee; args = vs })) next
on_call env m choice (ByCases callee kind) p vs taken g next = on_answer (holds_impure env p) choice p (answer_held (case m callee vs)) taken g next
on_call env m choice NoCall p vs taken g next = g

-- what follows a term with these arguments: a made one makes its value, any other one is called
abbrev pub on_term : Environment → Meaning → Choice → Making → Calling → Path → List Value → Taken → Given → Next → Given
on_term env m choice (MakesVariant ty variant) c p vs taken g next = next (made_value env (MakesVariant ty variant) vs) taken g
on_term env m choice (MakesStruct ty) c p vs taken g next = next (made_value env (MakesStruct ty) vs) taken g
on_term env m choice MakesNothing c p vs taken g next = on_call env m choice c p vs taken g next

-- what follows the value of a variable or of a named constant
abbrev pub on_named : Option Value → Taken → Given → Next → Given
on_named (Some v) taken g next = next v taken g
on_named None taken g next = g

-- what follows the values of an expression whose variables stand at these places, after n impure calls: arguments first, and each value of a
-- `let` in order
abbrev mutual
  pub each_value : Environment → Meaning → Choice → Expr → Names → Places → ℕ → Taken → Given → Next → Given
  each_value env m choice (ConstBool b) names places n taken g next = next (Truth b) taken g
  each_value env m choice (ConstInt ty k) names places n taken g next = next (int_value env ty k) taken g
  each_value env m choice (Var ty x) names places n taken g next = on_named (names x.0) taken g next
  each_value env m choice (ConstPrim ty name) names places n taken g next = on_named (const_of m (sym_text env name)) taken g next
  each_value env m choice (Term ty term es) names places n taken g next =
      each_values env m choice es names places n taken g (λ vs now so. on_term env m choice (making env term) (calling env term) (call_path env term (paths env es places n) (n + impure_all env es)) vs now so next)
  each_value env m choice (Let ty bindings inner) names places n taken g next =
      each_binding env m choice bindings names places n taken g (λ all now so. each_value env m choice inner all (let_places env bindings places n) (n + impure_bindings env bindings) now so next)

  -- from left to right
  pub each_values : Environment → Meaning → Choice → Exprs → Names → Places → ℕ → Taken → Given → (List Value → Taken → Given → Given) → Given
  each_values env m choice NoExpr names places n taken g next = next [] taken g
  each_values env m choice (AnExpr e es) names places n taken g next =
      each_value env m choice e names places n taken g (λ v now so. each_values env m choice es names places (n + impure env e) now so (λ vs. next (v ∷ vs)))

  -- each variable has the value of its expression, used or not
  pub each_binding : Environment → Meaning → Choice → LetBindings → Names → Places → ℕ → Taken → Given → (Names → Taken → Given → Given) → Given
  each_binding env m choice NoBinding names places n taken g next = next names taken g
  each_binding env m choice (ABinding x ty e more) names places n taken g next =
      each_value env m choice e names places n taken g (λ v now so. each_binding env m choice more (with names x.0 v) (with places x.0 (path env e places n)) (n + impure env e) now so next)

-- what a rule with these names adds, after n impure calls of the rules before
abbrev pub part : Environment → Meaning → Choice → Rule → Names → ℕ → Given → Given
part env m choice r names n g = each_value env m choice r.rhs names (rule_places env r) n none_taken g (λ v taken. give v)
