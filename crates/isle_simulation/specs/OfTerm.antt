-- What an emitted function has of its term's declaration.
use Rattle.std.specs.Prelude.{◌≡◌, ℕ, List, [], ◌∷◌, Option, Some, map, slice_get}
use Rattle.std.specs.List.{AllByRecursion}
use Rattle.isle_core.specs.declared.TermId.{TermId}
use Rattle.isle_core.specs.declared.files.Files.{Files}
use Rattle.isle_core.specs.declared.types.Term.{Term}
use Rattle.isle_core.specs.Calling.{kind_of}
use Rattle.isle_core.specs.Terms.{sym_text}
use Rattle.isle_core.specs.Rule.{Environment}
use Rattle.isle_tree.specs.Program.{Stmt, Let, LetList, IfEq, IfLet, Match, Loop, Return, Extend, Overflow, Log, Split, Tail, Body, Function}
use Rattle.isle_tree.specs.Walk.{of_body}
use Rattle.isle_simulation.specs.TermFunction.{mark_in}
use Rattle.isle_simulation.specs.TypeTexts.{type_text, parameter}

-- the mark of a tail
abbrev pub own_marks : Stmt → List (Option (List ℕ × List ℕ))
own_marks (Let local e) = []
own_marks (LetList local call) = []
own_marks (IfEq a b inside) = []
own_marks (IfLet pat read inside) = []
own_marks (Match read arms) = []
own_marks (Loop list item inside) = []
own_marks (Return e) = []
own_marks (Extend read) = []
own_marks (Overflow within limit) = []
own_marks (Log term place) = []
own_marks (Split inside within) = []
own_marks (Tail mark) = mark ∷ []

-- the marks of the tails of a body, those inside its statements too
abbrev pub marks : Body → List (Option (List ℕ × List ℕ))
marks b = of_body own_marks b

-- the function has the name, the types and the kind of the term, and its tails the place of the declaration
pub record IsOfTerm (files : Files) (env : Environment) (t : Term) (f : Function) : Type 0 where
  pub name : f.term ≡ sym_text env t.name
  pub params : f.params ≡ map (parameter env) t.arg_tys
  pub result : f.result ≡ type_text env t.ret_ty
  pub kind : f.kind ≡ kind_of t.kind
  pub tails : AllByRecursion (λ (mark : Option (List ℕ × List ℕ)). Some mark ≡ mark_in files env t) (marks f.body)

-- the function is of the term of this number
pub record IsDeclared (files : Files) (env : Environment) (id : TermId) (f : Function) : Type 0 where
  pub term : Term
  pub found : slice_get env.terms id.0 ≡ Some term
  pub of_term : IsOfTerm files env term f

-- each function is of its term, in order
abbrev pub AreDeclared : Files → Environment → List TermId → List Function → Type 0
AreDeclared files env [] [] = Unit {0}
AreDeclared files env (id ∷ ids) (f ∷ fs) = IsDeclared files env id f × AreDeclared files env ids fs
AreDeclared files env [] (f ∷ fs) = ⊥
AreDeclared files env (id ∷ ids) [] = ⊥
