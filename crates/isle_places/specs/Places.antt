-- The places in a function whose types the program fixes, each with what stands there.
use Rattle.std.specs.Prelude.{ℕ, List, [], ◌∷◌, ◌++◌, Option, Some, None, Contains, codes, filter_map, flat_map}
use Rattle.isle_core.specs.declared.types.ReturnKind.{ReturnKind}
use Rattle.isle_core.specs.declared.types.ReturnKind.TheVariants as kind
use Rattle.isle_core.specs.Int.{type_name}
use Rattle.isle_tree.specs.declared.tree.Operand.{Operand}
use Rattle.isle_tree.specs.declared.tree.Operand.TheVariants as operand
use Rattle.isle_tree.specs.declared.tree.Read.{Read}
use Rattle.isle_tree.specs.declared.tree.TCall.{TCall}
use Rattle.isle_tree.specs.declared.tree.TExpr.{TExpr}
use Rattle.isle_tree.specs.declared.tree.TExpr.TheVariants as expr
use Rattle.isle_tree.specs.declared.tree.TPat.{TPat}
use Rattle.isle_tree.specs.declared.tree.TPat.TheVariants as pattern
use Rattle.isle_tree.specs.Program.{Stmt, Let, LetList, IfEq, IfLet, Match, Loop, Return, Extend, Overflow, Log, Split, Tail, Body, Done, Then, Arms, NoArm, Arm, Function, Program}
use Rattle.isle_places.specs.DeclaredTypes.{Asked, variant_asked, struct_asked}
use Rattle.isle_places.specs.Signatures.{Signature, signature_of}
use Rattle.isle_places.specs.Told.{Told, AValue, AnOption, ATuple, AnOptionalTuple, AList, AListOfTuples, Untold, Tells, item_told, list_told, look_told, operand_told, operand_of, read_told, expr_told, field_told, pattern_told}

-- what stands at a place, and the name of its type
abbrev pub Place : Type 0
Place = Operand × List ℕ

-- what is known of an operand's own type, or else of its place
abbrev pub own_or : Operand → Told → Told
own_or (operand.Bool b) t = AValue (codes "bool")
own_or (operand.Int ty z) t = AValue (type_name ty)
own_or (operand.Local n) t = t
own_or (operand.Arg n) t = t
own_or (operand.Raw z) t = t
own_or (operand.Name name) t = t

-- an operand where the type of a value is told
abbrev pub where_told : Operand → Told → List Place
where_told o (AValue ty) = (o, ty) ∷ []
where_told o (AnOption ty) = []
where_told o (ATuple tys) = []
where_told o (AnOptionalTuple tys) = []
where_told o (AList ty) = []
where_told o (AListOfTuples tys) = []
where_told o Untold = []

-- an operand at a place of which this is told
abbrev pub at : Operand → Told → List Place
at o t = where_told o (own_or o t)

-- ---- what is computed

-- arguments of these types
abbrev pub reads_places : List Read → List (List ℕ) → List Place
reads_places [] tys = []
reads_places (r ∷ rs) [] = at (operand_of r) Untold ++ reads_places rs []
reads_places (r ∷ rs) (ty ∷ tys) = at (operand_of r) (AValue ty) ++ reads_places rs tys

-- those of what a call goes to
abbrev pub params_of : Option Signature → List (List ℕ)
params_of None = []
params_of (Some s) = s.params

-- the arguments of a call
abbrev pub call_places : Program → TCall → List Place
call_places p call = reads_places call.args (params_of (signature_of p call.callee))

-- the fields of a made value, of a type that asks so
abbrev pub fields_places : Asked → List (List ℕ × Read) → List Place
fields_places asked [] = []
fields_places asked (f ∷ fs) = at (operand_of f.1) (field_told asked f.0) ++ fields_places asked fs

-- what is computed
abbrev pub expr_places : Program → TExpr → List Place
expr_places p (expr.Read r) = at (operand_of r) Untold
expr_places p (expr.Call borrow call) = call_places p call
expr_places p (expr.Variant ty variant fields) = fields_places (variant_asked p.types ty ty variant) fields
expr_places p (expr.Struct ty fields) = fields_places (struct_asked p.types ty ty) fields
expr_places p (expr.Some r) = at (operand_of r) Untold
expr_places p (expr.Try source as_ref) = at source Untold
expr_places p (expr.Tuple source part) = at source Untold

-- what is known of a value that a function of this kind and result returns
abbrev pub plain_told : ReturnKind → List ℕ → Told
plain_told kind.Plain ty = AValue ty
plain_told kind.Option ty = Untold
plain_told kind.Iterator ty = Untold

-- of what it returns an option of
abbrev pub option_told : ReturnKind → List ℕ → Told
option_told kind.Plain ty = Untold
option_told kind.Option ty = AValue ty
option_told kind.Iterator ty = Untold

-- what a function of this kind and result returns: a value, or an option of one
abbrev pub returned : Program → ReturnKind → List ℕ → TExpr → List Place
returned p k ty (expr.Read r) = at (operand_of r) (plain_told k ty)
returned p k ty (expr.Some r) = at (operand_of r) (option_told k ty)
returned p k ty (expr.Call borrow call) = expr_places p (expr.Call borrow call)
returned p k ty (expr.Variant of variant fields) = expr_places p (expr.Variant of variant fields)
returned p k ty (expr.Struct of fields) = expr_places p (expr.Struct of fields)
returned p k ty (expr.Try source as_ref) = expr_places p (expr.Try source as_ref)
returned p k ty (expr.Tuple source part) = expr_places p (expr.Tuple source part)

-- ---- what is compared

-- each side of a test has the type of the other
abbrev pub both_places : Function → Tells → Operand → Operand → List Place
both_places f tells a b = at a (operand_told f tells b) ++ at b (operand_told f tells a)

-- so of a pattern that is a constant, and of what it is held against
abbrev pub pattern_places : Function → Tells → TPat → Read → List Place
pattern_places f tells (pattern.Const o) r = both_places f tells o (operand_of r)
pattern_places f tells (pattern.Variant ty variant binds more) r = at (operand_of r) (AValue ty)
pattern_places f tells (pattern.Struct ty binds more) r = at (operand_of r) (AValue ty)
pattern_places f tells (pattern.Some local) r = at (operand_of r) Untold

-- ---- statements

-- what the locals hold after a statement
abbrev pub told_after : Program → Function → Tells → Stmt → Tells
told_after p f tells (Let n e) = tells ++ (n, expr_told p f tells e) ∷ []
told_after p f tells (LetList n call) = tells ++ (n, list_told (signature_of p call.callee)) ∷ []
told_after p f tells (IfEq a b inside) = tells
told_after p f tells (IfLet pat r inside) = tells
told_after p f tells (Match r arms) = tells
told_after p f tells (Loop list item inside) = tells
told_after p f tells (Return e) = tells
told_after p f tells (Extend r) = tells
told_after p f tells (Overflow inside limit) = tells
told_after p f tells (Log term place) = tells
told_after p f tells (Split inner inside) = tells
told_after p f tells (Tail texts) = tells

-- what the locals hold inside a loop over a list
abbrev pub told_inside : (list item : ℕ) → Tells → Tells
told_inside list item tells = tells ++ (item, item_told (look_told tells list)) ∷ []

abbrev mutual
  pub stmt_places : Program → Function → Tells → Stmt → List Place
  stmt_places p f tells (Let n e) = expr_places p e
  stmt_places p f tells (LetList n call) = call_places p call
  stmt_places p f tells (IfEq a b inside) = both_places f tells a b ++ body_places p f tells inside
  stmt_places p f tells (IfLet pat r inside) = pattern_places f tells pat r ++ body_places p f (tells ++ pattern_told p pat (read_told f tells r)) inside
  stmt_places p f tells (Match r arms) = arms_places p f tells r arms
  stmt_places p f tells (Loop list item inside) = body_places p f (told_inside list item tells) inside
  stmt_places p f tells (Return e) = returned p f.kind f.result e
  stmt_places p f tells (Extend r) = at (operand_of r) (AValue f.result)
  stmt_places p f tells (Overflow inside limit) = []
  stmt_places p f tells (Log term place) = []
  stmt_places p f tells (Split inner inside) = body_places p f tells inner
  stmt_places p f tells (Tail texts) = []

  -- statements in order
  pub body_places : Program → Function → Tells → Body → List Place
  body_places p f tells Done = []
  body_places p f tells (Then s ss) = stmt_places p f tells s ++ body_places p f (told_after p f tells s) ss

  -- the arms of a match on what is read
  pub arms_places : Program → Function → Tells → Read → Arms → List Place
  arms_places p f tells r NoArm = []
  arms_places p f tells r (Arm pat inside arms) = (pattern_places f tells pat r ++ body_places p f (tells ++ pattern_told p pat (read_told f tells r)) inside) ++ arms_places p f tells r arms

-- one arm, and the statements after a pattern
abbrev pub arm_places : Program → Function → Tells → TPat → Read → Body → List Place
arm_places p f tells pat r inside = pattern_places f tells pat r ++ body_places p f (tells ++ pattern_told p pat (read_told f tells r)) inside

-- the places of a function
abbrev pub places : Program → Function → List Place
places p f = body_places p f [] f.body

-- ---- constants

-- the name that an operand is, with the type of its place
abbrev pub named_as : Operand → List ℕ → Option (List ℕ × List ℕ)
named_as (operand.Name name) ty = Some (name, ty)
named_as (operand.Local n) ty = None
named_as (operand.Arg n) ty = None
named_as (operand.Bool b) ty = None
named_as (operand.Int of z) ty = None
named_as (operand.Raw z) ty = None

-- the names that stand at places, with the places' types
abbrev pub names_at : List Place → List (List ℕ × List ℕ)
names_at = filter_map (λ (x : Place). named_as x.0 x.1)

-- the places of all functions
abbrev pub all_places : Program → List Place
all_places p = flat_map (places p) p.fns

-- the names that stand there
abbrev pub all_named : Program → List (List ℕ × List ℕ)
all_named p = names_at (all_places p)

-- a name stands at a place of this type
abbrev pub StandsAt : Program → Function → (name ty : List ℕ) → Type 0
StandsAt p f name ty = Contains (places p f) (operand.Name name, ty)
