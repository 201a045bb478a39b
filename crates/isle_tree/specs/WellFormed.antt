-- What a program keeps to that has a spelling.
use Rattle.std.specs.Prelude.{◌≡◌, ℕ, ◌<◌, ◌==◌, nat_lt, List, [], ◌∷◌, ◌++◌, length, map, fold, find, Bool, true, false, if◌then◌else◌, IsTrue, IsSome, Option, Some, None}
use Rattle.std.specs.Int.{w128}
use Rattle.std.specs.Int.RustNames.{FitsSigned}
use Rattle.std.specs.List.{AllByRecursion, IsDistinct, list_all}
use Rattle.std.specs.Str.{bytes_eq}
use Rattle.isle_core.specs.HasType.{IsReduced}
use Rattle.isle_core.specs.declared.values.Callee.{Callee}
use Rattle.isle_core.specs.declared.values.Callee.TheVariants as callee
use Rattle.isle_core.specs.declared.types.ReturnKind.{ReturnKind}
use Rattle.isle_core.specs.declared.types.ReturnKind.TheVariants as kind
use Rattle.isle_printer.specs.Token.{is_word_byte}
use Rattle.isle_tree.specs.declared.holds.Holds.{Holds}
use Rattle.isle_tree.specs.declared.holds.Holds.TheVariants as holds
use Rattle.isle_tree.specs.declared.holds.Item.{Item}
use Rattle.isle_tree.specs.declared.holds.Item.TheVariants as item
use Rattle.isle_tree.specs.declared.tree.TCall.{TCall}
use Rattle.isle_tree.specs.declared.tree.TraitFn.{TraitFn}
use Rattle.isle_tree.specs.declared.tree.TypeItem.{TypeItem}
use Rattle.isle_tree.specs.declared.tree.Operand.{Operand}
use Rattle.isle_tree.specs.declared.tree.Operand.TheVariants as operand
use Rattle.isle_tree.specs.declared.tree.Read.{Read}
use Rattle.isle_tree.specs.declared.tree.Read.TheVariants as read
use Rattle.isle_tree.specs.declared.tree.TExpr.{TExpr}
use Rattle.isle_tree.specs.declared.tree.TExpr.TheVariants as expr
use Rattle.isle_tree.specs.declared.tree.TBind.{TBind}
use Rattle.isle_tree.specs.declared.tree.TPat.{TPat}
use Rattle.isle_tree.specs.declared.tree.TPat.TheVariants as pattern
use Rattle.isle_spelling.specs.Identifier.{IsIdentifier}
use Rattle.isle_spelling.specs.Names.{IsName, IsFieldName}
pub use Rattle.isle_tree.specs.Items.{IsTy, AreResults, IsTraitFn, IsField, AreFields, IsVariant, IsTypeBody, IsTypeItem}
use Rattle.isle_tree.specs.Program.{Stmt, Let, LetList, IfEq, IfLet, Match, Loop, Return, Extend, Overflow, Log, Split, Tail, Body, Done, Then, Arms, NoArm, Arm, Function, Program}

-- ---- the forms that are built, and that integers lie in their type

-- an operand: its integer lies in its type, or its name is one of a constant or a unit struct
abbrev pub IsOperand : Operand → Type 0
IsOperand (operand.Local n) = Unit {0}
IsOperand (operand.Arg n) = Unit {0}
IsOperand (operand.Bool b) = Unit {0}
IsOperand (operand.Int ty z) = IsReduced ty z
IsOperand (operand.Raw z) = FitsSigned w128 z
IsOperand (operand.Name name) = IsName name

-- a read: of an operand
abbrev pub IsRead : Read → Type 0
IsRead (read.Plain o) = IsOperand o
IsRead (read.Borrow o) = IsOperand o
IsRead (read.Clone o) = IsOperand o

-- the name of a term: after constructor_ it is a name of Rust
abbrev pub IsTermName : List ℕ → Type 0
IsTermName term = IsTrue (list_all is_word_byte term)

-- a function of the trait, whose name is a name, or the function of a term
abbrev pub IsCallee : Callee → Type 0
IsCallee (callee.External name) = IsIdentifier name
IsCallee (callee.Internal term) = IsTermName term

-- a call: what is called, and what is read
pub record IsCall (call : TCall) : Type 0 where
  pub callee : IsCallee call.callee
  pub args : AllByRecursion IsRead call.args

-- a field of a made value: its name, and what is read
abbrev pub IsFieldRead : List ℕ × Read → Type 0
IsFieldRead f = IsFieldName f.0 × IsRead f.1

-- what is computed: a read, a call, a made value, an option, the inner value of one, or a part of a tuple; a struct without fields is a name
abbrev pub IsExpr : TExpr → Type 0
IsExpr (expr.Read r) = IsRead r
IsExpr (expr.Call borrow call) = IsCall call
IsExpr (expr.Some r) = IsRead r
IsExpr (expr.Try source as_ref) = IsOperand source
IsExpr (expr.Variant ty variant fields) = IsIdentifier ty × IsIdentifier variant × AllByRecursion IsFieldRead fields
IsExpr (expr.Struct ty fields) = IsIdentifier ty × (0 < length fields) × AllByRecursion IsFieldRead fields
IsExpr (expr.Tuple source part) = IsOperand source

-- a constant of a pattern: an operand that is no local and no argument
abbrev pub IsConstant : Operand → Type 0
IsConstant (operand.Local n) = ⊥
IsConstant (operand.Arg n) = ⊥
IsConstant (operand.Bool b) = Unit {0}
IsConstant (operand.Int ty z) = IsReduced ty z
IsConstant (operand.Raw z) = FitsSigned w128 z
IsConstant (operand.Name name) = IsName name

-- a field that a pattern binds
abbrev pub IsBind : TBind → Type 0
IsBind b = IsFieldName b.field

-- a pattern: its constant, or the names in it
abbrev pub IsPattern : TPat → Type 0
IsPattern (pattern.Const o) = IsConstant o
IsPattern (pattern.Variant ty variant binds more) = IsIdentifier ty × IsIdentifier variant × AllByRecursion IsBind binds
IsPattern (pattern.Struct ty binds more) = IsIdentifier ty × AllByRecursion IsBind binds
IsPattern (pattern.Some local) = Unit {0}

-- two arms or more
abbrev pub HasSeveral : Arms → Type 0
HasSeveral NoArm = ⊥
HasSeveral (Arm pat body NoArm) = ⊥
HasSeveral (Arm pat body (Arm other inside arms)) = Unit {0}

-- a statement, and statements in order; a match has two arms or more
abbrev mutual
  pub IsStmt : Stmt → Type 0
  IsStmt (Let n e) = IsExpr e
  IsStmt (IfEq a b inside) = IsOperand a × IsOperand b × IsBody inside
  IsStmt (IfLet pat read inside) = IsPattern pat × IsRead read × IsBody inside
  IsStmt (Return e) = IsExpr e
  IsStmt (Tail texts) = Unit {0}
  IsStmt (LetList n call) = IsCall call
  IsStmt (Match read arms) = IsRead read × HasSeveral arms × AreArms arms
  IsStmt (Loop list each inside) = IsBody inside
  IsStmt (Extend read) = IsRead read
  IsStmt (Overflow within limit) = Unit {0}
  IsStmt (Log term place) = Unit {0}
  IsStmt (Split inside within) = IsBody inside

  pub IsBody : Body → Type 0
  IsBody Done = Unit {0}
  IsBody (Then s ss) = IsStmt s × IsBody ss

  pub AreArms : Arms → Type 0
  AreArms NoArm = Unit {0}
  AreArms (Arm pat inside arms) = IsPattern pat × IsBody inside × AreArms arms

-- ---- what operands hold

-- the locals that are bound and what each holds, the newest last
abbrev pub Locals : Type 0
Locals = List (ℕ × Holds)

-- what is bound last counts
abbrev pub newer : ℕ → Option Holds → ℕ × Holds → Option Holds
newer n h bound = if bound.0 == n then Some bound.1 else h

-- what a local holds, if it is bound
abbrev pub local_holds : Locals → ℕ → Option Holds
local_holds bound n = fold (newer n) None bound

-- what an operand holds, if it is there: an argument lies below the number of parameters
abbrev pub operand_holds : ℕ → Locals → Operand → Option Holds
operand_holds params bound (operand.Local n) = local_holds bound n
operand_holds params bound (operand.Arg n) = if nat_lt n params then Some (holds.One item.Value) else None
operand_holds params bound (operand.Bool b) = Some (holds.One item.Value)
operand_holds params bound (operand.Int ty z) = Some (holds.One item.Value)
operand_holds params bound (operand.Raw z) = Some (holds.One item.Value)
operand_holds params bound (operand.Name name) = Some (holds.One item.Value)

-- what is read holds
abbrev pub read_holds : ℕ → Locals → Read → Option Holds
read_holds params bound (read.Plain o) = operand_holds params bound o
read_holds params bound (read.Borrow o) = operand_holds params bound o
read_holds params bound (read.Clone o) = operand_holds params bound o

-- a value, and no tuple, option or list
abbrev pub is_value : Option Holds → Bool
is_value None = false
is_value (Some (holds.One item.Value)) = true
is_value (Some (holds.One (item.Tuple count))) = false
is_value (Some (holds.Optional x)) = false
is_value (Some (holds.Several x)) = false

-- each read is of a value
abbrev pub are_values : ℕ → Locals → List Read → Bool
are_values params bound rs = list_all (λ r. is_value (read_holds params bound r)) rs

-- what an answer has: a value if there is one result, else a tuple
abbrev pub results_item : List (List ℕ) → Item
results_item [] = item.Tuple 0
results_item (ty ∷ []) = item.Value
results_item (ty ∷ more ∷ tys) = item.Tuple (length (ty ∷ more ∷ tys))

-- what the answer of a function of the kind holds
abbrev pub kind_holds : ReturnKind → Item → Holds
kind_holds kind.Plain x = holds.One x
kind_holds kind.Option x = holds.Optional x
kind_holds kind.Iterator x = holds.Several x

-- the function of the trait of this name
abbrev pub trait_fn : List TraitFn → List ℕ → Option TraitFn
trait_fn fns name = find (λ (f : TraitFn). bytes_eq name f.name) fns

-- the head of a term's function, by its term: how many parameters it has, and how often it answers
pub record Head : Type 0 where
  pub term : List ℕ
  pub params : ℕ
  pub kind : ReturnKind

-- the head of the function of this term
abbrev pub head_of : List Head → List ℕ → Option Head
head_of heads term = find (λ (h : Head). bytes_eq term h.term) heads

-- what may be called: the functions of the trait, and those of terms
pub record Callables : Type 0 where
  pub trait_fns : List TraitFn
  pub heads : List Head

-- the answer of a function of the trait, called with as many arguments as it has parameters
abbrev pub call_holds : Option TraitFn → ℕ → Option Holds
call_holds None count = None
call_holds (Some f) count = if length f.params == count then Some (kind_holds f.kind (results_item f.results)) else None

-- the answer of a term's function, called with as many arguments as it has parameters
abbrev pub head_holds : Option Head → ℕ → Option Holds
head_holds None count = None
head_holds (Some h) count = if h.params == count then Some (kind_holds h.kind item.Value) else None

-- the answer of what is called
abbrev pub callee_holds : Callables → Callee → ℕ → Option Holds
callee_holds fns (callee.External name) count = call_holds (trait_fn fns.trait_fns name) count
callee_holds fns (callee.Internal term) count = head_holds (head_of fns.heads term) count

-- what an option is of
abbrev pub inner_holds : Option Holds → Option Holds
inner_holds None = None
inner_holds (Some (holds.One x)) = None
inner_holds (Some (holds.Optional x)) = Some (holds.One x)
inner_holds (Some (holds.Several x)) = None

-- what is answered once: no list
abbrev pub once_holds : Option Holds → Option Holds
once_holds None = None
once_holds (Some (holds.One x)) = Some (holds.One x)
once_holds (Some (holds.Optional x)) = Some (holds.Optional x)
once_holds (Some (holds.Several x)) = None

-- what is answered several times: a list
abbrev pub list_holds : Option Holds → Option Holds
list_holds None = None
list_holds (Some (holds.One x)) = None
list_holds (Some (holds.Optional x)) = None
list_holds (Some (holds.Several x)) = Some (holds.Several x)

-- what a list is of
abbrev pub each_holds : Option Holds → Option Holds
each_holds None = None
each_holds (Some (holds.One x)) = None
each_holds (Some (holds.Optional x)) = None
each_holds (Some (holds.Several x)) = Some (holds.One x)

-- the answer of a call whose arguments are values
abbrev pub called_holds : Callables → ℕ → Locals → TCall → Option Holds
called_holds fns params bound call = if are_values params bound call.args then callee_holds fns call.callee (length call.args) else None

-- each field is of a value
abbrev pub are_field_values : ℕ → Locals → List (List ℕ × Read) → Bool
are_field_values params bound fs = list_all (λ (f : List ℕ × Read). is_value (read_holds params bound f.1)) fs

-- a made value, if its fields are of values
abbrev pub made_holds : Bool → Option Holds
made_holds good = if good then Some (holds.One item.Value) else None

-- a part of a tuple with that part
abbrev pub part_holds : ℕ → Option Holds → Option Holds
part_holds part None = None
part_holds part (Some (holds.One item.Value)) = None
part_holds part (Some (holds.One (item.Tuple count))) = if nat_lt part count then Some (holds.One item.Value) else None
part_holds part (Some (holds.Optional x)) = None
part_holds part (Some (holds.Several x)) = None

-- what is computed holds, if each operand holds what is asked of it
abbrev pub expr_holds : Callables → ℕ → Locals → TExpr → Option Holds
expr_holds fns params bound (expr.Read r) = read_holds params bound r
expr_holds fns params bound (expr.Call borrow call) = once_holds (called_holds fns params bound call)
expr_holds fns params bound (expr.Some r) = if is_value (read_holds params bound r) then Some (holds.Optional item.Value) else None
expr_holds fns params bound (expr.Try source as_ref) = inner_holds (operand_holds params bound source)
expr_holds fns params bound (expr.Variant ty variant fields) = made_holds (are_field_values params bound fields)
expr_holds fns params bound (expr.Struct ty fields) = made_holds (are_field_values params bound fields)
expr_holds fns params bound (expr.Tuple source part) = part_holds part (operand_holds params bound source)

-- ---- each operand of a statement is in scope

-- a return gives a value in kind Plain, and an option of one in kind Option; one of several answers stands in no return
abbrev pub GivesKind : ReturnKind → Option Holds → Type 0
GivesKind kind.Plain None = ⊥
GivesKind kind.Plain (Some (holds.One item.Value)) = Unit {0}
GivesKind kind.Plain (Some (holds.One (item.Tuple count))) = ⊥
GivesKind kind.Plain (Some (holds.Optional x)) = ⊥
GivesKind kind.Plain (Some (holds.Several x)) = ⊥
GivesKind kind.Option None = ⊥
GivesKind kind.Option (Some (holds.One x)) = ⊥
GivesKind kind.Option (Some (holds.Optional item.Value)) = Unit {0}
GivesKind kind.Option (Some (holds.Optional (item.Tuple count))) = ⊥
GivesKind kind.Option (Some (holds.Several x)) = ⊥
GivesKind kind.Iterator None = ⊥
GivesKind kind.Iterator (Some (holds.One x)) = ⊥
GivesKind kind.Iterator (Some (holds.Optional x)) = ⊥
GivesKind kind.Iterator (Some (holds.Several x)) = ⊥

-- the locals after one that is bound
abbrev pub after_let : Option Holds → ℕ → Locals → Locals
after_let None n bound = bound
after_let (Some h) n bound = bound ++ (n, h) ∷ []

-- what a pattern may be read over: a constant, a variant or a struct over a value, and Some(..) over an option
abbrev pub ReadsPattern : TPat → Option Holds → Type 0
ReadsPattern (pattern.Const o) h = IsTrue (is_value h)
ReadsPattern (pattern.Variant ty variant binds more) h = IsTrue (is_value h)
ReadsPattern (pattern.Struct ty binds more) h = IsTrue (is_value h)
ReadsPattern (pattern.Some local) h = IsSome (inner_holds h)

-- the locals that fields are bound to: each holds a value
abbrev pub field_locals : List TBind → Locals
field_locals bs = map (λ (b : TBind). (b.local, holds.One item.Value)) bs

-- the local that what is within an option is bound to
abbrev pub inner_locals : Option ℕ → Option Holds → Locals
inner_locals None h = []
inner_locals (Some n) None = []
inner_locals (Some n) (Some h) = (n, h) ∷ []

-- the locals that a pattern binds
abbrev pub pattern_locals : TPat → Option Holds → Locals
pattern_locals (pattern.Const o) h = []
pattern_locals (pattern.Variant ty variant binds more) h = field_locals binds
pattern_locals (pattern.Struct ty binds more) h = field_locals binds
pattern_locals (pattern.Some local) h = inner_locals local (inner_holds h)

-- the locals that are bound after a statement: none of those inside it
abbrev pub bound_after : Callables → ℕ → Stmt → Locals → Locals
bound_after fns params (Let n e) bound = after_let (expr_holds fns params bound e) n bound
bound_after fns params (LetList n call) bound = after_let (list_holds (called_holds fns params bound call)) n bound
bound_after fns params (IfEq a b inside) bound = bound
bound_after fns params (IfLet pat read inside) bound = bound
bound_after fns params (Match read arms) bound = bound
bound_after fns params (Loop list each inside) bound = bound
bound_after fns params (Return e) bound = bound
bound_after fns params (Extend read) bound = bound
bound_after fns params (Overflow within limit) bound = bound
bound_after fns params (Log term place) bound = bound
bound_after fns params (Split inside within) bound = bound
bound_after fns params (Tail texts) bound = bound

-- each operand of a statement, and of statements in order, is in scope and holds what is asked of it, in a function of the kind with this
-- number of parameters: a call of one with several answers stands in a list alone, a loop goes over a list, and each arm's pattern may be read
-- over what its match reads
abbrev mutual
  pub IsStmtScoped : Callables → ReturnKind → ℕ → Locals → Stmt → Type 0
  IsStmtScoped fns kind params bound (Let n e) = IsSome (expr_holds fns params bound e)
  IsStmtScoped fns kind params bound (IfEq a b inside) =
      IsTrue (is_value (operand_holds params bound a)) × IsTrue (is_value (operand_holds params bound b)) × IsBodyScoped fns kind params bound inside
  IsStmtScoped fns kind params bound (IfLet pat read inside) =
      ReadsPattern pat (read_holds params bound read) × IsBodyScoped fns kind params (bound ++ pattern_locals pat (read_holds params bound read)) inside
  IsStmtScoped fns kind params bound (Return e) = GivesKind kind (expr_holds fns params bound e)
  IsStmtScoped fns kind params bound (Tail texts) = Unit {0}
  IsStmtScoped fns kind params bound (LetList n call) = IsSome (list_holds (called_holds fns params bound call))
  IsStmtScoped fns kind params bound (Match read arms) = AreArmsScoped fns kind params bound (read_holds params bound read) arms
  IsStmtScoped fns kind params bound (Loop list each inside) =
      IsSome (each_holds (local_holds bound list)) × IsBodyScoped fns kind params (after_let (each_holds (local_holds bound list)) each bound) inside
  IsStmtScoped fns kind params bound (Extend read) = IsTrue (is_value (read_holds params bound read))
  IsStmtScoped fns kind params bound (Overflow within limit) = Unit {0}
  IsStmtScoped fns kind params bound (Log term place) = Unit {0}
  IsStmtScoped fns kind params bound (Split inside within) = IsBodyScoped fns kind params bound inside

  pub IsBodyScoped : Callables → ReturnKind → ℕ → Locals → Body → Type 0
  IsBodyScoped fns kind params bound Done = Unit {0}
  IsBodyScoped fns kind params bound (Then s ss) = IsStmtScoped fns kind params bound s × IsBodyScoped fns kind params (bound_after fns params s bound) ss

  -- so of the arms over what holds this
  pub AreArmsScoped : Callables → ReturnKind → ℕ → Locals → Option Holds → Arms → Type 0
  AreArmsScoped fns kind params bound h NoArm = Unit {0}
  AreArmsScoped fns kind params bound h (Arm pat inside arms) =
      ReadsPattern pat h × IsBodyScoped fns kind params (bound ++ pattern_locals pat h) inside × AreArmsScoped fns kind params bound h arms

-- ---- statements fit the function's kind

-- ? stands only in kind Option
abbrev pub FitsLet : ReturnKind → TExpr → Type 0
FitsLet of (expr.Read r) = Unit {0}
FitsLet of (expr.Call borrow call) = Unit {0}
FitsLet of (expr.Variant ty variant fields) = Unit {0}
FitsLet of (expr.Struct ty fields) = Unit {0}
FitsLet of (expr.Some r) = Unit {0}
FitsLet of (expr.Try source as_ref) = of ≡ kind.Option
FitsLet of (expr.Tuple o n) = Unit {0}

-- a return computes a read, or an option of one
abbrev pub IsReturned : TExpr → Type 0
IsReturned (expr.Read r) = Unit {0}
IsReturned (expr.Call borrow call) = ⊥
IsReturned (expr.Variant ty variant fields) = ⊥
IsReturned (expr.Struct ty fields) = ⊥
IsReturned (expr.Some r) = Unit {0}
IsReturned (expr.Try source as_ref) = ⊥
IsReturned (expr.Tuple o n) = ⊥

-- the function gives several results
abbrev pub GivesSeveral : ReturnKind → Type 0
GivesSeveral kind.Plain = ⊥
GivesSeveral kind.Option = ⊥
GivesSeveral kind.Iterator = Unit {0}

-- a statement inside a function, or inside a closure of one, and statements in order: no tail is among them; results are appended,
-- statements stop at a full list, and closures stand only where the function gives several, and what stops says true exactly inside a closure
abbrev mutual
  pub FitsStmt : ReturnKind → (closed : Bool) → Stmt → Type 0
  FitsStmt kind closed (Let n e) = FitsLet kind e
  FitsStmt kind closed (IfEq a b inside) = FitsBody kind closed inside
  FitsStmt kind closed (IfLet pat read inside) = FitsBody kind closed inside
  FitsStmt kind closed (Return e) = IsReturned e
  FitsStmt kind closed (Tail texts) = ⊥
  FitsStmt kind closed (LetList n call) = Unit {0}
  FitsStmt kind closed (Match read arms) = FitsArms kind closed arms
  FitsStmt kind closed (Loop list each inside) = FitsBody kind closed inside
  FitsStmt kind closed (Extend read) = GivesSeveral kind
  FitsStmt kind closed (Overflow within limit) = GivesSeveral kind × (within ≡ closed)
  FitsStmt kind closed (Log term place) = Unit {0}
  FitsStmt kind closed (Split inside within) = GivesSeveral kind × (within ≡ closed) × FitsBody kind true inside

  pub FitsBody : ReturnKind → (closed : Bool) → Body → Type 0
  FitsBody kind closed Done = Unit {0}
  FitsBody kind closed (Then s ss) = FitsStmt kind closed s × FitsBody kind closed ss

  pub FitsArms : ReturnKind → (closed : Bool) → Arms → Type 0
  FitsArms kind closed NoArm = Unit {0}
  FitsArms kind closed (Arm pat inside arms) = FitsBody kind closed inside × FitsArms kind closed arms

-- the tail of a function of the kind; one with several answers has none
abbrev pub FitsTail : ReturnKind → Option (List ℕ × List ℕ) → Type 0
FitsTail kind.Plain None = ⊥
FitsTail kind.Plain (Some texts) = Unit {0}
FitsTail kind.Option None = Unit {0}
FitsTail kind.Option (Some texts) = ⊥
FitsTail kind.Iterator None = ⊥
FitsTail kind.Iterator (Some texts) = ⊥

-- the last statement of a function: a return, or the tail of its kind
abbrev pub FitsLast : ReturnKind → Stmt → Type 0
FitsLast kind (Return e) = IsReturned e
FitsLast kind (Tail texts) = FitsTail kind texts
FitsLast kind (Let n e) = ⊥
FitsLast kind (LetList n call) = ⊥
FitsLast kind (IfEq a b inside) = ⊥
FitsLast kind (IfLet pat read inside) = ⊥
FitsLast kind (Match read arms) = ⊥
FitsLast kind (Loop list each inside) = ⊥
FitsLast kind (Extend read) = ⊥
FitsLast kind (Overflow within limit) = ⊥
FitsLast kind (Log term place) = ⊥
FitsLast kind (Split inside within) = ⊥

-- the statements of a function that ends with one that is its last
abbrev pub FitsEnding : ReturnKind → Body → Type 0
FitsEnding kind Done = ⊥
FitsEnding kind (Then s Done) = FitsLast kind s
FitsEnding kind (Then s (Then t ss)) = FitsStmt kind false s × FitsEnding kind (Then t ss)

-- the statements of a function, outside all closures; one with several answers ends after them
abbrev pub FitsFunction : ReturnKind → Body → Type 0
FitsFunction kind.Plain b = FitsEnding kind.Plain b
FitsFunction kind.Option b = FitsEnding kind.Option b
FitsFunction kind.Iterator b = FitsBody kind.Iterator false b

-- ---- items

-- the names in the head of a function
pub record HasNames (f : Function) : Type 0 where
  pub term : IsTermName f.term
  pub params : AllByRecursion IsTy f.params
  pub result : IsIdentifier f.result

-- the head of a function
abbrev pub function_head : Function → Head
function_head f = record { term = f.term; params = length f.params; kind = f.kind }

-- what the functions of a program may call
abbrev pub callables : Program → Callables
callables p = record { trait_fns = p.trait_fns; heads = map function_head p.fns }

-- a function in its program
pub record IsFunction (p : Program) (f : Function) : Type 0 where
  pub names : HasNames f
  pub forms : IsBody f.body
  pub scoped : IsBodyScoped (callables p) f.kind (length f.params) [] f.body
  pub fits : FitsFunction f.kind f.body

-- the terms of the functions
abbrev pub terms : List Function → List (List ℕ)
terms fs = map (λ (f : Function). f.term) fs

-- the names of the functions of the trait
abbrev pub fn_names : List TraitFn → List (List ℕ)
fn_names fs = map (λ (f : TraitFn). f.name) fs

-- the names of the declared types
abbrev pub declared_names : List TypeItem → List (List ℕ)
declared_names ts = map (λ (t : TypeItem). t.name) ts

-- each item is of a form that is built, and no two functions, no two of the trait and no two types have one name
pub record IsWellFormed (p : Program) : Type 0 where
  pub trait_fns : AllByRecursion IsTraitFn p.trait_fns
  pub types : AllByRecursion IsTypeItem p.types
  pub fns : AllByRecursion (IsFunction p) p.fns
  pub distinct : IsDistinct bytes_eq (terms p.fns)
  pub trait_names : IsDistinct bytes_eq (fn_names p.trait_fns)
  pub type_names : IsDistinct bytes_eq (declared_names p.types)
