-- What the statements of a function are to its block: each step of the block, what is bound for it, and what stands around.
use Rattle.std.specs.Prelude.{◌≡◌, ℕ, List, [], ◌∷◌, ◌++◌, Bool, true, false, Option, Some, None, slice_get}
use Rattle.isle_core.specs.declared.BindingId.{BindingId}
use Rattle.isle_core.specs.declared.files.Files.{Files}
use Rattle.isle_core.specs.declared.options.CodegenOptions.{CodegenOptions}
use Rattle.isle_core.specs.declared.position.Pos.{Pos}
use Rattle.isle_core.specs.declared.rule_sets.Binding.{Binding}
use Rattle.isle_core.specs.declared.rule_sets.Constraint.{Constraint}
use Rattle.isle_core.specs.declared.types.ReturnKind.TheVariants as return_kind
use Rattle.isle_core.specs.ArmPlaces.{bound_within}
use Rattle.isle_core.specs.Bindable.{bound_by}
use Rattle.isle_core.specs.Block as block
use Rattle.isle_core.specs.Block.{Block, Control, Arms}
use Rattle.isle_core.specs.Calling.{kind_of}
use Rattle.isle_core.specs.Setting.{Setting, gives_several}
use Rattle.isle_tree.specs.declared.tree.Operand.{Operand}
use Rattle.isle_tree.specs.declared.tree.Read.{Read}
use Rattle.isle_tree.specs.declared.tree.TExpr.{TExpr}
use Rattle.isle_tree.specs.declared.tree.TExpr.TheVariants as expr
use Rattle.isle_tree.specs.declared.tree.TPat.{TPat}
use Rattle.isle_tree.specs.Program as tree
use Rattle.isle_tree.specs.Program.{Stmt, IfEq, IfLet, Match, Loop, Return, Extend, Overflow, Split, Body, Done, Then, Function}
use Rattle.isle_simulation.specs.ComputedBy.{IsComputed}
use Rattle.isle_simulation.specs.LocalsOf.{AreBoundIn}
use Rattle.isle_simulation.specs.LogLines.{LogLine}
use Rattle.isle_simulation.specs.Manner.{Manner, manner_of, has_closure, arm_manner}
use Rattle.isle_simulation.specs.OperandOf.{IsOperandOf}
use Rattle.isle_simulation.specs.Operands.{tested}
use Rattle.isle_simulation.specs.Patterns.{pattern_of, arm_pattern}
use Rattle.isle_simulation.specs.ReadOf.{IsReadOf, IsReadBy}
use Rattle.isle_simulation.specs.Statements.{binds_list, local_stmt, looped_local}
use Rattle.isle_simulation.specs.Telling.{Telling, line_before}
use Rattle.isle_simulation.specs.TermFunction.{is_return, tail_in, function_with}

-- the statement binds the local of a binding to what computes it
pub record IsLetOf (s : Setting) (bound : List ℕ) (b : BindingId) (st : Stmt) : Type 0 where
  pub form : Binding
  pub there : slice_get s.bindings b.0 ≡ Some form
  pub expr : TExpr
  pub computes : IsComputed s bound b form expr
  pub is : st ≡ local_stmt (binds_list s b) b.0 expr

-- the statements bind these in order, and then the others follow
pub data HasLets (s : Setting) : (bound : List ℕ) → List BindingId → (others all : Body) → Type 0 where
  no_let : (bound : List ℕ) (others : Body) → HasLets s bound [] others others
  one_let : (bound : List ℕ) (b : BindingId) (bs : List BindingId) (st : Stmt) (others all : Body)
      → IsLetOf s bound b st → HasLets s (bound ++ b.0 ∷ []) bs others all → HasLets s bound (b ∷ bs) others (Then st all)

-- after a Return of a term that answers several times the function, or the closure around, stops where its list is full; after no other step
pub data HasStop (manner : Manner) : (several : Bool) → Control → (others all : Body) → Type 0 where
  stops : (pos : Pos) (result : BindingId) (others : Body) → HasStop manner true (block.Return pos result) others (Then (Overflow manner.inside manner.limit) others)
  goes_on : (several : Bool) (c : Control) (others : Body) → is_return c ≡ false → HasStop manner several c others others
  answers_once : (c : Control) (others : Body) → HasStop manner false c others others

-- if results are told, a log line stands before a Return, and before no other step
pub data HasLine : Telling → Control → (others all : Body) → Type 0 where
  silent : (c : Control) (others : Body) → HasLine None c others others
  told : (line : Pos → LogLine) (pos : Pos) (result : BindingId) (others : Body) → HasLine (Some line) (block.Return pos result) others (line_before (line pos) others)
  no_result : (line : Pos → LogLine) (c : Control) (others : Body) → is_return c ≡ false → HasLine (Some line) c others others

-- the statements stand in an arm of this body: as they are, or in a closure of their own exactly if the body is heavy enough
pub data StandsInArm (manner : Manner) (b : Block) : (made inside : Body) → Type 0 where
  as_they_are : (made : Body) → has_closure manner b ≡ false → StandsInArm manner b made made
  in_a_closure : (made : Body) → has_closure manner b ≡ true → StandsInArm manner b made (Then (Split made manner.inside) Done)

mutual
  -- the statements are the steps of the block in order, and then those at the end: for each step what it binds, the line of its result,
  -- what it does, and its stop
  pub data AreStatements (s : Setting) : (manner : Manner) (bound : List ℕ) → Block → (end all : Body) → Type 0 where
    ended : (manner : Manner) (bound : List ℕ) (end : Body) → AreStatements s manner bound block.Stop end end
    step : (manner : Manner) (bound : List ℕ) (binds : List BindingId) (c : Control) (more : Block) (bs : List BindingId) (st : Stmt) (end rest stopped lined all : Body)
        → AreBoundIn s bound binds c bs → IsStatement s manner (bound_by bound bs) c st → AreStatements s manner (bound_by bound bs) more end rest
        → HasStop manner (gives_several s) c rest stopped → HasLine manner.telling c (Then st stopped) lined → HasLets s bound bs lined all
        → AreStatements s manner bound (block.Step binds c more) end all

  -- the statement does what the step does
  pub data IsStatement (s : Setting) : (manner : Manner) (bound : List ℕ) → Control → Stmt → Type 0 where
    -- one arm for a constant: a test of two operands
    test : (manner : Manner) (bound : List ℕ) (source : BindingId) (c : Constraint) (places : List (Option BindingId)) (body : Block) (a b : Operand) (inside : Body)
        → IsOperandOf s bound source a → tested s.env c ≡ Some b → IsArm s manner (bound_within bound places) body inside
        → IsStatement s manner bound (block.Match source (block.Arm c places body block.NoArm)) (IfEq a b inside)
    -- one arm for a variant, a struct or Some: a test by a pattern
    taken : (manner : Manner) (bound : List ℕ) (source : BindingId) (c : Constraint) (places : List (Option BindingId)) (body : Block) (pat : TPat) (r : Read) (inside : Body)
        → pattern_of s.env c places ≡ Some pat → IsReadBy s bound source c r → IsArm s manner (bound_within bound places) body inside
        → IsStatement s manner bound (block.Match source (block.Arm c places body block.NoArm)) (IfLet pat r inside)
    -- several arms: a match, which reads what a test of its first constraint reads
    matched : (manner : Manner) (bound : List ℕ) (source : BindingId) (c d : Constraint) (places others : List (Option BindingId)) (body inside : Block) (more : Arms) (r : Read) (arms : tree.Arms)
        → IsReadBy s bound source c r → AreArms s manner bound (block.Arm c places body (block.Arm d others inside more)) arms
        → IsStatement s manner bound (block.Match source (block.Arm c places body (block.Arm d others inside more))) (Match r arms)
    equal : (manner : Manner) (bound : List ℕ) (a b : BindingId) (body : Block) (o q : Operand) (inside : Body)
        → IsOperandOf s bound a o → IsOperandOf s bound b q → AreStatements s manner bound body Done inside → IsStatement s manner bound (block.Equal a b body) (IfEq o q inside)
    loop : (manner : Manner) (bound : List ℕ) (result : BindingId) (body : Block) (list : ℕ) (inside : Body)
        → looped_local s result ≡ Some list → AreStatements s manner (bound ++ result.0 ∷ []) body Done inside → IsStatement s manner bound (block.Loop result body) (Loop list result.0 inside)
    -- a result: of a term that answers once, that may answer nothing, or that answers several times
    returned : (manner : Manner) (bound : List ℕ) (pos : Pos) (result : BindingId) (r : Read)
        → kind_of s.term.kind ≡ return_kind.Plain → IsReadOf s bound false result r → IsStatement s manner bound (block.Return pos result) (Return (expr.Read r))
    returned_some : (manner : Manner) (bound : List ℕ) (pos : Pos) (result : BindingId) (r : Read)
        → kind_of s.term.kind ≡ return_kind.Option → IsReadOf s bound false result r → IsStatement s manner bound (block.Return pos result) (Return (expr.Some r))
    extended : (manner : Manner) (bound : List ℕ) (pos : Pos) (result : BindingId) (r : Read)
        → kind_of s.term.kind ≡ return_kind.Iterator → IsReadOf s bound false result r → IsStatement s manner bound (block.Return pos result) (Extend r)

  -- the statements in an arm of this body
  pub data IsArm (s : Setting) : (manner : Manner) (bound : List ℕ) → Block → (inside : Body) → Type 0 where
    arm : (manner : Manner) (bound : List ℕ) (body : Block) (made inside : Body)
        → AreStatements s (arm_manner manner body) bound body Done made → StandsInArm manner body made inside → IsArm s manner bound body inside

  -- the arms of a match, in order
  pub data AreArms (s : Setting) : (manner : Manner) (bound : List ℕ) → Arms → tree.Arms → Type 0 where
    no_arm : (manner : Manner) (bound : List ℕ) → AreArms s manner bound block.NoArm tree.NoArm
    one_arm : (manner : Manner) (bound : List ℕ) (c : Constraint) (places : List (Option BindingId)) (body : Block) (more : Arms) (pat : TPat) (inside : Body) (arms : tree.Arms)
        → arm_pattern s.env c places ≡ Some pat → IsArm s manner (bound_within bound places) body inside → AreArms s manner bound more arms
        → AreArms s manner bound (block.Arm c places body more) (tree.Arm pat inside arms)

-- the function is that of a term with this block: its head is the term's, and its statements are the block's, with its tail after them
pub record IsFunctionOf (options : CodegenOptions) (files : Files) (s : Setting) (b : Block) (f : Function) : Type 0 where
  pub body : Body
  pub statements : AreStatements s (manner_of options files s) [] b (tail_in files s.env s.term b) body
  pub is : f ≡ function_with s.env s.term body
