-- The log lines of a term's function are those of its block, in order.
use Rattle.std.proofs.Common.{append_assoc, ◌≡◌, ℕ, zero, suc, ◌+◌, List, [], ◌∷◌, ◌++◌, length, map, Bool, true, false, cond, Option, Some, None, refl, sym, ap, ◌∙◌, arith}
use Rattle.std.specs.Prelude.{take, drop, slice_get}
use Rattle.std.proofs.lemmas.List.{append-nil, length-append, length-map, map-append}
use Rattle.isle_core.specs.declared.options.CodegenOptions.{CodegenOptions}
use Rattle.isle_core.specs.declared.BindingId.{BindingId}
use Rattle.isle_core.specs.declared.files.Files.{Files}
use Rattle.isle_core.specs.declared.position.Pos.{Pos}
use Rattle.isle_core.specs.declared.rule_sets.Binding.{Binding}
use Rattle.isle_core.specs.declared.rule_sets.Constraint.{Constraint}
use Rattle.isle_core.specs.declared.rule_sets.Constraint.TheVariants as constraint
use Rattle.isle_core.specs.declared.types.ReturnKind.{ReturnKind}
use Rattle.isle_core.specs.declared.types.ReturnKind.TheVariants as return_kind
use Rattle.isle_core.specs.declared.types.Term.{Term}
use Rattle.isle_core.specs.Calling.{kind_of}
use Rattle.isle_core.specs.ArmPlaces.{bound_within}
use Rattle.isle_core.specs.Bindable.{bound_by}
use Rattle.isle_core.specs.Block as block
use Rattle.isle_core.specs.Block.{Block, Control}
use Rattle.isle_core.specs.BlockLawful.{Source, IsLawfulBlock}
use Rattle.isle_core.specs.ReturnPositions.{return_positions, control_positions, arms_positions}
use Rattle.isle_core.specs.Rule.{Environment}
use Rattle.isle_core.specs.Setting.{Setting, setting, gives_several}
use Rattle.isle_tree.specs.Program as tree
use Rattle.isle_tree.specs.Program.{Stmt, Let, LetList, IfEq, IfLet, Match, Loop, Return, Extend, Overflow, Log, Split, Tail, Body, Done, Then, Arms, NoArm, Arm}
use Rattle.isle_tree.specs.declared.tree.Read.{Read}
use Rattle.isle_tree.specs.declared.tree.TExpr.{TExpr}
use Rattle.isle_tree.specs.Walk.{of_stmt, of_body, of_arms}
use Rattle.isle_simulation.specs.Completed.{completed, completed_control, completed_arms, step_binds}
use Rattle.isle_simulation.specs.LogLines.{LogLine, own_lines, lines_of}
use Rattle.isle_simulation.proofs.Logged.{first_before, logged, logged_before, logged_arms, own_results, results_in, results_of}
use Rattle.isle_simulation.specs.TermFunction.{ends_in_return, mark_in, tail_body, tail_in, function_with, log_lines}
use Rattle.isle_simulation.proofs.CompletedReady.{completed_ready}
use Rattle.isle_simulation.proofs.Ready.{IsReadyFrom, IsReadyControl, AreReadyArms}
use Rattle.isle_simulation.specs.Statements.{binds_list, local_stmt, looped_local}
use Rattle.isle_simulation.specs.Manner.{bare_manner, lined_manner}
use Rattle.isle_simulation.specs.Telling.{line_before, log_line}
use Rattle.isle_simulation.proofs.LocalStmts.{local_by}
use Rattle.isle_simulation.proofs.LoggedLaws.{logged_none}
use Rattle.isle_simulation.proofs.Written.{written_operand, written_read, written_list, bound_expr, bound_stmt, arm_stmt, written_arm, match_read, result_stmt, stop_before, told_before, told_body, told_control, told_each, block_body, control_stmt, lets, written_body, logged_function, open_function}

-- ---- lists

take_none : {A : Type 0} (n : ℕ) → take {A = A} n [] ≡ []
take_none zero = refl
take_none (suc n) = refl

take_both : {A : Type 0} (a b : ℕ) (xs : List A) → take a xs ++ take b (drop a xs) ≡ take (a + b) xs
take_both zero b xs = let is : b ≡ 0 + b = omega arith in ap (λ n. take n xs) is
take_both (suc a) b [] = take_none b ∙ sym (take_none (suc a + b))
take_both (suc a) b (x ∷ xs) =
    let is : suc (a + b) ≡ suc a + b = omega arith in
    ap (λ ys. x ∷ ys) (take_both a b xs) ∙ ap (λ n. take n (x ∷ xs)) is

take_whole : {A : Type 0} (xs : List A) → take (length xs) xs ≡ xs
take_whole [] = refl
take_whole (x ∷ xs) = ap (λ ys. x ∷ ys) (take_whole xs)

first_none : {A : Type 0} (xs ys : List A) → xs ++ ys ≡ [] → xs ≡ []
first_none [] ys e = refl
first_none (x ∷ xs) ys e = cc

last_none : {A : Type 0} (xs ys : List A) → xs ++ ys ≡ [] → ys ≡ []
last_none [] ys e = e
last_none (x ∷ xs) ys e = cc

-- ---- lines before results

line_lines : (lines : List LogLine) (after : Body) → lines_of (first_before lines after) ≡ take 1 lines ++ lines_of after
line_lines [] after = refl
line_lines (l ∷ lines) after = refl

mutual
  logged_lines : (b : Body) (lines : List LogLine) → lines_of b ≡ [] → lines_of (logged lines b) ≡ take (results_of b) lines
  logged_lines Done lines e = refl
  logged_lines (Then s ss) lines e =
      before_lines s lines (logged (drop (results_in s) lines) ss) (first_none (of_stmt own_lines s) (lines_of ss) e)
      ∙ ap (λ ls. take (results_in s) lines ++ ls) (logged_lines ss (drop (results_in s) lines) (last_none (of_stmt own_lines s) (lines_of ss) e))
      ∙ take_both (results_in s) (results_of ss) lines ∙ ap (λ n. take n lines) (sym (length-append (of_stmt own_results s) (of_body own_results ss)))

  before_lines : (s : Stmt) (lines : List LogLine) (after : Body) → of_stmt own_lines s ≡ [] → lines_of (logged_before lines s after) ≡ take (results_in s) lines ++ lines_of after
  before_lines (Let n e) lines after h = refl
  before_lines (LetList n call) lines after h = refl
  before_lines (IfEq a b inside) lines after h = ap (λ ls. ls ++ lines_of after) (logged_lines inside lines h)
  before_lines (IfLet pat r inside) lines after h = ap (λ ls. ls ++ lines_of after) (logged_lines inside lines h)
  before_lines (Match r arms) lines after h = ap (λ ls. ls ++ lines_of after) (arms_lines arms lines h)
  before_lines (Loop list item inside) lines after h = ap (λ ls. ls ++ lines_of after) (logged_lines inside lines h)
  before_lines (Return e) lines after h = line_lines lines (Then (Return e) after)
  before_lines (Extend r) lines after h = line_lines lines (Then (Extend r) after)
  before_lines (Overflow within limit) lines after h = refl
  before_lines (Log term place) lines after h = cc
  before_lines (Split inside within) lines after h = ap (λ ls. ls ++ lines_of after) (logged_lines inside lines h)
  before_lines (Tail mark) lines after h = refl

  arms_lines : (arms : Arms) (lines : List LogLine) → of_arms own_lines arms ≡ [] → of_arms own_lines (logged_arms lines arms) ≡ take (length (of_arms own_results arms)) lines
  arms_lines NoArm lines h = refl
  arms_lines (Arm pat inside arms) lines h =
      ap (λ ls. ls ++ of_arms own_lines (logged_arms (drop (results_of inside) lines) arms)) (logged_lines inside lines (first_none (lines_of inside) (of_arms own_lines arms) h))
      ∙ ap (λ ls. take (results_of inside) lines ++ ls) (arms_lines arms (drop (results_of inside) lines) (last_none (lines_of inside) (of_arms own_lines arms) h))
      ∙ take_both (results_of inside) (length (of_arms own_results arms)) lines ∙ ap (λ n. take n lines) (sym (length-append (of_body own_results inside) (of_arms own_results arms)))

-- ---- results and lines of a block's statements

local_results : (often : Bool) (n : ℕ) (e : TExpr) → of_stmt own_results (local_stmt often n e) ≡ []
local_results often n e = local_by (λ st. of_stmt own_results st ≡ []) often n e refl (λ borrow call is. refl)

lets_results : (s : Setting) (bound : List ℕ) (binds : List BindingId) (more : Body) → of_body own_results (lets s bound binds more) ≡ of_body own_results more
lets_results s bound [] more = refl
lets_results s bound (b ∷ binds) more = ap (λ rs. rs ++ of_body own_results (lets s (bound ++ b.0 ∷ []) binds more)) (local_results (binds_list s b) b.0 (bound_expr s bound b (slice_get s.bindings b.0))) ∙ lets_results s (bound ++ b.0 ∷ []) binds more

result_results : (kind : ReturnKind) (r : Read) → length (of_stmt own_results (result_stmt kind r)) ≡ 1
result_results return_kind.Plain r = refl
result_results return_kind.Option r = refl
result_results return_kind.Iterator r = refl

stop_results : (limit : ℕ) (several : Bool) (c : Control) (after : Body) → of_body own_results (stop_before (bare_manner limit) several c after) ≡ of_body own_results after
stop_results limit true (block.Return place result) after = refl
stop_results limit true (block.Match source arms) after = refl
stop_results limit true (block.Equal a b body) after = refl
stop_results limit true (block.Loop result body) after = refl
stop_results limit false c after = refl

arm_results : (s : Setting) (bound : List ℕ) (source : BindingId) (c : Constraint) (places : List (Option BindingId)) (inside : Body) → of_stmt own_results (arm_stmt s bound source c places inside) ≡ of_body own_results inside
arm_results s bound source (constraint.ConstBool val) places inside = refl
arm_results s bound source (constraint.ConstInt val ty) places inside = refl
arm_results s bound source (constraint.ConstPrim val) places inside = refl
arm_results s bound source (constraint.Variant ty variant) places inside = refl
arm_results s bound source (constraint.Struct ty) places inside = refl
arm_results s bound source constraint.Some places inside = refl

local_lines : (often : Bool) (n : ℕ) (e : TExpr) → of_stmt own_lines (local_stmt often n e) ≡ []
local_lines often n e = local_by (λ st. of_stmt own_lines st ≡ []) often n e refl (λ borrow call is. refl)

lets_lines : (s : Setting) (bound : List ℕ) (binds : List BindingId) (more : Body) → lines_of (lets s bound binds more) ≡ lines_of more
lets_lines s bound [] more = refl
lets_lines s bound (b ∷ binds) more = ap (λ ls. ls ++ lines_of (lets s (bound ++ b.0 ∷ []) binds more)) (local_lines (binds_list s b) b.0 (bound_expr s bound b (slice_get s.bindings b.0))) ∙ lets_lines s (bound ++ b.0 ∷ []) binds more

result_lines : (kind : ReturnKind) (r : Read) → of_stmt own_lines (result_stmt kind r) ≡ []
result_lines return_kind.Plain r = refl
result_lines return_kind.Option r = refl
result_lines return_kind.Iterator r = refl

stop_lines : (limit : ℕ) (several : Bool) (c : Control) (after : Body) → lines_of (stop_before (bare_manner limit) several c after) ≡ lines_of after
stop_lines limit true (block.Return place result) after = refl
stop_lines limit true (block.Match source arms) after = refl
stop_lines limit true (block.Equal a b body) after = refl
stop_lines limit true (block.Loop result body) after = refl
stop_lines limit false c after = refl

arm_own : (s : Setting) (bound : List ℕ) (source : BindingId) (c : Constraint) (places : List (Option BindingId)) (inside : Body) → of_stmt own_lines (arm_stmt s bound source c places inside) ≡ lines_of inside
arm_own s bound source (constraint.ConstBool val) places inside = refl
arm_own s bound source (constraint.ConstInt val ty) places inside = refl
arm_own s bound source (constraint.ConstPrim val) places inside = refl
arm_own s bound source (constraint.Variant ty variant) places inside = refl
arm_own s bound source (constraint.Struct ty) places inside = refl
arm_own s bound source constraint.Some places inside = refl

-- ---- positions

mutual
  completed_positions : (b : Block) (s : Setting) (bound : List ℕ) → return_positions (completed s bound b) ≡ return_positions b
  completed_positions block.Stop s bound = refl
  completed_positions (block.Step binds c more) s bound =
      let now = bound_by bound (step_binds s bound binds c) in
      ap (λ ps. ps ++ return_positions (completed s now more)) (control_same c s now) ∙ ap (λ ps. control_positions c ++ ps) (completed_positions more s now)

  control_same : (c : Control) (s : Setting) (bound : List ℕ) → control_positions (completed_control s bound c) ≡ control_positions c
  control_same (block.Match source arms) s bound = arms_same arms s bound
  control_same (block.Equal a b body) s bound = completed_positions body s bound
  control_same (block.Loop result body) s bound = completed_positions body s (bound ++ result.0 ∷ [])
  control_same (block.Return pos result) s bound = refl

  arms_same : (arms : block.Arms) (s : Setting) (bound : List ℕ) → arms_positions (completed_arms s bound arms) ≡ arms_positions arms
  arms_same block.NoArm s bound = refl
  arms_same (block.Arm c places body arms) s bound =
      ap (λ ps. ps ++ arms_positions (completed_arms s bound arms)) (completed_positions body s (bound_within bound places)) ∙ ap (λ ps. return_positions body ++ ps) (arms_same arms s bound)

-- ---- lines where Returns are

drop_lines : (line : Pos → LogLine) (ps qs : List Pos) (lines : List LogLine) → drop (length ps) (map line (ps ++ qs) ++ lines) ≡ map line qs ++ lines
drop_lines line [] qs lines = refl
drop_lines line (p ∷ ps) qs lines = drop_lines line ps qs lines

local_logged : (lines : List LogLine) (often : Bool) (n : ℕ) (e : TExpr) (after : Body) → logged_before lines (local_stmt often n e) after ≡ Then (local_stmt often n e) after
local_logged lines often n e after = local_by (λ st. logged_before lines st after ≡ Then st after) often n e refl (λ borrow call is. refl)

lets_logged : (lines : List LogLine) (s : Setting) (bound : List ℕ) (binds : List BindingId) (more : Body) → logged lines (lets s bound binds more) ≡ lets s bound binds (logged lines more)
lets_logged lines s bound [] more = refl
lets_logged lines s bound (b ∷ binds) more =
    local_logged lines (binds_list s b) b.0 (bound_expr s bound b (slice_get s.bindings b.0)) (logged (drop (results_in (bound_stmt s bound b)) lines) (lets s (bound ++ b.0 ∷ []) binds more))
    ∙ ap (λ n. Then (bound_stmt s bound b) (logged (drop n lines) (lets s (bound ++ b.0 ∷ []) binds more))) (ap length (local_results (binds_list s b) b.0 (bound_expr s bound b (slice_get s.bindings b.0))))
    ∙ ap (Then (bound_stmt s bound b)) (lets_logged lines s (bound ++ b.0 ∷ []) binds more)

stop_logged : (limit : ℕ) (lines : List LogLine) (several : Bool) (c : Control) (after : Body) → stop_before (bare_manner limit) several c (logged lines after) ≡ logged lines (stop_before (bare_manner limit) several c after)
stop_logged limit lines true (block.Return place result) after = refl
stop_logged limit lines true (block.Match source arms) after = refl
stop_logged limit lines true (block.Equal a b body) after = refl
stop_logged limit lines true (block.Loop result body) after = refl
stop_logged limit lines false c after = refl

result_logged : (l : LogLine) (lines : List LogLine) (kind : ReturnKind) (r : Read) (after : Body) → logged_before (l ∷ lines) (result_stmt kind r) after ≡ line_before l (Then (result_stmt kind r) after)
result_logged l lines return_kind.Plain r after = refl
result_logged l lines return_kind.Option r after = refl
result_logged l lines return_kind.Iterator r after = refl

arm_logged : (lines : List LogLine) (s : Setting) (bound : List ℕ) (source : BindingId) (c : Constraint) (places : List (Option BindingId)) (inside after : Body)
    → logged_before lines (arm_stmt s bound source c places inside) after ≡ Then (arm_stmt s bound source c places (logged lines inside)) after
arm_logged lines s bound source (constraint.ConstBool val) places inside after = refl
arm_logged lines s bound source (constraint.ConstInt val ty) places inside after = refl
arm_logged lines s bound source (constraint.ConstPrim val) places inside after = refl
arm_logged lines s bound source (constraint.Variant ty variant) places inside after = refl
arm_logged lines s bound source (constraint.Struct ty) places inside after = refl
arm_logged lines s bound source constraint.Some places inside after = refl

parted : (line : Pos → LogLine) (ps qs : List Pos) (lines : List LogLine) → map line ps ++ (map line qs ++ lines) ≡ map line (ps ++ qs) ++ lines
parted line ps qs lines = sym (append_assoc (map line ps) (map line qs) lines) ∙ ap (λ ls. ls ++ lines) (sym (map-append line ps qs))

module _ (limit : ℕ) where
  mutual
    control_results : (c : Control) (s : Setting) (bound made : List ℕ) → IsReadyControl s bound made c → results_in (control_stmt limit s bound c) ≡ length (control_positions c)
    control_results (block.Match source (block.Arm c places body block.NoArm)) s bound made h =
        ap length (arm_results s bound source c places (block_body limit s (bound_within bound places) body Done))
        ∙ block_results body s (bound_within bound places) made Done h.1.2.2 ∙ sym (length-append (return_positions body) [])
    control_results (block.Match source (block.Arm c places body (block.Arm d others inside arms))) s bound made h = arms_results (block.Arm c places body (block.Arm d others inside arms)) s bound made source h.1.0 h.1.2
    control_results (block.Match source block.NoArm) s bound made h = absurd h.0
    control_results (block.Equal a b body) s bound made h = block_results body s bound made Done h.1 ∙ sym (length-append (return_positions body) []) ∙ ap length (append-nil (return_positions body))
    control_results (block.Loop result body) s bound made h = block_results body s (bound ++ result.0 ∷ []) made Done h.1 ∙ sym (length-append (return_positions body) []) ∙ ap length (append-nil (return_positions body))
    control_results (block.Return pos result) s bound made h = result_results (kind_of s.term.kind) (written_read s bound false result)

    block_results : (b : Block) (s : Setting) (bound made : List ℕ) (end : Body) → IsReadyFrom s bound made b → results_of (block_body limit s bound b end) ≡ length (return_positions b) + results_of end
    block_results block.Stop s bound made end h = omega arith
    block_results (block.Step binds c more) s bound made end h =
        let here = of_stmt own_results (control_stmt limit s (bound_by bound binds) c) in
        let there = of_body own_results (stop_before (bare_manner limit) (gives_several s) c (block_body limit s (bound_by bound binds) more end)) in
        let one : length here ≡ length (control_positions c) = control_results c s (bound_by bound binds) _ h.2 in
        let others : length there ≡ length (return_positions more) + results_of end = ap length (stop_results limit (gives_several s) c (block_body limit s (bound_by bound binds) more end)) ∙ block_results more s (bound_by bound binds) _ end h.3 in
        let apart : length (control_positions c ++ return_positions more) ≡ length (control_positions c) + length (return_positions more) = length-append (control_positions c) (return_positions more) in
        ap length (lets_results s bound binds _) ∙ length-append here there ∙ omega arith

    arms_results : (arms : block.Arms) (s : Setting) (bound made : List ℕ) (source : BindingId) (over : Source) → AreReadyArms s bound made source over arms → length (of_arms own_results (told_each (bare_manner limit) s bound arms)) ≡ length (arms_positions arms)
    arms_results block.NoArm s bound made source over h = refl
    arms_results (block.Arm c places body arms) s bound made source over h =
        let one : results_of (block_body limit s (bound_within bound places) body Done) ≡ length (return_positions body) + 0 = block_results body s (bound_within bound places) made Done h.2 in
        let others : length (of_arms own_results (told_each (bare_manner limit) s bound arms)) ≡ length (arms_positions arms) = arms_results arms s bound made source over h.3 in
        let apart : length (return_positions body ++ arms_positions arms) ≡ length (return_positions body) + length (arms_positions arms) = length-append (return_positions body) (arms_positions arms) in
        length-append (of_body own_results (block_body limit s (bound_within bound places) body Done)) (of_arms own_results (told_each (bare_manner limit) s bound arms)) ∙ omega arith

  mutual
    control_lines : (c : Control) (s : Setting) (bound made : List ℕ) → IsReadyControl s bound made c → of_stmt own_lines (control_stmt limit s bound c) ≡ []
    control_lines (block.Match source (block.Arm c places body block.NoArm)) s bound made h =
        arm_own s bound source c places (block_body limit s (bound_within bound places) body Done) ∙ block_lines body s (bound_within bound places) made Done h.1.2.2
    control_lines (block.Match source (block.Arm c places body (block.Arm d others inside arms))) s bound made h = no_arms_lines (block.Arm c places body (block.Arm d others inside arms)) s bound made source h.1.0 h.1.2
    control_lines (block.Match source block.NoArm) s bound made h = absurd h.0
    control_lines (block.Equal a b body) s bound made h = block_lines body s bound made Done h.1
    control_lines (block.Loop result body) s bound made h = block_lines body s (bound ++ result.0 ∷ []) made Done h.1
    control_lines (block.Return pos result) s bound made h = result_lines (kind_of s.term.kind) (written_read s bound false result)

    block_lines : (b : Block) (s : Setting) (bound made : List ℕ) (end : Body) → IsReadyFrom s bound made b → lines_of (block_body limit s bound b end) ≡ lines_of end
    block_lines block.Stop s bound made end h = refl
    block_lines (block.Step binds c more) s bound made end h =
        lets_lines s bound binds _
        ∙ ap (λ ls. ls ++ lines_of (stop_before (bare_manner limit) (gives_several s) c (block_body limit s (bound_by bound binds) more end))) (control_lines c s (bound_by bound binds) _ h.2)
        ∙ stop_lines limit (gives_several s) c (block_body limit s (bound_by bound binds) more end)
        ∙ block_lines more s (bound_by bound binds) _ end h.3

    no_arms_lines : (arms : block.Arms) (s : Setting) (bound made : List ℕ) (source : BindingId) (over : Source) → AreReadyArms s bound made source over arms → of_arms own_lines (told_each (bare_manner limit) s bound arms) ≡ []
    no_arms_lines block.NoArm s bound made source over h = refl
    no_arms_lines (block.Arm c places body arms) s bound made source over h =
        ap (λ ls. ls ++ of_arms own_lines (told_each (bare_manner limit) s bound arms)) (block_lines body s (bound_within bound places) made Done h.2) ∙ no_arms_lines arms s bound made source over h.3

  mutual
    -- statements with a line before each Return are those with these lines in order
    told_logged : (b : Block) (line : Pos → LogLine) (s : Setting) (bound made : List ℕ) (end : Body) (lines : List LogLine) → IsReadyFrom s bound made b
        → told_body (lined_manner line limit) s bound b (logged lines end) ≡ logged (map line (return_positions b) ++ lines) (block_body limit s bound b end)
    told_logged block.Stop line s bound made end lines h = refl
    told_logged (block.Step binds c more) line s bound made end lines h =
        let now = bound_by bound binds in
        let all = map line (control_positions c ++ return_positions more) ++ lines in
        let rest = map line (return_positions more) ++ lines in
        let after = block_body limit s now more end in
        let left : drop (results_in (control_stmt limit s now c)) all ≡ rest =
        ap (λ n. drop n all) (control_results c s now _ h.2) ∙ drop_lines line (control_positions c) (return_positions more) lines in
        ap (lets s bound binds)
        (ap (λ x. told_before (Some line) c (Then (told_control (lined_manner line limit) s now c) (stop_before (bare_manner limit) (gives_several s) c x))) (told_logged more line s now _ end lines h.3)
        ∙ ap (λ x. told_before (Some line) c (Then (told_control (lined_manner line limit) s now c) x)) (stop_logged limit rest (gives_several s) c after)
        ∙ control_logged c line s now _ (return_positions more) lines (logged rest (stop_before (bare_manner limit) (gives_several s) c after)) h.2
        ∙ ap (λ ls. logged_before all (control_stmt limit s now c) (logged ls (stop_before (bare_manner limit) (gives_several s) c after))) (sym left))
        ∙ sym (lets_logged all s bound binds (Then (control_stmt limit s now c) (stop_before (bare_manner limit) (gives_several s) c after)))

    control_logged : (c : Control) (line : Pos → LogLine) (s : Setting) (bound made : List ℕ) (others : List Pos) (lines : List LogLine) (after : Body) → IsReadyControl s bound made c
        → told_before (Some line) c (Then (told_control (lined_manner line limit) s bound c) after) ≡ logged_before (map line (control_positions c ++ others) ++ lines) (control_stmt limit s bound c) after
    control_logged (block.Match source (block.Arm c places body block.NoArm)) line s bound made others lines after h =
        let ps = return_positions body in
        let inside = block_body limit s (bound_within bound places) body Done in
        ap (λ x. Then (arm_stmt s bound source c places x) after) (told_logged body line s (bound_within bound places) made Done (map line others ++ lines) h.1.2.2)
        ∙ sym (arm_logged (map line ps ++ (map line others ++ lines)) s bound source c places inside after)
        ∙ ap (λ ls. logged_before ls (arm_stmt s bound source c places inside) after) (parted line ps others lines ∙ ap (λ qs. map line (qs ++ others) ++ lines) (sym (append-nil ps)))
    control_logged (block.Match source (block.Arm c places body (block.Arm d others' inside arms))) line s bound made others lines after h =
        let all = block.Arm c places body (block.Arm d others' inside arms) in
        ap (λ x. Then (Match (match_read s bound source c) x) after) (arms_logged (block.Arm c places body (block.Arm d others' inside arms)) line s bound made source h.1.0 (map line others ++ lines) h.1.2)
        ∙ ap (λ ls. Then (Match (match_read s bound source c) (logged_arms ls (told_each (bare_manner limit) s bound all))) after) (parted line (arms_positions all) others lines)
    control_logged (block.Match source block.NoArm) line s bound made others lines after h = absurd h.0
    control_logged (block.Equal a b body) line s bound made others lines after h =
        let ps = return_positions body in
        let x = written_operand s bound a in
        let y = written_operand s bound b in
        let inside = block_body limit s bound body Done in
        ap (λ i. Then (IfEq x y i) after) (told_logged body line s bound made Done (map line others ++ lines) h.1)
        ∙ ap (λ ls. logged_before ls (IfEq x y inside) after) (parted line ps others lines)
    control_logged (block.Loop result body) line s bound made others lines after h =
        let ps = return_positions body in
        let list = written_list (looped_local s result) in
        let inside = block_body limit s (bound ++ result.0 ∷ []) body Done in
        ap (λ i. Then (Loop list result.0 i) after) (told_logged body line s (bound ++ result.0 ∷ []) made Done (map line others ++ lines) h.1)
        ∙ ap (λ ls. logged_before ls (Loop list result.0 inside) after) (parted line ps others lines)
    control_logged (block.Return pos result) line s bound made others lines after h = sym (result_logged (line pos) (map line others ++ lines) (kind_of s.term.kind) (written_read s bound false result) after)

    arms_logged : (arms : block.Arms) (line : Pos → LogLine) (s : Setting) (bound made : List ℕ) (source : BindingId) (over : Source) (lines : List LogLine) → AreReadyArms s bound made source over arms
        → told_each (lined_manner line limit) s bound arms ≡ logged_arms (map line (arms_positions arms) ++ lines) (told_each (bare_manner limit) s bound arms)
    arms_logged block.NoArm line s bound made source over lines h = refl
    arms_logged (block.Arm c places body arms) line s bound made source over lines h =
        let ps = return_positions body in
        let qs = arms_positions arms in
        let pat = written_arm s.env c places in
        let inside = block_body limit s (bound_within bound places) body Done in
        let all = map line (ps ++ qs) ++ lines in
        let count : results_of inside ≡ length ps = block_results body s (bound_within bound places) made Done h.2 ∙ omega arith in
        let left : drop (results_of inside) all ≡ map line qs ++ lines = ap (λ n. drop n all) count ∙ drop_lines line ps qs lines in
        ap (λ i. tree.Arm pat i (told_each (lined_manner line limit) s bound arms)) (told_logged body line s (bound_within bound places) made Done (map line qs ++ lines) h.2 ∙ ap (λ ls. logged ls inside) (parted line ps qs lines))
        ∙ ap (tree.Arm pat (logged all inside)) (arms_logged arms line s bound made source over lines h.3 ∙ ap (λ ls. logged_arms ls (told_each (bare_manner limit) s bound arms)) (sym left))

tail_results : (mark : Option (Option (List ℕ × List ℕ))) (x : Bool) → results_of (cond x Done (tail_body mark)) ≡ 0
tail_results mark true = refl
tail_results None false = refl
tail_results (Some mark) false = refl

tail_lines : (mark : Option (Option (List ℕ × List ℕ))) (x : Bool) → lines_of (cond x Done (tail_body mark)) ≡ []
tail_lines mark true = refl
tail_lines None false = refl
tail_lines (Some mark) false = refl

logging_lines : (logging : Bool) (files : Files) (s : Setting) (ps : List Pos) (n : ℕ) → n ≡ length ps → take n (cond logging (map (log_line files s) ps) []) ≡ cond logging (map (log_line files s) ps) []
logging_lines true files s ps n e = ap (λ k. take k (map (log_line files s) ps)) (e ∙ sym (length-map ps (log_line files s))) ∙ take_whole (map (log_line files s) ps)
logging_lines false files s ps n e = take_none n

-- the log lines of the statements that a lawful block gives
pub written_lines : (options : CodegenOptions) (files : Files) (env : Environment) (t : Term) (bs : List Binding) (b : Block) → IsLawfulBlock (setting env t bs) b
    → lines_of (logged (log_lines options files (setting env t bs) b) (block_body options.max_returns (setting env t bs) [] (completed (setting env t bs) [] b) (tail_in files env t b))) ≡ log_lines options files (setting env t bs) b
written_lines options files env t bs b h =
    let s = setting env t bs in
    let c = completed s [] b in
    let ready = completed_ready s b h in
    let end = tail_in files env t b in
    let lines = log_lines options files s b in
    let count : results_of (block_body options.max_returns s [] c end) ≡ length (return_positions b) =
    block_results options.max_returns c s [] [] end ready ∙ ap (λ n. length (return_positions c) + n) (tail_results (mark_in files env t) (ends_in_return b)) ∙ omega arith ∙ ap length (completed_positions b s []) in
    logged_lines (block_body options.max_returns s [] c end) lines (block_lines options.max_returns c s [] [] end ready ∙ tail_lines (mark_in files env t) (ends_in_return b))
    ∙ logging_lines options.emit_logging files s (return_positions b) (results_of (block_body options.max_returns s [] c end)) count

told_by : (logging : Bool) (options : CodegenOptions) (files : Files) (env : Environment) (t : Term) (bs : List Binding) (b : Block) → IsLawfulBlock (setting env t bs) b
    → function_with env t (told_body (record { telling = cond logging (Some (log_line files (setting env t bs))) None; limit = options.max_returns; above = None; inside = false }) (setting env t bs) [] (completed (setting env t bs) [] b) (tail_in files env t b))
    ≡ function_with env t (logged (cond logging (map (log_line files (setting env t bs)) (return_positions b)) []) (written_body options files env t bs b))
told_by true options files env t bs b h =
    let s = setting env t bs in
    let c = completed s [] b in
    let end = tail_in files env t b in
    let line = log_line files s in
    ap (function_with env t)
    (ap (told_body (lined_manner line options.max_returns) s [] c) (sym (logged_none end)) ∙ told_logged options.max_returns c line s [] [] end [] (completed_ready s b h)
    ∙ ap (λ ls. logged ls (block_body options.max_returns s [] c end)) (append-nil (map line (return_positions c)) ∙ ap (map line) (completed_positions b s [])))
told_by false options files env t bs b h = ap (function_with env t) (sym (logged_none (written_body options files env t bs b)))

-- the function of a term, with a line before each Return and without closures, is that with these lines
pub told_is : (options : CodegenOptions) (files : Files) (env : Environment) (t : Term) (bs : List Binding) (b : Block) → IsLawfulBlock (setting env t bs) b → open_function options files env t bs b ≡ logged_function options files env t bs b
told_is options files env t bs b h = told_by options.emit_logging options files env t bs b h
