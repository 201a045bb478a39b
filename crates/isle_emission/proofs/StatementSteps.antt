-- The loop that makes statements, and what one statement is made of, over plain variables.
use Rattle.std.proofs.Common.{◌≡◌, ℕ, ◌+◌, ◌<◌, List, [], ◌∷◌, ◌++◌, length, drop, get_or, map, Bool, false, true, Option, Some, None, refl, sym, ap, ◌∙◌, subst, arith}
use Rattle.std.specs.Prelude.{option_map}
use Rattle.std.proofs.lemmas.List.{drop_more}
use Rattle.isle_core.specs.declared.BindingId.{BindingId}
use Rattle.isle_core.specs.declared.blocks.EvalStep.{EvalStep as CodeStep}
use Rattle.isle_core.specs.declared.blocks.MatchArm.{MatchArm as CodeArm}
use Rattle.isle_core.specs.ArmPlaces.{bound_within}
use Rattle.isle_core.specs.Bindable.{bound_by}
use Rattle.isle_core.specs.Block as block
use Rattle.isle_core.specs.Block.{Block, Control, Step}
use Rattle.isle_core.specs.BlockViews.{SeenStep, SeenArm, block_of, arms_of, step, arm}
use Rattle.isle_core.specs.Setting.{Setting, gives_several}
use Rattle.isle_tree.specs.declared.tree.Operand.{Operand}
use Rattle.isle_tree.specs.declared.tree.Read.{Read}
use Rattle.isle_tree.specs.declared.tree.TPat.{TPat}
use Rattle.isle_tree.specs.declared.tree.Stmt.{Stmt as CodeStmt}
use Rattle.isle_tree.specs.declared.tree.Stmt.TheVariants as code
use Rattle.isle_tree.specs.Program.{Stmt, Body, Done}
use Rattle.isle_tree.specs.Views.{stmt}
use Rattle.isle_tree.proofs.Sees.{stmt-if_eq, stmt-if_let, stmt-loop}
use Rattle.isle_simulation.specs.Completed.{step_binds, completed_control}
use Rattle.isle_simulation.specs.Operands.{operand_of}
use Rattle.isle_simulation.specs.Manner.{Manner, within, has_closure, closed_if}
use Rattle.isle_simulation.specs.Telling.{Telling, told_before}
use Rattle.isle_simulation.specs.Statements.{stmt_before, stop_before, lets, if_eq, if_let, loop_of, looped_local, arm_stmt}
use Rattle.isle_emission.specs.BodyOnto.{body_onto, AreMadeAs, ArePushedAs, PushesStmt}
use Rattle.isle_emission.specs.Built.{IsBuilt, IsBuiltStep, IsBuiltArm, AreBuilt}
use Rattle.isle_emission.specs.MadeBodies.{made_body, made_in_arm, made_control, made_arms, binds_of, PushesStep}
use Rattle.isle_emission.specs.PushedLets.{PushesLets}
use Rattle.isle_simulation.proofs.CompletedArms.{arm_by}
use Rattle.isle_emission.proofs.Onto.{onto_done}

-- ---- steps

-- what the statements of steps are, if those before them are these
abbrev pub Steps : Manner → Setting → List ℕ → List CodeStmt → List CodeStep → Option Body → Option Body
Steps manner s bound out xs end = body_onto (map stmt out) (made_body manner s bound (block_of (map step xs)) end)

-- the first of steps, as it is seen
first_step : (manner : Manner) (s : Setting) (x : CodeStep) (xs : List CodeStep) (seen : SeenStep) (bound : List ℕ) (out : List CodeStmt) (end : Option Body) → step x ≡ seen
    → body_onto (map stmt out) (made_body manner s bound (Step seen.0 seen.1 (block_of (map step xs))) end) ≡ Steps manner s bound out (x ∷ xs) end
first_step manner s x xs seen bound out end seen_x = ap (λ k. body_onto (map stmt out) (made_body manner s bound (block_of (k ∷ map step xs)) end)) (sym seen_x)

-- a step that is completed is told of as before
told_same : (telling : Telling) (s : Setting) (bound : List ℕ) (c : Control) (after : Option Body) → told_before telling (completed_control s bound c) after ≡ told_before telling c after
told_same None s bound c after = refl
told_same (Some line) s bound (block.Match source arms) after = refl
told_same (Some line) s bound (block.Equal a b body) after = refl
told_same (Some line) s bound (block.Loop result body) after = refl
told_same (Some line) s bound (block.Return place result) after = refl

-- and is stopped after as before
stop_same : (manner : Manner) (several : Bool) (s : Setting) (bound : List ℕ) (c : Control) (after : Option Body) → stop_before manner several (completed_control s bound c) after ≡ stop_before manner several c after
stop_same manner false s bound c after = refl
stop_same manner true s bound (block.Match source arms) after = refl
stop_same manner true s bound (block.Equal a b body) after = refl
stop_same manner true s bound (block.Loop result body) after = refl
stop_same manner true s bound (block.Return place result) after = refl

-- what a step makes after its lets, if its bindings are bound
abbrev after_lets : Manner → Setting → (out : List CodeStmt) (bound mid : List ℕ) → SeenStep → (made : Option Stmt) (more : Block) → Option Body → Option Body
after_lets manner s out bound mid seen made more end = body_onto (map stmt out) (lets s bound (step_binds s bound seen.0 seen.1) (told_before manner.telling seen.1 (stmt_before made (stop_before manner (gives_several s) seen.1 (made_body manner s mid more end)))))

so_bound : (manner : Manner) (s : Setting) (out : List CodeStmt) (bound mid : List ℕ) (seen : SeenStep) (made : Option Stmt) (more : Block) (end : Option Body)
    → mid ≡ bound_by bound (step_binds s bound seen.0 seen.1) → made ≡ made_control manner s mid seen.1 → after_lets manner s out bound mid seen made more end ≡ body_onto (map stmt out) (made_body manner s bound (Step seen.0 seen.1 more) end)
so_bound manner s out bound mid seen made more end at_mid is =
    let binds = step_binds s bound seen.0 seen.1 in
    let within = bound_by bound binds in
    ap (λ x. after_lets manner s out bound mid seen x more end) is
    ∙ ap (λ ls. after_lets manner s out bound ls seen (made_control manner s ls seen.1) more end) at_mid
    ∙ ap (λ y. body_onto (map stmt out) (lets s bound binds (told_before manner.telling seen.1 (stmt_before (made_control manner s within seen.1) y)))) (sym (stop_same manner (gives_several s) s within seen.1 (made_body manner s within more end)))
    ∙ ap (λ y. body_onto (map stmt out) (lets s bound binds y)) (sym (told_same manner.telling s within seen.1 _))

pub step_made : (manner : Manner) (s : Setting) (x : CodeStep) (seen : SeenStep) (bound mid new : List ℕ) (out lets_out told_out pushed after : List CodeStmt)
    → step x ≡ seen → PushesLets s (step_binds s bound seen.0 seen.1) bound mid out lets_out → ArePushedAs lets_out told_out (λ end. told_before manner.telling seen.1 end)
    → PushesStmt told_out pushed (made_control manner s mid seen.1) → new ≡ mid → ArePushedAs pushed after (λ end. stop_before manner (gives_several s) seen.1 end)
    → PushesStep manner s x bound new out after
step_made manner s x seen bound mid new out lets_out told_out pushed after seen_x p told made at_new stopped = record {
  stmts = λ xs end.
      let more = block_of (map step xs) in
      let does = made_control manner s mid seen.1 in
      let stop = stop_before manner (gives_several s) seen.1 (made_body manner s mid more end) in
      ap (λ ls. body_onto (map stmt after) (made_body manner s ls more end)) at_new
      ∙ stopped (made_body manner s mid more end)
      ∙ made stop
      ∙ told (stmt_before does stop)
      ∙ p.lets (told_before manner.telling seen.1 (stmt_before does stop))
      ∙ so_bound manner s out bound mid seen does more end p.bound refl
      ∙ first_step manner s x xs seen bound out end seen_x;
  bound = at_new ∙ p.bound ∙ ap (λ (k : SeenStep). bound_by bound (step_binds s bound k.0 k.1)) (sym seen_x);
  grows = (p.grows.0, at_new ∙ p.grows.1);
}

-- the first of the steps that are left
pub steps_step : (manner : Manner) (s : Setting) (xs : List CodeStep) (i : ℕ) (x : CodeStep) (bound new : List ℕ) (out after : List CodeStmt) (end : Option Body)
    → i < length xs → x ≡ get_or xs i x → PushesStep manner s x bound new out after
    → body_onto (map stmt after) (made_body manner s new (block_of (map step (drop (i + 1) xs))) end) ≡ Steps manner s bound out (drop i xs) end
steps_step manner s xs i x bound new out after end lt item p =
    p.stmts (drop (i + 1) xs) end
    ∙ ap (λ y. Steps manner s bound out (y ∷ drop (i + 1) xs) end) item
    ∙ ap (λ ys. Steps manner s bound out ys end) (sym (drop_more xs i x lt))

-- it is built, and so are the others
pub step_built : (s : Setting) (xs : List CodeStep) (i : ℕ) (x : CodeStep) (bound : List ℕ) → i < length xs → x ≡ get_or xs i x → IsBuilt s bound (block_of (map step (drop i xs)))
    → IsBuiltStep s bound (step x).0 (step x).1 × IsBuilt s (bound_by bound (binds_of s bound x)) (block_of (map step (drop (i + 1) xs)))
step_built s xs i x bound lt item h =
    let all = subst (λ ys. IsBuilt s bound (block_of (map step ys))) (drop_more xs i x lt) h in
    let k = subst (λ y. IsBuilt s bound (block_of (map step (y ∷ drop (i + 1) xs)))) (sym item) all in
    ((k.0, k.1), k.2)

-- ---- tests

-- a test or a loop, as what is inside it is seen
pub inside_eq : (a b : Operand) (ss : List CodeStmt) → Some (stmt (code.IfEq a b ss)) ≡ if_eq (Some a) (Some b) (body_onto (map stmt ss) (Some Done))
inside_eq a b ss = ap Some (stmt-if_eq a b ss) ∙ ap (if_eq (Some a) (Some b)) (sym (onto_done (map stmt ss)))

pub inside_let : (p : TPat) (r : Read) (ss : List CodeStmt) → Some (stmt (code.IfLet p r ss)) ≡ if_let (Some p) (Some r) (body_onto (map stmt ss) (Some Done))
inside_let p r ss = ap Some (stmt-if_let p r ss) ∙ ap (if_let (Some p) (Some r)) (sym (onto_done (map stmt ss)))

pub inside_loop : (list item : ℕ) (ss : List CodeStmt) → Some (stmt (code.Loop list item ss)) ≡ loop_of (Some list) item (body_onto (map stmt ss) (Some Done))
inside_loop list item ss = ap Some (stmt-loop list item ss) ∙ ap (loop_of (Some list) item) (sym (onto_done (map stmt ss)))

-- a test of two operands, within which a block stands
pub equal_made : (manner : Manner) (s : Setting) (bound now : List ℕ) (a b : BindingId) (body : Block) (ss : List CodeStmt) → now ≡ bound → AreMadeAs ss (made_body manner s bound body)
    → if_eq (operand_of s.env s.bindings now a) (operand_of s.env s.bindings now b) (body_onto (map stmt ss) (Some Done)) ≡ made_control manner s bound (block.Equal a b body)
equal_made manner s bound now a b body ss same made =
    ap (λ ls. if_eq (operand_of s.env s.bindings ls a) (operand_of s.env s.bindings ls b) (body_onto (map stmt ss) (Some Done))) same
    ∙ ap (if_eq (operand_of s.env s.bindings bound a) (operand_of s.env s.bindings bound b)) (made (Some Done))

-- a loop, within which a block stands
pub loop_made : (manner : Manner) (s : Setting) (bound now : List ℕ) (item : BindingId) (body : Block) (ss : List CodeStmt) → now ≡ bound ++ item.0 ∷ [] → AreMadeAs ss (made_body manner s now body)
    → loop_of (looped_local s item) item.0 (body_onto (map stmt ss) (Some Done)) ≡ made_control manner s bound (block.Loop item body)
loop_made manner s bound now item body ss at_now made =
    ap (loop_of (looped_local s item) item.0) (made (Some Done) ∙ ap (λ ls. made_body manner s ls body (Some Done)) at_now)

-- there is an arm
pub some_built : (s : Setting) (bound : List ℕ) (source : BindingId) (xs : List CodeArm) → AreBuilt s bound source (arms_of (map arm xs)) → 0 < length xs
some_built s bound source [] h = absurd h
some_built s bound source (x ∷ xs) h = omega arith

-- and it is built, if it is one
pub arm_built : (s : Setting) (bound : List ℕ) (source : BindingId) (xs : List CodeArm) (x : CodeArm) → AreBuilt s bound source (arms_of (map arm xs)) → length xs ≡ 1 → x ≡ get_or xs 0 x → IsBuiltArm s bound source (arm x)
arm_built s bound source [] x h one item = absurd h
arm_built s bound source (y ∷ []) x h one item = subst (λ z. IsBuiltArm s bound source (arm z)) (sym item) h
arm_built s bound source (y ∷ z ∷ xs) x h one item = absurd (omega (arith, one))

-- the statement of the one arm is that of the arms
pub one_arm : (manner : Manner) (s : Setting) (bound : List ℕ) (source : BindingId) (xs : List CodeArm) (x : CodeArm)
    → length xs ≡ 1 → x ≡ get_or xs 0 x → made_arms manner s bound source (arms_of (map arm (x ∷ []))) ≡ made_arms manner s bound source (arms_of (map arm xs))
one_arm manner s bound source [] x one item = absurd (omega (arith, one))
one_arm manner s bound source (y ∷ []) x one item = ap (λ z. made_arms manner s bound source (arms_of (map arm (z ∷ [])))) item
one_arm manner s bound source (y ∷ z ∷ xs) x one item = absurd (omega (arith, one))

-- the statement of an arm
pub arm_made : (manner : Manner) (s : Setting) (bound now : List ℕ) (source : BindingId) (i : Option Body) (x : CodeArm) (seen : SeenArm)
    → arm x ≡ seen → now ≡ bound → i ≡ made_in_arm manner s (bound_within bound seen.1) seen.2
    → arm_stmt s now source (arm x).0 (arm x).1 i ≡ made_arms manner s bound source (arms_of (map arm (x ∷ [])))
arm_made manner s bound now source i x seen seen_x at_now is_i =
    ap (λ ls. arm_stmt s ls source (arm x).0 (arm x).1 i) at_now
    ∙ ap (λ (k : SeenArm). arm_stmt s bound source k.0 k.1 i) seen_x
    ∙ ap (arm_stmt s bound source seen.0 seen.1) (is_i ∙ sym (arm_by manner s (bound_within bound seen.1) seen.2))
    ∙ ap (λ k. made_arms manner s bound source (arms_of (k ∷ []))) (sym seen_x)

-- what is made inside an arm, by how its block is written
pub arm_inside : (manner inner : Manner) (s : Setting) (bound now : List ℕ) (b : Block) (own : Bool) (ss closed : List CodeStmt)
    → inner ≡ within own manner → own ≡ has_closure manner b → now ≡ bound → AreMadeAs ss (made_body inner s now b)
    → body_onto (map stmt closed) (Some Done) ≡ option_map (closed_if own manner.inside) (body_onto (map stmt ss) (Some Done))
    → body_onto (map stmt closed) (Some Done) ≡ made_in_arm manner s bound b
arm_inside manner inner s bound now b own ss closed is_inner is_own at_now made is =
    is
    ∙ ap (option_map (closed_if own manner.inside)) (made (Some Done) ∙ ap (λ m. made_body m s now b (Some Done)) is_inner ∙ ap (λ ls. made_body (within own manner) s ls b (Some Done)) at_now)
    ∙ ap (λ x. option_map (closed_if x manner.inside) (made_body (within x manner) s bound b (Some Done))) is_own
