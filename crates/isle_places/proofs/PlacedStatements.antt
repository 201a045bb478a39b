-- Statements, arms and functions whose places are gathered one after another.
use Rattle.std.proofs.Common.{◌≡◌, ℕ, ◌+◌, ◌<◌, List, [], ◌∷◌, ◌++◌, ◌≤◌, length, drop, map, flat_map, get_or, sym, ap, ◌∙◌, append-nil}
use Rattle.std.specs.Prelude.{OnOk}
use Rattle.std.specs.declared.result.Result.{Result}
use Rattle.std.specs.declared.result.Result.TheVariants as result
use Rattle.std.proofs.lemmas.List.{drop_more, drop_all, map-append}
use Rattle.isle_tree.specs.declared.tree.Function.{Function as CodeFunction}
use Rattle.isle_tree.specs.declared.tree.Operand.{Operand}
use Rattle.isle_tree.specs.declared.tree.Read.{Read}
use Rattle.isle_tree.specs.declared.tree.TCall.{TCall}
use Rattle.isle_tree.specs.declared.tree.TExpr.{TExpr}
use Rattle.isle_tree.specs.declared.tree.TPat.{TPat}
use Rattle.isle_tree.specs.declared.tree.Stmt.{Stmt as CodeStmt}
use Rattle.isle_tree.specs.declared.tree.Stmt.TheVariants as code
use Rattle.isle_tree.specs.Program.{Function, Program}
use Rattle.isle_tree.specs.Views.{stmt, body, arms, function}
use Rattle.isle_tree.proofs.Sees.{stmt-let, stmt-let_list, stmt-if_eq}
use Rattle.isle_places.specs.Signatures.{signature_of}
use Rattle.isle_places.specs.declared.told.Told.{Told as CodeTold}
use Rattle.isle_places.specs.Told.{Told, Tells, list_told, expr_told}
use Rattle.isle_places.specs.ToldViews.{told, local_told, tells}
use Rattle.isle_places.specs.Places.{Place, all_places, places, both_places, arm_places, stmt_places, body_places, arms_places, told_after}
use Rattle.isle_places.proofs.PlacesAt.{part_more}
use Rattle.isle_places.proofs.ToldLaws.{grows_more}

-- one local more
pub tells_more : (old new : List (ℕ × CodeTold)) (n : ℕ) (held : CodeTold) (t : Told) → told held ≡ t → new ≡ old ++ (n, held) ∷ [] → tells new ≡ tells old ++ (n, t) ∷ []
tells_more old new n held t is more = ap tells more ∙ map-append local_told old ((n, held) ∷ []) ∙ ap (λ u. tells old ++ (n, u) ∷ []) is

-- what a statement binds
pub let_after : {B E : Type 0} (r : Result B E) (p : Program) (f : Function) (n : ℕ) (e : TExpr) (s : CodeStmt) (held : CodeTold) (old new : List (ℕ × CodeTold)) → s ≡ code.Let n e → told held ≡ expr_told p f (tells old) e
    → OnOk r (new ≡ old ++ (n, held) ∷ []) → OnOk r (tells new ≡ told_after p f (tells old) (stmt s))
let_after (result.Ok v) p f n e s held old new is held_is more = tells_more old new n held (expr_told p f (tells old) e) held_is more ∙ ap (told_after p f (tells old)) (sym (ap stmt is ∙ stmt-let n e))
let_after (result.Err x) p f n e s held old new is held_is more = tt

-- so of a list
pub list_after : {B E : Type 0} (r : Result B E) (p : Program) (f : Function) (n : ℕ) (call : TCall) (s : CodeStmt) (held : CodeTold) (old new : List (ℕ × CodeTold)) → s ≡ code.LetList n call → told held ≡ list_told (signature_of p call.callee) → OnOk r (new ≡ old ++ (n, held) ∷ [])
    → OnOk r (tells new ≡ told_after p f (tells old) (stmt s))
list_after (result.Ok v) p f n call s held old new is held_is more = tells_more old new n held (list_told (signature_of p call.callee)) held_is more ∙ ap (told_after p f (tells old)) (sym (ap stmt is ∙ stmt-let_list n call))
list_after (result.Err x) p f n call s held old new is held_is more = tt

-- the places of a test
pub test_places : (p : Program) (f : Function) (ts : Tells) (a b : Operand) (inside slice : List CodeStmt) (s : CodeStmt) → s ≡ code.IfEq a b inside → slice ≡ inside → stmt_places p f ts (stmt s) ≡ both_places f ts a b ++ body_places p f ts (body slice)
test_places p f ts a b inside slice s is same = ap (stmt_places p f ts) (ap stmt is ∙ stmt-if_eq a b inside) ∙ ap (λ ss. both_places f ts a b ++ body_places p f ts (body ss)) (sym same)

-- what is known of the places so far and of the locals, if arms are left
abbrev pub ArmsLeft : Program → Function → (first now : Tells) → Read → List (TPat × List CodeStmt) → (found all : List Place) → Type 0
ArmsLeft p f first now r left found all = (found ++ arms_places p f now r (arms left) ≡ all) × (now ≡ first)

-- one arm more
pub arm_step : (p : Program) (f : Function) (xs : List (TPat × List CodeStmt)) (i : ℕ) (x : TPat × List CodeStmt) (r : Read) (inside : List CodeStmt) (first now later : Tells) (found next old whole : List Place) → i < length xs → x ≡ get_or xs i x → inside ≡ x.1
    → next ≡ found ++ arm_places p f now x.0 r (body inside) → later ≡ now → ArmsLeft p f first now r (drop i xs) found (old ++ whole) → ArmsLeft p f first later r (drop (i + 1) xs) next (old ++ whole)
arm_step p f xs i x r inside first now later found next old whole lt is same more kept left = (
  ap (λ ts. next ++ arms_places p f ts r (arms (drop (i + 1) xs))) kept
      ∙ part_more old found next whole (arm_places p f now x.0 r (body x.1)) (arms_places p f now r (arms (drop (i + 1) xs))) (arms_places p f now r (arms (drop i xs)))
      (more ∙ ap (λ ss. found ++ arm_places p f now x.0 r (body ss)) same)
      (ap (λ ys. arms_places p f now r (arms ys)) (drop_more xs i x lt ∙ ap (λ y. y ∷ drop (i + 1) xs) (sym is)))
      left.0,
  kept ∙ left.1,
)

-- what is known of the places so far and of the locals, if statements are left
abbrev pub BodyLeft : Program → Function → (first now : Tells) → List CodeStmt → (found all : List Place) → Type 0
BodyLeft p f first now left found all = (found ++ body_places p f now (body left) ≡ all) × ((more : Tells) × (now ≡ first ++ more))

-- one statement more
pub statement_step : (p : Program) (f : Function) (xs : List CodeStmt) (i : ℕ) (x : CodeStmt) (first now later : Tells) (found next old whole : List Place) → i < length xs → x ≡ get_or xs i x → next ≡ found ++ stmt_places p f now (stmt x)
    → later ≡ told_after p f now (stmt x) → BodyLeft p f first now (drop i xs) found (old ++ whole) → BodyLeft p f first later (drop (i + 1) xs) next (old ++ whole)
statement_step p f xs i x first now later found next old whole lt is more after left = (
  ap (λ ts. next ++ body_places p f ts (body (drop (i + 1) xs))) after
      ∙ part_more old found next whole (stmt_places p f now (stmt x)) (body_places p f (told_after p f now (stmt x)) (body (drop (i + 1) xs))) (body_places p f now (body (drop i xs))) more
      (ap (λ ys. body_places p f now (body ys)) (drop_more xs i x lt ∙ ap (λ y. y ∷ drop (i + 1) xs) (sym is)))
      left.0,
  grows_more p f first now later (stmt x) left.1 after,
)

-- all functions were gone through
pub all_gathered : (p : Program) (fns : List CodeFunction) (i : ℕ) (found : List Place) → length fns ≤ i → found ++ flat_map (places p) (map function (drop i fns)) ≡ flat_map (places p) (map function fns) → map function fns ≡ p.fns → found ≡ all_places p
all_gathered p fns i found le e same =
    sym (append-nil found)
    ∙ ap (λ gs. found ++ flat_map (places p) (map function gs)) (sym (drop_all i fns le))
    ∙ e
    ∙ ap (flat_map (places p)) same
