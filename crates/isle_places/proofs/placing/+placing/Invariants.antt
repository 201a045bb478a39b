use Rattle.std.proofs.Common.{◌≡◌, ◌++◌, drop}
use Rattle.isle_tree.specs.Views.{function, program, stmt, body, arms}
use Rattle.isle_places.specs.Places.{stmt_places, body_places, arms_places}
use Rattle.isle_places.specs.Told.{Tells}
use Rattle.isle_places.specs.ToldViews.{tells, placed}
use Rattle.isle_places.proofs.placing.+placing.Given as goal

abbrev pub invariant-push_statement-loop-arm : goal.invariant-push_statement-loop-arm
invariant-push_statement-loop-arm l =
    (placed l.found.items ++ (arms_places (program l.walk.signatures.now) (function l.walk.f.now) (tells l.bound) l.read (arms (drop l.arm-index l.arm-items))) ≡ placed l.fn.found.items ++ (stmt_places (program l.walk.signatures.now) (function l.walk.f.now) (tells l.fn.bound) (stmt l.fn.statement)))
    × (tells l.bound ≡ tells l.fn.bound)

abbrev pub invariant-push_body-loop-statement : goal.invariant-push_body-loop-statement
invariant-push_body-loop-statement l =
    (placed l.found.items ++ (body_places (program l.walk.signatures.now) (function l.walk.f.now) (tells l.bound) (body (drop l.statement-index l.statements))) ≡ placed l.fn.found.items ++ (body_places (program l.walk.signatures.now) (function l.walk.f.now) (tells l.fn.bound) (body l.statements)))
    × ((more : Tells) × (tells l.bound ≡ tells l.fn.bound ++ more))
