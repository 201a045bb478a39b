-- One piece printed after another.
use Rattle.std.proofs.Common.{◌≡◌, List, ◌++◌, Result, Ok, Err, ap, ◌∙◌, append_assoc}
use Rattle.std.specs.Prelude.{OnOk}

-- five pieces after a line that has no token, and a line after them
pub five_pieces : {A E T : Type 0} (r : Result T E) (old head params arrow inside end n0 n1 n2 n3 n4 n5 new : List A)
    → n0 ≡ old → n1 ≡ n0 ++ head → n2 ≡ n1 ++ params → n3 ≡ n2 ++ arrow → n4 ≡ n3 ++ inside → n5 ≡ n4 ++ end → new ≡ n5
    → OnOk r (new ≡ old ++ (head ++ (params ++ (arrow ++ (inside ++ end)))))
five_pieces (Ok u) old head params arrow inside end n0 n1 n2 n3 n4 n5 new e0 e1 e2 e3 e4 e5 h =
    let all : new ≡ ((((old ++ head) ++ params) ++ arrow) ++ inside) ++ end = cc in
    all ∙ simp append_assoc
five_pieces (Err x) old head params arrow inside end n0 n1 n2 n3 n4 n5 new e0 e1 e2 e3 e4 e5 h = tt

-- what is printed after a piece
pub piece_then : {A E T : Type 0} (r : Result T E) (old first behind middle new : List A) → middle ≡ old ++ first → OnOk r (new ≡ middle ++ behind) → OnOk r (new ≡ old ++ (first ++ behind))
piece_then (Ok u) old first behind middle new e h = h ∙ ap (λ l. l ++ behind) e ∙ append_assoc old first behind
piece_then (Err x) old first behind middle new e h = tt
