-- Each input was asked for once.
use Rattle.std.proofs.Common.{◌≡◌, ◌⊎◌, inl, ℕ, ◌+◌, ◌-◌, ◌^◌, List, [], ◌∷◌, ◌++◌, length, append-nil, Option, Some, None, Result, Ok, Err, refl, sym, ap, ◌∙◌, subst, arith}
use Rattle.std.specs.Prelude.{IfOk, String}
use Rattle.std.specs.String.{string_bytes}
use Rattle.std.specs.declared.alloc.Global.{Global}
use Rattle.std.proofs.lemmas.List.{length-map}
use Rattle.isle_outside.specs.Directory.{Counts}
use Rattle.isle_core.specs.Inputs.{bytes_each, IsTried}
use Rattle.isle_core.proofs.InputLaws.{tries_more}
use Rattle.isle_codegen.specs.Causes.{AllTried}
use Rattle.isle_top.specs.Inputs.{LooksUp}
use Rattle.isle_top.specs.RunLine.{answers_names}

-- if there is none
pub none_tried : (c : Counts) → AllTried [] c c
none_tried c = (inl (omega arith), refl)

one_behind : (names : List (List ℕ)) (name : List ℕ) → length (names ++ name ∷ []) ≡ length names + 1
one_behind [] name = refl
one_behind (n ∷ names) name = let more = one_behind names name in omega (arith, more)

-- the files of a source, and then the answers, if there are any
pub inputs_tried : (names : List (List ℕ)) (answers : Option (List ℕ)) (a b c : Counts) → AllTried names a b → LooksUp answers b c → c.faults ≡ b.faults → AllTried (names ++ answers_names answers) a c
inputs_tried names None a b c tried looks steady =
    subst (λ ns. AllTried ns a c) (sym (append-nil names)) (subst (λ n. (n ≡ a.finds + length names) ⊎ (n ≡ 2 ^ 64 - 1)) (sym looks) tried.0, steady ∙ tried.1)
inputs_tried names (Some file) a b c tried looks steady =
    (subst (λ n. IsTried n a c) (sym (one_behind names file)) (tries_more (length names) a.finds b.finds c.finds tried.0 looks), steady ∙ tried.1)

-- the files that are compiled
pub files_tried : {T E : Type 0} (r : Result T E) (inputs : List (String Global)) (names : List (List ℕ)) (a b : Counts) → bytes_each inputs ≡ names → IfOk r (λ t. IsTried (length inputs) a b) → IfOk r (λ t. b.faults ≡ a.faults)
    → IfOk r (λ t. AllTried names a b)
files_tried (Ok t) inputs names a b is tried steady = (subst (λ n. IsTried n a b) (sym (length-map inputs string_bytes) ∙ ap length is) tried, steady)
files_tried (Err e) inputs names a b is tried steady = tt
