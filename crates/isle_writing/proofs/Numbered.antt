-- The text of definitions for numbers in a row, by what is left of them.
use Rattle.std.proofs.Common.{◌≡◌, ℕ, suc, ◌+◌, ◌-◌, ◌<◌, ◌≤◌, List, ◌++◌, append-nil, flat_map, sym, ap, ◌∙◌, append_assoc, arith}
use Rattle.std.specs.List.{range_with_len}
use Rattle.isle_ast.specs.Tree.{Def}
use Rattle.isle_writing.specs.Text.{def_texts}
use Rattle.isle_writing.proofs.WrittenLaw.{texts_joined}

-- the definitions for the numbers from one on and below another
abbrev pub from_on : (ℕ → List Def) → (from end : ℕ) → List Def
from_on f from end = flat_map f (range_with_len from (end - from))

from_more : (f : ℕ → List Def) (from end : ℕ) → from < end → from_on f from end ≡ f from ++ from_on f (from + 1) end
from_more f from end l =
    let one : end - from ≡ suc (end - (from + 1)) = omega (arith, l) in
    ap (λ k. flat_map f (range_with_len from k)) one

-- those of the next number are appended
pub numbered_next : (f : ℕ → List Def) (from end : ℕ) (old new whole : List ℕ) → from < end → old ++ def_texts (from_on f from end) ≡ whole → new ≡ old ++ def_texts (f from)
    → new ++ def_texts (from_on f (from + 1) end) ≡ whole
numbered_next f from end old new whole l e is =
    let rest : List ℕ = def_texts (from_on f (from + 1) end) in
    ap (λ z. z ++ rest) is
    ∙ append_assoc old (def_texts (f from)) rest
    ∙ ap (λ z. old ++ z) (sym (texts_joined (f from) (from_on f (from + 1) end)))
    ∙ ap (λ ds. old ++ def_texts ds) (sym (from_more f from end l))
    ∙ e

-- none is left
pub numbered_done : (f : ℕ → List Def) (from end : ℕ) (old whole : List ℕ) → end ≤ from → old ++ def_texts (from_on f from end) ≡ whole → old ≡ whole
numbered_done f from end old whole l e =
    let none : end - from ≡ 0 = omega (arith, l) in
    sym (append-nil old) ∙ ap (λ k. old ++ def_texts (flat_map f (range_with_len from k))) (sym none) ∙ e
