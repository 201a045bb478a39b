-- Names with blanks between them, one after the other.
use Rattle.std.proofs.Common.{◌≡◌, ℕ, ◌+◌, ◌<◌, List, ◌++◌, length, drop, get_or, sym, ap, ◌∙◌, append_assoc, codes}
use Rattle.std.proofs.lemmas.List.{drop_more}
use Rattle.isle_writing.specs.Text.{spaced}

pub spaced_next : (names : List (List ℕ)) (i : ℕ) (d before name new old whole : List ℕ) → i < length names → name ≡ get_or names i d → old ++ spaced before (drop i names) ≡ whole
    → new ≡ old ++ (before ++ name) → new ++ spaced (codes " ") (drop (i + 1) names) ≡ whole
spaced_next names i d before name new old whole l is so e =
    let rest : List ℕ = spaced (codes " ") (drop (i + 1) names) in
    ap (λ z. z ++ rest) e
    ∙ append_assoc old (before ++ name) rest
    ∙ ap (λ z. old ++ z) (append_assoc before name rest ∙ ap (λ z. before ++ (z ++ rest)) is)
    ∙ ap (λ z. old ++ spaced before z) (sym (drop_more names i d l))
    ∙ so
