-- Steps of loops that append pieces.
use Rattle.std.proofs.Common.{◌≡◌, ℕ, ◌+◌, ◌<◌, List, ◌∷◌, ◌++◌, length, get_or, drop, sym, ap, ◌∙◌, append_assoc, codes}
use Rattle.std.proofs.lemmas.List.{drop_more}
use Rattle.isle_meta.specs.declared.clif.ClifOperand.{ClifOperand}
use Rattle.isle_prelude.specs.InstructionParts.{operand_types}
use Rattle.isle_prelude.specs.Operands.{operand_type}
use Rattle.isle_writing.specs.Text.{spaced}

-- three pieces, one after the other
pub after_two : (old first second a b c : List ℕ) → first ≡ old ++ a → second ≡ first ++ b → second ++ c ≡ old ++ (a ++ (b ++ c))
after_two old first second a b c e more =
    ap (λ z. z ++ c) more ∙ append_assoc first b c ∙ ap (λ z. z ++ (b ++ c)) e ∙ append_assoc old a (b ++ c)

-- the type of an operand, and those that are left
pub types_next : (os : List ClifOperand) (i : ℕ) (o : ClifOperand) (before ty old new whole : List ℕ) → i < length os → o ≡ get_or os i o → ty ≡ operand_type o.class
    → old ++ spaced before (operand_types (drop i os)) ≡ whole → new ≡ old ++ (before ++ ty)
    → new ++ spaced (codes " ") (operand_types (drop (i + 1) os)) ≡ whole
types_next os i o before ty old new whole lt is typed so e =
    let rest : List ℕ = spaced (codes " ") (operand_types (drop (i + 1) os)) in
    ap (λ z. z ++ rest) e
    ∙ append_assoc old (before ++ ty) rest
    ∙ ap (λ z. old ++ z) (append_assoc before ty rest)
    ∙ ap (λ z. old ++ (before ++ (z ++ rest))) typed
    ∙ ap (λ (z : ClifOperand). old ++ spaced before (operand_types (z ∷ drop (i + 1) os))) is
    ∙ ap (λ z. old ++ spaced before (operand_types z)) (sym (drop_more os i o lt))
    ∙ so
