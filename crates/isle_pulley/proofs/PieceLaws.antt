-- Steps of loops that append pieces.
use Rattle.std.proofs.Common.{◌≡◌, ℕ, ◌+◌, ◌<◌, List, ◌∷◌, ◌++◌, length, get_or, drop, Bool, false, refl, sym, ap, ◌∙◌, append_assoc, codes}
use Rattle.std.proofs.lemmas.List.{drop_more}
use denote.Ref.{Bor}
use Rattle.isle_meta.specs.TableNames.{texts}
use Rattle.isle_writing.specs.Text.{spaced}
use Rattle.isle_pulley_rows.specs.declared.operand.Operand.{Operand}
use Rattle.isle_pulley_rows.specs.declared.operand.Operand.TheVariants.{Normal, Writable, Binop, Trap}
use Rattle.isle_pulley.specs.Display.{format_text, format_texts}
use Rattle.isle_pulley.specs.Pieces.{name_behind, operand_piece, operands_piece}

-- operands in an instruction: the first one, and the others with the name of what is written next
piece_first : (next last : List ℕ) (o : Operand) (os : List Operand)
    → operands_piece next last (o ∷ os) ≡ operand_piece next o ++ operands_piece (name_behind o next last) last os
piece_first next last (Normal x t) os = refl
piece_first next last (Writable x t) os = refl
piece_first next last (Binop a b c) os = ap (λ z. codes " " ++ z) (sym (append_assoc next (codes " src1 src2") (operands_piece last last os)))
piece_first next last Trap os = refl

pub operands_next : (os : List Operand) (i : ℕ) (o : Operand) (next behind last old new whole : List ℕ) → i < length os → o ≡ get_or os i o
    → old ++ operands_piece next last (drop i os) ≡ whole → new ≡ old ++ operand_piece next o → behind ≡ name_behind o next last
    → new ++ operands_piece behind last (drop (i + 1) os) ≡ whole
operands_next os i o next behind last old new whole lt is so e b =
    ap (λ z. z ++ operands_piece behind last (drop (i + 1) os)) e
    ∙ append_assoc old (operand_piece next o) (operands_piece behind last (drop (i + 1) os))
    ∙ ap (λ z. old ++ (operand_piece next o ++ operands_piece z last (drop (i + 1) os))) b
    ∙ ap (λ z. old ++ z) (sym (piece_first next last o (drop (i + 1) os)))
    ∙ ap (λ z. old ++ operands_piece next last (z ∷ drop (i + 1) os)) is
    ∙ ap (λ z. old ++ operands_piece next last z) (sym (drop_more os i o lt))
    ∙ so

pub formats_next : (os : List Operand) (i : ℕ) (o : Operand) (is_first : Bool) (old new whole : List ℕ) → i < length os → o ≡ get_or os i o
    → old ++ format_texts is_first (drop i os) ≡ whole → new ≡ old ++ format_text is_first o
    → new ++ format_texts false (drop (i + 1) os) ≡ whole
formats_next os i o is_first old new whole lt is so e =
    ap (λ z. z ++ format_texts false (drop (i + 1) os)) e
    ∙ append_assoc old (format_text is_first o) (format_texts false (drop (i + 1) os))
    ∙ ap (λ z. old ++ format_texts is_first (z ∷ drop (i + 1) os)) is
    ∙ ap (λ z. old ++ format_texts is_first z) (sym (drop_more os i o lt))
    ∙ so

-- a type, and those that are left
pub types_next : (types : List (Bor (List ℕ))) (i : ℕ) (d : Bor (List ℕ)) (before old new whole : List ℕ) → i < length types
    → old ++ spaced before (texts (drop i types)) ≡ whole → new ≡ old ++ (before ++ (get_or types i d).now)
    → new ++ spaced (codes " ") (texts (drop (i + 1) types)) ≡ whole
types_next types i d before old new whole lt so e =
    let rest : List ℕ = spaced (codes " ") (texts (drop (i + 1) types)) in
    ap (λ z. z ++ rest) e
    ∙ append_assoc old (before ++ (get_or types i d).now) rest
    ∙ ap (λ z. old ++ z) (append_assoc before (get_or types i d).now rest)
    ∙ ap (λ z. old ++ spaced before (texts z)) (sym (drop_more types i d lt))
    ∙ so
