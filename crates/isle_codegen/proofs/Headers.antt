-- The header comment, line by line, and what it leaves to read.
use Rattle.std.proofs.Common.{◌≡◌, ℕ, ◌+◌, ◌<◌, List, [], ◌∷◌, ◌++◌, length, take, map, get_or, refl, sym, ap, ◌∙◌, append_assoc, subst, true}
use Rattle.std.proofs.lemmas.List.{take_more, map-append}
use Rattle.std.proofs.lemmas.Bool.{and_parts, and_from, ne_eqb}
use Rattle.isle_printer.specs.Comment.{comment_lines, is_line, are_lines}
use Rattle.isle_printer.specs.Token.{tokens_of, without_comments}
use Rattle.isle_printer.proofs.Comments.{comment_lines-append, are_lines-append, tokens-comment_lines}
use Rattle.isle_tree.specs.Program.{Program}
use Rattle.isle_target.specs.Reading.{program_of, read_program, SpellsOnly}
use Rattle.isle_lawful_names.specs.Words.{is_name_byte, is_file_name}
use Rattle.isle_codegen.specs.Names.{are_file_names}
use Rattle.isle_codegen.specs.Header.{first_lines, file_line, header_lines, header}

-- the line of one file more
pub header_more : (names : List (List ℕ)) (i : ℕ) (name text : List ℕ) → i < length names → name ≡ get_or names i name → text ≡ comment_lines (first_lines ++ map file_line (take i names))
    → text ++ comment_lines (file_line name ∷ []) ≡ comment_lines (first_lines ++ map file_line (take (i + 1) names))
header_more names i name text lt is h =
    let all : take (i + 1) names ≡ take i names ++ name ∷ [] = take_more names i name lt ∙ ap (λ y. take i names ++ y ∷ []) (sym is) in
    let each : map file_line (take (i + 1) names) ≡ map file_line (take i names) ++ file_line name ∷ [] = ap (map file_line) all ∙ map-append file_line (take i names) (name ∷ []) in
    ap (λ x. x ++ comment_lines (file_line name ∷ [])) h
    ∙ sym (comment_lines-append (first_lines ++ map file_line (take i names)) (file_line name ∷ []))
    ∙ ap comment_lines (append_assoc first_lines (map file_line (take i names)) (file_line name ∷ []))
    ∙ ap (λ ls. comment_lines (first_lines ++ ls)) (sym each)

name_line : (name : List ℕ) → is_file_name name ≡ true → is_line name ≡ true
name_line [] h = refl
name_line (b ∷ name) h =
    let p = and_parts (is_name_byte b) _ h in
    rw (ne_eqb b 10 (λ e. not_feed b e p.0)) (name_line name p.1)
  where
    not_feed : (b : ℕ) → b ≡ 10 → is_name_byte b ≡ true → ⊥
    not_feed b e h = let k : is_name_byte 10 ≡ true = subst (λ x. is_name_byte x ≡ true) e h in cc

name_lines : (names : List (List ℕ)) → are_file_names names ≡ true → are_lines (map file_line names) ≡ true
name_lines [] h = refl
name_lines (name ∷ names) h =
    let p = and_parts (is_file_name name) _ h in
    and_from _ _ (name_line name p.0) (name_lines names p.1)

-- the header leaves what is read of what stands after it
tokens_header : (names : List (List ℕ)) (rest : List ℕ) → are_file_names names ≡ true → without_comments (tokens_of (header names ++ rest)) ≡ without_comments (tokens_of rest)
tokens_header names rest h = tokens-comment_lines (header_lines names) rest (are_lines-append first_lines (map file_line names) refl (name_lines names h))

-- a header before a text changes nothing of what the text spells
pub spells_behind : (names : List (List ℕ)) (print text : List ℕ) (p : Program) → are_file_names names ≡ true → text ≡ header names ++ print → SpellsOnly print p → SpellsOnly text p
spells_behind names print text p h e only =
    let same : program_of text ≡ program_of print = ap program_of e ∙ ap read_program (tokens_header names print h) in
    record {
      spells = record { reads = same ∙ only.spells.reads; well_formed = only.spells.well_formed };
      only = λ q s. only.only q (record { reads = sym same ∙ s.reads; well_formed = s.well_formed });
    }
