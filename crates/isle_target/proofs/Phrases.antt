-- Tokens are found where they stand.
use Rattle.std.proofs.Common.{◌≡◌, ◌++◌, List, [], ◌∷◌, Bool, true, false, Some, refl}
use Rattle.std.specs.List.{list_all}
use Rattle.std.proofs.lemmas.Bool.{and_parts}
use Rattle.isle_printer.specs.Token.{Token, Word, Mark, Quoted, Stray, Comment}
use Rattle.isle_printer.proofs.Bytes.{same_bytes_refl}
use Rattle.isle_target.specs.Tokens.{same_token, phrase}

-- whether a token is none of those that no program has
abbrev pub is_whole : Token → Bool
is_whole (Word w) = true
is_whole (Mark m) = true
is_whole (Quoted s) = true
is_whole Stray = false
is_whole Comment = false

same_token_refl : (t : Token) → is_whole t ≡ true → same_token t t ≡ true
same_token_refl (Word w) h = same_bytes_refl w
same_token_refl (Mark m) h = same_bytes_refl m
same_token_refl (Quoted s) h = same_bytes_refl s
same_token_refl Stray h = absurd cc
same_token_refl Comment h = absurd cc

-- tokens are found where they stand
pub phrase_again : (ps ts : List Token) → list_all is_whole ps ≡ true → phrase ps (ps ++ ts) ≡ Some ts
phrase_again [] ts h = refl
phrase_again (p ∷ ps) ts h =
    let parts = and_parts (is_whole p) _ h in
    rw (same_token_refl p parts.0) (phrase_again ps ts parts.1)
