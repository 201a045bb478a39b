-- Terms of an assembler's rules as words.
use Rattle.std.proofs.Common.{ℕ, List, ◌++◌, refl, arith, codes}
use Rattle.isle_meta.proofs.NameWords.{IsTerm, term_from}
use Rattle.isle_writing.specs.Writable.{IsPlain}
use Rattle.isle_writing.proofs.Names.{word_joined}

-- the term of an instruction
pub x64_term : (w : List ℕ) → IsPlain w → IsTerm (codes "x64_" ++ w)
x64_term w h = term_from (codes "x64_" ++ w) (word_joined (codes "x64_") w (omega arith, refl) h) refl refl

-- the term that asks for a feature
pub feature_term : (w : List ℕ) → IsPlain w → IsTerm (codes "has_" ++ w)
feature_term w h = term_from (codes "has_" ++ w) (word_joined (codes "has_") w (omega arith, refl) h) refl refl
