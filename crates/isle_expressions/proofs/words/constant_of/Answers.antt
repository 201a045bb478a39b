use Rattle.std.proofs.Common.{◌≡◌, ◌≢◌, ℕ, List, ◌∷◌, Option, Some, None, refl, ap, sym, arith}
use Rattle.std.specs.Prelude.{option_map, MatchOption}
use Rattle.std.proofs.lemmas.Str.Pattern.{strip_prefix_char}
use Rattle.isle_lexer.specs.Word.{kind}
use Rattle.isle_grammar.specs.Reading.{constant_of}
use Rattle.isle_expressions.proofs.Constants.{dollar_kind, other_kind}
use Rattle.isle_expressions.proofs.words.constant_of.Goals as goal
use denote.Ref.{Bor}

named : (w : List ℕ) (r : Option (Bor (List ℕ))) → MatchOption r ((rest : List ℕ) → w ≢ 36 ∷ rest) (λ x. w ≡ 36 ∷ x.now) → option_map (λ x. x.now) r ≡ constant_of (kind w)
named w None h = sym (other_kind w h)
named w (Some x) h = sym (dollar_kind w x.now h)

pub returns : goal.returns
returns c = named c.args.word.now c.strip_prefix.result (strip_prefix_char 36 c.args.word.now c.strip_prefix.result c.strip_prefix.ensures.cases (omega arith))
