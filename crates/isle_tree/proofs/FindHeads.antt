-- The head of a term's function is that of the function itself.
use Rattle.std.proofs.Common.{◌≡◌, ℕ, List, [], ◌∷◌, map, Bool, true, false, cond, Option, Some, None, refl, sym, ap, ◌∙◌}
use Rattle.std.specs.Prelude.{option_map, if◌then◌else◌}
use Rattle.std.specs.Str.{bytes_eq}
use denote.Ref.{Bor}
use Rattle.isle_printer.specs.Bytes.{same_bytes}
use Rattle.isle_printer.proofs.Bytes.{same_is}
use Rattle.isle_tree.specs.declared.tree.Function.{Function as CodeFunction}
use Rattle.isle_tree.specs.Program.{Function}
use Rattle.isle_tree.specs.Run.{function_of}
use Rattle.isle_tree.specs.Views.{function}
use Rattle.isle_tree.specs.WellFormed.{function_head, head_of}

-- the first function of a term has the first head of it
pub first_head : (term : List ℕ) (fs : List Function) → option_map function_head (function_of term fs) ≡ head_of (map function_head fs) term
first_head term [] = refl
first_head term (f ∷ fs) = by (same_bytes term f.term) (bytes_eq term f.term) (sym (same_is term f.term)) (first_head term fs)
  where
    by : (b c : Bool) → b ≡ c → option_map function_head (function_of term fs) ≡ head_of (map function_head fs) term
        → option_map function_head (if b then Some f else function_of term fs) ≡ cond c (Some (function_head f)) (head_of (map function_head fs) term)
    by true true e h = refl
    by false false e h = h
    by true false e h = absurd cc
    by false true e h = absurd cc

-- so of the function that is found
pub head_found : (term : List ℕ) (fns : List CodeFunction) (found : Option (Bor CodeFunction)) → option_map (λ (f : Bor CodeFunction). function f.now) found ≡ function_of term (map function fns)
    → option_map (λ (f : Bor CodeFunction). function_head (function f.now)) found ≡ head_of (map function_head (map function fns)) term
head_found term fns found is = both found ∙ ap (option_map function_head) is ∙ first_head term (map function fns)
  where
    both : (o : Option (Bor CodeFunction)) → option_map (λ (f : Bor CodeFunction). function_head (function f.now)) o ≡ option_map function_head (option_map (λ (f : Bor CodeFunction). function f.now) o)
    both None = refl
    both (Some f) = refl
