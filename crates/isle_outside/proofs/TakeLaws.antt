-- What a sink took in two steps.
use Rattle.std.proofs.Common.{ℕ, ◌+◌, ◌-◌, List, ◌++◌, length, take, drop, Option, Some, None, ap, ◌∙◌, append_assoc}
use Rattle.std.proofs.Math.Seq.{take-add}
use Rattle.std.proofs.lemmas.List.{take_rest}
use Rattle.std.specs.Option.{option_map}
use Rattle.isle_outside.specs.Sinks.{Took}

took_both : (a b c : Option (List ℕ)) (i n : ℕ) (xs : List ℕ) → Took a b (take i xs) → Took b c (take n (drop i xs)) → Took a c (take (i + n) xs)
took_both None b c i n xs first second = second ∙ ap (option_map (λ had. had ++ take n (drop i xs))) first
took_both (Some had) b c i n xs first second = rw take-add (second ∙ ap (option_map (λ had. had ++ take n (drop i xs))) first ∙ ap Some (append_assoc had (take i xs) (take n (drop i xs))))

-- if the second part is of what the code hands on from i
pub took_next : (a b c : Option (List ℕ)) (i n : ℕ) (xs : List ℕ) → Took a b (take i xs) → Took b c (take n (take (length xs - i) (drop i xs))) → Took a c (take (i + n) xs)
took_next a b c i n xs first second = took_both a b c i n xs first (rw take_rest at second)
