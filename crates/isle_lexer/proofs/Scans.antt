-- What a byte more does to what was begun, and to the tokens.
use Rattle.std.proofs.Common.{◌≡◌, ℕ, ◌+◌, ◌<◌, ◌≤◌, List, [], ◌∷◌, ◌++◌, length, take, get_or, ap, ◌∙◌, arith}
use Rattle.std.specs.Prelude.{fold}
use Rattle.std.proofs.lemmas.List.Sums.{fold_more}
use Rattle.std.proofs.lemmas.List.{length-take-le}
use Rattle.isle_lexer.specs.Token.{Between, Scan, scan, step, next, ended}

at_fold : (bs : List ℕ) (s : Scan) → (fold step s bs).at ≡ s.at + length bs
unfolding step
at_fold [] s = omega arith
at_fold (b ∷ bs) s = omega (arith, at_fold bs (step s b))

-- every byte was counted
pub scan-at : (text : List ℕ) → (scan text).at ≡ length text
scan-at text = omega (arith, at_fold text (record { tokens = []; state = Between; at = 0 }))

at_take : (text : List ℕ) (i : ℕ) → i ≤ length text → (scan (take i text)).at ≡ i
at_take text i h = scan-at (take i text) ∙ length-take-le i text h

more : (text : List ℕ) (i : ℕ) → i < length text → scan (take (i + 1) text) ≡ step (scan (take i text)) (get_or text i 0)
more text i h = fold_more step _ text i 0 h

-- what was begun after one byte more
pub state-more : (text : List ℕ) (i : ℕ) → i < length text → (scan (take (i + 1) text)).state ≡ next (scan (take i text)).state i (get_or text i 0)
unfolding step
state-more text i h =
    ap (λ (s : Scan). s.state) (more text i h) ∙ ap (λ n. next (scan (take i text)).state n (get_or text i 0)) (at_take text i (omega arith))

-- the tokens after one byte more
pub tokens-more : (text : List ℕ) (i : ℕ) → i < length text → (scan (take (i + 1) text)).tokens ≡ (scan (take i text)).tokens ++ ended (scan (take i text)).state i (get_or text i 0)
unfolding step
tokens-more text i h =
    ap (λ (s : Scan). s.tokens) (more text i h) ∙ ap (λ n. (scan (take i text)).tokens ++ ended (scan (take i text)).state n (get_or text i 0)) (at_take text i (omega arith))
