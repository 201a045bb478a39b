-- Comments to the end of their line, by the first line feed.
use Rattle.std.proofs.Common.{◌≡◌, ℕ, ◌+◌, ◌-◌, ◌<◌, ◌≤◌, List, length, take, drop, get_or, Bool, true, false, refl, ap, ◌∙◌, subst, arith}
use Rattle.std.specs.Prelude.{◌==◌}
use Rattle.std.proofs.lemmas.List.{get_or-take, get_or-drop, length-take-le, length-drop}
use Rattle.memchr.specs.Find.{Passes, NoneBefore, Nowhere, is_byte}
use Rattle.isle_lexer.specs.Token.{Between, InLine, coming}
use Rattle.isle_lexer.proofs.Coming.{line_ends, line_last}

-- a test that doesn't pass
fails : (b : Bool) → (b ≡ true → ⊥) → b ≡ false
fails true h = absurd (h refl)
fails false h = refl

module _ (text : List ℕ) (at : ℕ) (l : at ≤ length text) where
  -- the bytes from the place on
  abbrev rest : List ℕ
  rest = take (length text - at) (drop at text)

  rest-length : length rest ≡ length text - at
  rest-length = let x : length (drop at text) ≡ length text - at = length-drop at text in length-take-le (length text - at) (drop at text) (omega (arith, x))

  rest-byte : (k : ℕ) → k < length text - at → get_or rest k 0 ≡ get_or text (at + k) 0
  rest-byte k h = get_or-take (length text - at) (drop at text) k 0 h ∙ get_or-drop at text k 0

  -- no line feed stands before this one
  none : (n : ℕ) → n ≤ length text - at → Nowhere (Passes (is_byte 10) rest) 0 n → (k : ℕ) → at ≤ k → k < at + n → (get_or text k 0 == 10) ≡ false
  none n m h k a b =
      let i : ℕ = k - at in
      let same : at + i ≡ k = omega (arith, a) in
      let byte : get_or rest i 0 ≡ get_or text k 0 = rest-byte i (omega (arith, a, b, m)) ∙ ap (λ j. get_or text j 0) same in
      subst (λ (x : ℕ). (x == 10) ≡ false) byte (fails (get_or rest i 0 == 10) (h i (omega arith) (omega (arith, a, b))))

  pub line_behind : (feed : ℕ) → NoneBefore (Passes (is_byte 10) rest) 0 (length rest) feed × Passes (is_byte 10) rest feed → coming text InLine at ≡ coming text Between (at + feed + 1)
  line_behind feed h =
      let high : feed < length text - at = omega (arith, h.0.high, rest-length) in
      line_ends text at feed (omega (arith, high, l)) (none feed (omega (arith, high)) h.0.before) (subst (λ (x : ℕ). (x == 10) ≡ true) (rest-byte feed high) h.1)

  pub line_to_end : Nowhere (Passes (is_byte 10) rest) 0 (length rest) → coming text InLine at ≡ coming text Between (length text)
  line_to_end h = line_last text at l (λ k a b. none (length text - at) (omega arith) (subst (Nowhere (Passes (is_byte 10) rest) 0) rest-length h) k a (omega (arith, a, b)))
