-- Items are read exactly, and where their tokens go wrong is told exactly.
use Rattle.std.proofs.Common.{◌≡◌, ℕ, ◌+◌, ◌-◌, ◌≤◌, List, [], ◌∷◌, ◌++◌, length, drop, append-nil, append_assoc, length-append, refl, ap, sym, ◌∙◌, subst, arith, Some}
use Rattle.std.proofs.Math.Seq.{drop-append_seam}
use Rattle.isle_lexer.specs.Lexeme.{Lexeme}
use Rattle.isle_reading.specs.Places.{Starts, first_place}
use Rattle.isle_reading.specs.Reader.{Reading, Got, Stuck, Deep, run}
use Rattle.isle_reading.specs.Relations.{Begun, Ended}
use Rattle.isle_reading.specs.Views.{stops}
use Rattle.isle_reading.proofs.Running.{stuck_not_got, stuck_not_deep, got_is, stuck_here}
use Rattle.isle_reading.proofs.Law as law
use Rattle.isle_reading.proofs.Law.{Hits, hit}
use Rattle.isle_tables.specs.declared.item.Item.{Item}
use Rattle.isle_tables.specs.Grammar.{ItemsS}
use Rattle.isle_tables.specs.Places.{AreItems, GoesWrongAt, wrong, short}
use Rattle.isle_tables.specs.Reading.{read_items}
use Rattle.isle_tables.proofs.ItemLaws.{WholeS, law_items}
use Rattle.isle_tables.proofs.Nesting.{items}

-- what is got is spelt
pub items_got : (n : ℕ) (ts rest : List Lexeme) (is : List Item) → run (read_items n) ts ≡ Got is rest → ItemsS is ts
items_got n ts rest is e = ((law_items n).sound ts rest is e).0.0

-- what is spelt is got
pub items_spelt : (ts : List Lexeme) (is : List Item) → ItemsS is ts → run (read_items (length ts)) ts ≡ Got is []
items_spelt ts is s = by ((law_items (length ts)).complete ts [] is (s, refl) refl)
  where
    by : Hits (run (read_items (length ts)) ts) is [] → run (read_items (length ts)) ts ≡ Got is []
    by (hit e) = e
    by (law.too_deep rest e) = absurd ((items (length ts)).never ts rest (omega arith) e)

-- tokens spell one list of items at most
pub items_once : (ts : List Lexeme) (is js : List Item) → ItemsS is ts → ItemsS js ts → is ≡ js
items_once ts is js s t = (got_is [] [] is js (run (read_items (length ts)) ts) (items_spelt ts is s) (items_spelt ts js t)).1

-- ---- where reading stops

starts : (front : List Lexeme) (ts rest : List Lexeme) (x : Begun Ended WholeS ts rest) → Starts AreItems x.0
starts front ts rest (f, e, (others, is, w)) = (others, (is, subst (λ z. ItemsS is z) (append-nil (f ++ others)) (w [] refl).0))

-- nothing that goes on with the token is spelt
stuck_wrong : (n : ℕ) (front behind : List Lexeme) (t : Lexeme) → run (read_items n) (front ++ t ∷ behind) ≡ Stuck (t ∷ behind) → Starts AreItems (front ++ t ∷ []) → ⊥
stuck_wrong n front behind t e (others, (is, s)) =
    by ((law_items n).complete (front ++ t ∷ others) [] is (subst (λ z. ItemsS is z) (append_assoc front (t ∷ []) others) s, refl) refl) (stuck_here (read_items n) front behind others t e)
  where
    by : Hits (run (read_items n) (front ++ t ∷ others)) is [] → run (read_items n) (front ++ t ∷ others) ≡ Stuck (t ∷ others) → ⊥
    by (hit g) f = stuck_not_got _ (t ∷ others) [] is f g
    by (law.too_deep q g) f = stuck_not_deep _ (t ∷ others) q f g

-- a token is missing
stuck_short : (n : ℕ) (ts : List Lexeme) → run (read_items n) ts ≡ Stuck [] → AreItems ts → ⊥
stuck_short n ts e (is, s) = by ((law_items n).complete ts [] is (s, refl) refl)
  where
    by : Hits (run (read_items n) ts) is [] → ⊥
    by (hit g) = stuck_not_got _ [] [] is e g
    by (law.too_deep q g) = stuck_not_deep _ [] q e g

stuck_at : (n : ℕ) (ts front rest : List Lexeme) (end : ℕ) → ts ≡ front ++ rest → Starts AreItems front → run (read_items n) ts ≡ Stuck rest → GoesWrongAt ts end (first_place rest end)
stuck_at n ts front [] end e s f = let whole : front ≡ ts = sym (e ∙ append-nil front) in short (subst (Starts AreItems) whole s) (stuck_short n ts f)
stuck_at n ts front (t ∷ behind) end e s f = wrong front behind t e s (stuck_wrong n front behind t (subst (λ z. run (read_items n) z ≡ Stuck (t ∷ behind)) e f))

-- the tokens that are left
left_is : (ts front rest : List Lexeme) → ts ≡ front ++ rest → drop (length ts - length rest) ts ≡ rest
left_is ts front rest e =
    let a : length ts ≡ length (front ++ rest) = ap length e in
    let b : length (front ++ rest) ≡ length front + length rest = length-append front rest in
    let c : length ts - length rest ≡ length front = omega (arith, a, b) in
    ap (λ k. drop k ts) c ∙ ap (λ z. drop (length front) z) e ∙ drop-append_seam front rest

-- where reading stops is the place where tokens go wrong
pub items_stop : (n left end : ℕ) (ts : List Lexeme) → length ts ≤ n → stops (run (read_items n) ts) ≡ Some left → GoesWrongAt ts end (first_place (drop (length ts - left) ts) end)
items_stop n left end ts l e = by (run (read_items n) ts) refl e
  where
    by : (o : Reading (List Item)) → run (read_items n) ts ≡ o → stops o ≡ Some left → GoesWrongAt ts end (first_place (drop (length ts - left) ts) end)
    by (Got is rest) f g = cc
    by (Stuck rest) f g =
        let x = (law_items n).closes ts rest f in
        let k : length rest ≡ left = cc (g) in
        subst (λ z. GoesWrongAt ts end (first_place z end)) (sym (left_is ts x.0 rest x.1) ∙ ap (λ j. drop (length ts - j) ts) k) (stuck_at n ts x.0 rest end x.1 (starts x.0 ts rest x) f)
    by (Deep rest) f g = absurd ((items n).never ts rest l f)

-- ---- one place at most

-- what is spelt does not go wrong
pub wrong_unspelt : (ts : List Lexeme) (end at : ℕ) → GoesWrongAt ts end at → AreItems ts → ⊥
wrong_unspelt ts end _ (wrong front behind t e s w) (is, k) = w (behind, (is, subst (λ z. ItemsS is z) (e ∙ sym (append_assoc front (t ∷ []) behind)) k))
wrong_unspelt ts end _ (short s w) k = w k
