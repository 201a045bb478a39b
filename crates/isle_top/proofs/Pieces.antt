-- What a sink took, piece by piece.
use Rattle.std.proofs.Common.{◌≡◌, ℕ, ◌+◌, List, ◌++◌, length, take, drop, map, Option, Some, None, Result, Ok, Err, sym, ap, ◌∙◌, subst, append_assoc, length-append, arith}
use Rattle.std.specs.Prelude.{OnOk, OnErr}
use Rattle.std.specs.Option.{option_map}
use Rattle.std.proofs.lemmas.List.{take-append-le, take-append-drop, map-append}
use Rattle.std.proofs.Math.Seq.{take-add, take-append-add}
use Rattle.isle_outside.specs.Sinks.{Took, TookPart}

-- two pieces, one after the other
pub took_both : (a b c : Option (List ℕ)) (xs ys : List ℕ) → Took a b xs → Took b c ys → Took a c (xs ++ ys)
took_both None b c xs ys h k = k ∙ ap (option_map (λ had. had ++ ys)) h
took_both (Some had) b c xs ys h k = k ∙ ap (option_map (λ had. had ++ ys)) h ∙ ap Some (append_assoc had xs ys)

-- a piece, and a front of the next
pub took_front : (a b c : Option (List ℕ)) (xs ys : List ℕ) → Took a b xs → TookPart b c ys → TookPart a c (xs ++ ys)
took_front a b c xs ys h k = (length xs + k.0, omega (arith, k.1, length-append xs ys), rw (take-append-add xs ys k.0) (took_both a b c xs (take k.0 ys) h k.2))

-- a front of the first of two pieces
pub took_less : (a b : Option (List ℕ)) (xs ys : List ℕ) → TookPart a b xs → TookPart a b (xs ++ ys)
took_less a b xs ys h = (h.0, omega (arith, h.1, length-append xs ys), rw (take-append-le h.0 xs ys (omega (arith, h.1))) h.2)

-- the same if the second piece may fail
pub both_ok : {T E : Type 0} (r : Result T E) (a b c : Option (List ℕ)) (xs ys : List ℕ) → Took a b xs → OnOk r (Took b c ys) → OnOk r (Took a c (xs ++ ys))
both_ok (Ok t) a b c xs ys h k = took_both a b c xs ys h k
both_ok (Err e) a b c xs ys h k = tt

pub both_part : {T E : Type 0} (r : Result T E) (a b c : Option (List ℕ)) (xs ys : List ℕ) → Took a b xs → OnErr r (TookPart b c ys) → OnErr r (TookPart a c (xs ++ ys))
both_part (Ok t) a b c xs ys h k = tt
both_part (Err e) a b c xs ys h k = took_front a b c xs ys h k

-- the images of a front of a list, and those of the next run, are the images of a longer front
runs_join : (f : ℕ → ℕ) (xs : List ℕ) (i : ℕ) (piece : List ℕ) → map f (take (length piece) (drop i xs)) ≡ piece
    → map f (take i xs) ++ piece ≡ map f (take (i + length piece) xs)
runs_join f xs i piece h =
    ap (λ ys. map f (take i xs) ++ ys) (sym h)
    ∙ sym (map-append f (take i xs) (take (length piece) (drop i xs)))
    ∙ ap (map f) (sym (take-add i (length piece) xs))

-- a sink that took a front of a list's images and then the next run
pub took_run : (f : ℕ → ℕ) (xs : List ℕ) (i : ℕ) (a b c : Option (List ℕ)) (piece : List ℕ) → map f (take (length piece) (drop i xs)) ≡ piece
    → Took a b (map f (take i xs)) → Took b c piece → Took a c (map f (take (i + length piece) xs))
took_run f xs i a b c piece h taken more = subst (Took a c) (runs_join f xs i piece h) (took_both a b c (map f (take i xs)) piece taken more)

-- a sink that took a front of a list's images and then a part of the next run
pub took_until : (f : ℕ → ℕ) (xs : List ℕ) (i : ℕ) (a b c : Option (List ℕ)) (piece : List ℕ) → map f (take (length piece) (drop i xs)) ≡ piece
    → Took a b (map f (take i xs)) → TookPart b c piece → TookPart a c (map f xs)
took_until f xs i a b c piece h taken part =
    let n = i + length piece in
    let front : TookPart a c (map f (take n xs)) = subst (TookPart a c) (runs_join f xs i piece h) (took_front a b c (map f (take i xs)) piece taken part) in
    subst (TookPart a c) (sym (map-append f (take n xs) (drop n xs)) ∙ ap (map f) (take-append-drop n xs)) (took_less a c (map f (take n xs)) (map f (drop n xs)) front)
