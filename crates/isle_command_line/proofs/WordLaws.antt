-- What the tests of words say.
use Rattle.std.proofs.Common.{◌≡◌, ℕ, ◌≤◌, suc, ◌+◌, List, [], ◌∷◌, ◌++◌, length, take, drop, Bool, true, false, not, ◌&&◌, Option, Some, None, refl, ap, sym, ◌∙◌, subst, arith}
use Rattle.std.specs.Prelude.{◌==◌, nat_le, if◌then◌else◌, codes}
use Rattle.std.specs.List.{list_all, position_or_len}
use Rattle.std.specs.Str.{bytes_eq}
use Rattle.std.proofs.lemmas.Bool.Decides.{nat_tests}
use Rattle.std.proofs.lemmas.List.{take_at, length-append}
use Rattle.std.proofs.Math.Seq.{drop-append-add}
use Rattle.std.proofs.lemmas.Slice.Eq.{bytes_eq-Decides}
use Rattle.isle_command_line.specs.Words.{is_digit, decimal_value, IsCount, IsSize, IsPrefix}
use Rattle.isle_command_line.specs.Lines.{kind_word}
use Rattle.isle_command_line.specs.Reading.{first, mark, kind_of, count, bounded, size, parts}
use Rattle.isle_command_line.specs.declared.commands.Kind.{Kind}
use Rattle.isle_command_line.specs.declared.commands.Kind.TheVariants as kind
use Rattle.isle_command_line.specs.declared.word.FirstWord.{FirstWord}
use Rattle.isle_command_line.specs.declared.word.FirstWord.TheVariants as first_word
use Rattle.isle_command_line.specs.declared.word.OptionWord.{OptionWord}
use Rattle.isle_command_line.specs.declared.word.OptionWord.TheVariants as marked

-- what holds of both branches
pub on_if : {A : Type 0} (P : A → Type 0) (b : Bool) (x y : A) → (b ≡ true → P x) → P y → P (if b then x else y)
on_if P true x y f k = f refl
on_if P false x y f k = k

pub off_if : {A : Type 0} (P : A → Type 0) (b : Bool) (x y : A) → P x → (b ≡ false → P y) → P (if b then x else y)
off_if P true x y f k = f
off_if P false x y f k = k refl

pub both : (a b : Bool) → (a && b) ≡ true → (a ≡ true) × (b ≡ true)
both true b e = (refl, e)
both false b e = cc

pub same : (w k : List ℕ) → bytes_eq w k ≡ true → w ≡ k
same w k e = (bytes_eq-Decides w k).0 e

-- a first word is this one
abbrev pub IsFirst : FirstWord → List ℕ → Type 0
IsFirst first_word.Help w = w ≡ codes "--help"
IsFirst first_word.Version w = w ≡ codes "--version"
IsFirst first_word.Compile w = w ≡ codes "compile"
IsFirst first_word.Build w = w ≡ codes "build"
IsFirst first_word.Prelude w = w ≡ codes "prelude"
IsFirst first_word.Units w = w ≡ codes "units"
IsFirst first_word.Isa w = w ≡ codes "isa"
IsFirst first_word.Sample w = w ≡ codes "sample"
IsFirst first_word.Run w = w ≡ codes "run"
IsFirst first_word.Other w = Unit {0}

pub first_is : (w : List ℕ) → IsFirst (first w) w
unfolding first
first_is w = on_if (λ f. IsFirst f w) (bytes_eq w (codes "--help")) _ _ (same w (codes "--help"))
    (on_if (λ f. IsFirst f w) (bytes_eq w (codes "--version")) _ _ (same w (codes "--version"))
    (on_if (λ f. IsFirst f w) (bytes_eq w (codes "compile")) _ _ (same w (codes "compile"))
    (on_if (λ f. IsFirst f w) (bytes_eq w (codes "build")) _ _ (same w (codes "build"))
    (on_if (λ f. IsFirst f w) (bytes_eq w (codes "prelude")) _ _ (same w (codes "prelude"))
    (on_if (λ f. IsFirst f w) (bytes_eq w (codes "units")) _ _ (same w (codes "units"))
    (on_if (λ f. IsFirst f w) (bytes_eq w (codes "isa")) _ _ (same w (codes "isa"))
    (on_if (λ f. IsFirst f w) (bytes_eq w (codes "sample")) _ _ (same w (codes "sample"))
    (on_if (λ f. IsFirst f w) (bytes_eq w (codes "run")) _ _ (same w (codes "run"))
    (tt)))))))))

-- a word names this option
abbrev pub IsMarked : OptionWord → List ℕ → Type 0
IsMarked marked.NoAllow w = w ≡ codes "--no-allow"
IsMarked marked.Log w = w ≡ codes "--log"
IsMarked marked.Split w = w ≡ codes "--split"
IsMarked marked.Threshold w = w ≡ codes "--threshold"
IsMarked marked.MaxReturns w = w ≡ codes "--max-returns"
IsMarked marked.Prefix w = w ≡ codes "--prefix"
IsMarked marked.Other w = Unit {0}

pub mark_is : (w : List ℕ) → IsMarked (mark w) w
unfolding mark
mark_is w = on_if (λ f. IsMarked f w) (bytes_eq w (codes "--no-allow")) _ _ (same w (codes "--no-allow"))
    (on_if (λ f. IsMarked f w) (bytes_eq w (codes "--log")) _ _ (same w (codes "--log"))
    (on_if (λ f. IsMarked f w) (bytes_eq w (codes "--split")) _ _ (same w (codes "--split"))
    (on_if (λ f. IsMarked f w) (bytes_eq w (codes "--threshold")) _ _ (same w (codes "--threshold"))
    (on_if (λ f. IsMarked f w) (bytes_eq w (codes "--max-returns")) _ _ (same w (codes "--max-returns"))
    (on_if (λ f. IsMarked f w) (bytes_eq w (codes "--prefix")) _ _ (same w (codes "--prefix"))
    (tt))))))

-- a word names this kind
abbrev pub IsKind : Option Kind → List ℕ → Type 0
IsKind (Some k) w = w ≡ kind_word k
IsKind None w = Unit {0}

pub kind_is : (w : List ℕ) → IsKind (kind_of w) w
unfolding kind_of
kind_is w = on_if (λ f. IsKind f w) (bytes_eq w (codes "numerics")) _ _ (same w (codes "numerics"))
    (on_if (λ f. IsKind f w) (bytes_eq w (codes "numerics-rust")) _ _ (same w (codes "numerics-rust"))
    (on_if (λ f. IsKind f w) (bytes_eq w (codes "clif-opt")) _ _ (same w (codes "clif-opt"))
    (on_if (λ f. IsKind f w) (bytes_eq w (codes "clif-lower")) _ _ (same w (codes "clif-lower"))
    (on_if (λ f. IsKind f w) (bytes_eq w (codes "assembler")) _ _ (same w (codes "assembler"))
    (on_if (λ f. IsKind f w) (bytes_eq w (codes "assembler-rust")) _ _ (same w (codes "assembler-rust"))
    (on_if (λ f. IsKind f w) (bytes_eq w (codes "pulley")) _ _ (same w (codes "pulley"))
    (on_if (λ f. IsKind f w) (bytes_eq w (codes "pulley-rust")) _ _ (same w (codes "pulley-rust"))
    (tt))))))))

pub kind_again : (k : Kind) → kind_of (kind_word k) ≡ Some k
unfolding kind_of
kind_again kind.Numerics = refl
kind_again kind.NumericsRust = refl
kind_again kind.ClifOpt = refl
kind_again kind.ClifLower = refl
kind_again kind.Assembler = refl
kind_again kind.AssemblerRust = refl
kind_again kind.Pulley = refl
kind_again kind.PulleyRust = refl

-- a word spells this number
abbrev pub IsCounted : Option ℕ → List ℕ → Type 0
IsCounted (Some n) w = IsCount w n
IsCounted None w = Unit {0}

pub count_is : (w : List ℕ) → IsCounted (count w) w
unfolding count
count_is w = by (nat_le 1 (length w)) (nat_le (length w) 18) (list_all is_digit w) refl refl refl
  where
    by : (a b d : Bool) → nat_le 1 (length w) ≡ a → nat_le (length w) 18 ≡ b → list_all is_digit w ≡ d → IsCounted (if a && (b && d) then Some (decimal_value w) else None) w
    by true true true e f g = record { some = grind (arith, nat_tests, e); few = grind (arith, nat_tests, f); digits = g; value = refl }
    by true true false e f g = tt
    by true false d e f g = tt
    by false b d e f g = tt

pub count_again : (w : List ℕ) (n : ℕ) → IsCount w n → count w ≡ Some n
unfolding count
count_again w n h =
    let a : nat_le 1 (length w) ≡ true = let some = h.some in grind (arith, nat_tests) in
    let b : nat_le (length w) 18 ≡ true = let few = h.few in grind (arith, nat_tests) in
    λ k. if a k && (b k && h.digits k) then Some (h.value k) else None

-- a word spells this size
abbrev pub IsSized : Option ℕ → List ℕ → Type 0
IsSized (Some n) w = IsSize w n
IsSized None w = Unit {0}

size_by : (w : List ℕ) (r : Option ℕ) → length w ≤ 5 → IsCounted r w → IsSized (bounded r) w
size_by w None few is = tt
size_by w (Some n) few is = by (nat_le 1 n) (nat_le n 10000) refl refl
  where
    by : (a b : Bool) → nat_le 1 n ≡ a → nat_le n 10000 ≡ b → IsSized (if a && b then Some n else None) w
    by true true e f = record { count = is; few = few; some = grind (arith, nat_tests, e); most = grind (arith, nat_tests, f) }
    by true false e f = tt
    by false b e f = tt

pub size_is : (w : List ℕ) → IsSized (size w) w
unfolding size
size_is w = on_if (λ r. IsSized r w) (nat_le (length w) 5) _ _ (λ e. size_by w (count w) (grind (arith, nat_tests, e)) (count_is w)) tt

pub size_again : (w : List ℕ) (n : ℕ) → IsSize w n → size w ≡ Some n
unfolding size
size_again w n h =
    let a : nat_le (length w) 5 ≡ true = let few = h.few in grind (arith, nat_tests) in
    let b : nat_le 1 n ≡ true = let some = h.some in grind (arith, nat_tests) in
    let d : nat_le n 10000 ≡ true = let most = h.most in grind (arith, nat_tests) in
    (λ k. if a k then bounded (count_again w n h.count k) else None) ∙ (λ k. if b k && d k then Some n else None)

-- a word has these parts
abbrev pub IsParted : Option (List ℕ × List ℕ) → List ℕ → Type 0
IsParted (Some p) w = (w ≡ p.0 ++ 61 ∷ p.1) × (list_all (λ b. not (b == 61)) p.0 ≡ true)
IsParted None w = Unit {0}

place : List ℕ → ℕ
place = position_or_len (λ b. b == 61)

divides : (w : List ℕ) (n : ℕ) → place w ≡ n → (n == length w) ≡ false → IsParted (Some (take n w, drop (n + 1) w)) w
unfolding place
divides [] n is e = absurd (none n is e)
  where
    none : (n : ℕ) → 0 ≡ n → (n == 0) ≡ false → ⊥
    none n is e = grind (arith, nat_tests, is, e)
divides (b ∷ bs) n is e = by (b == 61) refl (divides bs (place bs) refl)
  where
    by : (t : Bool) → (b == 61) ≡ t → ((place bs == length bs) ≡ false → IsParted (Some (take (place bs) bs, drop (place bs + 1) bs)) bs) → IsParted (Some (take n (b ∷ bs), drop (n + 1) (b ∷ bs))) (b ∷ bs)
    by true f ih =
        let here : n ≡ 0 = sym is ∙ (λ k. if not (f k) then 1 + place bs else 0) in
        let mark : b ≡ 61 = grind (arith, nat_tests, f) in
        subst (λ m. IsParted (Some (take m (b ∷ bs), drop (m + 1) (b ∷ bs))) (b ∷ bs)) (sym here) (ap (λ c. c ∷ bs) mark, refl)
    by false f ih =
        let later : n ≡ 1 + place bs = sym is ∙ (λ k. if not (f k) then 1 + place bs else 0) in
        let after : n ≡ suc (place bs) = omega (arith, later) in
        let left : (place bs == length bs) ≡ false = grind (arith, nat_tests, e, after) in
        let one : drop (suc (place bs) + 1) (b ∷ bs) ≡ drop (place bs + 1) bs = ap (λ m. drop m (b ∷ bs)) {y = suc (place bs + 1)} (omega arith) in
        let h = ih left in
        subst (λ m. IsParted (Some (take m (b ∷ bs), drop (m + 1) (b ∷ bs))) (b ∷ bs)) (sym after)
        (ap (λ cs. b ∷ cs) h.0 ∙ ap (λ cs. b ∷ (take (place bs) bs ++ 61 ∷ cs)) (sym one), λ k. not (f k) && h.1 k)

pub parts_is : (w : List ℕ) → IsParted (parts w) w
unfolding parts place
parts_is w = off_if (λ r. IsParted r w) (place w == length w) _ _ tt (divides w (place w) refl)

placed : (p n : List ℕ) → list_all (λ b. not (b == 61)) p ≡ true → place (p ++ 61 ∷ n) ≡ length p
unfolding place
placed [] n e = refl
placed (b ∷ bs) n e =
    let h : (not (b == 61) ≡ true) × (list_all (λ b. not (b == 61)) bs ≡ true) = both _ _ e in
    let one : 1 + length bs ≡ suc (length bs) = omega arith in
    (λ k. if h.0 k then 1 + placed bs n h.1 k else 0) ∙ one

pub parts_again : (w p n : List ℕ) → IsPrefix w p n → parts w ≡ Some (p, n)
unfolding parts place
parts_again w p n h =
    let e : place (p ++ 61 ∷ n) ≡ length p = placed p n h.first in
    let long = length-append p (61 ∷ n) in
    let differ : (length p == length (p ++ 61 ∷ n)) ≡ false = grind (arith, nat_tests, long) in
    ap parts h.parts
    ∙ (λ k. if e k == length (p ++ 61 ∷ n) then None else Some (take (e k) (p ++ 61 ∷ n), drop (e k + 1) (p ++ 61 ∷ n)))
    ∙ (λ k. if differ k then None else Some (take_at p (61 ∷ n) (length p) refl k, drop-append-add p (61 ∷ n) 1 k))
