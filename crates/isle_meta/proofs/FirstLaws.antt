-- The first shape that is told.
use Rattle.std.proofs.Common.{◌≡◌, List, [], ◌∷◌, ◌++◌, Bool, true, false, Option, Some, None, refl, cond, sym, subst}
use Rattle.std.specs.Prelude.{◌↔◌, find, not, IsTrue}
use Rattle.isle_meta.specs.declared.faults.Faults.{Faults}
use Rattle.isle_meta.specs.declared.shapes.Shape.{Shape}
use Rattle.isle_meta.specs.declared.shapes.Shape.TheVariants.{BadName, RepeatedName, ReservedName, TyOperand, FormatIndex, ValueCount, BlockCount, RawBlockCount, ImmCount, ImmType, ImmShape, NoVarargs, NoTypevar, WrittenImm, AlignedMem, WrittenOperands, ImplicitOperand, AlternateWithoutXmm, BinaryOperands, Results, FieldType}
use Rattle.isle_meta.specs.FirstRow.{shapes, IsFirstShape}
use Rattle.isle_meta.specs.Told.{told, Tells}
use Rattle.isle_meta.proofs.FirstRows.{told_first}

-- the first shape that is told is the first that is broken
pub tells_first : (f : Faults) (Broken : Shape → Type 0) → Tells f Broken → IsFirstShape Broken shapes (find (told f) shapes)
tells_first f Broken t = told_first (told f) Broken t.each shapes

-- if one is told, it is the first
pub one_told : (f : Faults) (Broken : Shape → Type 0) (shape : Shape) → Tells f Broken → Some shape ≡ find (told f) shapes → IsFirstShape Broken shapes (Some shape)
one_told f Broken shape t e = subst (λ o. IsFirstShape Broken shapes o) (sym e) (tells_first f Broken t)

-- if none is, none is broken
pub no_shape : (f : Faults) (Broken : Shape → Type 0) → Tells f Broken → None ≡ find (told f) shapes → IsFirstShape Broken shapes None
no_shape f Broken t e = subst (λ o. IsFirstShape Broken shapes o) (sym e) (tells_first f Broken t)

-- what is not found is not found further on
past : (b : Bool) (x : Shape) (rest : Option Shape) → None ≡ cond b (Some x) rest → None ≡ rest
past true x rest e = absurd cc
past false x rest e = e

-- if none is told, this one is not
pub none_told : (p : Shape → Bool) (xs ys : List Shape) (s : Shape) → None ≡ find p (xs ++ s ∷ ys) → p s ≡ false
none_told p [] ys s e = one (p s) refl e
  where
    one : (b : Bool) → p s ≡ b → None ≡ cond b (Some s) (find p ys) → b ≡ false
    one true k h = absurd cc
    one false k h = refl
none_told p (x ∷ xs) ys s e = none_told p xs ys s (past (p x) x (find p (xs ++ s ∷ ys)) e)

pub no_shape_told : (f : Faults) → None ≡ find (told f) shapes → f.imm_shape ≡ false
no_shape_told f e =
    none_told (told f) (BadName ∷ RepeatedName ∷ ReservedName ∷ TyOperand ∷ FormatIndex ∷ ValueCount ∷ BlockCount ∷ RawBlockCount ∷ ImmCount ∷ ImmType ∷ [])
    (NoVarargs ∷ NoTypevar ∷ WrittenImm ∷ AlignedMem ∷ WrittenOperands ∷ ImplicitOperand ∷ AlternateWithoutXmm ∷ BinaryOperands ∷ Results ∷ FieldType ∷ []) ImmShape e

-- a test that is turned
pub turned_test : (b : Bool) (A : Type 0) → (IsTrue b ↔ A) → IsTrue (not b) ↔ (A → ⊥)
turned_test true A h = (λ e. absurd cc, λ n. absurd (n (h.0 refl)))
turned_test false A h = (λ e a. let k : false ≡ true = h.1 a in absurd cc, λ n. refl)
