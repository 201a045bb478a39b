-- What the words of a run say.
use Rattle.std.proofs.Common.{◌≡◌, ℕ, List, [], ◌∷◌, ◌++◌, Bool, true, false, Option, Some, None, refl, ap, sym, ◌∙◌, subst, arith}
use Rattle.std.specs.Prelude.{◌==◌, if◌then◌else◌, codes}
use Rattle.std.proofs.lemmas.Bool.Decides.{nat_tests}
use Rattle.isle_core.specs.Printed.{after_prefix}
use Rattle.isle_command_line.specs.Words.{is_name}
use Rattle.isle_command_line.specs.Lines as choice
use Rattle.isle_command_line.specs.Lines.{SourceS}
use Rattle.isle_command_line.specs.Reading.{is_trace, is_answers, source_by, source_of}
use Rattle.isle_command_line.specs.declared.commands.Source.{Source}
use Rattle.isle_command_line.specs.declared.commands.Source.TheVariants as source
use Rattle.isle_command_line.proofs.WordLaws.{same}

pub trace_is : (w : List ℕ) → is_trace w ≡ true → w ≡ codes "--trace"
unfolding is_trace
trace_is w e = same w (codes "--trace") e

pub answers_is : (w : List ℕ) → is_answers w ≡ true → w ≡ codes "--answers"
unfolding is_answers
answers_is w e = same w (codes "--answers") e

-- a name asks for no trace
pub name_no_trace : (w : List ℕ) → is_name w ≡ true → is_trace w ≡ false
name_no_trace w h = by (is_trace w) refl
  where
    by : (b : Bool) → is_trace w ≡ b → b ≡ false
    by false e = refl
    by true e = let f : false ≡ true = sym (ap is_name (trace_is w e)) ∙ h in cc

-- what stands after a prefix
after_is : (p w n : List ℕ) → after_prefix p w ≡ Some n → w ≡ p ++ n
after_is [] w n e = cc
after_is (b ∷ p) [] n e = cc
after_is (b ∷ p) (c ∷ w) n e = by (c == b) refl e (after_is p w n)
  where
    by : (t : Bool) → (c == b) ≡ t → (if t then after_prefix p w else None) ≡ Some n → (after_prefix p w ≡ Some n → w ≡ p ++ n) → c ∷ w ≡ b ∷ (p ++ n)
    by true f g ih = let one : c ≡ b = grind (arith, nat_tests, f) in let more = ih g in λ k. one k ∷ more k
    by false f g ih = cc

-- a name is a source
pub source_is : (w : List ℕ) → is_name w ≡ true → SourceS (source_of w) w
unfolding source_of
source_is w h = by (after_prefix (codes "unit:") w) refl
  where
    by : (o : Option (List ℕ)) → after_prefix (codes "unit:") w ≡ o → SourceS (source_by w o) w
    by None e = choice.file w h e
    by (Some n) e = subst (SourceS (source.Unit n)) (sym (after_is (codes "unit:") w n e)) (choice.unit n)

pub source_again : {s : Source} {w : List ℕ} → SourceS s w → source_of w ≡ s
unfolding source_of
source_again (choice.file w h e) = ap (source_by w) e
source_again (choice.unit n) = refl

-- and is a name
pub source_named : {s : Source} {w : List ℕ} → SourceS s w → is_name w ≡ true
source_named (choice.file w h e) = h
source_named (choice.unit n) = refl
