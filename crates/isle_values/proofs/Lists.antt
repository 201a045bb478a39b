-- A list is read exactly.
use Rattle.std.proofs.Common.{◌≡◌, ℕ, ◌≤◌, List, [], length, ap, sym, ◌∙◌, arith, Some, None}
use Rattle.std.specs.Prelude.{Result, Ok, Err, IfOk}
use Rattle.isle_lexer.specs.Lexeme.{Lexeme}
use Rattle.isle_reading.specs.declared.cursor.Fail.{Fail}
use Rattle.isle_reading.specs.Nesting.{depth, most_open}
use Rattle.isle_reading.specs.Reader.{Reading, Got, run}
use Rattle.isle_reading.specs.Views.{stops, Comes}
use Rattle.isle_reading.proofs.Faults.{got_spelt, spelt_got}
use Rattle.isle_reading.proofs.Running.{got_is}
use Rattle.isle_reading.proofs.States.{opened_start}
use Rattle.isle_values.specs.Written.{Written, Writtens}
use Rattle.isle_values.specs.Views.{in_order}
use Rattle.isle_values.specs.Spelling.{ListS}
use Rattle.isle_values.specs.Reading.{read_whole, values_of}
use Rattle.isle_values.proofs.ValueLaws.{WholeS, law_whole, whole_to, whole_from}

-- what is got is spelt, and nests no deeper than it may
pub values_sound : (ts rest : List Lexeme) (vs : List Written) → values_of ts ≡ Got vs rest → ListS (in_order vs) ts × (depth ts ≤ most_open)
values_sound ts rest vs e =
    let x = got_spelt WholeS (read_whole (length ts)) (law_whole (length ts)) opened_start (λ a us rest s. s.3.2) ts rest vs e in
    (whole_to vs ts [] x.0, x.1)

-- what is spelt, and nests no deeper than it may, is got
pub values_complete : (ts : List Lexeme) (vs : Writtens) → depth ts ≤ most_open → ListS vs ts → (xs : List Written) × (in_order xs ≡ vs) × (values_of ts ≡ Got xs [])
values_complete ts vs l s =
    let x = whole_from vs ts s in
    (x.0, x.1, spelt_got WholeS (read_whole (length ts)) (law_whole (length ts)) opened_start ts x.0 (omega arith) x.2 l)

-- tokens spell at most one list
pub values_once : (ts : List Lexeme) (vs ws : Writtens) → depth ts ≤ most_open → ListS vs ts → ListS ws ts → vs ≡ ws
values_once ts vs ws l h k =
    let x = values_complete ts vs l h in
    let y = values_complete ts ws l k in
    sym x.1 ∙ ap in_order (got_is [] [] x.0 y.0 _ x.2 y.2).1 ∙ y.1

-- what is refused is not spelt
pub values_refused : (k : ℕ) (ts : List Lexeme) (vs : Writtens) → stops (values_of ts) ≡ Some k → depth ts ≤ most_open → ListS vs ts → ⊥
values_refused k ts vs e l s = let x : stops (values_of ts) ≡ None = ap stops (values_complete ts vs l s).2 in absurd (let y : None ≡ Some k = sym x ∙ e in cc)

-- the same, as the code has it
pub values_got : (most : ℕ) (ts rest : List Lexeme) (vs : List Written) → most ≡ length ts → run (read_whole most) ts ≡ Got vs rest → ListS (in_order vs) ts × (depth ts ≤ most_open)
values_got most ts rest vs e h = let x : values_of ts ≡ Got vs rest = rw (← e) h in values_sound ts rest vs x

-- what came of reading, if a value came
pub comes_ok : {T A : Type 0} (view : T → A) (result : Result T Fail) (o : Reading A) (rest : List Lexeme) (P : T → Type 0) → Comes view result o rest → ((x : T) → o ≡ Got (view x) rest → P x) → IfOk result P
comes_ok view (Ok x) o rest P h f = f x h
comes_ok view (Err e) o rest P h f = tt
