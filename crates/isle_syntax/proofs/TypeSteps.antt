-- What comes of reading what a type is declared as, by what comes next.
use Rattle.std.proofs.Common.{◌≡◌, ℕ, zero, suc, ◌<◌, List, [], ◌∷◌, length, drop, refl, ap, sym, ◌∙◌, subst, arith, Some, None}
use Rattle.isle_lexer.specs.Lexeme.{Lexeme}
use Rattle.isle_reading.specs.declared.cursor.Fail.{Fail}
use Rattle.isle_reading.specs.Reader.{Got, Stuck, Reader, Ret, after, run, bind}
use Rattle.isle_reading.specs.Combinators.{read_open, read_close, many, some}
use Rattle.isle_reading.specs.Names.{read_name}
use Rattle.isle_reading.specs.Views.{opens, closes, stops, Refuses}
use Rattle.isle_reading.proofs.Running.{run-bind}
use Rattle.isle_reading.proofs.Steps.{passed, bind_refuses, then_got, done_got, open_peek, no_open_peek, other_peek, close_peek, no_close_peek, close_got, word_none}
use Rattle.isle_reading.proofs.ListSteps.{some-by}
use Rattle.isle_ast.specs.declared.tree.AstFields.{AstFields}
use Rattle.isle_ast.specs.declared.tree.AstFields.TheVariants as fields
use Rattle.isle_ast.specs.declared.tree.AstVariant.{AstVariant}
use Rattle.isle_grammar.specs.Reading.{read_field, read_shape, read_shaped, read_variant}

-- ---- the ends of lists

pub name_none : run read_name [] ≡ Stuck []
unfolding read_name
name_none = word_none _

pub field_none : run read_field [] ≡ Stuck []
unfolding read_field read_open run bind
field_none = refl

plain_none : run {A = AstVariant} (bind read_name (λ name. Ret (record { name = name; fields = fields.Unit }))) [] ≡ Stuck []
plain_none = run-bind read_name (λ name. Ret (record { name = name; fields = fields.Unit })) [] ∙ ap (λ o. after o (λ name us. run {A = AstVariant} (Ret (record { name = name; fields = fields.Unit })) us)) name_none

-- ---- variants

pub variant_shaped : (n at : ℕ) (ts : List Lexeme) → Some at ≡ opens ts → run (read_variant n) ts ≡ run (read_shaped n) ts
unfolding read_variant
variant_shaped n at ts e = open_peek (read_shaped n) _ at ts e

pub variant_plain : (n : ℕ) (ts : List Lexeme) → None ≡ opens ts → run (read_variant n) ts ≡ run (bind read_name (λ name. Ret (record { name = name; fields = fields.Unit }))) ts
unfolding read_variant
variant_plain n ts e = other_peek (read_shaped n) _ ts plain_none e

pub variant_none : (n : ℕ) → run (read_variant n) [] ≡ Stuck []
variant_none n = variant_plain n [] refl ∙ plain_none

-- ---- shapes

-- no tokens may be read
pub shape_spent : (n : ℕ) (ts : List Lexeme) → n ≡ 0 → stops (run (read_shape n) ts) ≡ Some (length ts)
unfolding read_shape run
shape_spent zero [] e = refl
shape_spent zero (t ∷ ts) e = refl
shape_spent (suc n) ts e = absurd (omega (arith, e))

-- the end of the text
pub shape_stops : (n : ℕ) (ts : List Lexeme) → length ts ≡ 0 → stops (run (read_shape n) ts) ≡ Some (length ts)
unfolding read_shape run
shape_stops zero [] e = refl
shape_stops (suc n) [] e = refl
shape_stops n (t ∷ ts) e = absurd (omega (arith, e))

pub shape_unit : (n at : ℕ) (ts us : List Lexeme) → 0 < n → Some at ≡ closes ts → us ≡ drop 1 ts → run (read_shape n) ts ≡ Got fields.Unit us
unfolding read_shape
shape_unit zero at ts us l e f = absurd (omega (arith, l))
shape_unit (suc n) at ts us l e f = close_peek _ _ at ts e ∙ then_got read_close (λ c. Ret fields.Unit) ts us at _ (close_got ts us at e f) (done_got fields.Unit us)

fields_by : (n at : ℕ) (ts : List Lexeme) → 0 < n → 0 < length ts → None ≡ closes ts → Some at ≡ opens ts → run (read_shape n) ts ≡ run (bind (many n read_field) (λ fs. Ret (fields.Named fs))) ts
unfolding read_shape
fields_by zero at ts l k e f = absurd (omega (arith, l))
fields_by (suc n) at ts l k e f = no_close_peek _ _ ts k e ∙ open_peek _ _ at ts f ∙ run-bind (some n read_field) (λ fs. Ret (fields.Named fs)) ts
    ∙ ap (λ o. after o (λ fs us. run (Ret (fields.Named fs)) us)) (sym (some-by read_field n ts k e)) ∙ sym (run-bind (many (suc n) read_field) (λ fs. Ret (fields.Named fs)) ts)

types_by : (n : ℕ) (ts : List Lexeme) → 0 < n → 0 < length ts → None ≡ closes ts → None ≡ opens ts → run (read_shape n) ts ≡ run (bind (many n read_name) (λ fs. Ret (fields.Tuple fs))) ts
unfolding read_shape
types_by zero ts l k e f = absurd (omega (arith, l))
types_by (suc n) ts l k e f = no_close_peek _ _ ts k e ∙ no_open_peek _ _ ts k f ∙ run-bind (some n read_name) (λ fs. Ret (fields.Tuple fs)) ts
    ∙ ap (λ o. after o (λ fs us. run (Ret (fields.Tuple fs)) us)) (sym (some-by read_name n ts k e)) ∙ sym (run-bind (many (suc n) read_name) (λ fs. Ret (fields.Tuple fs)) ts)

pub shape_named : (n at : ℕ) (ts us : List Lexeme) (fs : List (List ℕ × List ℕ)) → 0 < n → 0 < length ts → None ≡ closes ts → Some at ≡ opens ts → run (many n read_field) ts ≡ Got fs us → run (read_shape n) ts ≡ Got (fields.Named fs) us
shape_named n at ts us fs l k e f h = fields_by n at ts l k e f ∙ then_got (many n read_field) (λ fs. Ret (fields.Named fs)) ts us fs _ h (done_got (fields.Named fs) us)

pub named_refuses : (n at : ℕ) (ts : List Lexeme) (fail : Fail) → 0 < n → 0 < length ts → None ≡ closes ts → Some at ≡ opens ts → Refuses fail (run (many n read_field) ts) → Refuses fail (run (read_shape n) ts)
named_refuses n at ts fail l k e f h = subst (Refuses fail) (sym (fields_by n at ts l k e f)) (bind_refuses fail (many n read_field) (λ fs. Ret (fields.Named fs)) ts h)

pub shape_tuple : (n : ℕ) (ts us : List Lexeme) (fs : List (List ℕ)) → 0 < n → 0 < length ts → None ≡ closes ts → None ≡ opens ts → run (many n read_name) ts ≡ Got fs us → run (read_shape n) ts ≡ Got (fields.Tuple fs) us
shape_tuple n ts us fs l k e f h = types_by n ts l k e f ∙ then_got (many n read_name) (λ fs. Ret (fields.Tuple fs)) ts us fs _ h (done_got (fields.Tuple fs) us)

pub tuple_refuses : (n : ℕ) (ts : List Lexeme) (fail : Fail) → 0 < n → 0 < length ts → None ≡ closes ts → None ≡ opens ts → Refuses fail (run (many n read_name) ts) → Refuses fail (run (read_shape n) ts)
tuple_refuses n ts fail l k e f h = subst (Refuses fail) (sym (types_by n ts l k e f)) (bind_refuses fail (many n read_name) (λ fs. Ret (fields.Tuple fs)) ts h)

pub ruleset shapes = (passed, shape_spent, shape_stops, shape_unit, shape_named, named_refuses, shape_tuple, tuple_refuses)

pub ruleset variant_steps = (passed, bind_refuses, variant_shaped, variant_plain)
