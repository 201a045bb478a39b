-- When a text spells an answers file: what the tokens begin with, and which tokens stand after it.
use Rattle.std.specs.Prelude.{◌≡◌, ◌≤◌, ℕ, List, [], ◌∷◌, Bool, true, false, Some, codes}
use Rattle.std.specs.Str.{IsUtf8}
use Rattle.isle_core.specs.declared.values.Callee.{Callee}
use Rattle.isle_lexer.specs.Lexeme.{Lexeme, Open, Close, Word, lexemes}
use Rattle.isle_lexer.specs.Token.{IsClosed}
use Rattle.isle_lexer.specs.Word.{IsName}
use Rattle.isle_reading.specs.Nesting.{depth, most_open}
use Rattle.isle_reading.specs.Relations.{Many}
use Rattle.isle_values.specs.Written.{Written, Truth, Number, Made}
use Rattle.isle_values.specs.Spelling.{ValueS}
use Rattle.isle_answers.specs.Form.{ResultForm, One, Tuple, AnswerForm, Plain, Found, Nothing, Several, CaseForm, Form}
use Rattle.isle_answers.specs.Form as form
use Rattle.isle_answers.specs.Words.{count_of, callee_of, is_reserved}

-- the value is no list that begins with a word of a form
abbrev pub IsOwn : Written → Type 0
IsOwn (Truth b) = Unit {0}
IsOwn (Number n) = Unit {0}
IsOwn (Made w parts) = is_reserved w ≡ false

-- R
pub data ResultS : ResultForm → List Lexeme → List Lexeme → Type 0 where
  one : (v : Written) (ts rest : List Lexeme) → ValueS v ts rest → IsOwn v → ResultS (One v) ts rest
  -- ( tuple V* )
  tuple : (at h : ℕ) (w : List ℕ) (vs : List Written) (ts rest : List Lexeme) → w ≡ codes "tuple" → Many ValueS vs ts rest → ResultS (Tuple vs) (Open at ∷ Word h w ∷ ts) rest

-- A
pub data AnswerS : AnswerForm → List Lexeme → List Lexeme → Type 0 where
  plain : (r : ResultForm) (ts rest : List Lexeme) → ResultS r ts rest → AnswerS (Plain r) ts rest
  -- ( some R )
  found : (at h c : ℕ) (w : List ℕ) (r : ResultForm) (ts rest : List Lexeme) → w ≡ codes "some" → ResultS r ts (Close c ∷ rest) → AnswerS (Found r) (Open at ∷ Word h w ∷ ts) rest
  -- ( none )
  nothing : (at h c : ℕ) (w : List ℕ) (rest : List Lexeme) → w ≡ codes "none" → AnswerS Nothing (Open at ∷ Word h w ∷ Close c ∷ rest) rest
  -- ( list R* )
  several : (at h : ℕ) (w : List ℕ) (rs : List ResultForm) (ts rest : List Lexeme) → w ≡ codes "list" → Many ResultS rs ts rest
      → AnswerS (Several rs) (Open at ∷ Word h w ∷ ts) rest

-- ( rest A ) and the parenthesis after it
pub data RestS : AnswerForm → List Lexeme → List Lexeme → Type 0 where
  rest_of : (at h c e : ℕ) (w : List ℕ) (a : AnswerForm) (ts rest : List Lexeme) → w ≡ codes "rest" → AnswerS a ts (Close c ∷ Close e ∷ rest)
      → RestS a (Open at ∷ Word h w ∷ ts) rest

-- ( case ( V* ) A )* ( rest A ) )
pub data CasesS : List CaseForm → AnswerForm → List Lexeme → List Lexeme → Type 0 where
  no_case : (a : AnswerForm) (ts rest : List Lexeme) → RestS a ts rest → CasesS [] a ts rest
  a_case : (at h o c : ℕ) (w : List ℕ) (args : List Written) (answer : AnswerForm) (others : List CaseForm) (a : AnswerForm) (ts mid more rest : List Lexeme)
      → w ≡ codes "case" → Many ValueS args ts mid → AnswerS answer mid (Close c ∷ more) → CasesS others a more rest
      → CasesS (record { args = args; answer = answer } ∷ others) a (Open at ∷ Word h w ∷ Open o ∷ ts) rest

-- A* ( rest A ) )
pub data TurnsS : List AnswerForm → AnswerForm → List Lexeme → List Lexeme → Type 0 where
  no_turn : (a : AnswerForm) (ts rest : List Lexeme) → RestS a ts rest → TurnsS [] a ts rest
  a_turn : (turn : AnswerForm) (others : List AnswerForm) (a : AnswerForm) (ts mid rest : List Lexeme) → AnswerS turn ts mid → TurnsS others a mid rest
      → TurnsS (turn ∷ others) a ts rest

-- a form that may stand anywhere, any number of times
pub data FormS : Form → List Lexeme → List Lexeme → Type 0 where
  -- ( const NAME V )
  const : (at h n c : ℕ) (w name : List ℕ) (v : Written) (ts rest : List Lexeme) → w ≡ codes "const" → IsName name → ValueS v ts (Close c ∷ rest)
      → FormS (form.Const name v at) (Open at ∷ Word h w ∷ Word n name ∷ ts) rest
  -- ( answers CALLEE ( case ( V* ) A )* ( rest A ) )
  answers : (at h n : ℕ) (w name : List ℕ) (callee : Callee) (cases : List CaseForm) (a : AnswerForm) (ts rest : List Lexeme) → w ≡ codes "answers"
      → callee_of name ≡ Some callee → CasesS cases a ts rest
      → FormS (form.Answers callee cases a at) (Open at ∷ Word h w ∷ Word n name ∷ ts) rest
  -- ( turns CALLEE A* ( rest A ) )
  turns : (at h n : ℕ) (w name : List ℕ) (callee : Callee) (turns : List AnswerForm) (a : AnswerForm) (ts rest : List Lexeme) → w ≡ codes "turns"
      → callee_of name ≡ Some callee → TurnsS turns a ts rest
      → FormS (form.Turns callee turns a at) (Open at ∷ Word h w ∷ Word n name ∷ ts) rest

-- forms up to the end, if ( held N ) may still stand, once, or may not
pub data FormsS : (held : Bool) → List Form → List Lexeme → Type 0 where
  no_form : (held : Bool) → FormsS held [] []
  a_form : (held : Bool) (f : Form) (others : List Form) (ts rest : List Lexeme) → FormS f ts rest → FormsS held others rest → FormsS held (f ∷ others) ts
  held_form : (at h n c count : ℕ) (w digits : List ℕ) (others : List Form) (rest : List Lexeme) → w ≡ codes "held" → count_of digits ≡ Some count
      → FormsS false others rest
      → FormsS true (form.Held count at ∷ others) (Open at ∷ Word h w ∷ Word n digits ∷ Close c ∷ rest)

-- the tokens are accepted: no deeper than they may be, and forms
pub record SpellsTokens (ts : List Lexeme) (forms : List Form) : Type 0 where
  pub shallow : depth ts ≤ most_open
  pub spelt : FormsS true forms ts

-- the text spells the forms
pub record SpellsForms (text : List ℕ) (forms : List Form) : Type 0 where
  pub utf8 : IsUtf8 text
  pub closed : IsClosed text
  pub tokens : SpellsTokens (lexemes text) forms
