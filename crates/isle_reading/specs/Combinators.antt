-- Readers that are made of readers.
use Rattle.std.specs.Prelude.{ℕ, zero, suc, List, [], ◌∷◌, Bool, true, false, ◌||◌, Option, Some, None, is_some}
use Rattle.isle_lexer.specs.Lexeme.{Lexeme, Open, Close, At, Less, Greater, Word}
use Rattle.isle_reading.specs.Reader.{Reader, Ret, Ask, Peek, End, Halt, bind}

-- ---- tokens

-- an opening parenthesis
abbrev pub is_open : Lexeme → Bool
is_open (Open at) = true
is_open (Close at) = false
is_open (At at) = false
is_open (Less at) = false
is_open (Greater at) = false
is_open (Word at w) = false

-- a closing parenthesis
abbrev pub is_close : Lexeme → Bool
is_close (Open at) = false
is_close (Close at) = true
is_close (At at) = false
is_close (Less at) = false
is_close (Greater at) = false
is_close (Word at w) = false

-- an `@`
abbrev pub is_at : Lexeme → Bool
is_at (Open at) = false
is_at (Close at) = false
is_at (At at) = true
is_at (Less at) = false
is_at (Greater at) = false
is_at (Word at w) = false

-- a word that passes the test
abbrev pub on_word : (List ℕ → Bool) → Lexeme → Bool
on_word test (Open at) = false
on_word test (Close at) = false
on_word test (At at) = false
on_word test (Less at) = false
on_word test (Greater at) = false
on_word test (Word at w) = test w

-- a word's bytes
abbrev pub bytes : Lexeme → List ℕ
bytes (Open at) = []
bytes (Close at) = []
bytes (At at) = []
bytes (Less at) = []
bytes (Greater at) = []
bytes (Word at w) = w

-- where a token begins
abbrev pub place : Lexeme → ℕ
place (Open at) = at
place (Close at) = at
place (At at) = at
place (Less at) = at
place (Greater at) = at
place (Word at w) = at

-- fits no token
abbrev pub refuse : {A : Type 0} → Reader A
refuse = Ask (λ t. false) (λ t. Halt)

-- an opening parenthesis, by its place
unfoldable pub read_open : Reader ℕ
read_open = Ask is_open (λ t. Ret (place t))

-- a closing parenthesis, by its place
unfoldable pub read_close : Reader ℕ
read_close = Ask is_close (λ t. Ret (place t))

-- an `@`, by its place
unfoldable pub read_at : Reader ℕ
read_at = Ask is_at (λ t. Ret (place t))

-- ---- words

-- what a word gives, if anything
abbrev pub given : {A : Type 0} → Option A → Reader A
given None = refuse
given (Some a) = Ret a

-- takes a word that gives something
unfoldable pub read_word : {A : Type 0} → (List ℕ → Option A) → Reader A
read_word f = Ask (on_word (λ w. is_some (f w))) (λ t. given (f (bytes t)))

-- what the next word gives, if anything
abbrev pub next_word : {A : Type 0} → (List ℕ → Option A) → List Lexeme → Option A
next_word f [] = None
next_word f (Open at ∷ ts) = None
next_word f (Close at ∷ ts) = None
next_word f (At at ∷ ts) = None
next_word f (Less at ∷ ts) = None
next_word f (Greater at ∷ ts) = None
next_word f (Word at w ∷ ts) = f w

-- what a word gives, or else this if there is no such word
unfoldable pub read_optional : {A : Type 0} → (List ℕ → Option A) → A → Reader A
read_optional f other = Peek (on_word (λ w. is_some (f w))) (read_word f) (Ret other)

-- at most k words, each of which takes a state to the next
unfoldable pub words_from : {St : Type 0} → ℕ → (St → List ℕ → Option St) → St → Reader St
words_from zero next s = Ret s
words_from (suc k) next s = Peek (on_word (λ w. is_some (next s w))) (bind (read_word (next s)) (λ u. words_from k next u)) (Ret s)

-- ---- lists

-- values up to the closing parenthesis, which is taken, with at most n tokens for them and it
unfoldable pub many : {A : Type 0} → ℕ → Reader A → Reader (List A)
many zero r = End refuse Halt
many (suc n) r = Peek is_close (bind read_close (λ c. Ret [])) (bind r (λ a. bind (many n r) (λ others. Ret (a ∷ others))))

-- values up to the closing parenthesis, at least one, with at most n tokens after the first
abbrev pub some : {A : Type 0} → ℕ → Reader A → Reader (List A)
some n r = bind r (λ a. bind (many n r) (λ others. Ret (a ∷ others)))

-- values up to the end of the text, at most n of them, if each value's reader hangs on a state and the value gives the next
unfoldable pub all_from : {St A : Type 0} → ℕ → (St → Reader A) → (St → A → St) → St → Reader (List A)
all_from zero r next s = End (Ret []) Halt
all_from (suc n) r next s = End (Ret []) (bind (r s) (λ a. bind (all_from n r next (next s a)) (λ others. Ret (a ∷ others))))

-- no state hangs on a value
abbrev pub stays : {A : Type 0} → Unit {0} → A → Unit {0}
stays s a = s

-- values up to the end of the text, at most n of them
abbrev pub all : {A : Type 0} → ℕ → Reader A → Reader (List A)
all n r = all_from n (λ s. r) stays tt

-- a value, and the end of the text
abbrev pub at_end : {A : Type 0} → A → Reader A
at_end a = End (Ret a) refuse

-- ---- two readers over the same tokens

-- what the first got, or the second, or both
pub data Both (A B : Type 0) : Type 0 where
  OnlyFirst : A → Both A B
  OnlySecond : B → Both A B
  BothGot : A → B → Both A B

-- the first reads on alone
abbrev pub first_alone : {A B : Type 0} → Reader A → Reader (Both A B)
first_alone r = bind r (λ a. Ret (OnlyFirst a))

-- the second reads on alone
abbrev pub second_alone : {A B : Type 0} → Reader B → Reader (Both A B)
second_alone q = bind q (λ b. Ret (OnlySecond b))

-- the first is done
abbrev pub first_done : {A B : Type 0} → A → Reader B → Reader (Both A B)
first_done a (Ret b) = Ret (BothGot a b)
first_done a (Ask fits next) = Ret (OnlyFirst a)
first_done a (Peek fits then_so else_so) = End (Ret (OnlyFirst a)) (Peek fits (first_done a then_so) (first_done a else_so))
first_done a (End done more) = End (first_done a done) (first_done a more)
first_done a Halt = Halt

-- the token after which both read on, or one of them
abbrev pub go_on : {A B : Type 0} → Bool → Bool → Reader (Both A B) → Reader (Both A B) → Reader (Both A B) → Reader (Both A B)
go_on true true together first second = together
go_on true false together first second = first
go_on false true together first second = second
go_on false false together first second = Halt

-- the first takes one of these tokens next
abbrev pub first_asks : {A B : Type 0} → (Lexeme → Bool) → (Lexeme → Reader A) → (Lexeme → Reader B → Reader (Both A B)) → Reader B → Reader (Both A B)
first_asks fits next together (Ret b) = Ret (OnlySecond b)
first_asks fits next together (Ask others behind) =
    Ask (λ t. fits t || others t) (λ t. go_on (fits t) (others t) (together t (behind t)) (first_alone (next t)) (second_alone (behind t)))
first_asks fits next together (Peek others then_so else_so) = Peek others (first_asks fits next together then_so) (first_asks fits next together else_so)
first_asks fits next together (End done more) = End (first_asks fits next together done) (first_asks fits next together more)
first_asks fits next together Halt = Halt

-- both readers, token by token, up to where one of them is done; one that is stuck is left after
unfoldable pub both : {A B : Type 0} → Reader A → Reader B → Reader (Both A B)
both (Ret a) q = first_done a q
both (Ask fits next) q = first_asks fits next (λ t. both (next t)) q
both (Peek fits then_so else_so) q = End (second_alone q) (Peek fits (both then_so q) (both else_so q))
both (End done more) q = End (both done q) (both more q)
both Halt q = Halt
