-- What tokens spell.
use Rattle.std.specs.Prelude.{◌≡◌, ℕ, suc, List, [], ◌∷◌, ◌++◌, Option, Some}
use Rattle.isle_lexer.specs.Lexeme.{Lexeme, Close, Word}

-- which value some tokens begin with, and which tokens are after it
abbrev pub Relation : Type 0 → Type 1
Relation A = A → List Lexeme → List Lexeme → Type 0

-- these tokens spell the value, whatever may follow them
abbrev pub Whole : {A : Type 0} → (List Lexeme → Type 0) → Relation A → A → List Lexeme → Type 0
Whole C S a front = (tail : List Lexeme) → C tail → S a (front ++ tail) tail

-- these tokens and some more spell a value
abbrev pub Begins : {A : Type 0} → (List Lexeme → Type 0) → Relation A → List Lexeme → Type 0
Begins {A = A} C S front = (others : List Lexeme) × (a : A) × Whole C S a (front ++ others)

-- the tokens up to rest spell the value
abbrev pub Taken : {A : Type 0} → (List Lexeme → Type 0) → Relation A → A → List Lexeme → List Lexeme → Type 0
Taken C S a ts rest = (front : List Lexeme) × (ts ≡ front ++ rest) × Whole C S a front

-- the tokens up to rest begin a value
abbrev pub Begun : {A : Type 0} → (List Lexeme → Type 0) → Relation A → List Lexeme → List Lexeme → Type 0
Begun C S ts rest = (front : List Lexeme) × (ts ≡ front ++ rest) × Begins C S front

-- anything may follow
abbrev pub Anything : List Lexeme → Type 0
Anything ts = Unit {0}

-- nothing may follow
abbrev pub Ended : List Lexeme → Type 0
Ended ts = ts ≡ []

-- things of a kind, and the parenthesis after them
pub data Many {A : Type 0} (S : A → List Lexeme → List Lexeme → Type 0) : List A → List Lexeme → List Lexeme → Type 0 where
  none : (at : ℕ) (ts : List Lexeme) → Many S [] (Close at ∷ ts) ts
  more : (a : A) (others : List A) (ts mid rest : List Lexeme) → S a ts mid → Many S others mid rest → Many S (a ∷ others) ts rest

-- things up to the end of the text, where what may stand next hangs on a state that each gives
pub data AllFrom {St A : Type 0} (S : St → A → List Lexeme → List Lexeme → Type 0) (next : St → A → St) : St → List A → List Lexeme → List Lexeme → Type 0 where
  no_item : (s : St) → AllFrom S next s [] [] []
  an_item : (s : St) (a : A) (others : List A) (ts rest : List Lexeme) → S s a ts rest → AllFrom S next (next s a) others rest [] → AllFrom S next s (a ∷ others) ts []

-- at most k words, each of which takes a state to the next
pub data WordsFrom {St : Type 0} (next : St → List ℕ → Option St) : ℕ → St → St → List Lexeme → List Lexeme → Type 0 where
  no_word : (k : ℕ) (s : St) (ts : List Lexeme) → WordsFrom next k s s ts ts
  a_word : (k at : ℕ) (w : List ℕ) (s u v : St) (ts rest : List Lexeme) → next s w ≡ Some u → WordsFrom next k u v ts rest → WordsFrom next (suc k) s v (Word at w ∷ ts) rest
