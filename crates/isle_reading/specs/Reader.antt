-- Readers of tokens, as trees of questions: what a reader takes next hangs on what it took, and on nothing after it.
use Rattle.std.specs.Prelude.{List, [], ◌∷◌, Bool, if◌then◌else◌}
use Rattle.isle_lexer.specs.Lexeme.{Lexeme}

-- what comes of reading: a value and the tokens after it; or what is left from the token on that fits nothing, or nests too deep
pub data Reading (A : Type 0) : Type 0 where
  Got : A → List Lexeme → Reading A
  Stuck : List Lexeme → Reading A
  Deep : List Lexeme → Reading A

-- a reader of an A
pub data Reader (A : Type 0) : Type 0 where
  -- done; it takes nothing
  Ret : A → Reader A
  -- takes the next token, if it is one of these
  Ask : (Lexeme → Bool) → (Lexeme → Reader A) → Reader A
  -- looks at the next token, whether it is one of these, and leaves it
  Peek : (Lexeme → Bool) → Reader A → Reader A → Reader A
  -- at the end of the text, or before it
  End : Reader A → Reader A → Reader A
  -- too deep here
  Halt : Reader A

-- goes on after what was got
abbrev pub after : {A B : Type 0} → Reading A → (A → List Lexeme → Reading B) → Reading B
after (Got a ts) next = next a ts
after (Stuck ts) next = Stuck ts
after (Deep ts) next = Deep ts

-- what comes of a reader at these tokens
unfoldable pub run : {A : Type 0} → Reader A → List Lexeme → Reading A
run (Ret a) ts = Got a ts
run (Ask fits next) [] = Stuck []
run (Ask fits next) (t ∷ ts) = if fits t then run (next t) ts else Stuck (t ∷ ts)
run (Peek fits then_so else_so) [] = Stuck []
run (Peek fits then_so else_so) (t ∷ ts) = if fits t then run then_so (t ∷ ts) else run else_so (t ∷ ts)
run (End done more) [] = run done []
run (End done more) (t ∷ ts) = run more (t ∷ ts)
run Halt ts = Deep ts

-- one reader, and after it the next, which hangs on what was got
unfoldable pub bind : {A B : Type 0} → Reader A → (A → Reader B) → Reader B
bind (Ret a) next = next a
bind (Ask fits more) next = Ask fits (λ t. bind (more t) next)
bind (Peek fits then_so else_so) next = Peek fits (bind then_so next) (bind else_so next)
bind (End done more) next = End (bind done next) (bind more next)
bind Halt next = Halt
