-- Reading a text as a program: its tokens from left to right, each form told by the next few.
use Rattle.std.specs.Prelude.{◌≡◌, ℕ, zero, suc, ◌+◌, List, [], ◌∷◌, ◌++◌, length, Bool, true, false, Option, Some, None, codes, if◌then◌else◌}
use Rattle.isle_core.specs.declared.types.ReturnKind.{ReturnKind}
use Rattle.isle_printer.specs.Bytes.{same_bytes}
use Rattle.isle_core.specs.declared.types.ReturnKind.TheVariants as kind
use Rattle.isle_printer.specs.Token.{Token, Word, Mark, tokens_of, without_comments}
use Rattle.isle_tree.specs.declared.tree.Ty.{Ty}
use Rattle.isle_tree.specs.declared.tree.TraitFn.{TraitFn}
use Rattle.isle_spelling.specs.Fixed.{allow_tokens, uses_tokens, fixed_tokens}
use Rattle.isle_target.specs.Tokens.{◌>>=◌, Reads, phrase, at, rest, after, any_word}
use Rattle.isle_target.specs.OperandReading.{after_prefix}
use Rattle.isle_target.specs.TypeReading.{read_types}
use Rattle.isle_tree.specs.Program.{Function, Program}
use Rattle.isle_tree.specs.WellFormed.{IsWellFormed}
use Rattle.isle_target.specs.StatementSpelling.{param_token, close, returns_word}
use Rattle.isle_target.specs.Spelling.{generics, context_param, returns_head, returns_end, trait_head, self_param, comma, joined_end, trait_result, list_bound}
use Rattle.isle_target.specs.StatementReading.{read_inside, read_body}

-- a type's name, behind a & or not
abbrev pub read_type_name : Bool → List Token → Reads Ty
read_type_name by_ref ts = do
  w ← any_word ts
  Some (record { by_ref = by_ref; name = w.0 }, w.1)

-- a type
unfoldable pub read_ty : List Token → Reads Ty
read_ty ts = if at (Mark (codes "&")) ts then read_type_name true (rest ts) else read_type_name false ts

-- the n-th parameter, with its type
abbrev pub read_typed : ℕ → List Token → Reads Ty
read_typed n ts = do
  ts1 ← after (param_token n) ts
  ts2 ← after (Mark (codes ":")) ts1
  read_ty ts2

-- one parameter more, the n-th, given how to read those after it
abbrev pub read_param : ℕ → (List Token → Reads (List Ty)) → List Token → Reads (List Ty)
read_param n params ts = do
  ty ← read_typed n ts
  ts1 ← after (Mark (codes ",")) ty.1
  more ← params ts1
  Some (ty.0 ∷ more.0, more.1)

-- the parameters from number n on, at most so many
unfoldable pub read_params : ℕ → ℕ → List Token → Reads (List Ty)
read_params zero n ts = None
read_params (suc k) n ts = if at (param_token n) ts then read_param n (read_params k (n + 1)) ts else Some ([], ts)

-- the type of a plain result
abbrev pub read_plain_result : List Token → Reads (ReturnKind × List ℕ)
read_plain_result ts = do
  w ← any_word ts
  Some ((kind.Plain, w.0), w.1)

-- the type of an option, from after its < on
abbrev pub read_option_result : List Token → Reads (ReturnKind × List ℕ)
read_option_result ts = do
  w ← any_word ts
  ts1 ← after (Mark (codes ">")) w.1
  Some ((kind.Option, w.0), ts1)

-- the type of an option where one begins, and else that of a plain result
abbrev pub read_either_result : Option (List Token) → List Token → Reads (ReturnKind × List ℕ)
read_either_result None ts = read_plain_result ts
read_either_result (Some inner) ts = read_option_result inner

-- what a function gives that answers once, from after its ) on
abbrev pub read_once_result : List Token → Reads (ReturnKind × List ℕ)
read_once_result ts = do
  ts1 ← after (Mark (codes "->")) ts
  read_either_result (phrase (Word (codes "Option") ∷ Mark (codes "<") ∷ []) ts1) ts1

-- what one appends that answers several times, from its last parameter on
abbrev pub read_several_result : List Token → Reads (ReturnKind × List ℕ)
read_several_result ts = do
  ts1 ← phrase returns_head ts
  w ← any_word ts1
  ts2 ← phrase returns_end w.1
  Some ((kind.Iterator, w.0), ts2)

-- how often a function answers, and what type, from after its parameters on
unfoldable pub read_result : List Token → Reads (ReturnKind × List ℕ)
read_result ts = if at (Mark (codes ")")) ts then read_once_result (rest ts) else read_several_result ts

-- a function
unfoldable pub read_function : List Token → Reads Function
read_function ts = do
  ts1 ← phrase (Word (codes "pub") ∷ Word (codes "fn") ∷ []) ts
  w ← any_word ts1
  term ← after_prefix (codes "constructor_") w.0
  ts2 ← phrase (generics ++ context_param) w.1
  params ← read_params (length ts2) 0 ts2
  r ← read_result params.1
  ts3 ← after (Mark (codes "{")) r.1
  read_inside (read_body (length ts3)) (λ b. record { term = term; params = params.0; result = r.0.1; kind = r.0.0; body = b }) ts3

-- functions up to the last token, at most so many
unfoldable pub read_functions : ℕ → List Token → Option (List Function)
read_functions n [] = Some []
read_functions zero (t ∷ ts) = None
read_functions (suc n) (t ∷ ts) = do
  f ← read_function (t ∷ ts)
  fs ← read_functions n f.1
  Some (f.0 ∷ fs)

-- one parameter more of a function of the trait, given how to read those after it
abbrev pub read_joined_param : ℕ → (List Token → Reads (List Ty)) → List Token → Reads (List Ty)
read_joined_param n params ts = do
  ts1 ← phrase (comma n) ts
  ty ← read_typed n ts1
  more ← params ty.1
  Some (ty.0 ∷ more.0, more.1)

-- a parameter, where what closes them isn't found
abbrev pub read_joined_or : Option (List Token) → ℕ → (List Token → Reads (List Ty)) → List Token → Reads (List Ty)
read_joined_or None n params ts = read_joined_param n params ts
read_joined_or (Some behind) n params ts = Some ([], behind)

-- those from number n on of the function of this name, and what closes them, at most so many
unfoldable pub read_joined : ReturnKind → (name : List ℕ) → ℕ → ℕ → List Token → Reads (List Ty)
read_joined how name zero n ts = None
read_joined how name (suc k) n ts = read_joined_or (phrase (joined_end how name n) ts) n (read_joined how name k (n + 1)) ts

-- one type more of a tuple, given how to read those after it
abbrev pub read_joined_type : ℕ → (List Token → Reads (List (List ℕ))) → List Token → Reads (List (List ℕ))
read_joined_type n tys ts = do
  ts1 ← phrase (comma n) ts
  ty ← any_word ts1
  more ← tys ty.1
  Some (ty.0 ∷ more.0, more.1)

-- those from number n on, and the ) after them, at most so many
unfoldable pub read_joined_types : ℕ → ℕ → List Token → Reads (List (List ℕ))
read_joined_types zero n ts = None
read_joined_types (suc k) n ts = if at (Mark (codes ")")) ts then Some ([], rest ts) else read_joined_type n (read_joined_types k (n + 1)) ts

-- a tuple has none or several
abbrev pub if_tuple : List (List ℕ) → List Token → Reads (List (List ℕ))
if_tuple [] ts = Some ([], ts)
if_tuple (ty ∷ []) ts = None
if_tuple (ty ∷ more ∷ tys) ts = Some (ty ∷ more ∷ tys, ts)

-- the types of a tuple from after its ( on
abbrev pub read_tuple_types : List Token → Reads (List (List ℕ))
read_tuple_types ts = do
  tys ← read_joined_types (length ts) 0 ts
  if_tuple tys.0 tys.1

-- the one type of an answer
abbrev pub read_one_type : List Token → Reads (List (List ℕ))
read_one_type ts = do
  w ← any_word ts
  Some (w.0 ∷ [], w.1)

-- the types of an answer's results
unfoldable pub read_item : List Token → Reads (List (List ℕ))
read_item ts = if at (Mark (codes "(")) ts then read_tuple_types (rest ts) else read_one_type ts

-- those of a plain answer
abbrev pub read_plain_results : List Token → Reads (ReturnKind × List (List ℕ))
read_plain_results ts = do
  tys ← read_item ts
  Some ((kind.Plain, tys.0), tys.1)

-- those of an option, from after its < on
abbrev pub read_option_results : List Token → Reads (ReturnKind × List (List ℕ))
read_option_results ts = do
  tys ← read_item ts
  ts1 ← after (Mark (codes ">")) tys.1
  Some ((kind.Option, tys.0), ts1)

-- those of an option where one begins, and else those of a plain answer
abbrev pub read_either_results : Option (List Token) → List Token → Reads (ReturnKind × List (List ℕ))
read_either_results None ts = read_plain_results ts
read_either_results (Some inner) ts = read_option_results inner

-- how often a function of the trait answers, and with what
unfoldable pub read_results : List Token → Reads (ReturnKind × List (List ℕ))
read_results ts = read_either_results (phrase (Word (codes "Option") ∷ Mark (codes "<") ∷ []) ts) ts

-- a function of the trait that answers once
abbrev pub read_once_fn : List Token → Reads TraitFn
read_once_fn ts = do
  ts1 ← after (Word (codes "fn")) ts
  name ← any_word ts1
  ts2 ← phrase self_param name.1
  params ← read_joined kind.Plain name.0 (length ts2) 0 ts2
  ts3 ← after (Mark (codes "->")) params.1
  r ← read_results ts3
  ts4 ← after (Mark (codes ";")) r.1
  Some (record { name = name.0; params = params.0; results = r.0.1; kind = r.0.0 }, ts4)

-- the function, if the list is that of its name
abbrev pub if_listed : List ℕ → TraitFn → List Token → Reads TraitFn
if_listed list f ts = if same_bytes list (returns_word f.name) then Some (f, ts) else None

-- one that answers several times, from after the type of its list on
abbrev pub read_several_fn : List ℕ → List (List ℕ) → List Token → Reads TraitFn
read_several_fn list tys ts = do
  ts1 ← after (Word (codes "fn")) ts
  name ← any_word ts1
  ts2 ← phrase self_param name.1
  params ← read_joined kind.Iterator name.0 (length ts2) 0 ts2
  ts3 ← phrase (trait_result kind.Iterator tys) params.1
  if_listed list (record { name = name.0; params = params.0; results = tys; kind = kind.Iterator }) ts3

-- the type of its list, from after the type on, and such a function
abbrev pub read_listed_fn : List Token → Reads TraitFn
read_listed_fn ts = do
  list ← any_word ts
  ts1 ← phrase list_bound list.1
  tys ← read_item ts1
  ts2 ← phrase (Mark (codes ">") ∷ Mark (codes ";") ∷ []) tys.1
  read_several_fn list.0 tys.0 ts2

-- a function of the trait: after the type of its list it answers several times
unfoldable pub read_trait_fn : List Token → Reads TraitFn
read_trait_fn ts = if at (Word (codes "type")) ts then read_listed_fn (rest ts) else read_once_fn ts

-- one function of the trait more, given how to read those after it
abbrev pub read_trait_more : (List Token → Reads (List TraitFn)) → List Token → Reads (List TraitFn)
read_trait_more more ts = do
  f ← read_trait_fn ts
  fs ← more f.1
  Some (f.0 ∷ fs.0, fs.1)

-- the functions of the trait, up to the } after them, at most so many
unfoldable pub read_trait_fns : ℕ → List Token → Reads (List TraitFn)
read_trait_fns zero ts = None
read_trait_fns (suc n) ts = if at (Mark (codes "}")) ts then Some ([], ts) else read_trait_more (read_trait_fns n) ts

-- the trait
unfoldable pub read_trait : List Token → Reads (List TraitFn)
read_trait ts = do
  ts1 ← phrase trait_head ts
  fs ← read_trait_fns (length ts1) ts1
  ts2 ← phrase close fs.1
  Some (fs.0, ts2)

-- whether the allow lines stand here, and the tokens after them
abbrev pub after_allow : Option (List Token) → List Token → Bool × List Token
after_allow (Some rest) ts = (true, rest)
after_allow None ts = (false, ts)

-- a program, from its uses on
abbrev pub read_items : Bool × List Token → Option Program
read_items start = do
  ts1 ← phrase uses_tokens start.1
  tfns ← read_trait ts1
  ts2 ← phrase fixed_tokens tfns.1
  types ← read_types (length ts2) ts2
  fs ← read_functions (length types.1) types.1
  Some (record { allow = start.0; trait_fns = tfns.0; types = types.0; fns = fs })

-- the program that the tokens spell, or none
unfoldable pub read_program : List Token → Option Program
read_program ts = read_items (after_allow (phrase allow_tokens ts) ts)

-- the program that a text reads as, its comments left out, or none
abbrev pub program_of : List ℕ → Option Program
program_of text = read_program (without_comments (tokens_of text))

-- the text reads as the program, which is well formed
pub record SpellsProgram (text : List ℕ) (p : Program) : Type 0 where
  pub reads : program_of text ≡ Some p
  pub well_formed : IsWellFormed p

-- the text spells the program and no other
pub record SpellsOnly (text : List ℕ) (p : Program) : Type 0 where
  pub spells : SpellsProgram text p
  pub only : (q : Program) → SpellsProgram text q → q ≡ p
