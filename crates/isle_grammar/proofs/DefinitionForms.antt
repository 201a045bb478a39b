-- The laws of the readers of each form of definition.
use Rattle.std.proofs.Common.{◌≡◌, ℕ, ◌+◌, ◌≤◌, List, [], ◌∷◌, length, Bool, true, false, inl, inr, refl, ap, sym, ◌∙◌, subst, arith, Option, Some, None, ℤ}
use Rattle.std.specs.Prelude.{◌-◌, codes, bytes_eq, ◌||◌, if◌then◌else◌, is_some, option_map}
use Rattle.isle_lexer.specs.Lexeme.{Lexeme, Open, Close, Word}
use Rattle.isle_lexer.specs.Word.{WordKind, Number, Malformed, Truth, Dollar, Underscore, Plain, kind, names, IsName, is_flag}
use Rattle.isle_reading.specs.Reader.{Ret, bind}
use Rattle.isle_reading.specs.Combinators.{is_close, read_open, read_close, many}
use Rattle.isle_reading.specs.Names.{NameS, name_of, read_name}
use Rattle.isle_reading.specs.Nesting.{Nest, Round, most_open}
use Rattle.isle_reading.specs.Relations.{Anything, Many, none, more, WordsFrom}
use Rattle.isle_reading.proofs.Law.{Law, Heads, Nothing, Then, Either, law_map, law_then, law_next, law_states}
use Rattle.isle_reading.proofs.TokenLaws.{OpenS, CloseS, WordS, Gives, NoWord, law_ret, law_open, law_close, law_word, law_peek}
use Rattle.isle_reading.proofs.ListLaws.{law_many}
use Rattle.isle_reading.proofs.NameLaws.{law_name, name_heads}
use Rattle.isle_reading.proofs.States.{Inside, inside_open, inside_close, inside_word, InPassed, passed_behind}
use Rattle.isle_ast.specs.Tree.{Pattern, Expr, IfLet, Def}
use Rattle.isle_ast.specs.Tree as tree
use Rattle.isle_ast.specs.declared.tree.AstBody.{AstBody}
use Rattle.isle_grammar.specs.Grammar.{PatternS, TailS, BodyS, AnyS, RuleNameS, PrioS, unwritten, written, Flags, no_flags, with_flag, Marks, no_marks, with_mark}
use Rattle.isle_grammar.specs.Reading.{read_argument, read_template, decl_name_of, read_decl_name, constant_of, read_constant, read_type, read_declared, read_decl, ExternHead, IsConstructor, IsExtractor, IsConst, extern_head, read_extern_head, read_constructor, read_fallible, read_infallible}
use Rattle.isle_grammar.specs.Reading.{extractor_behind, read_extractor_function, read_const, extern_behind, read_extern, read_extractor, read_convert, read_parts, read_rule, read_passed}
use Rattle.isle_grammar.proofs.Expressions.{Closed}
use Rattle.isle_grammar.proofs.Conditions.{law_tail}
use Rattle.isle_grammar.proofs.PatternLaws.{NoAt, law_pattern, pattern_no_at, pattern_heads}
use Rattle.isle_grammar.proofs.PassedLists.{law_anys}
use Rattle.isle_grammar.proofs.TypeForms.{body_opens, law_body}
use Rattle.isle_grammar.proofs.WordForms.{rule_name_of, law_rule_name, prio_word, law_prio, NoFlag, law_flags, NoMark, law_marks}

-- ---- the states: inside the definition's list, and inside a list in it

abbrev pub InDef : Nest → Type 0
InDef = Inside (Round ∷ [])

abbrev InList : Nest → Type 0
InList = Inside (Round ∷ Round ∷ [])

pub few_open : (n : ℕ) → n ≤ 3 → n ≤ most_open
unfolding most_open
few_open n l = omega (arith, l)

most_one : 1 + (most_open - 1) ≡ most_open
unfolding most_open
most_one = refl

most_two : 2 + (most_open - 2) ≡ most_open
unfolding most_open
most_two = refl

-- a closing parenthesis ends the definition
law_end : {n : ℕ} (d : Def) → Law InDef (λ d. Inside []) Anything n (Closed d) (bind read_close (λ c. Ret d))
law_end d = law_next _ _ (law_close (inside_close Round [] (few_open 0 (omega arith)))) (λ c. law_ret d (λ q p. p))

law_names : (n : ℕ) → Law InList (λ names. InDef) Anything n (Many NameS) (many n read_name)
law_names n = law_many {C = Anything} InDef n NameS read_name (law_name (inside_word (Round ∷ Round ∷ []) name_of (few_open 2 (omega arith)))) (λ w ts rest s. tt) (λ at ts. tt) name_heads (inside_close Round (Round ∷ []) (few_open 1 (omega arith))) n (omega arith)

law_patterns : (n : ℕ) → Law InList (λ ps. InDef) Anything n (Many PatternS) (many n (read_argument n))
unfolding read_argument
law_patterns n = law_many {C = NoAt} InDef n PatternS (read_argument n) (law_pattern n (most_open - 2) (Round ∷ Round ∷ []) tt most_two) pattern_no_at (λ at ts. (Close at, ts, refl, refl)) pattern_heads (inside_close Round (Round ∷ []) (few_open 1 (omega arith))) n (omega arith)

law_a_name : {n : ℕ} → Law InDef (λ w. InDef) Anything n NameS read_name
law_a_name = law_name (inside_word (Round ∷ []) name_of (few_open 1 (omega arith)))

law_list : {n : ℕ} → Law InDef (λ o. InList) Anything n OpenS read_open
law_list = law_open (inside_open (Round ∷ []) tt (few_open 2 (omega arith)))

-- ---- ( type

abbrev pub the_type : ℕ → ℕ → List ℕ → Marks → AstBody → Def
the_type file at name marks b = tree.TypeDecl name marks.is_extern marks.is_nodebug b (record { file = file; offset = at })

abbrev pub TypeForm : ℕ → ℕ → Def → List Lexeme → List Lexeme → Type 0
TypeForm file at = Then NameS (λ name. Then (WordsFrom with_mark 2 no_marks) (λ marks. Then BodyS (λ b. Closed (the_type file at name marks b))))

pub law_type : (n file at : ℕ) → Law InDef (λ d. Inside []) Anything n (TypeForm file at) (read_type n file at)
unfolding read_type
law_type n file at = law_next _ _ law_a_name (λ name.
    law_then _ _ (λ marks d ts rest s c. let x = body_opens s.0 ts s.1 s.2 in (Open x.0, x.1, x.2, refl)) (law_marks (λ s. inside_word (Round ∷ []) (with_mark s) (few_open 1 (omega arith)))) (λ marks.
    law_next _ _ (law_body n) (λ b. law_end (the_type file at name marks b))))

-- ---- ( decl

abbrev pub the_decl : ℕ → ℕ → Flags → List ℕ → List (List ℕ) → List ℕ → Def
the_decl file at flags term args ret = tree.Decl term flags.pure flags.multi flags.partial flags.recursive args ret (record { file = file; offset = at })

abbrev Declared : ℕ → ℕ → Flags → Def → List Lexeme → List Lexeme → Type 0
Declared file at flags = Then (WordS decl_name_of) (λ term. Then OpenS (λ o. Then (Many NameS) (λ args. Then NameS (λ ret. Closed (the_decl file at flags term args ret)))))

abbrev pub DeclForm : ℕ → ℕ → Def → List Lexeme → List Lexeme → Type 0
DeclForm file at = Then (WordsFrom with_flag 4 no_flags) (Declared file at)

a_decl_name : Gives decl_name_of
unfolding kind
a_decl_name = (codes "a", codes "a", refl)

law_declared : (n file at : ℕ) (flags : Flags) → Law InDef (λ d. Inside []) Anything n (Declared file at flags) (read_declared n file at flags)
unfolding read_declared read_decl_name
law_declared n file at flags =
    law_next _ _ (law_word decl_name_of a_decl_name (inside_word (Round ∷ []) decl_name_of (few_open 1 (omega arith)))) (λ term.
    law_next _ _ law_list (λ o. law_next _ _ (law_names n) (λ args. law_next _ _ law_a_name (λ ret. law_end (the_decl file at flags term args ret)))))

-- a word that is no flag, and may be a name
pub decl_name_by : (f n : Bool) (w term : List ℕ) → (if f then None else (if n then Some w else None)) ≡ Some term → (f ≡ false) × (n ≡ true) × (term ≡ w)
decl_name_by true n w term e = cc
decl_name_by false true w term e = (refl, refl, let x : term ≡ w = cc in x)
decl_name_by false false w term e = cc

no_flag : (file at : ℕ) (flags : Flags) (d : Def) (ts rest : List Lexeme) → Declared file at flags d ts rest → NoFlag ts
no_flag file at flags d ts rest (term, us, (n, w, e, h), s) = (Word n w, us, e, (decl_name_by (is_flag w) (names (kind w)) w term h).0)

pub law_decl : (n file at : ℕ) → Law InDef (λ d. Inside []) Anything n (DeclForm file at) (read_decl n file at)
unfolding read_decl
law_decl n file at = law_then _ _ (λ flags d ts rest s c. no_flag file at flags d ts rest s) (law_flags (λ s. inside_word (Round ∷ []) (with_flag s) (few_open 1 (omega arith)))) (law_declared n file at)

-- ---- ( extern

abbrev pub ConstructorForm : ℕ → ℕ → Def → List Lexeme → List Lexeme → Type 0
ConstructorForm file at = Then NameS (λ term. Then NameS (λ func. Closed (tree.ExternConstructor term func (record { file = file; offset = at }))))

abbrev pub the_extractor : ℕ → ℕ → Bool → List ℕ → List ℕ → Def
the_extractor file at infallible term func = tree.ExternExtractor term func infallible (record { file = file; offset = at })

abbrev pub TwoNames : ℕ → ℕ → Bool → List ℕ → List ℕ → Def → List Lexeme → List Lexeme → Type 0
TwoNames file at true term func = Either (Closed (the_extractor file at false term func)) (Then NameS (λ last. Closed (the_extractor file at true func last)))
TwoNames file at false term func = Closed (the_extractor file at false term func)

abbrev pub ExtractorFunction : ℕ → ℕ → Def → List Lexeme → List Lexeme → Type 0
ExtractorFunction file at = Then NameS (λ term. Then NameS (λ func. TwoNames file at (bytes_eq term (codes "infallible")) term func))

abbrev pub constant_word : List ℕ → Option (List ℕ)
constant_word w = constant_of (kind w)

abbrev pub ConstForm : ℕ → ℕ → Def → List Lexeme → List Lexeme → Type 0
ConstForm file at = Then (WordS constant_word) (λ name. Then NameS (λ ty. Closed (tree.ExternConst name ty (record { file = file; offset = at }))))

abbrev pub ExternBehind : ℕ → ℕ → ExternHead → Def → List Lexeme → List Lexeme → Type 0
ExternBehind file at IsConstructor = ConstructorForm file at
ExternBehind file at IsExtractor = ExtractorFunction file at
ExternBehind file at IsConst = ConstForm file at

abbrev pub ExternForm : ℕ → ℕ → Def → List Lexeme → List Lexeme → Type 0
ExternForm file at = Then (WordS extern_head) (ExternBehind file at)

law_constructor : (n file at : ℕ) → Law InDef (λ d. Inside []) Anything n (ConstructorForm file at) (read_constructor file at)
unfolding read_constructor
law_constructor n file at = law_next _ _ law_a_name (λ term. law_next _ _ law_a_name (λ func. law_end (tree.ExternConstructor term func (record { file = file; offset = at }))))

law_two : (n file at : ℕ) (b : Bool) (term func : List ℕ) → Law InDef (λ d. Inside []) Anything n (TwoNames file at b term func) (extractor_behind file at b term func)
unfolding read_fallible read_infallible
law_two n file at true term func = law_peek is_close _ _ (λ d ts rest s c. (Close s.0, s.1, s.2, refl)) (λ d ts rest s c. name_heads s.0 ts s.1 s.2)
    (law_end (the_extractor file at false term func)) (law_next _ _ law_a_name (λ last. law_end (the_extractor file at true func last)))
law_two n file at false term func = law_end (the_extractor file at false term func)

law_extractor_function : (n file at : ℕ) → Law InDef (λ d. Inside []) Anything n (ExtractorFunction file at) (read_extractor_function file at)
unfolding read_extractor_function
law_extractor_function n file at = law_next _ _ law_a_name (λ term. law_next _ _ law_a_name (λ func. law_two n file at (bytes_eq term (codes "infallible")) term func))

a_constant : Gives constant_word
unfolding kind
a_constant = (codes "$a", codes "a", refl)

law_const : (n file at : ℕ) → Law InDef (λ d. Inside []) Anything n (ConstForm file at) (read_const file at)
unfolding read_const read_constant
law_const n file at = law_next _ _ (law_word constant_word a_constant (inside_word (Round ∷ []) constant_word (few_open 1 (omega arith)))) (λ name. law_next _ _ law_a_name (λ ty. law_end (tree.ExternConst name ty (record { file = file; offset = at }))))

law_extern_behind : (n file at : ℕ) (h : ExternHead) → Law InDef (λ d. Inside []) Anything n (ExternBehind file at h) (extern_behind file at h)
law_extern_behind n file at IsConstructor = law_constructor n file at
law_extern_behind n file at IsExtractor = law_extractor_function n file at
law_extern_behind n file at IsConst = law_const n file at

pub law_extern : (n file at : ℕ) → Law InDef (λ d. Inside []) Anything n (ExternForm file at) (read_extern file at)
unfolding read_extern read_extern_head
law_extern n file at = law_next _ _ (law_word extern_head (codes "const", IsConst, refl) (inside_word (Round ∷ []) extern_head (few_open 1 (omega arith)))) (law_extern_behind n file at)

-- ---- ( extractor, ( convert

abbrev pub ExtractorForm : ℕ → ℕ → Def → List Lexeme → List Lexeme → Type 0
ExtractorForm file at = Then OpenS (λ o. Then NameS (λ term. Then (Many NameS) (λ params. Then PatternS (λ p. Closed (tree.Extractor term params p (record { file = file; offset = at }))))))

pub law_extractor : (n file at : ℕ) → Law InDef (λ d. Inside []) Anything n (ExtractorForm file at) (read_extractor n file at)
unfolding read_extractor read_template
law_extractor n file at = law_next _ _ law_list (λ o. law_next _ _ (law_name (inside_word (Round ∷ Round ∷ []) name_of (few_open 2 (omega arith)))) (λ term. law_next _ _ (law_names n) (λ params.
    law_then _ _ (λ p d ts rest s c. (Close s.0, s.1, s.2, refl)) (law_pattern n (most_open - 1) (Round ∷ []) tt most_one) (λ p. law_end (tree.Extractor term params p (record { file = file; offset = at }))))))

abbrev pub ConvertForm : ℕ → ℕ → Def → List Lexeme → List Lexeme → Type 0
ConvertForm file at = Then NameS (λ from. Then NameS (λ to. Then NameS (λ term. Closed (tree.Converter from to term (record { file = file; offset = at })))))

pub law_convert : (n file at : ℕ) → Law InDef (λ d. Inside []) Anything n (ConvertForm file at) (read_convert file at)
unfolding read_convert
law_convert n file at = law_next _ _ law_a_name (λ from. law_next _ _ law_a_name (λ to. law_next _ _ law_a_name (λ term. law_end (tree.Converter from to term (record { file = file; offset = at })))))

-- ---- ( rule

abbrev pub PartsS : List ℕ × List Pattern → List Lexeme → List Lexeme → Type 0
PartsS = Then OpenS (λ o. Then NameS (λ term. Then (Many PatternS) (λ args. Nothing (term, args))))

law_parts : (n : ℕ) → Law InDef (λ x. InDef) Anything n PartsS (read_parts n)
unfolding read_parts
law_parts n = law_next _ _ law_list (λ o. law_next _ _ (law_name (inside_word (Round ∷ Round ∷ []) name_of (few_open 2 (omega arith)))) (λ term.
    law_next _ _ (law_patterns n) (λ args. law_ret (term, args) (λ q p. p))))

abbrev pub the_rule : ℕ → ℕ → Option (List ℕ) → ℤ → List ℕ × List Pattern → List IfLet × Expr → Def
the_rule file at name prio x y = tree.Rule name prio x.0 x.1 y.0 y.1 (record { file = file; offset = at })

abbrev pub RuleForm : ℕ → ℕ → Def → List Lexeme → List Lexeme → Type 0
RuleForm file at = Then RuleNameS (λ name. Then PrioS (λ prio. Then PartsS (λ x. Then TailS (λ y. Nothing (the_rule file at name prio x y)))))

-- what begins with a parenthesis has no word in front
open_no_word : {A : Type 0} (f : List ℕ → Option A) (ts rest : List Lexeme) (at : ℕ) → OpenS at ts rest → NoWord f ts
open_no_word f ts rest at e = (Open at, rest, e, refl)

prio_no_name : (z : ℤ) (ts mid : List Lexeme) → PrioS z ts mid → NoWord rule_name_of mid → NoWord rule_name_of ts
prio_no_name _ _ _ (unwritten ts) h = h
prio_no_name _ _ _ (written at w n ts e f) h = (Word at w, ts, refl, ap (λ k. is_some (option_map (λ name. Some name) (if names k then Some w else None))) e)

pub law_rule : (n file at : ℕ) → Law InDef (λ d. Inside []) Anything n (RuleForm file at) (read_rule n file at)
unfolding read_rule
law_rule n file at =
    law_then _ _ (λ name d ts rest s c. prio_no_name s.0 ts s.1 s.2 (open_no_word rule_name_of s.1 s.3.2.1 s.3.2.0 s.3.2.2)) (law_rule_name (inside_word (Round ∷ []) rule_name_of (few_open 1 (omega arith)))) (λ name.
    law_then _ _ (λ prio d ts rest s c. open_no_word prio_word ts s.2.1 s.2.0 s.2.2) (law_prio (inside_word (Round ∷ []) prio_word (few_open 1 (omega arith)))) (λ prio.
    law_next _ _ (law_parts n) (λ x. law_next _ _ (law_tail n n (omega arith)) (λ y. law_ret (the_rule file at name prio x y) (λ q p. p)))))

-- ---- lists that are passed over

abbrev pub PassedForm : ℕ → ℕ → List ℕ → Def → List Lexeme → List Lexeme → Type 0
PassedForm file at head = Then (Many AnyS) (λ items. Nothing (tree.Passed head (record { file = file; offset = at })))

pub law_passed : (n file at : ℕ) (head : List ℕ) → Law (InPassed 1) (λ d. Inside []) Anything n (PassedForm file at head) (read_passed n file at head)
unfolding read_passed
law_passed n file at head = law_next _ _ (law_anys n) (λ items. law_ret (tree.Passed head (record { file = file; offset = at })) passed_behind)
