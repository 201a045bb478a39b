-- The laws of the readers of words.
use Rattle.std.proofs.Common.{◌≡◌, ℕ, ◌<◌, ◌^◌, List, ◌∷◌, Bool, true, false, inl, inr, refl, ap, sym, ◌∙◌, subst, arith, Option, Some, None, ℤ, pos, negsuc}
use Rattle.std.specs.Prelude.{option_map, if◌then◌else◌, ◌||◌, bytes_eq, codes, FitsSigned}
use Rattle.std.specs.Int.{w64}
use Rattle.std.proofs.lemmas.Bool.Decides.{nat_tests}
use Rattle.isle_core.specs.Int.{wrapped}
use Rattle.isle_lexer.specs.Integer.{int_of, signed_of, magnitude}
use Rattle.isle_lexer.specs.Lexeme.{Lexeme, Word}
use Rattle.isle_lexer.specs.Word.{WordKind, Number, Malformed, Truth, Dollar, Underscore, Plain, kind, names, is_flag}
use Rattle.isle_reading.specs.Names.{name_of}
use Rattle.isle_reading.specs.Nesting.{Nest}
use Rattle.isle_reading.specs.Relations.{WordsFrom}
use Rattle.isle_reading.proofs.Law.{Law, Nothing, Either, law_map}
use Rattle.isle_reading.proofs.TokenLaws.{WordS, WordSteps, NoWord, NoSuch, law_optional, law_words_from}
use Rattle.isle_reading.proofs.NameLaws.{if_some, a_named, name_some}
use Rattle.isle_grammar.specs.Grammar.{RuleNameS, unnamed, named_rule, PrioS, unwritten, written, Flags, no_flags, with_flag, Marks, no_marks, with_mark}
use Rattle.isle_grammar.specs.Reading.{read_rule_name, in_64_bits, prio_of, read_prio, read_flags, read_marks}

-- ---- the name of a rule

abbrev pub rule_name_of : List ℕ → Option (Option (List ℕ))
rule_name_of w = option_map (λ name. Some name) (name_of w)

mapped_some : (b : Bool) (w : List ℕ) (o : Option (List ℕ)) → option_map (λ name. Some name) (if b then Some w else None) ≡ Some o → (b ≡ true) × (o ≡ Some w)
mapped_some true w o e = (refl, let x : o ≡ Some w = cc in x)
mapped_some false w o e = cc

rule_name_to : (o : Option (List ℕ)) (ts rest : List Lexeme) → Either (WordS rule_name_of) (Nothing None) o ts rest → RuleNameS o ts rest
rule_name_to o ts rest (inl (at, w, e, h)) =
    let x = mapped_some (names (kind w)) w o h in
    subst (λ z. RuleNameS z ts rest) (sym x.1) (subst (λ z. RuleNameS (Some w) z rest) (sym e) (named_rule at w rest x.0))
rule_name_to o ts rest (inr (p, q)) = subst (λ z. RuleNameS z ts rest) (sym p) (subst (λ z. RuleNameS None z rest) (sym q) (unnamed rest))

rule_name_from : (o : Option (List ℕ)) (ts rest : List Lexeme) → RuleNameS o ts rest → Either (WordS rule_name_of) (Nothing None) o ts rest
rule_name_from _ _ _ (unnamed ts) = inr (refl, refl)
rule_name_from _ _ _ (named_rule at w ts h) = inl (at, w, refl, ap (option_map (λ name. Some name)) (name_some w h))

pub law_rule_name : {P : Nest → Type 0} {n : ℕ} → WordSteps P (λ o. P) rule_name_of → Law P (λ o. P) (NoWord rule_name_of) n RuleNameS read_rule_name
unfolding read_rule_name
law_rule_name steps = law_map rule_name_to rule_name_from (law_optional rule_name_of None (codes "a", Some (codes "a"), ap (option_map (λ name. Some name)) (name_some (codes "a") a_named)) steps (λ q p. p))

-- ---- priorities

abbrev pub prio_word : List ℕ → Option ℤ
prio_word w = prio_of (kind w)

fits_true : (z : ℤ) → in_64_bits z ≡ true → FitsSigned w64 z
fits_true (pos n) h = record { sfits = grind (arith, nat_tests) }
fits_true (negsuc n) h = record { sfits = grind (arith, nat_tests) }

true_fits : (z : ℤ) → FitsSigned w64 z → in_64_bits z ≡ true
true_fits (pos n) h = let x : n < 2 ^ 63 = h.sfits in grind (arith, nat_tests)
true_fits (negsuc n) h = let x : n < 2 ^ 63 = h.sfits in grind (arith, nat_tests)

prio_is : (k : WordKind) (z : ℤ) → prio_of k ≡ Some z → (k ≡ Number z) × FitsSigned w64 z
prio_is (Number n) z h = let x = if_some (in_64_bits n) n z h in (ap Number (sym x.1), subst (FitsSigned w64) (sym x.1) (fits_true n x.0))
prio_is Malformed z h = cc
prio_is (Truth b) z h = cc
prio_is (Dollar name) z h = cc
prio_is Underscore z h = cc
prio_is Plain z h = cc

prio_some : (k : WordKind) (n : ℤ) → k ≡ Number n → FitsSigned w64 n → prio_of k ≡ Some n
prio_some k n e f = ap prio_of e ∙ ap (λ b. if b then Some n else None) (true_fits n f)

prio_to : (z : ℤ) (ts rest : List Lexeme) → Either (WordS prio_word) (Nothing (pos 0)) z ts rest → PrioS z ts rest
prio_to z ts rest (inl (at, w, e, h)) = let x = prio_is (kind w) z h in subst (λ y. PrioS z y rest) (sym e) (written at w z rest x.0 x.1)
prio_to z ts rest (inr (p, q)) = subst (λ y. PrioS y ts rest) (sym p) (subst (λ y. PrioS (pos 0) y rest) (sym q) (unwritten rest))

prio_from : (z : ℤ) (ts rest : List Lexeme) → PrioS z ts rest → Either (WordS prio_word) (Nothing (pos 0)) z ts rest
prio_from _ _ _ (unwritten ts) = inr (refl, refl)
prio_from _ _ _ (written at w n ts e f) = inl (at, w, refl, prio_some (kind w) n e f)

a_number : kind (codes "1") ≡ Number (pos 1)
unfolding kind int_of signed_of magnitude wrapped
a_number = refl

pub law_prio : {P : Nest → Type 0} {n : ℕ} → WordSteps P (λ z. P) prio_word → Law P (λ z. P) (NoWord prio_word) n PrioS read_prio
unfolding read_prio
law_prio steps = law_map prio_to prio_from (law_optional prio_word (pos 0) (codes "1", pos 1, ap prio_of a_number) steps (λ q p. p))

-- ---- flags

-- a word that may be a flag more is one of the four
flag_by : (b c d e p m q r : Bool) (w x y z : Flags) (u : Flags)
    → (if b then (if p then None else Some w) else (if c then (if m then None else Some x) else (if d then (if q then None else Some y) else (if e then (if r then None else Some z) else None)))) ≡ Some u
    → (b || c || d || e) ≡ true
flag_by true c d e p m q r w x y z u h = refl
flag_by false true d e p m q r w x y z u h = refl
flag_by false false true e p m q r w x y z u h = refl
flag_by false false false true p m q r w x y z u h = refl
flag_by false false false false p m q r w x y z u h = cc

flag_is : (s u : Flags) (w : List ℕ) → with_flag s w ≡ Some u → is_flag w ≡ true
flag_is s u w h = flag_by (bytes_eq w (codes "pure")) (bytes_eq w (codes "multi")) (bytes_eq w (codes "partial")) (bytes_eq w (codes "rec")) s.pure s.multi s.partial s.recursive _ _ _ _ u h

-- no flag may follow
abbrev pub NoFlag : List Lexeme → Type 0
NoFlag = NoSuch is_flag

pub law_flags : {P : Nest → Type 0} {n : ℕ} → ((s : Flags) → WordSteps P (λ u. P) (with_flag s)) → Law P (λ v. P) NoFlag n (WordsFrom with_flag 4 no_flags) read_flags
unfolding read_flags
law_flags steps = law_words_from with_flag is_flag flag_is steps 4 no_flags

-- ---- marks of a type

abbrev any_word : List ℕ → Bool
any_word w = true

-- no word may follow
abbrev pub NoMark : List Lexeme → Type 0
NoMark = NoSuch any_word

pub law_marks : {P : Nest → Type 0} {n : ℕ} → ((s : Marks) → WordSteps P (λ u. P) (with_mark s)) → Law P (λ v. P) NoMark n (WordsFrom with_mark 2 no_marks) read_marks
unfolding read_marks
law_marks steps = law_words_from with_mark any_word (λ s u w h. refl) steps 2 no_marks
