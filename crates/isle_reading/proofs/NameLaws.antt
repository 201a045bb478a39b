-- The law of the reader of names.
use Rattle.std.proofs.Common.{◌≡◌, ℕ, List, Bool, true, false, refl, ap, sym, subst, Some, None}
use Rattle.std.specs.Prelude.{if◌then◌else◌, codes}
use Rattle.isle_lexer.specs.Lexeme.{Lexeme, Word}
use Rattle.isle_lexer.specs.Word.{Plain, kind, names, IsName}
use Rattle.isle_reading.specs.Combinators.{is_close}
use Rattle.isle_reading.specs.Names.{NameS, symbol, name_of, read_name}
use Rattle.isle_reading.specs.Nesting.{Nest}
use Rattle.isle_reading.proofs.Law.{Law, Heads, law_map}
use Rattle.isle_reading.proofs.TokenLaws.{WordS, WordSteps, Gives, law_word}

-- what a test lets through
pub if_some : {A : Type 0} (b : Bool) (a c : A) → (if b then Some a else None) ≡ Some c → (b ≡ true) × (c ≡ a)
if_some true a c e = (refl, let x : c ≡ a = cc in x)
if_some false a c e = cc

pub a_plain : kind (codes "a") ≡ Plain
unfolding kind
a_plain = refl

pub name_some : (w : List ℕ) → IsName w → name_of w ≡ Some w
name_some w h = ap (λ b. if b then Some w else None) h

pub a_named : IsName (codes "a")
a_named = ap names a_plain

pub name_to : (w : List ℕ) (ts rest : List Lexeme) → WordS name_of w ts rest → NameS w ts rest
name_to w ts rest (at, v, e, h) =
    let x = if_some (names (kind v)) v w h in
    subst (λ z. NameS z ts rest) (sym x.1) (subst (λ z. NameS v z rest) (sym e) (symbol at v rest x.0))

pub name_from : (w : List ℕ) (ts rest : List Lexeme) → NameS w ts rest → WordS name_of w ts rest
name_from _ _ _ (symbol at w ts h) = (at, w, refl, name_some w h)

pub a_name : Gives name_of
a_name = (codes "a", codes "a", name_some (codes "a") a_named)

pub law_name : {P : Nest → Type 0} {E : List ℕ → Nest → Type 0} {C : List Lexeme → Type 0} {n : ℕ} → WordSteps P E name_of → Law P E C n NameS read_name
unfolding read_name
law_name steps = law_map name_to name_from (law_word name_of a_name steps)

-- a name is no parenthesis
pub name_heads : (w : List ℕ) (ts rest : List Lexeme) → NameS w ts rest → Heads is_close false ts
name_heads _ _ _ (symbol at w ts h) = (Word at w, ts, refl, refl)
