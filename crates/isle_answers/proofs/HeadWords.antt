-- What the first word of a list says.
use Rattle.std.proofs.Common.{◌≡◌, ℕ, List, Bool, true, false, refl, ap, ◌∙◌, subst, Option, Some, None}
use Rattle.std.specs.Prelude.{if◌then◌else◌, ◌||◌, option_map, bytes_eq, codes}
use Rattle.std.proofs.lemmas.Slice.Eq.{bytes_eq-Decides}
use Rattle.isle_lexer.specs.Word.{kind, names, IsName}
use Rattle.isle_reading.specs.Names.{name_of}
use Rattle.isle_reading.proofs.NameLaws.{name_some}
use Rattle.isle_answers.specs.Words.{is_reserved}
use Rattle.isle_answers.specs.Reading.{ResultHead, TupleHead, MadeHead, AnswerHead, SomeHead, NoneHead, ListHead, ResultIs, result_head_of, answer_head_of}

-- ---- a result's list

abbrev pub IsResultHead : ResultHead → List ℕ → Type 0
IsResultHead TupleHead w = w ≡ codes "tuple"
IsResultHead (MadeHead v) w = (v ≡ w) × IsName w × (is_reserved w ≡ false)

result_by : (a b : Bool) (w : List ℕ) (h : ResultHead) → bytes_eq w (codes "tuple") ≡ a → is_reserved w ≡ b
    → (if a then Some TupleHead else (if b then None else option_map (λ name. MadeHead name) (name_of w))) ≡ Some h → IsResultHead h w
result_by true b w h e f g = subst (λ z. IsResultHead z w) (let x : TupleHead ≡ h = cc in x) ((bytes_eq-Decides w (codes "tuple")).0 e)
result_by false true w h e f g = cc
result_by false false w h e f g = named (names (kind w)) refl g
  where
    named : (n : Bool) → names (kind w) ≡ n → option_map (λ name. MadeHead name) (if n then Some w else None) ≡ Some h → IsResultHead h w
    named true k g = subst (λ z. IsResultHead z w) (let x : MadeHead w ≡ h = cc in x) (refl, k, f)
    named false k g = cc

pub result_head_is : (w : List ℕ) (h : ResultHead) → result_head_of w ≡ Some h → IsResultHead h w
result_head_is w h e = result_by (bytes_eq w (codes "tuple")) (is_reserved w) w h refl refl e

-- none of four
four_false : (a b c d : Bool) → (a || b || c || d) ≡ false → (a ≡ false) × (b ≡ false) × (c ≡ false) × (d ≡ false)
four_false false false false false e = (refl, refl, refl, refl)
four_false true b c d e = cc
four_false false true c d e = cc
four_false false false true d e = cc
four_false false false false true e = cc

-- a word of no form is none of the four
pub not_reserved : (w : List ℕ) → is_reserved w ≡ false
    → (bytes_eq w (codes "some") ≡ false) × (bytes_eq w (codes "none") ≡ false) × (bytes_eq w (codes "list") ≡ false) × (bytes_eq w (codes "tuple") ≡ false)
not_reserved w e = four_false (bytes_eq w (codes "some")) (bytes_eq w (codes "none")) (bytes_eq w (codes "list")) (bytes_eq w (codes "tuple")) e

pub made_head : (w : List ℕ) → IsName w → is_reserved w ≡ false → result_head_of w ≡ Some (MadeHead w)
made_head w n r =
    ap (λ a. if a then Some TupleHead else (if is_reserved w then None else option_map (λ name. MadeHead name) (name_of w))) (not_reserved w r).3
    ∙ ap (λ b. if b then None else option_map (λ name. MadeHead name) (name_of w)) r ∙ ap (option_map (λ name. MadeHead name)) (name_some w n)

pub tuple_head : (w : List ℕ) → w ≡ codes "tuple" → result_head_of w ≡ Some TupleHead
tuple_head w e = ap result_head_of e

-- ---- an answer's list

abbrev pub IsAnswerHead : AnswerHead → List ℕ → Type 0
IsAnswerHead SomeHead w = w ≡ codes "some"
IsAnswerHead NoneHead w = w ≡ codes "none"
IsAnswerHead ListHead w = w ≡ codes "list"
IsAnswerHead (ResultIs h) w = result_head_of w ≡ Some h

answer_by : (a b c : Bool) (o : Option ResultHead) (w : List ℕ) (h : AnswerHead) → bytes_eq w (codes "some") ≡ a → bytes_eq w (codes "none") ≡ b → bytes_eq w (codes "list") ≡ c → result_head_of w ≡ o
    → (if a then Some SomeHead else (if b then Some NoneHead else (if c then Some ListHead else option_map (λ x. ResultIs x) o))) ≡ Some h → IsAnswerHead h w
answer_by true b c o w h e f g i k = subst (λ z. IsAnswerHead z w) (let x : SomeHead ≡ h = cc in x) ((bytes_eq-Decides w (codes "some")).0 e)
answer_by false true c o w h e f g i k = subst (λ z. IsAnswerHead z w) (let x : NoneHead ≡ h = cc in x) ((bytes_eq-Decides w (codes "none")).0 f)
answer_by false false true o w h e f g i k = subst (λ z. IsAnswerHead z w) (let x : ListHead ≡ h = cc in x) ((bytes_eq-Decides w (codes "list")).0 g)
answer_by false false false None w h e f g i k = cc
answer_by false false false (Some r) w h e f g i k = subst (λ z. IsAnswerHead z w) (let x : ResultIs r ≡ h = cc in x) i

pub answer_head_is : (w : List ℕ) (h : AnswerHead) → answer_head_of w ≡ Some h → IsAnswerHead h w
answer_head_is w h e = answer_by (bytes_eq w (codes "some")) (bytes_eq w (codes "none")) (bytes_eq w (codes "list")) (result_head_of w) w h refl refl refl refl e

pub some_head : (w : List ℕ) → w ≡ codes "some" → answer_head_of w ≡ Some SomeHead
some_head w e = ap answer_head_of e

pub none_head : (w : List ℕ) → w ≡ codes "none" → answer_head_of w ≡ Some NoneHead
none_head w e = ap answer_head_of e

pub list_head : (w : List ℕ) → w ≡ codes "list" → answer_head_of w ≡ Some ListHead
list_head w e = ap answer_head_of e

pub own_head : (w : List ℕ) → IsName w → is_reserved w ≡ false → answer_head_of w ≡ Some (ResultIs (MadeHead w))
own_head w n r =
    let x = not_reserved w r in
    ap (λ a. if a then Some SomeHead else (if bytes_eq w (codes "none") then Some NoneHead else (if bytes_eq w (codes "list") then Some ListHead else option_map (λ h. ResultIs h) (result_head_of w)))) x.0
    ∙ ap (λ b. if b then Some NoneHead else (if bytes_eq w (codes "list") then Some ListHead else option_map (λ h. ResultIs h) (result_head_of w))) x.1
    ∙ ap (λ c. if c then Some ListHead else option_map (λ h. ResultIs h) (result_head_of w)) x.2
    ∙ ap (option_map (λ h. ResultIs h)) (made_head w n r)

pub plain_tuple_head : (w : List ℕ) → w ≡ codes "tuple" → answer_head_of w ≡ Some (ResultIs TupleHead)
plain_tuple_head w e = ap answer_head_of e
