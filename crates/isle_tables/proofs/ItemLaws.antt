-- The readers of items keep the law.
use Rattle.std.proofs.Common.{◌≡◌, ℕ, List, [], ◌∷◌, Bool, true, false, refl, ap, sym, ◌∙◌, subst, arith, Some, None}
use Rattle.std.specs.Prelude.{if◌then◌else◌, bytes_eq, codes}
use Rattle.std.proofs.lemmas.Slice.Eq.{bytes_eq-Decides}
use Rattle.isle_lexer.specs.Lexeme.{Lexeme, Open, Word}
use Rattle.isle_reading.specs.Relations.{Ended, AllFrom, no_item, an_item}
use Rattle.isle_reading.specs.Combinators.{stays}
use Rattle.isle_reading.proofs.Law.{Law, Some_token, Nothing, Then, law_map, law_next}
use Rattle.isle_reading.proofs.TokenLaws.{OpenS, Gives, law_ret}
use Rattle.isle_reading.proofs.ListLaws.{law_all_from}
use Rattle.isle_reading.proofs.States.{Opened}
use Rattle.isle_tables.specs.declared.item.Item.{Item}
use Rattle.isle_tables.specs.declared.item.Item.TheVariants as item
use Rattle.isle_tables.specs.declared.item.ItemHead.{ItemHead}
use Rattle.isle_tables.specs.declared.item.ItemHead.TheVariants as head
use Rattle.isle_tables.specs.Pieces.{Opens, Key, Says}
use Rattle.isle_tables.specs.Grammar.{ItemS, a_format, an_inst, an_x64, an_op, an_ext_op, ItemsS}
use Rattle.isle_tables.specs.Grammar as grammar
use Rattle.isle_tables.specs.Reading.{item_head_of, read_item_head, read_item_after, read_item, read_items}
use Rattle.isle_tables.proofs.PieceLaws.{Keeps, ended, opens, says}
use Rattle.isle_tables.proofs.FormatLaws.{FormatAfter, law_format, format_to, format_from}
use Rattle.isle_tables.proofs.InstLaws.{InstAfter, law_inst, inst_to, inst_from}
use Rattle.isle_tables.proofs.X64Laws.{X64After, law_x64, x64_to, x64_from}
use Rattle.isle_tables.proofs.OpLaws.{OpAfter, law_op, op_to, op_from}

-- the first word of an item
abbrev word_of : ItemHead → List ℕ
word_of head.Format = codes "format"
word_of head.Inst = codes "inst"
word_of head.X64 = codes "x64"
word_of head.Op = codes "op"
word_of head.ExtOp = codes "ext-op"

head_is : (w : List ℕ) (h : ItemHead) → item_head_of w ≡ Some h → w ≡ word_of h
head_is w h e = by (bytes_eq w (codes "format")) (bytes_eq w (codes "inst")) (bytes_eq w (codes "x64")) (bytes_eq w (codes "op")) (bytes_eq w (codes "ext-op")) refl refl refl refl refl e
  where
    by : (a b c d f : Bool) → bytes_eq w (codes "format") ≡ a → bytes_eq w (codes "inst") ≡ b → bytes_eq w (codes "x64") ≡ c → bytes_eq w (codes "op") ≡ d → bytes_eq w (codes "ext-op") ≡ f
        → (if a then Some head.Format else (if b then Some head.Inst else (if c then Some head.X64 else (if d then Some head.Op else (if f then Some head.ExtOp else None))))) ≡ Some h → w ≡ word_of h
    by true b c d f ea eb ec ed ef e = (bytes_eq-Decides w (codes "format")).0 ea ∙ ap word_of (let x : head.Format ≡ h = cc in x)
    by false true c d f ea eb ec ed ef e = (bytes_eq-Decides w (codes "inst")).0 eb ∙ ap word_of (let x : head.Inst ≡ h = cc in x)
    by false false true d f ea eb ec ed ef e = (bytes_eq-Decides w (codes "x64")).0 ec ∙ ap word_of (let x : head.X64 ≡ h = cc in x)
    by false false false true f ea eb ec ed ef e = (bytes_eq-Decides w (codes "op")).0 ed ∙ ap word_of (let x : head.Op ≡ h = cc in x)
    by false false false false true ea eb ec ed ef e = (bytes_eq-Decides w (codes "ext-op")).0 ef ∙ ap word_of (let x : head.ExtOp ≡ h = cc in x)
    by false false false false false ea eb ec ed ef e = cc

head_some : (h : ItemHead) → item_head_of (word_of h) ≡ Some h
head_some head.Format = refl
head_some head.Inst = refl
head_some head.X64 = refl
head_some head.Op = refl
head_some head.ExtOp = refl

a_head : Gives item_head_of
a_head = (codes "op", head.Op, refl)

-- what stands after the first word of an item
abbrev ItemAfter : ItemHead → Item → List Lexeme → List Lexeme → Type 0
ItemAfter head.Format = FormatAfter
ItemAfter head.Inst = InstAfter
ItemAfter head.X64 = X64After
ItemAfter head.Op = Then OpAfter (λ i. Nothing (item.Op i))
ItemAfter head.ExtOp = Then OpAfter (λ i. Nothing (item.ExtOp i))

law_item_after : (n : ℕ) (h : ItemHead) → Keeps 1 0 n (ItemAfter h) (read_item_after n h)
unfolding read_item_after
law_item_after n head.Format = law_format n
law_item_after n head.Inst = law_inst n
law_item_after n head.X64 = law_x64 n
law_item_after n head.Op = law_next _ _ (law_op n) (λ i. law_ret (item.Op i) (λ q p. p))
law_item_after n head.ExtOp = law_next _ _ (law_op n) (λ i. law_ret (item.ExtOp i) (λ q p. p))

abbrev ItemShape : Item → List Lexeme → List Lexeme → Type 0
ItemShape = Then OpenS (λ o. Then (Says item_head_of) (λ h. ItemAfter h))

after_to : (h : ItemHead) (i : Item) (ts t1 t2 rest : List Lexeme) → Opens ts t1 → Key (word_of h) t1 t2 → ItemAfter h i t2 rest → ItemS i ts rest
after_to head.Format i ts t1 t2 rest eo ek a = let x = format_to i ts t1 t2 rest eo ek a in subst (λ z. ItemS z ts rest) (sym x.1) (a_format x.0 ts rest x.2)
after_to head.Inst i ts t1 t2 rest eo ek a = let x = inst_to i ts t1 t2 rest eo ek a in subst (λ z. ItemS z ts rest) (sym x.1) (an_inst x.0 ts rest x.2)
after_to head.X64 i ts t1 t2 rest eo ek a = let x = x64_to i ts t1 t2 rest eo ek a in subst (λ z. ItemS z ts rest) (sym x.1) (an_x64 x.0 ts rest x.2)
after_to head.Op i ts t1 t2 rest eo ek (x, mid, a, (p, q)) = ended ItemS (item.Op x) i ts mid rest p q (an_op x ts mid (op_to (codes "op") x ts t1 t2 mid eo ek a))
after_to head.ExtOp i ts t1 t2 rest eo ek (x, mid, a, (p, q)) = ended ItemS (item.ExtOp x) i ts mid rest p q (an_ext_op x ts mid (op_to (codes "ext-op") x ts t1 t2 mid eo ek a))

item_to : (i : Item) (ts rest : List Lexeme) → ItemShape i ts rest → ItemS i ts rest
item_to i ts rest (o, t1, eo, (h, t2, (at, w, ew, eh), a)) = after_to h i ts t1 t2 rest (o, eo) (at, ew ∙ ap (λ z. Word at z ∷ t2) (head_is w h eh)) a

shaped : (h : ItemHead) (i : Item) (ts t1 t2 rest : List Lexeme) → Opens ts t1 → Key (word_of h) t1 t2 → ItemAfter h i t2 rest → ItemShape i ts rest
shaped h i ts t1 t2 rest eo ek a = (eo.0, t1, eo.1, (h, t2, (ek.0, word_of h, ek.1, head_some h), a))

item_from : (i : Item) (ts rest : List Lexeme) → ItemS i ts rest → ItemShape i ts rest
item_from _ _ _ (a_format f ts rest s) = let x = format_from f ts rest s in shaped head.Format (item.Format f) ts x.0 x.1 rest x.2 x.3 x.4
item_from _ _ _ (an_inst r ts rest s) = let x = inst_from r ts rest s in shaped head.Inst (item.Inst r) ts x.0 x.1 rest x.2 x.3 x.4
item_from _ _ _ (an_x64 i ts rest s) = let x = x64_from i ts rest s in shaped head.X64 (item.X64 i) ts x.0 x.1 rest x.2 x.3 x.4
item_from _ _ _ (an_op i ts rest s) = let x = op_from (codes "op") i ts rest s in shaped head.Op (item.Op i) ts x.0 x.1 rest x.2 x.3 (i, rest, x.4, (refl, refl))
item_from _ _ _ (an_ext_op i ts rest s) = let x = op_from (codes "ext-op") i ts rest s in shaped head.ExtOp (item.ExtOp i) ts x.0 x.1 rest x.2 x.3 (i, rest, x.4, (refl, refl))

pub law_item : (n : ℕ) → Keeps 0 0 n ItemS (read_item n)
unfolding read_item read_item_head
law_item n = law_map item_to item_from
    (law_next _ _ (opens 0 n (omega arith)) (λ o.
    law_next _ _ (says 1 n item_head_of a_head (omega arith)) (λ h.
    law_item_after n h)))

item_token : (i : Item) (ts rest : List Lexeme) → ItemS i ts rest → Some_token ts
item_token i ts rest s = let x = item_from i ts rest s in (Open x.0, x.1, x.2)

-- ---- all items

-- items up to the end, and nothing after them
abbrev pub WholeS : List Item → List Lexeme → List Lexeme → Type 0
WholeS is ts rest = ItemsS is ts × (rest ≡ [])

abbrev Items : Unit {0} → List Item → List Lexeme → List Lexeme → Type 0
Items = AllFrom (λ s. ItemS) stays

items_to : (is : List Item) (ts rest : List Lexeme) → Items tt is ts rest → WholeS is ts rest
items_to _ _ _ (no_item s) = (grammar.no_item, refl)
items_to _ _ _ (an_item s i others ts rest x m) = (grammar.an_item i others ts rest x (items_to others rest [] m).0, refl)

items_all : (is : List Item) (ts : List Lexeme) → ItemsS is ts → Items tt is ts []
items_all _ _ grammar.no_item = no_item tt
items_all _ _ (grammar.an_item i others ts rest x m) = an_item tt i others ts rest x (items_all others rest m)

items_from : (is : List Item) (ts rest : List Lexeme) → WholeS is ts rest → Items tt is ts rest
items_from is ts rest (s, e) = subst (λ z. Items tt is ts z) (sym e) (items_all is ts s)

pub law_items : (n : ℕ) → Law (Opened 0) (λ is. Opened 0) Ended n WholeS (read_items n)
unfolding read_items
law_items n = law_map items_to items_from (law_all_from (Opened 0) n (λ s. ItemS) (λ s. read_item n) stays (λ s. law_item n) (λ s i ts rest x. tt) tt (λ s. item_token) n (omega arith) tt)
