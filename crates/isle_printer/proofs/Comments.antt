-- Comment lines spell no token but comments.
use Rattle.std.proofs.Common.{◌≡◌, ℕ, List, [], ◌∷◌, ◌++◌, Bool, true, false, cond, eqb, refl, sym, ap, ◌∙◌, append_assoc}
use Rattle.std.specs.Prelude.{fold}
use Rattle.std.specs.List.{list_all}
use Rattle.std.proofs.lemmas.Bool.{and_parts, and_from}
use Rattle.isle_printer.specs.Token.{Token, Comment, Between, InComment, is_read, without_comments, begun, step, scan, finished, tokens_of}
use Rattle.isle_printer.specs.Comment.{is_line, are_lines, comment_lines}
use Rattle.isle_printer.proofs.After.{tokens-after}

no_end : (x y : Bool) → cond x false y ≡ true → (x ≡ false) × (y ≡ true)
no_end true y h = absurd cc
no_end false y h = (refl, h)

skipped : (ts : List Token) (text rest : List ℕ) → is_line text ≡ true → fold step (record { tokens = ts; state = InComment }) (text ++ 10 ∷ rest) ≡ fold step (record { tokens = ts; state = Between }) rest
unfolding step
skipped ts [] rest h = refl
skipped ts (b ∷ bs) rest h =
    let parts = no_end (eqb b 10) _ h in
    let stays : step (record { tokens = ts; state = InComment }) b ≡ record { tokens = ts; state = InComment } = rw parts.0 refl in
    ap (λ x. fold step x (bs ++ 10 ∷ rest)) stays ∙ skipped ts bs rest parts.1

-- a comment line at the begin of a text
scan-comment : (text rest : List ℕ) → is_line text ≡ true → scan (47 ∷ 47 ∷ (text ++ 10 ∷ rest)) ≡ fold step (record { tokens = Comment ∷ []; state = Between }) rest
unfolding step begun
scan-comment text rest h = skipped (Comment ∷ []) text rest h

-- a comment line is one comment, and nothing is begun after it
scan-comment_alone : (text : List ℕ) → is_line text ≡ true → scan (47 ∷ 47 ∷ (text ++ 10 ∷ [])) ≡ record { tokens = Comment ∷ []; state = Between }
scan-comment_alone text h = scan-comment text [] h

-- a comment more among those of the text after it
tokens-comment : (text rest : List ℕ) → is_line text ≡ true → tokens_of (47 ∷ 47 ∷ (text ++ 10 ∷ rest)) ≡ Comment ∷ tokens_of rest
tokens-comment text rest h =
    ap tokens_of (ap (λ t. 47 ∷ 47 ∷ t) (sym (append_assoc text (10 ∷ []) rest)))
    ∙ tokens-after (47 ∷ 47 ∷ (text ++ 10 ∷ [])) rest (ap (λ s. s.state) (scan-comment_alone text h))
    ∙ ap (λ s. finished s ++ tokens_of rest) (scan-comment_alone text h)

-- the tokens after comment lines are all that is read
pub tokens-comment_lines : (ls : List (List ℕ)) (rest : List ℕ) → are_lines ls ≡ true → without_comments (tokens_of (comment_lines ls ++ rest)) ≡ without_comments (tokens_of rest)
tokens-comment_lines [] rest h = refl
tokens-comment_lines (l ∷ ls) rest h =
    let parts = and_parts (is_line l) _ h in
    ap without_comments (ap (λ t. tokens_of (47 ∷ 47 ∷ t)) (append_assoc l (10 ∷ comment_lines ls) rest) ∙ tokens-comment l (comment_lines ls ++ rest) parts.0)
    ∙ tokens-comment_lines ls rest parts.1

-- if no comment is among the tokens, all are read
pub all_read : (ts : List Token) → list_all is_read ts ≡ true → without_comments ts ≡ ts
all_read [] h = refl
all_read (t ∷ ts) h = let parts = and_parts (is_read t) _ h in rw parts.0 (ap (λ us. t ∷ us) (all_read ts parts.1))

-- two lists of tokens that are read
pub both_read : (ts us : List Token) → list_all is_read ts ≡ true → list_all is_read us ≡ true → list_all is_read (ts ++ us) ≡ true
both_read [] us h k = k
both_read (t ∷ ts) us h k = let parts = and_parts (is_read t) _ h in and_from _ _ parts.0 (both_read ts us parts.1 k)

-- comment lines, and then more
pub comment_lines-append : (ks ls : List (List ℕ)) → comment_lines (ks ++ ls) ≡ comment_lines ks ++ comment_lines ls
comment_lines-append [] ls = refl
comment_lines-append (k ∷ ks) ls =
    ap (λ t. 47 ∷ 47 ∷ (k ++ 10 ∷ t)) (comment_lines-append ks ls) ∙ ap (λ t. 47 ∷ 47 ∷ t) (sym (append_assoc k (10 ∷ comment_lines ks) (comment_lines ls)))

pub are_lines-append : (ks ls : List (List ℕ)) → are_lines ks ≡ true → are_lines ls ≡ true → are_lines (ks ++ ls) ≡ true
are_lines-append [] ls h k = k
are_lines-append (l ∷ ks) ls h k = let parts = and_parts (is_line l) _ h in and_from _ _ parts.0 (are_lines-append ks ls parts.1 k)
