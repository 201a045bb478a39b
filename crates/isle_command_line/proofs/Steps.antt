-- Words, read one by one.
use Rattle.std.proofs.Common.{◌≡◌, ℕ, ◌+◌, ◌<◌, List, [], ◌∷◌, ◌++◌, length, take, get_or, Option, Some, None, refl, ap, sym, ◌∙◌, subst}
use Rattle.std.specs.Prelude.{String, IsSome}
use Rattle.std.specs.String.{string_bytes}
use Rattle.std.specs.List.{take-map}
use Rattle.std.specs.declared.alloc.Global.{Global}
use Rattle.std.proofs.lemmas.List.{take_more, map-append, length-map}
use Rattle.isle_core.specs.Inputs.{bytes_each}
use Rattle.isle_command_line.specs.Reading.{next, onward, read, StopsAt}
use Rattle.isle_command_line.specs.Known.{Known}
use Rattle.isle_command_line.specs.Known.{Begin}

pub read_append : (s : Known) (ws vs : List (List ℕ)) → read s (ws ++ vs) ≡ onward (read s ws) (λ t. read t vs)
read_append s [] vs = refl
read_append s (w ∷ ws) vs = by (next s w) (λ t. read_append t ws vs)
  where
    by : (o : Option Known) → ((t : Known) → read t (ws ++ vs) ≡ onward (read t ws) (λ t. read t vs))
        → onward o (λ t. read t (ws ++ vs)) ≡ onward (onward o (λ t. read t ws)) (λ t. read t vs)
    by None ih = refl
    by (Some t) ih = ih t

keep : (o : Option Known) → onward o (λ t. Some t) ≡ o
keep None = refl
keep (Some t) = refl

-- one word more
pub one_word : (words : List (String Global)) (i : ℕ) (x : String Global) (s : Known) (o : Option Known) → i < length words → x ≡ get_or words i x
    → read Begin (bytes_each (take i words)) ≡ Some s → next s (string_bytes x) ≡ o → read Begin (bytes_each (take (i + 1) words)) ≡ o
one_word words i x s o lt is before e =
    let all : take (i + 1) words ≡ take i words ++ x ∷ [] = take_more words i x lt ∙ ap (λ y. take i words ++ y ∷ []) (sym is) in
    let each : bytes_each (take (i + 1) words) ≡ bytes_each (take i words) ++ string_bytes x ∷ [] = ap bytes_each all ∙ map-append string_bytes (take i words) (x ∷ []) in
    ap (read Begin) each ∙ read_append Begin (bytes_each (take i words)) (string_bytes x ∷ [])
    ∙ ap (λ r. onward r (λ t. read t (string_bytes x ∷ []))) before ∙ keep (next s (string_bytes x)) ∙ e

-- a word with which no line continues
pub stops_at : (words : List (String Global)) (i : ℕ) (x : String Global) (s : Known) → i < length words → x ≡ get_or words i x
    → read Begin (bytes_each (take i words)) ≡ Some s → next s (string_bytes x) ≡ None → StopsAt (bytes_each words) i
stops_at words i x s lt is before e = record {
  found = subst (λ n. i < n) (sym (length-map words string_bytes)) lt;
  before = subst IsSome (sym (ap (read Begin) (take-map string_bytes i words) ∙ before)) refl;
  bad = ap (read Begin) (take-map string_bytes (i + 1) words) ∙ one_word words i x s None lt is before e;
}
