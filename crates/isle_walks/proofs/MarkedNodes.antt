-- Nodes that are marked one after the other.
use Rattle.std.proofs.Common.{◌≡◌, ⊎_elim, ℕ, ◌+◌, ◌<◌, List, length, Contains, sym, ap, ◌∙◌, arith, slice_index, slice_set}
use Rattle.std.proofs.lemmas.Bool.{cases_eq, cases_lt}
use Rattle.std.proofs.lemmas.List.{get_or-set_same, get_or-set_other}
use Rattle.std.proofs.lemmas.List.Elements.{Contains-get_or}
use Rattle.isle_walks.specs.Parts.{mark_of}
use Rattle.isle_walks.specs.declared.parts.Mark.{Mark}
use Rattle.isle_walks.specs.declared.parts.Mark.TheVariants.{New}

-- a node of a list whose nodes are there
pub node_there : (nodes : List ℕ) (many now place : ℕ) → ((node : ℕ) → Contains nodes node → node < many) → now ≡ many → place < length nodes → slice_index nodes place < now
node_there nodes many now place there is lt = let within = there (slice_index nodes place) (Contains-get_or nodes place 0 lt) in omega arith

module _ (began marks : List Mark) (nodes : List ℕ) (mark : Mark) (place : ℕ) (there : slice_index nodes place < length marks) where
  pub marked_more : ((k : ℕ) → k < place → mark_of marks (slice_index nodes k) ≡ mark) → (k : ℕ) → k < place + 1 → mark_of (slice_set marks (slice_index nodes place) mark) (slice_index nodes k) ≡ mark
  marked_more marked k lt = ⊎_elim
      (λ is. ap (mark_of (slice_set marks (slice_index nodes place) mark)) is ∙ get_or-set_same marks (slice_index nodes place) mark New there)
      (λ differs. get_or-set_other marks (slice_index nodes place) (slice_index nodes k) mark New differs
      ∙ marked k (⊎_elim (λ before. before) (λ le. let is : k ≡ place = omega arith in absurd (differs (ap (slice_index nodes) is))) (cases_lt k place)))
      (cases_eq (slice_index nodes k) (slice_index nodes place))

  pub same_more : ((other : ℕ) → ((k : ℕ) → k < place → slice_index nodes k ≡ other → ⊥) → mark_of marks other ≡ mark_of began other) → (other : ℕ) → ((k : ℕ) → k < place + 1 → slice_index nodes k ≡ other → ⊥) → mark_of (slice_set marks (slice_index nodes place) mark) other ≡ mark_of began other
  same_more same other outside = get_or-set_other marks (slice_index nodes place) other mark New (λ is. outside place (omega arith) (sym is)) ∙ same other (λ k lt. outside k (omega arith))
