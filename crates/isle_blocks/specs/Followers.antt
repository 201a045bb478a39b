-- The inner values of calls, and the items of lists.
use Rattle.std.specs.Prelude.{◌≡◌, ℕ, ◌<◌, ltb, List, Option, Some, None, if◌then◌else◌, slice_get}
use Rattle.isle_core.specs.BindingParts.{list_of, option_of}
use Rattle.isle_core.specs.declared.BindingId.{BindingId}
use Rattle.isle_core.specs.declared.rule_sets.Binding.{Binding}
use Rattle.isle_core.specs.declared.rule_sets.Binding.TheVariants as binding
use Rattle.isle_blocks.specs.declared.followers.Following.{Following}
use Rattle.isle_blocks.specs.declared.followers.Following.TheVariants as following

-- what stands after a source: its inner value, or its item
abbrev pub follower : Following → BindingId → Binding
follower following.Inner source = binding.MatchSome source
follower following.Item source = binding.Iterator source

-- what such a binding stands after
abbrev pub followed : Following → Binding → Option BindingId
followed following.Inner b = option_of b
followed following.Item b = list_of b

-- a source that stands before this place
abbrev pub earlier : ℕ → Option BindingId → Option BindingId
earlier place None = None
earlier place (Some source) = if ltb source.0 place then Some source else None

-- the source of a binding at a place, where it stands before it
abbrev pub source_at : Following → ℕ → Binding → Option BindingId
source_at kind place b = earlier place (followed kind b)

-- by the number of a source, the number of what follows it, if there is one after it
pub record FindsFollowers (kind : Following) (bs : List Binding) (followers : ℕ → Option BindingId) : Type 0 where
  pub found : (c : ℕ) (b : BindingId) → followers c ≡ Some b → (slice_get bs b.0 ≡ Some (follower kind (record { 0 = c }))) × (c < b.0)
  pub all : (source b : BindingId) → slice_get bs b.0 ≡ Some (follower kind source) → source.0 < b.0 → (e : BindingId) × (followers source.0 ≡ Some e)

-- so of inner values, and of items
abbrev pub FindsInners : List Binding → (ℕ → Option BindingId) → Type 0
FindsInners bs inners = FindsFollowers following.Inner bs inners

abbrev pub FindsItems : List Binding → (ℕ → Option BindingId) → Type 0
FindsItems bs items = FindsFollowers following.Item bs items
