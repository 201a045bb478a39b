-- A number's bits in places, and numbers made from bits.
use Rattle.std.specs.Prelude.{ℕ, zero, suc, ◌+◌, ◌-◌, ◌*◌, ◌/◌, ◌%◌, ◌^◌, Bool, ◌==◌, ◌&&◌, nat_le, nat_lt, max, if◌then◌else◌}

-- the bit at a place, 0 or 1
abbrev pub bit : ℕ → ℕ → ℕ
bit n place = n / 2 ^ place % 2

-- the number that has these bits in the lowest k places, and no others
unfoldable pub of_places : ℕ → (ℕ → ℕ) → ℕ
of_places zero bits = 0
of_places (suc k) bits = of_places k bits + bits k * 2 ^ k

-- 1 where both bits are 1
abbrev pub both : ℕ → ℕ → ℕ → ℕ
both p q place = bit p place * bit q place

-- 1 where at least one of the bits is 1
abbrev pub either : ℕ → ℕ → ℕ → ℕ
either p q place = max (bit p place) (bit q place)

-- 1 where one of the bits is 1 and the other is 0
abbrev pub differs : ℕ → ℕ → ℕ → ℕ
differs p q place = (bit p place + bit q place) % 2

-- 1 where the bit is 0
abbrev pub opposite : ℕ → ℕ → ℕ
opposite p place = 1 - bit p place

-- the bits turned by an amount below k towards the high end: the low ones move up, and the high ones come in below
abbrev pub turned : ℕ → ℕ → ℕ → ℕ
turned k p amount = p * 2 ^ amount + p / 2 ^ (k - amount)

-- the greatest place up to the given one whose power of 2 isn't above n, or 0
unfoldable pub highest_power : ℕ → ℕ → ℕ
highest_power zero n = 0
highest_power (suc place) n = if nat_le (2 ^ suc place) n then suc place else highest_power place n

-- the greatest k below 128 with 2 to the power k not above n
unfoldable pub log2 : ℕ → ℕ
log2 n = highest_power 127 n

-- 2 to some power
abbrev pub is_power : ℕ → Bool
is_power n = nat_lt 0 n && (n == 2 ^ log2 n)
