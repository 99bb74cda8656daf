-- Arithmetic of 64 bits. Division rounds down, as `div` and `mod` of Standard ML do.
use Rattle.std.specs.Prelude.{◌^◌, ◌&&◌, Bool, Option, None, Some, nat_lt, if◌then◌else◌, ℤ, pos, negsuc, ◌+ℤ◌, ◌-ℤ◌, int_lt}
use Rattle.std.specs.Int.{int_div_euclid, int_rem_euclid}
use Rattle.std.specs.Ordering.{int_eq}

-- a number from -2^63 up to 2^63 - 1, or none
abbrev pub in_range : ℤ → Option ℤ
in_range (pos n) = if nat_lt n (2 ^ 63) then Some (pos n) else None
in_range (negsuc n) = if nat_lt n (2 ^ 63) then Some (negsuc n) else None

abbrev pub truth : Bool → ℤ
truth holds = if holds then pos 1 else pos 0

-- Euclid's remainder is never negative. Where the divisor is and something remains, the quotient rounded down is one
-- less, and its remainder one divisor more.
abbrev pub rounds_on : ℤ → ℤ → Bool
rounds_on x y = int_lt y (pos 0) && int_lt (pos 0) (int_rem_euclid x y)

abbrev pub floor_quotient : ℤ → ℤ → ℤ
floor_quotient x y = if rounds_on x y then int_div_euclid x y -ℤ pos 1 else int_div_euclid x y

abbrev pub floor_remainder : ℤ → ℤ → ℤ
floor_remainder x y = if rounds_on x y then int_rem_euclid x y +ℤ y else int_rem_euclid x y

-- the quotient rounded down: none by 0, and none where it has more than 64 bits
abbrev pub div_of : ℤ → ℤ → Option ℤ
div_of x y = if int_eq y (pos 0) then None else in_range (floor_quotient x y)

-- what that quotient leaves: none by 0
abbrev pub mod_of : ℤ → ℤ → Option ℤ
mod_of x y = if int_eq y (pos 0) then None else Some (floor_remainder x y)
