-- Bytes of names.
use Rattle.std.specs.Prelude.{ℕ, Bool, ◌&&◌, nat_lt}

-- a byte from 33 to 126
abbrev pub is_graph : ℕ → Bool
is_graph b = nat_lt 32 b && nat_lt b 127
