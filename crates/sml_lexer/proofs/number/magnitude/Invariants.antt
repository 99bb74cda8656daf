use Rattle.std.proofs.Common.{◌≡◌, ◌≤◌, ◌^◌, drop}
use Rattle.std.specs.List.{list_all}
use Rattle.std.specs.Char.{is_digit}
use Rattle.std.specs.Str.Parse.{digits_value, digits_value_after}
use Rattle.sml_lexer.proofs.number.magnitude.Given as goal

-- the digits read so far and those that are left write the number of all
abbrev pub invariant-loop-byte : goal.invariant-loop-byte
invariant-loop-byte l = record {
  bound : l.value ≤ 2 ^ 63;
  value : digits_value_after l.radix l.value (drop l.byte-index l.digits) ≡ digits_value l.radix l.digits;
  digits : list_all (λ c. is_digit c l.radix) (drop l.byte-index l.digits) ≡ list_all (λ c. is_digit c l.radix) l.digits;
}
