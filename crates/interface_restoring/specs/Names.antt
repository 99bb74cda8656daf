-- Type names that are noted one after the other: of one owner and one number there is to be one name.
use Rattle.std.specs.Prelude.{Bool, true, false}
use Rattle.imported_interfaces.specs.declared.known.Standing.{Standing}
use Rattle.imported_interfaces.specs.declared.known.Standing.TheVariants as stands

-- whether no other name of its owner and its number is known
abbrev pub is_one : Standing → Bool
is_one stands.New = true
is_one stands.Same = true
is_one stands.Other = false
