-- Names with their places in a list for their numbers.
use Rattle.std.specs.Prelude.{List, Bool, cond, not}
use Rattle.semantic_objects.specs.declared.name.TyName.{TyName}
use Rattle.realisation.specs.Names.{is_listed, place_in}
use Rattle.realisation.specs.Canonical.{with_number}

-- names that aren't in the list stay
abbrev pub by_order : List TyName → TyName → TyName
by_order order name = cond (is_listed name order) (with_number (place_in name order) name) name

-- whether a name is in a list, or isn't
abbrev pub is_of : List TyName → Bool → TyName → Bool
is_of among are name = cond are (is_listed name among) (not (is_listed name among))
