-- The owners of the names that a realisation replaces, and environments in which no name of theirs stands.
use Rattle.std.specs.Prelude.{Bool, true, false, not, ◌&&◌, List, [], ◌∷◌}
use Rattle.semantic_objects.specs.declared.name.Owner.{Owner}
use Rattle.semantic_objects.specs.declared.name.Owner.TheVariants as owner
use Rattle.env_parts.specs.declared.facts.Facts.{Facts}
use Rattle.type_walks.specs.declared.replacing.Replace.{Replace}
use Rattle.environment_walks.specs.declared.owners.Owners.{Owners}

-- whether names of an owner are among those that are replaced
abbrev pub owned : Owners → Owner → Bool
owned owners owner.Basis = owners.basis
owned owners (owner.«Unit» home) = owners.units
owned owners owner.Bound = owners.bound

-- no owner
abbrev pub no_owners : Owners
no_owners = record { basis = false; units = false; bound = false }

-- one owner more
abbrev pub with_owner : Owners → Owner → Owners
with_owner owners owner.Basis = record { basis = true; units = owners.units; bound = owners.bound }
with_owner owners (owner.«Unit» home) = record { basis = owners.basis; units = true; bound = owners.bound }
with_owner owners owner.Bound = record { basis = owners.basis; units = owners.units; bound = true }

-- the owners of all names of a list more
abbrev pub with_owners : Owners → List Replace → Owners
with_owners owners [] = owners
with_owners owners (one ∷ list) = with_owners (with_owner owners one.name.owner) list

-- the owners of the names that a list replaces
abbrev pub owners_of : List Replace → Owners
owners_of list = with_owners no_owners list

-- no name of the owners stands in the types of which these are the facts. Whether names of the basis stand there isn't
-- kept
abbrev pub stands_outside : Owners → Facts → Bool
stands_outside owners facts =
    not owners.basis && (not (owners.units && facts.has_unit_name) && not (owners.bound && facts.has_bound_name))
