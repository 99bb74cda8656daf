-- Type names that are known while imports are read, each once by its owner and its number: those of the basis and those
-- that the interfaces so far write.
use Rattle.std.specs.Prelude.{◌≡◌, ℕ, List, [], ◌∷◌, ◌++◌, map, Bool, true, false, not, ◌&&◌, ◌||◌, cond}
use Rattle.semantic_objects.specs.declared.name.Owner.{Owner}
use Rattle.semantic_objects.specs.declared.name.TyName.{TyName}
use Rattle.semantic_objects.specs.Symbols.{same_name}
use Rattle.realisation.specs.Names.{is_listed}
use Rattle.realisation.specs.Canonical.{is_bound_name}
use Rattle.type_walks.specs.Tables.{AreTold}
use Rattle.interface_format.specs.Rules.{Agree}
use Rattle.initial_basis.specs.Basis.{basis_type_names}
use Rattle.imported_interfaces.specs.declared.known.Standing.{Standing}
use Rattle.imported_interfaces.specs.declared.known.Standing.TheVariants as stands
use Rattle.imported_interfaces.specs.declared.known.KnownNames.{KnownNames}
use Rattle.imported_interfaces.specs.Usable.{is_of_basis, is_of_another, writes_the_basis}

-- a name with its owner and its number alone
abbrev pub key_of : TyName → TyName
key_of name = record { owner = name.owner; number = name.number; arity = 0; eq = false }

-- the keys are those of the names, and the table tells their places
pub record AreKept (known : KnownNames) : Type 0 where
  pub keys : known.keys.names ≡ map key_of known.names
  pub told : AreTold known.keys

-- what is known of a name: the first one of its owner with its number counts
abbrev pub standing_by : Bool → Standing
standing_by same = cond same stands.Same stands.Other

abbrev pub standing : TyName → List TyName → Standing
standing name [] = stands.New
standing name (m ∷ ms) =
    cond (same_name (key_of name) (key_of m)) (standing_by (same_name m name)) (standing name ms)

-- a new name isn't of the basis
abbrev pub may_stand : Standing → Owner → Bool
may_stand stands.New owner = not (is_of_basis owner)
may_stand stands.Same owner = true
may_stand stands.Other owner = false

abbrev pub fits : List TyName → List ℕ → TyName → Bool
fits known unit name = is_bound_name name || (is_of_another unit name && may_stand (standing name known) name.owner)

-- names and one more, where it isn't bound and none is known in its place
abbrev pub with_new : Standing → List TyName → TyName → List TyName
with_new stands.New known name = known ++ name ∷ []
with_new stands.Same known name = known
with_new stands.Other known name = known

abbrev pub noted : List TyName → TyName → List TyName
noted known name = cond (is_bound_name name) known (with_new (standing name known) known name)

abbrev pub noted_all : List TyName → List TyName → List TyName
noted_all known [] = known
noted_all known (name ∷ names) = noted_all (noted known name) names

-- names that are known while imports are read, of which the interfaces so far write these
pub record Knows (known earlier : List TyName) : Type 0 where
  pub covers : (m : TyName) → is_listed m (basis_type_names ++ earlier) ≡ true → is_listed m known ≡ true
  pub only : (m : TyName) → is_listed m known ≡ true → is_listed m (basis_type_names ++ earlier) ≡ true
  pub agree : Agree known
  pub basis : writes_the_basis earlier ≡ true
