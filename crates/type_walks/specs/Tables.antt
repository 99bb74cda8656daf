-- Type names in a table, by which the place of a name in a list is looked up.
use Rattle.std.specs.Prelude.{◌≡◌, List, ℕ, Option, Some, None, Bool, cond}
use Rattle.indexmap.specs.IndexMap.{IndexMap, get}
use Rattle.semantic_objects.specs.declared.name.Owner.{Owner}
use Rattle.semantic_objects.specs.declared.name.Owner.TheVariants as owner
use Rattle.semantic_objects.specs.declared.name.TyName.{TyName}
use Rattle.semantic_objects.specs.Symbols.{same_name}
use Rattle.realisation.specs.Names.{is_listed, place_in}
use Rattle.type_walks.specs.declared.names.KeyOwner.{KeyOwner}
use Rattle.type_walks.specs.declared.names.KeyOwner.TheVariants as key
use Rattle.type_walks.specs.declared.names.NameKey.{NameKey}
use Rattle.type_walks.specs.declared.names.NameTable.{NameTable}
use Rattle.type_walks.specs.contracts.names.NameKeyPartialEq.TheImpl as equality

-- the key of a name
abbrev pub key_owner : Owner → KeyOwner
key_owner owner.Basis = key.Basis
key_owner (owner.«Unit» u) = key.«Unit» u
key_owner owner.Bound = key.Bound

abbrev pub key_of : TyName → NameKey
key_of name = record { owner = key_owner name.owner; number = name.number; arity = name.arity; eq = name.eq }

-- whether two keys are one
abbrev pub same_key : NameKey → NameKey → Bool
same_key a b = (equality.ghosts).eq a b

-- the first place of a name in a list, if it stands there
abbrev pub place_among : TyName → List TyName → Option ℕ
place_among name names = cond (is_listed name names) (Some (place_in name names)) None

-- a table tells the first place of each name of its list
abbrev pub AreTold : NameTable → Type 0
AreTold table = (name : TyName) → get same_key table.places (key_of name) ≡ place_among name table.names

-- the first of two answers that is one
abbrev pub first_of : Option ℕ → Option ℕ → Option ℕ
first_of None other = other
first_of (Some place) other = Some place

-- a name that had no place has one, and all others have theirs
abbrev pub Notes : {S : Type 0} → IndexMap NameKey ℕ S → IndexMap NameKey ℕ S → TyName → ℕ → Type 0
Notes old new noted place = (name : TyName) → get same_key new (key_of name)
    ≡ first_of (get same_key old (key_of name)) (cond (same_name noted name) (Some place) None)
