-- When the interface that an import hands in can be used.
--
-- The interfaces of a unit's imports are read in their order. Each has to be an interface of its provider that has the
-- imported name, and the type names that it writes have to fit: those of the basis are written as the basis has them,
-- none is owned by the unit that is compiled, and each has the arity and the equality that it has in the interfaces
-- before.
use Rattle.std.specs.Prelude.{ℕ, List, filter, Bool, true, false, not, ◌&&◌, ◌||◌, Option, Some, None}
use Rattle.std.specs.Option.{is_some}
use Rattle.std.specs.List.{list_all}
use Rattle.cm_base.specs.declared.record.Namespace.{Namespace}
use Rattle.cm_base.specs.declared.record.Namespace.TheVariants as space
use Rattle.cm_base.specs.declared.record.ModName.{ModName}
use Rattle.cm_base.specs.declared.record.Given.{Given}
use Rattle.semantic_objects.specs.declared.name.Owner.{Owner}
use Rattle.semantic_objects.specs.declared.name.Owner.TheVariants as owner
use Rattle.semantic_objects.specs.declared.name.TyName.{TyName}
use Rattle.semantic_objects.specs.Tables.{entry}
use Rattle.semantic_objects.specs.Environments.{Top, structures}
use Rattle.realisation.specs.Names.{names_in_top, is_listed}
use Rattle.realisation.specs.Canonical.{is_own}
use Rattle.interface_format.specs.Rules.{is_not_bound}
use Rattle.interface_tops.specs.Conditions.{agrees_with}
use Rattle.interface_tops.specs.Tops.{interface_top}
use Rattle.initial_basis.specs.Basis.{basis_type_names}

-- the type names that an interface writes; bound ones stand for nothing outside of it
abbrev pub written : Top → List TyName
written top = filter is_not_bound (names_in_top top)

-- ---- the conditions, of an interface of its provider

-- it has the imported name in its name space
abbrev pub has_under : Namespace → List ℕ → Top → Bool
has_under space.Structure name top = is_some (entry name (structures top.env))
has_under space.Signature name top = is_some (entry name top.signatures)
has_under space.Functor name top = is_some (entry name top.functors)
has_under space.Funsig name top = is_some (entry name top.funsigs)

abbrev pub has_module : ModName → Top → Bool
has_module wanted top = has_under wanted.space wanted.name top

-- a type name of the basis stands there with this number, arity and equality
abbrev pub is_of_basis : Owner → Bool
is_of_basis owner.Basis = true
is_of_basis (owner.«Unit» u) = false
is_of_basis owner.Bound = false

abbrev pub is_in_basis : TyName → Bool
is_in_basis name = is_listed name basis_type_names

abbrev pub is_as_in_basis : TyName → Bool
is_as_in_basis name = not (is_of_basis name.owner) || is_in_basis name

abbrev pub writes_the_basis : List TyName → Bool
writes_the_basis names = list_all is_as_in_basis names

-- no name is owned by the unit that is compiled
abbrev pub is_of_another : List ℕ → TyName → Bool
is_of_another unit name = not (is_own unit name)

abbrev pub writes_no_name_of : List ℕ → List TyName → Bool
writes_no_name_of unit names = list_all (is_of_another unit) names

-- each name has the arity and the equality that it has among earlier ones
abbrev pub agrees_with_all : List TyName → TyName → Bool
agrees_with_all earlier name = list_all (λ m. agrees_with m name) earlier

abbrev pub agree_with : List TyName → List TyName → Bool
agree_with earlier names = list_all (agrees_with_all earlier) names

-- ---- the whole

abbrev pub names_fit : List ℕ → List TyName → List TyName → Bool
names_fit unit earlier names = writes_the_basis names && (writes_no_name_of unit names && agree_with earlier names)

abbrev pub is_usable : List ℕ → List TyName → ModName → Top → Bool
is_usable unit earlier wanted top = has_module wanted top && names_fit unit earlier (written top)

abbrev pub usable_if : Bool → Top → Option Top
usable_if true top = Some top
usable_if false top = None

abbrev pub usable_of : List ℕ → List TyName → ModName → Option Top → Option Top
usable_of unit earlier wanted None = None
usable_of unit earlier wanted (Some top) = usable_if (is_usable unit earlier wanted top) top

-- what an import's interface says, where it can be used for a unit after interfaces that write these names
abbrev pub usable_top : List ℕ → List TyName → Given → Option Top
usable_top unit earlier given = usable_of unit earlier given.import.name (interface_top given.import.provider given.interface)
