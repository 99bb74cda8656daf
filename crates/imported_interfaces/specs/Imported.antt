-- What a unit sees of its imports: the imported names alone, of two imports of one name the later one.
use Rattle.std.specs.Prelude.{ℕ, List, [], ◌∷◌, ◌++◌, Option, Some, None, Result, Ok, Err}
use Rattle.cm_base.specs.declared.diag.Diag.{Diag}
use Rattle.cm_base.specs.declared.record.Namespace.{Namespace}
use Rattle.cm_base.specs.declared.record.Namespace.TheVariants as space
use Rattle.cm_base.specs.declared.record.ModName.{ModName}
use Rattle.cm_base.specs.declared.record.Given.{Given}
use Rattle.semantic_objects.specs.declared.name.TyName.{TyName}
use Rattle.semantic_objects.specs.Tables.{Table, entry, with_entry}
use Rattle.semantic_objects.specs.Environments.{Env, Signature, Functor, Top, structures, with_structure, empty_top}
use Rattle.imported_interfaces.specs.Usable.{written, usable_top}

-- ---- one name more

-- what a table has under a name, in front of another one
abbrev pub with_found : {A : Type 0} → List ℕ → Option A → Table A → Table A
with_found name None table = table
with_found name (Some x) table = with_entry name x table

abbrev pub with_found_structure : List ℕ → Option Env → Env → Env
with_found_structure name None env = env
with_found_structure name (Some x) env = with_structure name x env

abbrev pub with_parts : Env → Table Signature → Table Functor → Table Functor → Top
with_parts env signatures functors funsigs =
    record { env = env; signatures = signatures; functors = functors; funsigs = funsigs }

-- what a top has under a name in a name space, in front of what is imported already
abbrev pub with_under : Namespace → List ℕ → Top → Top → Top
with_under space.Structure name top made =
    with_parts (with_found_structure name (entry name (structures top.env)) made.env) made.signatures made.functors
    made.funsigs
with_under space.Signature name top made =
    with_parts made.env (with_found name (entry name top.signatures) made.signatures) made.functors made.funsigs
with_under space.Functor name top made =
    with_parts made.env made.signatures (with_found name (entry name top.functors) made.functors) made.funsigs
with_under space.Funsig name top made =
    with_parts made.env made.signatures made.functors (with_found name (entry name top.funsigs) made.funsigs)

abbrev pub with_imported : ModName → Top → Top → Top
with_imported wanted top made = with_under wanted.space wanted.name top made

-- ---- all of them

-- 50 at the unit as a whole, with the provider's name
abbrev pub damaged : List ℕ → Given → Diag
damaged unit given = record {
  number = 50;
  at = record { file = unit; line = 0; col = 0 };
  names = given.import.provider ∷ [];
}

-- what is imported, and the type names that the interfaces so far write
pub record Imports : Type 0 where
  pub top : Top
  pub names : List TyName

abbrev pub with_import : Given → Top → Imports → Imports
with_import given top made =
    record { top = with_imported given.import.name top made.top; names = made.names ++ written top }

abbrev pub imported_or : List ℕ → Given → Option Top → Imports → Result Imports Diag
imported_or unit given None made = Err (damaged unit given)
imported_or unit given (Some top) made = Ok (with_import given top made)

-- one import after others, or 50 where its interface can't be used
abbrev pub imported_one : List ℕ → Given → Imports → Result Imports Diag
imported_one unit given made = imported_or unit given (usable_top unit made.names given) made

-- .. and then more
abbrev pub then : Result Imports Diag → (Imports → Result Imports Diag) → Result Imports Diag
then (Err diag) more = Err diag
then (Ok made) more = more made

abbrev pub imported_after : List ℕ → List Given → Imports → Result Imports Diag
imported_after unit [] made = Ok made
imported_after unit (given ∷ later) made = then (imported_one unit given made) (λ next. imported_after unit later next)

abbrev pub no_imports : Imports
no_imports = record { top = empty_top; names = [] }

-- all imports of a unit, in their order
abbrev pub imported : List ℕ → List Given → Result Imports Diag
imported unit imports = imported_after unit imports no_imports
