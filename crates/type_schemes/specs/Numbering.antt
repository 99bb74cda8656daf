-- The variables that a type is closed over. Only private functions cite this file.
use Rattle.std.specs.Prelude.{◌≡◌, ℕ, ◌<◌, List, length, slice_get, Option, Some, None, Bool, false, ◌||◌, cond, ltb}
use Rattle.std.specs.Option.{is_some}
use Rattle.semantic_objects.specs.declared.name.TyId.{TyId}
use Rattle.semantic_objects.specs.declared.name.TyId.TheVariants as id
use Rattle.unification.specs.Closing.{is_among, place_of}
use Rattle.type_nodes.specs.Tables.{Table}
use Rattle.type_schemes.specs.declared.reach.Reached.{Reached}
use Rattle.type_schemes.specs.declared.kept.Kept.{Kept}
use Rattle.type_schemes.specs.declared.number.Numbers.{Numbers}
use Rattle.type_schemes.specs.Reaching.{place_in}

-- the number of a variable, if it is one of these
abbrev pub number_of : ℕ → List ℕ → Option ℕ
number_of v vs = cond (is_among v vs) (Some (place_of v vs)) None

abbrev pub AreNumbers : Numbers → Type 0
AreNumbers n = (v : ℕ) → place_in n.numbers v ≡ number_of v n.variables

-- whether a variable was reached
abbrev pub is_reached : Reached → ℕ → Bool
is_reached r v = is_some (place_in r.variables v)

-- whether a variable stays free
abbrev pub keeps : Kept → ℕ → Bool
keeps k v = ltb v k.older || is_some (place_in k.variables v)

abbrev pub keeps_id : Kept → TyId → Bool
keeps_id k (id.Variable v) = keeps k v
keeps_id k (id.Made i) = false

abbrev pub HasAllVariables : Table → List ℕ → Type 0
HasAllVariables t vs = (i v : ℕ) → slice_get vs i ≡ Some v → v < length t.births
