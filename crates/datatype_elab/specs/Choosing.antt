-- Which types a datatype holds, and what stands against its equality, datatype by datatype. Only private functions cite
-- this file.
use Rattle.std.specs.Prelude.{◌≡◌, ℕ, ◌<◌, List, [], ◌∷◌, ◌++◌, length, map, get_or, set, take, Option, Some, None, Bool, true, false, ◌⊎◌, ◌||◌}
use Rattle.semantic_objects.specs.declared.symbol.Symbol.{Symbol}
use Rattle.equality_laws.specs.Needs.{Need}
use Rattle.listed_types.specs.declared.listed.ListedType.{ListedType}
use Rattle.datatype_elab.specs.declared.cons.ConRead.{ConRead}
use Rattle.datatype_elab.specs.declared.dats.DatRead.{DatRead}
use Rattle.datatype_elab.specs.Wants.{wanted, In}

abbrev pub argument_wanted : (Symbol → Need) → Option ListedType → List (Option ℕ)
argument_wanted need None = []
argument_wanted need (Some a) = wanted need a.tree

abbrev pub cons_wanted : (Symbol → Need) → List ConRead → List (Option ℕ)
cons_wanted need [] = []
cons_wanted need (con ∷ cons) = argument_wanted need con.arg ++ cons_wanted need cons

abbrev pub dat_wanted : (Symbol → Need) → DatRead → List (Option ℕ)
dat_wanted need dat = cons_wanted need dat.cons

abbrev pub is_bar : Option ℕ → Bool
is_bar None = true
is_bar (Some at) = false

abbrev pub has_none : List (Option ℕ) → Bool
has_none [] = false
has_none (want ∷ wants) = is_bar want || has_none wants

abbrev pub holders_at : List (List ℕ) → ℕ → List ℕ
holders_at holders part = get_or holders part []

pub record AddsHolder (old new : List (List ℕ)) (part at : ℕ) : Type 0 where
  pub within : part < length old
  pub is : new ≡ set old part (holders_at old part ++ at ∷ [])

abbrev pub AddsWanted : List (List ℕ) → List (List ℕ) → Option ℕ → ℕ → Type 0
AddsWanted old new None at = new ≡ old
AddsWanted old new (Some part) at = AddsHolder old new part at

-- a type holds all that is wanted
pub record AddsHolders (old new : List (List ℕ)) (wants : List (Option ℕ)) (at : ℕ) : Type 0 where
  pub counted : length new ≡ length old
  pub more : (p a : ℕ) → In a (holders_at new p) → In a (holders_at old p) ⊎ ((a ≡ at) × In (Some p) wants)
  pub kept : (p a : ℕ) → In a (holders_at old p) → In a (holders_at new p)
  pub all : (p : ℕ) → In (Some p) wants → In at (holders_at new p)

abbrev pub wanted_at : (Symbol → Need) → List DatRead → ℕ → List (Option ℕ)
wanted_at need dats at = get_or (map (dat_wanted need) dats) at []

-- the first datatypes were added
pub record Gathered (need : Symbol → Need) (dats : List DatRead) (count : ℕ) (barred : List Bool)
    (holders : List (List ℕ)) : Type 0 where
  pub barred_are : barred ≡ map (λ (dat : DatRead). has_none (dat_wanted need dat)) (take count dats)
  pub counted : length holders ≡ length dats
  pub more : (p a : ℕ) → In a (holders_at holders p) → (a < count) × In (Some p) (wanted_at need dats a)
  pub all : (p a : ℕ) → a < count → In (Some p) (wanted_at need dats a) → In a (holders_at holders p)
