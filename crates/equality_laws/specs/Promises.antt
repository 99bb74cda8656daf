-- The laws, as the public functions of this crate state them.
use Rattle.std.specs.Prelude.{◌≡◌, ℕ, List, [], length, slice_index_or, Contains, Bool, true, not, ◌&&◌}
use Rattle.std.specs.List.{list_all}
use Rattle.unification.specs.Types.{Ty, admits}
use Rattle.static_semantics.specs.DatatypeInference.{Dat, settled, equality_choice}
use Rattle.equality_types.specs.Choices.{admits_by, holders_of, IsGreatest}
use Rattle.equality_laws.specs.Needs.{need_of, is_barred, held, barred_of, held_of}

-- whether a type admits equality, all type variables being of such types, is told by what stands against it and by the
-- new types that it holds
abbrev pub ArgumentsSayWhatTheyNeed : Type 0
ArgumentsSayWhatTheyNeed = (home : List ℕ) (first : ℕ) (choice : List Bool) (ty : Ty)
    → admits (λ n. true) (settled home first choice ty)
    ≡ (not (is_barred (need_of home first (length choice)) ty)
    && list_all (admits_by choice) (held (need_of home first (length choice)) ty))

-- for each type the types that hold it
pub record AreHoldersOf (held holders : List (List ℕ)) : Type 0 where
  pub counted : length holders ≡ length held
  pub back : (at part : ℕ) → Contains (holders_of holders part) at → Contains (slice_index_or held at []) part
  pub all : (at part : ℕ) → Contains (slice_index_or held at []) part → Contains (holders_of holders part) at

-- the greatest choice is the one that the definition takes
abbrev pub GreatestChoicesAreTaken : Type 0
GreatestChoicesAreTaken = (home : List ℕ) (first : ℕ) (dats : List Dat) (barred : List Bool)
    (holders : List (List ℕ)) (choice : List Bool)
    → barred ≡ barred_of (need_of home first (length dats)) dats
    → AreHoldersOf (held_of (need_of home first (length dats)) dats) holders
    → IsGreatest barred holders choice
    → choice ≡ equality_choice home first dats
