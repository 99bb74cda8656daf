-- What planning answers, and what it asks of a compiler, by cases on its result.
use Rattle.std.specs.Prelude.{ℕ, ◌≡◌, ◌++◌, List, Some, None, Result, Ok, Err}
use Rattle.cm_base.specs.Fronts.{GrowsUpTo}
use Rattle.cm_base.specs.declared.diag.Diag.{Diag}
use Rattle.cm_base.specs.declared.record.Skeleton.{Skeleton}
use Rattle.skeleton_asking.specs.Skeletons.{Answer, Skeletons}
use Rattle.skeleton_asking.specs.declared.fault.PlanFault.{PlanFault}
use Rattle.skeleton_asking.specs.declared.fault.PlanFault.TheVariants as fault

-- a step gives what its definition gives, unless the folder fails or memory is wanting
abbrev pub PlanGives : {A : Type 0} → Result A PlanFault → Result A Diag → Type 0
PlanGives (Ok value) defined = defined ≡ Ok value
PlanGives (Err (fault.Diag diag)) defined = defined ≡ Err diag
PlanGives (Err fault.Folder) defined = Unit {0}
PlanGives (Err fault.NoMemory) defined = Unit {0}

-- a list of what was asked grew by these units, or by a front of them after a fault or want of memory
abbrev pub PlanAsks : {A : Type 0} → Result A PlanFault → List (List ℕ) → List (List ℕ) → List (List ℕ) → Type 0
PlanAsks (Ok value) old new asked = new ≡ old ++ asked
PlanAsks (Err (fault.Diag diag)) old new asked = new ≡ old ++ asked
PlanAsks (Err fault.Folder) old new asked = GrowsUpTo old new asked
PlanAsks (Err fault.NoMemory) old new asked = GrowsUpTo old new asked

-- one unit is answered so
pub record FindsOne (result : Result Skeleton PlanFault) (answer : Answer) (old new : List (List ℕ)) : Type 0 where
  pub gives : PlanGives result answer.gives
  pub asks : PlanAsks result old new answer.asked

-- all skeletons are found, or the diagnostic is the one that ended them
abbrev pub GivesAll : Result (List Skeleton) PlanFault → Skeletons → Type 0
GivesAll (Ok found) all = (all.found ≡ found) × (all.ended ≡ None)
GivesAll (Err (fault.Diag diag)) all = all.ended ≡ Some diag
GivesAll (Err fault.Folder) all = Unit {0}
GivesAll (Err fault.NoMemory) all = Unit {0}

-- all units are answered so
pub record FindsAll (result : Result (List Skeleton) PlanFault) (all : Skeletons) (old new : List (List ℕ)) : Type 0
  where
    pub gives : GivesAll result all
    pub asks : PlanAsks result old new all.asked
