-- Which unit stands behind a name: units of one kind, or else, where there is none, units of another kind.
use Rattle.std.specs.Prelude.{ℕ, ◌⊎◌, List}
use Rattle.cm_base.specs.declared.record.ModName.{ModName}
use Rattle.cm_base.specs.declared.record.Skeleton.{Skeleton}
use Rattle.cm_description.specs.declared.loaded.Export.{Export}
use Rattle.cm_description.specs.declared.loaded.Project.{Project}
use Rattle.visibility.specs.Projects.{members, group_of}
use Rattle.visibility.specs.Providers.{IsDefiner, IsOtherDefiner, IsExportedUnder, HoldsOfOne, HoldsOfNone, HoldsOfSeveral}

-- one unit of the first kind, or none of them and one of the second
abbrev pub OneOrElse : (ℕ → Type 0) → (ℕ → Type 0) → ℕ → Type 0
OneOrElse P Q v = HoldsOfOne P v ⊎ (HoldsOfNone P × HoldsOfOne Q v)

-- several units of the first kind, or none of them and several of the second
abbrev pub SeveralOrElse : (ℕ → Type 0) → (ℕ → Type 0) → Type 0
SeveralOrElse P Q = HoldsOfSeveral P ⊎ (HoldsOfNone P × HoldsOfSeveral Q)

-- no unit of either kind
abbrev pub NoneAtAll : (ℕ → Type 0) → (ℕ → Type 0) → Type 0
NoneAtAll P Q = HoldsOfNone P × HoldsOfNone Q

-- ---- for a unit that uses a name

-- the members of the unit's group export the name under this one
abbrev pub IsShownTo : Project → List (List Export) → ℕ → ModName → ℕ → Type 0
IsShownTo project below u name = IsExportedUnder project below (members project (group_of project u)) name

-- Several units may be meant: several other sources define the name, which 22 refuses before imports are looked for; or
-- none does, and the members export it under several.
abbrev pub IsAmbiguous : Project → List Skeleton → List (List Export) → ℕ → ModName → Type 0
IsAmbiguous project skeletons below u name =
    SeveralOrElse (IsOtherDefiner project skeletons u name) (IsShownTo project below u name)

-- no other source defines the name, and no member exports it
abbrev pub IsUnbound : Project → List Skeleton → List (List Export) → ℕ → ModName → Type 0
IsUnbound project skeletons below u name =
    NoneAtAll (IsOtherDefiner project skeletons u name) (IsShownTo project below u name)

-- ---- for a group that exports a name

-- the source of the group that defines the name, or else the one unit under which these members export it
abbrev pub IsBehind : Project → List Skeleton → List (List Export) → ℕ → List ℕ → ModName → ℕ → Type 0
IsBehind project skeletons below g among name =
    OneOrElse (IsDefiner project skeletons g name) (IsExportedUnder project below among name)

abbrev pub AreSeveralBehind : Project → List Skeleton → List (List Export) → ℕ → List ℕ → ModName → Type 0
AreSeveralBehind project skeletons below g among name =
    SeveralOrElse (IsDefiner project skeletons g name) (IsExportedUnder project below among name)

abbrev pub IsNoneBehind : Project → List Skeleton → List (List Export) → ℕ → List ℕ → ModName → Type 0
IsNoneBehind project skeletons below g among name =
    NoneAtAll (IsDefiner project skeletons g name) (IsExportedUnder project below among name)

-- no two sources of the group define one name
abbrev pub AreApart : Project → List Skeleton → ℕ → Type 0
AreApart project skeletons g = (name : ModName) → HoldsOfSeveral (IsDefiner project skeletons g name) → ⊥
