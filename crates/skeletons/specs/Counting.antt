-- How many bindings of each name are counted. Only private functions cite this file.
use Rattle.std.specs.Prelude.{◌≡◌, ℕ, zero, suc, ◌+◌, ◌-◌, List, [], ◌∷◌, Option, None, if◌then◌else◌}
use Rattle.std.specs.Option.{unwrap_or}
use Rattle.indexmap.specs.IndexMap.{IndexMap, get}
use Rattle.cm_base.specs.declared.record.ModName.{ModName}
use Rattle.skeletons.specs.Scopes.{same_name, binds_it}

-- how many bindings of a name there are
abbrev pub bindings : List (Option ModName) → ModName → ℕ
bindings [] name = 0
bindings (first ∷ names) name = (if binds_it name first then 1 else 0) + bindings names name

-- how many bindings a table counts of a name
abbrev pub count_in : {S : Type 0} → IndexMap ModName ℕ S → ModName → ℕ
count_in counts name = unwrap_or (get same_name counts name) 0

-- a table counts the bindings of each name
abbrev pub IsCounted : {S : Type 0} → IndexMap ModName ℕ S → List (Option ModName) → Type 0
IsCounted counts names = (name : ModName) → count_in counts name ≡ bindings names name

-- a table counts so many bindings of a name, and of each other name as many as before
abbrev pub Puts : {S : Type 0} → IndexMap ModName ℕ S → IndexMap ModName ℕ S → ModName → ℕ → Type 0
Puts old new put count = (name : ModName) → count_in new name ≡ (if same_name put name then count else count_in old name)

-- two tables count as many bindings of each name
abbrev pub CountsAlike : {S : Type 0} → IndexMap ModName ℕ S → IndexMap ModName ℕ S → Type 0
CountsAlike old new = (name : ModName) → count_in new name ≡ count_in old name

-- one binding less is counted of a name
abbrev pub Drops : {S : Type 0} → IndexMap ModName ℕ S → IndexMap ModName ℕ S → Option ModName → Type 0
Drops old new gone =
    (name : ModName) → count_in new name ≡ (if binds_it name gone then count_in old name - 1 else count_in old name)

-- the bindings of a list are counted no more
abbrev pub DropsAll : {S : Type 0} → IndexMap ModName ℕ S → IndexMap ModName ℕ S → List (Option ModName) → Type 0
DropsAll old new gone = (name : ModName) → count_in new name ≡ count_in old name - bindings gone name

-- a list with so many bindings hidden after the first ones
abbrev pub hide_at : ℕ → ℕ → List (Option ModName) → List (Option ModName)
hide_at kept count [] = []
hide_at zero zero (name ∷ names) = name ∷ names
hide_at zero (suc count) (name ∷ names) = None ∷ hide_at zero count names
hide_at (suc kept) count (name ∷ names) = name ∷ hide_at kept count names
