-- The names of which a use is sure, as a set. Only private functions cite this file.
use Rattle.std.specs.Prelude.{◌≡◌, List}
use Rattle.std.specs.List.{list_any}
use Rattle.indexmap.specs.IndexSet.{IndexSet, contains}
use Rattle.cm_base.specs.declared.record.ModName.{ModName}
use Rattle.cm_base.specs.declared.record.Need.{Need}
use Rattle.skeletons.specs.Scopes.{same_name}
use Rattle.skeletons.specs.Skeletons.{is_sure_use}

-- a set has the names of which one use is sure
abbrev pub AreSure : {S : Type 0} → List Need → IndexSet ModName S → Type 0
AreSure uses names = (name : ModName) → contains same_name names name ≡ list_any (is_sure_use name) uses
