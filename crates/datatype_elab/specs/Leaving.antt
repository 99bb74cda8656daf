-- What a declaration of datatypes leaves: the names of its types more, and a table that knows their variables.
use Rattle.std.specs.Prelude.{◌≡◌, length, take, Result, Ok, Err}
use Rattle.cm_base.specs.declared.fault.Fault.{Fault}
use Rattle.cm_base.specs.declared.fault.Fault.TheVariants as fault
use Rattle.sml_modules.specs.declared.id.EnvId.{EnvId}
use Rattle.sml_modules.specs.Graphs.{Graph, HasEnv, Keeps}

-- names were made, and nothing else: all ids stand for what they stood for
pub record MakesNames (old new : Graph) : Type 0 where
  pub items : new.items ≡ old.items
  pub home : new.home ≡ old.home
  pub made : take (length old.made) new.made ≡ old.made

-- a diagnostic leaves this as it was
abbrev pub LeftByDiag : {A R : Type 0} → Result R Fault → A → A → Type 0
LeftByDiag (Ok r) old new = Unit {0}
LeftByDiag (Err (fault.Diag diag)) old new = new ≡ old
LeftByDiag (Err fault.NoMemory) old new = Unit {0}

-- an environment was made, and names besides: all ids keep theirs
pub record DeclaresTypes (old new : Graph) (id : EnvId) : Type 0 where
  pub there : HasEnv new id
  pub keeps : Keeps old new
  pub home : new.home ≡ old.home
  pub made : take (length old.made) new.made ≡ old.made
