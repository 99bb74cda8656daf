-- What a walk over a tree has found, and the scope that it is in. Only private functions cite this file.
use Rattle.std.specs.Prelude.{◌-◌, Bool, ◌||◌, List, ◌++◌, Option, take}
use Rattle.cm_base.specs.declared.record.ModName.{ModName}
use Rattle.skeletons.specs.declared.walk.Walk.{Walk}
use Rattle.skeletons.specs.declared.walk.Mark.{Mark}
use Rattle.skeletons.specs.Counting.{hide_at}
use Rattle.skeletons.specs.Scopes.{Scope, Uses, Brings}

-- the scope that a walk is in
abbrev pub scope_of : Walk → Scope
scope_of walk = record { bound = walk.names; opened = walk.opened }

-- a walk with the uses of a phrase
abbrev pub noted : Walk → Uses → Walk
noted walk phrase = record { names = walk.names; opened = walk.opened; uses = walk.uses ++ phrase (scope_of walk) }

-- a walk with the uses of a declaration, and with what it brings
abbrev pub declared : Walk → Brings → Walk
declared walk dec = record {
  names = walk.names ++ dec.binds;
  opened = dec.opens || walk.opened;
  uses = walk.uses ++ dec.uses (scope_of walk);
}

-- a walk that is back in an earlier scope
abbrev pub closed : Walk → Mark → Walk
closed walk mark = record { names = take mark.names walk.names; opened = mark.opened; uses = walk.uses }

-- a walk after a `local`, whose first part began and ended at these marks
abbrev pub shut : Walk → Mark → Mark → Bool → Walk
shut walk start middle opens = record {
  names = hide_at start.names (middle.names - start.names) walk.names;
  opened = opens || start.opened;
  uses = walk.uses;
}

-- a walk in the scope of more names
abbrev pub bound : Walk → List (Option ModName) → Walk
bound walk names = record { names = walk.names ++ names; opened = walk.opened; uses = walk.uses }
