-- What is kept to find definitions and modules by their names, and the values of conditions under them. It is made of
-- the two lists of a call, once.
use Rattle.std.specs.Prelude.{◌≡◌, ℕ, List, Option, Bool, nat_eq, ℤ}
use Rattle.indexmap.specs.IndexMap.{get}
use Rattle.indexmap.specs.IndexSet.{contains, IndexSet}
use Rattle.cm_base.specs.contracts.record.ModNamePartialEq.TheImpl as equality
use Rattle.cm_base.specs.declared.record.Def.{Def}
use Rattle.cm_base.specs.declared.record.ModName.{ModName}
use Rattle.cm_conditions.specs.declared.names.Names.{Names}
use Rattle.cm_conditions.specs.Values.{def_of, has_module, value_by, step_by}
use Rattle.cm_conditions.specs.declared.cond.Cond.{Cond}
use Rattle.cm_conditions.specs.declared.cond.Step.{Step}
use lib.Pointwise.{pointwise}

-- two module names of one name space and one text
abbrev pub same_name : ModName → ModName → Bool
same_name a b = (equality.ghosts).eq a b

-- whether a set has a module
abbrev pub has_name : {S : Type 0} → IndexSet ModName S → ModName → Bool
has_name set wanted = contains same_name set wanted

-- the definition of a name, as a table has it
abbrev pub table_def : Names → List ℕ → Option ℤ
table_def names name = get (pointwise nat_eq) names.defs name

-- whether a module is in a table
abbrev pub table_module : Names → ModName → Bool
table_module names wanted = has_name names.modules wanted

-- the value of a condition, and the value behind an operator, under the tables
abbrev pub by_tables : Names → Cond → Option ℤ
by_tables names = value_by (table_def names) (table_module names)

abbrev pub step_by_tables : Names → Step → ℤ → Option ℤ
step_by_tables names = step_by (table_def names) (table_module names)

-- the tables find what the lists have
pub record AreOf (names : Names) (defs : List Def) (modules : List ModName) : Type 0 where
  pub values : (name : List ℕ) → table_def names name ≡ def_of defs name
  pub there : (wanted : ModName) → table_module names wanted ≡ has_module modules wanted
