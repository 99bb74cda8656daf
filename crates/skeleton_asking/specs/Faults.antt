-- The faults of planning.
use Rattle.cm_base.specs.declared.fault.Fault.{Fault}
use Rattle.cm_base.specs.declared.fault.Fault.TheVariants as step
use Rattle.bin_store.specs.declared.fault.StoreFault.{StoreFault}
use Rattle.bin_store.specs.declared.fault.StoreFault.TheVariants as store
use Rattle.skeleton_asking.specs.declared.fault.PlanFault.{PlanFault}
use Rattle.skeleton_asking.specs.declared.fault.PlanFault.TheVariants as fault

-- a store's fault is one of planning
abbrev pub of_store : StoreFault → PlanFault
of_store store.Folder = fault.Folder
of_store store.NoMemory = fault.NoMemory

-- .. and so is that of a step that looks at no folder
abbrev pub of_fault : Fault → PlanFault
of_fault (step.Diag diag) = fault.Diag diag
of_fault step.NoMemory = fault.NoMemory
