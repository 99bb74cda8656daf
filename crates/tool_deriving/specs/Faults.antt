-- The faults of deriving.
use Rattle.cm_base.specs.declared.fault.ToolFault.{ToolFault}
use Rattle.cm_base.specs.declared.fault.ToolFault.TheVariants as tool
use Rattle.bin_store.specs.declared.fault.StoreFault.{StoreFault}
use Rattle.bin_store.specs.declared.fault.StoreFault.TheVariants as store
use Rattle.tool_deriving.specs.declared.fault.DeriveFault.{DeriveFault}
use Rattle.tool_deriving.specs.declared.fault.DeriveFault.TheVariants as derive

-- a fault of the store is one of deriving
abbrev pub of_store : StoreFault → DeriveFault
of_store store.Folder = derive.Folder
of_store store.NoMemory = derive.NoMemory

-- .. and so is a tool's
abbrev pub of_tool : ToolFault → DeriveFault
of_tool tool.Failed = derive.Tool
of_tool tool.NoMemory = derive.NoMemory
