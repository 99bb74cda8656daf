-- The faults of the store.
use Rattle.cm_base.specs.declared.fault.FolderFault.{FolderFault}
use Rattle.cm_base.specs.declared.fault.FolderFault.TheVariants as folder
use Rattle.bin_store.specs.declared.fault.StoreFault.{StoreFault}
use Rattle.bin_store.specs.declared.fault.StoreFault.TheVariants as store

-- a folder's fault is one of the store
abbrev pub fault_of : FolderFault → StoreFault
fault_of folder.Failed = store.Folder
fault_of folder.NoMemory = store.NoMemory
