-- The faults of a command's work.
use Rattle.cm_base.specs.declared.fault.FolderFault.{FolderFault}
use Rattle.cm_base.specs.declared.fault.FolderFault.TheVariants as folder
use Rattle.command_parts.specs.declared.work.WorkFault.{WorkFault}
use Rattle.command_parts.specs.declared.work.WorkFault.TheVariants as work

-- a folder's fault is one of the work
abbrev pub of_folder : FolderFault → WorkFault
of_folder folder.Failed = work.Folder
of_folder folder.NoMemory = work.NoMemory
