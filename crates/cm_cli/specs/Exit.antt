-- The exit status of the program, by how the command ended. The numbers are those of docs/build.md, "How it ends".
use Rattle.std.specs.Prelude.{ℕ}
use Rattle.command_parts.specs.declared.status.Status.{Status}
use Rattle.command_parts.specs.declared.status.Status.TheVariants as status

abbrev pub exit_number : Status → ℕ
exit_number status.Ok = 0
exit_number status.Diagnostic = 1
exit_number status.Usage = 2
exit_number status.FolderFault = 3
exit_number status.SinkFault = 4
exit_number status.NoMemory = 5
exit_number status.ToolFault = 8
