-- The faults of members' sources.
use Rattle.cm_base.specs.declared.fault.Fault.{Fault}
use Rattle.cm_base.specs.declared.fault.Fault.TheVariants as refusal
use Rattle.tool_deriving.specs.declared.fault.DeriveFault.{DeriveFault}
use Rattle.tool_deriving.specs.declared.fault.DeriveFault.TheVariants as derive
use Rattle.member_deriving.specs.declared.fault.MemberFault.{MemberFault}
use Rattle.member_deriving.specs.declared.fault.MemberFault.TheVariants as member

-- a refusal is one of members
abbrev pub of_refusal : Fault → MemberFault
of_refusal (refusal.Diag diag) = member.Diag diag
of_refusal refusal.NoMemory = member.NoMemory

-- .. and so is a fault of deriving
abbrev pub of_deriving : DeriveFault → MemberFault
of_deriving derive.Folder = member.Folder
of_deriving derive.Tool = member.Tool
of_deriving derive.NoMemory = member.NoMemory
