-- What is printed of a report.
use Rattle.std.specs.Prelude.{ℕ, List}
use Rattle.command_parts.specs.declared.work.Report.{Report}
use Rattle.cm_top.specs.declared.printed.Printed.{Printed}
use Rattle.cm_top.specs.declared.printed.Printed.TheVariants as printed

abbrev pub text_of : Printed → Report → List ℕ
text_of printed.Report report = report.text
text_of printed.LastLine report = report.last
