use Rattle.std.proofs.Common.{ℕ, List, length, Result, Ok, Err}
use Rattle.std.specs.Prelude.{All, IfOk}
use Rattle.cm_base.specs.declared.fault.Fault.{Fault}
use Rattle.cm_conditions.specs.declared.line.Line.{Line}
use Rattle.cm_description.specs.Answers.{ReadsDescription}
use Rattle.cm_description.specs.WellFormed.{IsItemBelow}
use Rattle.cm_description.specs.declared.description.Description.{Description}
use Rattle.description_values.proofs.DescribedOnce.{described_once}
use Rattle.description_values.proofs.Numbered.{items_numbered}
use Rattle.description_values.proofs.answers.describe.Goals as goal

numbered : (file text : List ℕ) (r : Result Description Fault) → ReadsDescription file text r
    → IfOk r (λ (d : Description). All (λ (line : Line). IsItemBelow (length d.entries) line.body) d.export_lines)
numbered file text (Ok d) reads = items_numbered file text d reads
numbered file text (Err fault) reads = tt

pub returns-clause-gives : goal.returns-clause-gives
returns-clause-gives c =
    described_once c.args.file.now c.args.text.now c.read_description.result c.read_description.ensures

pub returns-clause-numbered : goal.returns-clause-numbered
returns-clause-numbered c =
    numbered c.args.file.now c.args.text.now c.read_description.result c.read_description.ensures
