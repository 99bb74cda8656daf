use Rattle.group_loader.proofs.Counting.{tools_run_by_class}
use Rattle.group_loader.proofs.laws.tools_run_by_class.Goals as goal

pub returns : goal.returns
returns c = tools_run_by_class
