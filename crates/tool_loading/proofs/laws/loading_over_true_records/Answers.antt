use Rattle.tool_loading.proofs.Stores.{over_true}
use Rattle.tool_loading.proofs.laws.loading_over_true_records.Goals as goal

pub returns : goal.returns
returns c = over_true
