use Rattle.tool_loading.proofs.Without.{without_tools}
use Rattle.tool_loading.proofs.laws.loading_without_tools.Goals as goal

pub returns : goal.returns
returns c = without_tools
