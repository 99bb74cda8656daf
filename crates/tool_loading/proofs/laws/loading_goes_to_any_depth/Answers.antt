use Rattle.tool_loading.proofs.Levels.{loading_whole}
use Rattle.tool_loading.proofs.laws.loading_goes_to_any_depth.Goals as goal

pub returns : goal.returns
returns c = loading_whole
