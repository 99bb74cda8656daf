use Rattle.bin_store.proofs.PathLaws.{bin_path-injective, tool_path-injective, interface_path-injective, bin_is_no_tool, bin_is_no_interface, bin_is_not_linked, tool_is_no_interface, tool_is_not_linked, interface_is_not_linked}
use Rattle.bin_store.proofs.laws.paths_are_apart.Goals as goal

pub returns-clause-injective : goal.returns-clause-injective
returns-clause-injective c = record {
  bins = bin_path-injective;
  tools = tool_path-injective;
  interfaces = interface_path-injective;
}

pub returns-clause-apart : goal.returns-clause-apart
returns-clause-apart c = record {
  bin_tool = bin_is_no_tool;
  bin_interface = bin_is_no_interface;
  bin_linked = bin_is_not_linked;
  tool_interface = tool_is_no_interface;
  tool_linked = tool_is_not_linked;
  interface_linked = interface_is_not_linked;
}
