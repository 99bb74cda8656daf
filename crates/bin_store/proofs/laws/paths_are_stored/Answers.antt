use Rattle.bin_store.proofs.Elsewhere.{bin_stored, tool_stored, interface_stored, linked_stored}
use Rattle.bin_store.proofs.laws.paths_are_stored.Goals as goal

pub returns : goal.returns
returns c = record { bins = bin_stored; tools = tool_stored; interfaces = interface_stored; linked = linked_stored }
