use Rattle.bin_store.proofs.StoredBins.{bin_no_bin, bin_no_interface, interface_no_bin, interface_no_interface, torn_absent}
use Rattle.bin_store.proofs.laws.puts_stay_apart.Goals as goal

pub returns-clause-bins : goal.returns-clause-bins
returns-clause-bins c = record { bins = bin_no_bin; interfaces = bin_no_interface }

pub returns-clause-interfaces : goal.returns-clause-interfaces
returns-clause-interfaces c = record { bins = interface_no_bin; interfaces = interface_no_interface }

pub returns-clause-torn : goal.returns-clause-torn
returns-clause-torn c = torn_absent
