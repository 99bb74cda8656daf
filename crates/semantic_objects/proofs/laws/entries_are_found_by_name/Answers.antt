use Rattle.semantic_objects.proofs.Promised.{sets_entries, keeps_structures}
use Rattle.semantic_objects.proofs.laws.entries_are_found_by_name.Goals as goal

pub returns-clause-entries : goal.returns-clause-entries
returns-clause-entries g c = sets_entries _

pub returns-clause-structures : goal.returns-clause-structures
returns-clause-structures g c = keeps_structures
