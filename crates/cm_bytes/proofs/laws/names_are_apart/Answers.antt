use Rattle.cm_bytes.proofs.Hashes.{length-name_of_hash, pid_text-injective, same_hash_from_name}
use Rattle.cm_bytes.proofs.laws.names_are_apart.Goals as goal

pub returns-clause-apart : goal.returns-clause-apart
returns-clause-apart c = pid_text-injective

pub returns-clause-hashes : goal.returns-clause-hashes
returns-clause-hashes c = same_hash_from_name

pub returns-clause-size : goal.returns-clause-size
returns-clause-size c = length-name_of_hash
