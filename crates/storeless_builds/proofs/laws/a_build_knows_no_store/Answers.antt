use Rattle.storeless_builds.proofs.Leaving.{builds_leave}
use Rattle.storeless_builds.proofs.Planned.{build_reads, build_storeless}
use Rattle.storeless_builds.proofs.laws.a_build_knows_no_store.Goals as goal

pub returns-clause-leaves : goal.returns-clause-leaves
returns-clause-leaves c = builds_leave

pub returns-clause-reads : goal.returns-clause-reads
returns-clause-reads c = build_reads

pub returns-clause-storeless : goal.returns-clause-storeless
returns-clause-storeless c = build_storeless
