use Rattle.loading_laws.proofs.Alike.{loading_reads, loading_storeless}
use Rattle.loading_laws.proofs.laws.loading_reads_the_project.Goals as goal

pub returns-clause-reads : goal.returns-clause-reads
returns-clause-reads c = loading_reads

pub returns-clause-storeless : goal.returns-clause-storeless
returns-clause-storeless c = loading_storeless
