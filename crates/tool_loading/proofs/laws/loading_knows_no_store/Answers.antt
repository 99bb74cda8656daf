use Rattle.tool_loading.proofs.Stores.{loading_reads, loading_storeless}
use Rattle.tool_loading.proofs.laws.loading_knows_no_store.Goals as goal

pub returns-clause-reads : goal.returns-clause-reads
returns-clause-reads c = loading_reads

pub returns-clause-storeless : goal.returns-clause-storeless
returns-clause-storeless c = loading_storeless
