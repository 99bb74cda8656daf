use Rattle.std.proofs.Common.{subst}
use Rattle.cm_base.specs.Keeping.{Touches}
use Rattle.cm_base.proofs.KeepingLemmas.{touches_write}
use Rattle.cm_base.proofs.file.put_file.Goals as goal

pub returns-in_err-write-clause-touches : goal.returns-in_err-write-clause-touches
returns-in_err-write-clause-touches g c =
    subst (Touches (g.F.Folder.holds c.args.folder.now) (g.F.Folder.holds c.write.new.self) c.args.path.now)
    c.as_bytes.ensures (touches_write c.write.result _ _ _ _ c.write.ensures.leaves)

pub returns-clause-touches : goal.returns-clause-touches
returns-clause-touches g c =
    subst (Touches (g.F.Folder.holds c.args.folder.now) (g.F.Folder.holds c.write.new.self) c.args.path.now)
    c.as_bytes.ensures (touches_write c.write.result _ _ _ _ c.write.ensures.leaves)
