use Rattle.semantic_objects.specs.Parts.{labels_of}
use Rattle.initial_basis.proofs.Rising.{rising_differ, record_made_ok}
use Rattle.initial_basis.proofs.phrases.record_of.Goals as goal

pub make-requires : goal.make-requires
make-requires c = rising_differ (labels_of c.args.fields) c.requires

pub returns : goal.returns
returns c = record_made_ok c.args.fields c.make.result c.requires c.make.ensures
