use Rattle.std.proofs.Common.{ap, ◌∙◌}
use Rattle.bare_phrases.specs.PhraseOf.{str_phrase}
use Rattle.unit_semantics.specs.UnitPhrases.{module_phrase, read_module}
use Rattle.structure_elab.proofs.Steps.{as_module, read_plain}
use Rattle.structure_elab.proofs.outermost.elab_read.Goals as goal
