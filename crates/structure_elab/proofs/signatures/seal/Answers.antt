use Rattle.module_semantics.specs.SigPhrases.{sig_phrase}
use Rattle.structure_elab.proofs.Chains.{passed}
use Rattle.structure_elab.proofs.Sealing.{opaque_stops, opaque_done}
use Rattle.structure_elab.proofs.signatures.seal.Goals as goal

pub returns-in_err-sig : goal.returns-in_err-sig
returns-in_err-sig c =
    passed c.from_residual.result c.in_err-sig.field-0.0 c.from_residual.ensures.1
    (opaque_stops c.args.at (sig_phrase c.args.sig.now) c.args.env c.in_err-sig.ensures)

pub returns : goal.returns
returns c =
    opaque_done c.args.at (sig_phrase c.args.sig.now) c.args.env c.seal_structure.new.g c.seal_structure.new.t
    c.seal_structure.result c.requires.there c.requires.env c.in_ok-sig.ensures c.seal_structure.ensures.answers
    c.seal_structure.ensures.there c.seal_structure.ensures.graph c.seal_structure.ensures.table
