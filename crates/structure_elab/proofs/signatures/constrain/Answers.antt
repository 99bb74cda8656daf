use Rattle.module_semantics.specs.SigPhrases.{sig_phrase}
use Rattle.structure_elab.proofs.Chains.{passed}
use Rattle.structure_elab.proofs.Sealing.{transparent_stops, transparent_done}
use Rattle.structure_elab.proofs.signatures.constrain.Goals as goal

pub returns-in_err-sig : goal.returns-in_err-sig
returns-in_err-sig c =
    passed c.from_residual.result c.in_err-sig.field-0.0 c.from_residual.ensures.1
    (transparent_stops c.args.at (sig_phrase c.args.sig.now) c.args.env c.in_err-sig.ensures)

pub returns : goal.returns
returns c =
    transparent_done c.args.at (sig_phrase c.args.sig.now) c.args.env c.match_structure.new.g c.match_structure.new.t
    c.match_structure.result c.requires.there c.requires.env c.in_ok-sig.ensures c.match_structure.ensures.answers
    c.match_structure.ensures.there c.match_structure.ensures.graph c.match_structure.ensures.table
