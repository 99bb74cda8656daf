use Rattle.cm_lexer.proofs.Fitting.{open_fits, sign_fits}
use Rattle.cm_lexer.proofs.piece.piece_at.Goals as goal

pub returns-in-35-clause-fits : goal.returns-in-35-clause-fits
returns-in-35-clause-fits c = rw c.after_sign.ensures (sign_fits c.args.first c.args.bytes.now)

pub returns-in-40-clause-fits : goal.returns-in-40-clause-fits
returns-in-40-clause-fits c = rw c.after_open.ensures (open_fits c.args.bytes.now)
