use Rattle.sml_modules.specs.Items.{at}
use Rattle.given_tops.specs.Names.{nodes_of}
use Rattle.given_tops.proofs.Walking.{whole_env}
use Rattle.given_tops.proofs.walk.env_fits.Goals as goal

pub returns-clause-fits : goal.returns-clause-fits
returns-clause-fits c = whole_env (nodes_of c.args.limits.now) (at c.args.g.now.items c.args.place) c.walk.result
    c.requires.env c.walk.ensures.fits
