use Rattle.std.proofs.Common.{subst}
use Rattle.type_walks.proofs.Imaging.{if_ok}
use Rattle.row_entries.specs.Told.{ToldAt}
use Rattle.row_binders.proofs.Bound.{env_stands, signature_formed, signature_lacks}
use Rattle.row_binders.proofs.binders.counted_signature.Goals as goal

pub signature_over-requires : goal.signature_over-requires
signature_over-requires c =
    env_stands c.requires.0 c.args.graph.now.items c.requires.1.made c.args.envs.now c.args.form.place c.in-Some.env
    c.requires.1.placed (subst (ToldAt c.args.envs.now c.args.form.place) c.in-Some.is c.in_ok-env.ensures)

pub returns-in-Some-clause-is : goal.returns-in-Some-clause-is
returns-in-Some-clause-is c =
    if_ok c.signature_over.result c.signature_over.ensures.is
    (λ found h. signature_formed c.args.envs.now c.args.graph.now.items c.signature_over.new.graph.items c.args.form
    c.in-Some.env found (subst (ToldAt c.args.envs.now c.args.form.place) c.in-Some.is c.in_ok-env.ensures) h)

pub returns-in-None-clause-is : goal.returns-in-None-clause-is
returns-in-None-clause-is c =
    signature_lacks c.args.envs.now c.args.graph.now.items c.args.graph.now.items c.args.form
    (subst (ToldAt c.args.envs.now c.args.form.place) c.in-None.is c.in_ok-env.ensures)
