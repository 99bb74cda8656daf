use Rattle.std.proofs.Common.{refl}
use Rattle.sml_modules.specs.Graphs.{env_at}
use Rattle.import_reading.proofs.Placing.{structure_found, signature_found, functor_found, funsig_found}
use Rattle.import_reading.proofs.looking.place_of.Goals as goal

pub env_tables-requires : goal.env_tables-requires
env_tables-requires c = c.requires.env

pub returns-in_ok-env-in-Structure : goal.returns-in_ok-env-in-Structure
returns-in_ok-env-in-Structure c =
    structure_found c.args.graph.now.items c.args.wanted.now.space c.args.tables.now
    (env_at c.args.graph.now (record { place = c.args.tables.now.env })) c.in_ok-env-in-Structure.env.now c.args.wanted.now.name
    c.get.result c.in-Structure.is refl c.in_ok-env-in-Structure.ensures c.get.ensures

pub returns-in-Signature : goal.returns-in-Signature
returns-in-Signature c =
    signature_found c.args.graph.now.items c.args.wanted.now.space c.args.tables.now c.args.wanted.now.name
    c.get-in-Signature.result c.requires c.in-Signature.is c.get-in-Signature.ensures

pub returns-in-Functor : goal.returns-in-Functor
returns-in-Functor c =
    functor_found c.args.graph.now.items c.args.wanted.now.space c.args.tables.now c.args.wanted.now.name
    c.get-in-Functor.result c.requires c.in-Functor.is c.get-in-Functor.ensures

pub returns-in-Funsig : goal.returns-in-Funsig
returns-in-Funsig c =
    funsig_found c.args.graph.now.items c.args.wanted.now.space c.args.tables.now c.args.wanted.now.name
    c.get-in-Funsig.result c.requires c.in-Funsig.is c.get-in-Funsig.ensures
