use Rattle.import_reading.proofs.Placing.{structure_set, signature_set, functor_set, funsig_set}
use Rattle.import_reading.proofs.read.set_place.Goals as goal

pub returns-in-Structure : goal.returns-in-Structure
returns-in-Structure c =
    structure_set c.args.tables.now c.args.wanted.now c.in_ok-name.name c.args.place c.set.new.self c.set.result
    c.in-Structure.is c.in_ok-name.ensures c.set.ensures.ok

pub returns-in-Signature : goal.returns-in-Signature
returns-in-Signature c =
    signature_set c.args.tables.now c.args.wanted.now c.in_ok-name.name c.args.place c.set-in-Signature.new.self
    c.set-in-Signature.result c.in-Signature.is c.in_ok-name.ensures c.set-in-Signature.ensures.ok

pub returns-in-Functor : goal.returns-in-Functor
returns-in-Functor c =
    functor_set c.args.tables.now c.args.wanted.now c.in_ok-name.name c.args.place c.set-in-Functor.new.self
    c.set-in-Functor.result c.in-Functor.is c.in_ok-name.ensures c.set-in-Functor.ensures.ok

pub returns-in-Funsig : goal.returns-in-Funsig
returns-in-Funsig c =
    funsig_set c.args.tables.now c.args.wanted.now c.in_ok-name.name c.args.place c.set-in-Funsig.new.self
    c.set-in-Funsig.result c.in-Funsig.is c.in_ok-name.ensures c.set-in-Funsig.ensures.ok
