use Rattle.type_walks.proofs.Imaging.{on_ok}
use Rattle.canonical_walks.proofs.Topped.{sig_added, fun_added}
use Rattle.canonical_walks.proofs.tops.add_envs.Goals as goal

pub returns-in-Some-Signature : goal.returns-in-Some-Signature
returns-in-Some-Signature c = on_ok c.add.result c.add.ensures.ok
    (λ h. sig_added c.args.graph.now c.args.place c.in-Some-Signature.field-0.now c.in-Some-Signature.kept
    c.args.envs.now c.add.new.self c.in-Some-Signature.ensures.node c.in-Some-Signature.field-0-is h)

pub returns-in_ok-add-in-Some-Functor : goal.returns-in_ok-add-in-Some-Functor
returns-in_ok-add-in-Some-Functor c = on_ok c.add-in-Some-Functor-2.result c.add-in-Some-Functor-2.ensures.ok
    (λ h. fun_added c.args.graph.now c.args.place c.in-Some-Functor.field-0.now c.in-Some-Functor.kept
    c.args.envs.now c.add-in-Some-Functor.new.self c.add-in-Some-Functor-2.new.self c.in-Some-Functor.ensures.node
    c.in-Some-Functor.field-0-is c.in_ok-add-in-Some-Functor.ensures.ok h)
