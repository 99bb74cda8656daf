use Rattle.signature_sealing.specs.Sealing.{new_names_of}
use Rattle.module_rules.proofs.Growing.{if_ok, on_err}
use Rattle.module_rules.proofs.Renewing.{env_named, renewed_by, grows_after}
use Rattle.module_rules.proofs.results.renewed_result.Goals as goal

pub realise-requires : goal.realise-requires
realise-requires c = env_named c.args.g.now c.new_names.new.g (new_names_of c.args.g.now c.as_slice.result.now) c.args.body
    c.in_ok-new.ensures.made c.requires

pub returns-clause-ok : goal.returns-clause-ok
returns-clause-ok c = if_ok c.realise.result _ _
    (λ id a. renewed_by c.args.g.now c.new_names.new.g c.realise.new.graph c.args.further.now c.as_slice.result.now
    c.args.by.list c.in_ok-new.new.by.list c.in_ok-all.all.list c.args.body id c.as_slice.ensures
    c.in_ok-new.ensures.rows c.in_ok-new.ensures.made c.in_ok-all.ensures a) c.realise.ensures.ok

pub returns-clause-err : goal.returns-clause-err
returns-clause-err c = on_err c.realise.result
    (λ e. grows_after c.args.g.now c.new_names.new.g c.realise.new.graph
    (new_names_of c.args.g.now c.as_slice.result.now) c.in_ok-new.ensures.made e) c.realise.ensures.err
