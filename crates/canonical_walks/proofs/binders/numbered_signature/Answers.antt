use Rattle.std.proofs.Common.{ap}
use Rattle.sml_modules.specs.Items.{Item}
use Rattle.sml_modules.specs.Graphs.{env_at}
use Rattle.sml_modules.proofs.Keeping.{extends_then}
use Rattle.realisation.specs.Canonical.{canonical_signature}
use Rattle.canonical_walks.specs.Binders.{unchanged, signature_with}
use Rattle.canonical_walks.proofs.Binding.{sig_of, sig_numbered}
use Rattle.canonical_walks.proofs.Canons.{item_added, added_extends}
use Rattle.canonical_walks.proofs.binders.numbered_signature.Goals as goal

pub returns-clause-extends : goal.returns-clause-extends
returns-clause-extends c =
    let mid = c.change_env.new.graph in
    extends_then c.args.graph.now mid c.add.new.self c.change_env.ensures.extends
    (added_extends mid c.add.new.self (Item.SignatureItem (sig_of c.in_ok-bound.bound (env_at mid c.in_ok-made.made)))
    c.add.result c.add.ensures.ok c.add.ensures.err)

pub returns-clause-is : goal.returns-clause-is
returns-clause-is c =
    let mid = c.change_env.new.graph in
    let env = env_at c.args.graph.now c.args.env in
    item_added mid c.add.new.self (Item.SignatureItem (sig_of c.in_ok-bound.bound (env_at mid c.in_ok-made.made)))
    (Item.SignatureItem (canonical_signature unchanged (signature_with env))) c.add.result c.add.ensures.ok
    (ap Item.SignatureItem (sig_numbered env (env_at mid c.in_ok-made.made) c.in_ok-names_of.field-0 c.in_ok-names.names
    c.in_ok-order.order c.in_ok-bound.bound c.in_ok-names_of.ensures c.in_ok-names.ensures c.in_ok-order.ensures
    c.in_ok-made.ensures.env.stands c.in_ok-bound.ensures))
