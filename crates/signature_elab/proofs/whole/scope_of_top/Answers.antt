use Rattle.std.proofs.Common.{◌∙◌}
use Rattle.pattern_elab.specs.Scopes.{own_entry}
use Rattle.signature_elab.proofs.Beginning.{signatures_begin, core_begins_alone}
use Rattle.signature_elab.proofs.whole.scope_of_top.Goals as goal

pub returns-clause-signatures : goal.returns-clause-signatures
returns-clause-signatures c =
    signatures_begin c.args.g.now c.args.top c.new-core.result c.new-defined.result c.new-defined.ensures.signatures

pub returns-clause-core : goal.returns-clause-core
returns-clause-core c =
    core_begins_alone c.args.g.now c.args.top c.new-core.result c.new-defined.result
    (c.new-core.ensures.seen c.args.g.now own_entry ∙ c.in_ok-env.ensures.stands)

pub returns-clause-there : goal.returns-clause-there
returns-clause-there c = record {
  core = c.new-core.ensures.there c.args.g.now c.in_ok-env.ensures.there;
  written = c.new-core.ensures.written;
  given = c.requires;
  defined = c.new-defined.ensures.there c.args.g.now;
}
