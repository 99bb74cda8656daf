use Rattle.bare_phrases.specs.PhraseOf.{dec_phrase}
use Rattle.std.proofs.Common.{sym, subst}
use Rattle.core_scopes.specs.Scopes.{Bindings, AreHeld}
use Rattle.pattern_elab.specs.declared.own.OwnVariable.{OwnVariable}
use Rattle.pattern_elab.specs.Scopes.{own_entry, IsEnteredIn}
use Rattle.core_elab.proofs.Beginning.{begun, dec_whole}
use Rattle.core_elab.proofs.whole.made_in.Goals as goal

pub elab_declared-requires : goal.elab_declared-requires
elab_declared-requires c =
    begun c.args.g.now c.args.t.now c.new-scope.result c.args.env
    (c.new-scope.ensures.there c.args.g.now c.requires.env) c.is_kept.ensures
    (subst (λ (sc : Bindings OwnVariable). AreHeld (IsEnteredIn c.args.t.now) sc.values) (sym c.new-scope.ensures.empty) tt)
    (c.new-scope.ensures.seen c.args.g.now own_entry) c.new-scope.ensures.written c.requires.ready

pub returns-clause-infers : goal.returns-clause-infers
returns-clause-infers c =
    dec_whole c.args.env (dec_phrase c.args.dec.now) (c.new-scope.ensures.seen c.args.g.now own_entry)
    c.new-scope.ensures.written c.elab_declared.ensures

pub returns-clause-envs : goal.returns-clause-envs
returns-clause-envs c = c.elab_declared.ensures.envs

pub returns-clause-ids : goal.returns-clause-ids
returns-clause-ids c = c.elab_declared.ensures.elabs.goes.ids

pub returns-clause-graph : goal.returns-clause-graph
returns-clause-graph c = c.elab_declared.ensures.elabs.goes.graph

pub returns-clause-home : goal.returns-clause-home
returns-clause-home c = c.elab_declared.ensures.elabs.goes.home
