use Rattle.std.proofs.Common.{sym, subst, ap}
use Rattle.sml_trees.specs.declared.name.Name.{Name}
use Rattle.sml_trees.specs.declared.exp.StrBind.{out-StrBind}
use Rattle.bare_phrases.specs.Phrases.{StrPhrase}
use Rattle.bare_phrases.specs.PhraseOf.{str_phrase}
use Rattle.unit_semantics.specs.UnitPhrases.{module_phrase, read_module}
use Rattle.unit_derivations.specs.Promises.{every}
use Rattle.unit_derivations.proofs.Scopes.{inside_top}
use Rattle.structure_elab.specs.Moments.{moment, seen_at, progress_at}
use Rattle.structure_elab.proofs.Chains.{passed}
use Rattle.top_bindings.proofs.Bodies.{structure_first, structure_done, bound_as}
use Rattle.top_bindings.proofs.structures.elab_structure.Goals as goal

pub is_ready-requires : goal.is_ready-requires
is_ready-requires c = λ k. record {
  there = c.requires.there;
  kept = k;
  inside = inside_top every c.args.g.now.home (seen_at (moment c.args.g.now c.args.t.now c.args.top.now))
      (progress_at (moment c.args.g.now c.args.t.now c.args.top.now)) c.requires.at;
  bare = c.requires.bare;
}

pub without_variables-requires : goal.without_variables-requires
without_variables-requires c = c.in_ok-made.ensures.has

pub returns-in_err-made : goal.returns-in_err-made
returns-in_err-made c =
    passed c.from_residual.result c.in_err-made.field-0.0 c.from_residual.ensures.1
    (bound_as c.args.sealing c.args.bind.now (structure_first (
      (out-StrBind c.args.bind.now).name,
      read_module c.args.sealing (module_phrase (str_phrase (out-StrBind c.args.bind.now).body)),
    ) c.in_err-made.ensures))

pub returns : goal.returns
returns c =
    bound_as c.args.sealing c.args.bind.now (structure_done (
      (out-StrBind c.args.bind.now).name,
      read_module c.args.sealing (module_phrase (str_phrase (out-StrBind c.args.bind.now).body)),
    )
    c.without_variables.new.g c.without_variables.new.t c.without_variables.result c.requires.there c.in_ok-made.ensures
    c.without_variables.ensures.answers c.without_variables.ensures.there c.without_variables.ensures.graph
    c.without_variables.ensures.table)
