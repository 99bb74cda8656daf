use Rattle.std.proofs.Common.{ap, ◌∙◌, false}
use Rattle.std.specs.Prelude.{Ok, Err}
use Rattle.type_nodes.specs.Tables.{state}
use Rattle.unification.specs.Closing.{kept_since}
use Rattle.core_scopes.specs.Marks.{env_of_made}
use Rattle.type_phrases.specs.Inferred.{Answers, progress}
use Rattle.pattern_elab.specs.Scopes.{own_entry}
use Rattle.closing_laws.specs.Variables.{val_end}
use Rattle.value_closing.specs.Groups.{groups_of}
use Rattle.value_closing.specs.Closings.{ids_where}
use Rattle.value_closing.proofs.Closings.{ends_left, ends_large, ends_made, large_still, values_are, passed_on}
use Rattle.value_closing.proofs.val.close_val.Goals as goal

pub returns-in_err-check_left-clause-answer : goal.returns-in_err-check_left-clause-answer
returns-in_err-check_left-clause-answer c = λ inner home.
    passed_on (λ r. Answers (val_end inner c.args.at (kept_since (state c.args.since.now).next (state c.args.t.now).stands)
    c.args.own.now (groups_of c.args.groups) (progress c.args.t.now c.args.g.now))
    (λ made. (env_of_made c.args.g.now own_entry made, progress c.args.t.now c.args.g.now)) r)
    c.from_residual-in_err-check_left.result c.in_err-check_left.field-0.0 c.from_residual-in_err-check_left.ensures.1
    (ends_left c.args.g.now inner c.args.at c.args.t.now (state c.args.since.now).next c.args.own.now
    (groups_of c.args.groups) c.in_ok-variables.variables c.in_ok-unclosed.unclosed c.is_kept.ensures
    c.requires.distinct c.in_ok-variables.ensures
    (c.in_ok-unclosed.ensures.ids ∙ ap (ids_where false) c.as_slice.ensures)
    (λ made. (env_of_made c.args.g.now own_entry made, progress c.args.t.now c.args.g.now))
    c.in_err-check_left.field-0.0 (c.in_err-check_left.ensures.answer inner home))

pub returns-in_err-check_sizes-clause-answer : goal.returns-in_err-check_sizes-clause-answer
returns-in_err-check_sizes-clause-answer c = λ inner home.
    passed_on (λ r. Answers (val_end inner c.args.at (kept_since (state c.args.since.now).next (state c.args.t.now).stands)
    c.args.own.now (groups_of c.args.groups) (progress c.args.t.now c.args.g.now))
    (λ made. (env_of_made c.args.g.now own_entry made, progress c.args.t.now c.args.g.now)) r)
    c.from_residual-in_err-check_sizes.result c.in_err-check_sizes.field-0.0
    c.from_residual-in_err-check_sizes.ensures.1
    (ends_large c.args.g.now inner c.args.at c.args.t.now (state c.args.since.now).next c.args.own.now
    (groups_of c.args.groups) c.in_ok-variables.variables c.in_ok-unclosed.unclosed c.is_kept.ensures
    c.requires.distinct c.in_ok-variables.ensures
    (c.in_ok-unclosed.ensures.ids ∙ ap (ids_where false) c.as_slice.ensures)
    (λ made. (env_of_made c.args.g.now own_entry made, progress c.args.t.now c.args.g.now))
    c.in_err-check_sizes.field-0.0 (c.in_ok-check_left.ensures.answer inner home)
    (large_still inner c.args.at c.args.t.now c.check_left.new.t c.in_ok-variables.variables c.as_slice-2.result.now
    (Err c.in_err-check_sizes.field-0.0) c.in_ok-check_left.ensures.same c.as_slice-2.ensures
    (c.in_err-check_sizes.ensures.answer inner home)))

pub returns-clause-answer : goal.returns-clause-answer
returns-clause-answer c = λ inner home.
    ends_made c.args.g.now inner c.args.at c.args.t.now (state c.args.since.now).next c.args.own.now
    (groups_of c.args.groups) c.in_ok-variables.variables c.in_ok-unclosed.unclosed c.is_kept.ensures
    c.requires.distinct c.in_ok-variables.ensures
    (c.in_ok-unclosed.ensures.ids ∙ ap (ids_where false) c.as_slice.ensures)
    (record { structures = c.new.result; types = c.new-2.result; values = c.in_ok-values.values }) c.new.ensures
    c.new-2.ensures
    (values_are c.args.t.now c.check_sizes.new.t c.generalise_since.new.self (state c.args.since.now).next
    c.in_ok-variables.variables c.as_slice-3.result.now c.in_ok-closing.closing c.in_ok-schemes.schemes
    c.in_ok-values.values (c.in_ok-check_sizes.ensures.same ∙ c.in_ok-check_left.ensures.same) c.in_ok-schemes.ensures.same c.as_slice-3.ensures
    c.in_ok-closing.ensures.ids c.in_ok-schemes.ensures.schemes c.in_ok-values.ensures.values)
    (c.in_ok-check_left.ensures.answer inner home)
    (large_still inner c.args.at c.args.t.now c.check_left.new.t c.in_ok-variables.variables c.as_slice-2.result.now
    (Ok c.in_ok-check_sizes.field-0) c.in_ok-check_left.ensures.same c.as_slice-2.ensures
    (c.in_ok-check_sizes.ensures.answer inner home))
