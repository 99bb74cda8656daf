use Rattle.std.proofs.Common.{◌≡◌, ◌+◌, List, length, map, subst}
use Rattle.bare_phrases.specs.PhraseOf.{dat_phrase}
use Rattle.static_semantics.specs.DatatypeInference.{datatypes_of}
use Rattle.core_scopes.specs.declared.made.Made.{Made}
use Rattle.core_scopes.specs.Marks.{env_of_made}
use Rattle.type_phrases.specs.Inferred.{Answers, progress, scope_in}
use Rattle.datatype_elab.specs.declared.dats.DatRead.{DatRead}
use Rattle.datatype_elab.proofs.Naming.{passed_on}
use Rattle.datatype_elab.proofs.Bounding.{dats_bound}
use Rattle.datatype_elab.proofs.Finishing.{choice_counted, declared_not, declared_as}
use Rattle.datatype_elab.proofs.whole.declare.Goals as goal

pub returns-in_err-read-clause-infers : goal.returns-in_err-read-clause-infers
returns-in_err-read-clause-infers g c = λ u read.
    let want = datatypes_of (scope_in c.args.g.now u read c.args.scope.now) c.args.refused.now
    (map dat_phrase c.args.binds.now) (progress c.args.t.now c.args.g.now) in
    passed_on (λ r. Answers want (λ (made : Made g.row.V.Denot).
    (env_of_made c.args.g.now read made, progress c.read_datatypes.new.t c.args.g.now)) r)
    c.from_residual.result c.in_err-read.field-0.0 c.from_residual.ensures.1
    (declared_not c.args.g.now c.args.g.now c.args.t.now c.read_datatypes.new.t u c.args.scope.now c.args.refused.now
    (map dat_phrase c.args.binds.now) read c.in_err-read.field-0.0 c.in_err-read.ensures.read)

pub make_read-requires-clause-counted : goal.make_read-requires-clause-counted
make_read-requires-clause-counted g c =
    choice_counted c.read_datatypes.new.t c.args.g.now.home (length c.args.g.now.made) c.in_ok-read.read.dats
    c.in_ok-read.read.choice c.in_ok-read.ensures.read.choice

pub make_read-requires-clause-bound : goal.make_read-requires-clause-bound
make_read-requires-clause-bound g c =
    dats_bound c.read_datatypes.new.t c.in_ok-read.read.dats c.in_ok-read.ensures.read.read

pub returns-clause-infers : goal.returns-clause-infers
returns-clause-infers g c = λ u read.
    declared_as c.args.g.now c.make_names.new.g c.args.t.now c.read_datatypes.new.t u c.args.scope.now
    c.args.refused.now (map dat_phrase c.args.binds.now) read c.in_ok-read.read c.in_ok-made.made
    c.in_ok-read.ensures.read
    (c.in_ok-made.ensures.made c.make_names.new.g read c.read_datatypes.new.t c.in_ok-read.ensures.read.read)
    (subst (λ (ds : List DatRead). length c.make_names.new.g.made ≡ length c.args.g.now.made + length ds)
    c.as_slice.ensures c.in_ok-make_names.ensures.ok)
