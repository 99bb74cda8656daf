use Rattle.std.proofs.Common.{◌≡◌, ◌+◌, ap, ◌∙◌, ◌++◌, length, reverse, arith, length-append}
use Rattle.core_scopes.specs.Scopes.{Bindings, written_rows}
use Rattle.core_scopes.proofs.Scoping.{alone_bound, adds_nothing}
use Rattle.core_scopes.proofs.scope.Scope.bind_written_alone.Goals as goal

pub returns-clause-ok : goal.returns-clause-ok
returns-clause-ok g c =
    let new : Bindings g.row.V.Denot = record {
      below = c.self-2.inside.below;
      structures = c.self-2.inside.structures;
      types = c.self-2.inside.types;
      values = c.self-2.inside.values;
      written = c.self-2.inside.written;
      hidden = c.len-before.result;
    } in
    alone_bound c.args.self.now new (written_rows c.args.rows.now) c.add_written.ensures.kept
    (ap (λ (sc : Bindings g.row.V.Denot). sc.below) (c.self-2.view_is ∙ c.in_ok-add_written.ensures.ok))
    (ap (λ (sc : Bindings g.row.V.Denot). sc.structures) (c.self-2.view_is ∙ c.in_ok-add_written.ensures.ok))
    (ap (λ (sc : Bindings g.row.V.Denot). sc.types) (c.self-2.view_is ∙ c.in_ok-add_written.ensures.ok))
    (ap (λ (sc : Bindings g.row.V.Denot). sc.values) (c.self-2.view_is ∙ c.in_ok-add_written.ensures.ok))
    (ap (λ (sc : Bindings g.row.V.Denot). sc.written) (c.self-2.view_is ∙ c.in_ok-add_written.ensures.ok))
    (c.len-before.ensures ∙ ap (λ (sc : Bindings g.row.V.Denot). length sc.written) c.self.view_is)

pub invariant_of-self : goal.invariant_of-self
invariant_of-self g c =
    let whole : length c.self-2.inside.written
    ≡ length (c.args.self.now.written ++ reverse (written_rows c.args.rows.now)) =
    ap (λ (sc : Bindings g.row.V.Denot). length sc.written) (c.self-2.view_is ∙ c.in_ok-add_written.ensures.ok) in
    let own : length c.self.inside.written ≡ length c.args.self.now.written =
    ap (λ (sc : Bindings g.row.V.Denot). length sc.written) c.self.view_is in
    let more : length (c.args.self.now.written ++ reverse (written_rows c.args.rows.now))
    ≡ length c.args.self.now.written + length (reverse (written_rows c.args.rows.now)) =
    length-append c.args.self.now.written (reverse (written_rows c.args.rows.now)) in
    omega (arith, whole, own, more, c.len-before.ensures)

pub returns-clause-bare : goal.returns-clause-bare
returns-clause-bare g c =
    let new : Bindings g.row.V.Denot = record {
      below = c.self-2.inside.below;
      structures = c.self-2.inside.structures;
      types = c.self-2.inside.types;
      values = c.self-2.inside.values;
      written = c.self-2.inside.written;
      hidden = c.len-before.result;
    } in
    adds_nothing c.args.self.now new
    (ap (λ (sc : Bindings g.row.V.Denot). sc.values) (c.self-2.view_is ∙ c.in_ok-add_written.ensures.ok))
