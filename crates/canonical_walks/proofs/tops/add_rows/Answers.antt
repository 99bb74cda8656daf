use Rattle.std.proofs.Common.{◌+◌, ◌∙◌, ◌++◌, drop, map, get_or}
use Rattle.std.specs.List.{flat_map}
use Rattle.sml_modules.specs.Items.{at}
use Rattle.name_walks.specs.Places.{names_in_all}
use Rattle.type_walks.proofs.Imaging.{rest_at}
use Rattle.canonical_walks.specs.Binders.{binder_names}
use Rattle.canonical_walks.proofs.Topped.{rows_next}
use Rattle.canonical_walks.proofs.tops.add_rows.Goals as goal

pub loop-place-preserved : goal.loop-place-preserved
loop-place-preserved c =
    let g = c.args.graph.now in
    let items = c.as_slice-place-items.result.now in
    let i = c.loop-place.place-index in
    let all = map (λ row. row.1) c.args.rows.now in
    record {
      there = λ h. c.in_ok-add_envs.ensures.there (c.loop-place.invariant.there h);
      are = rows_next g (λ p. binder_names (at g.items p))
          (names_in_all g c.args.envs.now ++ flat_map (λ p. binder_names (at g.items p)) all) (drop i all)
          (drop (i + 1) all) (get_or items i 0) c.loop-place.envs c.add_envs.new.envs
          (rest_at all items i 0 (c.as_slice-place-items.ensures ∙ c.in_ok-places.ensures) c.loop-place-test.true)
          c.in_ok-add_envs.ensures c.loop-place.invariant.are;
    }
