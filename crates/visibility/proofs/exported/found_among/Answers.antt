use Rattle.std.proofs.Common.{◌∙◌, sym, ap, get_or, nat_eq}
use Rattle.std.specs.Prelude.{flat_map, fold}
use Rattle.std.proofs.lemmas.List.{drop_all}
use Rattle.indexmap.specs.IndexMap.{get}
use Rattle.cm_conditions.specs.Tables.{same_name}
use Rattle.visibility.specs.Providers.{units_under}
use Rattle.visibility.specs.Tables.{with_unit, at_name, shown_at}
use Rattle.visibility.proofs.Defining.{own_item}
use Rattle.visibility.proofs.Founds.{member_more, fold_found}
use Rattle.visibility.proofs.exported.found_among.Goals as goal

pub loop-member-preserved : goal.loop-member-preserved
loop-member-preserved c = λ name.
    member_more (shown_at (get nat_eq c.args.places.now) c.args.below.now) (get same_name c.loop-member.table)
    (get same_name c.note_member.new.table) c.args.among.now c.loop-member.member-index
    (get_or c.args.among.now c.loop-member.member-index 0) name c.loop-member-test.true
    (own_item c.args.among.now c.loop-member.member-index c.loop-member-test.true) (c.in_ok-note_member.ensures name)
    ∙ c.loop-member.invariant name

pub returns : goal.returns
returns c = λ name.
    let shown = shown_at (get nat_eq c.args.places.now) c.args.below.now in
    let all = flat_map shown c.args.among.now in
    sym (ap (λ left.
    fold with_unit (at_name (get same_name c.loop-member.table) name) (units_under (flat_map shown left) name))
    (drop_all c.loop-member.member-index c.args.among.now c.loop-member-test.false))
    ∙ c.loop-member.invariant name
    ∙ fold_found (units_under all name)
