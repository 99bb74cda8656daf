use Rattle.std.proofs.Common.{inl, inr, subst, ◌∙◌}
use Rattle.interface_format.specs.Rules.{AreNames}
use Rattle.type_walks.proofs.Imaging.{if_ok}
use Rattle.row_entries.proofs.Found.{not_so, is_so}
use Rattle.interface_restoring.proofs.Units.{table_found}
use Rattle.interface_restoring.proofs.tops.table_of.Goals as goal

pub returns-then-not-are_names : goal.returns-then-not-are_names
returns-then-not-are_names c =
    inl (λ h. not_so c.are_names.result c.are_names.ensures c.if-not-are_names.true
    (subst AreNames (Rattle.std.proofs.Common.sym (c.as_slice.ensures ∙ c.in_ok-names.ensures)) h))

pub place_rows-requires : goal.place_rows-requires
place_rows-requires c =
    (subst AreNames (c.as_slice.ensures ∙ c.in_ok-names.ensures)
    (is_so c.are_names.result c.are_names.ensures c.if-not-are_names.false)).rising

pub returns : goal.returns
returns c =
    if_ok c.place_rows.result c.place_rows.ensures
    (λ found h. table_found c.args.told.now c.args.table.now found
    (subst AreNames (c.as_slice.ensures ∙ c.in_ok-names.ensures)
    (is_so c.are_names.result c.are_names.ensures c.if-not-are_names.false)) h)
