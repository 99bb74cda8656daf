use Rattle.initial_basis.specs.Table.{int_lines, string_lines, char_lines}
use Rattle.initial_basis.proofs.Adding.{of_lines, env_adds, adds_then, adds_same, err_adds, structures_ok}
use Rattle.initial_basis.proofs.initial.built_in.Goals as goal

pub returns-clause-ok : goal.returns-clause-ok
returns-clause-ok c =
    structures_ok c.args.g.now c.env_of_rows.new.g c.env_of_rows-2.new.g c.env_of_rows-3.new.g c.in_ok-int.int
    c.in_ok-string.string c.in_ok-char.char c.with_names.result
    (of_lines c.args.g.now c.env_of_rows.new.g c.args.names.now c.in_ok-int_rows.int_rows int_lines c.in_ok-int.int
    c.requires c.in_ok-int_rows.ensures c.in_ok-int.ensures.ok)
    (of_lines c.env_of_rows.new.g c.env_of_rows-2.new.g c.args.names.now c.in_ok-string_rows.string_rows string_lines
    c.in_ok-string.string c.requires c.in_ok-string_rows.ensures c.in_ok-string.ensures.ok)
    (of_lines c.env_of_rows-2.new.g c.env_of_rows-3.new.g c.args.names.now c.in_ok-char_rows.char_rows char_lines
    c.in_ok-char.char c.requires c.in_ok-char_rows.ensures c.in_ok-char.ensures.ok)
    c.with_names.ensures
