use Rattle.std.proofs.Common.{rules, ◌+◌, ◌++◌, sym, ap, ◌∙◌, map, drop, get_or}
use Rattle.std.proofs.lemmas.List.{drop_more}
use Rattle.interface_format.specs.Tags.{bool_byte}
use Rattle.row_forms.proofs.Marked.{no_mark}
use Rattle.row_forms.proofs.entries.marks_in.Goals as goal

pub returns-in_default : goal.returns-in_default
returns-in_default c =
    let bytes = c.args.bytes.now in
    let i = c.loop-byte.byte-index in
    no_mark bytes c.loop-byte.marks (get_or bytes i 0) (drop (i + 1) bytes)
    (ap (λ z. map bool_byte c.loop-byte.marks ++ z) (sym (drop_more bytes i 0 c.loop-byte-test.true))
    ∙ c.loop-byte.invariant)
    (search rules) (search rules)
