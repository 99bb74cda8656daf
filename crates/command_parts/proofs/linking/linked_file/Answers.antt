use Rattle.std.proofs.Common.{sym, subst}
use Rattle.linker.specs.Spelling.{IsShort}
use Rattle.command_parts.proofs.LinkedSizes.{all_short}
use Rattle.command_parts.proofs.linking.linked_file.Goals as goal

pub write_linked-requires : goal.write_linked-requires
write_linked-requires c =
    subst IsShort (sym c.in_ok-linked.ensures)
    (c.links_can_be_spelled.ensures c.args.built.now.units c.requires.few
    (all_short c.args.built.now.units c.requires.bins)).short
