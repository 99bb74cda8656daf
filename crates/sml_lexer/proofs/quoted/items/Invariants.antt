use Rattle.std.proofs.Common.{◌≡◌, ◌+◌, length}
use Rattle.sml_lexer.specs.Quoted.{longer, items_after}
use Rattle.sml_lexer.proofs.quoted.items.Given as goal

-- the bytes that the items so far stand for, before those of the rest
abbrev pub invariant-loop-next : goal.invariant-loop-next
invariant-loop-next l = record {
  value : longer l.out.items l.len (items_after 0 l.rest) ≡ items_after 0 l.fn.text;
  lengths : l.len + length l.rest ≡ length l.fn.text;
}

abbrev pub decreases-loop-next : goal.decreases-loop-next
decreases-loop-next l = length l.rest
