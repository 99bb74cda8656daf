use Rattle.std.proofs.Common.{◌≡◌, ◌≤◌, ◌<◌, ◌+◌, ◌++◌, length}
use Rattle.std.specs.List.{sum_by}
use Rattle.sml_lexer.specs.Names.{qualifier_len, identifier_len, parts_after}
use Rattle.sml_lexer.proofs.name.name_parts.Given as goal

-- the parts found and those of the rest are all, and an identifier stands at the front of the rest
abbrev pub invariant-loop-next : goal.invariant-loop-next
invariant-loop-next l = record {
  parts : l.parts ++ parts_after 0 l.rest ≡ parts_after 0 l.fn.text;
  taken : l.len ≡ sum_by (λ part. length part + 1) l.parts;
  lengths : l.len + length l.rest ≡ length l.fn.text;
  next : l.next ≡ qualifier_len l.rest;
  within : l.next ≤ length l.rest;
  here : 0 < identifier_len l.rest;
}

abbrev pub decreases-loop-next : goal.decreases-loop-next
decreases-loop-next l = length l.rest
