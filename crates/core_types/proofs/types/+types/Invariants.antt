use Rattle.std.proofs.Common.{◌≡◌, ◌+◌, ◌*◌, ◌-◌, ◌<◌, length}
use Rattle.grammars.specs.Reading.{read}
use Rattle.phrase_reading.specs.Sized.{further}
use Rattle.core_types.specs.Types.{ty, ty_level, field, starred}
use Rattle.sml_lexer.specs.declared.words.Word.TheVariants as w
use Rattle.core_types.proofs.types.+types.Given as goal

-- Each function goes down a level, or to one that stands lower in the order of calls at one level.
abbrev pub decreases-ty : goal.decreases-ty
decreases-ty l = 20 * l.levels + 12

abbrev pub decreases-part : goal.decreases-part
decreases-part l = 20 * l.levels + 11

abbrev pub decreases-ty_after : goal.decreases-ty_after
decreases-ty_after l = 20 * l.levels + 10

abbrev pub decreases-part_after : goal.decreases-part_after
decreases-part_after l = 20 * l.levels + 9

abbrev pub decreases-tuple : goal.decreases-tuple
decreases-tuple l = 20 * l.levels + 8

abbrev pub decreases-arrow : goal.decreases-arrow
decreases-arrow l = 20 * l.levels + 8

abbrev pub decreases-tuple_of : goal.decreases-tuple_of
decreases-tuple_of l = 20 * l.levels + 7

abbrev pub decreases-arrow_of : goal.decreases-arrow_of
decreases-arrow_of l = 20 * l.levels + 7

abbrev pub decreases-starred : goal.decreases-starred
decreases-starred l = 20 * l.levels + 6

abbrev pub decreases-atom_after : goal.decreases-atom_after
decreases-atom_after l = 20 * l.levels + 7

abbrev pub decreases-in_parens : goal.decreases-in_parens
decreases-in_parens l = 20 * l.levels + 6

abbrev pub decreases-behind_first : goal.decreases-behind_first
decreases-behind_first l = 20 * l.levels + 5

abbrev pub decreases-applied_all : goal.decreases-applied_all
decreases-applied_all l = 20 * l.levels + 4

abbrev pub decreases-types : goal.decreases-types
decreases-types l = 20 * l.levels + 3

abbrev pub decreases-record_of : goal.decreases-record_of
decreases-record_of l = 20 * l.levels + 6

abbrev pub decreases-fields_of : goal.decreases-fields_of
decreases-fields_of l = 20 * l.levels + 5

abbrev pub decreases-fields : goal.decreases-fields
decreases-fields l = 20 * l.levels + 4

abbrev pub decreases-field : goal.decreases-field
decreases-field l = 20 * l.levels + 3

abbrev pub invariant-types-loop-alloc : goal.invariant-types-loop-alloc
invariant-types-loop-alloc l = record {
  reads : read (further w.Comma (ty (l.levels - 1)) l.found) l.lexemes.rest.now
      ≡ read (further w.Comma (ty (l.levels - 1)) l.fn.first) l.fn.lexemes.rest.now;
  low : l.found.height < l.levels;
}

abbrev pub decreases-types-loop-alloc : goal.decreases-types-loop-alloc
decreases-types-loop-alloc l = length l.lexemes.rest.now

abbrev pub invariant-fields-loop-alloc : goal.invariant-fields-loop-alloc
invariant-fields-loop-alloc l = record {
  reads : read (further w.Comma (field (ty (l.levels - 1))) l.found) l.lexemes.rest.now
      ≡ read (further w.Comma (field (ty (l.levels - 1))) l.fn.first) l.fn.lexemes.rest.now;
  low : l.found.height < l.levels;
}

abbrev pub decreases-fields-loop-alloc : goal.decreases-fields-loop-alloc
decreases-fields-loop-alloc l = length l.lexemes.rest.now

abbrev pub invariant-starred-loop-alloc : goal.invariant-starred-loop-alloc
invariant-starred-loop-alloc l = record {
  reads : read (starred (ty_level (l.levels - 1)).part l.found) l.lexemes.rest.now
      ≡ read (starred (ty_level (l.levels - 1)).part l.fn.first) l.fn.lexemes.rest.now;
  low : l.found.height < l.levels;
}

abbrev pub decreases-starred-loop-alloc : goal.decreases-starred-loop-alloc
decreases-starred-loop-alloc l = length l.lexemes.rest.now
