use Rattle.std.proofs.Common.{◌≡◌, ◌+◌, ◌*◌, ◌-◌, ◌<◌, length}
use Rattle.grammars.specs.Reading.{read}
use Rattle.phrase_reading.specs.Sized.{further}
use Rattle.core_types.specs.Types.{ty}
use Rattle.core_patterns.specs.Patterns.{pat, pat_level, field, run_on}
use Rattle.sml_lexer.specs.declared.words.Word.TheVariants as w
use Rattle.core_patterns.proofs.+patterns.Given as goal

-- Each function goes down a level, or to one that stands lower in the order of calls at one level.
abbrev pub decreases-pat_fields::maybe_pat : goal.decreases-pat_fields::maybe_pat
decreases-pat_fields::maybe_pat l = 40 * l.levels + 31

abbrev pub decreases-patterns::pat : goal.decreases-patterns::pat
decreases-patterns::pat l = 40 * l.levels + 30

abbrev pub decreases-patterns::operand_after : goal.decreases-patterns::operand_after
decreases-patterns::operand_after l = 40 * l.levels + 29

abbrev pub decreases-atpats::atpat_after : goal.decreases-atpats::atpat_after
decreases-atpats::atpat_after l = 40 * l.levels + 28

abbrev pub decreases-atpats::atpat_word : goal.decreases-atpats::atpat_word
decreases-atpats::atpat_word l = 40 * l.levels + 27

abbrev pub decreases-atpats::in_parens : goal.decreases-atpats::in_parens
decreases-atpats::in_parens l = 40 * l.levels + 26

abbrev pub decreases-pat_fields::record_of : goal.decreases-pat_fields::record_of
decreases-pat_fields::record_of l = 40 * l.levels + 26

abbrev pub decreases-atpats::in_brackets : goal.decreases-atpats::in_brackets
decreases-atpats::in_brackets l = 40 * l.levels + 26

abbrev pub decreases-atpats::inside_parens : goal.decreases-atpats::inside_parens
decreases-atpats::inside_parens l = 40 * l.levels + 25

abbrev pub decreases-atpats::items_of : goal.decreases-atpats::items_of
decreases-atpats::items_of l = 40 * l.levels + 25

abbrev pub decreases-pat_fields::fields_of : goal.decreases-pat_fields::fields_of
decreases-pat_fields::fields_of l = 40 * l.levels + 25

abbrev pub decreases-atpats::behind_first : goal.decreases-atpats::behind_first
decreases-atpats::behind_first l = 40 * l.levels + 24

abbrev pub decreases-atpats::tuple_of : goal.decreases-atpats::tuple_of
decreases-atpats::tuple_of l = 40 * l.levels + 23

abbrev pub decreases-atpats::patterns : goal.decreases-atpats::patterns
decreases-atpats::patterns l = 40 * l.levels + 22

abbrev pub decreases-pat_fields::fields : goal.decreases-pat_fields::fields
decreases-pat_fields::fields l = 40 * l.levels + 24

abbrev pub decreases-pat_fields::field : goal.decreases-pat_fields::field
decreases-pat_fields::field l = 40 * l.levels + 23

abbrev pub decreases-pat_fields::field_behind : goal.decreases-pat_fields::field_behind
decreases-pat_fields::field_behind l = 40 * l.levels + 22

abbrev pub decreases-pat_fields::labelled : goal.decreases-pat_fields::labelled
decreases-pat_fields::labelled l = 40 * l.levels + 21

abbrev pub decreases-pat_fields::named_field : goal.decreases-pat_fields::named_field
decreases-pat_fields::named_field l = 40 * l.levels + 21

abbrev pub decreases-patterns::behind_operand : goal.decreases-patterns::behind_operand
decreases-patterns::behind_operand l = 40 * l.levels + 20

abbrev pub decreases-patterns::run_of : goal.decreases-patterns::run_of
decreases-patterns::run_of l = 40 * l.levels + 19

abbrev pub decreases-layers::alone : goal.decreases-layers::alone
decreases-layers::alone l = 40 * l.levels + 19

abbrev pub decreases-layers::behind_id : goal.decreases-layers::behind_id
decreases-layers::behind_id l = 40 * l.levels + 18

abbrev pub decreases-layers::behind_name : goal.decreases-layers::behind_name
decreases-layers::behind_name l = 40 * l.levels + 17

abbrev pub decreases-patterns::run_on : goal.decreases-patterns::run_on
decreases-patterns::run_on l = 40 * l.levels + 17

abbrev pub decreases-patterns::run_part : goal.decreases-patterns::run_part
decreases-patterns::run_part l = 40 * l.levels + 16

abbrev pub decreases-layers::typed_id : goal.decreases-layers::typed_id
decreases-layers::typed_id l = 40 * l.levels + 16

abbrev pub decreases-layers::behind_typed : goal.decreases-layers::behind_typed
decreases-layers::behind_typed l = 40 * l.levels + 15

abbrev pub decreases-patterns::part_by : goal.decreases-patterns::part_by
decreases-patterns::part_by l = 40 * l.levels + 14

abbrev pub decreases-patterns::argument : goal.decreases-patterns::argument
decreases-patterns::argument l = 40 * l.levels + 13

abbrev pub decreases-patterns::operand_behind : goal.decreases-patterns::operand_behind
decreases-patterns::operand_behind l = 40 * l.levels + 13

abbrev pub decreases-layers::layer : goal.decreases-layers::layer
decreases-layers::layer l = 40 * l.levels + 10

abbrev pub invariant-atpats::patterns-loop-alloc : goal.invariant-atpats::patterns-loop-alloc
invariant-atpats::patterns-loop-alloc l = record {
  reads : read (further w.Comma (pat l.fixities (l.levels - 1)) l.found) l.lexemes.rest.now
      ≡ read (further w.Comma (pat l.fixities (l.levels - 1)) l.fn.first) l.fn.lexemes.rest.now;
  low : l.found.height < l.levels;
}

abbrev pub decreases-atpats::patterns-loop-alloc : goal.decreases-atpats::patterns-loop-alloc
decreases-atpats::patterns-loop-alloc l = length l.lexemes.rest.now

abbrev pub invariant-pat_fields::fields-loop-alloc : goal.invariant-pat_fields::fields-loop-alloc
invariant-pat_fields::fields-loop-alloc l = record {
  reads : read (further w.Comma (field (ty (l.levels - 1)) (pat l.fixities (l.levels - 1))) l.found) l.lexemes.rest.now
      ≡ read (further w.Comma (field (ty (l.levels - 1)) (pat l.fixities (l.levels - 1))) l.fn.first) l.fn.lexemes.rest.now;
  low : l.found.height < l.levels;
}

abbrev pub decreases-pat_fields::fields-loop-alloc : goal.decreases-pat_fields::fields-loop-alloc
decreases-pat_fields::fields-loop-alloc l = length l.lexemes.rest.now

abbrev pub invariant-patterns::run_on-loop-alloc : goal.invariant-patterns::run_on-loop-alloc
invariant-patterns::run_on-loop-alloc l = record {
  reads : read (run_on l.fixities l.levels (pat_level l.fixities (l.levels - 1)) l.run) l.lexemes.rest.now
      ≡ read (run_on l.fixities l.levels (pat_level l.fixities (l.levels - 1)) l.fn.first) l.fn.lexemes.rest.now;
  low : l.run.height < l.levels;
}

abbrev pub decreases-patterns::run_on-loop-alloc : goal.decreases-patterns::run_on-loop-alloc
decreases-patterns::run_on-loop-alloc l = length l.lexemes.rest.now

abbrev pub decreases-patterns::pat_after : goal.decreases-patterns::pat_after
decreases-patterns::pat_after l = 40 * l.levels + 29

abbrev pub decreases-patterns::operand_joined : goal.decreases-patterns::operand_joined
decreases-patterns::operand_joined l = 40 * l.levels + 12

abbrev pub decreases-patterns::part_after : goal.decreases-patterns::part_after
decreases-patterns::part_after l = 40 * l.levels + 15
