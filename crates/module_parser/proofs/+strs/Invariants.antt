use Rattle.std.proofs.Common.{◌≡◌, ◌+◌, ◌*◌, length, take}
use Rattle.grammars.specs.Reading.{read}
use Rattle.core_bindings.specs.Decs.{declared}
use Rattle.signature_parser.specs.Joined.{bindings_from}
use Rattle.module_parser.specs.StrLevels.{str_level, str_below}
use Rattle.module_parser.specs.Structures.{str_bind, str_decs_from}
use Rattle.module_parser.proofs.+strs.Given as goal

-- Each function goes down a level, or to one that stands lower in the order of calls at one level.
abbrev pub decreases-str_exps::str_within : goal.decreases-str_exps::str_within
decreases-str_exps::str_within l = 16 * l.levels + 0

abbrev pub decreases-str_decs::str_dec_word : goal.decreases-str_decs::str_dec_word
decreases-str_decs::str_dec_word l = 16 * l.levels + 0

abbrev pub decreases-str_exps::str_after : goal.decreases-str_exps::str_after
decreases-str_exps::str_after l = 16 * l.levels + 1

abbrev pub decreases-str_decs::str_dec : goal.decreases-str_decs::str_dec
decreases-str_decs::str_dec l = 16 * l.levels + 1

abbrev pub decreases-str_exps::str_exp : goal.decreases-str_exps::str_exp
decreases-str_exps::str_exp l = 16 * l.levels + 2

abbrev pub decreases-str_decs::str_round : goal.decreases-str_decs::str_round
decreases-str_decs::str_round l = 16 * l.levels + 2

abbrev pub decreases-str_decs::str_decs : goal.decreases-str_decs::str_decs
decreases-str_decs::str_decs l = 16 * l.levels + 3

abbrev pub decreases-str_exps::of_str : goal.decreases-str_exps::of_str
decreases-str_exps::of_str l = 16 * l.levels + 4

abbrev pub decreases-str_exps::of_decs : goal.decreases-str_exps::of_decs
decreases-str_exps::of_decs l = 16 * l.levels + 4

abbrev pub decreases-str_exps::struct_str : goal.decreases-str_exps::struct_str
decreases-str_exps::struct_str l = 16 * l.levels + 4

abbrev pub decreases-str_exps::lone_str : goal.decreases-str_exps::lone_str
decreases-str_exps::lone_str l = 16 * l.levels + 3

abbrev pub decreases-str_exps::let_str : goal.decreases-str_exps::let_str
decreases-str_exps::let_str l = 16 * l.levels + 4

abbrev pub decreases-str_exps::str_bind : goal.decreases-str_exps::str_bind
decreases-str_exps::str_bind l = 16 * l.levels + 4

abbrev pub decreases-str_decs::local_str : goal.decreases-str_decs::local_str
decreases-str_decs::local_str l = 16 * l.levels + 4

abbrev pub decreases-str_exps::of_strdec : goal.decreases-str_exps::of_strdec
decreases-str_exps::of_strdec l = 16 * l.levels + 5

abbrev pub decreases-str_exps::argument : goal.decreases-str_exps::argument
decreases-str_exps::argument l = 16 * l.levels + 6

abbrev pub decreases-str_decs::str_binds_from : goal.decreases-str_decs::str_binds_from
decreases-str_decs::str_binds_from l = 16 * l.levels + 5

abbrev pub decreases-str_exps::short_named : goal.decreases-str_exps::short_named
decreases-str_exps::short_named l = 16 * l.levels + 7

abbrev pub decreases-str_decs::str_binds : goal.decreases-str_decs::str_binds
decreases-str_decs::str_binds l = 16 * l.levels + 6

abbrev pub decreases-str_exps::str_atom : goal.decreases-str_exps::str_atom
decreases-str_exps::str_atom l = 16 * l.levels + 8

abbrev pub decreases-str_decs::structures : goal.decreases-str_decs::structures
decreases-str_decs::structures l = 16 * l.levels + 7

-- What is left to read goes on from what was found so far.
abbrev pub invariant-str_decs::str_binds_from-loop-found : goal.invariant-str_decs::str_binds_from-loop-found
invariant-str_decs::str_binds_from-loop-found l = record {
  reads : read (bindings_from (str_bind l.levels (str_level l.levels) l.fn.fixities) l.found) l.lexemes.rest.now
      ≡ read (bindings_from (str_bind l.levels (str_level l.levels) l.fn.fixities) l.fn.found) l.fn.lexemes.rest.now;
  same : l.fixities ≡ l.fn.fixities;
}

abbrev pub decreases-str_decs::str_binds_from-loop-found : goal.decreases-str_decs::str_binds_from-loop-found
decreases-str_decs::str_binds_from-loop-found l = length l.lexemes.rest.now

abbrev pub invariant-str_decs::str_decs-loop-first : goal.invariant-str_decs::str_decs-loop-first
invariant-str_decs::str_decs-loop-first l = record {
  kept : take (length l.fn.fixities) l.fixities ≡ l.fn.fixities;
  reads : read (str_decs_from l.levels (str_below l.levels) (declared l.found l.fixities)) l.lexemes.rest.now
      ≡ read ((str_level l.fn.levels).decs l.fn.fixities) l.fn.lexemes.rest.now;
}

abbrev pub decreases-str_decs::str_decs-loop-first : goal.decreases-str_decs::str_decs-loop-first
decreases-str_decs::str_decs-loop-first l = length l.lexemes.rest.now
