use Rattle.std.proofs.Common.{◌≡◌, ◌+◌, ◌*◌, length}
use Rattle.grammars.specs.Reading.{read}
use Rattle.signature_parser.specs.Joined.{bindings_from}
use Rattle.signature_parser.specs.SigLevels.{sig_level, sig_below}
use Rattle.signature_parser.specs.Signatures.{sig_bind}
use Rattle.signature_parser.specs.Specifications.{specs_from}
use Rattle.signature_parser.proofs.sig_exps.+sigs.Given as goal

-- Each function goes down a level, or to one that stands lower in the order of calls at one level.
abbrev pub decreases-sig_within : goal.decreases-sig_within
decreases-sig_within l = 16 * l.levels + 0

abbrev pub decreases-spec : goal.decreases-spec
decreases-spec l = 16 * l.levels + 0

abbrev pub decreases-sig : goal.decreases-sig
decreases-sig l = 16 * l.levels + 1

abbrev pub decreases-sig_bind : goal.decreases-sig_bind
decreases-sig_bind l = 16 * l.levels + 2

abbrev pub decreases-sig_binds_from : goal.decreases-sig_binds_from
decreases-sig_binds_from l = 16 * l.levels + 3

abbrev pub decreases-sig_binds : goal.decreases-sig_binds
decreases-sig_binds l = 16 * l.levels + 4

abbrev pub decreases-structure_spec : goal.decreases-structure_spec
decreases-structure_spec l = 16 * l.levels + 5

abbrev pub decreases-include_sig : goal.decreases-include_sig
decreases-include_sig l = 16 * l.levels + 5

abbrev pub decreases-include_spec : goal.decreases-include_spec
decreases-include_spec l = 16 * l.levels + 6

abbrev pub decreases-spec_word : goal.decreases-spec_word
decreases-spec_word l = 16 * l.levels + 7

abbrev pub decreases-spec_round : goal.decreases-spec_round
decreases-spec_round l = 16 * l.levels + 8

abbrev pub decreases-specs_from : goal.decreases-specs_from
decreases-specs_from l = 16 * l.levels + 9

abbrev pub decreases-specs : goal.decreases-specs
decreases-specs l = 16 * l.levels + 10

abbrev pub decreases-sig_body : goal.decreases-sig_body
decreases-sig_body l = 16 * l.levels + 11

abbrev pub decreases-sig_atom : goal.decreases-sig_atom
decreases-sig_atom l = 16 * l.levels + 12

-- What is left to read goes on from what was found so far.
abbrev pub invariant-sig_binds_from-loop-found : goal.invariant-sig_binds_from-loop-found
invariant-sig_binds_from-loop-found l =
    read (bindings_from (sig_bind (sig_level l.levels).sig l.mark) l.found) l.lexemes.rest.now
    ≡ read (bindings_from (sig_bind (sig_level l.levels).sig l.mark) l.fn.found) l.fn.lexemes.rest.now

abbrev pub decreases-sig_binds_from-loop-found : goal.decreases-sig_binds_from-loop-found
decreases-sig_binds_from-loop-found l = length l.lexemes.rest.now

abbrev pub invariant-specs_from-loop-first : goal.invariant-specs_from-loop-first
invariant-specs_from-loop-first l =
    read (specs_from l.levels (sig_below l.levels) l.found) l.lexemes.rest.now
    ≡ read (specs_from l.levels (sig_below l.levels) l.fn.found) l.fn.lexemes.rest.now

abbrev pub decreases-specs_from-loop-first : goal.decreases-specs_from-loop-first
decreases-specs_from-loop-first l = length l.lexemes.rest.now
