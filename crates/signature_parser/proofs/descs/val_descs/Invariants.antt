use Rattle.std.proofs.Common.{◌≡◌, length}
use Rattle.grammars.specs.Reading.{read}
use Rattle.phrase_reading.specs.Sized.{further}
use Rattle.core_types.specs.Types.{ty}
use Rattle.sml_lexer.specs.declared.words.Word.TheVariants as w
use Rattle.signature_parser.specs.Specifications.{val_desc}
use Rattle.signature_parser.proofs.descs.val_descs.Given as goal

-- what is left to read goes on from what was found so far
abbrev pub invariant-loop-alloc : goal.invariant-loop-alloc
invariant-loop-alloc l =
    read (further w.And (val_desc (ty l.levels)) l.found) l.lexemes.rest.now ≡ read (further w.And (val_desc (ty l.levels)) l.fn.found) l.fn.lexemes.rest.now

abbrev pub decreases-loop-alloc : goal.decreases-loop-alloc
decreases-loop-alloc l = length l.lexemes.rest.now
