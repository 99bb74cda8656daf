use Rattle.std.proofs.Common.{◌≡◌, length}
use Rattle.grammars.specs.Reading.{read}
use Rattle.core_bindings.specs.Bindings.{dat_bind}
use Rattle.phrase_reading.specs.Sized.{further}
use Rattle.core_types.specs.Types.{ty}
use Rattle.sml_lexer.specs.declared.words.Word.TheVariants as w
use Rattle.core_bindings.proofs.datatype_decs.dat_binds.Given as goal

-- what is left to read goes on from what was found so far
abbrev pub invariant-loop-alloc : goal.invariant-loop-alloc
invariant-loop-alloc l =
    read (further w.And (dat_bind (ty l.levels)) l.found) l.lexemes.rest.now
    ≡ read (further w.And (dat_bind (ty l.levels)) l.fn.found) l.fn.lexemes.rest.now

abbrev pub decreases-loop-alloc : goal.decreases-loop-alloc
decreases-loop-alloc l = length l.lexemes.rest.now
