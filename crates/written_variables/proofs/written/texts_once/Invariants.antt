use Rattle.std.proofs.Common.{◌≡◌, [], drop}
use Rattle.written_variables.specs.Texts.{AreSeen, with_names}
use Rattle.written_variables.proofs.written.texts_once.Given as goal

-- the texts so far, and what becomes of them with the names that are left
abbrev pub invariant-loop-name : goal.invariant-loop-name
invariant-loop-name l = record {
  seen : AreSeen l.seen l.texts;
  all : with_names l.texts (drop l.name-index l.names) ≡ with_names [] l.fn.names;
}
