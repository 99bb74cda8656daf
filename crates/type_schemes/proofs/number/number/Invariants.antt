use Rattle.std.proofs.Common.{◌≡◌, [], drop}
use Rattle.type_schemes.specs.Reaching.{variables_of, noticed_all}
use Rattle.type_schemes.specs.Numbering.{AreNumbers, keeps}
use Rattle.type_schemes.proofs.number.number.Given as goal

abbrev pub invariant-loop-id : goal.invariant-loop-id
invariant-loop-id l = record {
  numbers : AreNumbers l.numbers;
  variables : noticed_all (keeps l.fn.kept) (variables_of (drop l.id-index l.fn.reached.ids)) l.numbers.variables
      ≡ noticed_all (keeps l.fn.kept) (variables_of l.fn.reached.ids) [];
}
