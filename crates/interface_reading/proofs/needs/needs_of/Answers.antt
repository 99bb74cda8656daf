use Rattle.std.proofs.Common.{refl, [], ◌∷◌, arith}
use Rattle.interface_reading.specs.declared.needs.Listed.TheVariants as listed
use Rattle.interface_reading.specs.declared.needs.Need.TheVariants as need
use Rattle.interface_reading.proofs.Awaited.{needs_are}
use Rattle.interface_reading.proofs.Weighing.{few_needs}
use Rattle.interface_reading.proofs.needs.needs_of.Goals as goal

pub returns-in-2-clause-shape : goal.returns-in-2-clause-shape
returns-in-2-clause-shape c =
    needs_are c.args.tag 2 (need.List listed.Named ∷ []) c.needs_from-in-2.result c.in-2.is refl
    c.needs_from-in-2.ensures.ok c.needs_from-in-2.ensures.err

pub returns-in-4-clause-shape : goal.returns-in-4-clause-shape
returns-in-4-clause-shape c =
    needs_are c.args.tag 4
    (need.List listed.Parts ∷ need.Raw 1 ∷ need.Raw 4 ∷ need.Raw 4 ∷ need.Owner ∷ []) c.needs_from-in-4.result
    c.in-4.is refl c.needs_from-in-4.ensures.ok c.needs_from-in-4.ensures.err

pub returns-in-7-clause-shape : goal.returns-in-7-clause-shape
returns-in-7-clause-shape c =
    needs_are c.args.tag 7 (need.List listed.Named ∷ need.Part ∷ []) c.needs_from-in-7.result c.in-7.is refl
    c.needs_from-in-7.ensures.ok c.needs_from-in-7.ensures.err

pub returns-in-11-clause-shape : goal.returns-in-11-clause-shape
returns-in-11-clause-shape c =
    needs_are c.args.tag 11
    (need.List listed.Named ∷ need.List listed.Named ∷ need.List listed.Named ∷ need.List listed.Named ∷ [])
    c.needs_from-in-11.result c.in-11.is refl c.needs_from-in-11.ensures.ok c.needs_from-in-11.ensures.err

pub returns-in-2-clause-few : goal.returns-in-2-clause-few
returns-in-2-clause-few c =
    few_needs c.needs_from-in-2.result
    (need.List listed.Named ∷ [])
    c.needs_from-in-2.ensures.ok (omega arith)

pub returns-in-4-clause-few : goal.returns-in-4-clause-few
returns-in-4-clause-few c =
    few_needs c.needs_from-in-4.result
    (need.List listed.Parts ∷ need.Raw 1 ∷ need.Raw 4 ∷ need.Raw 4 ∷ need.Owner ∷ [])
    c.needs_from-in-4.ensures.ok (omega arith)

pub returns-in-7-clause-few : goal.returns-in-7-clause-few
returns-in-7-clause-few c =
    few_needs c.needs_from-in-7.result
    (need.List listed.Named ∷ need.Part ∷ [])
    c.needs_from-in-7.ensures.ok (omega arith)

pub returns-in-11-clause-few : goal.returns-in-11-clause-few
returns-in-11-clause-few c =
    few_needs c.needs_from-in-11.result
    (need.List listed.Named ∷ need.List listed.Named ∷ need.List listed.Named ∷ need.List listed.Named ∷ [])
    c.needs_from-in-11.ensures.ok (omega arith)
