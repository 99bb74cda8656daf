use Rattle.std.proofs.Common.{refl, ap, ◌∙◌, List, [], ◌∷◌, ◌++◌, ℕ}
use Rattle.sml_trees.specs.declared.name.LongName.{LongName}
use Rattle.signature_parts.proofs.Opening.{nameless_made}
use Rattle.signature_parts.proofs.including.open_nameless.Goals as goal

pub returns-in-Ok-clause-is : goal.returns-in-Ok-clause-is
returns-in-Ok-clause-is c =
    let long : LongName = record { parts = c.add.new.self; line = 1; col = 1 } in
    nameless_made c.args.g.now c.args.scope.now c.in-Ok.made c.as_slice.result.now long c.add.new.self
    c.in_ok-nameless.field-0
    (c.as_slice.ensures ∙ c.in_ok-add-2.ensures.ok ∙ ap (λ (ls : List LongName). ls ++ long ∷ []) c.new-longs.ensures)
    refl
    (c.in_ok-add.ensures.ok ∙ ap (λ (ps : List (List ℕ)). ps ++ c.in_ok-nameless.field-0 ∷ []) c.new-parts.ensures)
    c.in_ok-nameless.ensures c.in-Ok.ensures.infers
