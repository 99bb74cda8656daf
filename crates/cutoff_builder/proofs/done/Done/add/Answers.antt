use Rattle.std.proofs.Common.{◌≡◌, ◌∙◌, sym, ap, ap₂, subst, ◌+◌, ◌++◌, ◌∷◌, [], length, nat_eq, cond, Some}
use Rattle.indexmap.specs.IndexMap.{get}
use lib.Pointwise.{pointwise}
use Rattle.cutoff_builder.specs.Answers.{IsIndexed}
use Rattle.build_laws.specs.Inputs.{interface_bytes}
use Rattle.cutoff_builder.proofs.DoneLemmas.{indexed_more, interface_bytes-add}
use Rattle.cutoff_builder.proofs.done.Done.add.Goals as goal

pub returns-clause-done : goal.returns-clause-done
returns-clause-done c =
    let added : c.add.new.self ≡ c.args.self.now.units ++ c.args.unit ∷ [] = c.in_ok-add.ensures.ok in
    record {
      indexed = subst (IsIndexed (get (pointwise nat_eq) c.insert.new.self)) (sym added)
          (indexed_more (get (pointwise nat_eq) c.args.self.now.places) (get (pointwise nat_eq) c.insert.new.self) c.args.self.now.units c.args.unit
          (λ name. c.in_ok-insert.ensures.updates.0 name
          ∙ ap (λ k. cond (pointwise nat_eq k name) (Some c.len.result) (get (pointwise nat_eq) c.args.self.now.places name)) c.in_ok-name.ensures
          ∙ ap (λ n. cond (pointwise nat_eq c.args.unit.unit name) (Some n) (get (pointwise nat_eq) c.args.self.now.places name)) c.len.ensures) c.requires.done.indexed);
      bytes = ap₂ (λ a b. a + b) c.requires.done.bytes (ap length c.as_bytes.ensures)
          ∙ sym (interface_bytes-add c.args.self.now.units c.args.unit) ∙ ap interface_bytes (sym added);
    }
