use Rattle.std.proofs.Common.{◌≡◌, ◌∷◌, ◌++◌, [], List, ℕ, sym, subst, arith}
use Rattle.std.specs.Prelude.{Contains}
use Rattle.std.proofs.lemmas.Grind.{common_steps}
use Rattle.std.proofs.lemmas.List.{nil_from_length}
use Rattle.std.proofs.lemmas.List.Elements.{Contains-push}
use Rattle.equality_types.specs.Falling.{IsFalling}
use Rattle.equality_types.proofs.Fallen.{falls_on, falls_end}
use Rattle.equality_types.proofs.choice.refuse_holders.Goals as goal

pub holders_at-requires : goal.holders_at-requires
holders_at-requires c =
    let is : c.loop-part.work.items ≡ c.pop.new.self.items ++ c.in-Some.part ∷ [] = c.in-Some.ensures.items in
    let has = subst (λ (list : List ℕ). Contains list c.in-Some.part) (sym is)
    (Contains-push c.pop.new.self.items c.in-Some.part) in
    omega (arith, c.loop-part.invariant.counted, (c.loop-part.invariant.fallen c.in-Some.part has).0)

-- the holders of the last type of the list fall
pub loop-part-preserved : goal.loop-part-preserved
loop-part-preserved c =
    let is : c.loop-part.work.items ≡ c.pop.new.self.items ++ c.in-Some.part ∷ [] = c.in-Some.ensures.items in
    let now = subst (λ (list : List ℕ). IsFalling c.args.barred.now c.args.holders.now c.loop-part.choice list) is
    c.loop-part.invariant in
    let falls = rw c.holders_at.ensures at c.in_ok-refuse_all.ensures in
    falls_on c.args.barred.now c.args.holders.now c.loop-part.choice _ c.pop.new.self.items _ c.in-Some.part now falls

-- the list is empty
pub returns : goal.returns
returns c =
    let none : c.loop-part.work.items ≡ [] = nil_from_length c.loop-part.work.items (grind (arith, common_steps)) in
    falls_end c.args.barred.now c.args.holders.now c.loop-part.choice
    (subst (λ (list : List ℕ). IsFalling c.args.barred.now c.args.holders.now c.loop-part.choice list) none
    c.loop-part.invariant)
