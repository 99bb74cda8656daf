use Rattle.std.proofs.Common.{◌≡◌, ◌∙◌, ◌<◌, ℕ, arith, sym, ap, length, take}
use Rattle.infix_names.specs.Fixities.{left_over}
use Rattle.infix_names.proofs.FixityTables.{left_linked, left_long, left_known}
use Rattle.infix_names.proofs.fixity.Fixities.keep.Goals as goal

some : (c : goal.After-deref_mut) → c.args.start < length c.self.inside.entries.items
some c = omega (arith, c.if-start-len.true, c.len.ensures)

left : (c : goal.After-deref_mut)
    → c.deref-then-start-len-2.result.now ≡ left_over c.args.start c.args.kept c.self.inside.entries.items
left c = c.deref-then-start-len-2.ensures.value ∙ c.take_out.ensures

shorter : (c : goal.After-deref_mut)
    → c.deref_mut.result.now ≡ take (length c.deref-then-start-len-2.result.now) c.self.inside.links.items
shorter c =
    c.deref_mut.ensures.value ∙ c.truncate.ensures.items
    ∙ ap (λ (n : ℕ). take n c.self.inside.links.items)
    (c.count_of.ensures ∙ sym (ap length c.deref-then-start-len-2.ensures.value))

pub recall-requires-clause-linked : goal.recall-requires-clause-linked
recall-requires-clause-linked c =
    left_linked c.args.start c.args.kept c.self.inside.entries.items c.deref-then-start-len-2.result.now
    c.self.inside.links.items c.deref_mut.result.now (some c) c.self.invariant.linked (left c) (shorter c)

pub recall-requires-clause-as_long : goal.recall-requires-clause-as_long
recall-requires-clause-as_long c =
    left_long c.args.start c.args.kept c.self.inside.entries.items c.deref-then-start-len-2.result.now
    c.self.inside.links.items c.deref_mut.result.now (some c) c.self.invariant.linked (left c) (shorter c)

pub recall-requires-clause-known : goal.recall-requires-clause-known
recall-requires-clause-known c =
    left_known c.self.inside.last c.forget.new.last c.args.start c.args.kept c.self.inside.entries.items
    c.deref-then-start-len-2.result.now c.self.invariant.placed c.forget.ensures.same (left c)
