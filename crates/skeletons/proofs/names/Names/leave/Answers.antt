use Rattle.std.proofs.Common.{ap, sym, take, drop, length, ◌∙◌, ◌-◌}
use Rattle.skeletons.specs.Counting.{count_in, bindings}
use Rattle.skeletons.proofs.Counts.{counted_front, rest_taken}
use Rattle.skeletons.proofs.names.Names.leave.Goals as goal

pub invariant_of-self : goal.invariant_of-self
invariant_of-self c = λ name.
    counted_front (count_in c.self.inside.counts) (count_in c.uncount_all.new.counts) c.self.inside.trail.items
    c.args.kept c.self.invariant
    (λ n. c.uncount_all.ensures n
    ∙ ap (λ xs. count_in c.self.inside.counts n - bindings (take (length xs - c.args.kept) (drop c.args.kept xs)) n)
    c.deref.ensures.value
    ∙ ap (λ xs. count_in c.self.inside.counts n - bindings xs n) (rest_taken c.args.kept c.self.inside.trail.items))
    name
    ∙ ap (λ names. bindings names name) (sym c.truncate.ensures.items)
