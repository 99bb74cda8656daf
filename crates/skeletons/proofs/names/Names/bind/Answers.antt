use Rattle.std.proofs.Common.{rules, ap, ap₂, sym, take, length, ◌≡◌, ◌∙◌, ◌+◌}
use Rattle.skeletons.specs.Counting.{count_in, bindings}
use Rattle.skeletons.proofs.Counts.{counted_more, take_front}
use Rattle.skeletons.proofs.names.Names.bind.Goals as goal

pub invariant_of-self-in-Ok : goal.invariant_of-self-in-Ok
invariant_of-self-in-Ok c =
    counted_more (count_in c.self.inside.counts) (count_in c.put.new.counts) c.self.inside.trail.items
    c.push.new.self.items c.args.name c.in_ok-copy.copy c.in_ok-more.more c.self.invariant c.in-Ok.ensures.ok
    (c.in_ok-more.ensures ∙ ap (λ n. n + 1) c.count_of.ensures) c.in_ok-copy.ensures c.in_ok-push.ensures.items

pub invariant_of-self-in-Err : goal.invariant_of-self-in-Err
invariant_of-self-in-Err c = λ name.
    let before : c.len-before.result ≡ length c.self.inside.trail.items = search rules in
    c.in-Err.ensures.err name ∙ c.self.invariant name
    ∙ ap (λ names. bindings names name)
    (sym (c.truncate.ensures.items ∙ ap₂ take before c.in_ok-push.ensures.items
    ∙ take_front c.self.inside.trail.items _))
