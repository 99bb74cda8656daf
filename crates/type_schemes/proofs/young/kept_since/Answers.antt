use Rattle.std.proofs.Common.{refl, sym, ap, ◌∙◌}
use Rattle.type_nodes.proofs.Histories.{kept}
use Rattle.type_schemes.specs.Schemes.{stays_since}
use Rattle.type_schemes.proofs.Ages.{stays_exactly}
use Rattle.type_schemes.proofs.young.kept_since.Goals as goal

pub meet_entries-requires-clause-heads : goal.meet_entries-requires-clause-heads
meet_entries-requires-clause-heads c = c.new-heads.ensures c.args.table.now

pub returns : goal.returns
returns c = λ v.
    let t = c.args.table.now in
    let p = c.args.since.now in
    let y = c.meet_all.new.self in
    stays_exactly t p
    (record { older = c.variables.result; settled = c.nodes.result; nodes = c.new.result; variables = c.new-2.result })
    c.meet_entries.new.self y (record { older = y.older; variables = y.variables }) c.args.unclosed.now c.entries.result v
    c.is_kept.ensures.kept c.is_kept.ensures.history c.is_past.ensures c.requires.front c.variables.ensures c.nodes.ensures
    c.entries.ensures c.new.ensures c.new-2.ensures c.in_ok-meet_entries.ensures.met c.in_ok-meet_all.ensures refl refl
    ∙ ap (λ n. stays_since t n c.args.unclosed.now v) (sym (kept p c.is_past.ensures).next)
