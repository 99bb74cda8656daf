use Rattle.std.proofs.Common.{◌≡◌, true, subst}
use Rattle.std.specs.Prelude.{◌↔◌}
use Rattle.semantic_objects.specs.Symbols.{AreRising}
use Rattle.type_walks.proofs.Imaging.{if_ok}
use Rattle.given_tops.specs.Names.{nodes_of}
use Rattle.given_tops.proofs.Constructors.{cons_names, type_is, type_rises_not, type_function_not}
use Rattle.given_tops.proofs.entries.type_fits.Goals as goal

pub returns-then-not-cons_rise : goal.returns-then-not-cons_rise
returns-then-not-cons_rise c =
    type_rises_not (nodes_of c.args.limits.now) c.args.entry.now c.cons_rise.result
    (subst (λ cons. (c.cons_rise.result ≡ true) ↔ AreRising (cons_names cons)) c.as_slice.ensures c.cons_rise.ensures)
    c.if-not-cons_rise.true

pub returns-then-branch : goal.returns-then-branch
returns-then-branch c = if_ok c.cons_fit.result c.cons_fit.ensures
    (λ b h. type_is (nodes_of c.args.limits.now) c.args.entry.now c.cons_rise.result _ b
    (subst (λ cons. (c.cons_rise.result ≡ true) ↔ AreRising (cons_names cons)) c.as_slice.ensures c.cons_rise.ensures)
    c.if-not-cons_rise.false c.in_ok-function_fits.ensures c.if-branch.true h)

pub returns-else-branch : goal.returns-else-branch
returns-else-branch c =
    type_function_not (nodes_of c.args.limits.now) c.args.entry.now _ c.in_ok-function_fits.ensures c.if-branch.false
