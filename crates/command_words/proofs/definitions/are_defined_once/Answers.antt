use Rattle.std.proofs.Common.{◌∙◌, ◌∷◌, nat_eq, ap, sym, cond, true}
use Rattle.std.specs.List.{list_any}
use lib.Pointwise.{pointwise}
use Rattle.command_words.specs.Words.{defined_once}
use Rattle.command_words.proofs.Once.{known_more, names, once_more, one_back, twice}
use Rattle.command_words.proofs.definitions.are_defined_once.Goals as goal

pub returns-then-contains : goal.returns-then-contains
returns-then-contains c =
    let i = c.loop-def.invariant in
    let def = c.in-Some.def.now in
    sym (ap defined_once (one_back c.args.defs.now c.loop-def.rest.now c.in-Some.before.now i.0 def i.1 c.in-Some.ensures.cases.0)
    ∙ twice c.in-Some.before.now def i.0 (sym (c.contains.ensures ∙ i.3 def.name) ∙ c.if-contains.true))

pub loop-def-preserved : goal.loop-def-preserved
loop-def-preserved c =
    let i = c.loop-def.invariant in
    let def = c.in-Some.def.now in (
      def ∷ i.0,
      one_back c.args.defs.now c.loop-def.rest.now c.in-Some.before.now i.0 def i.1 c.in-Some.ensures.cases.0,
      once_more def i.0 (sym (c.contains.ensures ∙ i.3 def.name) ∙ c.if-contains.false) i.2,
      λ name. known_more def.name name (names i.0) (list_any (pointwise nat_eq name) c.loop-def.behind.keys)
          (list_any (pointwise nat_eq name) c.insert.new.self.keys)
          (c.in_ok-insert.ensures.updates.0 name
          ∙ ap (λ key. cond (pointwise nat_eq key name) true
          (list_any (pointwise nat_eq name) c.loop-def.behind.keys)) c.in_ok-copy.ensures)
          (i.3 name),
    )
